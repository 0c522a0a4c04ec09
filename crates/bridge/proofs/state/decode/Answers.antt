-- `bridge::state::decode` meets its contract: no card, other bytes, or a state. Assumes nothing.
use Rattle.std.proofs.Common.{ℕ, List}
use mathlib.Core.Path.{sym, ap, ◌∙◌}
use Rattle.bridge.specs.State.{same_bytes}
use Rattle.bridge.proofs.Decoding.{card_part, no_card, other-bytes, same_bytes_lem}
use Rattle.bridge.proofs.state.decode.Goals as goal

pub returns-in_default : goal.returns-in_default
returns-in_default c = let part = card_part c.args.state.now _ c.told-state c.card_end-end.ensures in
    no_card _ _ c.open.result _ part c.open.ensures c.in_default.is

pub returns-then-not-same : goal.returns-then-not-same
returns-then-not-same c = let part = card_part c.args.state.now _ c.told-state c.card_end-end.ensures in
    other-bytes _ _ c.open.result _ _ _ part c.open.ensures c.in-Ok.is c.hold_in.ensures c.pending_of.ensures
    (ap (λ (l : List ℕ). same_bytes l c.args.state.now) (sym c.encode.ensures) ∙ sym c.same.ensures ∙ c.if-not-same.true)

pub returns : goal.returns
returns c = let part = card_part c.args.state.now _ c.told-state c.card_end-end.ensures in
    same_bytes_lem _ _ c.open.result _ _ _ part c.open.ensures c.in-Ok.is c.hold_in.ensures c.pending_of.ensures
    (ap (λ (l : List ℕ). same_bytes l c.args.state.now) (sym c.encode.ensures) ∙ sym c.same.ensures ∙ c.if-not-same.false)
