-- `bridge::calls::hedgemallow_show` meets its contract: a bad source, no state, or the cabinet's frame. Assumes nothing.
use mathlib.Core.Path.{ap, sym, ◌∙◌}
use Rattle.num.specs.Refusals.{code}
use Rattle.bridge.proofs.Replies.{read, unread, source_none, shown_none, shown-some, kept-tells}
use Rattle.bridge.proofs.calls.hedgemallow_show.Goals as goal

pub returns-in-Err : goal.returns-in-Err
returns-in-Err c = source_none _ _ _ _ _ _ _ _ _ _ _ _ _ (ap code (sym c.in-Err.is) ∙ c.source_stops.ensures) c.refusal.ensures

pub returns-in_default-decode : goal.returns-in_default-decode
returns-in_default-decode c = shown_none _ _ _ _ _ _ _ _ _ _ _ (ap code (sym c.in_default.is) ∙ c.source_stops.ensures) _ (unread _ c.decode.result c.decode.ensures _ c.in_default-decode.is) c.refusal-in_default-decode.ensures

pub returns : goal.returns
returns c = shown-some _ _ _ _ _ _ _ _ _ _ _ (ap code (sym c.in_default.is) ∙ c.source_stops.ensures) _ c.show-applied.result _ _ _ _ _ _ _ _
    (read _ c.decode.result c.decode.ensures _ c.in-Ok.is) c.show-applied.ensures (kept-tells _ _ _ _ c.show-applied.result _ _ _ _ c.keep_frame.ensures)
