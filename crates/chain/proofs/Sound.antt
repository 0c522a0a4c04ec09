-- Every call keeps a good station good, and leaves of it what Fit says. Assumes nothing.
use Prim.Native.Nat.{ℕ, zero, suc, ◌*◌}
use mathlib.Core.Path.{◌≡◌, refl, ◌∙◌}
use mathlib.Core.Bool.{true}
use mathlib.Core.List.{List, [], ◌∷◌}
use lib.Ieee.{Float}
use lib.ListN.{length, take}
use Rattle.num.specs.Held.{sized, fine_held}
use Rattle.num.specs.Refusals.{unless}
use Rattle.num.specs.Laws.Held.{fine-sized}
use Rattle.passes.specs.Painted.{painted}
use Rattle.cards.specs.Alike.{chain_of}
use Rattle.cards.specs.Answers.{refusal, Reply, reply, refusing}
use Rattle.chain.specs.Calls.{Framed, framed, refusing_frame, shown, shown_by, frame_reply_by, depth_reply}
use Rattle.chain.specs.Chain.{chain}
use Rattle.chain.specs.Machine.{Call, frame, reset, switch, ask, commit, step, new_depth, State, call, after, run}
use Rattle.cards.specs.Normal.{held_by}
use Rattle.cards.specs.Settings.{one_at_least}
use Rattle.cards.specs.declared.station.Pending.TheVariants.{Switch}
use Rattle.cards.specs.declared.station.Station.{Station}
use Rattle.cards.specs.Laws.Good.{good}
use Rattle.chain.proofs.Deeper.{deepens}
use Rattle.chain.proofs.Goes.{goes}
use Rattle.chain.proofs.Replies.{present, ask_goes}
use Rattle.chain.proofs.Turns.{chain-passes, chain-holding}
use Rattle.chain.proofs.Fit.{fixed, Fit, After, after_itself, after-held, after-pend, after_reset, after_switch, after_commit, after-step, after-depth, after_fit}

-- ## An accepted frame

after_frame : (w h : ℕ) (s : Station) (words past : List ℕ) (curve : List Float) → Fit s → fine_held (sized w h) ≡ true
    → After s (shown w h s words past curve).station
unfolding shown_by
after_frame w h s words past curve f fine =
    let frame = painted (take (h * w) words) 0 in
    after-held s f (chain w h curve (chain_of s) frame past).records (chain-passes w h curve (chain_of s) frame past) (sized w h) fine
    (chain-holding w h curve (held_by (chain_of s)) (chain_of s) (good s f.sound).holds frame past)

-- ## Each call

-- refused with k, or accepted
pub by_lack : (P : Reply → Type 0) (k : ℕ) (s : Station) (r : Reply) → P (reply (refusal k) s) → (k ≡ 0 → P r) → P (unless k (refusing s) r)
unfolding unless
by_lack P zero s r p q = q refl
by_lack P (suc k) s r p q = p

pub by-stop : (P : Framed → Type 0) (k : ℕ) (s : Station) (words past : List ℕ) (r : Framed) → P (framed (refusal k) s words past) → (k ≡ 0 → P r)
    → P (unless k (refusing_frame s words past) r)
unfolding unless
by-stop P zero s words past r p q = q refl
by-stop P (suc k) s words past r p q = p

pub call-after : (c : Call) (s : State) → Fit s.station → After s.station (call c s).gives.station
unfolding call frame_reply_by depth_reply
call-after (frame w h words l m i curve) s f =
    let past = take l s.history in
    by-stop (λ r. After s.station r.station) _ s.station words past _ (after_itself s.station f)
    (λ z.
    let g = goes s.station w h (length words) (length past) m i curve z in
    after_frame w h s.station words past curve f (fine-sized w h g.wide.0 g.wide.1 g.high.0 g.high.1))
call-after reset s f = by_lack (λ r. After s.station r.station) _ s.station _ (after_itself s.station f) (λ z. after_reset s.station f)
call-after (switch kind on) s f =
    by_lack (λ r. After s.station r.station) _ s.station _ (after_itself s.station f) (λ z. after_switch s.station f kind on)
call-after (ask kind on) s f =
    by_lack (λ r. After s.station r.station) _ s.station _ (after_itself s.station f)
    (λ z. after-pend s.station f (Switch kind on) (present s.station kind (ask_goes s.station kind z)).1)
call-after commit s f =
    by_lack (λ r. After s.station r.station) _ s.station _ (after_itself s.station f) (λ z. after_commit s.station f s.station.pending)
call-after step s f = by_lack (λ r. After s.station r.station) _ s.station _ (after_itself s.station f) (λ z. after-step s.station f)
call-after (new_depth d l) s f =
    let past = take l s.history in
    by-stop (λ r. After s.station r.station) _ s.station [] past _ (after_itself s.station f)
    (λ z. after-depth s.station f (one_at_least d) (deepens s.station d (length past) z).few)

pub call_fit : (c : Call) (s : State) → Fit s.station → Fit (after c s).station
unfolding after
call_fit c s f = after_fit s.station _ f (call-after c s f)

pub run_fit : (s : State) (cs : List Call) → Fit s.station → Fit (run s cs).station
unfolding run
run_fit s [] f = f
run_fit s (c ∷ cs) f = run_fit (after c s) cs (call_fit c s f)

pub run-fixed : (s : State) (cs : List Call) → Fit s.station → fixed (run s cs).station ≡ fixed s.station
unfolding run after
run-fixed s [] f = refl
run-fixed s (c ∷ cs) f = run-fixed (after c s) cs (call_fit c s f) ∙ (call-after c s f).same
