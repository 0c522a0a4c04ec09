-- Switches that are asked for: what other calls leave of them, what asking leaves of all else, and that committing one is making it. Assumes nothing.
use Prim.Native.Nat.{ℕ}
use mathlib.Core.Path.{◌≡◌, refl, ap, sym}
use mathlib.Core.Bool.{Bool, true, false}
use mathlib.Core.List.{[]}
use lib.ListN.{take}
use Rattle.num.specs.Laws.Bools.{false_true}
use Rattle.cards.specs.Answers.{Reply, reply}
use Rattle.chain.specs.Calls.{pend, switch_reply, commit_reply, shown_by, frame_reply_by, depth_reply}
use Rattle.chain.specs.Claims.{asked, is_asking, Asking}
use Rattle.chain.specs.Machine.{Call, frame, reset, switch, ask, commit, step, new_depth, State, call, after}
use Rattle.cards.specs.Normal.{good_station}
use Rattle.cards.specs.declared.station.Pending.TheVariants.{Nothing, Switch}
use Rattle.chain.proofs.Replies.{commits}
use Rattle.chain.proofs.Sound.{by_lack, by-stop}

-- ## Every other call

stays : (c : Call) (s : State) → is_asking c ≡ false → (after c s).station.pending ≡ s.station.pending
unfolding after call frame_reply_by shown_by depth_reply
stays (frame w h words l m i curve) s e = by-stop (λ r. r.station.pending ≡ s.station.pending) _ s.station words (take l s.history) _ refl (λ z. refl)
stays reset s e = by_lack (λ r. r.station.pending ≡ s.station.pending) _ s.station _ refl (λ z. refl)
stays (switch kind on) s e = by_lack (λ r. r.station.pending ≡ s.station.pending) _ s.station _ refl (λ z. refl)
stays (ask kind on) s e = false_true (sym e)
stays commit s e = false_true (sym e)
stays step s e = by_lack (λ r. r.station.pending ≡ s.station.pending) _ s.station _ refl (λ z. refl)
stays (new_depth d l) s e = by-stop (λ r. r.station.pending ≡ s.station.pending) _ s.station [] (take l s.history) _ refl (λ z. refl)

-- ## Asking

asks-alone : (kind : ℕ) (on : Bool) (s : State) → after (ask kind on) s ≡ asked (after (ask kind on) s).station.pending s
unfolding after call
asks-alone kind on s =
    by_lack (λ r. ◌≡◌ {A = State} (record { station = r.station; history = s.history }) (asked r.station.pending s)) _ s.station _ refl (λ z. refl)

-- ## Committing

module _ (kind : ℕ) (on : Bool) (s : State) (g : good_station s.station ≡ true) (e : s.station.pending ≡ Switch kind on) where
  -- the switch at once, then nothing asked for
  committed-is : commit_reply s.station ≡ reply (switch_reply kind on s.station).answer (pend Nothing (switch_reply kind on s.station).station)
  committed-is = sym (commits s.station g e refl)

  commits_switch : ((call commit s).gives.answer ≡ (call (switch kind on) s).gives.answer) × (after commit s ≡ asked Nothing (after (switch kind on) s))
  unfolding after call
  commits_switch = (
    ap (λ (r : Reply). r.answer) committed-is,
    ap (λ (r : Reply). record { station = r.station; history = s.history }) committed-is,
  )

pub asking : Asking
asking = (stays, asks-alone, commits_switch)
