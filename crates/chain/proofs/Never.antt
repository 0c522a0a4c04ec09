-- Refusal 13 never comes, in an own list or in the shared list after it. Assumes nothing.
use Prim.Native.Nat.{ℕ, zero, suc, ◌*◌}
use native.Mathlib.Omega.{arith}
use mathlib.Core.Path.{◌≡◌}
use mathlib.Core.Bool.{Bool, true, false, not, ◌&&◌, ◌||◌, cond}
use mathlib.Core.List.{List, [], ◌∷◌}
use lib.Dec.{ltb}
use lib.Ieee.{Float}
use lib.ListN.{take}
use Rattle.num.specs.Held.{area}
use Rattle.num.specs.Refusals.{bad_side, unless}
use Rattle.passes.specs.ColorCorrection.{good_curve}
use Rattle.chain.specs.Agree.{opened}
use Rattle.cards.specs.Alike.{chain_of}
use Rattle.cards.specs.Answers.{Report, refusal}
use Rattle.cards.specs.Laws.Answers.{accepted-not}
use Rattle.chain.specs.Calls.{float_room, stops, lacks, waits, ask_stops, commit_stops, first_held, depth_stops}
use Rattle.chain.specs.Calls.{shown_by, frame_reply_by, depth_reply}
use Rattle.cards.specs.Card.{accepted, open_of}
use Rattle.chain.specs.Chain.{depth, reads_curve}
use Rattle.chain.specs.Machine.{Call, frame, reset, switch, ask, commit, step, new_depth, State, Seen, call, after, run, saw}
use Rattle.cards.specs.Normal.{good_station}
use Rattle.cards.specs.Records.{kinds, among}
use Rattle.cards.specs.Settings.{one_at_least}
use Rattle.cards.specs.declared.station.Station.{Station}
use Rattle.chain.proofs.Fit.{Fit, opened_fit}
use Rattle.chain.proofs.Sound.{by-stop, call_fit, run_fit, by_lack}

cond_not : (b : Bool) (k x : ℕ) → (k ≡ 13 → ⊥) → (x ≡ 13 → ⊥) → cond b k x ≡ 13 → ⊥
cond_not true k x p q = p
cond_not false k x p q = q

lacks-not : (s : Station) (kind : ℕ) → good_station s ≡ true → lacks s kind ≡ 13 → ⊥
unfolding lacks
lacks-not s kind e = rw e (cond_not (among kind (kinds (chain_of s))) 0 12 (omega arith) (omega arith))

stops-not : (s : Station) (w h u v m i : ℕ) (curve : List Float) → good_station s ≡ true → stops s w h u v m i curve ≡ 13 → ⊥
unfolding stops
stops-not s w h u v m i curve e =
    rw e
    (cond_not (bad_side w || bad_side h) 8 _ (omega arith)
    (cond_not (ltb u (h * w)) 9 _ (omega arith)
    (cond_not (ltb v (depth (chain_of s) * (h * w))) 10 _ (omega arith)
    (cond_not (ltb m (float_room w h) || ltb i (h * w)) 11 _ (omega arith)
    (cond_not (reads_curve (chain_of s) && not (good_curve curve)) 16 0 (omega arith) (omega arith))))))

-- after what the kind refuses
unless_not : (k x : ℕ) → (k ≡ 13 → ⊥) → (x ≡ 13 → ⊥) → unless k (λ k. k) x ≡ 13 → ⊥
unfolding unless
unless_not zero x p q = q
unless_not (suc k) x p q = p

ask_not : (s : Station) (kind : ℕ) → good_station s ≡ true → ask_stops s kind ≡ 13 → ⊥
unfolding ask_stops
ask_not s kind e = unless_not (lacks s kind) _ (lacks-not s kind e) (cond_not (waits s.pending) 17 0 (omega arith) (omega arith))

depth-not : (s : Station) (d history : ℕ) → good_station s ≡ true → depth_stops s d history ≡ 13 → ⊥
unfolding depth_stops
depth-not s d history e =
    unless_not (lacks s 4) _ (lacks-not s 4 e)
    (cond_not (ltb 8 d) 6 _ (omega arith) (cond_not (ltb history (one_at_least d * area (first_held (chain_of s)))) 10 0 (omega arith) (omega arith)))

commit_not : (s : Station) → good_station s ≡ true → commit_stops s ≡ 13 → ⊥
unfolding commit_stops
commit_not s e = rw e (cond_not (waits s.pending) 0 18 (omega arith) (omega arith))

refusal_not : (k : ℕ) → (k ≡ 13 → ⊥) → Path Report (refusal k) (refusal 13) → ⊥
refusal_not k q e = q (cc)

-- to a good station, in one call
pub call-not : (c : Call) (s : State) → good_station s.station ≡ true → (call c s).gives.answer ≡ refusal 13 → ⊥
unfolding call frame_reply_by shown_by depth_reply
call-not (frame w h words l m i curve) s e =
    by-stop (λ r. r.answer ≡ refusal 13 → ⊥) _ s.station words (take l s.history) _
    (refusal_not _ (stops-not s.station w h _ _ m i curve e)) (λ z. accepted-not _ 13)
call-not reset s e = by_lack (λ r. r.answer ≡ refusal 13 → ⊥) _ s.station _ (refusal_not _ (lacks-not s.station 4 e)) (λ z. accepted-not [] 13)
call-not (switch kind on) s e = by_lack (λ r. r.answer ≡ refusal 13 → ⊥) _ s.station _ (refusal_not _ (lacks-not s.station kind e)) (λ z. accepted-not [] 13)
call-not (ask kind on) s e = by_lack (λ r. r.answer ≡ refusal 13 → ⊥) _ s.station _ (refusal_not _ (ask_not s.station kind e)) (λ z. accepted-not [] 13)
call-not commit s e = by_lack (λ r. r.answer ≡ refusal 13 → ⊥) _ s.station _ (refusal_not _ (commit_not s.station e)) (λ z. accepted-not [] 13)
call-not step s e = by_lack (λ r. r.answer ≡ refusal 13 → ⊥) _ s.station _ (refusal_not _ (lacks-not s.station 5 e)) (λ z. accepted-not _ 13)
call-not (new_depth d l) s e =
    by-stop (λ r. r.answer ≡ refusal 13 → ⊥) _ s.station [] (take l s.history) _ (refusal_not _ (depth-not s.station d _ e)) (λ z. accepted-not [] 13)

-- no answer of a list is refusal 13
abbrev pub No-13 : List Seen → Type 0
No-13 [] = Unit {0}
No-13 (x ∷ xs) = (x.answer ≡ refusal 13 → ⊥) × No-13 xs

pub saw-not : (s : State) (cs : List Call) → Fit s.station → No-13 (saw s cs)
unfolding saw
saw-not s [] f = tt
saw-not s (c ∷ cs) f = (call-not c s f.sound, saw-not (after c s) cs (call_fit c s f))

-- in an own list and in the shared list after it refusal 13 never comes
pub never_13 : (card : List ℕ) (s : Station) → open_of card ≡ accepted s → (H : List ℕ) (own cs : List Call)
    → No-13 (saw (opened s H) own) × No-13 (saw (run (opened s H) own) cs)
never_13 card s e H own cs =
    let f = opened_fit card s e in
    (saw-not (opened s H) own f, saw-not (run (opened s H) own) cs (run_fit (opened s H) own f))
