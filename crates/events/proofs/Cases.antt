-- An event, case by case: no byte, a fault, and each letter. Assumes nothing.
use Prim.Native.Nat.{ℕ, ◌≤◌}
use mathlib.Core.Path.{◌≡◌, refl, subst}
use mathlib.Core.Bool.{Bool, true, false, cond}
use mathlib.Core.List.{List}
use lib.Ieee.{Float}
use native.Mathlib.Omega.{arith}
use borrow.Author.Tests.{eq-eqb, ne_eqb, ltb-false}
use lib.Dec.{eqb, ltb}
use lib.ListN.{length}
use Rattle.num.specs.Refusals.{unless, number_of}
use Rattle.num.specs.declared.refusal.Refusal.{Refusal}
use Rattle.num.specs.Laws.Refusals.{number-some, refuses}
use Rattle.cards.specs.Answers.{Report, Reply, reply}
use Rattle.chain.specs.Calls.{reset_reply, switch_reply, step_reply}
use Rattle.cards.specs.declared.station.Station.{Station}
use Rattle.events.specs.Buffers.{Printed}
use Rattle.events.specs.Events.{letter_in, kind_in, position_in, switch_fault, event_fault, Whole}
use Rattle.events.specs.Play.{outcome, refusal_line, spoken, answered, frame_played, called, ending, played_of}
use Rattle.events.specs.Promises.{Gives, went_on}
use Rattle.events.specs.Text.{F, L, R, S}
use Rattle.events.specs.declared.play.Played.{Played}
use Rattle.events.proofs.Sizes.{whole}

-- a letter with bytes of its own, without fault
pub frame_whole : (bytes : List ℕ) → letter_in bytes ≡ F → event_fault bytes ≡ 0 → Whole bytes
unfolding event_fault
frame_whole bytes f e = whole bytes (rw (eq-eqb (letter_in bytes) F f) at e)

pub switch_whole : (bytes : List ℕ) → letter_in bytes ≡ S → event_fault bytes ≡ 0 → 3 ≤ length bytes
unfolding event_fault switch_fault
switch_whole bytes s e =
    let h : switch_fault bytes ≡ 0 = rw s at e in
    go (ltb (length bytes) 3) refl h
  where
    go : (b : Bool) → ltb (length bytes) 3 ≡ b → ◌≡◌ {A = ℕ} (cond b 1 (cond (ltb 1 (position_in bytes)) 1 0)) 0 → 3 ≤ length bytes
    go true t e = absurd (omega arith)
    go false t e = ltb-false _ _ t

-- no fault
pub good : (bytes : List ℕ) (s : Station) (words past : List ℕ) → eqb (length bytes) 0 ≡ false → event_fault bytes ≡ 0
    → played_of bytes s words past ≡ called bytes s words past
unfolding played_of unless
good bytes s words past some none = rw (some, none)

module _ (bytes : List ℕ) (s : Station) (words past : List ℕ) (floats : List Float) (ints : List ℕ) where
  -- all that is lent stays
  still : {u : Station} {text : List ℕ} {more : Bool} {n : ℕ} {out out' : List ℕ} → Printed text n out out'
      → Gives (outcome u words past text more) (record { length = n; more = more }) u words past floats floats ints ints out out'
  still p = record { station = refl; words = refl; past = refl; floats_stay = refl; ints_stay = refl; says = record { goes_on = refl; prints = p } }

  -- no byte
  pub over : (out : List ℕ) → eqb (length bytes) 0 ≡ true
      → Gives (played_of bytes s words past) (record { length = 0; more = false }) s words past floats floats ints ints out out
  unfolding played_of
  over out e = rw e (still (record { size = refl; front = refl }))

  -- a fault
  pub fault : (k : Refusal) (n : ℕ) (out out' : List ℕ) → eqb (length bytes) 0 ≡ false → number_of k ≡ event_fault bytes → Printed (refusal_line (number_of k)) n out out'
      → Gives (played_of bytes s words past) (record { length = n; more = false }) s words past floats floats ints ints out out'
  unfolding played_of
  fault k n out out' some e p =
      let stops = refuses (number_of k) (ending s words past) (called bytes s words past) e (number-some k) in
      rw (some, ← stops) (still p)

  -- a call answered r and left u, which is the definition's q
  made : (letter : ℕ) (r : Report) (u : Station) (q : Reply) (n : ℕ) (out out' : List ℕ) → called bytes s words past ≡ answered letter q words past → reply r u ≡ q
      → Printed (spoken letter r) n out out' → Gives (called bytes s words past) (went_on n) u words past floats floats ints ints out out'
  made letter r u q n out out' c e p =
      rw c (subst (λ (x : Reply). Gives (answered letter x words past) (went_on n) u words past floats floats ints ints out out') e (still p))

  -- each letter
  pub on_frame : (r : Played) (u : Station) (words' past' : List ℕ) (floats' : List Float) (ints' out out' : List ℕ) → letter_in bytes ≡ F
      → Gives (frame_played bytes s words past) r u words' past' floats floats' ints ints' out out'
      → Gives (called bytes s words past) r u words' past' floats floats' ints ints' out out'
  unfolding called
  on_frame r u words' past' floats' ints' out out' f g = rw (eq-eqb (letter_in bytes) F f) g

  pub on_reset : (r : Report) (u : Station) (n : ℕ) (out out' : List ℕ) → letter_in bytes ≡ R → reply r u ≡ reset_reply s → Printed (spoken R r) n out out'
      → Gives (called bytes s words past) (went_on n) u words past floats floats ints ints out out'
  unfolding called
  on_reset r u n out out' l e p = made R r u (reset_reply s) n out out' (rw l) e p

  pub on_switch : (r : Report) (u : Station) (n : ℕ) (out out' : List ℕ) → letter_in bytes ≡ S
      → reply r u ≡ switch_reply (kind_in bytes) (eqb (position_in bytes) 1) s → Printed (spoken S r) n out out'
      → Gives (called bytes s words past) (went_on n) u words past floats floats ints ints out out'
  unfolding called
  on_switch r u n out out' l e p = made S r u (switch_reply (kind_in bytes) (eqb (position_in bytes) 1) s) n out out' (rw l) e p

  pub on_step : (r : Report) (u : Station) (n : ℕ) (out out' : List ℕ) → (letter_in bytes ≡ F → ⊥) → (letter_in bytes ≡ R → ⊥) → (letter_in bytes ≡ S → ⊥)
      → reply r u ≡ step_reply s → Printed (spoken L r) n out out'
      → Gives (called bytes s words past) (went_on n) u words past floats floats ints ints out out'
  unfolding called
  on_step r u n out out' f r' s' e p =
      made L r u (step_reply s) n out out' (rw (ne_eqb (letter_in bytes) F f, ne_eqb (letter_in bytes) R r', ne_eqb (letter_in bytes) S s')) e p
