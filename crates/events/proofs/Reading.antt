-- Reading piece by piece, and bytes that are not looked at. Assumes nothing.
use Prim.Native.Nat.{ℕ, zero, suc, ◌+◌, ◌*◌, ◌≤◌, ◌<◌}
use mathlib.Core.Path.{◌≡◌, refl, sym, subst, ◌∙◌}
use mathlib.Core.Bool.{Bool, true, false, cond}
use mathlib.Core.List.{List}
use native.Mathlib.Omega.{arith}
use borrow.Author.Tests.{ne_eqb, eqb-true, eqb-false, lt-ltb, le-ltb, ltb-true, ltb-false}
use lib.Dec.{eqb, ltb}
use lib.ListN.{length, take}
use lib.Seq.{length-take-le, get_or-take}
use Rattle.raster.specs.Pixels.{byte_at}
use Rattle.events.specs.Events.{head_wanted, letter_in, count_in, bad_size, frame_wanted, event_wanted}
use Rattle.events.specs.Reading.{Piecewise, Pieces}
use Rattle.events.specs.Text.{F, S}
use Rattle.events.proofs.Sizes.{some_wanted}

module _ (input : List ℕ) (n : ℕ) (l : n ≤ length input) where
  pub size : length (take n input) ≡ n
  size = length-take-le n input l

  pub same : (i : ℕ) → i < n → byte_at (take n input) i ≡ byte_at input i
  same i h = get_or-take n input i 0 h

  -- ## The head

  pub head_same : 0 < n → head_wanted (take n input) ≡ head_wanted input
  unfolding head_wanted
  head_same h =
      let some : length (take n input) ≡ 0 → ⊥ = λ e. omega (arith, size) in
      let some' : length input ≡ 0 → ⊥ = λ e. omega arith in
      simp (ne_eqb (length (take n input)) 0 some, ne_eqb (length input) 0 some', same 0 h)

  -- ## An event

  frame_same : 3 ≤ n → frame_wanted (take n input) ≡ frame_wanted input
  unfolding frame_wanted
  frame_same h =
      let long : ltb (length (take n input)) 3 ≡ false = le-ltb (length (take n input)) 3 (omega (arith, size)) in
      let long' : ltb (length input) 3 ≡ false = le-ltb (length input) 3 (omega arith) in
      simp (long, long', same 1 (omega arith), same 2 (omega arith))

  frame_short : n < 3 → frame_wanted (take n input) ≡ 3
  unfolding frame_wanted
  frame_short h =
      let short : ltb (length (take n input)) 3 ≡ true = lt-ltb (length (take n input)) 3 (omega (arith, size)) in
      simp short

  -- a letter alone tells all but of a frame
  other_same : 0 < n → (letter_in input ≡ F → ⊥) → event_wanted (take n input) ≡ event_wanted input
  unfolding event_wanted
  other_same h f =
      let some : length (take n input) ≡ 0 → ⊥ = λ e. omega (arith, size) in
      let some' : length input ≡ 0 → ⊥ = λ e. omega arith in
      simp (ne_eqb (length (take n input)) 0 some, ne_eqb (length input) 0 some', same 0 h, ne_eqb (letter_in input) F f)

  of_frame : 0 < n → letter_in input ≡ F → event_wanted (take n input) ≡ frame_wanted (take n input)
  unfolding event_wanted
  of_frame h f =
      let some : length (take n input) ≡ 0 → ⊥ = λ e. omega (arith, size) in
      simp (ne_eqb (length (take n input)) 0 some, same 0 h, f)

-- ## What is wanted of a whole input

pub of_frame_all : (input : List ℕ) → 0 < length input → letter_in input ≡ F → event_wanted input ≡ frame_wanted input
unfolding event_wanted
of_frame_all input h f =
    let some : length input ≡ 0 → ⊥ = λ e. omega arith in
    simp (ne_eqb (length input) 0 some, f)

pub three : (input : List ℕ) → 3 ≤ frame_wanted input
unfolding frame_wanted
three input = go (ltb (length input) 3) (bad_size input)
  where
    go : (a b : Bool) → 3 ≤ cond a 3 (cond b 3 (3 + 3 * count_in input))
    go true b = omega arith
    go false true = omega arith
    go false false = omega arith

pub one : (input : List ℕ) → 1 ≤ event_wanted input
unfolding event_wanted
one input = go (eqb (length input) 0) (eqb (letter_in input) F) (eqb (letter_in input) S)
  where
    go : (a b c : Bool) → 1 ≤ cond a 1 (cond b (frame_wanted input) (cond c 3 1))
    go true b c = omega arith
    go false true c = omega (arith, three input)
    go false false true = omega arith
    go false false false = omega arith

-- ## Piece by piece

-- the first n bytes ask for what the whole asks for, or for three where n is less than that
data Asks (input : List ℕ) (n : ℕ) : Type 0 where
  so : event_wanted (take n input) ≡ event_wanted input → Asks input n
  less : event_wanted (take n input) ≡ 3 → n < 3 → 3 ≤ event_wanted input → Asks input n

asks : (input : List ℕ) (n : ℕ) → n ≤ length input → 0 < n → Asks input n
asks input n l h = frame? (eqb (letter_in input) F) refl
  where
    short? : (b : Bool) → ltb n 3 ≡ b → letter_in input ≡ F → Asks input n
    short? true e f =
        let m = ltb-true n 3 e in
        less (of_frame input n l h f ∙ frame_short input n l m) m (subst (λ (k : ℕ). 3 ≤ k) (sym (of_frame_all input (omega arith) f)) (three input))
    short? false e f =
        so (of_frame input n l h f ∙ frame_same input n l (ltb-false n 3 e) ∙ sym (of_frame_all input (omega arith) f))

    frame? : (b : Bool) → eqb (letter_in input) F ≡ b → Asks input n
    frame? true e = short? (ltb n 3) refl (eqb-true (letter_in input) F e)
    frame? false e = so (other_same input n l h (eqb-false (letter_in input) F e))

event_pieces : Piecewise event_wanted
unfolding event_wanted
event_pieces = record { within = within; all = all }
  where
    in_it : (input : List ℕ) (n : ℕ) → n ≤ event_wanted input → Asks input n → event_wanted (take n input) ≤ event_wanted input
    in_it input n w (so e) = omega arith
    in_it input n w (less e m t) = omega arith

    within : (input : List ℕ) (n : ℕ) → n ≤ length input → n ≤ event_wanted input → event_wanted (take n input) ≤ event_wanted input
    within input zero l w = one input
    within input (suc n) l w = in_it input (suc n) w (asks input (suc n) l (omega arith))

    to_it : (input : List ℕ) (n : ℕ) → n ≤ event_wanted input → event_wanted (take n input) ≤ n → Asks input n → n ≡ event_wanted input
    to_it input n w d (so e) = omega arith
    to_it input n w d (less e m t) = absurd (omega arith)

    all : (input : List ℕ) (n : ℕ) → n ≤ length input → n ≤ event_wanted input → event_wanted (take n input) ≤ n → n ≡ event_wanted input
    all input zero l w d = absurd (omega arith)
    all input (suc n) l w d = to_it input (suc n) w d (asks input (suc n) l (omega arith))

head_pieces : Piecewise head_wanted
unfolding head_wanted
head_pieces = record { within = within; all = all }
  where
    within : (input : List ℕ) (n : ℕ) → n ≤ length input → n ≤ head_wanted input → head_wanted (take n input) ≤ head_wanted input
    within input zero l w = some_wanted input
    within input (suc n) l w = omega (arith, head_same input (suc n) l (omega arith))

    all : (input : List ℕ) (n : ℕ) → n ≤ length input → n ≤ head_wanted input → head_wanted (take n input) ≤ n → n ≡ head_wanted input
    all input zero l w d = absurd (omega arith)
    all input (suc n) l w d = omega (arith, head_same input (suc n) l (omega arith))

pub pieces : Pieces
pieces = (head_pieces, event_pieces)
