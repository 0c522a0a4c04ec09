-- Bytes after the card and after an event are not looked at. Assumes nothing.
use Prim.Native.Nat.{ℕ, zero, suc, ◌+◌, ◌-◌, ◌*◌, ◌≤◌, ◌<◌}
use mathlib.Core.Path.{◌≡◌, refl, sym, ap, ap₂, ◌∙◌}
use mathlib.Core.Bool.{Bool, true, false, cond}
use mathlib.Core.List.{List, [], ◌∷◌}
use native.Mathlib.Nat.{zero-add, suc-add}
use native.Mathlib.Omega.{arith}
use borrow.Author.Tests.{ne_eqb, eqb-true, eqb-false, le-ltb, ltb-true, ltb-false}
use lib.Dec.{eqb, ltb}
use lib.ListN.{length, take, drop}
use lib.Seq.{get_or-take, take_all, take-take, take-nil, drop-nil}
use Rattle.num.specs.Refusals.{unless}
use Rattle.chain.specs.Calls.{switch_reply}
use Rattle.cards.specs.declared.station.Station.{Station}
use Rattle.raster.specs.Pixels.{byte_at, pixel_at, unpacked}
use Rattle.events.specs.Events.{head_wanted, card_in, letter_in, count_in, bad_size, kind_in, position_in, frame_wanted, event_wanted, frame_fault, switch_fault}
use Rattle.events.specs.Events.{event_fault}
use Rattle.events.specs.Play.{Outcome, answered, frame_played, called, ending, played_of}
use Rattle.events.specs.Program.{event_bytes, head_bytes}
use Rattle.events.specs.Reading.{Unlooked}
use Rattle.events.specs.Text.{F, S}
use Rattle.events.proofs.Reading.{size, same, head_same, of_frame_all, three, one}
use Rattle.events.proofs.Sizes.{some_wanted}

-- ## Parts of a list

drop-take : (j k : ℕ) (xs : List ℕ) → drop j (take (j + k) xs) ≡ take k (drop j xs)
drop-take zero k xs = ap (λ (n : ℕ). take n xs) (zero-add k)
drop-take (suc j) k [] = rw take-nil (rw drop-nil (sym (take-nil k)))
drop-take (suc j) k (x ∷ xs) = rw suc-add (drop-take j k xs)

unpacked-take : (n m : ℕ) (bytes : List ℕ) → 3 * n ≤ m → unpacked n (take m bytes) ≡ unpacked n bytes
unfolding unpacked
unpacked-take zero m bytes l = refl
unpacked-take (suc n) m bytes l =
    let e : 3 + (m - 3) ≡ m = omega arith in
    let first : pixel_at (take m bytes) 0 ≡ pixel_at bytes 0 = simp (get_or-take m bytes 0 0 (omega arith), get_or-take m bytes 1 0 (omega arith), get_or-take m bytes 2 0 (omega arith)) in
    let rest : drop 3 (take m bytes) ≡ take (m - 3) (drop 3 bytes) = ap (λ (k : ℕ). drop 3 (take k bytes)) (sym e) ∙ drop-take 3 (m - 3) bytes in
    ap₂ (λ (p : ℕ) (ps : List ℕ). p ∷ ps) first (ap (unpacked n) rest ∙ unpacked-take n (m - 3) (drop 3 bytes) (omega arith))

-- ## The card

card_unlooked : (input : List ℕ) → card_in (head_bytes input) ≡ card_in input
unfolding card_in
card_unlooked input = go (ltb (head_wanted input) (length input)) refl
  where
    go : (b : Bool) → ltb (head_wanted input) (length input) ≡ b → card_in (head_bytes input) ≡ card_in input
    go true e =
        let m = ltb-true (head_wanted input) (length input) e in
        let l : head_wanted input ≤ length input = omega arith in
        let w : head_wanted (head_bytes input) ≡ head_wanted input = head_same input (head_wanted input) l (omega (arith, some_wanted input)) in
        let long : ltb (length (head_bytes input)) (head_wanted input) ≡ false = le-ltb (length (head_bytes input)) (head_wanted input) (omega (arith, size input (head_wanted input) l)) in
        let long' : ltb (length input) (head_wanted input) ≡ false = le-ltb (length input) (head_wanted input) l in
        let k : 1 + (head_wanted input - 1) ≡ head_wanted input = omega (arith, some_wanted input) in
        let part : drop 1 (head_bytes input) ≡ take (head_wanted input - 1) (drop 1 input) =
        ap (λ (n : ℕ). drop 1 (take n input)) (sym k) ∙ drop-take 1 (head_wanted input - 1) input in
        simp (w, long, long', part) (take-take (head_wanted input - 1) (head_wanted input - 1) (drop 1 input) (omega arith))
    go false e = ap card_in (take_all (head_wanted input) input (ltb-false (head_wanted input) (length input) e))

-- ## An event

unless_same : (k : ℕ) (s : Station) (words past : List ℕ) (o q : Outcome) → (k ≡ 0 → o ≡ q)
    → unless k (ending s words past) o ≡ unless k (ending s words past) q
unfolding unless
unless_same zero s words past o q h = h refl
unless_same (suc k) s words past o q h = refl

-- what the frame of a longer input wants, by its size
wanted_fine : (input : List ℕ) → 3 ≤ length input → bad_size input ≡ false → frame_wanted input ≡ 3 + 3 * count_in input
unfolding frame_wanted
wanted_fine input l b = simp (le-ltb (length input) 3 l, b)

wanted_switch : (input : List ℕ) → 0 < length input → letter_in input ≡ S → event_wanted input ≡ 3
unfolding event_wanted
wanted_switch input l e =
    let some : length input ≡ 0 → ⊥ = λ z. omega arith in
    simp (ne_eqb (length input) 0 some, e)

by_switch : (bytes : List ℕ) (s : Station) (words past : List ℕ) → letter_in bytes ≡ S
    → called bytes s words past ≡ answered S (switch_reply (kind_in bytes) (eqb (position_in bytes) 1) s) words past
unfolding called
by_switch bytes s words past e = rw e

-- the input goes on after its event, of n bytes
module _ (input : List ℕ) (n : ℕ) (e : event_wanted input ≡ n) (l : n < length input) where
  abbrev bytes : List ℕ
  bytes = take n input

  long : n ≤ length input
  long = omega arith

  some : 0 < n
  some = omega (arith, one input)

  n_long : length bytes ≡ n
  n_long = size input n long

  byte : (i : ℕ) → i < n → byte_at bytes i ≡ byte_at input i
  byte i h = same input n long i h

  module _ (f : letter_in input ≡ F) where
    whole : frame_wanted input ≡ n
    whole = sym (of_frame_all input (omega arith) f) ∙ e

    at_least : 3 ≤ n
    at_least = omega (arith, whole, three input)

    fault_frame : frame_fault bytes ≡ frame_fault input
    unfolding frame_fault
    fault_frame =
        let a : ltb (length bytes) 3 ≡ false = le-ltb (length bytes) 3 (omega (arith, n_long, at_least)) in
        let b : ltb (length input) 3 ≡ false = le-ltb (length input) 3 (omega (arith, at_least)) in
        simp (a, b, byte 1 (omega (arith, at_least)), byte 2 (omega (arith, at_least))) (go (bad_size input) refl)
      where
        go : (b : Bool) → bad_size input ≡ b
            → ◌≡◌ {A = ℕ} (cond b 8 (cond (ltb (length bytes) (3 + 3 * count_in input)) 1 0)) (cond b 8 (cond (ltb (length input) (3 + 3 * count_in input)) 1 0))
        go true s = refl
        go false s =
            let w : 3 + 3 * count_in input ≡ n = sym (wanted_fine input (omega (arith, at_least)) s) ∙ whole in
            let a : ltb (length bytes) (3 + 3 * count_in input) ≡ false = le-ltb (length bytes) (3 + 3 * count_in input) (omega (arith, n_long, w)) in
            let b : ltb (length input) (3 + 3 * count_in input) ≡ false = le-ltb (length input) (3 + 3 * count_in input) (omega (arith, w)) in
            simp (a, b)

    -- a frame without fault wants all its pixels, and no byte after them is one
    pixels : frame_fault input ≡ 0 → unpacked (count_in input) (drop 3 bytes) ≡ unpacked (count_in input) (drop 3 input)
    unfolding frame_fault
    pixels z = go (bad_size input) refl
      where
        go : (b : Bool) → bad_size input ≡ b → unpacked (count_in input) (drop 3 bytes) ≡ unpacked (count_in input) (drop 3 input)
        go true s =
            let a : ltb (length input) 3 ≡ false = le-ltb (length input) 3 (omega (arith, at_least)) in
            let bad : ◌≡◌ {A = ℕ} 8 0 = simp (a, s) at z in
            absurd (omega arith)
        go false s =
            let w : 3 + 3 * count_in input ≡ n = sym (wanted_fine input (omega (arith, at_least)) s) ∙ whole in
            ap (λ (k : ℕ). unpacked (count_in input) (drop 3 (take k input))) (sym w)
            ∙ ap (unpacked (count_in input)) (drop-take 3 (3 * count_in input) input)
            ∙ unpacked-take (count_in input) (3 * count_in input) (drop 3 input) (omega arith)

    frame_unlooked : (s : Station) (words past : List ℕ) → frame_fault input ≡ 0 → frame_played bytes s words past ≡ frame_played input s words past
    frame_unlooked s words past z = simp (byte 1 (omega (arith, at_least)), byte 2 (omega (arith, at_least)), pixels z)

  module _ (f : letter_in input ≡ S) where
    three-bytes : n ≡ 3
    three-bytes = sym e ∙ wanted_switch input (omega arith) f

    fault_switch : switch_fault bytes ≡ switch_fault input
    unfolding switch_fault
    fault_switch =
        let a : ltb (length bytes) 3 ≡ false = le-ltb (length bytes) 3 (omega (arith, n_long, three-bytes)) in
        let b : ltb (length input) 3 ≡ false = le-ltb (length input) 3 (omega (arith, three-bytes)) in
        simp (a, b, byte 2 (omega (arith, three-bytes)))

  -- by the letter: a frame, a switch, or one that takes no byte more
  data Letter : Type 0 where
    frames : letter_in input ≡ F → Letter
    switches : (letter_in input ≡ F → ⊥) → letter_in input ≡ S → Letter
    alone : (letter_in input ≡ F → ⊥) → (letter_in input ≡ S → ⊥) → Letter

  letter : Letter
  letter = frame? (eqb (letter_in input) F) refl
    where
      switch? : (b : Bool) → eqb (letter_in input) S ≡ b → (letter_in input ≡ F → ⊥) → Letter
      switch? true t f = switches f (eqb-true (letter_in input) S t)
      switch? false t f = alone f (eqb-false (letter_in input) S t)

      frame? : (b : Bool) → eqb (letter_in input) F ≡ b → Letter
      frame? true t = frames (eqb-true (letter_in input) F t)
      frame? false t = switch? (eqb (letter_in input) S) refl (eqb-false (letter_in input) F t)

  fault_same : Letter → event_fault bytes ≡ event_fault input
  unfolding event_fault
  fault_same (frames f) = simp (byte 0 some, f) (fault_frame f)
  fault_same (switches f g) = simp (byte 0 some, g) (fault_switch g)
  fault_same (alone f g) = simp (byte 0 some, ne_eqb (letter_in input) F f, ne_eqb (letter_in input) S g)

  called_same : (s : Station) (words past : List ℕ) → Letter → event_fault input ≡ 0 → called bytes s words past ≡ called input s words past
  unfolding event_fault called
  called_same s words past (frames f) z = simp (byte 0 some, f) (frame_unlooked f s words past (simp f at z))
  called_same s words past (switches f g) z =
      by_switch bytes s words past (byte 0 some ∙ g)
      ∙ ap₂ (λ (kind position : ℕ). answered S (switch_reply kind (eqb position 1) s) words past) (byte 1 (omega (arith, three-bytes g))) (byte 2 (omega (arith, three-bytes g)))
      ∙ sym (by_switch input s words past g)
  called_same s words past (alone f g) z = simp (byte 0 some, ne_eqb (letter_in input) F f, ne_eqb (letter_in input) S g)

  longer : (s : Station) (words past : List ℕ) → played_of bytes s words past ≡ played_of input s words past
  unfolding played_of
  longer s words past =
      let a : length bytes ≡ 0 → ⊥ = λ z. omega (arith, n_long, some) in
      let b : length input ≡ 0 → ⊥ = λ z. omega arith in
      simp (ne_eqb (length bytes) 0 a, ne_eqb (length input) 0 b, fault_same letter)
      (unless_same (event_fault input) s words past (called bytes s words past) (called input s words past) (called_same s words past letter))

event_unlooked : (input : List ℕ) (s : Station) (words past : List ℕ) → played_of (event_bytes input) s words past ≡ played_of input s words past
event_unlooked input s words past = go (ltb (event_wanted input) (length input)) refl
  where
    go : (b : Bool) → ltb (event_wanted input) (length input) ≡ b → played_of (event_bytes input) s words past ≡ played_of input s words past
    go true t = longer input (event_wanted input) refl (ltb-true (event_wanted input) (length input) t) s words past
    go false t = ap (λ (bs : List ℕ). played_of bs s words past) (take_all (event_wanted input) input (ltb-false (event_wanted input) (length input) t))

pub unlooked : Unlooked
unlooked = (card_unlooked, event_unlooked)
