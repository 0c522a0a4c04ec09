-- A station laid down in bytes: what writing leaves in the 83 bytes of the card, and the bytes around it. Assumes nothing.
use Prim.Native.Nat.{ℕ, ◌+◌, ◌-◌, ◌*◌, ◌≤◌}
use native.Mathlib.Omega.{arith}
use mathlib.Core.Path.{◌≡◌, refl, ap, ap₂, sym, ◌∙◌}
use mathlib.Core.Bool.{Bool, true, false, cond}
use mathlib.Core.List.{List, [], ◌∷◌, ◌++◌, append-nil, append_assoc}
use borrow.Author.Tests.{le-leb}
use lib.Dec.{leb}
use lib.ListN.{length, take, drop, replicate, length-append, length-replicate, replicate-append-replicate, drop_of_length-le}
use lib.Seq.{take_at, drop_at, sets, sets-eq}
use Rattle.std.specs.Prelude.{Result, Ok, Err}
use Rattle.num.specs.Refusals.{number_of}
use Rattle.num.specs.declared.refusal.Refusal.{Refusal}
use Rattle.cards.specs.Answers.{Report, refusal, acceptance, Reply, written}
use Rattle.cards.specs.Laws.Answers.{accepted-not}
use Rattle.cards.specs.Normal.{good_station}
use Rattle.cards.specs.Write.{write_reply, write_into}
use Rattle.cards.specs.Written.{card_of}
use Rattle.cards.specs.declared.station.Station.{Station}
use Rattle.cards.proofs.Longest.{station-short}
use Rattle.bridge.specs.State.{padded, sizes_bytes, kind_byte, position_byte, laid, encoded}
use Rattle.bridge.proofs.Sizes.{sizes_long}

drop-zeros : (k m : ℕ) → k ≤ m → drop {A = ℕ} k (replicate m 0) ≡ replicate (m - k) 0
drop-zeros k m h =
    let e : k + (m - k) ≡ m = omega arith in
    ap (λ (l : List ℕ). drop k l) (ap (λ (j : ℕ). replicate {A = ℕ} j 0) (sym e) ∙ sym (replicate-append-replicate {A = ℕ} k (m - k) 0))
    ∙ drop_at {A = ℕ} (replicate k 0) (replicate (m - k) 0) k (length-replicate {A = ℕ} k 0)

pub padded_long : (card : List ℕ) → length card ≤ 83 → length (padded card) ≡ 83
padded_long card h = omega (arith, length-append card (replicate (83 - length card) 0), length-replicate {A = ℕ} (83 - length card) 0)

-- writing into 83 zeros
abbrev zeros : List ℕ
zeros = replicate 83 0

-- of a good station, whose card has room
pub record Wrote (s : Station) (n : ℕ) (card : List ℕ) : Type 0 where
  pub good : good_station s ≡ true
  pub long : n ≡ length (card_of s)
  pub whole : card ≡ padded (card_of s)
  pub short : n ≤ 83

-- what was answered, in the words of document 01
abbrev told_of : Station → Result ℕ Refusal → Report
told_of s r = (written r s).answer

module _ (s : Station) (r : Result ℕ Refusal) (card : List ℕ) (replied : written r s ≡ write_reply s zeros) (into : card ≡ write_into s zeros) where
  answer : told_of s r ≡ (write_reply s zeros).answer
  answer = ap (λ (q : Reply). q.answer) replied

  good_answer : good_station s ≡ true → told_of s r ≡ acceptance (length (card_of s) ∷ [])
  unfolding write_reply
  good_answer g = answer ∙ rw (g, le-leb (length (card_of s)) 83 (station-short s g)) refl

  good_into : good_station s ≡ true → card ≡ padded (card_of s)
  unfolding write_into
  good_into g =
      into ∙ rw (g, le-leb (length (card_of s)) 83 (station-short s g))
      (ap (λ (l : List ℕ). card_of s ++ l) (drop-zeros (length (card_of s)) 83 (station-short s g)))

  bad_answer : good_station s ≡ false → told_of s r ≡ refusal 13
  unfolding write_reply
  bad_answer g = answer ∙ rw g refl

  bad_into : good_station s ≡ false → card ≡ zeros
  unfolding write_into
  bad_into g = into ∙ rw g refl

  -- refused: a station that is not good
  pub unwritten : (k : Refusal) → r ≡ Err k → 0 ∷ card ++ replicate 50 0 ≡ encoded s
  unfolding encoded
  unwritten k e = go (good_station s) refl
    where
      go : (b : Bool) → good_station s ≡ b → 0 ∷ card ++ replicate 50 0 ≡ cond b (laid s) (replicate 134 0)
      go true g = accepted-not _ (number_of k) (sym (good_answer g) ∙ ap (told_of s) e)
      go false g = ap (λ (l : List ℕ). 0 ∷ l ++ replicate 50 0) (bad_into g)

  pub laid-card : (n : ℕ) → r ≡ Ok n → Wrote s n card
  laid-card n e = go (good_station s) refl
    where
      go : (b : Bool) → good_station s ≡ b → Wrote s n card
      go true g =
          let same : acceptance (n ∷ []) ≡ acceptance (length (card_of s) ∷ []) = sym (ap (told_of s) e) ∙ good_answer g in
          let long : n ≡ length (card_of s) = cc in
          record { good = g; long = long; whole = good_into g; short = omega (arith, long, station-short s g) }
      go false g = accepted-not _ 13 (sym (ap (told_of s) e) ∙ bad_answer g)

-- the length before it and what is kept beside it after it: `rest` is what followed the card
module _ (s : Station) (n : ℕ) (card : List ℕ) (w : Wrote s n card) where
  abbrev rest : List ℕ
  rest = replicate 50 0

  long : length card ≡ 83
  long = ap length w.whole ∙ padded_long (card_of s) (omega (arith, w.long, w.short))

  -- the bytes from the card's first on, and the part of them for the sizes
  pub bytes_long : length (card ++ rest) ≡ 133
  bytes_long = omega (arith, length-append card rest, long)

  pub part_long : length (take 48 (drop 83 (card ++ rest))) ≡ 48
  part_long = ap (λ (l : List ℕ). length (take 48 l)) (drop_at card rest 83 long)

  pub laid-down : length s.records ≡ 12 → {sizes : List ℕ} {k p : ℕ} → sizes ≡ sizes_bytes s.records → k ≡ kind_byte s.pending
      → p ≡ position_byte s.pending
      → n ∷ sets (take 83 (card ++ rest) ++ (sizes ++ drop 48 (drop 83 (card ++ rest)))) 131 (k ∷ p ∷ []) ≡ encoded s
  unfolding encoded
  laid-down twelve {sizes} {k} {p} e kind position =
      let kept : List ℕ = k ∷ p ∷ [] in
      let front : List ℕ = card ++ sizes in
      let sizes-are : length sizes ≡ 48 = ap length e ∙ sizes_long s.records ∙ ap (λ (j : ℕ). 4 * j) twelve in
      let front_long : length front ≡ 131 = omega (arith, length-append card sizes, long, sizes-are) in
      let whole : take 83 (card ++ rest) ++ (sizes ++ drop 48 (drop 83 (card ++ rest))) ≡ front ++ replicate 2 0 =
      ap₂ (λ (a b : List ℕ). a ++ (sizes ++ drop 48 b)) (take_at card rest 83 long) (drop_at card rest 83 long)
      ∙ sym (append_assoc card sizes (replicate 2 0)) in
      ap (λ (l : List ℕ). n ∷ sets l 131 kept) whole
      ∙ rw w.good
      (ap₂ (λ (j : ℕ) (l : List ℕ). j ∷ l) w.long
      (sets-eq kept (front ++ replicate 2 0) 131 (omega (arith, length-append front (replicate 2 0), front_long))
      ∙ ap₂ (λ (a b : List ℕ). a ++ kept ++ b) (take_at front (replicate 2 0) 131 front_long)
      (drop_of_length-le (front ++ replicate 2 0) {i = 133} (omega (arith, length-append front (replicate 2 0), front_long)))
      ∙ append-nil (front ++ kept) ∙ append_assoc card sizes kept
      ∙ ap₂ (λ (a b : List ℕ). a ++ b) w.whole
      (ap₂ (λ (a b : List ℕ). a ++ b) e (ap₂ (λ (i j : ℕ). i ∷ j ∷ []) kind position))))

-- whatever the buffer, no card that is written is long
pub card-short : (s : Station) (buf : List ℕ) (r : Result ℕ Refusal) (n : ℕ) → written r s ≡ write_reply s buf → r ≡ Ok n → n ≤ 83
unfolding write_reply
card-short s buf r n replied e = go (good_station s) (leb (length (card_of s)) (length buf)) refl refl
  where
    answer : acceptance (n ∷ []) ≡ (write_reply s buf).answer
    answer = sym (ap (told_of s) e) ∙ ap (λ (q : Reply). q.answer) replied

    go : (g room : Bool) → good_station s ≡ g → leb (length (card_of s)) (length buf) ≡ room → n ≤ 83
    go false room h k = accepted-not _ 13 (answer ∙ rw h refl)
    go true false h k = accepted-not _ 14 (answer ∙ rw (h, k) refl)
    go true true h k =
        let same : acceptance (n ∷ []) ≡ acceptance (length (card_of s) ∷ []) = answer ∙ rw (h, k) refl in
        let long : n ≡ length (card_of s) = cc in
        omega (arith, long, station-short s h)
