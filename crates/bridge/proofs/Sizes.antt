-- What the records hold, in bytes: laid down record by record, and given to records again. Both loops say what the first i of them are. Assumes nothing.
use Prim.Native.Nat.{ℕ, suc, ◌+◌, ◌-◌, ◌*◌, ◌/◌, ◌%◌, ◌<◌, ◌≤◌, min}
use native.Mathlib.Omega.{arith}
use native.Mathlib.Decide.{dec_lt}
use native.Mathlib.Numerals.{add-one}
use mathlib.Core.Path.{◌≡◌, refl, ap, ap₂, sym, ◌∙◌}
use mathlib.Core.List.{List, [], ◌∷◌, ◌++◌, append-nil, append_assoc}
use lib.ListN.{length, get_or, take, drop, set, length-append, length-drop, length-set, length-take, take-append-drop, drop_of_length-le}
use lib.Seq.{sets, sets-eq, length-take-le, take_all, take_at, take-suc, take-suc-set, append_snoc, drop-drop, drop-set-lt, slice-cons}
use lib.Seq.{get_or-drop, get_or_at, get_or-append-add}
use Rattle.num.specs.Held.{Held, sized}
use Rattle.cards.specs.Laws.Twelve.{of_twelve}
use Rattle.cards.specs.Alike.{chain_of}
use Rattle.cards.specs.Typed.{TypedChain}
use Rattle.cards.specs.declared.station.Record.{Record}
use Rattle.cards.specs.declared.station.Station.{Station}
use Rattle.chain.specs.Calls.{forget}
use Rattle.chain.specs.Chain.{with_held}
use Rattle.bridge.specs.State.{held_bytes, sizes_bytes, held_in, hold_in, hold_on}

-- ## Laid down

pub sizes_long : (rs : List Record) → length (sizes_bytes rs) ≡ 4 * length rs
unfolding sizes_bytes
sizes_long [] = refl
sizes_long (r ∷ rs) = omega (arith, sizes_long rs)

pub sizes-append : (rs others : List Record) → sizes_bytes (rs ++ others) ≡ sizes_bytes rs ++ sizes_bytes others
unfolding sizes_bytes
sizes-append [] others = refl
sizes-append (r ∷ rs) others = ap (λ (l : List ℕ). held_bytes r.held ++ l) (sizes-append rs others)

one_size : (r : Record) → sizes_bytes (r ∷ []) ≡ held_bytes r.held
unfolding sizes_bytes
one_size r = refl

-- four bytes are all of a part of four
pub four_put : (held : Held) (part : List ℕ) → length part ≡ 4 → sets part 0 (held_bytes held) ≡ held_bytes held
four_put held part long =
    sets-eq (held_bytes held) part 0 (omega (arith, long))
    ∙ ap (λ (l : List ℕ). held_bytes held ++ l) (drop_of_length-le part {i = 4} (omega (arith, long)))

-- the first i records are laid down
pub record Put (rs : List Record) (i : ℕ) (part : List ℕ) : Type 0 where
  pub near : i ≤ 12
  pub long : length part ≡ 48
  pub done : take (4 * i) part ≡ sizes_bytes (take i rs)

pub put_none : (rs : List Record) (part : List ℕ) → length part ≡ 48 → Put rs 0 part
unfolding sizes_bytes
put_none rs part long = record { near = omega arith; long = long; done = refl }

module _ {rs : List Record} {i : ℕ} {part : List ℕ} (t : Put rs i part) (twelve : length rs ≡ 12) where
  module _ (next : i < 12) where
    -- its part
    pub part_four : length (take (4 * i + 4 - 4 * i) (drop (4 * i) part)) ≡ 4
    part_four =
        let four : 4 * i + 4 - 4 * i ≡ 4 = omega arith in
        rw four (length-take-le 4 (drop (4 * i) part) (omega (arith, length-drop (4 * i) part, t.long)))

    pub put_more : (d : Record) {four : List ℕ} → four ≡ held_bytes (get_or rs i d).held
        → Put rs (i + 1) (take (4 * i) part ++ (four ++ drop (4 * i + 4 - 4 * i) (drop (4 * i) part)))
    put_more d {four} e =
        let front : List ℕ = take (4 * i) part in
        let tail : List ℕ = drop (4 * i + 4 - 4 * i) (drop (4 * i) part) in
        let front_long : length front ≡ 4 * i = length-take-le (4 * i) part (omega (arith, t.long)) in
        let four-long : length four ≡ 4 = ap length e in
        record {
          near = omega arith;
          long =
              omega (
                arith,
                length-append front (four ++ tail),
                length-append four tail,
                length-drop (4 * i + 4 - 4 * i) (drop (4 * i) part),
                length-drop (4 * i) part,
                front_long,
                four-long,
                t.long,
              );
          done =
              ap (take (4 * (i + 1))) (sym (append_assoc front four tail))
              ∙ take_at (front ++ four) tail (4 * (i + 1)) (omega (arith, length-append front four, front_long, four-long))
              ∙ ap₂ (λ (a b : List ℕ). a ++ b) t.done (e ∙ sym (one_size (get_or rs i d)))
              ∙ sym (ap sizes_bytes (rw add-one (take-suc rs i d (omega (arith, twelve)))) ∙ sizes-append (take i rs) (get_or rs i d ∷ []));
        }

  pub put_all : 12 ≤ i → part ≡ sizes_bytes rs
  put_all end = sym (take_all (4 * i) part (omega (arith, t.long))) ∙ t.done ∙ ap sizes_bytes (take_all i rs (omega (arith, twelve)))

-- ## Read

-- as many records, and as typed
pub hold_long : (at : ℕ) (b : List ℕ) (rs : List Record) → length (hold_in at b rs) ≡ length rs
unfolding hold_in
hold_long at b [] = refl
hold_long at b (r ∷ rs) = ap suc (hold_long (at + 4) b rs)

pub hold_typed : (at : ℕ) (b : List ℕ) (rs : List Record) → TypedChain rs → TypedChain (hold_in at b rs)
unfolding hold_in
hold_typed at b [] t = tt
hold_typed at b (r ∷ rs) t = (t.0, hold_typed (at + 4) b rs t.1)

-- the first i of k records hold what the bytes say, the others what they held
pub record Hold (b : List ℕ) (rs : List Record) (k i : ℕ) (records : List Record) : Type 0 where
  pub near : i ≤ k
  pub long : length records ≡ 12
  pub done : take i records ++ hold_in (84 + 4 * i) b (drop i (take k rs)) ≡ hold_in 84 b (take k rs)
  pub left : drop i records ≡ drop i rs

pub hold_none : (b : List ℕ) (rs : List Record) (k : ℕ) → length rs ≡ 12 → Hold b rs k 0 rs
hold_none b rs k long = record { near = omega arith; long = long; done = refl; left = refl }

module _ {b : List ℕ} {rs : List Record} {k i : ℕ} {records : List Record} (t : Hold b rs k i records) (twelve : length rs ≡ 12) (few : k ≤ 12) where
  -- the record at i is as it was
  next-is : (d : Record) → get_or records i d ≡ get_or rs i d
  next-is d =
      let none : i + 0 ≡ i = omega arith in
      ap (λ (j : ℕ). get_or records j d) (sym none) ∙ sym (get_or-drop i records 0 d) ∙ ap (λ (q : List Record). get_or q 0 d) t.left ∙ get_or-drop i rs 0 d
      ∙ ap (λ (j : ℕ). get_or rs j d) none

  pub hold_more : i < k → (d : Record) {held : Held} → held ≡ held_in (84 + 4 * i) b
      → Hold b rs k (i + 1) (set records i (with_held held (get_or records i d)))
  unfolding hold_in
  hold_more next d {held} e =
      let r : Record = with_held held (get_or records i d) in
      let rest : List Record = drop (suc i) (take k rs) in
      let in-records : i < length records = omega (arith, t.long) in
      let at : 84 + 4 * i + 4 ≡ 84 + 4 * (i + 1) = omega arith in
      record {
        near = omega arith;
        long = length-set records i r ∙ t.long;
        done =
            ap (λ (j : ℕ). take j (set records i r) ++ hold_in (84 + 4 * (i + 1)) b (drop j (take k rs))) (add-one i)
            ∙ ap (λ (front : List Record). front ++ hold_in (84 + 4 * (i + 1)) b rest) (take-suc-set records i r in-records)
            ∙ append_snoc (take i records) r (hold_in (84 + 4 * (i + 1)) b rest)
            ∙ ap₂ (λ (q : Record) (j : ℕ). take i records ++ q ∷ hold_in j b rest) (ap₂ with_held e (next-is d)) (sym at)
            ∙ ap (λ (l : List Record). take i records ++ hold_in (84 + 4 * i) b l) (sym (slice-cons i k rs d next (omega (arith, twelve))))
            ∙ t.done;
        left =
            drop-set-lt (i + 1) records i r (omega arith) ∙ sym (drop-drop 1 i records) ∙ ap (drop 1) t.left ∙ drop-drop 1 i rs;
      }

  hold_all : k ≤ i → records ≡ hold_in 84 b (take k rs) ++ drop k rs
  unfolding hold_in
  hold_all end =
      let last : i ≡ k = omega (arith, t.near) in
      let none : drop i (take k rs) ≡ [] = drop_of_length-le (take k rs) {i = i} (omega (arith, length-take-le k rs (omega (arith, twelve)))) in
      sym (take-append-drop i records)
      ∙ ap₂ (λ (front back : List Record). front ++ back)
      (sym (append-nil (take i records)) ∙ ap (λ (l : List Record). take i records ++ hold_in (84 + 4 * i) b l) (sym none) ∙ t.done)
      (t.left ∙ ap (λ (j : ℕ). drop j rs) last)

-- past the twelfth there is none, whatever n says
drop-few : (n k : ℕ) (rs : List Record) → k ≡ min n 12 → length rs ≡ 12 → drop k rs ≡ drop n rs
drop-few n k rs e twelve = go (dec_lt n 12)
  where
    go : Dec (n < 12) → drop k rs ≡ drop n rs
    go (yes h) = let same : k ≡ n = omega arith in ap (λ (j : ℕ). drop j rs) same
    go (no h) = drop_of_length-le rs {i = k} (omega (arith, twelve)) ∙ sym (drop_of_length-le rs {i = n} (omega (arith, twelve)))

pub held_on : (b : List ℕ) (s : Station) (chain : List Record) {i : ℕ} {records : List Record} → Hold b s.records (length chain) i records → chain ≡ chain_of s
    → (length chain ≤ 12) × (length s.records ≡ 12) → length chain ≤ i → records ≡ (hold_on b s).records
held_on b s chain t is few end =
    let count : length chain ≡ min s.n 12 = ap length is ∙ length-take s.n s.records ∙ ap (λ (n : ℕ). min s.n n) few.1 in
    hold_all t few.1 few.0 end
    ∙ ap₂ (λ (first rest : List Record). hold_in 84 b first ++ rest) (of_twelve s.n (length chain) s.records count few.1)
    (drop-few s.n (length chain) s.records count few.1)

-- ## Read back

-- two bytes hold a side
two : (side : ℕ) → side / 256 * 256 + side % 256 ≡ side
two side = omega arith

held_back : (front : List ℕ) (held : Held) (back : List ℕ) (at : ℕ) → length front ≡ at → held_in at (front ++ (held_bytes held ++ back)) ≡ held
held_back front held back at e =
    let l : List ℕ = held_bytes held ++ back in
    let byte : (i : ℕ) → get_or (front ++ l) (at + i) 0 ≡ get_or l i 0 =
    λ i. ap (λ (k : ℕ). get_or (front ++ l) (k + i) 0) (sym e) ∙ get_or-append-add front l i 0 in
    rw (get_or_at front (held.width / 256) _ 0 at e, byte 1, byte 2, byte 3) (ap₂ sized (two held.width) (two held.height))

-- records that hold nothing get what was laid down from them
pub sizes_back : (rs : List Record) (front back : List ℕ) (at : ℕ) → length front ≡ at → hold_in at (front ++ (sizes_bytes rs ++ back)) (forget rs) ≡ rs
unfolding sizes_bytes hold_in
sizes_back [] front back at e = refl
sizes_back (r ∷ rs) front back at e =
    let four : List ℕ = held_bytes r.held in
    let tail : List ℕ = sizes_bytes rs ++ back in
    ap₂ (λ (held : Held) (l : List Record). with_held held r ∷ l) (held_back front r.held tail at e)
    (ap (λ (l : List ℕ). hold_in (at + 4) l (forget rs)) (sym (append_assoc front four tail))
    ∙ sizes_back rs (front ++ four) back (at + 4) (omega (arith, length-append front four, e)))
