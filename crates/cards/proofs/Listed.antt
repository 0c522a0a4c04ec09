-- What is asked of the kinds of records, as the library's words for lists. Assumes nothing.
use Rattle.std.specs.Prelude.{ℕ, zero, suc, ◌+◌, ◌≡◌, refl, Bool, true, false, cond, List, [], ◌∷◌, length, get_or, eqb}
use Rattle.std.specs.List.{count_by}
use Rattle.std.proofs.Common.{arith}
use Rattle.std.proofs.lemmas.List.Recursion.{is_count_by}
use Rattle.cards.specs.Passes.{kind_of}
use Rattle.cards.specs.Records.{kinds, last_of, times}
use Rattle.cards.specs.declared.station.Record.{Record}

one_more : (b : Bool) (n : ℕ) → cond b 1 0 + n ≡ cond b (1 + n) n
one_more true n = omega arith
one_more false n = omega arith

pub times_count : (k : ℕ) (rs : List Record) → times k (kinds rs) ≡ count_by (λ r. eqb (kind_of r.pass) k) rs
times_count k = is_count_by (λ rs. times k (kinds rs)) _ refl (λ r rs. one_more (eqb (kind_of r.pass) k) (times k (kinds rs)))

pub last_at : (d : ℕ) (rs : List Record) (m : ℕ) (r : Record) → length rs ≡ suc m → last_of d (kinds rs) ≡ kind_of (get_or rs m r).pass
last_at d [] m r e = absurd (omega (arith, e))
last_at d (x ∷ []) zero r e = refl
last_at d (x ∷ []) (suc m) r e = absurd (omega (arith, e))
last_at d (x ∷ y ∷ rs) zero r e = absurd (omega (arith, e))
last_at d (x ∷ y ∷ rs) (suc m) r e = last_at (kind_of x.pass) (y ∷ rs) m r (omega (arith, e))
