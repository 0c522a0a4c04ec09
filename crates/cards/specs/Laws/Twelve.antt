-- A station has places for twelve records: that there are twelve, and that past the twelfth there is none, whatever its n says. Assumes nothing.
use Rattle.std.specs.Prelude.{ℕ, zero, suc, min, List, [], ◌∷◌, map, ◌≡◌, length, take}
use Rattle.std.proofs.Math.Nat.{zero-min, min-zero, suc-min-suc}
use Rattle.std.proofs.Common.{ap, sym, ◌∙◌}
use Rattle.std.proofs.lemmas.List.{length-map}
use Rattle.cards.specs.declared.station.Record.{Record}

-- the length of an array of structs in a struct stands in what owning it tells, under a map
pub unmapped : {X Y : Type 0} (f : X → Y) (l : List X) (n : ℕ) → length (map f l) ≡ n → length l ≡ n
unmapped f l n e = sym (length-map l f) ∙ e

-- past the last record there is none
take_min : (n : ℕ) (l : List Record) → take (min n (length l)) l ≡ take n l
take_min zero l = ap (λ (j : ℕ). take j l) (zero-min (length l))
take_min (suc n) [] = ap (λ (j : ℕ). take {A = Record} j []) (min-zero (suc n))
take_min (suc n) (r ∷ l) = ap (λ (j : ℕ). take j (r ∷ l)) (suc-min-suc n (length l)) ∙ ap (λ (rs : List Record). r ∷ rs) (take_min n l)

pub of_twelve : (n k : ℕ) (l : List Record) → k ≡ min n 12 → length l ≡ 12 → take k l ≡ take n l
of_twelve n k l e twelve = ap (λ (j : ℕ). take j l) (e ∙ ap (min n) (sym twelve)) ∙ take_min n l
