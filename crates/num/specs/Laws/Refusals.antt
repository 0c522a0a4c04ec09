-- Laws of refusals: which tests an accepted call has passed, and what a call by its refusal gives. Assumes nothing.
use Prim.Native.Nat.{ℕ, zero, suc, ◌*◌, ◌≤◌, ◌<◌}
use Rattle.std.proofs.Common.{mul-le-mul, arith, ltb-false}
use Rattle.std.specs.Prelude.{Bool, true, false, cond, ◌≡◌, refl, eqb, ltb}
use Rattle.std.proofs.Math.Path.{ap}
use Rattle.std.proofs.lemmas.Bool.{eqb-false}
use Rattle.num.specs.Refusals.{bad_side, unless, number_of}
use Rattle.num.specs.declared.refusal.Refusal.{Refusal}
use Rattle.num.specs.declared.refusal.Refusal.TheVariants as R
use Rattle.num.specs.Laws.Bools.{neither}

-- a refusal's number is not 0
pub number-some : (k : Refusal) → number_of k ≡ 0 → ⊥
number-some R.TornCard e = absurd (omega arith)
number-some R.ForeignCard e = absurd (omega arith)
number-some R.OverfullCard e = absurd (omega arith)
number-some R.UnknownPass e = absurd (omega arith)
number-some R.DoubledPass e = absurd (omega arith)
number-some R.BadSetting e = absurd (omega arith)
number-some R.LongCard e = absurd (omega arith)
number-some R.BadSize e = absurd (omega arith)
number-some R.ShortFrame e = absurd (omega arith)
number-some R.ShortHistory e = absurd (omega arith)
number-some R.ShortScratch e = absurd (omega arith)
number-some R.NotInChain e = absurd (omega arith)
number-some R.BadStation e = absurd (omega arith)
number-some R.ShortCardBuffer e = absurd (omega arith)
number-some R.PassOutOfOrder e = absurd (omega arith)
number-some R.BadCurve e = absurd (omega arith)
number-some R.AlreadyAsked e = absurd (omega arith)
number-some R.NotAsked e = absurd (omega arith)
number-some R.BadArea e = absurd (omega arith)
number-some R.BadSheet e = absurd (omega arith)
number-some R.BadSource e = absurd (omega arith)

-- a test that gives a number other than 0 went by
pub by : (t : Bool) (k rest : ℕ) → 0 < k → cond t k rest ≡ 0 → (t ≡ false) × (rest ≡ 0)
by true k rest p h = absurd (omega arith)
by false k rest p h = (refl, h)

pub side_fine : (x : ℕ) → bad_side x ≡ false → (0 < x) × (x ≤ 1024)
unfolding bad_side
side_fine x e =
    let d = neither (eqb x 0) (ltb 1024 x) e in
    let some : x ≡ 0 → ⊥ = eqb-false x 0 d.0 in
    (omega arith, ltb-false 1024 x d.1)

pub area-fine : {w h : ℕ} → w ≤ 1024 → h ≤ 1024 → h * w ≤ 1048576
area-fine a b = mul-le-mul b a

-- a call by its refusal's number k
module _ {A : Type 0} (k : ℕ) {n : ℕ} (refused : ℕ → A) (done : A) (e : k ≡ n) where
  pub refuses : (k ≡ 0 → ⊥) → refused k ≡ unless n refused done
  unfolding unless
  refuses = go k e
    where
      go : (j : ℕ) → j ≡ n → (j ≡ 0 → ⊥) → refused j ≡ unless n refused done
      go zero h some = absurd (some refl)
      go (suc j) h some = ap (λ (m : ℕ). unless m refused done) h

  pub accepts : k ≡ 0 → done ≡ unless n refused done
  unfolding unless
  accepts none = go k none e
    where
      go : (j : ℕ) → j ≡ 0 → j ≡ n → done ≡ unless n refused done
      go zero h i = ap (λ (m : ℕ). unless m refused done) i
      go (suc j) h i = absurd (omega arith)
