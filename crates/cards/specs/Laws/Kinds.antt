-- In a normalised chain each kind stands at most as often as it may, so that what the records come to is at most what the ten kinds do together. Assumes
-- nothing.
use Rattle.std.specs.Prelude.{ℕ, suc, ◌+◌, ◌-◌, ◌*◌, ◌≤◌, ◌<◌, ◌≡◌, refl, Bool, true, false, cond, ◌||◌, List, [], ◌∷◌, ◌++◌, eqb}
use Rattle.std.proofs.Common.{suc-mul, mul-le-mul_right, arith, ap, eqb-true, eq-eqb, leb-false}
use Rattle.cards.specs.Normal.{normal_pass, normal_chain}
use Rattle.cards.specs.Passes.{kind_of}
use Rattle.cards.specs.Records.{among, often, times, full}
use Rattle.cards.specs.declared.station.Pass.{Pass}
use Rattle.cards.specs.declared.station.Pass.TheVariants.{Ntsc, Bloom, AutoGradient, Persistence, Lut, Curvature, ColorCorrection, Crt, Vignette}
use Rattle.cards.specs.declared.station.Pass.TheVariants.{Scanlines}
use Rattle.cards.specs.declared.station.Record.{Record}
use Rattle.cards.specs.Laws.Good.{headed}

-- the kinds
abbrev pub kinds : List ℕ
kinds = 1 ∷ 2 ∷ 3 ∷ 4 ∷ 5 ∷ 6 ∷ 7 ∷ 8 ∷ 9 ∷ 10 ∷ []

known : (p : Pass) → among (kind_of p) kinds ≡ true
known (Ntsc a b) = refl
known (Bloom a b c) = refl
known (AutoGradient a b c) = refl
known (Persistence a b) = refl
known (Lut a b) = refl
known (Curvature a) = refl
known (ColorCorrection a b c d) = refl
known (Crt a) = refl
known (Vignette a) = refl
known (Scanlines a) = refl

times_more : (j k : ℕ) (seen : List ℕ) → times j (seen ++ k ∷ []) ≡ times j seen + cond (eqb k j) 1 0
times_more j k [] = omega arith
times_more j k (x ∷ seen) = omega (arith, times_more j k seen)

chained : (x m r t u : ℕ) → x ≤ m + r → r ≤ t → m + t ≤ u → x ≤ u
chained x m r t u a b c = omega arith

-- `most` is what a record of a kind comes to at most
module _ (most : ℕ → ℕ) where
  -- what a kind may still come to after those that are seen
  abbrev left : ℕ → List ℕ → ℕ
  left k seen = (often k - times k seen) * most k

  abbrev pub together : List ℕ → List ℕ → ℕ
  together [] seen = 0
  together (k ∷ ks) seen = left k seen + together ks seen

  one_less : (j k : ℕ) (seen : List ℕ) → left j (seen ++ k ∷ []) ≤ left j seen
  one_less j k seen = mul-le-mul_right (most j) (omega (arith, times_more j k seen))

  all_less : (ks : List ℕ) (k : ℕ) (seen : List ℕ) → together ks (seen ++ k ∷ []) ≤ together ks seen
  all_less [] k seen = omega arith
  all_less (j ∷ ks) k seen = omega (arith, one_less j k seen, all_less ks k seen)

  -- a kind that comes now takes one of its own
  one_spent : (k : ℕ) (seen : List ℕ) → full k seen ≡ false → most k + left k (seen ++ k ∷ []) ≡ left k seen
  one_spent k seen new =
      let some : times k seen < often k = leb-false (often k) (times k seen) new in
      let here : ◌≡◌ {A = ℕ} (cond (eqb k k) 1 0) 1 = rw (eq-eqb k k refl) in
      let fewer : often k - times k seen ≡ suc (often k - times k (seen ++ k ∷ [])) = omega (arith, times_more k k seen) in
      omega (arith, ap (λ (n : ℕ). n * most k) fewer, suc-mul (often k - times k (seen ++ k ∷ [])) (most k))

  spent : (ks : List ℕ) (k : ℕ) (seen : List ℕ) → full k seen ≡ false → among k ks ≡ true → most k + together ks (seen ++ k ∷ []) ≤ together ks seen
  spent [] k seen new e = let z : ◌≡◌ {A = ℕ} 0 1 = cc in omega arith
  spent (j ∷ ks) k seen new e = go (eqb j k) refl e (λ h. spent ks k seen new h)
    where
      go : (b : Bool) → eqb j k ≡ b → (b || among k ks) ≡ true → (among k ks ≡ true → most k + together ks (seen ++ k ∷ []) ≤ together ks seen)
          → most k + (left j (seen ++ k ∷ []) + together ks (seen ++ k ∷ [])) ≤ left j seen + together ks seen
      go true h e ih =
          let same : j ≡ k = eqb-true j k h in
          rw same (omega (arith, one_spent k seen new, all_less ks k seen))
      go false h e ih = omega (arith, one_less j k seen, ih e)

  -- `measure` is what a chain comes to
  pub as_often : (measure : List Record → ℕ) → measure [] ≤ 0
      → ((r : Record) (rs : List Record) → normal_pass r.pass ≡ true → measure (r ∷ rs) ≤ most (kind_of r.pass) + measure rs)
      → (rs : List Record) (seen : List ℕ) → normal_chain seen rs ≡ true → measure rs ≤ together kinds seen
  as_often measure none more [] seen h = omega (arith, none)
  as_often measure none more (r ∷ rs) seen h =
      let k = kind_of r.pass in
      let q = headed seen r rs h in
      chained (measure (r ∷ rs)) (most k) (measure rs) (together kinds (seen ++ k ∷ [])) (together kinds seen) (more r rs q.normal)
      (as_often measure none more rs (seen ++ k ∷ []) q.others) (spent kinds k seen q.new (known r.pass))
