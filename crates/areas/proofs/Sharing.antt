-- What a band gives to each rectangle, three words for each, one rectangle after the other. Assumes nothing.
use Prim.Native.Nat.{ℕ, ◌+◌, ◌*◌, ◌/◌, ◌%◌, ◌≤◌, ◌<◌}
use mathlib.Core.Path.{◌≡◌, ap, ap₂, subst, ◌∙◌}
use mathlib.Core.List.{List}
use native.Mathlib.Omega.{arith}
use lib.ListN.{get_or, set}
use Rattle.num.specs.Laws.Rewrite.{Rewritten, more, get_d_rewrite-rest}
use Rattle.areas.specs.Areas.{count, area_at}
use Rattle.areas.specs.Private.{part_of, between, colour_between, Growing, shared_at, Shareable}
use Rattle.areas.specs.declared.area.Area.{Area}
use Rattle.areas.specs.declared.area.Part.{Part}
use Rattle.areas.specs.declared.share.Colour.{Colour}

-- the first i words are done
abbrev pub Shared : (areas : List ℕ) (y : ℕ) (sums : List ℕ) (i : ℕ) (xs ys : List ℕ) → Type 0
Shared areas y sums i xs ys = Rewritten i (λ j v. v + shared_at areas y sums j) xs ys

-- a channel of what rectangle k gets
shared : (areas : List ℕ) (y : ℕ) (sums : List ℕ) (k j c : ℕ) {p : Part} → p ≡ part_of (area_at areas k) y → j ≡ 3 * k + c → c < 3
    → between sums p c ≡ shared_at areas y sums j
shared areas y sums k j c e s l =
    let third : c ≡ j % 3 = omega arith in
    let whole : k ≡ j / 3 = omega arith in
    ap (λ (q : Part). between sums q c) e ∙ ap₂ (λ (m n : ℕ). between sums (part_of (area_at areas n) y) m) third whole

-- what is added is small
few-between : {sums : List ℕ} {p : Part} {r : Colour} → Growing sums p → r ≡ colour_between sums p
    → (r.red ≤ 1152921504606846976) × (r.green ≤ 1152921504606846976) × (r.blue ≤ 1152921504606846976)
unfolding colour_between
few-between g e = rw e (g.small 0 (omega arith), g.small 1 (omega arith), g.small 2 (omega arith))

-- a word that is not done is as it was
small : {areas : List ℕ} {y : ℕ} {sums xs ys : List ℕ} {i : ℕ} → Shareable areas y sums xs → Shared areas y sums i xs ys
    → (j : ℕ) → i ≤ j → j < 3 * count areas → get_or ys j 0 ≤ 2305843009213693952
small {areas} {y} {sums} {xs} {ys} {i} m t j h l =
    let old : get_or ys j 0 ≡ get_or xs j 0 =
    ap (λ (zs : List ℕ). get_or zs j 0) t.done ∙ get_d_rewrite-rest i (λ n v. v + shared_at areas y sums n) xs j 0 h in
    omega (arith, old, m.roomy.small j l)

module _ {areas : List ℕ} {y : ℕ} {sums xs ys : List ℕ} (m : Shareable areas y sums xs) {k : ℕ} (l : k < count areas) (t : Shared areas y sums (3 * k) xs ys)
    {a : Area} (ea : a ≡ area_at areas k) {p : Part} (ep : p ≡ part_of a y) {r : Colour} (s : r ≡ colour_between sums p) where
  e : p ≡ part_of (area_at areas k) y
  e = ep ∙ ap (λ (b : Area). part_of b y) ea

  few : (r.red ≤ 1152921504606846976) × (r.green ≤ 1152921504606846976) × (r.blue ≤ 1152921504606846976)
  few = few-between (rw e (m.growing k l)) s

  -- the result with one word more, with two, and with all three of the rectangle
  abbrev pub reds : List ℕ
  reds = set ys (3 * k) (get_or ys (3 * k) 0 + r.red)

  abbrev pub greens : List ℕ
  greens = set reds (3 * k + 1) (get_or reds (3 * k + 1) 0 + r.green)

  abbrev pub blues : List ℕ
  blues = set greens (3 * k + 2) (get_or greens (3 * k + 2) 0 + r.blue)

  red_shared : Shared areas y sums (3 * k + 1) xs reds
  unfolding colour_between
  red_shared =
      let red : r.red ≡ shared_at areas y sums (3 * k) = ap (λ (q : Colour). q.red) s ∙ shared areas y sums k (3 * k) 0 e (omega arith) (omega arith) in
      more t 0 (omega (arith, t.kept, m.roomy.room)) (ap (λ (n : ℕ). get_or ys (3 * k) 0 + n) red)

  green_shared : Shared areas y sums (3 * k + 2) xs greens
  unfolding colour_between
  green_shared =
      let green : r.green ≡ shared_at areas y sums (3 * k + 1) =
      ap (λ (q : Colour). q.green) s ∙ shared areas y sums k (3 * k + 1) 1 e (omega arith) (omega arith) in
      let two : 3 * k + 1 + 1 ≡ 3 * k + 2 = omega arith in
      subst (λ (i : ℕ). Shared areas y sums i xs greens) two
      (more red_shared 0 (omega (arith, red_shared.kept, m.roomy.room)) (ap (λ (n : ℕ). get_or reds (3 * k + 1) 0 + n) green))

  pub all_shared : Shared areas y sums (3 * (k + 1)) xs blues
  unfolding colour_between
  all_shared =
      let blue : r.blue ≡ shared_at areas y sums (3 * k + 2) =
      ap (λ (q : Colour). q.blue) s ∙ shared areas y sums k (3 * k + 2) 2 e (omega arith) (omega arith) in
      let three : 3 * k + 2 + 1 ≡ 3 * (k + 1) = omega arith in
      subst (λ (i : ℕ). Shared areas y sums i xs blues) three
      (more green_shared 0 (omega (arith, green_shared.kept, m.roomy.room)) (ap (λ (n : ℕ). get_or greens (3 * k + 2) 0 + n) blue))

  -- none of the sums is large
  pub red_fits : get_or ys (3 * k) 0 + r.red ≤ 3458764513820540928
  red_fits = omega (arith, small m t (3 * k) (omega arith) (omega arith), few.0)

  pub green_fits : get_or reds (3 * k + 1) 0 + r.green ≤ 3458764513820540928
  green_fits = omega (arith, small m red_shared (3 * k + 1) (omega arith) (omega arith), few.1)

  pub blue_fits : get_or greens (3 * k + 2) 0 + r.blue ≤ 3458764513820540928
  blue_fits = omega (arith, small m green_shared (3 * k + 2) (omega arith) (omega arith), few.2)
