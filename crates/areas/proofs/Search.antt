-- What the search over the rectangles finds: the next edge of a row, and the part of a row that has all held places. Each law adds one rectangle to those
-- that were looked at. Assumes nothing.
use Prim.Native.Nat.{ℕ, ◌+◌, ◌≤◌, ◌<◌, min, max}
use mathlib.Core.Path.{◌≡◌, refl, sym, ap, ◌∙◌}
use mathlib.Core.Bool.{Bool, true, false, and-false, cond}
use mathlib.Core.List.{List}
use native.Mathlib.Decide.{dec_lt}
use native.Mathlib.Omega.{arith}
use borrow.Author.Tests.{le-leb, lt-leb, lt-ltb, le-ltb}
use lib.Dec.{ltb}
use Rattle.num.specs.Laws.Bools.{false_true}
use Rattle.areas.specs.Areas.{count, area_at, holds, held}
use Rattle.areas.specs.Private.{Inside, Placed, in_row, Edge, Edges, part_of, Spans}
use Rattle.areas.specs.declared.area.Area.{Area}
use Rattle.areas.specs.declared.area.Part.{Part}
use Rattle.areas.proofs.OneOf.{one_of}

-- a rectangle of the list, as it was read, is where that one is
pub placed_at : {w h : ℕ} {areas : List ℕ} {a : Area} → Placed w h areas → (k : ℕ) → k < count areas → a ≡ area_at areas k → Inside w h a
placed_at p k l e = rw e (p.each k l)

pub placed_in : {w h v u : ℕ} {areas : List ℕ} → Placed w h areas → w ≤ v → h ≤ u → Placed v u areas
placed_in p l m = record { each = λ k h. record { across = omega (arith, (p.each k h).across); down = omega (arith, (p.each k h).down) } }

-- ## Edges

pub no_edges : (areas : List ℕ) (y h : ℕ) → y < h → Edges areas 0 y h h
no_edges areas y h l = record { past = l; within = omega arith; each = λ k m. absurd (omega arith) }

edge_sooner : {a : Area} {y e f : ℕ} → Edge a y e → y < f → f ≤ e → Edge a y f
edge_sooner t l m = record { past = l; begins = λ h. omega (arith, t.begins h); ends = λ h. omega (arith, t.ends h) }

pub next_edge : {areas : List ℕ} {n y h e f r : ℕ} {a : Area} → Edges areas n y h e → a ≡ area_at areas n → Edge a y f → r ≡ min e f
    → Edges areas (n + 1) y h r
next_edge {areas} {n} {y} {h} {e} {f} {r} {a} t s g m =
    let past : y < r = omega (arith, t.past, g.past) in
    record { past = past; within = omega (arith, t.within); each = λ k l. go k l past (dec_lt k n) }
  where
    go : (k : ℕ) → k < n + 1 → y < r → Dec (k < n) → Edge (area_at areas k) y r
    go k l past (yes p) = edge_sooner (t.each k p) past (omega arith)
    go k l past (no p) =
        let last : n ≡ k = omega arith in
        rw (← last, ← s) (edge_sooner g past (omega arith))

-- ## The places of a rectangle

module _ (a : Area) (y : ℕ) where
  pub part_in : in_row a y ≡ true → part_of a y ≡ record { from = a.left; to = a.left + a.wide }
  unfolding part_of
  part_in e = simp e

  pub part_out : in_row a y ≡ false → part_of a y ≡ record { from = 0; to = 0 }
  unfolding part_of
  part_out e = simp e

  pub part_fits : {w h : ℕ} → Inside w h a → ((part_of a y).from ≤ (part_of a y).to) × ((part_of a y).to ≤ w)
  part_fits {w} i = go (in_row a y) refl
    where
      go : (b : Bool) → in_row a y ≡ b → ((part_of a y).from ≤ (part_of a y).to) × ((part_of a y).to ≤ w)
      go true e = rw (part_in e) (omega arith, i.across)
      go false e = rw (part_out e) (omega arith, omega arith)

  -- they are those that it holds
  pub part_held : (z : ℕ) → (part_of a y).from ≤ z → z < (part_of a y).to → holds z y a ≡ true
  unfolding holds in_row
  part_held z = go (in_row a y) refl
    where
      go : (b : Bool) → in_row a y ≡ b → (part_of a y).from ≤ z → z < (part_of a y).to → holds z y a ≡ true
      go true e = rw (part_in e) (λ l m. simp (le-leb a.left z l, lt-ltb z (a.left + a.wide) m, e))
      go false e = rw (part_out e) (λ l m. absurd (omega arith))

  pub held_part : (z : ℕ) → holds z y a ≡ true → ((part_of a y).from ≤ z) × (z < (part_of a y).to)
  unfolding holds in_row
  held_part z h = go (in_row a y) refl (dec_lt z a.left) (dec_lt z (a.left + a.wide))
    where
      go : (b : Bool) → in_row a y ≡ b → Dec (z < a.left) → Dec (z < a.left + a.wide) → ((part_of a y).from ≤ z) × (z < (part_of a y).to)
      go true e (no l) (yes m) = rw (part_in e) (omega arith, m)
      go true e (yes l) m = false_true (sym (simp (lt-leb a.left z l)) ∙ h)
      go true e (no l) (no m) = false_true (sym (simp (le-ltb z (a.left + a.wide) (omega arith), and-false)) ∙ h)
      go false e l m = false_true (sym (simp (e, and-false)) ∙ h)

-- ## The part of a row that has all of them

-- those of the first n rectangles
pub record Spanning (areas : List ℕ) (n y w from to : ℕ) : Type 0 where
  pub low : from ≤ w
  pub high : to ≤ w
  pub each : (k z : ℕ) → k < n → holds z y (area_at areas k) ≡ true → (from ≤ z) × (z < to)

pub no_span : (areas : List ℕ) (y w : ℕ) → Spanning areas 0 y w w 0
no_span areas y w = record { low = omega arith; high = omega arith; each = λ k z l. absurd (omega arith) }

module _ {areas : List ℕ} {n y w from to : ℕ} (t : Spanning areas n y w from to) where
  pub next_span : {a : Area} {p : Part} {b f g : ℕ} → a ≡ area_at areas n → Inside w 1024 a → p ≡ part_of a y
      → b ≡ cond (ltb p.from p.to) p.from w → f ≡ min from b → g ≡ max to p.to → Spanning areas (n + 1) y w f g
  next_span {a} {p} {b} {f} {g} ea i ep eb ef eg = record {
    low = omega (arith, t.low);
    high = omega (arith, t.high, ap (λ (q : Part). q.to) ep, part_fits a y i);
    each = λ k z l h. go k z l h (dec_lt k n);
  }
    where
      go : (k z : ℕ) → k < n + 1 → holds z y (area_at areas k) ≡ true → Dec (k < n) → (f ≤ z) × (z < g)
      go k z l h (yes m) = let old = t.each k z m h in (omega arith, omega arith)
      go k z l h (no m) =
          let last : n ≡ k = omega arith in
          let new = held_part a y z (ap (holds z y) (ea ∙ ap (area_at areas) last) ∙ h) in
          let first : p.from ≤ z = omega (arith, ap (λ (q : Part). q.from) ep) in
          let past : z < p.to = omega (arith, ap (λ (q : Part). q.to) ep) in
          let begins : b ≡ p.from = eb ∙ simp (lt-ltb p.from p.to (omega arith)) in
          (omega arith, omega arith)

pub spanned : {areas : List ℕ} {n y w from to f : ℕ} → Spanning areas n y w from to → n ≡ count areas → f ≡ min from to
    → Spans (λ z. held areas z y) w (record { from = f; to = to })
spanned {areas} {n} {y} {w} {from} {to} {f} t e m = record {
  along = omega arith;
  within = t.high;
  each = λ z h.
      one_of (count areas) (λ k. holds z y (area_at areas k)) h (λ k l i. let old = t.each k z (omega arith) i in (omega arith, omega arith));
}

pub spans_in : {p : ℕ → Bool} {v w : ℕ} {s : Part} → Spans p v s → v ≤ w → Spans p w s
spans_in t l = record { along = t.along; within = omega (arith, t.within); each = t.each }
