-- The parts of refusal 13's test, and that no kind but persistence stands twice in a good chain. Assumes nothing.
use Rattle.std.specs.Prelude.{ℕ, ◌+◌, ◌≤◌, ◌≡◌, refl, Bool, true, false, not, ◌&&◌, ◌||◌, cond, List, [], ◌∷◌, ◌++◌, leb, ltb, eqb}
use Rattle.std.proofs.Common.{arith, sym, subst, ◌∙◌, leb-true, le-leb, eq-eqb, ne_eqb}
use Rattle.std.proofs.lemmas.Bool.{not-true}
use Rattle.num.specs.Held.{Held, nothing, same_held, fine_held}
use Rattle.cards.specs.Alike.{chain_of}
use Rattle.cards.specs.Normal.{normal_pass, normal_chain, held_by, holding, askable, good_station}
use Rattle.cards.specs.Passes.{kind_of}
use Rattle.cards.specs.Records.{kinds, among, last_of, times, full}
use Rattle.cards.specs.Typed.{Unheld}
use Rattle.cards.specs.declared.station.Pass.{Pass}
use Rattle.cards.specs.declared.station.Record.{Record}
use Rattle.cards.specs.declared.station.Station.{Station}
use Rattle.num.specs.Laws.Bools.{both, false_true, or-second, or_map}

pub record Good (s : Station) : Type 0 where
  pub few : s.n ≤ 12
  pub normal : normal_chain [] (chain_of s) ≡ true
  pub fine : fine_held (held_by (chain_of s)) ≡ true
  -- each record holds nothing, or frames of the one size, where it is persistence that is on
  pub holds : holding (held_by (chain_of s)) (chain_of s) ≡ true
  -- what is asked for is a switch of a pass that is there
  pub asks : askable s.pending (chain_of s) ≡ true

pub good : (s : Station) → good_station s ≡ true → Good s
unfolding good_station
good s e =
    let few = leb s.n 12 in
    let chain = chain_of s in
    let normal = normal_chain [] chain in
    let d = both (few && normal && fine_held (held_by chain) && holding (held_by chain) chain) _ e in
    let a = both (few && normal && fine_held (held_by chain)) _ d.0 in
    let b = both (few && normal) _ a.0 in
    let c = both few normal b.0 in
    record { few = leb-true s.n 12 c.0; normal = c.1; fine = b.1; holds = a.1; asks = d.1 }

pub is_good : (s : Station) → Good s → good_station s ≡ true
unfolding good_station
is_good s g = rw (le-leb s.n 12 g.few, g.normal, g.fine, g.holds, g.asks)

-- nothing may be held by any station
pub nothing-fine : fine_held nothing ≡ true
unfolding fine_held
nothing-fine = refl

-- a chain that holds nothing
pub unheld : (rs : List Record) → Unheld rs → (held_by rs ≡ nothing) × ((size : Held) → holding size rs ≡ true)
unfolding held_by holding same_held
unheld [] u = (refl, λ size. refl)
unheld (r ∷ rs) u = let ih = unheld rs u.1 in rw u.0 ih

-- ## A normalised chain

-- its first pass, and those after it
pub record Headed (seen : List ℕ) (p : Pass) (rs : List Record) : Type 0 where
  pub normal : normal_pass p ≡ true
  pub new : full (kind_of p) seen ≡ false
  pub rises : ltb (kind_of p) (last_of 0 seen) ≡ false
  pub others : normal_chain (seen ++ kind_of p ∷ []) rs ≡ true

pub headed : (seen : List ℕ) (r : Record) (rs : List Record) → normal_chain seen (r ∷ rs) ≡ true → Headed seen r.pass rs
unfolding normal_chain
headed seen r rs e =
    let kind = kind_of r.pass in
    let a = both (normal_pass r.pass && not (full kind seen) && not (ltb kind (last_of 0 seen))) _ e in
    let b = both (normal_pass r.pass && not (full kind seen)) _ a.0 in
    let c = both (normal_pass r.pass) _ b.0 in
    record { normal = c.0; new = not-true _ c.1; rises = not-true _ b.1; others = a.1 }

pub is_headed : (seen : List ℕ) (r : Record) (rs : List Record) → Headed seen r.pass rs → normal_chain seen (r ∷ rs) ≡ true
unfolding normal_chain
is_headed seen r rs q = rw (q.normal, q.new, q.rises, q.others)

-- one that is among them stands there
among-times : (k : ℕ) (seen : List ℕ) → among k seen ≡ true → 1 ≤ times k seen
among-times k [] e = false_true e
among-times k (j ∷ js) e = go (eqb j k) e (among-times k js)
  where
    go : (b : Bool) → b || among k js ≡ true → (among k js ≡ true → 1 ≤ times k js) → 1 ≤ cond b 1 0 + times k js
    go true e ih = omega arith
    go false e ih = omega (arith, ih e)

among-full : (k : ℕ) (seen : List ℕ) → (k ≡ 4 → ⊥) → among k seen ≡ true → full k seen ≡ true
among-full k seen other e = rw (ne_eqb k 4 other) (le-leb 1 (times k seen) (among-times k seen e))

among-last : (k : ℕ) (seen : List ℕ) → among k (seen ++ k ∷ []) ≡ true
among-last k [] = rw (eq-eqb k k refl)
among-last k (j ∷ js) = or-second (eqb j k) _ (among-last k js)

among_more : (k : ℕ) (seen : List ℕ) (j : ℕ) → among k seen ≡ true → among k (seen ++ j ∷ []) ≡ true
among_more k [] j e = false_true e
among_more k (i ∷ is) j e = or_map (eqb i k) _ _ e (among_more k is j)

-- a kind that was seen does not come again, but for persistence
once : (k : ℕ) (seen : List ℕ) (rs : List Record) → (k ≡ 4 → ⊥) → among k seen ≡ true → normal_chain seen rs ≡ true → among k (kinds rs) ≡ false
once k seen [] other a e = refl
once k seen (r ∷ rs) other a e =
    let q = headed seen r rs e in
    let differs : eqb (kind_of r.pass) k ≡ false =
    ne_eqb (kind_of r.pass) k (λ same. false_true (sym (subst (λ (j : ℕ). full j seen ≡ false) same q.new) ∙ among-full k seen other a)) in
    simp (differs, once k (seen ++ kind_of r.pass ∷ []) rs other (among_more k seen (kind_of r.pass) a) q.others)

-- so no other kind stands twice
pub no_second : (seen : List ℕ) (p : Pass) (rs : List Record) → (kind_of p ≡ 4 → ⊥) → Headed seen p rs → among (kind_of p) (kinds rs) ≡ false
no_second seen p rs other q = once (kind_of p) (seen ++ kind_of p ∷ []) rs other (among-last (kind_of p) seen) q.others
