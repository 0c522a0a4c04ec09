-- What no refusal of a new depth tells. Assumes nothing.
use Prim.Native.Nat.{ℕ, zero, suc, ◌*◌, ◌≤◌}
use native.Mathlib.Omega.{arith}
use mathlib.Core.Path.{◌≡◌, refl}
use mathlib.Core.Bool.{Bool, true, false, ◌||◌, cond}
use mathlib.Core.List.{List, [], ◌∷◌, ◌++◌}
use borrow.Author.Tests.{leb-true, le-leb, ltb-false, eqb-false}
use lib.Dec.{leb, ltb, eqb}
use Rattle.num.specs.Const.{c0_0, c0_95}
use Rattle.num.specs.Held.{area}
use Rattle.num.specs.Refusals.{unless}
use Rattle.num.specs.Laws.Bools.{both, false_true}
use Rattle.num.specs.Laws.Refusals.{by}
use Rattle.chain.specs.Calls.{lacks, of_first, first_held, first_depth, depth_stops}
use Rattle.chain.specs.Chain.{depth_of}
use Rattle.cards.specs.Alike.{chain_of}
use Rattle.cards.specs.Normal.{settled, counted, normal_pass, normal_chain}
use Rattle.cards.specs.Passes.{kind_of}
use Rattle.cards.specs.Records.{kinds, among}
use Rattle.cards.specs.Settings.{one_at_least}
use Rattle.cards.specs.declared.station.Record.{Record}
use Rattle.cards.specs.declared.station.Station.{Station}
use Rattle.cards.specs.Laws.Good.{headed}
use Rattle.chain.proofs.PassCases.{by_memory}
use Rattle.chain.specs.Lent.{Found}
use Rattle.cards.specs.Laws.Scans.{past}
use Rattle.chain.proofs.FirstOf.{first-told}
use Rattle.chain.proofs.Replies.{present}
use lib.ListN.{get_or}

-- ## The first persistence

-- in a good chain it has a place
first_deep : (seen : List ℕ) (rs : List Record) → normal_chain seen rs ≡ true → among 4 (kinds rs) ≡ true → 1 ≤ first_depth rs
unfolding of_first normal_pass
first_deep seen [] n e = false_true e
first_deep seen (r ∷ rs) n e =
    let q = headed seen r rs n in
    by_memory (λ p. normal_pass p ≡ true → eqb (kind_of p) 4 || among 4 (kinds rs) ≡ true → 1 ≤ cond (eqb (kind_of p) 4) (depth_of p) (first_depth rs))
    (λ amount k y z. leb-true 1 k (both (leb 1 k) _ (both (settled c0_0 c0_95 amount) _ y).1).0)
    (λ p m y z. rw m.kind (first_deep (seen ++ kind_of r.pass ∷ []) rs q.others (rw m.kind at z)))
    r.pass q.normal e

-- so it has on a station that a reset would be accepted of
pub deep_enough : (s : Station) → lacks s 4 ≡ 0 → 1 ≤ first_depth (chain_of s)
deep_enough s none = let p = present s 4 none in first_deep [] (chain_of s) p.0.normal p.1

pub depth_known : (s : Station) (i : ℕ) → Found 4 s i → lacks s 4 ≡ 0 → 1 ≤ depth_of (get_or s.records i past).pass
depth_known s i t none =
    let e = first-told 4 s.n 0 (λ r. depth_of r.pass) s.records i past t.first t.room in
    omega (arith, deep_enough s none, e)

-- ## A new depth

one-counted : (d : ℕ) → ltb 8 d ≡ false → counted 8 (one_at_least d) ≡ true
one-counted d e = go (eqb d 0) refl
  where
    few : d ≤ 8
    few = ltb-false 8 d e

    go : (b : Bool) → eqb d 0 ≡ b → counted 8 (cond b 1 d) ≡ true
    go true z = refl
    go false z = let other : d ≡ 0 → ⊥ = eqb-false d 0 z in rw (le-leb 1 d (omega arith), le-leb d 8 few)

pub record Deepens (s : Station) (d history : ℕ) : Type 0 where
  pub there : lacks s 4 ≡ 0
  pub few : counted 8 (one_at_least d) ≡ true
  pub room : one_at_least d * area (first_held (chain_of s)) ≤ history

pub deepens : (s : Station) (d history : ℕ) → depth_stops s d history ≡ 0 → Deepens s d history
unfolding depth_stops unless
deepens s d history = go (lacks s 4) refl
  where
    go : (k : ℕ) → lacks s 4 ≡ k → unless k (λ k. k) (cond (ltb 8 d) 6 (cond (ltb history (one_at_least d * area (first_held (chain_of s)))) 10 0)) ≡ 0
        → Deepens s d history
    go zero none e =
        let a = by (ltb 8 d) 6 _ (omega arith) e in
        let b = by (ltb history (one_at_least d * area (first_held (chain_of s)))) 10 0 (omega arith) a.1 in
        record { there = none; few = one-counted d a.0; room = ltb-false history _ b.0 }
    go (suc k) none e = absurd (omega arith)
