-- The first record of a kind: how it is found, and what changing it in its place does to the chain. Assumes nothing.
use Prim.Native.Nat.{ℕ, zero, suc, ◌+◌, ◌≤◌, ◌<◌, zero-le, suc-le-suc}
use native.Mathlib.Nat.{le_of_suc-le-suc, not-suc-le-zero}
use native.Mathlib.Omega.{arith}
use mathlib.Core.Path.{◌≡◌, refl, sym, ap, subst, ◌∙◌}
use mathlib.Core.Bool.{Bool, true, false, true≢false, ◌||◌, cond}
use mathlib.Core.List.{List, [], ◌∷◌, ◌++◌, append-nil}
use borrow.Author.Tests.{eqb-true, eqb-false, eq-eqb, ne_eqb}
use lib.Dec.{eqb}
use lib.ListN.{length, take, drop, get_or, set, take-append-drop}
use lib.Seq.{length-take-le}
use Rattle.std.specs.List.{position, position_from}
use Rattle.std.specs.Option.{is_some}
use Rattle.std.proofs.Common.{Some}
use Rattle.std.proofs.lemmas.Iterator.Adapters.{position_from-zero}
use Rattle.std.proofs.lemmas.List.{get_or-take}
use Rattle.std.proofs.lemmas.List.Quantifiers.{position-Some}
use Rattle.chain.specs.Calls.{on_first, of_first, forget, with_depth, redepth, stepped, stepped_pass, preset_of, presets}
use Rattle.chain.specs.Chain.{depth_of}
use Rattle.chain.specs.Lent.{First}
use Rattle.cards.specs.Normal.{normal_chain}
use Rattle.cards.specs.Passes.{kind_of}
use Rattle.cards.specs.Records.{kinds, among}
use Rattle.cards.specs.declared.station.Record.{Record}
use Rattle.num.specs.Laws.Bools.{neither}
use Rattle.cards.specs.Laws.Good.{headed, no_second}
use Rattle.chain.proofs.PassCases.{no_lut}
use Rattle.cards.specs.Laws.Scans.{past}

-- a record that is there is read whatever stands past the end
any_end : (rs : List Record) (i : ℕ) (d e : Record) → i < length rs → get_or rs i d ≡ get_or rs i e
any_end [] i d e l = absurd (not-suc-le-zero l)
any_end (r ∷ rs) zero d e l = refl
any_end (r ∷ rs) (suc i) d e l = any_end rs i d e (le_of_suc-le-suc l)

-- ## Finding it

-- whether the record is of that kind
abbrev pub is_kind : ℕ → Record → Bool
is_kind kind r = eqb (kind_of r.pass) kind

-- a place that is found is that of the first one
pub found : (kind n : ℕ) (rs : List Record) (i : ℕ) → n ≤ length rs → position (is_kind kind) (take n rs) ≡ Some i → First kind n rs i
found kind n rs i l e =
    let at = λ (d : Record). position-Some (is_kind kind) (take n rs) i d e in
    let within : i < n = omega (arith, (at past).0, length-take-le n rs l) in
    record {
      within = within;
      there = λ d. eqb-true _ _ (ap (is_kind kind) (sym (get_or-take n rs i d within)) ∙ (at d).1);
      earlier = λ j d m k. let q = (at d).2 j m in
          true≢false (sym (eq-eqb _ _ k) ∙ ap (is_kind kind) (sym (get_or-take n rs j d (omega arith))) ∙ q);
    }

among_place : (kind i : ℕ) (rs : List Record) → among kind (kinds rs) ≡ is_some (position_from (is_kind kind) i rs)
among_place kind i [] = refl
among_place kind i (r ∷ rs) = go (is_kind kind r) (among_place kind (i + 1) rs)
  where
    go : (b : Bool) → among kind (kinds rs) ≡ is_some (position_from (is_kind kind) (i + 1) rs)
        → (b || among kind (kinds rs)) ≡ is_some (cond b (Some i) (position_from (is_kind kind) (i + 1) rs))
    go true e = refl
    go false e = e

-- a kind is there just where a place is found
pub placed-among : (kind : ℕ) (rs : List Record) → among kind (kinds rs) ≡ is_some (position (is_kind kind) rs)
placed-among kind rs = among_place kind 0 rs ∙ ap is_some (sym (position_from-zero (is_kind kind) rs))

-- among the records after another
later : {kind n : ℕ} {r : Record} {rs : List Record} {i : ℕ} → First kind (suc n) (r ∷ rs) (suc i) → First kind n rs i
later t = record { within = le_of_suc-le-suc t.within; there = t.there; earlier = λ j e m. t.earlier (suc j) e (suc-le-suc m) }

-- ## Changing it in its place

pub first-set : (kind n : ℕ) (f : Record → Record) (rs : List Record) (i : ℕ) (d : Record) → First kind n rs i → n ≤ length rs
    → on_first kind f (take n rs) ++ drop n rs ≡ set rs i (f (get_or rs i d))
unfolding on_first
first-set kind zero f rs i d t l = absurd (not-suc-le-zero t.within)
first-set kind (suc n) f [] i d t l = absurd (not-suc-le-zero l)
first-set kind (suc n) f (r ∷ rs) zero d t l = rw (eq-eqb (kind_of r.pass) kind (t.there d)) (ap (λ (q : List Record). f r ∷ q) (take-append-drop n rs))
first-set kind (suc n) f (r ∷ rs) (suc i) d t l =
    let other : eqb (kind_of r.pass) kind ≡ false = ne_eqb (kind_of r.pass) kind (t.earlier 0 d (suc-le-suc zero-le)) in
    rw other (ap (λ (q : List Record). r ∷ q) (first-set kind n f rs i d (later t) (le_of_suc-le-suc l)))

-- ## Asking it

pub first-told : {X : Type 0} (kind n : ℕ) (x : X) (f : Record → X) (rs : List Record) (i : ℕ) (d : Record) → First kind n rs i → n ≤ length rs
    → of_first kind x f (take n rs) ≡ f (get_or rs i d)
unfolding of_first
first-told kind zero x f rs i d t l = absurd (not-suc-le-zero t.within)
first-told kind (suc n) x f [] i d t l = absurd (not-suc-le-zero l)
first-told kind (suc n) x f (r ∷ rs) zero d t l = rw (eq-eqb (kind_of r.pass) kind (t.there d)) refl
first-told kind (suc n) x f (r ∷ rs) (suc i) d t l =
    let other : eqb (kind_of r.pass) kind ≡ false = ne_eqb (kind_of r.pass) kind (t.earlier 0 d (suc-le-suc zero-le)) in
    rw other (first-told kind n x f rs i d (later t) (le_of_suc-le-suc l))

-- ## A new depth in its place, and those behind it forgotten where it is another

pub first-redepth : (new n : ℕ) (rs : List Record) (i : ℕ) (d : Record) → First 4 n rs i → n ≤ length rs →
    let r = get_or rs i d in
    let put = set rs i (with_depth new r) in
    redepth new (take n rs) ++ drop n rs
    ≡ cond (eqb new (depth_of r.pass)) put (take (suc i) (take n put) ++ forget (drop (suc i) (take n put)) ++ drop n put)
unfolding redepth
first-redepth new zero rs i d t l = absurd (not-suc-le-zero t.within)
first-redepth new (suc n) [] i d t l = absurd (not-suc-le-zero l)
first-redepth new (suc n) (r ∷ rs) zero d t l =
    rw (eq-eqb (kind_of r.pass) 4 (t.there d)) (go (eqb new (depth_of r.pass)))
  where
    go : (b : Bool) → (with_depth new r ∷ cond b (take n rs) (forget (take n rs))) ++ drop n rs
        ≡ cond b (with_depth new r ∷ rs) ((with_depth new r ∷ []) ++ forget (take n rs) ++ drop n rs)
    go true = ap (λ (q : List Record). with_depth new r ∷ q) (take-append-drop n rs)
    go false = refl
first-redepth new (suc n) (r ∷ rs) (suc i) d t l =
    let other : eqb (kind_of r.pass) 4 ≡ false = ne_eqb (kind_of r.pass) 4 (t.earlier 0 d (suc-le-suc zero-le)) in
    rw other (ap (λ (q : List Record). r ∷ q) (first-redepth new n rs i d (later t) (le_of_suc-le-suc l)) ∙ go (eqb new (depth_of (get_or rs i d).pass)))
  where
    put : List Record
    put = set rs i (with_depth new (get_or rs i d))

    go : (b : Bool) → r ∷ cond b put (take (suc i) (take n put) ++ forget (drop (suc i) (take n put)) ++ drop n put)
        ≡ cond b (r ∷ put) ((r ∷ take (suc i) (take n put)) ++ forget (drop (suc i) (take n put)) ++ drop n put)
    go true = refl
    go false = refl

-- ## The one preset

no_presets : (rs : List Record) → among 5 (kinds rs) ≡ false → presets rs ≡ []
unfolding presets
no_presets [] e = refl
no_presets (r ∷ rs) e =
    let d = neither (eqb (kind_of r.pass) 5) (among 5 (kinds rs)) e in
    rw (no_lut r.pass (eqb-false _ _ d.0)).0 (no_presets rs d.1)

-- the one preset after a step
pub one-preset : (seen : List ℕ) (n : ℕ) (rs : List Record) (i : ℕ) (d : Record) → normal_chain seen (take n rs) ≡ true → First 5 n rs i → n ≤ length rs
    → presets (on_first 5 stepped (take n rs)) ≡ preset_of (stepped_pass (get_or rs i d).pass)
unfolding on_first presets
one-preset seen zero rs i d h t l = absurd (not-suc-le-zero t.within)
one-preset seen (suc n) [] i d h t l = absurd (not-suc-le-zero l)
one-preset seen (suc n) (r ∷ rs) zero d h t l =
    let kind = t.there d in
    rw (eq-eqb (kind_of r.pass) 5 kind)
    (ap (λ (q : List ℕ). preset_of (stepped_pass r.pass) ++ q) (no_presets (take n rs) (subst (λ (k : ℕ). among k (kinds (take n rs)) ≡ false) kind (no_second seen r.pass (take n rs) (λ e. absurd (omega arith)) (headed seen r (take n rs) h))))
    ∙ append-nil _)
one-preset seen (suc n) (r ∷ rs) (suc i) d h t l =
    let not-5 = t.earlier 0 d (suc-le-suc zero-le) in
    let other : eqb (kind_of r.pass) 5 ≡ false = ne_eqb (kind_of r.pass) 5 not-5 in
    rw (other, (no_lut r.pass not-5).0) (one-preset (seen ++ kind_of r.pass ∷ []) n rs i d (headed seen r (take n rs) h).others (later t) (le_of_suc-le-suc l))
