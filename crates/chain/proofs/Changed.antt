-- Records that are changed in switch, preset or depth: what of a pass stays, and the laws of the first record of a kind changed. Assumes nothing.
use Prim.Native.Nat.{ℕ, zero, suc, ◌+◌}
use native.Mathlib.Omega.{arith}
use mathlib.Core.Path.{◌≡◌, refl, ap, ap₂, sym, ◌∙◌}
use mathlib.Core.Bool.{Bool, true, false, not, ◌&&◌, ◌||◌, cond}
use mathlib.Core.List.{List, [], ◌∷◌, ◌++◌, map}
use borrow.Author.Tests.{ltb-true, lt-ltb}
use lib.Dec.{ltb, eqb}
use lib.ListN.{length, take, drop}
use Rattle.num.specs.Const.{c0_0, c0_95, c1_0}
use Rattle.chain.specs.Calls.{on_first, forget, redepth, with_switch, next, stepped_pass, stepped, deep_pass, with_depth}
use Rattle.chain.specs.Chain.{with_held, depth_of}
use Rattle.cards.specs.Normal.{settled, counted, normal_pass, normal_chain, may_hold, holding}
use Rattle.cards.specs.Passes.{kind_of}
use Rattle.cards.specs.Records.{kinds, last_of, full}
use Rattle.cards.specs.declared.station.Pass.{Pass}
use Rattle.cards.specs.declared.station.Record.{Record}
use Rattle.num.specs.Held.{Held, nothing, same_held}
use Rattle.num.specs.Laws.Bools.{both, false_true}
use Rattle.cards.specs.Laws.Good.{Headed, headed, is_headed}
use Rattle.chain.proofs.PassCases.{blank, by_setting, stepped_kind, deep_kind}

-- ## A chain but for switches, preset and depth

blank_kind : (p : Pass) → kind_of (blank p) ≡ kind_of p
blank_kind = by_setting (λ p. kind_of (blank p) ≡ kind_of p) (λ preset strength. refl) (λ amount k. refl) (λ p o. ap kind_of o.whole)

abbrev pub shapes : List Record → List Pass
shapes = map (λ r. blank r.pass)

pub kinds_are : (rs : List Record) → map kind_of (shapes rs) ≡ kinds rs
kinds_are [] = refl
kinds_are (r ∷ rs) = ap₂ (λ (k : ℕ) (ks : List ℕ). k ∷ ks) (blank_kind r.pass) (kinds_are rs)

-- ## A record that is changed

-- in its switch, preset and depth alone
pub record Gentle (f : Record → Record) : Type 0 where
  pub shape : (r : Record) → blank (f r).pass ≡ blank r.pass
  pub normal : (r : Record) → normal_pass r.pass ≡ true → normal_pass (f r).pass ≡ true

pub with_switch_gentle : (on : Bool) → Gentle (with_switch on)
with_switch_gentle on = record { shape = λ r. refl; normal = λ r e. e }

next_small : (preset : ℕ) → ltb preset 7 ≡ true → ltb (next preset) 7 ≡ true
next_small preset e = go (ltb preset 6) refl
  where
    go : (b : Bool) → ltb preset 6 ≡ b → ltb (cond b (preset + 1) 0) 7 ≡ true
    go true t = lt-ltb (preset + 1) 7 (omega (arith, ltb-true preset 6 t))
    go false t = refl

pub stepped_gentle : Gentle stepped
unfolding normal_pass
stepped_gentle =
    record {
      shape = λ r. by_setting (λ p. blank (stepped_pass p) ≡ blank p) (λ preset strength. refl) (λ amount k. refl) (λ p o. ap blank o.unstepped) r.pass;
      normal = λ r. by_setting (λ p. normal_pass p ≡ true → normal_pass (stepped_pass p) ≡ true)
          (λ preset strength e. let d = both (ltb preset 7) (settled c0_0 c1_0 strength) e in rw (next_small preset d.0, d.1))
          (λ amount k e. e) (λ p o e. ap normal_pass o.unstepped ∙ e) r.pass;
    }

pub deep_gentle : (d : ℕ) → counted 8 d ≡ true → Gentle (with_depth d)
unfolding normal_pass
deep_gentle d few =
    record {
      shape = λ r. by_setting (λ p. blank (deep_pass d p) ≡ blank p) (λ preset strength. refl) (λ amount k. refl) (λ p o. ap blank (o.undeepened d)) r.pass;
      normal = λ r. by_setting (λ p. normal_pass p ≡ true → normal_pass (deep_pass d p) ≡ true) (λ preset strength e. e)
          (λ amount k e. rw ((both (settled c0_0 c0_95 amount) (counted 8 k) e).0, few)) (λ p o e. ap normal_pass (o.undeepened d) ∙ e) r.pass;
    }

-- the first record of a kind, changed
module _ (kind : ℕ) (f : Record → Record) (g : Gentle f) where
  same_kind : (r : Record) → kind_of (f r).pass ≡ kind_of r.pass
  same_kind r = sym (blank_kind (f r).pass) ∙ ap kind_of (g.shape r) ∙ blank_kind r.pass

  pub first-shapes : (rs : List Record) → shapes (on_first kind f rs) ≡ shapes rs
  unfolding on_first
  first-shapes [] = refl
  first-shapes (r ∷ rs) = go (eqb (kind_of r.pass) kind) (first-shapes rs)
    where
      go : (b : Bool) → shapes (on_first kind f rs) ≡ shapes rs → shapes (cond b (f r ∷ rs) (r ∷ on_first kind f rs)) ≡ shapes (r ∷ rs)
      go true ih = ap (λ (p : Pass). p ∷ shapes rs) (g.shape r)
      go false ih = ap (λ (l : List Pass). blank r.pass ∷ l) ih

  pub first_normal : (seen : List ℕ) (rs : List Record) → normal_chain seen rs ≡ true → normal_chain seen (on_first kind f rs) ≡ true
  unfolding on_first
  first_normal seen [] e = e
  first_normal seen (r ∷ rs) e =
      let q = headed seen r rs e in
      go (eqb (kind_of r.pass) kind) q (first_normal (seen ++ kind_of r.pass ∷ []) rs q.others)
    where
      go : (b : Bool) → Headed seen r.pass rs → normal_chain (seen ++ kind_of r.pass ∷ []) (on_first kind f rs) ≡ true
          → normal_chain seen (cond b (f r ∷ rs) (r ∷ on_first kind f rs)) ≡ true
      go true q ih =
          is_headed seen (f r) rs
          (record {
            normal = g.normal r q.normal;
            new = ap (λ (k : ℕ). full k seen) (same_kind r) ∙ q.new;
            rises = ap (λ (k : ℕ). ltb k (last_of 0 seen)) (same_kind r) ∙ q.rises;
            others = ap (λ (k : ℕ). normal_chain (seen ++ k ∷ []) rs) (same_kind r) ∙ q.others;
          })
      go false q ih = is_headed seen r (on_first kind f rs) (record { normal = q.normal; new = q.new; rises = q.rises; others = ih })

  -- each record holds what it may, where the change keeps that
  pub first-holding : (size : Held) → ((r : Record) → may_hold size r ≡ true → may_hold size (f r) ≡ true) → (rs : List Record) → holding size rs ≡ true
      → holding size (on_first kind f rs) ≡ true
  unfolding on_first holding
  first-holding size keeps [] e = e
  first-holding size keeps (r ∷ rs) e =
      let d = both (may_hold size r) (holding size rs) e in
      go (eqb (kind_of r.pass) kind) d (first-holding size keeps rs d.1)
    where
      go : (b : Bool) → (may_hold size r ≡ true) × (holding size rs ≡ true) → holding size (on_first kind f rs) ≡ true
          → holding size (cond b (f r ∷ rs) (r ∷ on_first kind f rs)) ≡ true
      go true d ih = rw (keeps r d.0, d.1)
      go false d ih = rw (d.0, ih)

-- ## What a record may hold

-- a record of the same kind and switch that holds the same
held_alike : (size : Held) (r q : Record) → q.on ≡ r.on → kind_of q.pass ≡ kind_of r.pass → q.held ≡ r.held → may_hold size q ≡ may_hold size r
held_alike size r q a b c =
    λ i. same_held (c i) nothing || (same_held (c i) size && (a i && eqb (b i) 4))

pub stepped-holds : (size : Held) (r : Record) → may_hold size r ≡ true → may_hold size (stepped r) ≡ true
stepped-holds size r e = held_alike size r (stepped r) refl (stepped_kind r.pass) refl ∙ e

pub deep_holds : (size : Held) (d : ℕ) (r : Record) → may_hold size r ≡ true → may_hold size (with_depth d r) ≡ true
deep_holds size d r e = held_alike size r (with_depth d r) refl (deep_kind d r.pass) refl ∙ e

-- one that is switched on was off, and holds nothing, or is as it was
pub switch_holds : (size : Held) (on : Bool) (r : Record) → may_hold size r ≡ true → may_hold size (with_switch on r) ≡ true
unfolding same_held
switch_holds size true r e = go (same_held r.held nothing) (same_held r.held size) r.on (eqb (kind_of r.pass) 4) e
  where
    go : (a b c d : Bool) → a || (b && (c && d)) ≡ true → a || (b && (true && d)) ≡ true
    go true b c d e = refl
    go false true true d e = e
    go false true false d e = false_true e
    go false false c d e = e
switch_holds size false r e = refl

-- one that holds nothing
pub idle_holds : (size : Held) (r : Record) → may_hold size (with_held nothing r) ≡ true
unfolding same_held
idle_holds size r = refl

pub forget-holding : (size : Held) (rs : List Record) → holding size (forget rs) ≡ true
unfolding holding
forget-holding size [] = refl
forget-holding size (r ∷ rs) = rw (idle_holds size r, forget-holding size rs)

-- ## Records with the same passes

abbrev pub passes : List Record → List Pass
passes = map (λ r. r.pass)

pub passes-shapes : (rs qs : List Record) → passes rs ≡ passes qs → shapes rs ≡ shapes qs
passes-shapes rs qs e = shapes_of rs ∙ ap (map blank) e ∙ sym (shapes_of qs)
  where
    shapes_of : (rs : List Record) → shapes rs ≡ map blank (passes rs)
    shapes_of [] = refl
    shapes_of (r ∷ rs) = ap (λ (l : List Pass). blank r.pass ∷ l) (shapes_of rs)

pub passes_normal : (seen : List ℕ) (rs qs : List Record) → passes rs ≡ passes qs → normal_chain seen rs ≡ normal_chain seen qs
unfolding normal_chain
passes_normal seen [] [] e = refl
passes_normal seen [] (q ∷ qs) e = cc
passes_normal seen (r ∷ rs) [] e = cc
passes_normal seen (r ∷ rs) (q ∷ qs) e =
    let p : r.pass ≡ q.pass = cc in
    let rest : passes rs ≡ passes qs = cc in
    let kind = kind_of q.pass in
    ap (λ (x : Pass). let k = kind_of x in normal_pass x && not (full k seen) && not (ltb k (last_of 0 seen)) && normal_chain (seen ++ k ∷ []) rs) p
    ∙ ap (λ (b : Bool). normal_pass q.pass && not (full kind seen) && not (ltb kind (last_of 0 seen)) && b) (passes_normal (seen ++ kind ∷ []) rs qs rest)

pub forget-passes : (rs : List Record) → passes (forget rs) ≡ passes rs
forget-passes [] = refl
forget-passes (r ∷ rs) = ap (λ (l : List Pass). r.pass ∷ l) (forget-passes rs)

-- ## A new depth of the first persistence

module _ (d : ℕ) (few : counted 8 d ≡ true) where
  pub redepth-shapes : (rs : List Record) → shapes (redepth d rs) ≡ shapes rs
  unfolding redepth
  redepth-shapes [] = refl
  redepth-shapes (r ∷ rs) = go (eqb (kind_of r.pass) 4) (eqb d (depth_of r.pass)) (redepth-shapes rs)
    where
      go : (a b : Bool) → shapes (redepth d rs) ≡ shapes rs → shapes (cond a (with_depth d r ∷ cond b rs (forget rs)) (r ∷ redepth d rs)) ≡ shapes (r ∷ rs)
      go true true ih = ap (λ (p : Pass). p ∷ shapes rs) ((deep_gentle d few).shape r)
      go true false ih = ap₂ (λ (p : Pass) (l : List Pass). p ∷ l) ((deep_gentle d few).shape r) (passes-shapes (forget rs) rs (forget-passes rs))
      go false b ih = ap (λ (l : List Pass). blank r.pass ∷ l) ih

  pub redepth_normal : (seen : List ℕ) (rs : List Record) → normal_chain seen rs ≡ true → normal_chain seen (redepth d rs) ≡ true
  unfolding redepth
  redepth_normal seen [] e = e
  redepth_normal seen (r ∷ rs) e =
      let q = headed seen r rs e in
      go (eqb (kind_of r.pass) 4) (eqb d (depth_of r.pass)) q (redepth_normal (seen ++ kind_of r.pass ∷ []) rs q.others)
    where
      kind : kind_of (deep_pass d r.pass) ≡ kind_of r.pass
      kind = deep_kind d r.pass

      new : (qs : List Record) → Headed seen r.pass rs → normal_chain (seen ++ kind_of r.pass ∷ []) qs ≡ true → normal_chain seen (with_depth d r ∷ qs) ≡ true
      new qs q others =
          is_headed seen (with_depth d r) qs
          (record {
            normal = (deep_gentle d few).normal r q.normal;
            new = ap (λ (k : ℕ). full k seen) kind ∙ q.new;
            rises = ap (λ (k : ℕ). ltb k (last_of 0 seen)) kind ∙ q.rises;
            others = ap (λ (k : ℕ). normal_chain (seen ++ k ∷ []) qs) kind ∙ others;
          })

      go : (a b : Bool) → Headed seen r.pass rs → normal_chain (seen ++ kind_of r.pass ∷ []) (redepth d rs) ≡ true
          → normal_chain seen (cond a (with_depth d r ∷ cond b rs (forget rs)) (r ∷ redepth d rs)) ≡ true
      go true true q ih = new rs q q.others
      go true false q ih = new (forget rs) q (passes_normal (seen ++ kind_of r.pass ∷ []) (forget rs) rs (forget-passes rs) ∙ q.others)
      go false b q ih = is_headed seen r (redepth d rs) (record { normal = q.normal; new = q.new; rises = q.rises; others = ih })

pub redepth-holding : (d : ℕ) (size : Held) (rs : List Record) → holding size rs ≡ true → holding size (redepth d rs) ≡ true
unfolding redepth holding
redepth-holding d size [] e = e
redepth-holding d size (r ∷ rs) e =
    let p = both (may_hold size r) (holding size rs) e in
    go (eqb (kind_of r.pass) 4) (eqb d (depth_of r.pass)) p (redepth-holding d size rs p.1)
  where
    go : (a b : Bool) → (may_hold size r ≡ true) × (holding size rs ≡ true) → holding size (redepth d rs) ≡ true
        → holding size (cond a (with_depth d r ∷ cond b rs (forget rs)) (r ∷ redepth d rs)) ≡ true
    go true true p ih = rw (deep_holds size d r p.0, p.1)
    go true false p ih = rw (deep_holds size d r p.0, forget-holding size rs)
    go false b p ih = rw (p.0, ih)

-- ## Records in place of others

-- as many others in place of the first n
pub retake : {X : Type 0} (n : ℕ) (l new : List X) → length new ≡ length (take n l) → take n (new ++ drop n l) ≡ new
retake zero l [] e = refl
retake zero l (x ∷ new) e = absurd (omega (arith, e))
retake (suc n) [] [] e = refl
retake (suc n) [] (x ∷ new) e = absurd (omega (arith, e))
retake (suc n) (y ∷ l) [] e = absurd (omega (arith, e))
retake {X} (suc n) (y ∷ l) (x ∷ new) e = ap (λ (xs : List X). x ∷ xs) (retake n l new (omega (arith, e)))
