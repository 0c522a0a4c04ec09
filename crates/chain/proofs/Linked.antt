-- What every call but a frame makes of two linked chains, and what such chains have in common. Assumes nothing.
use Prim.Native.Nat.{ℕ, ◌+◌, ◌*◌, ◌≤◌, zero-le}
use native.Mathlib.Nat.{zero-mul, mul-zero}
use native.Mathlib.Omega.{arith}
use mathlib.Core.Path.{◌≡◌, refl, ap, ap₂, sym, subst, subst₂, ◌∙◌}
use mathlib.Core.Bool.{Bool, true, false, ◌&&◌, ◌||◌, cond, and-false}
use mathlib.Core.List.{List, [], ◌∷◌}
use borrow.Author.Tests.{eqb-true, eqb-false}
use lib.Dec.{eqb}
use lib.ListN.{take, drop}
use Rattle.num.specs.Held.{Held, nothing, area, same_held}
use Rattle.num.specs.Laws.Bools.{both, neither, false_true}
use Rattle.num.specs.Laws.Held.{same_held_lem}
use Rattle.chain.specs.Calls.{on_first, forget, with_switch, stepped, step_lut, deep_pass, with_depth, redepth, first_held, first_depth, of_first}
use Rattle.chain.specs.Chain.{with_held, depth_of, depth, depth_on, reads, reads_curve}
use Rattle.cards.specs.Normal.{glows, persists, may_hold, holding}
use Rattle.cards.specs.Passes.{kind_of}
use Rattle.cards.specs.Records.{kinds}
use Rattle.cards.specs.declared.station.Pass.{Pass}
use Rattle.cards.specs.declared.station.Record.{Record}
use Rattle.chain.proofs.Links.{Link, idle, blind, near, Links, last, link, Normals, other}
use Rattle.chain.proofs.PassCases.{by_memory, stepped_kind, stepped-depth, deep_kind}
use Rattle.chain.proofs.Turns.{Glow, glow, glow_deep}

-- ## What is due

-- what is due on the way is due at the end
pub links_due : {H G : List ℕ} {k off e : ℕ} {rs qs : List Record} → Links H G k off e rs qs → e ≤ k
links_due (last le) = le
links_due {k = k} {e = e} (link u l rest) = go l (links_due rest)
  where
    go : {H G : List ℕ} {off : ℕ} {r : Record} {b : Held} → Link H G off e u r b → u ≤ k → e ≤ k
    go (idle i ue hb) le = omega arith
    go (blind x ue) le = omega arith
    go (near x j ez ue hb q) le = omega arith

-- more may be due at the end
pub links_more : {H G : List ℕ} {k off e : ℕ} {rs qs : List Record} (n : ℕ) → k ≤ n → Links H G k off e rs qs → Links H G n off e rs qs
links_more {k = k} {e = e} n le (last h) = let h' : e ≤ n = omega arith in last h'
links_more n le (link u l rest) = link u l (links_more n le rest)

-- and less before
links_lower : {H G : List ℕ} {k off u : ℕ} {rs qs : List Record} (e : ℕ) → e ≤ u → Links H G k off u rs qs → Links H G k off e rs qs
links_lower {k = k} {u = u} e le (last h) = let h' : e ≤ k = omega arith in last h'
links_lower {u = u} e le (link v (idle i ue hb) rest) = link e (idle i refl hb) (links_lower e (omega arith) rest)
links_lower {u = u} e le (link v (blind x ue) rest) = link (e + x.depth) (blind x refl) (links_lower (e + x.depth) (omega arith) rest)
links_lower {u = u} e le (link v (near x j ez ue hb q) rest) = let z : e ≡ 0 = omega arith in link v (near x j z ue hb q) rest

-- where nothing is due, the chains are one
pub links_one : {H G : List ℕ} {off e : ℕ} {rs qs : List Record} → Normals rs → Links H G 0 off e rs qs → rs ≡ qs
links_one nm (last le) = refl
links_one nm (link u {r = r} {b = b} l rest) =
    ap₂ (λ (x : Record) (y : List Record). x ∷ y) (go l (links_due rest)) (links_one nm.1 rest)
  where
    go : {H G : List ℕ} {off e : ℕ} → Link H G off e u r b → u ≤ 0 → r ≡ with_held b r
    go (idle i ue hb) le = ap (λ (x : Held). with_held x r) hb
    go (blind x ue) le = absurd (omega (arith, (glow_deep r nm.0 x).1))
    go (near x j ez ue hb q) le = ap (λ (x : Held). with_held x r) hb

-- ## What two linked chains have in common

-- all that goes by the records one after the other and not by what they hold
links_same : {X : Type 0} (F : List Record → X) (step : Record → X → X) → ((r : Record) (rs : List Record) → F (r ∷ rs) ≡ step r (F rs))
    → ((r : Record) (b : Held) (x : X) → step r x ≡ step (with_held b r) x)
    → {H G : List ℕ} {k off e : ℕ} {rs qs : List Record} → Links H G k off e rs qs → F rs ≡ F qs
links_same F step f g (last le) = refl
links_same F step f g (link u {r = r} {b = b} {rs = rs} {qs = qs} l rest) =
    f r rs ∙ ap (step r) (links_same F step f g rest) ∙ g r b (F qs) ∙ sym (f (with_held b r) qs)

module _ {H G : List ℕ} {k off e : ℕ} {rs qs : List Record} (ls : Links H G k off e rs qs) where
  pub links_kinds : kinds rs ≡ kinds qs
  links_kinds = links_same kinds (λ r ks. kind_of r.pass ∷ ks) (λ r rs. refl) (λ r b ks. refl) ls

  pub links_on : persists rs ≡ persists qs
  unfolding persists
  links_on = links_same persists (λ r x. glows r || x) (λ r rs. refl) (λ r b x. refl) ls

  pub links_depth : depth rs ≡ depth qs
  unfolding depth
  links_depth = links_same depth (λ r n. depth_of r.pass + n) (λ r rs. refl) (λ r b n. refl) ls

  pub links_depth-on : depth_on rs ≡ depth_on qs
  unfolding depth_on
  links_depth-on = links_same depth_on (λ r n. cond r.on (depth_of r.pass) 0 + n) (λ r rs. refl) (λ r b n. refl) ls

  pub links_reads : reads_curve rs ≡ reads_curve qs
  unfolding reads_curve
  links_reads = links_same reads_curve (λ r x. reads r.pass || x) (λ r rs. refl) (λ r b x. refl) ls

  pub links_forget : forget rs ≡ forget qs
  links_forget = links_same forget (λ r l. with_held nothing r ∷ l) (λ r rs. refl) (λ r b l. refl) ls

-- ## Nothing is held, or no persistence is on

none_held : (H G : List ℕ) (off j : ℕ) (a : Held) → a ≡ nothing → take (j * area a) (drop (off * area a) H) ≡ take (j * area a) (drop (off * area a) G)
none_held H G off j a e = rw (e, mul-zero j)

-- persistence that holds nothing has no place to differ in
none_near : {H G : List ℕ} {off u : ℕ} {r : Record} {b : Held} → Glow r → u ≡ 0 → r.held ≡ nothing → r.held ≡ b → Link H G off 0 u r b
none_near {H} {G} {off} {u} {r} x z n hb = near x x.depth refl (omega arith) hb (none_held H G off x.depth r.held n)

-- after a reset nothing is due, whatever the buffers hold
pub links_forgotten : {H G : List ℕ} {k off e : ℕ} {rs qs : List Record} (H' G' : List ℕ) (start : ℕ) → Links H G k off e rs qs
    → Links H' G' 0 start 0 (forget rs) (forget qs)
links_forgotten H' G' start (last le) = let z : 0 ≤ 0 = omega arith in last z
links_forgotten {H} {G} {off = off} {e = e} H' G' start (link u {r = r} {b = b} l rest) = link 0 (go l) (links_forgotten H' G' (start + depth_of r.pass) rest)
  where
    go : Link H G off e u r b → Link H' G' start 0 0 (with_held nothing r) nothing
    go (idle i ue hb) = idle i refl refl
    go (blind x ue) = none_near (other r nothing x) refl refl refl
    go (near x j ez ue hb q) = none_near (other r nothing x) refl refl refl

glows-not : {A : Type 0} (r : Record) → Glow r → glows r ≡ false → A
glows-not r x g = let z : false ≡ true = sym g ∙ ap₂ (λ (o : Bool) (p : Pass). o && eqb (kind_of p) 4) x.is-on x.is in false_true z

-- where no persistence is on nothing is due
pub links_off : {H G : List ℕ} {k off e : ℕ} {rs qs : List Record} → persists rs ≡ false → Links H G k off e rs qs → Links H G 0 off 0 rs qs
unfolding persists
links_off i (last le) = let z : 0 ≤ 0 = omega arith in last z
links_off i (link u {r = r} {b = b} {rs = rs} l rest) =
    let d = neither (glows r) (persists rs) i in
    link 0 (go d.0 l) (links_off d.1 rest)
  where
    go : {H G : List ℕ} {off e : ℕ} → glows r ≡ false → Link H G off e u r b → Link H G off 0 0 r b
    go g (idle i ue hb) = idle i refl hb
    go g (blind x ue) = glows-not r x g
    go g (near x j ez ue hb q) = glows-not r x g

-- one that is no persistence that is on holds nothing
pub idle_nothing : (size : Held) (r : Record) → glows r ≡ false → may_hold size r ≡ true → r.held ≡ nothing
idle_nothing size r g e = same_held_lem r.held nothing (go (same_held r.held nothing) (same_held r.held size) (glows r) g e)
  where
    go : (a b c : Bool) → c ≡ false → a || (b && c) ≡ true → a ≡ true
    go true b c z e = refl
    go false true c z e = false_true (sym z ∙ e)
    go false false c z e = false_true e

-- ## The start

idle_due : (r : Record) → glows r ≡ false → cond r.on (depth_of r.pass) 0 ≡ 0
idle_due r g = go r.on g
  where
    go : (b : Bool) → b && eqb (kind_of r.pass) 4 ≡ false → cond b (depth_of r.pass) 0 ≡ 0
    go true z = by_memory (λ p. eqb (kind_of p) 4 ≡ false → depth_of p ≡ 0) (λ amount k y. false_true (sym y)) (λ p m y. m.no_depth) r.pass z
    go false z = refl

-- of two chains alike but for what they hold, as much is due as the depths of those that are on
pub links_start : (H G : List ℕ) (off e : ℕ) (size other-size : Held) (rs qs : List Record) → forget rs ≡ forget qs
    → holding size rs ≡ true → holding other-size qs ≡ true → Links H G (e + depth_on rs) off e rs qs
unfolding depth_on holding
links_start H G off e a b [] [] s f g = let z : e ≤ e + 0 = omega arith in last z
links_start H G off e a b [] (q ∷ qs) s f g = let z : false ≡ true = cc in false_true z
links_start H G off e a b (r ∷ rs) [] s f g = let z : false ≡ true = cc in false_true z
links_start H G off e a b (r ∷ rs) (q ∷ qs) s f g =
    let fs = both (may_hold a r) (holding a rs) f in
    let gs = both (may_hold b q) (holding b qs) g in
    subst (λ (x : Record). Links H G (e + (cond r.on (depth_of r.pass) 0 + depth_on rs)) off e (r ∷ rs) (x ∷ qs)) twin
    (go (glows r) refl fs.0 gs.0 (λ u. links_start H G (off + depth_of r.pass) u a b rs qs (cc) fs.1 gs.1))
  where
    same : with_held nothing r ≡ with_held nothing q
    same = cc

    twin : with_held q.held r ≡ q
    twin = λ i. with_held q.held (same i)

    go : (x : Bool) → glows r ≡ x → may_hold a r ≡ true → may_hold b q ≡ true → ((u : ℕ) → Links H G (u + depth_on rs) (off + depth_of r.pass) u rs qs)
        → Links H G (e + (cond r.on (depth_of r.pass) 0 + depth_on rs)) off e (r ∷ rs) (with_held q.held r ∷ qs)
    go true z m m' ih =
        let v = glow r z in
        let d : cond r.on (depth_of r.pass) 0 ≡ v.depth = ap₂ (λ (x : Bool) (y : Pass). cond x (depth_of y) 0) v.is-on v.is in
        let n : e + (cond r.on (depth_of r.pass) 0 + depth_on rs) ≡ (e + v.depth) + depth_on rs = omega arith in
        rw n (link (e + v.depth) (blind v refl) (ih (e + v.depth)))
    go false z m m' ih =
        let n : e + (cond r.on (depth_of r.pass) 0 + depth_on rs) ≡ e + depth_on rs = omega (arith, idle_due r z) in
        let z' : glows q ≡ false = sym (ap glows same) ∙ z in
        rw n (link e (idle z refl (idle_nothing a r z m ∙ sym (idle_nothing b q z' m'))) (ih e))

-- ## The first of a kind

-- whether what enters it agrees: nothing before the first persistence keeps a frame
enters : {H G : List ℕ} {off e u : ℕ} {r : Record} {b : Held} (kind : ℕ) → Link H G off e u r b → eqb (kind_of r.pass) kind ≡ false → (kind ≡ 4 → e ≡ 0) → kind ≡ 4 → u ≡ 0
enters kind (idle i ue hb) z four f = ue ∙ four f
enters {r = r} kind (blind x ue) z four f = absurd (eqb-false (kind_of r.pass) kind z (ap kind_of x.is ∙ sym f))
enters {r = r} kind (near x j ez ue hb q) z four f = absurd (eqb-false (kind_of r.pass) kind z (ap kind_of x.is ∙ sym f))

module _ (H G : List ℕ) (k kind : ℕ) (size : Held) (f : Record → Record) where
  -- what f makes of the two, and of the rest
  abbrev Changes : Type 0
  Changes =
      (off e u : ℕ) (r : Record) (b : Held) (rs qs : List Record) → kind_of r.pass ≡ kind → (kind ≡ 4 → e ≡ 0) → may_hold size r ≡ true
      → Link H G off e u r b → Links H G k (off + depth_of r.pass) u rs qs → Links H G k off e (f r ∷ rs) (f (with_held b r) ∷ qs)

  links_first : Changes → {off e : ℕ} {rs qs : List Record} → (kind ≡ 4 → e ≡ 0) → holding size rs ≡ true → Links H G k off e rs qs
      → Links H G k off e (on_first kind f rs) (on_first kind f qs)
  unfolding on_first holding
  links_first change four h (last le) = last le
  links_first change {off} {e} four h (link u {r = r} {b = b} {rs = rs} {qs = qs} l rest) =
      let d = both (may_hold size r) (holding size rs) h in
      go (eqb (kind_of r.pass) kind) refl d.0 (λ due. links_first change due d.1 rest)
    where
      go : (x : Bool) → eqb (kind_of r.pass) kind ≡ x → may_hold size r ≡ true
          → ((kind ≡ 4 → u ≡ 0) → Links H G k (off + depth_of r.pass) u (on_first kind f rs) (on_first kind f qs))
          → Links H G k off e (cond x (f r ∷ rs) (r ∷ on_first kind f rs)) (cond x (f (with_held b r) ∷ qs) (with_held b r ∷ on_first kind f qs))
      go true z m ih = change off e u r b rs qs (eqb-true (kind_of r.pass) kind z) four m l rest
      go false z m ih = link u l (ih (enters kind l z four))

-- a preset step
pub links_step : {H G : List ℕ} {k off e : ℕ} {rs qs : List Record} (size : Held) → holding size rs ≡ true → Links H G k off e rs qs
    → Links H G k off e (step_lut rs) (step_lut qs)
links_step {H} {G} {k} size h ls = links_first H G k 5 size stepped steps (λ z. absurd (omega arith)) h ls
  where
    steps : Changes H G k 5 size stepped
    steps off e u r b rs qs five four m (idle i ue hb) rest =
        let quiet : glows (stepped r) ≡ false = ap (λ (n : ℕ). r.on && eqb n 4) (stepped_kind r.pass) ∙ i in
        link u (idle quiet ue hb) (subst (λ (n : ℕ). Links H G k (off + n) u rs qs) (sym (stepped-depth r.pass)) rest)
    steps off e u r b rs qs five four m (blind x ue) rest = absurd (omega (arith, sym five ∙ ap kind_of x.is))
    steps off e u r b rs qs five four m (near x j ez ue hb q) rest = absurd (omega (arith, sym five ∙ ap kind_of x.is))

-- a switch
pub links_switch : {H G : List ℕ} {k off : ℕ} {rs qs : List Record} (kind : ℕ) (on : Bool) (size : Held) → holding size rs ≡ true → Links H G k off 0 rs qs
    → Links H G k off 0 (on_first kind (with_switch on) rs) (on_first kind (with_switch on) qs)
links_switch {H} {G} {k} kind on size h ls = links_first H G k kind size (with_switch on) (turned on) (λ z. refl) h ls
  where
    -- persistence that was on stays so
    stays : (r : Record) → Glow r → Glow (with_switch true r)
    stays r x = record { amount = x.amount; depth = x.depth; is = x.is; is-on = refl }

    turned : (on : Bool) → Changes H G k kind size (with_switch on)
    turned true off e u r b rs qs same four m (idle i ue hb) rest = go (eqb (kind_of r.pass) 4) refl
      where
        go : (g : Bool) → eqb (kind_of r.pass) 4 ≡ g → Links H G k off e (with_switch true r ∷ rs) (with_switch true (with_held b r) ∷ qs)
        go true g =
            let z = four (sym same ∙ eqb-true (kind_of r.pass) 4 g) in
            let x = glow (with_switch true r) g in
            link u (near x x.depth z (omega arith) hb (none_held H G off x.depth r.held (idle_nothing size r i m))) rest
        go false g = link u (idle g ue hb) rest
    turned true off e u r b rs qs same four m (blind x ue) rest = link u (blind (stays r x) ue) rest
    turned true off e u r b rs qs same four m (near x j ez ue hb q) rest = link u (near (stays r x) j ez ue hb q) rest
    turned false off e u r b rs qs same four m (idle i ue hb) rest = link u (idle refl ue refl) rest
    turned false off e u r b rs qs same four m (blind x ue) rest = link e (idle refl refl refl) (links_lower e (omega arith) rest)
    turned false off e u r b rs qs same four m (near x j ez ue hb q) rest = link e (idle refl refl refl) (links_lower e (omega arith) rest)

-- ## A new depth

forget_twice : (rs : List Record) → forget (forget rs) ≡ forget rs
forget_twice [] = refl
forget_twice (r ∷ rs) = ap (λ (l : List Record). with_held nothing r ∷ l) (forget_twice rs)

forget-redepth : (d : ℕ) (rs : List Record) → forget (redepth d rs) ≡ redepth d (forget rs)
unfolding redepth
forget-redepth d [] = refl
forget-redepth d (r ∷ rs) = go (eqb (kind_of r.pass) 4) (eqb d (depth_of r.pass)) (forget-redepth d rs)
  where
    go : (a b : Bool) → forget (redepth d rs) ≡ redepth d (forget rs)
        → forget (cond a (with_depth d r ∷ cond b rs (forget rs)) (r ∷ redepth d rs))
        ≡ cond a (with_depth d (with_held nothing r) ∷ cond b (forget rs) (forget (forget rs))) (with_held nothing r ∷ redepth d (forget rs))
    go true true ih = refl
    go true false ih = refl
    go false b ih = ap (λ (l : List Record). with_held nothing r ∷ l) ih

-- the chains stay alike but for what they hold
pub links_redepth : {H G : List ℕ} {k off e : ℕ} {rs qs : List Record} (d : ℕ) → Links H G k off e rs qs → forget (redepth d rs) ≡ forget (redepth d qs)
links_redepth {rs = rs} {qs = qs} d ls = forget-redepth d rs ∙ ap (redepth d) (links_forget ls) ∙ sym (forget-redepth d qs)

-- persistence with another depth
abbrev deep_glow : (d : ℕ) (r : Record) → Glow r → Glow (with_depth d r)
deep_glow d r x = record { amount = x.amount; depth = d; is = ap (deep_pass d) x.is; is-on = x.is-on }

deep_places : (d : ℕ) (p : Pass) → eqb (kind_of p) 4 ≡ true → depth_of (deep_pass d p) ≡ d
deep_places d = by_memory (λ p. eqb (kind_of p) 4 ≡ true → depth_of (deep_pass d p) ≡ d) (λ amount k e. refl) (λ p m e. false_true (sym m.kind ∙ e))

no_places : (p : Pass) → eqb (kind_of p) 4 ≡ false → depth_of p ≡ 0
no_places = by_memory (λ p. eqb (kind_of p) 4 ≡ false → depth_of p ≡ 0) (λ amount k e. false_true (sym e)) (λ p m e. m.no_depth)

-- two chains of which nothing is due, after the same change: H' and G' are the new histories
module _ (H G H' G' : List ℕ) (d : ℕ) where
  -- the new places of a history of k places of n words agree where the old ones did, and at the same depth no word has changed
  pub record Refits (k n : ℕ) : Type 0 where
    pub agree : take (k * n) H ≡ take (k * n) G → take (d * n) H' ≡ take (d * n) G'
    pub stay : d ≡ k → (H ≡ H') × (G ≡ G')

  pub links_deepen : {off e : ℕ} {rs qs : List Record} → Normals rs → off ≡ 0 → Refits (first_depth rs) (area (first_held rs)) → Links H G 0 off e rs qs
      → Links H' G' 0 off 0 (redepth d rs) (redepth d qs)
  unfolding of_first redepth
  links_deepen nm z fits (last le) = let y : 0 ≤ 0 = omega arith in last y
  links_deepen {off} {e} nm z fits (link u {r = r} {b = b} {rs = rs} {qs = qs} l rest) =
      go (eqb (kind_of r.pass) 4) refl fits (links_due rest) (λ y f. links_deepen nm.1 y f rest)
    where
      go : (c : Bool) → eqb (kind_of r.pass) 4 ≡ c → Refits (cond c (depth_of r.pass) (first_depth rs)) (area (cond c r.held (first_held rs))) → u ≤ 0
          → (off + depth_of r.pass ≡ 0 → Refits (first_depth rs) (area (first_held rs)) → Links H' G' 0 (off + depth_of r.pass) 0 (redepth d rs) (redepth d qs))
          → Links H' G' 0 off 0 (cond c (with_depth d r ∷ cond (eqb d (depth_of r.pass)) rs (forget rs)) (r ∷ redepth d rs))
          (cond c (with_depth d (with_held b r) ∷ cond (eqb d (depth_of r.pass)) qs (forget qs)) (with_held b r ∷ redepth d qs))
      go false c f due ih = link 0 (same l) (ih (omega (arith, no_places r.pass c)) f)
        where
          quiet : glows r ≡ false
          quiet = rw c (and-false r.on)

          same : Link H G off e u r b → Link H' G' off 0 0 r b
          same (idle i ue hb) = idle i refl hb
          same (blind x ue) = glows-not r x quiet
          same (near x j ez ue hb q) = glows-not r x quiet
      go true c f due ih = link 0 (new l) (tail (eqb d (depth_of r.pass)) refl)
        where
          new : Link H G off e u r b → Link H' G' off 0 0 (with_depth d r) b
          new (idle i ue hb) = idle (ap (λ (n : ℕ). r.on && eqb n 4) (deep_kind d r.pass) ∙ i) refl hb
          new (blind x ue) = absurd (omega (arith, (glow_deep r nm.0 x).1))
          new (near x j ez ue hb q) =
              let n = area r.held in
              let all : j ≡ depth_of r.pass = omega (arith, (glow_deep r nm.0 x).0) in
              let here : (l : List ℕ) → drop (off * n) l ≡ l = λ l. ap (λ (i : ℕ). drop i l) (ap (λ (i : ℕ). i * n) z ∙ zero-mul n) in
              let old : take (depth_of r.pass * n) H ≡ take (depth_of r.pass * n) G =
              subst₂ (λ (x y : List ℕ). take (depth_of r.pass * n) x ≡ take (depth_of r.pass * n) y) (here H) (here G)
              (subst (λ (m : ℕ). take (m * n) (drop (off * n) H) ≡ take (m * n) (drop (off * n) G)) all q) in
              near (deep_glow d r x) d refl (omega arith) hb (ap (take (d * n)) (here H') ∙ f.agree old ∙ sym (ap (take (d * n)) (here G')))

          tail : (x : Bool) → eqb d (depth_of r.pass) ≡ x → Links H' G' 0 (off + depth_of (deep_pass d r.pass)) 0 (cond x rs (forget rs)) (cond x qs (forget qs))
          tail true x =
              let dk : d ≡ depth_of r.pass = eqb-true d (depth_of r.pass) x in
              let h = f.stay dk in
              let there : off + depth_of r.pass ≡ off + depth_of (deep_pass d r.pass) = omega (arith, deep_places d r.pass c) in
              subst (λ (o : ℕ). Links H' G' 0 o 0 rs qs) there
              (subst₂ (λ (x y : List ℕ). Links x y 0 (off + depth_of r.pass) 0 rs qs) h.0 h.1 (links_lower 0 zero-le rest))
          tail false x = links_forgotten H' G' (off + depth_of (deep_pass d r.pass)) rest
