-- The claims of specs/Numbers.antt: normalised settings lie in the ranges that passes' Inside asks for, and the
-- refusals leave frames that it takes. Assumes nothing.
use Prim.Native.Nat.{ℕ, zero, suc, ◌+◌, ◌*◌, ◌≤◌, ◌<◌}
use native.Mathlib.Nat.{mul-le-mul_right, le_of_mul-le-mul_right, add-mul}
use native.Mathlib.Omega.{arith}
use mathlib.Core.Path.{◌≡◌, refl, ap, subst, ◌∙◌}
use mathlib.Core.Bool.{true, false, not, ◌&&◌, cond}
use mathlib.Core.List.{List, [], ◌∷◌, ◌++◌}
use borrow.Author.Tests.{ltb-false, leb-true, not-true}
use lib.Dec.{T, leb, ltb, lit<, le→leb}
use lib.ListN.{length, take, drop, length-drop}
use lib.Seq.{length-take-le}
use lib.Ieee.{Float, nan, inf, fin, up, down, lt, neg, of_bits}
use lib.Ieee.Fits.{down_pos}
use lib.Ieee.Scale.{finite}
use Rattle.num.specs.Held.{sized}
use Rattle.num.specs.Refusals.{unless}
use Rattle.num.specs.Const.{c0_0, c0_01, c0_5, c0_95, c1_0, c4_0}
use Rattle.num.specs.Ranges.{within}
use Rattle.num.specs.Laws.Within.{size-le, within_plus, zero_value}
use Rattle.passes.specs.Arith.{Arith, Agrees}
use Rattle.passes.specs.Casts.{casts, checked}
use Rattle.passes.specs.Laws.Casts.{casts_agree, checked_agree}
use Rattle.passes.specs.ColorCorrection.{good_curve}
use Rattle.passes.specs.Flow.{Flow, flow}
use Rattle.passes.specs.Laws.Curves.{curve_within}
use Rattle.passes.proofs.Inside as Inside
use Rattle.passes.specs.Painted.{Painted, painted}
use Rattle.passes.specs.Laws.Range as Range
use Rattle.passes.specs.Rows.{Frame}
use Rattle.cards.specs.Alike.{chain_of}
use Rattle.cards.specs.Answers.{acceptance}
use Rattle.chain.specs.Calls.{framed, rechain, stops, refusing_frame, shown, shown_by}
use Rattle.chain.specs.Calls.{frame_reply, frame_reply_by}
use Rattle.chain.specs.Chain.{wash, over_by, turn, turn_by, with_held, Ran, ran, chain, chain_by, depth_of, depth, reads, reads_curve, samples_in}
use Rattle.cards.specs.Normal.{neg_zero, settled, counted, normal_pass, normal_chain}
use Rattle.chain.specs.Numbers.{Pass-inside, Numbers-inside, Casts-inside}
use Rattle.chain.specs.Numbers.{Checked-inside}
use Rattle.cards.specs.Passes.{kind_of}
use Rattle.cards.specs.Typed.{Typed, TypedChain}
use Rattle.cards.specs.declared.station.Pass.TheVariants.{Ntsc, Bloom, AutoGradient, Persistence, Lut, Curvature}
use Rattle.cards.specs.declared.station.Pass.TheVariants.{ColorCorrection, Crt, Vignette, Scanlines}
use Rattle.cards.specs.declared.station.Record.{Record}
use Rattle.cards.specs.declared.station.Station.{Station}
use Rattle.num.specs.Laws.Bools.{false_true, both, or_left, or-second}
use Rattle.chain.proofs.Goes.{goes}
use Rattle.cards.specs.Laws.Good.{good, headed}
use Rattle.chain.proofs.Turns.{turn_frame}

-- ## Settings

record Settled (low high x : Float) : Type 0 where
  number : finite x ≡ true
  least : lt x low ≡ false
  most : lt high x ≡ false

settled_parts : (low high x : Float) → settled low high x ≡ true → Settled low high x
unfolding settled
settled_parts low high x e =
    let a = both _ (not (neg_zero x)) e in
    let b = both _ (not (lt high x)) a.0 in
    let c = both (finite x) (not (lt x low)) b.0 in
    record { number = c.0; least = not-true _ c.1; most = not-true _ b.1 }

-- from 0 to an end that is at most n
settled-within : (n : ℕ) (high x : Float) → T (within n high) → settled c0_0 high x ≡ true → T (within n x)
unfolding within lt of_bits
settled-within n high x h e = let q = settled_parts c0_0 high x e in go high x h q.number q.least q.most
  where
    go : (high x : Float) → T (within n high) → finite x ≡ true → lt x c0_0 ≡ false → lt high x ≡ false → T (within n x)
    go high nan h f l u = false_true f
    go high (inf s) h f l u = false_true f
    go high (fin true m e) h f l u =
        zero_value n (fin true m e) true 1 (lit< tt)
        (refl, none (m * up e * 1) (0 * down e) (ltb-false 0 (m * up e * 1 + 0 * down e) l))
      where
        none : (a b : ℕ) → a + b ≤ 0 → a ≡ b
        none a b h = omega arith
    go nan (fin false m e) h f l u = absurd h
    go (inf s) (fin false m e) h f l u = absurd h
    go (fin true i g) (fin false m e) h f l u =
        within_plus n m e
        (nothing (i * up g * down e) (m * up e) (down g) (n * down e) (down_pos g)
        (ltb-false 0 (i * up g * down e + m * up e * down g) u))
      where
        nothing : (b a d r : ℕ) → 0 < d → b + a * d ≤ 0 → a ≤ r
        nothing b a d r p h = le_of_mul-le-mul_right {m = a} {n = r} {k = d} (omega arith) p
    go (fin false i g) (fin false m e) h f l u =
        within_plus n m e
        (under (m * up e) (down e) (i * up g) (down g) (down_pos g) (size-le n false i g h)
        (ltb-false (i * up g * down e) (m * up e * down g) u))
      where
        under : (a c b d : ℕ) → 0 < d → b ≤ n * d → a * d ≤ b * c → a ≤ n * c
        under a c b d p h k =
            le_of_mul-le-mul_right {m = a} {n = n * c} {k = d} (let q = mul-le-mul_right c h in omega arith) p

-- from -1 to 1
settled-sized : (x : Float) → settled (neg c1_0) c1_0 x ≡ true → T (Range.sized 1 x)
unfolding lt neg of_bits
settled-sized x e = let q = settled_parts (neg c1_0) c1_0 x e in go x q.number q.least q.most
  where
    go : (x : Float) → finite x ≡ true → lt x (neg c1_0) ≡ false → lt c1_0 x ≡ false → T (Range.sized 1 x)
    go nan f l u = false_true f
    go (inf s) f l u = false_true f
    go (fin true m e) f l u =
        let k = ltb-false (1 * down e) (m * up e * 1) l in le→leb (m * up e) (1 * down e) (omega arith)
    go (fin false m e) f l u =
        let k = ltb-false (1 * down e) (m * up e * 1) u in le→leb (m * up e) (1 * down e) (omega arith)

unit : (x : Float) → settled c0_0 c1_0 x ≡ true → T (within 1 x)
unfolding within of_bits
unit x e = settled-within 1 c1_0 x tt e

counted-most : (n k : ℕ) → counted n k ≡ true → k ≤ n
counted-most n k e = leb-true k n (both (leb 1 k) (leb k n) e).1

-- ## One pass

-- what a pass without memory makes of a flow, by what it makes of the frame
abbrev painting : Flow → Painted → Flow
painting x y = flow (painted y.words (x.frame.clipped + y.clipped)) x.held x.past

-- the same of one that clips nothing
abbrev unpainting : Flow → List ℕ → Flow
unpainting x l = painting x (painted l 0)

module _ (A : Arith) (G : Agrees A) where
  pub pass_inside : Pass-inside A
  unfolding over_by wash normal_pass within of_bits
  pass_inside w h curve (Ntsc strength bleed) x n t f room good =
      let p = both (settled c0_0 c1_0 strength) (counted 64 bleed) n in
      ap (painting x)
      (Inside.ntsc-inside G w h strength bleed x.frame.words f (unit strength p.0) (counted-most 64 bleed p.1))
  pass_inside w h curve (Bloom threshold strength radius) x n t f room good =
      let p = both (settled c0_0 c1_0 strength) (counted 64 radius) n in
      let l : threshold ≤ 255 = (let u = t.0 in omega arith) in
      ap (painting x)
      (Inside.bloom-inside G w h threshold strength radius x.frame.words f l (unit strength p.0)
      (counted-most 64 radius p.1))
  pass_inside w h curve (AutoGradient strength vertical horizontal) x n t f room good =
      let p = both (settled c0_0 c1_0 strength && settled c0_0 c1_0 vertical) (settled c0_0 c1_0 horizontal) n in
      let q = both (settled c0_0 c1_0 strength) (settled c0_0 c1_0 vertical) p.0 in
      ap (painting x)
      (Inside.auto_gradient_inside G w h strength vertical horizontal x.frame.words f (unit strength q.0)
      (unit vertical q.1) (unit horizontal p.1))
  pass_inside w h curve (Persistence amount k) x n t f room good =
      let p = both (settled c0_0 c0_95 amount) (counted 8 k) n in
      Inside.persistence-inside G amount k (sized w h) x (settled-within 1 c0_95 amount tt p.0)
      (counted-most 8 k p.1) room
  pass_inside w h curve (Lut preset strength) x n t f room good =
      ap (painting x)
      (Inside.lut-inside G preset strength x.frame.words
      (unit strength (both (ltb preset 7) (settled c0_0 c1_0 strength) n).1))
  pass_inside w h curve (Curvature amount) x n t f room good =
      ap (unpainting x)
      (Inside.curvature-inside G w h amount x.frame.words f (settled-within 1 c0_5 amount tt n))
  pass_inside w h curve (ColorCorrection brightness contrast saturation gamma) x n t f room good =
      let b = settled (neg c1_0) c1_0 brightness in
      let c = settled c0_0 c4_0 contrast in
      let s = settled c0_0 c4_0 saturation in
      let p = both (b && c && s) (settled c0_01 c4_0 gamma) n in
      let q = both (b && c) s p.0 in
      let r = both b c q.0 in
      ap (painting x)
      (Inside.color_correction_inside G curve brightness contrast saturation gamma x.frame.words (λ c. curve_within curve (good c)) (settled-sized brightness r.0)
      (settled-within 4 c4_0 contrast tt r.1) (settled-within 4 c4_0 saturation tt q.1))
  pass_inside w h curve (Crt strength) x n t f room good =
      ap (unpainting x) (Inside.crt-inside G w h strength x.frame.words f (unit strength n))
  pass_inside w h curve (Vignette strength) x n t f room good =
      ap (unpainting x)
      (Inside.vignette-inside G w h strength x.frame.words f (unit strength n))
  pass_inside w h curve (Scanlines strength) x n t f room good =
      ap (unpainting x)
      (Inside.scanlines-inside G w strength x.frame.words (unit strength n))

-- ## The chain

module _ (A : Arith) (G : Agrees A) (w h : ℕ) (curve : List Float) where
  -- a record, on or off
  turned : (r : Record) (frame : Painted) (past : List ℕ) → normal_pass r.pass ≡ true → Typed r.pass → Frame w h frame.words
      → depth_of r.pass * length frame.words ≤ length past → (reads r.pass ≡ true → good_curve curve ≡ true)
      → turn_by A w h curve r frame past ≡ turn w h curve r frame past
  unfolding turn_by
  turned r frame past n t f room good =
      let x : Flow = flow frame r.held past in
      ap (λ (y : Flow). cond r.on y x) (pass_inside A G w h curve r.pass x n t f room good)

  chained : (rs : List Record) (seen : List ℕ) (frame : Painted) (past : List ℕ) → normal_chain seen rs ≡ true → TypedChain rs
      → Frame w h frame.words → depth rs * (h * w) ≤ length past → (reads_curve rs ≡ true → good_curve curve ≡ true)
      → chain_by A w h curve rs frame past ≡ chain w h curve rs frame past
  unfolding chain_by depth reads_curve
  chained [] seen frame past n t f room good = refl
  chained (r ∷ rs) seen frame past n t f room good =
      let q = headed seen r rs n in
      let part = depth_of r.pass * (h * w) in
      let parts : part + depth rs * (h * w) ≤ length past = subst (λ (k : ℕ). k ≤ length past) (add-mul (depth_of r.pass) (depth rs) (h * w)) room in
      let own : length (take part past) ≡ part = length-take-le part past (omega arith) in
      let then : Flow → Ran → Ran = λ x y. ran y.frame (with_held x.held r ∷ y.records) (x.past ++ y.past) in
      let x : Flow = turn w h curve r frame (take part past) in
      ap (λ (y : Flow). then y (chain_by A w h curve rs y.frame (drop part past)))
      (turned r frame (take part past) q.normal t.0 f (rw f.area (omega (arith, own))) (λ c. good (or_left (reads r.pass) (reads_curve rs) c)))
      ∙ ap (then x)
      (chained rs (seen ++ kind_of r.pass ∷ []) x.frame (drop part past) q.others t.1
      (record { area = turn_frame w h curve r frame (take part past) ∙ f.area; wide = f.wide; high = f.high })
      (rw (length-drop part past) (omega arith)) (λ c. good (or-second (reads r.pass) (reads_curve rs) c)))

  frame_inside-at : (s : Station) (words past : List ℕ) (floats ints : ℕ) → TypedChain (chain_of s)
      → frame_reply_by A w h s words past floats ints curve ≡ frame_reply w h s words past floats ints curve
  unfolding frame_reply_by unless shown_by
  frame_inside-at s words past floats ints t = go (stops s w h (length words) (length past) floats ints curve) refl
    where
      go : (k : ℕ) → stops s w h (length words) (length past) floats ints curve ≡ k
          → unless k (refusing_frame s words past) (shown_by A w h s words past curve)
          ≡ unless k (refusing_frame s words past) (shown w h s words past curve)
      go zero e =
          let g = goes s w h (length words) (length past) floats ints curve e in
          ap (λ (x : Ran). framed (acceptance (x.frame.clipped ∷ samples_in w h (chain_of s) ∷ [])) (rechain x.records s) (x.frame.words ++ drop (h * w) words) x.past)
          (chained (chain_of s) [] (painted (take (h * w) words) 0) past (good s g.good).normal t
          (record { area = length-take-le (h * w) words g.frame_room; wide = g.wide.1; high = g.high.1 })
          g.past_room g.curve_good)
      go (suc k) e = refl

pub numbers_inside : Numbers-inside
numbers_inside A G = (pass_inside A G, λ w h s words past floats ints curve. frame_inside-at A G w h curve s words past floats ints)

pub casts-inside : Casts-inside
casts-inside = (numbers_inside casts casts_agree).1

pub checked-inside : Checked-inside
checked-inside = (numbers_inside checked checked_agree).1
