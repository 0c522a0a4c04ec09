-- The way of a frame through the chain, over plain variables: what a ready pass may rely on, what a pass and a record leave, and the loop over the
-- records. The functions of `run` cite these laws, and `search` finds their premises among the places of a function. Assumes nothing.
use Prim.Native.Nat.{ℕ, suc, ◌+◌, ◌-◌, ◌*◌, ◌≤◌, ◌<◌}
use native.Mathlib.Nat.{zero-add, add-zero, zero-mul, add-mul, mul-le-mul_right}
use native.Mathlib.Numerals.{add-one}
use native.Mathlib.Omega.{arith}
use mathlib.Core.Path.{◌≡◌, refl, sym, ap, ap₂, subst, ◌∙◌}
use mathlib.Core.Bool.{Bool, true, false, cond}
use mathlib.Core.List.{List, [], ◌∷◌, ◌++◌, append-nil, append_assoc}
use mir.Syntax.{w32}
use mir.Val.{Fits}
use lib.ListN.{length, take, drop, get_or, set, length-append, length-drop, length-set, take-append-drop, drop_of_length-le}
use lib.Seq.{length-take-le, take_at, drop_at, drop-drop, get_or-drop, drop-set-lt, take-suc-set, take_all}
use Rattle.std.proofs.Common.{drop-cons}
use lib.Ieee.{Float}
use Rattle.num.specs.Const.{c0_0, c0_95}
use Rattle.num.specs.Held.{Held, area, sized, same_held}
use Rattle.num.specs.declared.size.Size.{Size}
use Rattle.passes.specs as Text
use Rattle.passes.specs.ColorCorrection.{curved}
use Rattle.passes.specs.Flow.{Flow, flow}
use Rattle.passes.specs.Painted.{Painted, painted, onto}
use Rattle.passes.specs.Plain.Persistence.{persistence, blend, shifted, refilled}
use Rattle.passes.specs.Rows.{Frame}
use Rattle.passes.specs.Laws.Rows.{frame_small}
use Rattle.chain.specs.Chain.{wash, paint, over, over_by, turn, turn_by, with_held, Ran, ran, chain, chain_by, depth_of, depth, reads}
use Rattle.chain.specs.Chain.{samples_of, record_samples, samples_in}
use Rattle.chain.specs.Lent.{Lent, Ready, Readies}
use Rattle.cards.specs.Normal.{normal_pass, settled}
use Rattle.cards.specs.declared.station.Pass.{Pass}
use Rattle.cards.specs.declared.station.Pass.TheVariants.{Ntsc, Bloom, Persistence, ColorCorrection}
use Rattle.cards.specs.declared.station.Record.{Record}
use Rattle.cards.specs.Laws.Scans.{past as past-end}
use Rattle.chain.proofs.Depths.{depth_more, depth_less}
use Rattle.chain.proofs.Taken.{count-fine, bleed_few, radius_few, Summed, summed_none, summed_fits, summed_more, summed_all}
use Rattle.chain.proofs.PassCases.{by_memory, over-few, over_paints, Painter, no_depth, not-persistence}

-- on a frame of which nothing was clipped yet
fresh : (t : Painted) → t ≡ painted t.words (0 + t.clipped)
fresh t = ap (painted t.words) (sym (zero-add t.clipped))

-- ## What a ready pass may rely on

module _ (size : Size) (pass : Pass) (room lent : ℕ) where
  pub bleed_fine : (strength : Float) (bleed : ℕ) → pass ≡ Ntsc strength bleed → Ready size pass room lent → bleed ≤ 64
  bleed_fine strength bleed e r = bleed_few pass r.normal strength bleed e

  pub radius_fine : (threshold : ℕ) (strength : Float) (radius : ℕ) → pass ≡ Bloom threshold strength radius → Ready size pass room lent → radius ≤ 64
  radius_fine threshold strength radius e r = radius_few pass r.normal threshold strength radius e

  pub curve_fine : (brightness contrast saturation gamma : Float) → pass ≡ ColorCorrection brightness contrast saturation gamma
      → Ready size pass room lent → curved gamma ≡ true → 256 ≤ lent
  curve_fine brightness contrast saturation gamma e r c = r.curve_room (ap reads e ∙ c)

  pub depth-fine : (amount : Float) (depth : ℕ) → pass ≡ Persistence amount depth → Ready size pass room lent → depth ≤ 8
  unfolding normal_pass
  depth-fine amount depth e r = count-fine (settled c0_0 c0_95 amount) 8 depth (ap normal_pass (sym e) ∙ r.normal)

  pub depth_room : (amount : Float) (depth : ℕ) (frame : List ℕ) → pass ≡ Persistence amount depth → Ready size pass room lent
      → Frame size.width size.height frame → depth * length frame ≤ room
  depth_room amount depth frame e r s =
      subst (λ (k : ℕ). k * length frame ≤ room) (ap depth_of e) (subst (λ (n : ℕ). depth_of pass * n ≤ room) (sym s.area) r.past_room)

  -- any pass but persistence is ready without a history
  pub ready_without : Painter pass → Ready size pass room lent → Ready size pass 0 lent
  ready_without t r =
      let no : depth_of pass ≡ 0 = no_depth pass (not-persistence pass t) in
      record { normal = r.normal; past_room = rw no (omega arith); curve_room = r.curve_room }

-- ## What a pass leaves

module _ (w h : ℕ) (curve : List Float) (pass : Pass) where
  -- the frame that a pass paints was `case`'s
  pub painted-by : (case : Pass) (frame : List ℕ) (new : Painted) → pass ≡ case → new ≡ paint w h curve case frame → new ≡ paint w h curve pass frame
  painted-by case frame new e n = n ∙ ap (λ (p : Pass). paint w h curve p frame) (sym e)

  -- any pass but persistence, by the frame that it paints
  pub washed : (frame words : List ℕ) (clipped : ℕ) (held : Held) (past : List ℕ) → Painter pass → painted words clipped ≡ paint w h curve pass frame
      → flow (painted words clipped) held past ≡ over w h curve pass (flow (painted frame 0) held past)
  unfolding wash
  washed frame words clipped held past t e =
      ap (λ (y : Painted). flow y held past) (e ∙ fresh (paint w h curve pass frame))
      ∙ sym (over_paints w h curve (flow (painted frame 0) held past) pass (not-persistence pass t))

-- the samples of a pass that was `case`
pub samples-by : (w h : ℕ) (pass case : Pass) (n : ℕ) → pass ≡ case → n ≡ samples_of w h case → n ≡ samples_of w h pass
samples-by w h pass case n e s = s ∙ ap (samples_of w h) (sym e)

-- the words alone, where a pass clips nothing
pub none_clipped : (words other : List ℕ) → words ≡ other → painted words 0 ≡ painted other 0
none_clipped words other e = ap (λ (l : List ℕ). painted l 0) e

pub persisted : (size : Size) (curve : List Float) (pass : Pass) (amount : Float) (depth : ℕ) (x y : Flow) → pass ≡ Persistence amount depth
    → y ≡ persistence amount depth size x → y ≡ over size.width size.height curve pass x
unfolding over_by
persisted size curve pass amount depth x y e o = o ∙ ap (λ (p : Pass). over size.width size.height curve p x) (sym e)

module _ (w h : ℕ) (curve : List Float) (frame : Painted) (past : List ℕ) (r : Record) where
  pub turn_on : (y : Flow) → r.on ≡ true → y ≡ over w h curve r.pass (flow frame r.held past) → y ≡ turn w h curve r frame past
  unfolding turn_by
  turn_on y e o = o ∙ ap (λ (b : Bool). cond b (over w h curve r.pass (flow frame r.held past)) (flow frame r.held past)) (sym e)

  pub turn_off : r.on ≡ false → flow frame r.held past ≡ turn w h curve r frame past
  unfolding turn_by
  turn_off e = ap (λ (b : Bool). cond b (over w h curve r.pass (flow frame r.held past)) (flow frame r.held past)) (sym e)

-- its samples
module _ (w h : ℕ) (r : Record) where
  pub samples-on : (n : ℕ) → r.on ≡ true → n ≡ samples_of w h r.pass → n ≡ record_samples w h r
  unfolding record_samples
  samples-on n e s = s ∙ ap (λ (b : Bool). cond b (samples_of w h r.pass) 0) (sym e)

  pub samples_off : r.on ≡ false → 0 ≡ record_samples w h r
  unfolding record_samples
  samples_off e = ap (λ (b : Bool). cond b (samples_of w h r.pass) 0) (sym e)

-- ## What was clipped before

-- n channels more
abbrev adding : ℕ → Flow → Flow
adding n x = flow (painted x.frame.words (n + x.frame.clipped)) x.held x.past

module _ (w h n : ℕ) (curve : List Float) (words : List ℕ) (held : Held) (past : List ℕ) where
  abbrev before : ℕ → Flow
  before k = flow (painted words k) held past

  none_added : before n ≡ adding n (before 0)
  none_added = ap (λ (m : ℕ). flow (painted words m) held past) (sym (add-zero n))

  persistence_adds : (amount : Float) (k : ℕ) → persistence amount k (sized w h) (before n) ≡ adding n (persistence amount k (sized w h) (before 0))
  unfolding Text.Persistence.persistence
  persistence_adds amount k = of (same_held held (sized w h))
    where
      either : Bool → ℕ → Flow
      either b m =
          cond b (flow (onto (blend amount k past) (painted words m)) (sized w h) (shifted k words past))
          (flow (painted words m) (sized w h) (refilled k words past))

      of : (b : Bool) → either b n ≡ adding n (either b 0)
      of true =
          let t : Painted = blend amount k past words in
          ap (λ (m : ℕ). flow (painted t.words (n + m)) (sized w h) (shifted k words past)) (sym (zero-add t.clipped))
      of false = ap (λ (m : ℕ). flow (painted words m) (sized w h) (refilled k words past)) (sym (add-zero n))

  over_adds : (p : Pass) → over w h curve p (before n) ≡ adding n (over w h curve p (before 0))
  unfolding over_by wash
  over_adds =
      by_memory (λ p. over w h curve p (before n) ≡ adding n (over w h curve p (before 0))) persistence_adds
      (λ p m.
      let t : Painted = paint w h curve p words in
      m.whole w h curve (before n) ∙ ap (λ (y : Painted). flow (painted y.words (n + y.clipped)) held past) (fresh t)
      ∙ sym (ap (adding n) (m.whole w h curve (before 0))))

-- a record over a frame of which n channels were clipped before: as over one of which none were, and these added
turn_adds : (w h n : ℕ) (curve : List Float) (words past : List ℕ) (r : Record)
    → turn w h curve r (painted words n) past ≡ adding n (turn w h curve r (painted words 0) past)
unfolding turn_by
turn_adds w h n curve words past r = of r.on
  where
    x : ℕ → Flow
    x k = flow (painted words k) r.held past

    of : (b : Bool) → cond b (over w h curve r.pass (x n)) (x n) ≡ adding n (cond b (over w h curve r.pass (x 0)) (x 0))
    of true = over_adds w h n curve words r.held past r.pass
    of false = none_added w h n curve words r.held past

-- a record clips no more than three channels of each word
turn-few : (w h : ℕ) (curve : List Float) (r : Record) (frame : Painted) (past : List ℕ)
    → (turn w h curve r frame past).frame.clipped ≤ frame.clipped + 3 * length frame.words
unfolding turn_by
turn-few w h curve r frame past = of r.on
  where
    x : Flow
    x = flow frame r.held past

    of : (b : Bool) → (cond b (over w h curve r.pass x) x).frame.clipped ≤ frame.clipped + 3 * length frame.words
    of true = over-few w h curve x r.pass
    of false = omega arith

-- ## The loop over the records

-- what is done, and what the records that are left make of the rest
abbrev joined : List Record → (front : List ℕ) → Ran → Ran
joined done front y = ran y.frame (done ++ y.records) (front ++ y.past)

-- a part that comes back, and its record, are done
reshape : (done : List Record) (new : Record) (front part tail : List ℕ) (goes : List ℕ → Ran) (m : ℕ) → length (front ++ part) ≡ m
    → let past = front ++ (part ++ tail) in
    joined done front (ran (goes tail).frame (new ∷ (goes tail).records) (part ++ (goes tail).past)) ≡ joined (done ++ new ∷ []) (take m past) (goes (drop m past))
reshape done new front part tail goes m e =
    let y = goes tail in
    let past = front ++ (part ++ tail) in
    let split : past ≡ (front ++ part) ++ tail = sym (append_assoc front part tail) in
    ap₂ (λ (q : List Record) (w : List ℕ). ran y.frame q w) (sym (append_assoc done (new ∷ []) y.records)) (sym (append_assoc front part y.past))
    ∙ ap₂ (λ (a b : List ℕ). joined (done ++ new ∷ []) a (goes b)) (sym (ap (take m) split ∙ take_at (front ++ part) tail m e))
    (sym (ap (drop m) split ∙ drop_at (front ++ part) tail m e))

-- the first i of n records have had their turns: `records` has what they hold, their parts are the first `at` words of the history; `room` is its length
pub record Running
    (size : Size) (i room at : ℕ) (curve : List Float) (rs : List Record) (words was : List ℕ) (records : List Record)
    (frame : List ℕ) (clipped samples : ℕ) (past : List ℕ) (floats : List Float) (ints : List ℕ) : Type 0
  where
    pub near : i ≤ length rs
    pub so_far : chain size.width size.height curve rs (painted words 0) was
        ≡ joined (take i records) (take at past) (chain size.width size.height curve (drop i rs) (painted frame clipped) (drop at past))
    pub begins : at ≡ depth (take i rs) * area size
    pub left : drop i records ≡ drop i rs
    pub long : length records ≡ length rs
    pub taken : Summed size.width size.height i rs samples
    pub few : clipped ≤ 3145728 * i
    pub lent : Lent size frame floats ints
    pub kept : length past ≡ room

relent : {size : Size} {frame ints frame' ints' : List ℕ} {floats floats' : List Float} → Lent size frame floats ints
    → length frame' ≡ length frame → length floats' ≡ length floats → length ints' ≡ length ints → Lent size frame' floats' ints'
relent l f g k = record {
  shape = record { area = f ∙ l.shape.area; wide = l.shape.wide; high = l.shape.high };
  some-wide = l.some-wide;
  some_high = l.some_high;
  floats_room = g ∙ l.floats_room;
  ints_room = k ∙ l.ints_room;
}

-- of the record at i: it is r, and normalised, and its part of the history has `part` words; records and history are long enough for all n
pub record Next (size : Size) (i room : ℕ) (rs : List Record) (d r : Record) (part : ℕ) : Type 0 where
  pub few : length rs ≤ 12
  pub near : i < length rs
  pub is : r ≡ get_or rs i d
  pub normal : normal_pass (get_or rs i d).pass ≡ true
  pub parts : part ≡ depth_of r.pass * area size
  pub fits : depth rs * area size ≤ room

module _ {size : Size} {curve : List Float} {rs : List Record} where
  -- before the first record
  pub running_none : {frame : List ℕ} {past : List ℕ} {floats : List Float} {ints : List ℕ} → Lent size frame floats ints
      → Running size 0 (length past) 0 curve rs frame past rs frame 0 0 past floats ints
  unfolding depth
  running_none l =
      record {
        near = omega arith;
        so_far = refl;
        begins = sym (zero-mul (area size));
        left = refl;
        long = refl;
        taken = summed_none _ _ _;
        few = omega arith;
        lent = l;
        kept = refl;
      }

  module _ {i room at : ℕ} {words was : List ℕ} {records : List Record} {frame : List ℕ} {clipped samples : ℕ} {past : List ℕ} {floats : List Float}
      {ints : List ℕ} (t : Running size i room at curve rs words was records frame clipped samples past floats ints) where
    -- the record at i is as it was
    pub next-is : (d : Record) → get_or records i d ≡ get_or rs i d
    next-is d =
        let none : i + 0 ≡ i = omega arith in
        ap (λ (k : ℕ). get_or records k d) (sym none) ∙ sym (get_or-drop i records 0 d) ∙ ap (λ (q : List Record). get_or q 0 d) t.left
        ∙ get_or-drop i rs 0 d ∙ ap (λ (k : ℕ). get_or rs k d) none

    -- what is known of it
    pub next_of : {lent d count : ℕ} → Readies size rs room lent → i < length rs → d ≡ depth_of (get_or records i past-end).pass → count ≡ area size
        → Next size i room rs past-end (get_or records i past-end) (d * count)
    next_of ready l e c = record {
      few = ready.few;
      near = l;
      is = next-is past-end;
      normal = ready.normal i past-end l;
      parts = ap₂ (λ (a b : ℕ). a * b) e c;
      fits = ready.past_room;
    }

    module _ {d r : Record} {part : ℕ} (q : Next size i room rs d r part) where
      next-begins : at + part ≡ depth (take (suc i) rs) * area size
      next-begins =
          ap₂ (λ (a b : ℕ). a + b) t.begins (q.parts ∙ ap (λ (x : Record). depth_of x.pass * area size) q.is)
          ∙ sym (ap (λ (k : ℕ). k * area size) (depth_more rs i d (omega (arith, q.near))) ∙ add-mul (depth (take i rs)) (depth_of (get_or rs i d).pass) (area size))

      -- the part ends within the history
      pub part_in : at + part ≤ length past
      part_in =
          let less : depth (take (suc i) rs) * area size ≤ depth rs * area size = mul-le-mul_right (area size) (depth_less rs (suc i)) in
          omega (arith, next-begins, t.kept, q.fits)

      pub part_long : length (take (at + part - at) (drop at past)) ≡ part
      part_long =
          let whole : at + part - at ≡ part = omega arith in
          rw whole (length-take-le part (drop at past) (simp length-drop (omega (arith, part_in))))

      -- it has had its turn, and clipped `more'` channels; it began at a count of 0, so that `clipped` is added. So with the samples
      module _ {frame' : List ℕ} {more' taken' : ℕ} {held' : Held} {part' : List ℕ}
          (e : (flow (painted frame' more') held' part' ≡ turn size.width size.height curve r (painted frame 0) (take (at + part - at) (drop at past)))
          × (taken' ≡ record_samples size.width size.height r)) where
        few_more : more' ≤ 3145728
        few_more =
            let same : more' ≡ (turn size.width size.height curve r (painted frame 0) (take (at + part - at) (drop at past))).frame.clipped =
            ap (λ (y : Flow). y.frame.clipped) e.0 in
            omega (arith, turn-few size.width size.height curve r (painted frame 0) (take (at + part - at) (drop at past)), frame_small t.lent.shape)

        pub running_few : Fits w32 (clipped + more')
        running_few = omega (arith, t.few, few_more)

        taken_is : taken' ≡ record_samples size.width size.height (get_or rs i d)
        taken_is = e.1 ∙ ap (record_samples size.width size.height) q.is

        pub running_taken : Fits w32 (samples + taken')
        running_taken = omega (arith, summed_fits t.taken d taken_is q.normal t.lent.shape.wide t.lent.shape.high q.near q.few)

        pub running_more : {floats' : List Float} {ints' : List ℕ} → length frame' ≡ length frame
            → length part' ≡ length (take (at + part - at) (drop at past)) → length floats' ≡ length floats → length ints' ≡ length ints
            → Running size (i + 1) room (at + part) curve rs words was (set records i (with_held held' r)) frame' (clipped + more') (samples + taken')
            (take at past ++ (part' ++ drop (at + part - at) (drop at past))) floats' ints'
        unfolding chain_by
        running_more f p g k =
            let whole : at + part - at ≡ depth_of r.pass * area size = let same : at + part - at ≡ part = omega arith in same ∙ q.parts in
            let now = drop at past in
            let new = with_held held' r in
            let rest = drop (suc i) rs in
            let goes : List ℕ → Ran = λ left. chain size.width size.height curve rest (painted frame' (clipped + more')) left in
            let tail = drop (at + part - at) now in
            let past' = take at past ++ (part' ++ tail) in
            let front : length (take at past) ≡ at = length-take-le at past (omega (arith, part_in)) in
            let both : length (take at past ++ part') ≡ at + part = length-append (take at past) part' ∙ omega (arith, p, part_long, front) in
            let cons : drop i rs ≡ r ∷ rest = drop-cons rs i d q.near ∙ ap (λ (x : Record). x ∷ rest) (sym q.is) in
            let turned : turn size.width size.height curve r (painted frame clipped) (take (depth_of r.pass * area size) now)
            ≡ adding clipped (flow (painted frame' more') held' part') =
            turn_adds size.width size.height clipped curve frame (take (depth_of r.pass * area size) now) r
            ∙ ap (adding clipped) (ap (λ (m : ℕ). turn size.width size.height curve r (painted frame 0) (take m now)) (sym whole) ∙ sym e.0) in
            record {
              near = omega (arith, q.near);
              so_far =
                  t.so_far
                  ∙ ap (λ (qs : List Record). joined (take i records) (take at past) (chain size.width size.height curve qs (painted frame clipped) now)) cons
                  ∙ ap (λ (x : Flow).
                  let y : Ran = chain size.width size.height curve rest x.frame (drop (depth_of r.pass * area size) now) in
                  joined (take i records) (take at past) (ran y.frame (with_held x.held r ∷ y.records) (x.past ++ y.past))) turned
                  ∙ ap (λ (m : ℕ).
                  let y : Ran = goes (drop m now) in
                  joined (take i records) (take at past) (ran y.frame (new ∷ y.records) (part' ++ y.past))) (sym whole)
                  ∙ reshape (take i records) new (take at past) part' tail goes (at + part) both
                  ∙ ap₂ (λ (qs : List Record) (m : ℕ).
                  joined qs (take (at + part) past')
                  (chain size.width size.height curve (drop m rs) (painted frame' (clipped + more')) (drop (at + part) past')))
                  (sym (ap (λ (m : ℕ). take m (set records i new)) (add-one i) ∙ take-suc-set records i new (omega (arith, t.long, q.near)))) (sym (add-one i));
              begins = next-begins ∙ ap (λ (m : ℕ). depth (take m rs) * area size) (sym (add-one i));
              left = drop-set-lt (i + 1) records i new (omega arith) ∙ sym (drop-drop 1 i records) ∙ ap (drop 1) t.left ∙ drop-drop 1 i rs;
              long = length-set records i new ∙ t.long;
              taken = summed_more t.taken d taken_is q.normal t.lent.shape.wide t.lent.shape.high q.near q.few;
              few = omega (arith, t.few, few_more);
              lent = relent t.lent f g k;
              kept =
                  length-append (take at past) (part' ++ tail)
                  ∙ omega (arith, front, length-append part' tail, length-drop (at + part - at) now, length-drop at past, p, part_long, part_in, t.kept);
            }

    -- after the last one
    pub running_all : length rs ≤ i
        → (ran (painted frame clipped) records past ≡ chain size.width size.height curve rs (painted words 0) was)
        × (samples ≡ samples_in size.width size.height rs)
    unfolding chain_by
    running_all l =
        let none : drop i rs ≡ [] = drop_of_length-le rs {i = i} l in (
          sym (t.so_far
              ∙ ap (λ (q : List Record). joined (take i records) (take at past) (chain size.width size.height curve q (painted frame clipped) (drop at past))) none
              ∙ ap₂ (λ (q : List Record) (w : List ℕ). ran (painted frame clipped) q w)
              (append-nil (take i records) ∙ take_all i records (omega (arith, t.long))) (take-append-drop at past)),
          summed_all t.taken l,
        )

-- the record at i is ready for its part
pub running_ready : (size : Size) (rs : List Record) (i room lent part : ℕ) (r d : Record)
    → Readies size rs room lent → i < length rs → r ≡ get_or rs i d → part ≡ depth_of r.pass * area size → Ready size r.pass part lent
running_ready size rs i room lent part r d ready l e long =
    record {
      normal = ap (λ (q : Record). normal_pass q.pass) e ∙ ready.normal i d l;
      past_room = omega (arith, long);
      curve_room = λ c. ready.curve_room i d l (sym (ap (λ (q : Record). reads q.pass) e) ∙ c);
    }
