-- The records of a chain, one by one: one that is no persistence or off changes the frame alone, persistence that is on works on its own part of the history.
-- What a chain keeps: the length of frame and history, the words past its places, and its passes. Assumes nothing.
use Prim.Native.Nat.{ℕ, ◌+◌, ◌-◌, ◌*◌, ◌≤◌}
use native.Mathlib.Nat.{add-mul}
use native.Mathlib.Omega.{arith}
use mathlib.Core.Path.{◌≡◌, refl, ap, sym, ◌∙◌}
use mathlib.Core.Bool.{Bool, true, false, ◌&&◌, ◌||◌, cond}
use mathlib.Core.List.{List, [], ◌∷◌, ◌++◌}
use borrow.Author.Tests.{leb-true, eq-eqb}
use lib.Dec.{leb, eqb}
use lib.Ieee.{Float}
use lib.ListN.{length, take, drop, length-append, length-drop}
use lib.Seq.{length-take-le, drop-drop, drop-append-add}
use Rattle.num.specs.Const.{c0_0, c0_95}
use Rattle.num.specs.Held.{Held, nothing, sized, same_held}
use Rattle.num.specs.Laws.Bools.{both, false_true, or-second}
use Rattle.passes.specs.Flow.{Flow, flow}
use Rattle.passes.specs.Painted.{Painted, onto}
use Rattle.passes.specs.Laws.Lengths.{persistence-held}
use Rattle.passes.specs.Plain.Persistence.{persistence}
use Rattle.chain.specs.Chain.{wash, paint, over, over_by, turn, turn_by, with_held, chain, chain_by, depth_of, depth}
use Rattle.cards.specs.Normal.{settled, normal_pass, glows, may_hold, holding}
use Rattle.cards.specs.Passes.{kind_of}
use Rattle.cards.specs.declared.station.Pass.{Pass}
use Rattle.cards.specs.declared.station.Pass.TheVariants.{Persistence}
use Rattle.cards.specs.declared.station.Record.{Record}
use Rattle.chain.proofs.Changed.{passes}
use Rattle.chain.proofs.PassCases.{by_memory, over_frame, over-past}

-- ## Persistence that is on

pub record Glow (r : Record) : Type 0 where
  pub amount : Float
  pub depth : ℕ
  pub is : r.pass ≡ Persistence amount depth
  pub is-on : r.on ≡ true

pub glow : (r : Record) → glows r ≡ true → Glow r
glow r e =
    let d = both r.on (eqb (kind_of r.pass) 4) e in
    by_memory (λ p. r.pass ≡ p → eqb (kind_of p) 4 ≡ true → Glow r)
    (λ amount k same z. record { amount = amount; depth = k; is = same; is-on = d.0 })
    (λ p m same z. false_true (sym m.kind ∙ z))
    r.pass refl d.1

-- it has places
pub glow_deep : (r : Record) → normal_pass r.pass ≡ true → (g : Glow r) → (depth_of r.pass ≡ g.depth) × (1 ≤ g.depth)
unfolding normal_pass
glow_deep r n g =
    let normal : settled c0_0 c0_95 g.amount && (leb 1 g.depth && leb g.depth 8) ≡ true = ap normal_pass (sym g.is) ∙ n in
    (ap depth_of g.is, leb-true 1 g.depth (both (leb 1 g.depth) _ (both (settled c0_0 c0_95 g.amount) _ normal).1).0)

-- ## One record

module _ (w h : ℕ) (curve : List Float) (r : Record) where
  -- what one that is no persistence that is on makes of a frame
  abbrev pub tint : Painted → Painted
  tint frame = cond r.on (onto (paint w h curve r.pass) frame) frame

  pub turn_idle : (frame : Painted) (past : List ℕ) → glows r ≡ false → turn w h curve r frame past ≡ flow (tint frame) r.held past
  unfolding turn_by over_by wash
  turn_idle frame past e = go r.on e
    where
      go : (b : Bool) → b && eqb (kind_of r.pass) 4 ≡ false
          → cond b (over w h curve r.pass (flow frame r.held past)) (flow frame r.held past)
          ≡ flow (cond b (onto (paint w h curve r.pass) frame) frame) r.held past
      go true z =
          by_memory (λ p. eqb (kind_of p) 4 ≡ false → over w h curve p (flow frame r.held past) ≡ flow (onto (paint w h curve p) frame) r.held past)
          (λ amount k y. false_true (sym y)) (λ p m y. m.whole w h curve (flow frame r.held past)) r.pass z
      go false z = refl

  pub turn_glow : (frame : Painted) (past : List ℕ) (g : Glow r)
      → turn w h curve r frame past ≡ persistence g.amount g.depth (sized w h) (flow frame r.held past)
  unfolding turn_by over_by
  turn_glow frame past g = rw (g.is-on, g.is)

  pub turn_frame : (frame : Painted) (past : List ℕ) → length (turn w h curve r frame past).frame.words ≡ length frame.words
  unfolding turn_by
  turn_frame frame past = go r.on
    where
      go : (b : Bool) → length (cond b (over w h curve r.pass (flow frame r.held past)) (flow frame r.held past)).frame.words ≡ length frame.words
      go true = over_frame w h curve (flow frame r.held past) r.pass
      go false = refl

  pub turn-past : (frame : Painted) (past : List ℕ) → depth_of r.pass * length frame.words ≤ length past
      → length (turn w h curve r frame past).past ≡ length past
  unfolding turn_by
  turn-past frame past room = go r.on
    where
      go : (b : Bool) → length (cond b (over w h curve r.pass (flow frame r.held past)) (flow frame r.held past)).past ≡ length past
      go true = over-past w h curve (flow frame r.held past) r.pass room
      go false = refl

  -- what it then holds: frames of this size, or nothing
  pub turn_holds : (size : Held) (frame : Painted) (past : List ℕ) → may_hold size r ≡ true
      → may_hold (sized w h) (with_held (turn w h curve r frame past).held r) ≡ true
  unfolding same_held
  turn_holds size frame past may = go (glows r) refl
    where
      first_of : (a b c : Bool) → c ≡ false → a || (b && c) ≡ true → a ≡ true
      first_of true b c z e = refl
      first_of false true c z e = false_true (sym z ∙ e)
      first_of false false c z e = false_true e

      go : (b : Bool) → glows r ≡ b → may_hold (sized w h) (with_held (turn w h curve r frame past).held r) ≡ true
      go true e =
          let g = glow r e in
          let new : (turn w h curve r frame past).held ≡ sized w h =
          ap (λ (y : Flow). y.held) (turn_glow frame past g) ∙ persistence-held g.amount g.depth (sized w h) (flow frame r.held past) in
          rw (new, eq-eqb w w refl, eq-eqb h h refl, e) (or-second (same_held (sized w h) nothing) true refl)
      go false e =
          let none : same_held r.held nothing ≡ true = first_of (same_held r.held nothing) (same_held r.held size) (glows r) e may in
          rw (ap (λ (y : Flow). y.held) (turn_idle frame past e), none)

-- ## A chain

module _ (w h : ℕ) (curve : List Float) where
  pub chain_frame : (rs : List Record) (frame : Painted) (past : List ℕ) → length (chain w h curve rs frame past).frame.words ≡ length frame.words
  unfolding chain_by
  chain_frame [] frame past = refl
  chain_frame (r ∷ rs) frame past =
      let x = turn w h curve r frame (take (depth_of r.pass * (h * w)) past) in
      chain_frame rs x.frame (drop (depth_of r.pass * (h * w)) past) ∙ turn_frame w h curve r frame (take (depth_of r.pass * (h * w)) past)

  pub chain-passes : (rs : List Record) (frame : Painted) (past : List ℕ) → passes (chain w h curve rs frame past).records ≡ passes rs
  unfolding chain_by
  chain-passes [] frame past = refl
  chain-passes (r ∷ rs) frame past =
      let x = turn w h curve r frame (take (depth_of r.pass * (h * w)) past) in
      ap (λ (l : List Pass). r.pass ∷ l) (chain-passes rs x.frame (drop (depth_of r.pass * (h * w)) past))

  pub chain-holding : (size : Held) (rs : List Record) → holding size rs ≡ true → (frame : Painted) (past : List ℕ)
      → holding (sized w h) (chain w h curve rs frame past).records ≡ true
  unfolding chain_by holding
  chain-holding size [] e frame past = refl
  chain-holding size (r ∷ rs) e frame past =
      let d = both (may_hold size r) (holding size rs) e in
      let room = depth_of r.pass * (h * w) in
      let x = turn w h curve r frame (take room past) in
      rw (turn_holds w h curve r size frame (take room past) d.0, chain-holding size rs d.1 x.frame (drop room past))

  -- the history keeps its length, and the words past the places
  pub chain-past : (rs : List Record) (frame : Painted) (past : List ℕ) → length frame.words ≡ h * w → depth rs * (h * w) ≤ length past
      → (length (chain w h curve rs frame past).past ≡ length past)
      × (drop (depth rs * (h * w)) (chain w h curve rs frame past).past ≡ drop (depth rs * (h * w)) past)
  unfolding chain_by depth
  chain-past [] frame past long fits = (refl, refl)
  chain-past (r ∷ rs) frame past long fits =
      let count = h * w in
      let room = depth_of r.pass * count in
      let sum : (depth_of r.pass + depth rs) * count ≡ room + depth rs * count = add-mul (depth_of r.pass) (depth rs) count in
      let x = turn w h curve r frame (take room past) in
      let front : length (take room past) ≡ room = length-take-le room past (omega arith) in
      let own : length x.past ≡ room = turn-past w h curve r frame (take room past) (rw long (omega arith)) ∙ front in
      let rest : length (drop room past) ≡ length past - room = length-drop room past in
      let ih = chain-past rs x.frame (drop room past) (turn_frame w h curve r frame (take room past) ∙ long) (omega arith) in
      let y = chain w h curve rs x.frame (drop room past) in (
        length-append x.past y.past ∙ omega (arith, ih.0),
        ap (λ (n : ℕ). drop n (x.past ++ y.past)) (sum ∙ ap (λ (n : ℕ). n + depth rs * count) (sym own))
            ∙ drop-append-add x.past y.past (depth rs * count)
            ∙ ih.1
            ∙ drop-drop (depth rs * count) room past
            ∙ ap (λ (n : ℕ). drop n past) (sym sum),
      )
