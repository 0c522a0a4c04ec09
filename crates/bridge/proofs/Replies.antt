-- What the exports answer, case by case. Assumes nothing.
use Prim.Native.Nat.{ℕ, ◌+◌, ◌*◌}
use native.Mathlib.Omega.{arith}
use mathlib.Core.Path.{◌≡◌, refl, ap, ap₂, sym, subst, ◌∙◌}
use mathlib.Core.Bool.{Bool, true, false, cond}
use mathlib.Core.List.{List, [], ◌∷◌}
use borrow.Author.Tests.{ne_eqb}
use mir.Val.{bool_byte}
use lib.Ieee.{Float}
use lib.ListN.{length, drop}
use Rattle.num.specs.Laws.Refusals.{accepts}
use Rattle.num.specs.Laws.Refusals.{refuses as refused}
use Rattle.cards.specs.Answers.{Reply, written, told}
use Rattle.chain.specs.Answers.{reported_frame, reported_switch, called, called_with, cycled, free, Applies}
use Rattle.chain.specs.Calls.{float_room, Framed, framed, frame_reply, depth_reply}
use Rattle.cabinet.specs.Cabinet.{cabinet_reply}
use Rattle.cabinet.specs.Promises.{Shows}
use Rattle.cabinet.specs.Source.{source_stops}
use Rattle.cards.specs.Card.{opened, open_of}
use Rattle.cards.specs.Write.{write_reply, write_into}
use Rattle.std.specs.Prelude.{Result, Ok, Err}
use Rattle.num.specs.Refusals.{number_of}
use Rattle.num.specs.Laws.Refusals.{number-some}
use Rattle.num.specs.declared.refusal.Refusal.{Refusal}
use Rattle.num.specs.declared.refusal.Refusal.TheVariants as R
use Rattle.passes.specs.declared.blur.Counts.{Counts}
use Rattle.cards.specs.declared.station.Station.{Station}
use Rattle.bridge.specs.Outcomes.{Outcome, outcome, answered, damaged, opening, on_state, answered_with, depth_set, question_of, write_told, write_left}
use Rattle.bridge.specs.Outcomes.{Shown, shown, framed_number, framed_shown, Kept, framed_on, frame_shown, freed, Leaves, Frames}
use Rattle.bridge.specs.Cabinets.{cabinet_shown, ShowsSource}
use Rattle.bridge.specs.State.{encoded, station_in, is_state, decoded}

-- ## An opened card

pub opens : (card b new : List ℕ) (r : Result Station Refusal) (s : Station) → opened r ≡ open_of card → r ≡ Ok s → new ≡ encoded s → outcome 0 new ≡ opening card b
unfolding opening
opens card b new r s e h i =
    ap (outcome 0) i ∙ ap (λ (x : Result Station Refusal). answered b (opened x)) (sym h) ∙ ap (answered b) e

pub opens_none : (card b : List ℕ) (r : Result Station Refusal) (k : Refusal) (n : ℕ) → opened r ≡ open_of card → r ≡ Err k → n ≡ 256 + number_of k
    → outcome n b ≡ opening card b
unfolding opening
opens_none card b r k n e h i =
    ap (λ (m : ℕ). outcome m b) i ∙ ap (λ (x : Result Station Refusal). answered b (opened x)) (sym h) ∙ ap (answered b) e

-- ## Bytes that were read

-- they are a state, and this is its station
pub record Read (b : List ℕ) (s : Station) : Type 0 where
  pub sound : is_state b ≡ true
  pub station : s ≡ station_in b

module _ (b : List ℕ) (r : Result Station Refusal) (decodes : r ≡ decoded b) where
  pub read : (s : Station) → r ≡ Ok s → Read b s
  unfolding decoded
  read s e = go (is_state b) (sym e ∙ decodes) refl
    where
      go : (t : Bool) → Ok s ≡ cond t (Ok (station_in b)) (Err R.BadStation) → is_state b ≡ t → Read b s
      go true h i = record { sound = i; station = cc }
      go false h i = cc

  -- they are none
  pub unread : (k : Refusal) → r ≡ Err k → is_state b ≡ false
  unfolding decoded
  unread k e = go (is_state b) (sym e ∙ decodes) refl
    where
      go : (t : Bool) → Err k ≡ cond t (Ok (station_in b)) (Err R.BadStation) → is_state b ≡ t → is_state b ≡ false
      go true h i = cc
      go false h i = i

-- ## A call's answer

-- kept, or refused
pub keeps : (b new : List ℕ) (r : Result (Unit {0}) Refusal) (s : Station) (u : Unit {0}) → r ≡ Ok u → new ≡ encoded s → outcome 0 new ≡ answered b (called r s)
keeps b new r s u e f = ap (outcome 0) f ∙ ap (λ (x : Result (Unit {0}) Refusal). answered b (called x s)) (sym e)

pub refuses : (b : List ℕ) (r : Result (Unit {0}) Refusal) (s : Station) (k : Refusal) (n : ℕ) → r ≡ Err k → n ≡ 256 + number_of k → outcome n b ≡ answered b (called r s)
refuses b r s k n e f = ap (λ (m : ℕ). outcome m b) f ∙ ap (λ (x : Result (Unit {0}) Refusal). answered b (called x s)) (sym e)

-- a preset step
pub steps : (b new : List ℕ) (r : Result ℕ Refusal) (s : Station) (p : ℕ) → r ≡ Ok p → new ≡ encoded s → outcome p new ≡ answered b (cycled r s)
steps b new r s p e f = ap (outcome p) f ∙ ap (λ (x : Result ℕ Refusal). answered b (cycled x s)) (sym e)

pub no_step : (b : List ℕ) (r : Result ℕ Refusal) (s : Station) (k : Refusal) (n : ℕ) → r ≡ Err k → n ≡ 256 + number_of k → outcome n b ≡ answered b (cycled r s)
no_step b r s k n e f = ap (λ (m : ℕ). outcome m b) f ∙ ap (λ (x : Result ℕ Refusal). answered b (cycled x s)) (sym e)

-- ## Calls that leave the state

module _ (f : Station → Reply) (b : List ℕ) where
  pub on_none : (n : ℕ) → is_state b ≡ false → n ≡ damaged → outcome n b ≡ on_state f b
  unfolding on_state
  on_none n u e = rw u (ap (λ (m : ℕ). outcome m b) e)

  pub on-station : (s : Station) (a : Reply) (x : Outcome) → Read b s → a ≡ f s → x ≡ answered b a → x ≡ on_state f b
  unfolding on_state
  on-station s a x t e h = rw t.sound (h ∙ ap (answered b) (e ∙ ap f t.station))

-- ## A new depth

module _ (d : ℕ) (b past : List ℕ) where
  pub depth_none : (n : ℕ) → is_state b ≡ false → n ≡ damaged → (outcome n b, past) ≡ depth_set d b past
  unfolding depth_set
  depth_none n u e = rw u (ap (λ (m : ℕ). (outcome m b, past)) e)

  pub depth-some : (s : Station) (r : Result (Unit {0}) Refusal) (s' : Station) (x : Outcome) (past' : List ℕ) → Read b s → called_with r s' past' ≡ depth_reply d s past → x ≡ answered b (called r s')
      → (x, past') ≡ depth_set d b past
  unfolding depth_set
  depth-some s r s' x past' t e h =
      rw t.sound
      (ap (λ (y : Outcome). (y, past')) h ∙ ap (answered_with b) (e ∙ ap (λ (u : Station). depth_reply d u past) t.station))

-- ## Questions

module _ (f : Station → ℕ) (b : List ℕ) where
  pub question_none : (n : ℕ) → is_state b ≡ false → n ≡ damaged → n ≡ question_of f b
  unfolding question_of
  question_none n u e = rw u e

  pub question_some : (s : Station) (n : ℕ) → Read b s → n ≡ f s → n ≡ question_of f b
  unfolding question_of
  question_some s n t e = rw t.sound (e ∙ ap f t.station)

-- a position as it is told
pub told_switch : (on : Bool) → bool_byte on ≡ told (reported_switch (Ok on))
told_switch true = refl
told_switch false = refl

-- ## Writing

pub write_none : (b buf : List ℕ) (n : ℕ) → is_state b ≡ false → n ≡ damaged → (n ≡ write_told b buf) × (buf ≡ write_left b buf)
unfolding write_told write_left
write_none b buf n u e = (rw u e, rw u refl)

pub write_some : (b buf new : List ℕ) (s : Station) (r : Result ℕ Refusal) (n : ℕ) → Read b s → written r s ≡ write_reply s buf → new ≡ write_into s buf
    → n ≡ told (written r s).answer → (n ≡ write_told b buf) × (new ≡ write_left b buf)
unfolding write_told write_left
write_some b buf new s r n t e f h = (
  rw t.sound (h ∙ ap (λ (q : Reply). told q.answer) (e ∙ ap (λ (q : Station). write_reply q buf) t.station)),
  rw t.sound (f ∙ ap (λ (q : Station). write_into q buf) t.station),
)

-- ## Frame

freed-is : (r : Result Counts Refusal) (k : ℕ) → freed (framed_number (reported_frame r)) k ≡ free r k
freed-is (Ok c) k = refl
freed-is (Err e) k = rw (ne_eqb (256 + number_of e) 0 (λ z. omega (arith, z)))

-- how a frame's answer is kept: that it is shown, with its two numbers, or refused
module _ (b old : List ℕ) (r : Result Counts Refusal) (s : Station) where
  by_answer : {a : Result Counts Refusal} {n : ℕ} {b' new : List ℕ} → r ≡ a → Kept b old a s n b' new → Kept b old r s n b' new
  by_answer {n} {b'} {new} e k = subst (λ (x : Result Counts Refusal). Kept b old x s n b' new) (sym e) k

  pub keeps_shown : (b' : List ℕ) (c : Counts) → r ≡ Ok c → b' ≡ encoded s → Kept b old r s 0 b' (c.clipped ∷ c.samples ∷ [])
  keeps_shown b' c e f = by_answer e (refl, f, refl)

  pub keeps_refused : (k : Refusal) (n : ℕ) → r ≡ Err k → n ≡ 256 + number_of k → Kept b old r s n b old
  keeps_refused k n e f = by_answer e (f, refl, refl)

-- what a frame tells, with the words that it left
module _ (b old words past : List ℕ) (r : Result Counts Refusal) (s : Station) where
  abbrev tells : Shown
  tells = framed_shown b old (framed (reported_frame r) s words past)

  pub kept-tells : (n : ℕ) (b' new : List ℕ) → Kept b old r s n b' new → shown n b' words past new ≡ tells
  kept-tells n b' new k =
      ap (λ (m : ℕ). shown m b' words past new) k.0 ∙ ap₂ (λ (z y : List ℕ). shown (framed_number (reported_frame r)) z words past y) k.1 k.2

-- a frame by what it replies, which may use `room` and `count` words of the scratches
module _ (f : Station → Framed) (room count : ℕ) (b words past : List ℕ) (floats : List Float) (ints : List ℕ) (old : List ℕ) where
  abbrev Left : (n : ℕ) (b' words' past' : List ℕ) (floats' : List Float) (ints' new : List ℕ) → Type 0
  Left = Leaves (framed_on f b words past old) room count floats ints

  pub framed_none : (n : ℕ) → is_state b ≡ false → n ≡ damaged → Left n b words past floats ints old
  unfolding framed_on
  framed_none n u e =
      record { replies = rw u (ap (λ (m : ℕ). shown m b words past old) e); floats_stay = refl; ints_stay = refl }

  pub framed-some : (s : Station) (r : Result Counts Refusal) (s' : Station) (n : ℕ) (b' words' past' : List ℕ) (floats' : List Float) (ints' new : List ℕ) → Read b s
      → framed (reported_frame r) s' words' past' ≡ f s → drop (free r room) floats' ≡ drop (free r room) floats
      → drop (free r count) ints' ≡ drop (free r count) ints → shown n b' words' past' new ≡ tells b old words' past' r s'
      → Left n b' words' past' floats' ints' new
  unfolding framed_on
  framed-some s r s' n b' words' past' floats' ints' new t replies floats_stay ints_stay e =
      let same : (k : ℕ) → freed n k ≡ free r k = λ k. ap (λ (o : Shown). freed o.number k) e ∙ freed-is r k in
      record {
        replies = rw t.sound (e ∙ ap (framed_shown b old) (replies ∙ ap f t.station));
        floats_stay = subst (λ (j : ℕ). drop j floats' ≡ drop j floats) (sym (same room)) floats_stay;
        ints_stay = subst (λ (j : ℕ). drop j ints' ≡ drop j ints) (sym (same count)) ints_stay;
      }

-- the chain's own frame
module _ (w h : ℕ) (b words past : List ℕ) (floats : List Float) (ints : List ℕ) (curve : List Float) (old : List ℕ) where
  abbrev by_chain : Station → Framed
  by_chain s = frame_reply w h s words past (length floats) (length ints) curve

  frames : (n : ℕ) (b' words' past' : List ℕ) (floats' : List Float) (ints' new : List ℕ)
      → Leaves (framed_on by_chain b words past old) (float_room w h) (h * w) floats ints n b' words' past' floats' ints' new
      → Frames w h b words past floats ints curve old n b' words' past' floats' ints' new
  unfolding framed_on frame_shown
  frames n b' words' past' floats' ints' new l = record { replies = l.replies; floats_stay = l.floats_stay; ints_stay = l.ints_stay }

  pub frame_none : (n : ℕ) → is_state b ≡ false → n ≡ damaged → Frames w h b words past floats ints curve old n b words past floats ints old
  frame_none n u e = frames n b words past floats ints old (framed_none by_chain (float_room w h) (h * w) b words past floats ints old n u e)

  pub frame_some : (s : Station) (r : Result Counts Refusal) (s' : Station) (n : ℕ) (b' words' past' : List ℕ) (floats' : List Float) (ints' new : List ℕ) → Read b s
      → Applies w h s words past floats ints curve r s' words' past' floats' ints' → shown n b' words' past' new ≡ tells b old words' past' r s'
      → Frames w h b words past floats ints curve old n b' words' past' floats' ints' new
  frame_some s r s' n b' words' past' floats' ints' new t a e =
      frames n b' words' past' floats' ints' new
      (framed-some by_chain (float_room w h) (h * w) b words past floats ints old s r s' n b' words' past' floats' ints' new t a.replies a.floats_stay
      a.ints_stay e)

-- a source under the chain
module _ (w h : ℕ) (picture colours b words past : List ℕ) (floats : List Float) (ints : List ℕ) (curve : List Float) (old : List ℕ) where
  abbrev by_cabinet : Station → Framed
  by_cabinet s = cabinet_reply w h picture colours s words past (length floats) (length ints) curve

  abbrev LeftBy : (n : ℕ) (b' words' past' : List ℕ) (floats' : List Float) (ints' new : List ℕ) → Type 0
  LeftBy = ShowsSource w h picture colours b words past floats ints curve old

  -- the source is refused
  pub source_none : (k : Refusal) (n : ℕ) → number_of k ≡ source_stops w h (length picture) (length colours) → n ≡ 256 + number_of k → LeftBy n b words past floats ints old
  unfolding cabinet_shown
  source_none k n asks e = record {
    replies = ap (λ (m : ℕ). shown m b words past old) e ∙ refused (number_of k) (λ j. shown (256 + j) b words past old) _ asks (number-some k);
    floats_stay = refl;
    ints_stay = refl;
  }

  -- it is good: then all is as by the frame's reply
  module _ (good : 0 ≡ source_stops w h (length picture) (length colours)) where
    passed : {n : ℕ} {b' words' past' : List ℕ} {floats' : List Float} {ints' new : List ℕ}
        → Leaves (framed_on by_cabinet b words past old) (float_room (3 * w) (3 * h)) (3 * h * (3 * w)) floats ints n b' words' past' floats' ints' new
        → LeftBy n b' words' past' floats' ints' new
    unfolding cabinet_shown
    passed l = record {
      replies = l.replies ∙ accepts 0 (λ j. shown (256 + j) b words past old) _ good refl;
      floats_stay = l.floats_stay;
      ints_stay = l.ints_stay;
    }

    pub shown_none : (n : ℕ) → is_state b ≡ false → n ≡ damaged → LeftBy n b words past floats ints old
    shown_none n u e = passed (framed_none by_cabinet (float_room (3 * w) (3 * h)) (3 * h * (3 * w)) b words past floats ints old n u e)

    pub shown-some : (s : Station) (r : Result Counts Refusal) (s' : Station) (n : ℕ) (b' words' past' : List ℕ) (floats' : List Float) (ints' new : List ℕ) → Read b s
        → Shows w h picture colours s words past floats ints curve r s' words' past' floats' ints' → shown n b' words' past' new ≡ tells b old words' past' r s'
        → LeftBy n b' words' past' floats' ints' new
    shown-some s r s' n b' words' past' floats' ints' new t a e =
        passed (framed-some by_cabinet (float_room (3 * w) (3 * h)) (3 * h * (3 * w)) b words past floats ints old s r s' n b' words' past' floats' ints' new t
        a.replies a.floats_stay a.ints_stay e)
