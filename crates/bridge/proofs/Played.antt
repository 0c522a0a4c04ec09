-- What playing a sheet through the bytes of a state tells, case by case. Assumes nothing.
use Prim.Native.Nat.{ℕ, ◌+◌}
use mathlib.Core.Path.{◌≡◌, refl, ap, ap₂, sym, subst, ◌∙◌}
use mathlib.Core.Bool.{false}
use mathlib.Core.List.{List, [], ◌∷◌}
use lib.Ieee.{Float}
use lib.ListN.{drop}
use Rattle.cards.specs.Answers.{Report, left}
use Rattle.cards.specs.declared.station.Station.{Station}
use Rattle.chain.specs.Agree.{opened}
use Rattle.sheets.specs.Play.{Lent, Outcome, play_of}
use Rattle.sheets.specs.Promises.{lent_of, reported_play, Plays}
use Rattle.sheets.specs.declared.play.Played.{Played}
use Rattle.std.specs.Prelude.{Result, Ok, Err}
use Rattle.num.specs.Refusals.{number_of}
use Rattle.num.specs.declared.refusal.Refusal.{Refusal}
use Rattle.bridge.specs.Outcomes.{damaged, Shown, shown, framed_number, framed_reports}
use Rattle.bridge.specs.Sheets.{played_on, played_shown, play_shown, played_in, PlaysSheet}
use Rattle.bridge.specs.State.{encoded, is_state}
use Rattle.bridge.proofs.Replies.{Read}

-- what is told of an answer, with the two numbers or refused
module _ (b old words past : List ℕ) (s : Station) where
  abbrev tells : Report → Shown
  tells a = shown (framed_number a) (left a b (encoded s)) words past (framed_reports a old)

  pub plays : (r : Result Played Refusal) (new : List ℕ) (p : Played) → r ≡ Ok p → new ≡ encoded s
      → shown 0 new words past (p.accepted ∷ p.refused ∷ []) ≡ tells (reported_play r)
  plays r new p e f =
      ap (λ (z : List ℕ). shown 0 z words past (p.accepted ∷ p.refused ∷ [])) f ∙ ap (λ (x : Result Played Refusal). tells (reported_play x)) (sym e)

  pub plays_none : (r : Result Played Refusal) (k : Refusal) (n : ℕ) → r ≡ Err k → n ≡ 256 + number_of k → shown n b words past old ≡ tells (reported_play r)
  plays_none r k n e f = ap (λ (m : ℕ). shown m b words past old) f ∙ ap (λ (x : Result Played Refusal). tells (reported_play x)) (sym e)

module _ (sheet b words past : List ℕ) (floats : List Float) (ints : List ℕ) (curve : List Float) (old : List ℕ) where
  abbrev lent : Lent
  lent = lent_of past floats ints curve

  -- the bytes are no state
  pub sheet_none : (n : ℕ) → is_state b ≡ false → n ≡ damaged → PlaysSheet sheet b words past floats ints curve old n b words past floats ints old
  unfolding play_shown
  sheet_none n u e = record { replies = rw u (ap (λ (m : ℕ). shown m b words past old) e); floats_stay = refl; ints_stay = refl }

  -- they are one, and the sheet was played on its station
  pub sheet-some : (s : Station) (r : Result Played Refusal) (s' : Station) (n : ℕ) (b' words' past' : List ℕ) (floats' : List Float) (ints' new : List ℕ) → Read b s
      → Plays (play_of lent sheet (opened s past) words) r s' words' past' floats floats' ints ints' → shown n b' words' past' new ≡ tells b old words' past' s' (reported_play r)
      → PlaysSheet sheet b words past floats ints curve old n b' words' past' floats' ints' new
  unfolding play_shown played_in
  sheet-some s r s' n b' words' past' floats' ints' new t a e =
      let o : Outcome = play_of lent sheet (opened s past) words in
      let same : o ≡ played_on lent sheet b words past = ap (λ (q : Station). play_of lent sheet (opened q past) words) t.station in
      let told : tells b old words' past' s' (reported_play r) ≡ played_shown b old o =
      ap₂ (λ (x : Report) (q : Station). tells b old words' past' q x) a.answers a.leaves.station
      ∙ ap₂ (λ (x y : List ℕ). tells b old x y o.playing.state.station o.answer) a.leaves.words a.leaves.past in
      record {
        replies = rw t.sound (e ∙ told ∙ ap (played_shown b old) same);
        floats_stay = rw t.sound (subst (λ (x : Outcome). drop x.playing.free_floats floats' ≡ drop x.playing.free_floats floats) same a.leaves.floats_stay);
        ints_stay = rw t.sound (subst (λ (x : Outcome). drop x.playing.free_ints ints' ≡ drop x.playing.free_ints ints) same a.leaves.ints_stay);
      }
