-- No accepted frame reports more samples than NTSC and bloom take at 64: NTSC and bloom stand at most once in a good chain, and each of the two takes most at 64. And
-- a card of both is accepted, and reports as many at each size. Assumes nothing.
use Prim.Native.Nat.{ℕ, zero, suc, ◌+◌, ◌*◌, ◌≤◌}
use native.Mathlib.Nat.{zero-mul}
use native.Mathlib.Omega.{arith}
use mathlib.Core.Path.{◌≡◌, refl, ap, ◌∙◌, subst}
use mathlib.Core.Bool.{true, false}
use mathlib.Core.List.{List, [], ◌∷◌}
use borrow.Author.Tests.{le-ltb, ne_eqb}
use lib.Ieee.{Float, of_bits, lt, eq}
use lib.ListN.{length, take, get_or}
use Rattle.num.specs.Refusals.{bad_side, unless}
use Rattle.num.specs.Held.{same_held, fine_held}
use Rattle.num.specs.Steps.{clamp_of, plus_zero_of, limit_of}
use Rattle.num.specs.Laws.Bools.{false_true}
use Rattle.passes.specs.Fold.{fold}
use Rattle.passes.specs.Painted.{painted}
use Rattle.cards.specs.Alike.{chain_of}
use Rattle.cards.specs.Answers.{Report, refusal, acceptance, ok}
use Rattle.cards.specs.Bits.{value_at, field_at}
use Rattle.cards.specs.Card.{header_at, records_at, ends_at, end_at, station_at, open_of}
use Rattle.cards.specs.Passes.{kind_of, pass_at, ntsc_at, bloom_at}
use Rattle.cards.specs.Normal.{normal_pass, normal_chain, settled, held_by, holding, good_station}
use Rattle.cards.specs.Records.{record_at}
use Rattle.cards.specs.Settings.{finite_at, limited_at, count_at}
use Rattle.cards.specs.Step.{refuse_if}
use Rattle.cards.specs.Laws.Good.{good}
use Rattle.cards.specs.Laws.Kinds.{kinds, together, as_often}
use Rattle.cards.specs.declared.station.Record.{Record}
use Rattle.chain.specs.Calls.{float_room, stops, frame_reply, frame_reply_by, refusing_frame, shown, shown_by}
use Rattle.chain.specs.Chain.{Ran, chain, record_samples, samples_in, depth, reads_curve}
use Rattle.chain.specs.Dearest.{dearest, Reports, NoneDearer, dearest_station, SomeAsDear}
use Rattle.chain.proofs.Goes.{goes}
use Rattle.chain.proofs.Taken.{most, record_most}

-- ## A chain

module _ (w h : ℕ) where
  summed : (a : ℕ) (rs : List Record) → fold (λ n r. n + record_samples w h r) a rs ≡ a + samples_in w h rs
  unfolding fold
  summed a [] = omega arith
  summed a (r ∷ rs) =
      omega (arith, summed (a + record_samples w h r) rs, summed (0 + record_samples w h r) rs)

  chain-most : (rs : List Record) → normal_chain [] rs ≡ true → samples_in w h rs ≤ dearest w h
  unfolding fold
  chain-most rs n =
      let step : (r : Record) (rs : List Record) → normal_pass r.pass ≡ true → samples_in w h (r ∷ rs) ≤ most w h (kind_of r.pass) + samples_in w h rs
      = λ r rs q. omega (arith, summed (0 + record_samples w h r) rs, record_most w h r q) in
      let all : samples_in w h rs ≤ together (most w h) kinds [] = as_often (most w h) (samples_in w h) (omega arith) step rs [] n in
      omega (arith, all)

-- ## A frame

-- the second number of a report
abbrev second : Report → ℕ
second (refusal k) = 0
second (acceptance ns) = get_or ns 1 0

pub none_dearer : NoneDearer
unfolding frame_reply_by unless shown_by
none_dearer w h s words past floats ints curve samples r = go (stops s w h (length words) (length past) floats ints curve) refl r.is
  where
    go : (k : ℕ) → stops s w h (length words) (length past) floats ints curve ≡ k
        → (unless k (refusing_frame s words past) (shown w h s words past curve)).answer ≡ acceptance (r.clipped ∷ samples ∷ []) → samples ≤ dearest w h
    go zero e a =
        let g = goes s w h (length words) (length past) floats ints curve e in
        subst (λ (n : ℕ). n ≤ dearest w h) (ap second a) (chain-most w h (chain_of s) (good s g.good).normal)
    go (suc k) e a = false_true (ap ok a)

-- ## The card

side_taken : (n : ℕ) → 1 ≤ n → n ≤ 1024 → bad_side n ≡ false
unfolding bad_side
side_taken n a b = rw (ne_eqb n 0 (λ e. omega arith), le-ltb 1024 n b) refl

-- nothing stops a frame of it with enough lent: it keeps no history, and reads no curve
goes_on : (w h words history floats ints : ℕ) (curve : List Float) → bad_side w ≡ false → bad_side h ≡ false → h * w ≤ words → float_room w h ≤ floats → h * w ≤ ints
    → stops dearest_station w h words history floats ints curve ≡ 0
unfolding stops good_station normal_chain normal_pass settled held_by holding fine_held same_held depth reads_curve of_bits lt
goes_on w h words history floats ints curve wide high a b c =
    rw (wide, high, le-ltb words (h * w) a, zero-mul (h * w), le-ltb history 0 (omega arith), le-ltb floats (float_room w h) b, le-ltb ints (h * w) c) refl

takes : (w h : ℕ) → samples_in w h (chain_of dearest_station) ≡ dearest w h
unfolding fold record_samples
takes w h = omega arith

shows : (w h : ℕ) (words past : List ℕ) (floats ints : ℕ) (curve : List Float) → stops dearest_station w h (length words) (length past) floats ints curve ≡ 0
    → Reports (frame_reply w h dearest_station words past floats ints curve).answer (dearest w h)
unfolding frame_reply_by unless shown_by
shows w h words past floats ints curve e =
    let x : Ran = chain w h curve (chain_of dearest_station) (painted (take (h * w) words) 0) past in
    record {
      clipped = x.frame.clipped;
      is =
          ap (λ (k : ℕ). (unless k (refusing_frame dearest_station words past) (shown w h dearest_station words past curve)).answer) e
          ∙ ap (λ (n : ℕ). acceptance (x.frame.clipped ∷ n ∷ [])) (takes w h);
    }

pub some_as_dear : SomeAsDear
unfolding open_of station_at header_at field_at value_at refuse_if records_at end_at ends_at record_at pass_at ntsc_at bloom_at count_at limited_at finite_at of_bits lt eq
    limit_of plus_zero_of clamp_of
some_as_dear = (
  refl,
  λ w h words past floats ints curve a b c d m f k.
      shows w h words past floats ints curve
      (goes_on w h (length words) (length past) floats ints curve (side_taken w a b) (side_taken h c d) m f k),
)
