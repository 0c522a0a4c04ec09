-- `sheets::pixels::unpack` meets its contract: as many words as there are fours, and then the rest. Assumes nothing.
use Prim.Native.Nat.{ℕ, ◌+◌, ◌*◌, ◌-◌, ◌/◌}
use mathlib.Core.Path.{◌≡◌, sym, ap}
use native.Mathlib.Omega.{arith}
use lib.ListN.{length, take}
use lib.Seq.{length-take-le}
use Rattle.cards.specs.Bits.{value_at}
use Rattle.sheets.specs.Promises.{word_at}
use Rattle.sheets.proofs.Words.{two_parts}
use Rattle.sheets.proofs.pixels.unpack.Goals as goal
use Rattle.sheets.proofs.pixels.unpack.Lts as lts
use Rattle.sheets.proofs.pixels.unpack.Reads as reads
use Rattle.sheets.proofs.pixels.unpack.Tie as tie

module _ (s : lts.Start tie.the-claims reads.Pre reads.Post) where
  abbrev first : ℕ
  first = (s.args.from - 1) / 8

  abbrev below : ℕ
  below = 8 * first + 8 - s.args.from

  abbrev fours : ℕ
  fours = length s.args.words.now / 4 * 4

  -- where word k stands
  place : (k : ℕ) → 8 * (first + 3 * k) + 8 - below ≡ s.args.from + 24 * k
  place k = omega (arith, s.requires.0)

  word : (k : ℕ) → word_at s.args.sheet.now first below k ≡ value_at s.args.sheet.now (s.args.from + 24 * k) 24
  word k = ap (λ (p : ℕ). value_at s.args.sheet.now p 24) (place k)

  long : length (take fours s.args.words.now) ≡ fours
  long = length-take-le fours s.args.words.now (omega arith)

pub slice_bounds-by_four-end-2 : goal.slice_bounds-by_four-end-2
slice_bounds-by_four-end-2 c = sym (long c.before.before.before.before)

pub by_four-requires : goal.by_four-requires
by_four-requires c = (omega (arith, long c.before.before.before.before), (omega (arith, c.requires), omega (arith, c.requires, long c.before.before.before.before)))

pub returns : goal.returns
returns c = two_parts (λ k. value_at c.args.sheet.now (c.args.from + 24 * k) 24) (word_at c.args.sheet.now (first c.before.before.before.before.before.before.before.before.before.before.before) (below c.before.before.before.before.before.before.before.before.before.before.before))
    (word_at c.args.sheet.now (first c.before.before.before.before.before.before.before.before.before.before.before + 3 * fours c.before.before.before.before.before.before.before.before.before.before.before) (below c.before.before.before.before.before.before.before.before.before.before.before)) (fours c.before.before.before.before.before.before.before.before.before.before.before) c.args.words.now _ _ (omega arith) (word c.before.before.before.before.before.before.before.before.before.before.before)
    (λ k. ap (λ (p : ℕ). value_at c.args.sheet.now p 24) (omega (arith, c.requires.0))) c.by_four.ensures c.one_by_one.ensures
