-- `sheets::pixels::by_four` meets its contract: four words after four words. Assumes nothing.
use Prim.Native.Nat.{ℕ, ◌+◌, ◌%◌, ◌<◌}
use mathlib.Core.Path.{◌≡◌, refl, sym, ◌∙◌}
use native.Mathlib.Omega.{arith}
use lib.ListN.{length}
use Rattle.num.specs.Laws.Rewrite.{none, all}
use Rattle.sheets.specs.Promises.{word_at}
use Rattle.sheets.proofs.Words.{one_more, so_many}
use Rattle.sheets.proofs.pixels.by_four.Goals as goal
use Rattle.sheets.proofs.pixels.by_four.Lts as lts
use Rattle.sheets.proofs.pixels.by_four.Reads as reads
use Rattle.sheets.proofs.pixels.by_four.Tie as tie

-- where one word is left of as many as there are fours, four are
four-left : (n i : ℕ) → n % 4 ≡ 0 → i % 4 ≡ 0 → i < n → i + 3 < n
four-left n i m k h = omega (arith, m, k, h)

-- a turn, once its first word is put
module _ (c : lts.After-put tie.the-claims reads.Pre reads.Post goal.the-invariant-loop-i goal.the-decreases-loop-i) where
  abbrev start : lts.Start tie.the-claims reads.Pre reads.Post goal.the-invariant-loop-i goal.the-decreases-loop-i
  start = c.before.before.before.before.before.before

  abbrev i : ℕ
  i = c.loop-i.i

  abbrev rule : ℕ → ℕ
  rule = word_at start.args.sheet.now start.args.first start.args.below

  room : i + 3 < length start.args.words.now
  room = four-left _ _ start.requires.0 c.loop-i.invariant.0 (omega (arith, c.loop-i-test.true, c.loop-i.invariant.1.kept))

  long : length start.args.words.now ≡ length c.loop-i.words
  long = omega (arith, c.loop-i.invariant.1.kept)

pub loop-i-init : goal.loop-i-init
loop-i-init c = (omega arith, none _ _)

pub put-requires : goal.put-requires
put-requires c = (c.loop-i-test.true, (c.requires.1.0, omega (arith, c.requires.1.1, c.loop-i.invariant.1.kept)))

pub put-requires-in-loop-i : goal.put-requires-in-loop-i
put-requires-in-loop-i c = let same = c.put.auto.words in
    (omega (arith, room c.before.before.before.before, long c.before.before.before.before, same), (c.requires.1.0, omega (arith, c.requires.1.1, long c.before.before.before.before, same)))

pub put-requires-in-loop-i-2 : goal.put-requires-in-loop-i-2
put-requires-in-loop-i-2 c = let same = c.put-in-loop-i.auto.words ∙ c.put.auto.words in
    (omega (arith, room c.before.before.before.before.before.before.before.before, long c.before.before.before.before.before.before.before.before, same), (c.requires.1.0, omega (arith, c.requires.1.1, long c.before.before.before.before.before.before.before.before, same)))

pub put-requires-in-loop-i-3 : goal.put-requires-in-loop-i-3
put-requires-in-loop-i-3 c = let same = c.put-in-loop-i-2.auto.words ∙ c.put-in-loop-i.auto.words ∙ c.put.auto.words in
    (omega (arith, room c.before.before.before.before.before.before.before.before.before.before.before.before, long c.before.before.before.before.before.before.before.before.before.before.before.before, same), (c.requires.1.0, omega (arith, c.requires.1.1, long c.before.before.before.before.before.before.before.before.before.before.before.before, same)))

pub loop-i-preserved : goal.loop-i-preserved
loop-i-preserved c = let two : length c.put-in-loop-i.new.words ≡ length c.args.words.now = c.put-in-loop-i.auto.words ∙ c.put.auto.words ∙ sym (long c.before.before.before.before.before.before.before.before.before.before.before.before.before.before.before) in
    let one = one_more (rule c.before.before.before.before.before.before.before.before.before.before.before.before.before.before.before) c.loop-i.invariant.1 refl (omega (arith, room c.before.before.before.before.before.before.before.before.before.before.before.before.before.before.before, long c.before.before.before.before.before.before.before.before.before.before.before.before.before.before.before)) c.put.ensures in
    let next = one_more (rule c.before.before.before.before.before.before.before.before.before.before.before.before.before.before.before) one refl (omega (arith, room c.before.before.before.before.before.before.before.before.before.before.before.before.before.before.before, long c.before.before.before.before.before.before.before.before.before.before.before.before.before.before.before, c.put.auto.words)) c.put-in-loop-i.ensures in
    let third = one_more (rule c.before.before.before.before.before.before.before.before.before.before.before.before.before.before.before) next (omega arith) (omega (arith, room c.before.before.before.before.before.before.before.before.before.before.before.before.before.before.before, two)) c.put-in-loop-i-2.ensures in
    let fourth = one_more (rule c.before.before.before.before.before.before.before.before.before.before.before.before.before.before.before) third (omega arith) (omega (arith, room c.before.before.before.before.before.before.before.before.before.before.before.before.before.before.before, two, c.put-in-loop-i-2.auto.words)) c.put-in-loop-i-3.ensures in
    (omega (arith, c.loop-i.invariant.0), so_many (omega arith) fourth)

pub shape_of-words : goal.shape_of-words
shape_of-words c = c.loop-i.invariant.1.kept

pub returns : goal.returns
returns c = all c.loop-i.invariant.1 c.loop-i-test.false
