-- `passes::persistence::blend_part` meets its contract: three channels of the mix at each place are the mix. Assumes nothing.
use Rattle.std.proofs.Common.{ℕ, ◌++◌, length, drop, ap, ◌∙◌}
use lib.Ieee.{Float}
use Rattle.num.specs.Laws.Rewrite.{rewrite-at}
use Rattle.passes.specs.Private.{Begins, mark_clamped, blended_word, mixed_channel}
use Rattle.passes.proofs.Mixes.{whole}
use Rattle.passes.proofs.Offsets.{begins}
use Rattle.passes.proofs.persistence.blend_part.Goals as goal
use Rattle.passes.proofs.persistence.blend_part.Lts as lts
use Rattle.passes.proofs.persistence.blend_part.Reads as reads
use Rattle.passes.proofs.persistence.blend_part.Tie as tie

-- ---- the way back from one line to the one before, and to the start
abbrev start : lts.After-mix_line tie.the-claims reads.Pre reads.Post → lts.Start tie.the-claims reads.Pre reads.Post
start c = c.before.before.before.before.before.before

abbrev first : lts.After-mix_line2 tie.the-claims reads.Pre reads.Post → lts.After-mix_line tie.the-claims reads.Pre reads.Post
first c = c.before.before.before.before

abbrev second : lts.After-mix_line3 tie.the-claims reads.Pre reads.Post → lts.After-mix_line2 tie.the-claims reads.Pre reads.Post
second c = c.before.before.before.before

-- one channel of the part that the call was lent
abbrev mixed : lts.Start tie.the-claims reads.Pre reads.Post → ℕ → ℕ → Float
mixed s which = let a = s.args in mixed_channel a.w a.ws.now a.history.now a.part.now a.n a.at which

abbrev count : lts.Start tie.the-claims reads.Pre reads.Post → ℕ
count s = length s.args.part.now

reds : (c : lts.After-mix_line tie.the-claims reads.Pre reads.Post) → Begins 64 (count c.before.before.before.before.before.before) (mixed c.before.before.before.before.before.before 0) (c.mix_line.new.acc ++ drop (count c.before.before.before.before.before.before) c.line-r.result)
reds c = begins _ _ c.line-r.ensures c.requires.0 c.mix_line.ensures

greens : (c : lts.After-mix_line2 tie.the-claims reads.Pre reads.Post) → let s = start (first c) in Begins 64 (count s) (mixed s 1) (c.mix_line-2.new.acc ++ drop (count s) c.line-g.result)
greens c = begins _ _ c.line-g.ensures (start (first c)).requires.0 c.mix_line-2.ensures

blues : (c : lts.After-mix_line3 tie.the-claims reads.Pre reads.Post) → let s = start (first (second c)) in Begins 64 (count s) (mixed s 2) (c.mix_line-3.new.acc ++ drop (count s) c.line-b.result)
blues c = begins _ _ c.line-b.ensures (start (first (second c))).requires.0 c.mix_line-3.ensures

pub returns : goal.returns
unfolding blended_word
returns c = c.finish_part.ensures
    ∙ rewrite-at _ _ _ c.args.part.now 0 (λ x l. ap mark_clamped (whole _ ((reds c.before.before.before.before.before.before.before.before.before.before.before.before.before.before.before.before.before).value x l) ((greens c.before.before.before.before.before.before.before.before.before.before.before.before.before).value x l) ((blues c.before.before.before.before.before.before.before.before.before).value x l)))
