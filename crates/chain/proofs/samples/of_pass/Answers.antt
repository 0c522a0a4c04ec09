-- `chain::samples::of_pass` meets its contract: of a pass that blurs, its lines; a radius of at most 64 keeps each product small. Assumes nothing.
use Prim.Native.Nat.{ℕ, ◌*◌, ◌≤◌}
use native.Mathlib.Omega.{arith}
use mathlib.Core.Path.{sym, ap}
use Rattle.passes.specs.Samples.{ntsc_samples, bloom_samples}
use Rattle.chain.proofs.Lending.{samples-by}
use Rattle.chain.proofs.PassCases.{no_samples, not-ntsc, not-bloom}
use Rattle.chain.proofs.Taken.{bleed_few, radius_few, lines_fit}
use Rattle.chain.proofs.samples.of_pass.Goals as goal
use Rattle.chain.proofs.samples.of_pass.Lts as lts
use Rattle.chain.proofs.samples.of_pass.Reads as reads
use Rattle.chain.proofs.samples.of_pass.Tie as tie

-- ## NTSC
bleed : (c : lts.Past-After-known_told tie.the-claims reads.Pre reads.Post) → c.in-Ntsc.bleed ≤ 64
bleed c = bleed_few c.args.pass c.requires.0 _ _ c.in-Ntsc.is

rows : (c : lts.After-line tie.the-claims reads.Pre reads.Post) → c.args.height * c.line.result ≤ 135266304
rows c = lines_fit _ _ _ c.line.ensures c.requires.2 c.requires.1 (bleed c.before)

-- ## Bloom
radius : (c : lts.Past-After-known_told2 tie.the-claims reads.Pre reads.Post) → c.in-Bloom.radius ≤ 64
radius c = radius_few c.args.pass c.requires.0 _ _ _ c.in-Bloom.is

first : (c : lts.After-line2 tie.the-claims reads.Pre reads.Post) → c.args.height * c.line-in-Bloom.result ≤ 135266304
first c = lines_fit _ _ _ c.line-in-Bloom.ensures c.requires.2 c.requires.1 (radius c.before)

then : (c : lts.After-line3 tie.the-claims reads.Pre reads.Post) → c.args.width * c.line-in-Bloom-2.result ≤ 135266304
then c =
    lines_fit _ _ _ c.line-in-Bloom-2.ensures c.requires.1 c.requires.2 (radius c.before.before)

pub line-requires : goal.line-requires
line-requires c = (c.requires.1, bleed c)

pub overflow_mul-result : goal.overflow_mul-result
overflow_mul-result c = omega (arith, rows c)

pub line-requires-in-Bloom : goal.line-requires-in-Bloom
line-requires-in-Bloom c = (c.requires.1, radius c)

pub overflow_mul-result-in-Bloom : goal.overflow_mul-result-in-Bloom
overflow_mul-result-in-Bloom c = omega (arith, first c)

pub line-requires-in-Bloom-2 : goal.line-requires-in-Bloom-2
line-requires-in-Bloom-2 c = (c.requires.2, radius c.before)

pub overflow_mul-result-in-Bloom-2 : goal.overflow_mul-result-in-Bloom-2
overflow_mul-result-in-Bloom-2 c = omega (arith, then c)

pub overflow_add-result : goal.overflow_add-result
overflow_add-result c = omega (arith, first c.before, then c)

pub returns-in-Ntsc : goal.returns-in-Ntsc
unfolding ntsc_samples
returns-in-Ntsc c = let a = c.args in
    samples-by _ _ _ _ _ c.in-Ntsc.is (ap (λ (k : ℕ). a.height * k) c.line.ensures)

pub returns-in-Bloom : goal.returns-in-Bloom
unfolding bloom_samples
returns-in-Bloom c = samples-by _ _ _ _ _ c.in-Bloom.is (cc (c.line-in-Bloom.ensures, c.line-in-Bloom-2.ensures))

-- ## Any other
pub returns-in_default : goal.returns-in_default
returns-in_default c = let pass = c.args.pass in
    sym (no_samples _ _ pass (not-ntsc pass c.in_default.not-Ntsc) (not-bloom pass c.in_default.not-Bloom))
