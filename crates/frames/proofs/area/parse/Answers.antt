-- `frames::area::parse` meets its contract: no number is large. Assumes nothing.
use mathlib.Core.Path.{sym}
use native.Mathlib.Omega.{arith}
use Rattle.frames.proofs.Words.{none_large}
use Rattle.frames.proofs.area.parse.Goals as goal

pub overflow_cast-result : goal.overflow_cast-result
overflow_cast-result c = omega (arith, none_large _ (sym c.if-is_large.ensures))

pub overflow_cast-result-2 : goal.overflow_cast-result-2
overflow_cast-result-2 c = omega (arith, none_large _ (sym c.if-is_large.ensures))

pub overflow_cast-result-3 : goal.overflow_cast-result-3
overflow_cast-result-3 c = omega (arith, none_large _ (sym c.if-is_large.ensures))

pub overflow_cast-result-4 : goal.overflow_cast-result-4
overflow_cast-result-4 c = omega (arith, none_large _ (sym c.if-is_large.ensures))
