-- The row or column that a coordinate in -1..1 names along a side of w words, as curvature takes it. Assumes nothing.
use Rattle.std.specs.Prelude.{ℕ, ◌-◌, Float}
use Rattle.num.specs.Const.{c0_5, c1_0}
use Rattle.num.specs.F32.{◌⊕◌, ◌⊗◌, whole}
use Rattle.num.specs.Steps.{cut_of, round_of}

abbrev pub index_of : ℕ → Float → ℕ
index_of w x = cut_of (round_of ((x ⊕ c1_0) ⊗ c0_5 ⊗ whole (w - 1)))
