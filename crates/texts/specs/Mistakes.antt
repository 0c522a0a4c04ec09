-- What can be wrong with a text, by its number; 0 is for nothing. Assumes nothing.
use Rattle.std.specs.Prelude.{ℕ}
use Rattle.texts.specs.declared.mistake.Mistake.{Mistake}
use Rattle.texts.specs.declared.mistake.Mistake.TheVariants as M

abbrev pub number_of : Mistake → ℕ
number_of M.UnknownPass = 1
number_of M.PassOutOfPlace = 2
number_of M.TooManyPasses = 3
number_of M.PassBesideNone = 4
number_of M.NoSwitch = 5
number_of M.OtherName = 6
number_of M.NoNumber = 7
number_of M.OutOfRange = 8
number_of M.SpareWord = 9
number_of M.NoPass = 10
