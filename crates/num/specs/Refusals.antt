-- What calls refuse by, and how a call is said that answers by its refusal: a number of the papers' tables, 0 for none.
-- Assumes nothing.
use Rattle.std.specs.Prelude.{ℕ, zero, suc, Bool, ◌||◌, eqb, ltb, Result, Ok, Err}
use Rattle.num.specs.declared.refusal.Refusal.{Refusal}
use Rattle.num.specs.declared.refusal.Refusal.TheVariants as R

-- a side of a picture that no call takes
unfoldable pub bad_side : ℕ → Bool
bad_side x = eqb x 0 || ltb 1024 x

-- what refusal k gives, or what the call gives where k is 0
unfoldable pub unless : {A : Type 0} → ℕ → (ℕ → A) → A → A
unless zero refused done = done
unless (suc k) refused done = refused (suc k)

-- the number of a refusal in the papers' table
abbrev pub number_of : Refusal → ℕ
number_of R.TornCard = 1
number_of R.ForeignCard = 2
number_of R.OverfullCard = 3
number_of R.UnknownPass = 4
number_of R.DoubledPass = 5
number_of R.BadSetting = 6
number_of R.LongCard = 7
number_of R.BadSize = 8
number_of R.ShortFrame = 9
number_of R.ShortHistory = 10
number_of R.ShortScratch = 11
number_of R.NotInChain = 12
number_of R.BadStation = 13
number_of R.ShortCardBuffer = 14
number_of R.PassOutOfOrder = 15
number_of R.BadCurve = 16
number_of R.AlreadyAsked = 17
number_of R.NotAsked = 18
number_of R.BadArea = 19
number_of R.BadSheet = 20
number_of R.BadSource = 21

-- the number of the refusal that was answered, 0 for none
abbrev pub code : {A : Type 0} → Result A Refusal → ℕ
code (Ok a) = 0
code (Err k) = number_of k
