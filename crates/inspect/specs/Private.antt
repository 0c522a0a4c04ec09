-- What private functions promise one another; cited by no public contract. Assumes nothing.
use Rattle.std.specs.Prelude.{ℕ, ◌+◌, ◌*◌, ◌%◌, ◌^◌, ◌<◌, ◌≤◌, Bool, true, false, cond, ◌&&◌, List, [], ◌∷◌, ◌≡◌, eqb, leb, length}
use Rattle.std.specs.Float.{binary32}
use Rattle.std.specs.Float.Ieee.{of_bits}
use Rattle.std.specs.Float.Ieee.Exact.{HasValue}
use Rattle.inspect.specs.Decimal.{number, Digits}
use Rattle.std.specs.Prelude.{Option, Some, None, option_map}
use Rattle.inspect.specs.Hexadecimal.{Hex, digit_of, is_digit, space}
use Rattle.inspect.specs.Difference.{same_setting}
use Rattle.inspect.specs.declared.settings.Setting.{Setting}
use Rattle.inspect.specs.declared.extent.Reading.{Reading}
use Rattle.inspect.specs.declared.extent.Reading.TheVariants.{Width, Height}
use Rattle.inspect.specs.declared.hexadecimal.Token.{Token}
use Rattle.inspect.specs.declared.hexadecimal.Token.TheVariants.{Space, Pair}

-- ## Hexadecimal text

-- the value of a digit, if it is one
abbrev pub value_of : ℕ → Option ℕ
value_of c = cond (is_digit c) (Some (digit_of c)) None

abbrev pub pair_of : ℕ → ℕ → Option ℕ
pair_of a b = cond (is_digit a && is_digit b) (Some (digit_of a * 16 + digit_of b)) None

-- what a text begins with
abbrev pub token_of : List ℕ → Option Token
token_of [] = None
token_of (a ∷ []) = cond (eqb a space) (Some Space) None
token_of (a ∷ b ∷ rest) = cond (eqb a space) (Some Space) (option_map Pair (pair_of a b))

abbrev pub count_of : Hex → Option ℕ
count_of (Some bs) = Some (length bs)
count_of None = None

-- ## The first difference

-- whether two settings are the same, or neither is there
abbrev pub same_place : Option Setting → Option Setting → Bool
same_place (Some x) (Some y) = same_setting x y
same_place (Some x) None = false
same_place None (Some y) = false
same_place None None = true

-- ## Decimal digits

-- 150 digits times `by`, and `more`: the digits, and the carry that leaves them at the top
pub record Times (by more : ℕ) (ds : List ℕ) (carry : ℕ) (out : List ℕ) : Type 0 where
  pub digits : Digits out
  pub small : carry < by
  pub whole : number out + carry * 10 ^ 150 ≡ number ds * by + more

-- a has the leading bits of `whole` with the digits ds behind the point: k of them were drawn from the digits, which are now `out`
pub record Drawn (whole : ℕ) (ds : List ℕ) (a k : ℕ) (out : List ℕ) : Type 0 where
  pub digits : Digits out
  pub small : a < 2 ^ 24
  pub few : k ≤ 149
  pub same : a * 10 ^ 150 + number out ≡ (whole * 10 ^ 150 + number ds) * 2 ^ k

-- The digits with the point before the last `places` are n units; no place is spare, since an odd number does not end in 0.
pub record Written (n places : ℕ) (ds : List ℕ) : Type 0 where
  pub digits : Digits ds
  pub few : places ≤ 149
  pub size : number ds * 2 ^ 149 ≡ n * 10 ^ places
  pub odd : 0 < places → number ds % 2 ≡ 1

-- n units are the size of the value whose pattern is b without its sign; a unit is the smallest positive value, 2 ^ -149
abbrev pub Units : ℕ → ℕ → Type 0
Units b n = (bits : ℕ) → bits % 2 ^ 31 ≡ b → HasValue (of_bits binary32 bits) (leb (2 ^ 31) bits) n (2 ^ 149)

-- ## A size in words

-- the number that is being read
abbrev pub present : Reading → ℕ
present (Width width) = width
present (Height width height) = height
