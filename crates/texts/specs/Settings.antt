-- The settings of a pass in words: what each may be, and what a line says. Assumes nothing.
use Rattle.std.specs.Prelude.{ℕ, ◌+◌, ◌*◌, cond, ◌||◌, List, [], ◌∷◌, Option, Some, None, Result, Ok, Err, ltb, Float, get_or, slice_get}
use Rattle.std.specs.Float.Ieee.{lt, neg}
use Rattle.num.specs.Const.{c0_0, c0_01, c0_5, c0_95, c1_0, c4_0}
use Rattle.num.specs.Steps.{limit_of}
use Rattle.cards.specs.declared.station.Pass.{Pass}
use Rattle.cards.specs.declared.station.Pass.TheVariants.{Ntsc, Bloom, AutoGradient, Persistence, Lut, Curvature, ColorCorrection, Crt, Vignette, Scanlines}
use Rattle.inspect.specs.declared.settings.Setting.{Setting}
use Rattle.inspect.specs.declared.settings.Setting.TheVariants as S
use Rattle.texts.specs.Names.{preset_names, setting_name, found}
use Rattle.texts.specs.Numbers.{decimal_of}
use Rattle.texts.specs.Words.{is, word_of}
use Rattle.texts.specs.declared.mistake.Mistake.{Mistake}
use Rattle.texts.specs.declared.mistake.Mistake.TheVariants.{OtherName, NoNumber, OutOfRange}
use Rattle.texts.specs.declared.numbers.Decimal.{Decimal}
use Rattle.texts.specs.declared.settings.Slot.{Slot}
use Rattle.texts.specs.declared.settings.Slot.TheVariants.{Real, Whole, Preset}

-- what may stand at the places of each kind, in the card's order
abbrev pub unit : Slot
unit = Real c0_0 c1_0

abbrev pub slots : List (List Slot)
slots =
    []
    ∷ (unit ∷ Whole 1 64 ∷ [])
    ∷ (Whole 0 255 ∷ unit ∷ Whole 1 64 ∷ [])
    ∷ (unit ∷ unit ∷ unit ∷ [])
    ∷ (Real c0_0 c0_95 ∷ Whole 1 8 ∷ [])
    ∷ (Preset ∷ unit ∷ [])
    ∷ (Real c0_0 c0_5 ∷ [])
    ∷ (Real (neg c1_0) c1_0 ∷ Real c0_0 c4_0 ∷ Real c0_0 c4_0 ∷ Real c0_01 c4_0 ∷ [])
    ∷ (unit ∷ [])
    ∷ (unit ∷ [])
    ∷ (unit ∷ [])
    ∷ []

-- none past the last one
abbrev pub slot_of : (kind j : ℕ) → Option Slot
slot_of kind j = slice_get (get_or slots kind []) j

unfoldable pub real_of : (low high : Float) → Option Decimal → Result Setting Mistake
real_of low high None = Err NoNumber
real_of low high (Some d) = cond (lt d.nearest low || lt high d.nearest) (Err OutOfRange) (Ok (S.Real (limit_of d.nearest low high)))

unfoldable pub whole_of : (least most : ℕ) → Option Decimal → Result Setting Mistake
whole_of least most None = Err NoNumber
whole_of least most (Some d) = cond d.plain (cond (ltb d.whole least || ltb most d.whole) (Err OutOfRange) (Ok (S.Whole d.whole))) (Err NoNumber)

-- by name or by number
unfoldable pub preset_of : List ℕ → Result Setting Mistake
preset_of word = cond (ltb (found preset_names word 0) 7) (Ok (S.Whole (found preset_names word 0))) (whole_of 0 6 (decimal_of word))

abbrev pub value_of : Slot → List ℕ → Result Setting Mistake
value_of (Real low high) word = real_of low high (decimal_of word)
value_of (Whole least most) word = whole_of least most (decimal_of word)
value_of Preset word = preset_of word

-- the setting that a place has, where its word is one
abbrev pub placed : Result Setting Mistake → Result (Option Setting) Mistake
placed (Ok s) = Ok (Some s)
placed (Err m) = Err m

-- what may stand there, the word for its name and the word for its value
abbrev pub setting_at : Option Slot → (kind j : ℕ) → (name value : List ℕ) → Result (Option Setting) Mistake
setting_at None kind j name value = Ok None
setting_at (Some slot) kind j name value = cond (is name (setting_name kind j)) (placed (value_of slot value)) (Err OtherName)

-- the setting at place j, as a line has it: its name is word 2 + 2 * j, and its value the next one
unfoldable pub setting_in : (line : List ℕ) → (kind j : ℕ) → Result (Option Setting) Mistake
setting_in line kind j = setting_at (slot_of kind j) kind j (word_of line (2 + 2 * j)) (word_of line (3 + 2 * j))

-- the setting, where nothing is wrong with it
abbrev pub taken : Result (Option Setting) Mistake → Option Setting
taken (Ok s) = s
taken (Err m) = None

-- how many settings a kind has
abbrev pub arity : ℕ → ℕ
arity kind = get_or (0 ∷ 2 ∷ 3 ∷ 3 ∷ 2 ∷ 2 ∷ 1 ∷ 4 ∷ 1 ∷ 1 ∷ 1 ∷ []) kind 0

abbrev pub real_in : Option Setting → Float
real_in (Some (S.Real x)) = x
real_in (Some (S.Whole v)) = c0_0
real_in None = c0_0

abbrev pub whole_in : Option Setting → ℕ
whole_in (Some (S.Real x)) = 0
whole_in (Some (S.Whole v)) = v
whole_in None = 0

-- the pass of a kind by its settings
abbrev pub Maker : Type 0
Maker = Option Setting → Option Setting → Option Setting → Option Setting → Pass

abbrev pub last : Maker
last a b c d = Scanlines (real_in a)

abbrev pub makers : List Maker
makers =
    last
    ∷ (λ a b c d. Ntsc (real_in a) (whole_in b))
    ∷ (λ a b c d. Bloom (whole_in a) (real_in b) (whole_in c))
    ∷ (λ a b c d. AutoGradient (real_in a) (real_in b) (real_in c))
    ∷ (λ a b c d. Persistence (real_in a) (whole_in b))
    ∷ (λ a b c d. Lut (whole_in a) (real_in b))
    ∷ (λ a b c d. Curvature (real_in a))
    ∷ (λ a b c d. ColorCorrection (real_in a) (real_in b) (real_in c) (real_in d))
    ∷ (λ a b c d. Crt (real_in a))
    ∷ (λ a b c d. Vignette (real_in a))
    ∷ []

abbrev pub pass_of : ℕ → Maker
pass_of kind = get_or makers kind last

-- the pass that a line has
abbrev pub pass_in : (line : List ℕ) → ℕ → Pass
pass_in line kind =
    pass_of kind (taken (setting_in line kind 0)) (taken (setting_in line kind 1)) (taken (setting_in line kind 2)) (taken (setting_in line kind 3))
