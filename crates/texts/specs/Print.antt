-- A station's chain as text: a line for each pass, with its switch and its settings. Assumes nothing.
use Rattle.std.specs.Prelude.{ℕ, zero, suc, ◌+◌, ◌/◌, ◌%◌, ◌≤◌, Bool, cond, List, [], ◌∷◌, ◌++◌, ◌≡◌, Float, length, get_or, take, drop}
use Rattle.std.specs.Prelude.{Option, Some, None, Result, Ok, Err, eqb, ltb}
use Rattle.cards.specs.Alike.{chain_of}
use Rattle.cards.specs.Normal.{good_station}
use Rattle.cards.specs.Passes.{kind_of}
use Rattle.cards.specs.declared.station.Pass.{Pass}
use Rattle.cards.specs.declared.station.Record.{Record}
use Rattle.cards.specs.declared.station.Station.{Station}
use Rattle.inspect.specs.Decimal.{digits_of, places_of, negative_of}
use Rattle.inspect.specs.Settings.{setting_of}
use Rattle.inspect.specs.declared.settings.Setting.{Setting}
use Rattle.inspect.specs.declared.settings.Setting.TheVariants.{Real, Whole}
use Rattle.num.specs.declared.refusal.Refusal.{Refusal}
use Rattle.num.specs.declared.refusal.Refusal.TheVariants.{BadStation, ShortCardBuffer}
use Rattle.texts.specs.Names.{kind_name, preset_name, setting_name}
use Rattle.texts.specs.Words.{ascii}
use Rattle.texts.specs.declared.print.Page.{Page}

-- ## Numbers

-- the byte of a digit
abbrev pub digit : ℕ → ℕ
digit d = 48 + d

-- p digits behind the point, the highest place first
unfoldable pub down : ℕ → List ℕ → List ℕ
down zero ds = []
down (suc p) ds = digit (get_or ds p 0) ∷ down p ds

-- one digit before the point: no setting has more
unfoldable pub pointed : ℕ → List ℕ → List ℕ
pointed places ds = digit (get_or ds places 0) ∷ cond (eqb places 0) [] (46 ∷ down places ds)

abbrev pub sign_text : Bool → List ℕ
sign_text negative = cond negative (ascii "-") []

-- all digits of a number
unfoldable pub real_text : Float → List ℕ
real_text x = sign_text (negative_of x) ++ pointed (places_of x) (digits_of x)

-- a number below 256, with no zero before it
unfoldable pub whole_text : ℕ → List ℕ
whole_text v =
    cond (ltb v 10) (digit v ∷ []) (cond (ltb v 100) (digit (v / 10) ∷ digit (v % 10) ∷ []) (digit (v / 100) ∷ digit (v / 10 % 10) ∷ digit (v % 10) ∷ []))

-- ## Settings

-- a preset by its name: a pass of kind 5 has one
abbrev pub count_text : (kind v : ℕ) → List ℕ
count_text kind v = cond (eqb kind 5) (preset_name v) (whole_text v)

abbrev pub value_text : (kind : ℕ) → Option Setting → List ℕ
value_text kind (Some (Real x)) = real_text x
value_text kind (Some (Whole v)) = count_text kind v
value_text kind None = []

-- the first setting follows a colon, another one a comma
abbrev pub mark_text : ℕ → List ℕ
mark_text j = cond (eqb j 0) (ascii ": ") (ascii ", ")

-- what stands before a value
abbrev pub label_text : (kind j : ℕ) → List ℕ
label_text kind j = mark_text j ++ setting_name kind j ++ ascii " "

unfoldable pub setting_text : (kind j : ℕ) → Option Setting → List ℕ
setting_text kind j (Some s) = label_text kind j ++ value_text kind (Some s)
setting_text kind j None = []

-- the setting at place j of a pass
abbrev pub place_text : Pass → ℕ → List ℕ
place_text p j = setting_text (kind_of p) j (setting_of p j)

-- no pass has more than four
unfoldable pub settings_text : Pass → List ℕ
settings_text p = place_text p 0 ++ place_text p 1 ++ place_text p 2 ++ place_text p 3

-- ## Passes

abbrev pub switch_text : Bool → List ℕ
switch_text on = cond on (ascii "on") (ascii "off")

unfoldable pub line_text : Record → List ℕ
line_text r = kind_name (kind_of r.pass) ++ ascii ", " ++ switch_text r.on ++ settings_text r.pass ++ ascii "\n"

unfoldable pub lines_text : List Record → List ℕ
lines_text [] = []
lines_text (r ∷ rs) = line_text r ++ lines_text rs

unfoldable pub text_of : List Record → List ℕ
text_of [] = ascii "none\n"
text_of (r ∷ rs) = lines_text (r ∷ rs)

-- ## What `print` answers, and what it leaves in the buffer: the text at its start, the rest untouched

-- refused for a bad station, then for a buffer of fewer than 8,192 bytes; no text is longer
unfoldable pub print_reply : Station → List ℕ → Result ℕ Refusal
print_reply s out = cond (good_station s) (cond (ltb (length out) 8192) (Err ShortCardBuffer) (Ok (length (text_of (chain_of s))))) (Err BadStation)

unfoldable pub print_into : Station → List ℕ → List ℕ
print_into s out =
    let text = text_of (chain_of s) in cond (good_station s) (cond (ltb (length out) 8192) out (text ++ drop (length text) out)) out

-- a buffer with a text laid over it from a place on
unfoldable pub laid : (at : ℕ) → (text out : List ℕ) → List ℕ
laid at text out = take at out ++ text ++ drop (at + length text) out

-- The text was laid there, and `end` is the place behind it. It has no more than `most` bytes.
pub record Puts (text : List ℕ) (most at : ℕ) (before : List ℕ) (end : ℕ) (after : List ℕ) : Type 0 where
  pub place : end ≡ at + length text
  pub few : length text ≤ most
  pub within : end ≤ length before
  pub long : length after ≡ length before
  pub bytes : after ≡ laid at text before

-- The text was laid behind what stands in a page, whose buffer is the same still.
abbrev pub Lays : (text : List ℕ) (most : ℕ) (before after : Page) → Type 0
Lays text most before after = Puts text most before.at before.out.now after.at after.out.now × (after.out.ghost_name ≡ before.out.ghost_name)
