-- The names of passes, of their settings and of presets, as they are printed; a word may have any case. Assumes nothing.
use Rattle.std.specs.Prelude.{ℕ, suc, cond, List, [], ◌∷◌, Option, Some, None, get_or, ltb}
use Rattle.texts.specs.Words.{ascii, is}

abbrev pub Name : Type 0
Name = List ℕ

-- the pass of each kind; in the place of kind 0 what a chain without a pass is called
abbrev pub kind_names : List Name
kind_names =
    ascii "none" ∷ ascii "NTSC" ∷ ascii "bloom" ∷ ascii "gradient" ∷ ascii "persistence" ∷ ascii "LUT" ∷ ascii "curvature" ∷ ascii "colour" ∷ ascii "CRT"
    ∷ ascii "vignette" ∷ ascii "scanlines" ∷ []

abbrev pub kind_name : ℕ → Name
kind_name kind = get_or kind_names kind []

abbrev pub preset_names : List Name
preset_names =
    ascii "identity" ∷ ascii "warm-CRT" ∷ ascii "cool-CRT" ∷ ascii "composite" ∷ ascii "Game-Boy" ∷ ascii "amber" ∷ ascii "high-contrast" ∷ []

abbrev pub preset_name : ℕ → Name
preset_name p = get_or preset_names p []

-- the settings of each kind in the card's order, four places; an empty name where there is none
abbrev pub four : (a b c d : Name) → List Name
four a b c d = a ∷ b ∷ c ∷ d ∷ []

abbrev pub setting_names : List (List Name)
setting_names =
    []
    ∷ four (ascii "strength") (ascii "bleed") [] []
    ∷ four (ascii "threshold") (ascii "strength") (ascii "radius") []
    ∷ four (ascii "strength") (ascii "vertical") (ascii "horizontal") []
    ∷ four (ascii "amount") (ascii "depth") [] []
    ∷ four (ascii "preset") (ascii "strength") [] []
    ∷ four (ascii "amount") [] [] []
    ∷ four (ascii "brightness") (ascii "contrast") (ascii "saturation") (ascii "gamma")
    ∷ four (ascii "strength") [] [] []
    ∷ four (ascii "strength") [] [] []
    ∷ four (ascii "strength") [] [] []
    ∷ []

abbrev pub setting_name : (kind j : ℕ) → Name
setting_name kind j = get_or (get_or setting_names kind []) j []

-- the place of the first name that a word is, counted from k; past the last one for none
unfoldable pub found : List Name → List ℕ → ℕ → ℕ
found [] word k = k
found (name ∷ names) word k = cond (is word name) k (found names word (suc k))

-- a number below n, or none
abbrev pub below : ℕ → ℕ → Option ℕ
below n k = cond (ltb k n) (Some k) None
