-- Worked cases of rectangles in words: what stands there, and what it is read as. Assumes nothing.
use Rattle.std.specs.Prelude.{List, [], ◌∷◌, refl}
use Rattle.num.specs.Cases.{Hold}
use Rattle.frames.specs.Area.{step_of, read_of, is_large, Named, Area, Fault, named_by, named_of}

-- `8,0,16,240`, `0,0,0,65535`, `00,1,2,0009`; `0,0,0,65536`, `99999999,0,0,0`; nothing, `1,2,3`, `1,2,3,`, `1,,2,3`, `1,2,3,4,5`, ` 1,2,3,4`, `1,2,3,-4`
abbrev pub named : List (Named × Named)
named =
    (named_of (56 ∷ 44 ∷ 48 ∷ 44 ∷ 49 ∷ 54 ∷ 44 ∷ 50 ∷ 52 ∷ 48 ∷ []), Area 8 0 16 240)
    ∷ (named_of (48 ∷ 44 ∷ 48 ∷ 44 ∷ 48 ∷ 44 ∷ 54 ∷ 53 ∷ 53 ∷ 51 ∷ 53 ∷ []), Area 0 0 0 65535)
    ∷ (named_of (48 ∷ 48 ∷ 44 ∷ 49 ∷ 44 ∷ 50 ∷ 44 ∷ 48 ∷ 48 ∷ 48 ∷ 57 ∷ []), Area 0 1 2 9)
    ∷ (named_of (48 ∷ 44 ∷ 48 ∷ 44 ∷ 48 ∷ 44 ∷ 54 ∷ 53 ∷ 53 ∷ 51 ∷ 54 ∷ []), Fault 2)
    ∷ (named_of (57 ∷ 57 ∷ 57 ∷ 57 ∷ 57 ∷ 57 ∷ 57 ∷ 57 ∷ 44 ∷ 48 ∷ 44 ∷ 48 ∷ 44 ∷ 48 ∷ []), Fault 2)
    ∷ (named_of [], Fault 1)
    ∷ (named_of (49 ∷ 44 ∷ 50 ∷ 44 ∷ 51 ∷ []), Fault 1)
    ∷ (named_of (49 ∷ 44 ∷ 50 ∷ 44 ∷ 51 ∷ 44 ∷ []), Fault 1)
    ∷ (named_of (49 ∷ 44 ∷ 44 ∷ 50 ∷ 44 ∷ 51 ∷ []), Fault 1)
    ∷ (named_of (49 ∷ 44 ∷ 50 ∷ 44 ∷ 51 ∷ 44 ∷ 52 ∷ 44 ∷ 53 ∷ []), Fault 1)
    ∷ (named_of (32 ∷ 49 ∷ 44 ∷ 50 ∷ 44 ∷ 51 ∷ 44 ∷ 52 ∷ []), Fault 1)
    ∷ (named_of (49 ∷ 44 ∷ 50 ∷ 44 ∷ 51 ∷ 44 ∷ 45 ∷ 52 ∷ []), Fault 1)
    ∷ []

pub named_hold : Hold named
unfolding named_of named_by read_of step_of is_large
named_hold = refl
