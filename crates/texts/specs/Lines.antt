-- A line of a text: nothing, a pass, or that there is none; or what is wrong with it. Assumes nothing.
use Rattle.std.specs.Prelude.{ℕ, zero, suc, ◌+◌, ◌*◌, Bool, true, false, cond, ◌&&◌, List, Option, Some, None, Result, Ok, Err, eqb, leb, ltb}
use Rattle.cards.specs.Records.{carded}
use Rattle.texts.specs.Mistakes.{number_of}
use Rattle.texts.specs.Names.{kind_names, found}
use Rattle.texts.specs.Numbers.{decimal_of}
use Rattle.texts.specs.Settings.{setting_in, arity, pass_in}
use Rattle.texts.specs.Words.{ascii, is, span_of, word_of}
use Rattle.texts.specs.declared.lines.Fault.{Fault}
use Rattle.texts.specs.declared.lines.Line.{Line}
use Rattle.texts.specs.declared.lines.Line.TheVariants.{Blank, Bare, Pass}
use Rattle.texts.specs.declared.mistake.Mistake.{Mistake}
use Rattle.texts.specs.declared.mistake.Mistake.TheVariants.{UnknownPass, NoSwitch, SpareWord}
use Rattle.texts.specs.declared.numbers.Decimal.{Decimal}
use Rattle.texts.specs.declared.words.Span.{Span}

-- the kind that a number is, if there is such a kind
abbrev pub numbered : Option Decimal → Option ℕ
numbered None = None
numbered (Some d) = cond (d.plain && (leb 1 d.whole && leb d.whole 10)) (Some d.whole) None

-- by name or by number: 0 for a chain without a pass, which has a name alone
unfoldable pub kind_in : List ℕ → Option ℕ
kind_in word = cond (ltb (found kind_names word 0) 11) (Some (found kind_names word 0)) (numbered (decimal_of word))

-- on, off, or another word
unfoldable pub switch_in : List ℕ → Option Bool
switch_in word = cond (is word (ascii "on")) (Some true) (cond (is word (ascii "off")) (Some false) None)

-- whether a line has no word i
abbrev pub ended : List ℕ → ℕ → Bool
ended line i = let s : Span = span_of line i in eqb s.from s.to

-- what is wrong, with which word, and for which setting of which pass
abbrev pub faulty : (mistake : Mistake) → (word kind place : ℕ) → Fault
faulty mistake word kind place = record { mistake = mistake; word = word; kind = kind; place = place }

-- the word that is wrong with the setting at place j: its name, or its value
abbrev pub word_of_fault : (mistake : Mistake) → (j : ℕ) → ℕ
word_of_fault m j = cond (eqb (number_of m) 6) (2 + 2 * j) (3 + 2 * j)

-- the fault at place j, or one behind it
abbrev pub fault_or : {A : Type 0} → Result A Mistake → (kind j : ℕ) → Option Fault → Option Fault
fault_or (Ok s) kind j rest = rest
fault_or (Err m) kind j rest = Some (faulty m (word_of_fault m j) kind j)

-- the first fault of the n settings from place j on
unfoldable pub fault_from : ℕ → (line : List ℕ) → (kind j : ℕ) → Option Fault
fault_from zero line kind j = None
fault_from (suc n) line kind j = fault_or (setting_in line kind j) kind j (fault_from n line kind (suc j))

-- what a line says by its switch, where it has one
abbrev pub switched : Option Bool → (kind : ℕ) → (Bool → Result Line Fault) → Result Line Fault
switched None kind by = Err (faulty NoSwitch 1 kind 0)
switched (Some on) kind by = by on

-- where nothing is wrong with its settings
abbrev pub unless : Option Fault → Result Line Fault → Result Line Fault
unless None r = r
unless (Some f) r = Err f

-- neither on nor off; a setting; a word too many
unfoldable pub pass_line : (line : List ℕ) → ℕ → Result Line Fault
pass_line line kind =
    let n = 2 + 2 * arity kind in
    switched (switch_in (word_of line 1)) kind
    (λ on. unless (fault_from 4 line kind 0) (cond (ended line n) (Ok (Pass (carded on (pass_in line kind)))) (Err (faulty SpareWord n kind 0))))

-- by its kind, where it has one
abbrev pub line_by : Option ℕ → (line : List ℕ) → Result Line Fault
line_by None line = Err (faulty UnknownPass 0 0 0)
line_by (Some kind) line = cond (eqb kind 0) (cond (ended line 1) (Ok Bare) (Err (faulty SpareWord 1 0 0))) (pass_line line kind)

-- no pass that is known; a word behind `none`
unfoldable pub line_of : List ℕ → Result Line Fault
line_of line = cond (ended line 0) (Ok Blank) (line_by (kind_in (word_of line 0)) line)
