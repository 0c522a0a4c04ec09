-- What the functions promise: an event as it is read, and what playing leaves of all that is lent. Assumes nothing.
use Rattle.std.specs.Prelude.{ℕ, zero, suc, ◌+◌, ◌*◌, ◌-◌, ◌^◌, ◌≤◌, ◌<◌, ◌≡◌, Bool, true, false, List, [], ◌∷◌, length, drop, Float}
use Rattle.std.specs.Prelude.{Option, Some, None, Result}
use Rattle.std.specs.Result.{is_ok}
use Rattle.num.specs.Refusals.{code}
use Rattle.num.specs.declared.refusal.Refusal.{Refusal}
use Rattle.cards.specs.Answers.{Report, refusal, acceptance, ok, reported_by}
use Rattle.cards.specs.Bits.{value_at}
use Rattle.cards.specs.Step.{Step, took, refused}
use Rattle.cards.specs.declared.station.Station.{Station}
use Rattle.sheets.specs.Events as Events
use Rattle.sheets.specs.Play.{Lent, Playing, answer_of, turn, Outcome}
use Rattle.sheets.specs.declared.event.Event.{Event}
use Rattle.sheets.specs.declared.event.Event.TheVariants as E
use Rattle.sheets.specs.declared.play.Played.{Played}

-- the words of a frame from p on: n values of 24 bits
unfoldable pub values_at : ℕ → List ℕ → ℕ → List ℕ
values_at zero sheet p = []
values_at (suc n) sheet p = value_at sheet p 24 ∷ values_at n sheet (p + 24)

-- the word k behind the place where `below` bits of the four bytes from `first` on are left; and that the bytes of n such words are there
abbrev pub word_at : List ℕ → (first below k : ℕ) → ℕ
word_at sheet first below k = value_at sheet (8 * (first + 3 * k) + 8 - below) 24

abbrev pub Standing : (n : ℕ) → List ℕ → (first below : ℕ) → Type 0
Standing n sheet first below = (below < 8) × (first + 3 * n < length sheet)

-- an event as the definition has it: a frame with its words
abbrev pub told : List ℕ → Event → Events.Event
told sheet (E.Frame w h at) = Events.frame w h (values_at (h * w) sheet at)
told sheet E.Reset = Events.reset
told sheet (E.Switch kind on) = Events.switch kind on
told sheet E.Step = Events.step
told sheet (E.Ask kind on) = Events.ask kind on
told sheet E.Commit = Events.commit

-- whether a reader took what it was to read
abbrev pub is_taken : {A : Type 0} → Step A → Bool
is_taken (took a next) = true
is_taken (refused k) = false

-- the words of a frame are there, at a place that can be worked with
abbrev pub Within : List ℕ → Event → Type 0
Within sheet (E.Frame w h at) = (0 < at) × (at + 24 * (h * w) ≤ 8 * length sheet) × (at < 2 ^ 44)
Within sheet E.Reset = Unit {0}
Within sheet (E.Switch kind on) = Unit {0}
Within sheet E.Step = Unit {0}
Within sheet (E.Ask kind on) = Unit {0}
Within sheet E.Commit = Unit {0}

-- what reading an event promises, up to `next`: it is that of the definition, its words are there, and it ends at `last` or before
abbrev pub Reads : (sheet : List ℕ) (last : ℕ) → Step Events.Event → Option Event → (next : ℕ) → Type 0
Reads sheet last s (Some e) next = (s ≡ took (told sheet e) next) × Within sheet e × (next ≤ last)
Reads sheet last s None next = is_taken s ≡ false

-- ## Playing

-- what is lent, by its lengths
abbrev pub lent_of : (past : List ℕ) (floats : List Float) (ints : List ℕ) (curve : List Float) → Lent
lent_of past floats ints curve = record { history = length past; floats = length floats; ints = length ints; curve = curve }

-- all that is lent, as p has it: the framebuffer, the history, and the scratch words that stay
pub record Leaves (p : Playing) (s : Station) (words' past' : List ℕ) (floats floats' : List Float) (ints ints' : List ℕ) : Type 0 where
  pub station : s ≡ p.state.station
  pub words : words' ≡ p.words
  pub past : past' ≡ p.state.history
  pub floats_stay : drop p.free_floats floats' ≡ drop p.free_floats floats
  pub ints_stay : drop p.free_ints ints' ≡ drop p.free_ints ints

-- the number of a refusal, 0 for none
abbrev pub refused_by : Report → ℕ
refused_by (refusal k) = k
refused_by (acceptance r) = 0

-- of one event, made from the beginning b: it was accepted, or refused by that number
pub record Turns (l : Lent) (e : Events.Event) (b : Playing) (r : Result (Unit {0}) Refusal) (s' : Station) (words' past' : List ℕ)
    (floats floats' : List Float) (ints ints' : List ℕ) : Type 0 where
  pub leaves : Leaves (turn l e b) s' words' past' floats floats' ints ints'
  pub answers : (is_ok r ≡ ok (answer_of l e b)) × (code r ≡ refused_by (answer_of l e b))

abbrev pub reported_play : Result Played Refusal → Report
reported_play = reported_by (λ p. p.accepted ∷ p.refused ∷ [])

-- of a sheet
pub record Plays (o : Outcome) (r : Result Played Refusal) (s' : Station) (words' past' : List ℕ) (floats floats' : List Float)
    (ints ints' : List ℕ) : Type 0 where
  pub leaves : Leaves o.playing s' words' past' floats floats' ints ints'
  pub answers : reported_play r ≡ o.answer
