-- Reading a card: a reader is given the card's bytes and a bit place, and takes a value, with the next place, or refuses by a number of the papers and
-- the place of what is refused. Assumes nothing.
use Rattle.std.specs.Prelude.{ℕ, List, Bool, cond, Result, Ok, Err}
use Rattle.num.specs.Refusals.{number_of}
use Rattle.cards.specs.declared.fields.Stop.{Stop}

-- a refusal's number in the papers, and the place of what is refused
pub record Refusal : Type 0 where
  pub number : ℕ
  pub at : ℕ

pub data Step (A : Type 0) : Type 0 where
  took : A → ℕ → Step A
  refused : Refusal → Step A

-- the refusal with that number, at that place
abbrev pub stop : ℕ → ℕ → Refusal
stop k p = record { number = k; at = p }

abbrev pub Reader : Type 0 → Type 0
Reader A = List ℕ → ℕ → Step A

-- go on with what was taken
abbrev pub and_then : {A B : Type 0} → Step A → (A → ℕ → Step B) → Step B
and_then (took a next) f = f a next
and_then (refused k) f = refused k

abbrev pub ◌>>=◌ : {A B : Type 0} → Reader A → (A → Reader B) → Reader B
◌>>=◌ m f = λ card at. and_then (m card at) (λ a next. f a card next)

abbrev pub ret : {A : Type 0} → A → Reader A
ret a = λ card at. took a at

-- the place itself
abbrev pub here : Reader ℕ
here = λ card at. took at at

abbrev pub refuse : {A : Type 0} → ℕ → Reader A
refuse k = λ card at. refused (stop k at)

abbrev pub ◌>>◌ : {A B : Type 0} → Reader A → Reader B → Reader B
◌>>◌ m n = ◌>>=◌ m (λ a. n)

-- refuse what stands at p with k where b holds
unfoldable pub refuse_if : ℕ → ℕ → Bool → Reader (Unit {0})
refuse_if k p b card at = cond b (refused (stop k p)) (took tt at)

-- the code's answer, and the place that it came to, as a step
abbrev pub step : {A : Type 0} → Result A Stop → ℕ → Step A
step (Ok a) next = took a next
step (Err k) next = refused (stop (number_of k.refusal) k.at)
