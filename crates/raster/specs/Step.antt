-- Reading: a reader is given a place among the bytes, and takes a value, with the next place, or refuses by a number. Assumes nothing.
use Rattle.std.specs.Prelude.{ℕ, ◌+◌, Bool, cond, List}
use Rattle.raster.specs.Pixels.{byte_at}

pub data Step (A : Type 0) : Type 0 where
  took : A → ℕ → Step A
  refused : ℕ → Step A

abbrev pub Reader : Type 0 → Type 0
Reader A = ℕ → Step A

-- go on with what was taken
abbrev pub and_then : {A B : Type 0} → Step A → (A → Reader B) → Step B
and_then (took a next) f = f a next
and_then (refused k) f = refused k

abbrev pub ◌>>=◌ : {A B : Type 0} → Reader A → (A → Reader B) → Reader B
◌>>=◌ m f = λ at. and_then (m at) f

abbrev pub ◌>>◌ : {A B : Type 0} → Reader A → Reader B → Reader B
◌>>◌ m n = ◌>>=◌ m (λ a. n)

abbrev pub ret : {A : Type 0} → A → Reader A
ret a = λ at. took a at

-- the place itself; n bytes further on; the byte here
abbrev pub place : Reader ℕ
place at = took at at

abbrev pub skip : ℕ → Reader (Unit {0})
skip n at = took tt (at + n)

abbrev pub byte_in : List ℕ → Reader ℕ
byte_in bytes at = took (byte_at bytes at) (at + 1)

-- refuse with k where b holds
unfoldable pub refuse_if : ℕ → Bool → Reader (Unit {0})
refuse_if k b at = cond b (refused k) (took tt at)
