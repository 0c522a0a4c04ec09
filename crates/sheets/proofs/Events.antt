-- The events of a sheet one after another: what the rest of it tells before and after one of them. Assumes nothing.
use Prim.Native.Nat.{ℕ, suc, ◌≤◌}
use native.Mathlib.Omega.{arith}
use mathlib.Core.Bool.{Bool, true, false, not, cond}
use mathlib.Core.List.{List, [], ◌∷◌}
use mathlib.Core.Path.{◌≡◌, refl, sym, ap, ◌∙◌}
use Rattle.cards.specs.Step.{Step, took, refused, stop, and_then, refuse_if, step}
use Rattle.cards.specs.Bits.{field_at}
use Rattle.cards.specs.Card.{ends_at, end_at}
use Rattle.sheets.specs.Events.{Event, event_at, events_at, rest_at, sheet_at}
use Rattle.std.specs.Prelude.{Option, Some, None, Result, Ok, Err}
use Rattle.std.specs.Result.{IsOk}
use Rattle.cards.specs.declared.fields.Stop.{Stop}
use Rattle.std.specs.Option.{is_some}
use Rattle.sheets.specs.declared.event.Event as Declared
use Rattle.sheets.specs.Promises.{told, Reads, is_taken}
use Rattle.sheets.proofs.Reading.{on, off}

-- a step that is gone on with is taken as it was
pub still : {A B : Type 0} (s : Step A) (f : A → B) → is_taken (and_then s (λ a n. took (f a) n)) ≡ is_taken s
still (took a n) f = refl
still (refused k) f = refl

module _ (sheet : List ℕ) where
  -- events with the end behind them, and with one before them
  abbrev closed : List Event → ℕ → Step (List Event)
  closed es r = and_then (end_at sheet r) (λ u q. took es q)

  abbrev after : ℕ → Event → ℕ → Step (List Event)
  after n e q = and_then (events_at n sheet q) (λ es r. took (e ∷ es) r)

  -- no event that was read: the rest is not taken
  pub no_event : (n p : ℕ) → is_taken (event_at sheet p) ≡ false → is_taken (rest_at (suc n) sheet p) ≡ false
  unfolding rest_at events_at
  no_event n p e = off (and_then (event_at sheet p) (after n)) closed (off (event_at sheet p) (after n) e)

  -- one that was: it comes before the rest
  pub one_event : (n p : ℕ) {e : Event} {q : ℕ} → event_at sheet p ≡ took e q → rest_at (suc n) sheet p ≡ and_then (rest_at n sheet q) (λ es r. took (e ∷ es) r)
  unfolding rest_at events_at
  one_event n p {e} {q} h = ap (λ s. and_then s closed) (on (after n) h) ∙ go (events_at n sheet q)
    where
      end : (s : Step (Unit {0})) (es : List Event) → and_then s (λ u r. took (e ∷ es) r) ≡ and_then (and_then s (λ u r. took es r)) (λ es r. took (e ∷ es) r)
      end (took u r) es = refl
      end (refused k) es = refl

      go : (s : Step (List Event)) → and_then (and_then s (λ es r. took (e ∷ es) r)) closed ≡ and_then (and_then s closed) (λ es r. took (e ∷ es) r)
      go (took es r) = end (end_at sheet r) es
      go (refused k) = refl

  -- none is left: the sheet ends there, or it does not
  pub last_event : (p : ℕ) → is_taken (rest_at 0 sheet p) ≡ ends_at sheet p
  unfolding rest_at events_at end_at refuse_if
  last_event p = go (ends_at sheet p)
    where
      none : List Event
      none = []

      go : (b : Bool) → is_taken (and_then (cond (not b) (refused (stop 7 p)) (took tt p)) (λ (u : Unit {0}) (r : ℕ). took none r)) ≡ b
      go true = refl
      go false = refl

  -- the event count
  pub no_count : is_taken (field_at 16 sheet 0) ≡ false → is_taken (sheet_at sheet 0) ≡ false
  unfolding sheet_at
  no_count e = off (field_at 16 sheet 0) _ e

  pub counted : {n p : ℕ} → field_at 16 sheet 0 ≡ took n p → sheet_at sheet 0 ≡ rest_at n sheet p
  unfolding sheet_at
  counted e = on _ e

-- ## What the code reads

-- of a sheet that is whole the event count is read
pub count_read : (sheet : List ℕ) (r : Result ℕ Stop) (m : ℕ) → step r m ≡ field_at 16 sheet 0 → is_taken (sheet_at sheet 0) ≡ true → IsOk r
count_read sheet (Ok n) m e whole = refl
count_read sheet (Err k) m e whole =
    let z : ◌≡◌ {A = ℕ} 1 0 = ap (λ (b : Bool). cond b 1 0) (sym whole ∙ no_count sheet (ap is_taken (sym e))) in absurd (omega arith)

module _ (sheet : List ℕ) (n p last next : ℕ) where
  pub one_more : (r : Option Declared.Event) → is_some r ≡ true → Reads sheet last (event_at sheet p) r next
      → (is_taken (rest_at (suc n) sheet p) ≡ is_taken (rest_at n sheet next)) × (next ≤ last)
  one_more (Some e) h (same, within, near) = (ap is_taken (one_event sheet n p same) ∙ still (rest_at n sheet next) (λ es. told sheet e ∷ es), near)
  one_more None h t = let z : ◌≡◌ {A = ℕ} 0 1 = ap (λ (b : Bool). cond b 1 0) h in absurd (omega arith)

  pub none_left : (r : Option Declared.Event) → is_some r ≡ false → Reads sheet last (event_at sheet p) r next → is_taken (rest_at (suc n) sheet p) ≡ false
  none_left (Some e) h t = let z : ◌≡◌ {A = ℕ} 1 0 = ap (λ (b : Bool). cond b 1 0) h in absurd (omega arith)
  none_left None h t = no_event sheet n p t
