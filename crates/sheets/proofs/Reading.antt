-- Reading a sheet field by field: what was taken and what was not, and how far an event reaches. Assumes nothing.
use Prim.Native.Nat.{ℕ, zero, suc, ◌+◌, ◌*◌, ◌^◌, ◌<◌, ◌≤◌}
use native.Mathlib.Omega.{arith}
use native.Mathlib.Nat.{mul-le-mul}
use mathlib.Core.Bool.{Bool, true, false, cond}
use mathlib.Core.List.{List, [], ◌∷◌}
use mathlib.Core.Path.{◌≡◌, refl, sym, ap, ◌∙◌, subst}
use lib.Dec.{leb, eqb}
use lib.ListN.{length, get_or}
use borrow.Author.Tests.{leb-true}
use Rattle.std.specs.Prelude.{Option, Some, None, Result, Ok, Err}
use Rattle.std.specs.Result.{result_ok}
use Rattle.cards.specs.Step.{Step, took, refused, stop, refuse, and_then, step}
use Rattle.cards.specs.Bits.{value_at, field_at}
use Rattle.cards.specs.declared.fields.Stop.{Stop}
use Rattle.cards.proofs.Bits.{value_at_lt, taken, whole}
use Rattle.sheets.specs.Events.{Event, frame, words_at, frame_at, switch_at, by_number, event_at}
use Rattle.sheets.specs.Promises.{is_taken, values_at, told, Within, Reads}
use Rattle.sheets.specs.declared.event.Event as Declared

-- ## Steps

-- a definition goes on with what was taken, and stops where nothing was
pub on : {A B : Type 0} {s : Step A} {a : A} {n : ℕ} (f : A → ℕ → Step B) → s ≡ took a n → and_then s f ≡ f a n
on f e = ap (λ s. and_then s f) e

pub off : {A B : Type 0} (s : Step A) (f : A → ℕ → Step B) → is_taken s ≡ false → is_taken (and_then s f) ≡ false
off (took a n) f e = let z : ◌≡◌ {A = ℕ} 0 1 = ap (λ (b : Bool). cond b 0 1) e in absurd (omega arith)
off (refused k) f e = refl

-- ## Fields

-- what the code took or refused is what the definition does
pub answer_took : {A : Type 0} (r : Result A Stop) (s : Step A) (m : ℕ) (a : A) → step r m ≡ s → result_ok r ≡ Some a → s ≡ took a m
answer_took (Ok b) s m a e h = let same : b ≡ a = cc in sym e ∙ ap (λ (x : _). took x m) same
answer_took (Err k) s m a e h = cc

pub answer_not : {A : Type 0} (r : Result A Stop) (s : Step A) (m : ℕ) → step r m ≡ s → result_ok r ≡ None → is_taken s ≡ false
answer_not (Ok b) s m e h = cc
answer_not (Err k) s m e h = ap is_taken (sym e)

module _ (sheet : List ℕ) where
  -- a field that is taken: its value is small, and its end is on the sheet
  pub small : (k p : ℕ) {v n : ℕ} → field_at k sheet p ≡ took v n → v < 2 ^ k
  small k p {v} {n} e = omega (arith, (taken k sheet p v n e).0, value_at_lt sheet p k)

  pub next : (k p : ℕ) {v n : ℕ} → field_at k sheet p ≡ took v n → n ≡ p + k
  next k p {v} {n} e = (taken k sheet p v n e).1

  pub on-sheet : (k p : ℕ) {v n : ℕ} → field_at k sheet p ≡ took v n → n ≤ 8 * length sheet
  unfolding field_at
  on-sheet k p {v} {n} e = go (leb (p + k) (8 * length sheet)) refl e
    where
      go : (b : Bool) → leb (p + k) (8 * length sheet) ≡ b → cond b (took (value_at sheet p k) (p + k)) (refused (stop 1 p)) ≡ took v n → n ≤ 8 * length sheet
      go true l e = let same : p + k ≡ n = cc in omega (arith, leb-true (p + k) (8 * length sheet) l, same)
      go false l e = let z : ◌≡◌ {A = ℕ} 0 1 = cc in absurd (omega arith)

  -- ## The words of a frame

  pub words_took : (n p : ℕ) → p + 24 * n ≤ 8 * length sheet → words_at n sheet p ≡ took (values_at n sheet p) (p + 24 * n)
  unfolding words_at values_at
  words_took zero p h = ap (took []) (omega arith)
  words_took (suc n) p h =
      on _ (whole 24 sheet p (omega (arith, h))) ∙ on _ (words_took n (p + 24) (omega (arith, h)))
      ∙ ap (took (value_at sheet p 24 ∷ values_at n sheet (p + 24))) (omega arith)

  pub words-not : (n p : ℕ) → p ≤ 8 * length sheet → 8 * length sheet < p + 24 * n → is_taken (words_at n sheet p) ≡ false
  unfolding words_at
  words-not zero p h l = absurd (omega (arith, h, l))
  words-not (suc n) p h l = go (field_at 24 sheet p) refl (λ q. words-not n q)
    where
      go : (s : Step ℕ) → field_at 24 sheet p ≡ s → ((q : ℕ) → q ≤ 8 * length sheet → 8 * length sheet < q + 24 * n → is_taken (words_at n sheet q) ≡ false)
          → is_taken (and_then s (λ word q. and_then (words_at n sheet q) (λ words q. took (word ∷ words) q))) ≡ false
      go (took v q) e later = off (words_at n sheet q) _ (later q (on-sheet 24 p e) (omega (arith, l, next 24 p e)))
      go (refused k) e later = refl

  -- a frame is no larger than its sides' 11 bits let it be
  pub few : (w h : ℕ) → w < 2048 → h < 2048 → h * w ≤ 4190209
  few w h lw lh =
      let high : h ≤ 2047 = omega (arith, lh) in
      let wide : w ≤ 2047 = omega (arith, lw) in
      mul-le-mul high wide

  -- ## A frame, by its two sides; a switch, by its kind and position

  pub no_width : (p : ℕ) → is_taken (field_at 11 sheet p) ≡ false → is_taken (frame_at sheet p) ≡ false
  unfolding frame_at
  no_width p e = off (field_at 11 sheet p) _ e

  module _ (p : ℕ) {w n : ℕ} (wide : field_at 11 sheet p ≡ took w n) where
    pub no_height : is_taken (field_at 11 sheet n) ≡ false → is_taken (frame_at sheet p) ≡ false
    unfolding frame_at
    no_height e = ap is_taken (on _ wide) ∙ off (field_at 11 sheet n) _ e

    module _ {h q : ℕ} (high : field_at 11 sheet n ≡ took h q) where
      pub no_words : 8 * length sheet < q + 24 * (h * w) → is_taken (frame_at sheet p) ≡ false
      unfolding frame_at
      no_words l = ap is_taken (on _ wide ∙ on _ high) ∙ off (words_at (h * w) sheet q) _ (words-not (h * w) q (on-sheet 11 n high) l)

      pub whole_frame : q + 24 * (h * w) ≤ 8 * length sheet → frame_at sheet p ≡ took (frame w h (values_at (h * w) sheet q)) (q + 24 * (h * w))
      unfolding frame_at
      whole_frame l = on _ wide ∙ on _ high ∙ on _ (words_took (h * w) q l)

      pub count : h * w ≤ 4190209
      count = few w h (small 11 p wide) (small 11 n high)

      pub behind : q ≡ p + 22
      behind = omega (arith, next 11 p wide, next 11 n high)

  module _ (made : ℕ → Bool → Event) (p : ℕ) where
    pub no_kind : is_taken (field_at 4 sheet p) ≡ false → is_taken (switch_at made sheet p) ≡ false
    unfolding switch_at
    no_kind e = off (field_at 4 sheet p) _ e

    module _ {kind n : ℕ} (first : field_at 4 sheet p ≡ took kind n) where
      pub no_position : is_taken (field_at 1 sheet n) ≡ false → is_taken (switch_at made sheet p) ≡ false
      unfolding switch_at
      no_position e = ap is_taken (on _ first) ∙ off (field_at 1 sheet n) _ e

      pub whole_switch : {position q : ℕ} → field_at 1 sheet n ≡ took position q → switch_at made sheet p ≡ took (made kind (eqb position 1)) q
      unfolding switch_at
      whole_switch e = on _ first ∙ on _ e

  -- ## An event, by its number

  pub no_number_lem : (p : ℕ) → is_taken (field_at 3 sheet p) ≡ false → is_taken (event_at sheet p) ≡ false
  unfolding event_at
  no_number_lem p e = off (field_at 3 sheet p) _ e

  pub by_number_lem : (p : ℕ) {number n : ℕ} → field_at 3 sheet p ≡ took number n → event_at sheet p ≡ get_or by_number number (refuse 20) sheet n
  unfolding event_at
  by_number_lem p e = on _ e

-- a number that none of the events has
pub unknown : (sheet : List ℕ) (n k : ℕ) → (k ≡ 0 → ⊥) → (k ≡ 1 → ⊥) → (k ≡ 2 → ⊥) → (k ≡ 3 → ⊥) → (k ≡ 4 → ⊥) → (k ≡ 5 → ⊥)
    → is_taken (get_or by_number k (refuse 20) sheet n) ≡ false
unknown sheet n zero h0 h1 h2 h3 h4 h5 = absurd (h0 refl)
unknown sheet n (suc zero) h0 h1 h2 h3 h4 h5 = absurd (h1 refl)
unknown sheet n (suc (suc zero)) h0 h1 h2 h3 h4 h5 = absurd (h2 refl)
unknown sheet n (suc (suc (suc zero))) h0 h1 h2 h3 h4 h5 = absurd (h3 refl)
unknown sheet n (suc (suc (suc (suc zero)))) h0 h1 h2 h3 h4 h5 = absurd (h4 refl)
unknown sheet n (suc (suc (suc (suc (suc zero))))) h0 h1 h2 h3 h4 h5 = absurd (h5 refl)
unknown sheet n (suc (suc (suc (suc (suc (suc k)))))) h0 h1 h2 h3 h4 h5 = refl

-- what is read behind the number is read of the event
pub same_read : (sheet : List ℕ) (last last' : ℕ) {s t : Step Event} (r : Option Declared.Event) (next : ℕ) → t ≡ s → last ≤ last' → Reads sheet last s r next
    → Reads sheet last' t r next
same_read sheet last last' (Some e) next h l (same, within, near) = (h ∙ same, within, omega (arith, near, l))
same_read sheet last last' None next h l e = ap is_taken h ∙ e

-- by the case of what was read
pub read_took : (sheet : List ℕ) (last : ℕ) (s : Step Event) (r : Option Declared.Event) (e : Declared.Event) (n : ℕ) → r ≡ Some e → Reads sheet last s r n
    → (s ≡ took (told sheet e) n) × Within sheet e × (n ≤ last)
read_took sheet last s r e n h t = subst (λ (x : Option Declared.Event). Reads sheet last s x n) h t

pub read-not : (sheet : List ℕ) (last : ℕ) (s : Step Event) (r : Option Declared.Event) (n : ℕ) → r ≡ None → Reads sheet last s r n → is_taken s ≡ false
read-not sheet last s r n h t = subst (λ (x : Option Declared.Event). Reads sheet last s x n) h t
