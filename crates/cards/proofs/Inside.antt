-- Reading stops in the card or at its end. Assumes nothing.
use Prim.Native.Nat.{ℕ, zero, suc, ◌+◌, ◌*◌, ◌≤◌}
use native.Mathlib.Omega.{arith}
use mathlib.Core.Path.{◌≡◌, refl}
use mathlib.Core.Bool.{Bool, true, false, cond, not}
use mathlib.Core.List.{List, [], ◌∷◌, ◌++◌}
use lib.ListN.{length, get_or}
use lib.Dec.{leb}
use borrow.Author.Tests.{leb-true}
use Rattle.cards.specs.Step.{Step, took, refused, stop, Reader, and_then, ◌>>=◌, ret, here, refuse, refuse_if}
use Rattle.cards.specs.Bits.{value_at, field_at}
use Rattle.cards.specs.Settings.{finite_at, limited_at, within_at, raised_at, count_at, preset_at}
use Rattle.cards.specs.Passes.{ntsc_at, bloom_at, auto_gradient_at, persistence_at, lut_at, curvature_at, color_correction_at, crt_at, vignette_at, scanlines_at}
use Rattle.cards.specs.Passes.{by_kind, pass_at}
use Rattle.cards.specs.Records.{kinds, record_at}
use Rattle.cards.specs.Card.{header_at, records_at, ends_at, end_at, station_at, place_of, stopped_of}
use Rattle.cards.specs.Claims.{StoppedWithin}
use Rattle.cards.specs.declared.station.Record.{Record}
use Rattle.cards.specs.declared.station.Station.{Station}

-- a step that refuses a place in the card, or goes on from one that is not before q
abbrev Stops : {A : Type 0} → List ℕ → ℕ → Step A → Type 0
Stops card q (took a n) = (q ≤ n) × (n ≤ 8 * length card)
Stops card q (refused k) = k.at ≤ 8 * length card

-- a reader that does so wherever it begins, from q on
record Inside {A : Type 0} (q : ℕ) (m : Reader A) : Type 0 where
  inside : (card : List ℕ) (p : ℕ) → q ≤ p → p ≤ 8 * length card → Stops card q (m card p)

inside_then : {A B : Type 0} {q : ℕ} {m : Reader A} (f : A → Reader B) → Inside q m → ((a : A) → Inside q (f a)) → Inside q (◌>>=◌ m f)
inside_then {A} {B} {q} {m} f hm hf = record { inside = λ card p l h. go card (m card p) (hm.inside card p l h) }
  where
    go : (card : List ℕ) (s : Step A) → Stops card q s → Stops card q (and_then s (λ a n. f a card n))
    go card (took a n) w = (hf a).inside card n w.0 w.1
    go card (refused k) w = w

-- it is enough to look from its own place on
inside-from : {A : Type 0} {q : ℕ} (m : Reader A) → ((card : List ℕ) (p : ℕ) → p ≤ 8 * length card → Stops card p (m card p)) → Inside q m
inside-from {A} {q} m h = record { inside = λ card p l i. go card p l (m card p) (h card p i) }
  where
    go : (card : List ℕ) (p : ℕ) → q ≤ p → (s : Step A) → Stops card p s → Stops card q s
    go card p l (took a n) w = (omega arith, w.1)
    go card p l (refused k) w = w

inside-here : {A : Type 0} {q : ℕ} (f : ℕ → Reader A) → ((p : ℕ) → Inside p (f p)) → Inside q (◌>>=◌ here f)
inside-here f h = inside-from (◌>>=◌ here f) (λ card p i. (h p).inside card p (omega arith) i)

inside-ret : {A : Type 0} {q : ℕ} {a : A} → Inside q (ret a)
inside-ret = record { inside = λ card p l i. (l, i) }

inside-refuse : {A : Type 0} {q : ℕ} (k : ℕ) → Inside {A = A} q (refuse k)
inside-refuse k = record { inside = λ card p l i. i }

inside_guard : {q : ℕ} (k : ℕ) (b : Bool) → Inside q (refuse_if k q b)
unfolding refuse_if
inside_guard {q} k b = record { inside = λ card p l i. go card p l i b }
  where
    go : (card : List ℕ) (p : ℕ) → q ≤ p → p ≤ 8 * length card → (b : Bool) → Stops {A = Unit {0}} card q (cond b (refused (stop k q)) (took tt p))
    go card p l i true = omega arith
    go card p l i false = (l, i)

inside_field : {q : ℕ} (k : ℕ) → Inside q (field_at k)
unfolding field_at
inside_field {q} k = record { inside = λ card p l i. go card p l i (leb (p + k) (8 * length card)) refl }
  where
    go : (card : List ℕ) (p : ℕ) → q ≤ p → p ≤ 8 * length card → (b : Bool) → leb (p + k) (8 * length card) ≡ b
        → Stops card q (cond b (took (value_at card p k) (p + k)) (refused (stop 1 p)))
    go card p l i true e = (omega arith, leb-true _ _ e)
    go card p l i false e = i

ruleset insides = (inside-here, inside_then, inside-ret, inside-refuse, inside_guard, inside_field)

-- each of a list of readers, and so the one that a kind picks
data Each {A : Type 0} (q : ℕ) : List (Reader A) → Type 0 where
  none : Each q []
  more : {m : Reader A} {ms : List (Reader A)} → Inside q m → Each q ms → Each q (m ∷ ms)

picked : {A : Type 0} {q : ℕ} {ms : List (Reader A)} {d : Reader A} → Each q ms → Inside q d → (k : ℕ) → Inside q (get_or ms k d)
picked none h k = h
picked (more e es) h zero = e
picked (more e es) h (suc k) = picked es h k

inside_pass : {q : ℕ} (kind : ℕ) → Inside q (pass_at kind)
unfolding pass_at ntsc_at bloom_at auto_gradient_at persistence_at lut_at curvature_at color_correction_at crt_at vignette_at scanlines_at
    finite_at limited_at within_at raised_at count_at preset_at
inside_pass kind = picked {ms = by_kind} (search (none, more, insides) depth 30 fits 5000) (inside-refuse 4) kind

inside_record : {q : ℕ} (seen : List ℕ) → Inside q (record_at seen)
unfolding record_at
inside_record seen = search (inside_pass, insides) depth 14

inside_records : {q : ℕ} (n : ℕ) (done : List Record) → Inside q (records_at n done)
unfolding records_at
inside_records zero done = inside-ret
inside_records (suc n) done = inside_then _ (inside_record (kinds done)) (λ r. inside_records n (done ++ r ∷ []))

inside_header : {q : ℕ} → Inside q header_at
unfolding header_at
inside_header = search insides depth 12

inside_end : {q : ℕ} → Inside q end_at
unfolding end_at
inside_end = inside-from end_at (λ card p i. (inside_guard 7 (not (ends_at card p))).inside card p (omega arith) i)

inside-station : Inside 0 station_at
unfolding station_at
inside-station = search (inside_header, inside_records, inside_end, insides) depth 12

pub stopped-within : StoppedWithin
unfolding stopped_of
stopped-within card = go (station_at card 0) (inside-station.inside card 0 (omega arith) (omega arith))
  where
    go : (s : Step Station) → Stops card 0 s → place_of s ≤ 8 * length card
    go (took s n) w = w.1
    go (refused k) w = w
