-- Events of program `station`, put on a sheet. One event: a letter's case of what the program says of the bytes. All: an event that is put behind others leaves
-- these as they were. Assumes nothing.
use Prim.Native.Nat.{ℕ, zero, suc, ◌+◌, ◌*◌, ◌-◌, ◌≤◌, ◌<◌}
use native.Mathlib.Decide.{dec_lt}
use native.Mathlib.Numerals.{add-one}
use native.Mathlib.Omega.{arith}
use mathlib.Core.Bool.{Bool, true, false, cond}
use mathlib.Core.List.{List, [], ◌∷◌, ◌++◌}
use mathlib.Core.Path.{◌≡◌, refl, sym, ap, ap₂, ◌∙◌, subst}
use borrow.Author.Tests.{ne_eqb, le-ltb}
use lib.Dec.{eqb, ltb}
use lib.ListN.{length, take, drop, length-drop}
use lib.Seq.{get_or-take, get_or-drop, take_all, length-take-le}
use Rattle.cards.specs.Bits.{value_at}
use Rattle.cards.specs.Step.{took}
use Rattle.io.specs.Counts.{IsPrefixLen}
use Rattle.events.specs.Events.{letter_in, width_in, height_in, kind_in, position_in, outside, bad_size}
use Rattle.events.specs.Events.{frame_wanted, event_wanted, frame_fault, switch_fault, event_fault}
use Rattle.events.specs.Text.{F, L, R, S}
use Rattle.events.proofs.Sizes.{small}
use Rattle.raster.specs.Pixels.{byte_at, pixel_at, unpacked}
use Rattle.sheets.specs.Events.{Event, frame, reset, switch, step, event_at, events_at}
use Rattle.sheets.specs.Written.{Padded, Writes, Closes}
use Rattle.sheets.proofs.Writing.{local_event, listed_more}
use Rattle.sheet.specs.Recorded.{event_in, behind, events_in, Near, Puts, Packs}
use Rattle.sheet.specs.declared.pack.Packed.{Packed}
use Rattle.sheet.specs.declared.pack.Put.{Put}

-- ## One event

-- one that is not put takes no byte and no bit, and has a fault, k
pub not_put : (k : ℕ) {input : List ℕ} {p : ℕ} {r : Put} {sheet sheet' : List ℕ} → 0 < k → (r.fault ≡ k) × (r.bytes ≡ 0) × (r.next ≡ p)
    → Near input p r × (r.fault ≡ 0 → Puts input p r sheet sheet')
not_put k some (fault, bytes, next) =
    (record { within = omega (arith, bytes); short = omega (arith, next) }, λ none. absurd (omega (arith, some, fault, none)))

-- what the program says of bytes that begin with the event e, of so many bytes
record Begins (input : List ℕ) (bytes : ℕ) (e : Event) : Type 0 where
  pub good : event_fault input ≡ 0
  pub all : bytes ≡ event_wanted input
  pub is : event_in input ≡ e

abbrev made : ℕ → ℕ → Put
made bytes next = record { fault = 0; bytes = bytes; next = next }

-- one that is written is put
put : {input : List ℕ} {bytes p next : ℕ} {e : Event} {sheet sheet' : List ℕ} → Begins input bytes e → bytes ≤ length input → next ≤ p + 24601
    → next ≤ 8 * length sheet' → Writes event_at e p next sheet sheet'
    → Near input p (made bytes next) × (◌≡◌ {A = ℕ} 0 0 → Puts input p (made bytes next) sheet sheet')
put {p = p} {next = next} {sheet = sheet} {sheet' = sheet'} b within short inside w = (
  record { within = within; short = short },
  λ none. record { good = b.good; all = b.all; writes = subst (λ (e : Event). Writes event_at e p next sheet sheet') (sym b.is) w; inside = inside },
)

-- ## Its letter's case

-- pixels look at no byte but their own
unpacked_same : (n : ℕ) (xs ys : List ℕ) → ((i : ℕ) → i < 3 * n → byte_at xs i ≡ byte_at ys i) → unpacked n xs ≡ unpacked n ys
unfolding unpacked
unpacked_same zero xs ys same = refl
unpacked_same (suc n) xs ys same =
    let first : pixel_at xs 0 ≡ pixel_at ys 0 = simp (same 0 (omega arith), same 1 (omega arith), same 2 (omega arith)) in
    ap₂ (λ (p : ℕ) (ps : List ℕ). p ∷ ps) first
    (unpacked_same n (drop 3 xs) (drop 3 ys) (λ i l. get_or-drop 3 xs i 0 ∙ same (3 + i) (omega (arith, l)) ∙ sym (get_or-drop 3 ys i 0)))

unpacked-take : (n m : ℕ) (bytes : List ℕ) → 3 * n ≤ m → unpacked n (take m bytes) ≡ unpacked n bytes
unpacked-take n m bytes l = unpacked_same n (take m bytes) bytes (λ i k. get_or-take m bytes i 0 (omega (arith, l, k)))

module _ (input : List ℕ) (some : 0 < length input) where
  not-empty : eqb (length input) 0 ≡ false
  not-empty = ne_eqb (length input) 0 (λ e. omega (arith, some, e))

  is_reset : letter_in input ≡ R → Begins input 1 reset
  unfolding event_fault event_wanted event_in
  is_reset r = record { good = simp r; all = simp (not-empty, r); is = simp r }

  is-step : letter_in input ≡ L → Begins input 1 step
  unfolding event_fault event_wanted event_in
  is-step l = record { good = simp l; all = simp (not-empty, l); is = simp l }

  module _ (long : 3 ≤ length input) where
    is_switch : letter_in input ≡ S → position_in input ≤ 1 → Begins input 3 (switch (kind_in input) (eqb (position_in input) 1))
    unfolding event_fault switch_fault event_wanted event_in
    is_switch s two = record {
      good = simp (s, le-ltb (length input) 3 long, le-ltb 1 (position_in input) two);
      all = simp (not-empty, s);
      is = simp s;
    }

    is_frame : {w h : ℕ} → letter_in input ≡ F → width_in input ≡ w → height_in input ≡ h → outside w ≡ false → outside h ≡ false → 3 + 3 * (h * w) ≤ length input
        → Begins input (3 + 3 * (h * w)) (frame w h (unpacked (h * w) (take (3 + 3 * (h * w) - 3) (drop 3 input))))
    unfolding event_fault frame_fault event_wanted frame_wanted event_in
    is_frame {w} {h} f wide high w-in h-in all = record {
      good = simp (f, le-ltb (length input) 3 long, wide, high, w-in, h-in, le-ltb (length input) (3 + 3 * (h * w)) all);
      all = simp (not-empty, f, le-ltb (length input) 3 long, wide, high, w-in, h-in);
      is = simp (f, wide, high) (ap (frame w h) (sym (unpacked-take (h * w) (3 + 3 * (h * w) - 3) (drop 3 input) (omega arith))));
    }

-- ## An event of each letter, as the function of that letter writes it

-- a frame that the program takes has at most 1,024 pixels
pub small_frame : (w h : ℕ) → outside w ≡ false → outside h ≡ false → h * w ≤ 1024
small_frame w h w-in h-in = small w h (simp (w-in, h-in))

module _ {input : List ℕ} (some : 0 < length input) {p next : ℕ} {sheet sheet' : List ℕ} (inside : next ≤ 8 * length sheet') where
  pub put_reset : letter_in input ≡ R → next ≡ p + 3 → Writes event_at reset p next sheet sheet'
      → Near input p (made 1 next) × (◌≡◌ {A = ℕ} 0 0 → Puts input p (made 1 next) sheet sheet')
  put_reset r e w = put (is_reset input some r) (omega (arith, some)) (omega (arith, e)) inside w

  pub put_step : letter_in input ≡ L → next ≡ p + 3 → Writes event_at step p next sheet sheet'
      → Near input p (made 1 next) × (◌≡◌ {A = ℕ} 0 0 → Puts input p (made 1 next) sheet sheet')
  put_step l e w = put (is-step input some l) (omega (arith, some)) (omega (arith, e)) inside w

  pub put_switch : 3 ≤ length input → letter_in input ≡ S → position_in input ≤ 1 → next ≡ p + 8
      → Writes event_at (switch (kind_in input) (eqb (position_in input) 1)) p next sheet sheet'
      → Near input p (made 3 next) × (◌≡◌ {A = ℕ} 0 0 → Puts input p (made 3 next) sheet sheet')
  put_switch long s two e w = put (is_switch input some long s two) long (omega (arith, e)) inside w

  pub put_frame : {w h : ℕ} → 3 ≤ length input → letter_in input ≡ F → w ≡ width_in input → h ≡ height_in input → outside w ≡ false → outside h ≡ false
      → 3 + 3 * (h * w) ≤ length input → next ≡ p + 25 + 24 * (h * w)
      → Writes event_at (frame w h (unpacked (h * w) (take (3 + 3 * (h * w) - 3) (drop 3 input)))) p next sheet sheet'
      → Near input p (made (3 + 3 * (h * w)) next) × (◌≡◌ {A = ℕ} 0 0 → Puts input p (made (3 + 3 * (h * w)) next) sheet sheet')
  put_frame {w} {h} long f wide high w-in h-in all e write =
      put (is_frame input some long f (sym wide) (sym high) w-in h-in all) all (omega (arith, e, small_frame w h w-in h-in)) inside write

-- ## All events: the first n of them stand on the sheet, up to the bit p, and the next one begins at the byte `from`

pub record Stands (input : List ℕ) (n from p : ℕ) (sheet : List ℕ) : Type 0 where
  pub at : from ≡ behind n input
  pub few : n ≤ 65535
  pub lower : 16 ≤ p
  pub upper : p ≤ 16 + 24601 * n
  pub inside : p ≤ 8 * length sheet
  pub within : from ≤ length input
  pub good : (k : ℕ) → k < n → event_fault (drop (behind k input) input) ≡ 0
  pub reads : events_at n sheet 16 ≡ took (events_in n input) p
  pub padded : Padded p sheet

-- where none stands, the count's 16 bits are passed over
pub none_yet : (input sheet : List ℕ) → 2 ≤ length sheet → Stands input 0 0 16 sheet
unfolding behind events_in events_at value_at
none_yet input sheet room = record {
  at = refl;
  few = omega arith;
  lower = omega arith;
  upper = omega arith;
  inside = omega (arith, room);
  within = omega arith;
  good = λ k l. absurd (omega (arith, l));
  reads = refl;
  padded = refl;
}

-- an event has a byte at least
one-at_least : {a b : ℕ} (t : Bool) → 1 ≤ a → 1 ≤ b → 1 ≤ cond t a b
one-at_least true l m = l
one-at_least false l m = m

pub some_wanted : (bytes : List ℕ) → 1 ≤ event_wanted bytes
unfolding event_wanted frame_wanted
some_wanted bytes =
    one-at_least (eqb (length bytes) 0) (omega arith)
    (one-at_least (eqb (letter_in bytes) F)
    (one-at_least (ltb (length bytes) 3) (omega arith) (one-at_least (bad_size bytes) (omega arith) (omega arith)))
    (one-at_least (eqb (letter_in bytes) S) (omega arith) (omega arith)))

-- the bytes behind them, as the code takes them
abbrev pub rest : List ℕ → ℕ → List ℕ
rest input from = take (length input - from) (drop from input)

pub rest_long : (input : List ℕ) (from : ℕ) → length (rest input from) ≡ length input - from
rest_long input from = length-take-le (length input - from) (drop from input) (simp length-drop (omega arith))

-- one more: those before it stand as they did, since it is written from the bit p on
module _ {input : List ℕ} {n from p : ℕ} {sheet : List ℕ} (there : Stands input n from p sheet) where
  is-rest : rest input from ≡ drop (behind n input) input
  is-rest = take_all (length input - from) (drop from input) (simp length-drop (omega arith)) ∙ ap (λ (k : ℕ). drop k input) there.at

  module _ {r : Put} {sheet' : List ℕ} (near : Near (rest input from) p r) (puts : Puts (rest input from) p r sheet sheet')
      (kept : length sheet' ≡ length sheet) (more : n ≡ 65535 → ⊥) where
    -- the program takes each of them
    all_good : (k : ℕ) → k < n + 1 → event_fault (drop (behind k input) input) ≡ 0
    all_good k l = go (dec_lt k n)
      where
        go : Dec (k < n) → event_fault (drop (behind k input) input) ≡ 0
        go (yes m) = there.good k m
        go (no m) =
            let last : n ≡ k = omega (arith, l, m) in
            subst (λ (i : ℕ). event_fault (drop (behind i input) input) ≡ 0) last (ap event_fault (sym is-rest) ∙ puts.good)

    pub one_more : Stands input (n + 1) (from + r.bytes) r.next sheet'
    unfolding behind events_in
    one_more =
        let room : p ≤ 8 * length sheet' = omega (arith, there.inside, kept) in
        let onward : p ≤ r.next = local_event.onward sheet' p (event_in (rest input from)) r.next puts.writes.reads in
        record {
          at = ap₂ (λ (a b : ℕ). a + b) there.at (puts.all ∙ ap event_wanted is-rest) ∙ ap (λ (k : ℕ). behind k input) (sym (add-one n));
          few = omega (arith, there.few, more);
          lower = omega (arith, there.lower, onward);
          upper = omega (arith, there.upper, near.short);
          inside = puts.inside;
          within = omega (arith, near.within, rest_long input from, there.within);
          good = all_good;
          reads =
              ap (λ (k : ℕ). events_at k sheet' 16) (add-one n)
              ∙ listed_more n 16 there.reads room puts.writes
              ∙ ap (λ (e : Event). took (events_in n input ++ e ∷ []) r.next) (ap event_in is-rest)
              ∙ ap (λ (k : ℕ). took (events_in k input) r.next) (sym (add-one n));
          padded = puts.writes.padded there.padded;
        }

-- the last of them ends the bytes, and the count makes a sheet of them
module _ {input : List ℕ} {n from p : ℕ} {sheet : List ℕ} (there : Stands input n from p sheet) (ended : length input ≤ from) where
  pub whole : {r : ℕ} {sheet' : List ℕ} → length sheet' ≡ length sheet → Closes n p r sheet sheet'
      → IsPrefixLen r sheet' × (◌≡◌ {A = ℕ} 0 0 → Packs input (record { fault = 0; events = n; length = r; bits = p }) sheet')
  whole {r} {sheet'} kept closed =
      let room : r ≤ length sheet' = omega (arith, closed.size, there.inside, kept) in (
        (room, sym (length-take-le r sheet' room)),
        λ none. record {
          all = omega (arith, there.at, there.within, ended);
          good = there.good;
          reads = closed.whole (events_in n input) there.reads there.padded;
        },
      )

-- a fault leaves no sheet
pub no_sheet : {input : List ℕ} {r : Packed} {sheet : List ℕ} {k : ℕ} → (k ≡ 0 → ⊥) → (r.fault ≡ k) × (r.length ≡ 0)
    → IsPrefixLen r.length sheet × (r.fault ≡ 0 → Packs input r sheet)
no_sheet {r = r} {sheet = sheet} bad (fault, none) =
    let room : r.length ≤ length sheet = omega (arith, none) in
    ((room, sym (length-take-le r.length sheet room)), λ e. absurd (bad (sym fault ∙ e)))
