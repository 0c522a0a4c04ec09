-- A file taken apart into its header and its pixels, and a framebuffer of which a frame is lent its words. Assumes nothing.
use Prim.Native.Nat.{ℕ, zero, suc, ◌-◌, ◌*◌, ◌≤◌}
use mathlib.Core.Path.{◌≡◌, refl, sym, ap, ◌∙◌, subst}
use Rattle.std.specs.Prelude.{Ok, Err}
use mathlib.Core.List.{List, ◌++◌, append-nil}
use native.Mathlib.Nat.{mul-le-mul}
use native.Mathlib.Omega.{arith}
use lib.Ieee.{Float}
use lib.ListN.{length, take, drop, length-drop, take-append-drop, drop_of_length-le}
use lib.Seq.{length-take-le, take_all}
use Rattle.num.specs.Refusals.{unless, number_of}
use Rattle.num.specs.Laws.Refusals.{number-some, refuses, accepts}
use Rattle.num.specs.declared.refusal.Refusal.{Refusal}
use Rattle.passes.specs.declared.blur.Counts.{Counts}
use Rattle.raster.specs.Claims.{Whole}
use Rattle.raster.specs.Ppm.{Parsed, number_of as reason_of, parse_of}
use Rattle.raster.specs.Pixels.{unpacked, packed_bytes}
use Rattle.raster.specs.declared.ppm.NotAFrame.{NotAFrame}
use Rattle.raster.proofs.Taken.{taken-whole}
use Rattle.chain.specs.Answers.{Applies}
use Rattle.chain.specs.Calls.{Framed, stops, frame_reply, shown_by}
use Rattle.cards.specs.Answers.{Report, refusal, acceptance}
use Rattle.cards.specs.declared.station.Station.{Station}
use Rattle.frames.specs.Frames.{Result, result, shown, among, replied, shows_of, by_parsed, filtered_of, Filters, Room}
use Rattle.frames.specs.Outcome.{Refused, Answer}
use Rattle.frames.specs.declared.NotTaken.TheVariants as No
use Rattle.frames.proofs.Kept.{is_shown}

-- ## Show

-- a refusal's number, 0 for none
abbrev refused_by : Report → ℕ
refused_by (refusal k) = k
refused_by (acceptance ns) = 0

module _ (w h : ℕ) (s : Station) (pixels words past : List ℕ) (floats : List Float) (ints : List ℕ) (curve : List Float) (all : length words ≡ h * w) where
  abbrev refused : ℕ → Result
  refused n = result (Refused n) s pixels words past

  abbrev taken : Result
  taken = shown w h (replied w h s pixels past (length floats) (length ints) curve)

  module _ {k : ℕ} (asks : k ≡ stops s w h (length words) (length past) (length floats) (length ints) curve) where
    number : k ≡ stops s w h (h * w) (length past) (length floats) (length ints) curve
    number = rw (← all) asks

  -- the station refuses the frame
  pub unshown : (e : Refusal) → number_of e ≡ stops s w h (length words) (length past) (length floats) (length ints) curve
      → Filters (shows_of w h s pixels words past (length floats) (length ints) curve) (Err (No.Refused e)) s pixels words past floats floats ints ints
  unshown e asks =
      subst (λ (x : Result). Filters x (Err (No.Refused e)) s pixels words past floats floats ints ints)
      (refuses (number_of e) refused taken (number asks) (number-some e))
      (record {
        outcome = refl;
        station = refl;
        file = refl;
        words = refl;
        past = refl;
        floats_stay = refl;
        ints_stay = refl;
      })

  -- it takes the frame, and lends its words to the call
  module _ (asks : 0 ≡ stops s w h (length words) (length past) (length floats) (length ints) curve) {given : List ℕ}
      (written : given ≡ unpacked (length words) pixels) where
    same : frame_reply w h s given past (length floats) (length ints) curve ≡ replied w h s pixels past (length floats) (length ints) curve
    same = rw (written, all)

    -- the call left what has a prime, and its words were packed into all the bytes that were lent
    pub shows : {c : Counts} {t : Station} {pixels' words' past' : List ℕ} {floats' : List Float} {ints' : List ℕ}
        → Applies w h s given past floats ints curve (Ok c) t words' past' floats' ints'
        → pixels' ≡ packed_bytes words' ++ drop (3 * length words') pixels → length pixels ≤ 3 * length words'
        → Filters (shows_of w h s pixels words past (length floats) (length ints) curve) (Ok c) t pixels' words' past' floats floats' ints ints'
    shows {c} {t} {pixels'} {words'} {past'} {floats'} {ints'} a packed fits =
        let whole : pixels' ≡ packed_bytes words' =
        packed ∙ ap (λ (xs : List ℕ). packed_bytes words' ++ xs) (drop_of_length-le pixels {i = 3 * length words'} fits) ∙ append-nil (packed_bytes words') in
        subst (λ (x : Result). Filters x (Ok c) t pixels' words' past' floats floats' ints ints') (accepts 0 refused taken (number asks) refl)
        (subst (λ (q : Framed). Filters (shown w h q) (Ok c) t pixels' words' past' floats floats' ints ints') (a.replies ∙ same)
        (record {
          outcome = refl;
          station = refl;
          file = whole;
          words = refl;
          past = refl;
          floats_stay = a.floats_stay;
          ints_stay = a.ints_stay;
        }))

    -- the call does not refuse it
    pub takes : {e : Refusal} {t : Station} {words' past' : List ℕ} {floats' : List Float} {ints' : List ℕ}
        → Applies w h s given past floats ints curve (Err e) t words' past' floats' ints' → ⊥
    unfolding shown_by
    takes {e} a =
        number-some e
        (ap (λ (q : Framed). refused_by q.answer)
        (a.replies ∙ same ∙ sym (is_shown w h s pixels past (length floats) (length ints) curve (sym (number asks)))))

-- ## Filter

module _ (s : Station) (file words past : List ℕ) (floats : List Float) (ints : List ℕ) (curve : List Float) where
  abbrev done : Result
  done = filtered_of s file words past (length floats) (length ints) curve

  by-parsed : (p : Parsed) → p ≡ parse_of (length words) file → by_parsed p s file words past (length floats) (length ints) curve ≡ done
  unfolding filtered_of
  by-parsed p e = ap (λ (q : Parsed). by_parsed q s file words past (length floats) (length ints) curve) e

  -- no frame: nothing changes
  pub no_frame : (k : NotAFrame) → Parsed.Refused (reason_of k) ≡ parse_of (length words) file
      → Filters done (Err (No.NoFrame k)) s file words past floats floats ints ints
  no_frame k e =
      subst (λ (x : Result). Filters x (Err (No.NoFrame k)) s file words past floats floats ints ints) (by-parsed (Parsed.Refused (reason_of k)) e)
      (record {
        outcome = refl;
        station = refl;
        file = refl;
        words = refl;
        past = refl;
        floats_stay = refl;
        ints_stay = refl;
      })

  module _ (w h start : ℕ) (pixels' words' : List ℕ) where
    -- what is lent comes back: of the file from the header's end on, with nothing behind it; of the framebuffer the first words
    abbrev file' : List ℕ
    file' = take start file ++ (pixels' ++ drop (length file - start) (drop start file))

    abbrev buffer' : List ℕ
    buffer' = words' ++ drop (h * w) words

    file_back : file' ≡ take start file ++ pixels'
    file_back =
        ap (λ (xs : List ℕ). take start file ++ (pixels' ++ xs)) (drop_of_length-le (drop start file) {i = length file - start} (simp length-drop (omega arith)))
        ∙ ap (λ (xs : List ℕ). take start file ++ xs) (append-nil pixels')

    pub shown_in : (pixels : List ℕ) (r : Answer) (t : Station) (past' : List ℕ) (floats' : List Float) (ints' : List ℕ)
        → Parsed.Frame w h start ≡ parse_of (length words) file → pixels ≡ drop start file
        → Filters (shows_of w h s pixels (take (h * w) words) past (length floats) (length ints) curve) r t pixels' words' past' floats floats' ints ints'
        → Filters done r t file' buffer' past' floats floats' ints ints'
    unfolding unless
    shown_in pixels r t past' floats' ints' e part g =
        subst (λ (x : Result). Filters x r t file' buffer' past' floats floats' ints ints') (by-parsed (Parsed.Frame w h start) e)
        (go (stops s w h (h * w) (length past) (length floats) (length ints) curve) (rw part at g))
      where
        taken : Result
        taken = shown w h (replied w h s (drop start file) past (length floats) (length ints) curve)

        go : (n : ℕ)
            → Filters (unless n (λ k. result (Refused k) s (drop start file) (take (h * w) words) past) taken) r t pixels' words' past' floats floats' ints ints'
            → Filters (unless n (λ k. result (Refused k) s file words past) (among start (h * w) file words taken)) r t file' buffer' past' floats floats' ints ints'
        go zero g = record {
          outcome = g.outcome;
          station = g.station;
          file = file_back ∙ ap (λ (xs : List ℕ). take start file ++ xs) g.file;
          words = ap (λ (xs : List ℕ). xs ++ drop (h * w) words) g.words;
          past = g.past;
          floats_stay = g.floats_stay;
          ints_stay = g.ints_stay;
        }
        go (suc n) g = record {
          outcome = g.outcome;
          station = g.station;
          file = file_back ∙ ap (λ (xs : List ℕ). take start file ++ xs) g.file ∙ take-append-drop start file;
          words = ap (λ (xs : List ℕ). xs ++ drop (h * w) words) g.words ∙ take-append-drop (h * w) words;
          past = g.past;
          floats_stay = g.floats_stay;
          ints_stay = g.ints_stay;
        }

-- ## A frame that is taken

module _ (words file : List ℕ) {w h start : ℕ} (e : Parsed.Frame w h start ≡ parse_of (length words) file) where
  pub whole : Whole (length words) file w h start
  whole = taken-whole (length words) file w h start (sym e)

  pub few : h * w ≤ 1048576
  few = mul-le-mul whole.small-height whole.small_width

  -- what is lent to it: of the framebuffer its words, of the file all that follows the header
  pub lent : length (take (h * w) words) ≡ h * w
  lent = length-take-le (h * w) words whole.few

  pub pixels : take (length file - start) (drop start file) ≡ drop start file
  pixels = take_all (length file - start) (drop start file) (simp length-drop (omega arith))

  pub room : Room (h * w) (take (h * w) words) (take (length file - start) (drop start file))
  room = record { words_room = lent; pixels_room = ap length pixels ∙ simp length-drop (omega (arith, whole.ends)) }

-- what the check asks of both functions that take a file's frame
pub ruleset takings = (whole, few, lent, room)
