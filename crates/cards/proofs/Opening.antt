-- Opening, over variables: what each exit of `read` cites. Assumes nothing.
use Prim.Native.Nat.{ℕ, suc, ◌+◌, ◌-◌, ◌*◌, ◌≤◌, ◌<◌}
use native.Mathlib.Omega.{arith}
use native.Mathlib.Numerals.{add-one}
use mathlib.Core.Path.{◌≡◌, refl, ap, sym, subst, ◌∙◌}
use mathlib.Core.Bool.{Bool, true, false}
use mathlib.Core.List.{List, [], ◌∷◌, ◌++◌}
use lib.ListN.{length, take, drop, set, replicate, length-set, take-append-drop}
use lib.Seq.{take-suc-set, drop-set-lt, drop-drop, length-take-le}
use Rattle.cards.specs.Step.{Refusal, took, refused, and_then, stop, refuse_if}
use Rattle.cards.specs.Bits.{field_at}
use Rattle.cards.specs.Records.{kinds, record_at}
use Rattle.cards.specs.Card.{unused, station_of, header_at, records_at, ends_at, end_at, station_at}
use Rattle.cards.specs.declared.station.Pending.TheVariants.{Nothing}
use Rattle.cards.specs.declared.station.Record.{Record}
use Rattle.cards.specs.declared.station.Station.{Station}
use borrow.Author.Tests.{ltb-false, le-ltb}
use Rattle.cards.proofs.Taken.{Gives, gives_then, gives_ret, gives_here, gives_guard, gives_field}

-- the header takes at most twelve passes
pub gives_header : Gives header_at (λ n. n ≤ 12)
unfolding header_at
gives_header =
    gives_here (λ p. gives_then _ (gives_field 4) (λ v hv. gives_then _ (gives_guard 2 p _)
    (λ u g. gives_here (λ q. gives_then _ (gives_field 4) (λ n hn. gives_then _ (gives_guard 3 q _) (λ u g. gives_ret (λ m. m ≤ 12) n (ltb-false 12 n g)))))))

pub header_took : (card : List ℕ) (n : ℕ) → field_at 4 card 0 ≡ took 1 4 → field_at 4 card 4 ≡ took n 8 → n ≤ 12 → header_at card 0 ≡ took n 8
unfolding header_at refuse_if
header_took card n e₁ e₂ few = simp (e₁, e₂, le-ltb 12 n few)

-- what a test of the code answers, as the definition's
pub test_refused : (k : Refusal) (j p : ℕ) (b : Bool) (card : List ℕ) (n : ℕ) → refused k ≡ refuse_if j p b card n → (b ≡ true) × (k ≡ stop j p)
unfolding refuse_if
test_refused k j p true card n e = (refl, cc)
test_refused k j p false card n e = cc

pub test_passed : (u : Unit {0}) (m j p : ℕ) (b : Bool) (card : List ℕ) (n : ℕ) → took u m ≡ refuse_if j p b card n → b ≡ false
unfolding refuse_if
test_passed u m j p true card n e = cc
test_passed u m j p false card n e = refl

pub no_header : (card : List ℕ) (k : Refusal) → header_at card 0 ≡ refused k → station_at card 0 ≡ refused k
unfolding station_at
no_header card k e = simp e

module _ (card : List ℕ) (n b : ℕ) (e₁ : header_at card 0 ≡ took n b) where
  pub no_record : (k : Refusal) → records_at n [] card b ≡ refused k → station_at card 0 ≡ refused k
  unfolding station_at
  no_record k e₂ = simp (e₁, e₂)

  pub no_end : (d : ℕ) (rs : List Record) → records_at n [] card b ≡ took rs d → ends_at card d ≡ false → station_at card 0 ≡ refused (stop 7 d)
  unfolding station_at refuse_if end_at
  no_end d rs e₂ e₃ = simp (e₁, e₂, e₃)

  pub opens : (d : ℕ) (rs : List Record) → records_at n [] card b ≡ took rs d → ends_at card d ≡ true → station_at card 0 ≡ took (station_of rs) d
  unfolding station_at refuse_if end_at
  opens d rs e₂ e₃ = simp (e₁, e₂, e₃)

-- where the loop stands after i records: those done are at the front, the places past them are unused
pub record Done (card : List ℕ) (n start : ℕ) (rs : List Record) (next i : ℕ) : Type 0 where
  pub within : i ≤ n
  pub few : n ≤ 12
  pub near : next ≤ 8 + 133 * i
  pub long : length rs ≡ 12
  pub rest : drop i rs ≡ replicate (12 - i) unused
  pub same : records_at n [] card start ≡ records_at (n - i) (take i rs) card next

pub done_none : (card : List ℕ) (n start : ℕ) → header_at card 0 ≡ took n start → start ≤ 8 → Done card n start (replicate 12 unused) start 0
done_none card n start e h =
    record {
      within = omega arith;
      few = gives_header.gives card 0 n start e;
      near = omega arith;
      long = refl;
      rest = refl;
      same = let all : n ≡ n - 0 = omega arith in ap (λ (k : ℕ). records_at k [] card start) all;
    }

module _ (card : List ℕ) (n start : ℕ) (rs : List Record) (next i : ℕ) (d : Done card n start rs next i) (i<n : i < n) where
  turn : records_at n [] card start ≡ and_then (record_at (kinds (take i rs)) card next) (λ r q. records_at (n - suc i) (take i rs ++ r ∷ []) card q)
  unfolding records_at
  turn =
      let left : n - i ≡ suc (n - suc i) = omega arith in
      d.same ∙ ap (λ (k : ℕ). records_at k (take i rs) card next) left

  pub done_refused : (k : Refusal) → record_at (kinds (take i rs)) card next ≡ refused k → records_at n [] card start ≡ refused k
  done_refused k e = turn ∙ simp e

  pub done_more : (r : Record) (after : ℕ) → record_at (kinds (take i rs)) card next ≡ took r after → after ≤ next + 133 → Done card n start (set rs i r) after (i + 1)
  done_more r after e h =
      let inside : i < length rs = omega (arith, d.long, d.few) in
      let places : 12 - i ≡ suc (12 - (i + 1)) = omega arith in
      record {
        within = omega arith;
        few = d.few;
        near = omega (arith, d.near);
        long = length-set rs i r ∙ d.long;
        rest =
            drop-set-lt (i + 1) rs i r (omega arith)
            ∙ sym (drop-drop 1 i rs)
            ∙ ap (drop 1) d.rest
            ∙ ap (λ (k : ℕ). drop 1 (replicate k unused)) places;
        same = rw (add-one, take-suc-set rs i r inside) (turn ∙ simp e);
      }

abbrev station_with : List Record → ℕ → Station
station_with xs n = record { records = xs; n = n; pending = Nothing }

-- at the end the station is what the loop filled
pub done_all : (card : List ℕ) (n start : ℕ) (rs : List Record) (next : ℕ) → Done card n start rs next n
    → (records_at n [] card start ≡ took (take n rs) next) × (station_of (take n rs) ≡ station_with rs n)
unfolding records_at
done_all card n start rs next d =
    let none : n - n ≡ 0 = omega arith in
    let all : length (take n rs) ≡ n = length-take-le n rs (omega (arith, d.long, d.few)) in (
      d.same ∙ ap (λ (k : ℕ). records_at k (take n rs) card next) none,
      rw all (ap (λ (xs : List Record). station_with xs n) (ap (λ (xs : List Record). take n rs ++ xs) (sym d.rest) ∙ take-append-drop n rs)),
    )

pub done_end : (card : List ℕ) (n start : ℕ) (rs : List Record) (next i : ℕ) → Done card n start rs next i → n ≤ i → Done card n start rs next n
done_end card n start rs next i d h = let e : i ≡ n = omega (arith, d.within) in subst (λ (k : ℕ). Done card n start rs next k) e d
