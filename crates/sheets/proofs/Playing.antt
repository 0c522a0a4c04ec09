-- The events of a sheet played one after another: what is kept from one to the next, and what is told in the end. Assumes nothing.
use Prim.Native.Nat.{ℕ, suc, ◌+◌, ◌-◌, ◌≤◌, max}
use native.Mathlib.Omega.{arith}
use native.Mathlib.Nat.{zero-max, le-max_left, le-max_right}
use mathlib.Core.Bool.{Bool, true, false, not, cond}
use mathlib.Core.List.{List, [], ◌∷◌}
use mathlib.Core.Path.{◌≡◌, refl, sym, ap, ap₂, ◌∙◌, subst}
use mir.Val.{bool_byte}
use lib.Ieee.{Float}
use lib.ListN.{length, drop}
use lib.Seq.{drop-drop}
use Rattle.cards.specs.Answers.{ok, refusal, acceptance}
use Rattle.cards.specs.Card.{end_at}
use Rattle.cards.specs.Normal.{good_station}
use Rattle.cards.specs.Step.{Step, took, refused, and_then}
use Rattle.cards.specs.declared.station.Station.{Station}
use Rattle.chain.specs.Agree.{opened}
use Rattle.sheets.specs.Events.{Event, event_at, events_at, rest_at, sheet_at}
use Rattle.sheets.specs.Play.{Lent, Playing, floats_of, ints_of, answer_of, turn, turns, begun, Outcome, outcome, played, played_of, play_of}
use Rattle.sheets.specs.Promises.{is_taken, Reads, lent_of, Leaves, Turns, Plays}
use Rattle.sheets.specs.declared.play.Played.{Played}
use Rattle.std.specs.Prelude.{Option, Some, None, Result, Ok, Err}
use Rattle.std.specs.Option.{IsSome}
use Rattle.sheets.specs.declared.event.Event as Declared
use Rattle.std.specs.Result.{is_ok}
use Rattle.num.specs.Refusals.{number_of}
use Rattle.num.specs.declared.refusal.Refusal.{Refusal}
use Rattle.num.specs.declared.refusal.Refusal.TheVariants as R
use Rattle.sheets.proofs.Events.{still, no_event, one_event}

-- ## Words that stay

-- those past n stay where those past m do
further : {A : Type 0} (m n : ℕ) (xs ys : List A) → m ≤ n → drop m xs ≡ drop m ys → drop n xs ≡ drop n ys
further {A} m n xs ys l e = split xs ∙ ap (drop (n - m)) e ∙ sym (split ys)
  where
    split : (zs : List A) → drop n zs ≡ drop (n - m) (drop m zs)
    split zs = let sum : n ≡ m + (n - m) = omega (arith, l) in ap (λ (k : ℕ). drop k zs) sum ∙ sym (drop-drop (n - m) m zs)

-- ## One event more

module _ (l : Lent) (e : Event) (p : Playing) where
  -- what is played, as if it began here
  abbrev here : Playing
  here = begun p.state p.words

  -- the event leaves what it would leave then, and counts behind those before it
  pub onward : (r : Result (Unit {0}) Refusal) (u : Station) (words' past' : List ℕ) (floats₀ floats floats' : List Float) (ints₀ ints ints' : List ℕ)
      → drop p.free_floats floats ≡ drop p.free_floats floats₀ → drop p.free_ints ints ≡ drop p.free_ints ints₀
      → Turns l e here r u words' past' floats floats' ints ints'
      → Leaves (turn l e p) u words' past' floats₀ floats' ints₀ ints'
      × ((turn l e p).accepted ≡ p.accepted + cond (is_ok r) 1 0)
      × ((turn l e p).refused ≡ p.refused + cond (is_ok r) 0 1)
  unfolding turn
  onward r u words' past' floats₀ floats floats' ints₀ ints ints' f i t =
      let room_floats : ℕ = cond (ok (answer_of l e p)) (floats_of e) 0 in
      let room_ints : ℕ = cond (ok (answer_of l e p)) (ints_of e) 0 in (
        record {
          station = t.leaves.station;
          words = t.leaves.words;
          past = t.leaves.past;
          floats_stay =
              further (max 0 room_floats) (max p.free_floats room_floats) floats' floats (omega (arith, zero-max room_floats, le-max_right p.free_floats room_floats)) t.leaves.floats_stay
              ∙ further p.free_floats (max p.free_floats room_floats) floats floats₀ (le-max_left p.free_floats room_floats) f;
          ints_stay =
              further (max 0 room_ints) (max p.free_ints room_ints) ints' ints (omega (arith, zero-max room_ints, le-max_right p.free_ints room_ints)) t.leaves.ints_stay
              ∙ further p.free_ints (max p.free_ints room_ints) ints ints₀ (le-max_left p.free_ints room_ints) i;
        },
        ap (λ (b : Bool). p.accepted + cond b 1 0) (sym t.answers.0),
        ap (λ (b : Bool). p.refused + cond b 0 1) (sym t.answers.0),
      )

  -- the rest of the sheet is played behind it
  pub played-on : (s : Step (List Event)) → is_taken s ≡ true → played_of l (and_then s (λ es q. took (e ∷ es) q)) p ≡ played_of l s (turn l e p)
  unfolding turns
  played-on (took es q) h = refl
  played-on (refused k) h = let z : ◌≡◌ {A = ℕ} 0 1 = ap (λ (b : Bool). cond b 1 0) h in absurd (omega arith)

-- none is left
pub played-last : (l : Lent) (sheet : List ℕ) (at : ℕ) (p : Playing) → is_taken (rest_at 0 sheet at) ≡ true → played_of l (rest_at 0 sheet at) p ≡ played p
unfolding rest_at events_at turns
played-last l sheet at p h = go (end_at sheet at) h
  where
    none : List Event
    none = []

    go : (s : Step (Unit {0})) → is_taken (and_then s (λ u q. took none q)) ≡ true → played_of l (and_then s (λ u q. took none q)) p ≡ played p
    go (took u q) h = refl
    go (refused k) h = let z : ◌≡◌ {A = ℕ} 0 1 = ap (λ (b : Bool). cond b 1 0) h in absurd (omega arith)

-- ## From one event to the next

-- while `left` events stand from `next` on, and these are the words that are lent; what is told in the end is o
pub record Going (l : Lent) (sheet : List ℕ) (o : Outcome) (i left next : ℕ) (s : Station) (words past : List ℕ) (floats₀ floats : List Float) (ints₀ ints : List ℕ)
    (accepted : ℕ) : Type 0 where
  pub playing : Playing
  pub leaves : Leaves playing s words past floats₀ floats ints₀ ints
  pub so_many : playing.accepted ≡ accepted
  pub all_counted : playing.accepted + playing.refused ≡ i
  pub rest-taken : is_taken (rest_at left sheet next) ≡ true
  pub tells : o ≡ played_of l (rest_at left sheet next) playing

-- before the first
pub going : (l : Lent) (sheet : List ℕ) (n at : ℕ) (s : Station) (words past : List ℕ) (floats : List Float) (ints : List ℕ) → is_taken (rest_at n sheet at) ≡ true
    → Going l sheet (played_of l (rest_at n sheet at) (begun (opened s past) words)) 0 n at s words past floats floats ints ints 0
going l sheet n at s words past floats ints h = record {
  playing = begun (opened s past) words;
  leaves = record { station = refl; words = refl; past = refl; floats_stay = refl; ints_stay = refl };
  so_many = refl;
  all_counted = refl;
  rest-taken = h;
  tells = refl;
}

-- a bool as a number
pub as_number : (b : Bool) → bool_byte b ≡ cond b 1 0
as_number true = refl
as_number false = refl

pub at_most : (b : Bool) → cond b 1 0 ≤ 1
at_most true = omega arith
at_most false = omega arith

one : (b : Bool) → cond b 1 0 + cond b 0 1 ≡ 1
one true = refl
one false = refl

module _ {l : Lent} {sheet : List ℕ} {o : Outcome} {i left next : ℕ} {s : Station} {words past : List ℕ} {floats₀ floats : List Float} {ints₀ ints : List ℕ}
    {accepted : ℕ} (g : Going l sheet o i (suc left) next s words past floats₀ floats ints₀ ints accepted) where
  abbrev p : Playing
  p = g.playing

  -- the next one is there
  pub there : is_taken (event_at sheet next) ≡ false → ⊥
  there none = let z : ◌≡◌ {A = ℕ} 1 0 = ap (λ (b : Bool). cond b 1 0) (sym g.rest-taken ∙ no_event sheet left next none) in absurd (omega arith)

  -- so that reading gives it
  pub is_there : (last q : ℕ) (r : Option Declared.Event) → Reads sheet last (event_at sheet next) r q → IsSome r
  is_there last q (Some e) t = refl
  is_there last q None t = absurd (there t)

  begins : begun (opened s past) words ≡ begun p.state p.words
  begins =
      ap₂ (λ (t : Station) (h : List ℕ). begun (opened t h) words) g.leaves.station g.leaves.past ∙ ap (λ (w : List ℕ). begun p.state w) g.leaves.words

  -- and was made
  pub goes_on : (e : Event) (q : ℕ) (l' : Lent) (r : Result (Unit {0}) Refusal) (u : Station) (words' past' : List ℕ) (floats' : List Float) (ints' : List ℕ) → event_at sheet next ≡ took e q → l' ≡ l
      → Turns l' e (begun (opened s past) words) r u words' past' floats floats' ints ints'
      → Going l sheet o (i + 1) left q u words' past' floats₀ floats' ints₀ ints' (accepted + cond (is_ok r) 1 0)
  goes_on e q l' r u words' past' floats' ints' h same t =
      let t' = subst (λ (b : Playing). Turns l e b r u words' past' floats floats' ints ints') begins
      (subst (λ (m : Lent). Turns m e (begun (opened s past) words) r u words' past' floats floats' ints ints') same t) in
      let x = onward l e p r u words' past' floats₀ floats floats' ints₀ ints ints' g.leaves.floats_stay g.leaves.ints_stay t' in
      let after_it = one_event sheet left next h in
      let taken : is_taken (rest_at left sheet q) ≡ true = sym (ap is_taken after_it ∙ still (rest_at left sheet q) (λ es. e ∷ es)) ∙ g.rest-taken in
      record {
        playing = turn l e p;
        leaves = x.0;
        so_many = x.1 ∙ ap (λ (n : ℕ). n + cond (is_ok r) 1 0) g.so_many;
        all_counted = omega (arith, x.1, x.2, one (is_ok r), g.all_counted);
        rest-taken = taken;
        tells = g.tells ∙ ap (λ (z : Step (List Event)). played_of l z p) after_it ∙ played-on l e p (rest_at left sheet q) taken;
      }

-- no more were accepted than were made
pub few : {l : Lent} {sheet : List ℕ} {o : Outcome} {i left next : ℕ} {s : Station} {words past : List ℕ} {floats₀ floats : List Float} {ints₀ ints : List ℕ} {accepted : ℕ}
    → Going l sheet o i left next s words past floats₀ floats ints₀ ints accepted → accepted ≤ i
few g = omega (arith, g.so_many, g.all_counted)

-- numbers that are the same
pub recount : {l : Lent} {sheet : List ℕ} {o : Outcome} {i j left rest next : ℕ} {s : Station} {words past : List ℕ} {floats₀ floats : List Float} {ints₀ ints : List ℕ}
    {accepted other : ℕ} → i ≡ j → left ≡ rest → accepted ≡ other → Going l sheet o i left next s words past floats₀ floats ints₀ ints accepted
    → Going l sheet o j rest next s words past floats₀ floats ints₀ ints other
recount {l} {sheet} {o} {i} {j} {left} {rest} {next} {s} {words} {past} {floats₀} {floats} {ints₀} {ints} {accepted} {other} e f h g =
    subst (λ (a : ℕ). Going l sheet o j rest next s words past floats₀ floats ints₀ ints a) h
    (subst (λ (k : ℕ). Going l sheet o j k next s words past floats₀ floats ints₀ ints accepted) f
    (subst (λ (k : ℕ). Going l sheet o k left next s words past floats₀ floats ints₀ ints accepted) e g))

-- buffers of the same lengths are lent alike
pub lent_alike : (past past' : List ℕ) (floats floats' : List Float) (ints ints' : List ℕ) (curve : List Float) → length past ≡ length past'
    → length floats ≡ length floats' → length ints ≡ length ints' → lent_of past floats ints curve ≡ lent_of past' floats' ints' curve
lent_alike past past' floats floats' ints ints' curve e f h =
    ap₂ (λ (m n : ℕ). record { history = m; floats = n; ints = length ints; curve = curve }) e f
    ∙ ap (λ (n : ℕ). record { history = length past'; floats = length floats'; ints = n; curve = curve }) h

-- after the last
pub ended : {l : Lent} {sheet : List ℕ} {o : Outcome} {n next : ℕ} {s : Station} {words past : List ℕ} {floats₀ floats : List Float} {ints₀ ints : List ℕ} {accepted : ℕ}
    → Going l sheet o n 0 next s words past floats₀ floats ints₀ ints accepted
    → Plays o (Ok (record { accepted = accepted; refused = n - accepted })) s words past floats₀ floats ints₀ ints
ended {l} {sheet} {o} {n} {next} {s} {words} {past} {floats₀} {floats} {ints₀} {ints} {accepted} g =
    let p = g.playing in
    let all : o ≡ played p = g.tells ∙ played-last l sheet next p g.rest-taken in
    let others : n - accepted ≡ p.refused = omega (arith, g.so_many, g.all_counted) in
    subst (λ (x : Outcome). Plays x (Ok (record { accepted = accepted; refused = n - accepted })) s words past floats₀ floats ints₀ ints) (sym all)
    (record { leaves = g.leaves; answers = ap₂ (λ (a r : ℕ). acceptance (a ∷ r ∷ [])) (sym g.so_many) others })

-- ## What is not played

module _ (l : Lent) (sheet : List ℕ) (s : Station) (words past : List ℕ) (floats : List Float) (ints : List ℕ) where
  abbrev beginning : Playing
  beginning = begun (opened s past) words

  -- nothing changes
  kept : (k : Refusal) (o : Outcome) → o ≡ outcome (refusal (number_of k)) beginning → Plays o (Err k) s words past floats floats ints ints
  kept k o e =
      subst (λ (x : Outcome). Plays x (Err k) s words past floats floats ints ints) (sym e)
      (record { leaves = record { station = refl; words = refl; past = refl; floats_stay = refl; ints_stay = refl }; answers = refl })

  pub bad_station : good_station s ≡ false → Plays (play_of l sheet (opened s past) words) (Err R.BadStation) s words past floats floats ints ints
  unfolding play_of
  bad_station h = kept R.BadStation _ (ap (λ (b : Bool). cond (not b) (outcome (refusal 13) beginning) (played_of l (sheet_at sheet 0) beginning)) h)

  module _ (good : good_station s ≡ true) where
    goes_by : play_of l sheet (opened s past) words ≡ played_of l (sheet_at sheet 0) beginning
    unfolding play_of
    goes_by = ap (λ (b : Bool). cond (not b) (outcome (refusal 13) beginning) (played_of l (sheet_at sheet 0) beginning)) good

    pub bad_sheet : is_taken (sheet_at sheet 0) ≡ false → Plays (play_of l sheet (opened s past) words) (Err R.BadSheet) s words past floats floats ints ints
    bad_sheet h = kept R.BadSheet _ (goes_by ∙ none (sheet_at sheet 0) h)
      where
        none : (z : Step (List Event)) → is_taken z ≡ false → played_of l z beginning ≡ outcome (refusal 20) beginning
        none (took es q) e = let z : ◌≡◌ {A = ℕ} 1 0 = ap (λ (b : Bool). cond b 1 0) e in absurd (omega arith)
        none (refused k) e = refl

    pub good_sheet : (n at : ℕ) → sheet_at sheet 0 ≡ rest_at n sheet at → play_of l sheet (opened s past) words ≡ played_of l (rest_at n sheet at) beginning
    good_sheet n at e = goes_by ∙ ap (λ (z : Step (List Event)). played_of l z beginning) e

-- of the same outcome
pub same_outcome : {o o' : Outcome} {r : Result Played Refusal} {u : Station} {words' past' : List ℕ} {floats floats' : List Float} {ints ints' : List ℕ} → o' ≡ o
    → Plays o r u words' past' floats floats' ints ints' → Plays o' r u words' past' floats floats' ints ints'
same_outcome {o} {o'} {r} {u} {words'} {past'} {floats} {floats'} {ints} {ints'} e t = subst (λ (x : Outcome). Plays x r u words' past' floats floats' ints ints') (sym e) t
