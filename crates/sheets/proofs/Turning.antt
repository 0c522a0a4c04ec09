-- One event, from what the call that it is did. Assumes nothing.
use Prim.Native.Nat.{ℕ, zero, suc, ◌+◌, ◌*◌, ◌≤◌, max}
use native.Mathlib.Omega.{arith}
use native.Mathlib.Nat.{zero-max}
use mathlib.Core.Bool.{Bool, true, cond}
use mathlib.Core.List.{List, [], ◌∷◌, ◌++◌, append-nil}
use mathlib.Core.Path.{◌≡◌, refl, sym, ap, ap₂, ◌∙◌, subst}
use lib.Ieee.{Float}
use lib.ListN.{length, take, drop, length-append, length-take, length-drop, take-append-drop, drop_of_length-le}
use lib.Seq.{take_all, length-take-le, drop_at}
use Rattle.std.specs.Prelude.{Result, Ok, Err}
use Rattle.std.specs.Result.{is_ok}
use Rattle.num.specs.Refusals.{code, number_of}
use Rattle.num.specs.declared.refusal.Refusal.{Refusal}
use Rattle.num.specs.Laws.Refusals.{refuses, accepts}
use Rattle.num.specs.Rewrite.{rewrite, fill}
use Rattle.num.specs.Laws.Rewrite.{rewrite_ext}
use Rattle.cards.specs.Answers.{ok, Reply, reported_by}
use Rattle.cards.specs.Bits.{value_at}
use Rattle.cards.specs.declared.station.Station.{Station}
use Rattle.chain.specs.Agree.{opened}
use Rattle.chain.specs.Answers.{reported_frame, free, Applies}
use Rattle.chain.specs.Calls.{Framed, framed, refusing_frame, float_room, stops, frame_reply_by, frame_reply, shown_by, shown}
use Rattle.chain.specs.Machine.{Done, call, after, picture, still}
use Rattle.passes.specs.declared.blur.Counts.{Counts}
use Rattle.chain.proofs.Goes.{goes}
use Rattle.chain.proofs.Untouched.{untouched}
use Rattle.sheets.specs.Events.{Event, frame}
use Rattle.sheets.specs.Play.{Lent, Playing, laid, call_of, floats_of, ints_of, answer_of, turn, begun}
use Rattle.sheets.specs.Promises.{values_at, lent_of, Leaves, refused_by, Turns}

-- ## The words of a frame in the framebuffer

-- words that are read one after another
pub filled : (sheet : List ℕ) (p : ℕ) (xs : List ℕ) → fill (λ i. value_at sheet (p + 24 * i) 24) xs ≡ values_at (length xs) sheet p
unfolding rewrite values_at
filled sheet p [] = refl
filled sheet p (x ∷ xs) =
    ap₂ (λ (y : ℕ) (ys : List ℕ). y ∷ ys) (ap (λ (q : ℕ). value_at sheet q 24) (omega arith))
    (rewrite_ext (length xs) _ _ xs (λ i y l. ap (λ (q : ℕ). value_at sheet q 24) (omega arith)) ∙ filled sheet (p + 24) xs)

pub values_length : (n : ℕ) (sheet : List ℕ) (p : ℕ) → length (values_at n sheet p) ≡ n
unfolding values_at
values_length zero sheet p = refl
values_length (suc n) sheet p = ap suc (values_length n sheet (p + 24))

-- the framebuffer keeps its length
pub laid-length : (pixels words : List ℕ) → length (laid pixels words) ≡ length words
laid-length pixels words =
    omega (
      arith,
      length-append (take (length words) pixels) (drop (length pixels) words),
      length-take (length words) pixels,
      length-drop (length pixels) words,
    )

-- where it has room for all of them they stand before the rest
pub laid-is : (pixels words : List ℕ) → length pixels ≤ length words → laid pixels words ≡ pixels ++ drop (length pixels) words
laid-is pixels words h = ap (λ (l : List ℕ). l ++ drop (length pixels) words) (take_all (length words) pixels h)

-- words that were written over the first `count` of a framebuffer
pub laid_by : (count p : ℕ) (sheet words written : List ℕ) → count ≤ length words → written ≡ fill (λ i. value_at sheet (p + 24 * i) 24) (take count words)
    → written ++ drop count words ≡ laid (values_at count sheet p) words
laid_by count p sheet words written enough e =
    let pixels = values_at count sheet p in
    let long : length pixels ≡ count = values_length count sheet p in
    ap (λ (l : List ℕ). l ++ drop count words)
    (e ∙ filled sheet p (take count words) ∙ ap (λ (n : ℕ). values_at n sheet p) (length-take-le count words enough))
    ∙ ap (λ (n : ℕ). pixels ++ drop n words) (sym long) ∙ sym (laid-is pixels words (omega (arith, long, enough)))

-- ## Answers

-- an answer without what it reports
module _ {A : Type 0} (f : A → List ℕ) where
  pub is_ok_of : (r : Result A Refusal) → is_ok r ≡ ok (reported_by f r)
  is_ok_of (Ok a) = refl
  is_ok_of (Err k) = refl

  pub code_of : (r : Result A Refusal) → code r ≡ refused_by (reported_by f r)
  code_of (Ok a) = refl
  code_of (Err k) = refl

-- ## A frame

module _ (w h : ℕ) (s : Station) (pixels words past : List ℕ) (floats : List Float) (ints : List ℕ) (curve : List Float) where
  abbrev given : List ℕ
  given = laid pixels words

  abbrev replied : Framed
  replied = frame_reply w h s given past (length floats) (length ints) curve

  -- what an answer leaves, with `rest` behind the history
  abbrev after_it : Framed → (rest : List ℕ) → Playing
  after_it r rest = record {
    state = record { station = r.station; history = r.past ++ rest };
    words = picture r.answer (h * w) r.words ++ drop (length (picture r.answer (h * w) r.words)) words;
    accepted = 0 + cond (ok r.answer) 1 0;
    refused = 0 + cond (ok r.answer) 0 1;
    free_floats = max 0 (cond (ok r.answer) (float_room w h) 0);
    free_ints = max 0 (cond (ok r.answer) (h * w) 0);
  }

  abbrev lent : Lent
  lent = lent_of past floats ints curve

  abbrev beginning : Playing
  beginning = begun (opened s past) words

  abbrev turned : Playing
  turned = turn lent (frame w h pixels) beginning

  -- all of the history is lent
  is_turned : turned ≡ after_it replied []
  unfolding turn after call
  is_turned =
      ap₂ (λ (lent rest : List ℕ). after_it (frame_reply w h s given lent (length floats) (length ints) curve) rest)
      (take_all (length past) past (omega arith)) (drop_of_length-le past {i = length past} (omega arith))

  -- and so is what it answers
  is-answered : answer_of lent (frame w h pixels) beginning ≡ replied.answer
  unfolding call
  is-answered = ap (λ (lent : List ℕ). (frame_reply w h s given lent (length floats) (length ints) curve).answer) (take_all (length past) past (omega arith))

  abbrev Gives : Playing → Station → (words' past' : List ℕ) (floats' : List Float) (ints' : List ℕ) → Type 0
  Gives p t words' past' floats' ints' = Leaves p t words' past' floats floats' ints ints'

  module _ (k : ℕ) (asks : k ≡ stops s w h (length words) (length past) (length floats) (length ints) curve) where
    number : k ≡ stops s w h (length given) (length past) (length floats) (length ints) curve
    number = asks ∙ ap (λ (n : ℕ). stops s w h n (length past) (length floats) (length ints) curve) (sym (laid-length pixels words))

    -- the station refuses it
    pub unshown : (e : Refusal) → number_of e ≡ k → (k ≡ 0 → ⊥) → Turns lent (frame w h pixels) beginning (Err e) s words past floats floats ints ints
    unfolding frame_reply_by
    unshown by same some =
        let e : replied ≡ refusing_frame s given past k = sym (refuses k (refusing_frame s given past) (shown w h s given past curve) number some) in
        record {
          leaves = subst (λ (p : Playing). Gives p s words past floats ints) (sym (is_turned ∙ ap (λ (r : Framed). after_it r []) e))
              (record { station = refl; words = refl; past = sym (append-nil past); floats_stay = refl; ints_stay = refl });
          answers =
              let a = is-answered ∙ ap (λ (r : Framed). r.answer) e in (sym (ap ok a), same ∙ sym (ap refused_by a));
        }

    -- it took it
    accepted : k ≡ 0 → (ok replied.answer ≡ true) × (refused_by replied.answer ≡ 0)
    unfolding frame_reply_by shown_by
    accepted none =
        let e : replied ≡ shown w h s given past curve = sym (accepts k (refusing_frame s given past) (shown w h s given past curve) number none) in
        (ap (λ (r : Framed). ok r.answer) e, ap (λ (r : Framed). refused_by r.answer) e)

    module _ (none : k ≡ 0) (r : Result Counts Refusal) (u : Station) (words' past' : List ℕ) (floats' : List Float) (ints' : List ℕ) (all : length pixels ≡ h * w)
        (lent-words : List ℕ) (written : lent-words ≡ given) (did : Applies w h s lent-words past floats ints curve r u words' past' floats' ints')
        (left : length words' ≡ length lent-words) where
      a : Applies w h s given past floats ints curve r u words' past' floats' ints'
      a = subst (λ (g : List ℕ). Applies w h s g past floats ints curve r u words' past' floats' ints') written did

      kept : length words' ≡ length given
      kept = left ∙ ap length written

      enough : h * w ≤ length given
      enough = (goes s w h (length given) (length past) (length floats) (length ints) curve (sym number ∙ none)).frame_room

      -- the picture, and the words past it
      joined : take (h * w) words' ++ drop (length (take (h * w) words')) words ≡ words'
      joined =
          let long : length (take (h * w) words') ≡ h * w = length-take-le (h * w) words' (omega (arith, enough, kept)) in
          let behind : drop (h * w) given ≡ drop (h * w) words =
          ap (drop (h * w)) (laid-is pixels words (omega (arith, all, enough, laid-length pixels words)))
          ∙ drop_at pixels (drop (length pixels) words) (h * w) all ∙ ap (λ (n : ℕ). drop n words) all in
          let rest : drop (h * w) words' ≡ drop (h * w) given =
          ap (λ (q : Framed). drop (h * w) q.words) a.replies ∙ (untouched w h s given past (length floats) (length ints) curve).0 in
          ap (λ (n : ℕ). take (h * w) words' ++ drop n words) long ∙ ap (λ (l : List ℕ). take (h * w) words' ++ l) (sym (rest ∙ behind))
          ∙ take-append-drop (h * w) words'

      settled : (b : Result Counts Refusal) (t : Station) → ok (reported_frame b) ≡ true → drop (free b (float_room w h)) floats' ≡ drop (free b (float_room w h)) floats
          → drop (free b (h * w)) ints' ≡ drop (free b (h * w)) ints → Gives (after_it (framed (reported_frame b) t words' past') []) t words' past' floats' ints'
      settled (Ok c) t e f i = record {
        station = refl;
        words = sym joined;
        past = sym (append-nil past');
        floats_stay = subst (λ (n : ℕ). drop n floats' ≡ drop n floats) (sym (zero-max (float_room w h))) f;
        ints_stay = subst (λ (n : ℕ). drop n ints' ≡ drop n ints) (sym (zero-max (h * w))) i;
      }
      settled (Err n) t e f i = let z : ◌≡◌ {A = ℕ} 0 1 = ap (λ (b : Bool). cond b 1 0) e in absurd (omega arith)

      -- the call on its words left the rest
      pub shows : (x : Result (Unit {0}) Refusal) → is_ok x ≡ is_ok r → code x ≡ code r → Turns lent (frame w h pixels) beginning x u words' past' floats floats' ints ints'
      shows x i c = record {
        leaves = subst (λ (p : Playing). Gives p u words' past' floats' ints')
            (sym (is_turned ∙ ap (λ (q : Framed). after_it q []) (sym a.replies)))
            (settled r u (ap (λ (q : Framed). ok q.answer) a.replies ∙ (accepted none).0) a.floats_stay a.ints_stay);
        answers = (
          i ∙ is_ok_of _ r ∙ ap (λ (q : Framed). ok q.answer) a.replies ∙ sym (ap ok is-answered),
          c ∙ code_of _ r ∙ ap (λ (q : Framed). refused_by q.answer) a.replies ∙ sym (ap refused_by is-answered),
        );
      }

-- of the same event
pub same_event : {l : Lent} {e e' : Event} {b : Playing} {r : Result (Unit {0}) Refusal} {u : Station} {words' past' : List ℕ} {floats floats' : List Float} {ints ints' : List ℕ} → e' ≡ e
    → Turns l e b r u words' past' floats floats' ints ints' → Turns l e' b r u words' past' floats floats' ints ints'
same_event {l} {e} {e'} {b} {r} {u} {words'} {past'} {floats} {floats'} {ints} {ints'} one t =
    subst (λ (x : Event). Turns l x b r u words' past' floats floats' ints ints') (sym one) t

-- ## Every other event

-- what a call leaves of what is played
abbrev after_call : Lent → Event → Playing → Done → Playing
after_call l e p d = record {
  state = record { station = d.gives.station; history = d.history };
  words = d.gives.picture ++ drop (length d.gives.picture) p.words;
  accepted = p.accepted + cond (ok d.gives.answer) 1 0;
  refused = p.refused + cond (ok d.gives.answer) 0 1;
  free_floats = max p.free_floats (cond (ok d.gives.answer) (floats_of e) 0);
  free_ints = max p.free_ints (cond (ok d.gives.answer) (ints_of e) 0);
}

-- e' is the event e, whose call answered q, which is the definition's, and wrote no word
pub made : (e e' : Event) (s : Station) (words past : List ℕ) (floats : List Float) (ints : List ℕ) (curve : List Float) (r : Result (Unit {0}) Refusal) (q q' : Reply)
    → e' ≡ e → q ≡ q' → call (call_of (lent_of past floats ints curve) words e) (opened s past) ≡ still past q'
    → is_ok r ≡ ok q.answer → code r ≡ refused_by q.answer
    → Turns (lent_of past floats ints curve) e' (begun (opened s past) words) r q.station words past floats floats ints ints
unfolding turn after
made e e' s words past floats ints curve r q q' one same is i c =
    let l : Lent = lent_of past floats ints curve in
    let b : Playing = begun (opened s past) words in
    let d = is ∙ ap (still past) (sym same) in
    same_event one
    (record {
      leaves = subst (λ (p : Playing). Leaves p q.station words past floats floats ints ints) (sym (ap (after_call l e b) d))
          (record { station = refl; words = refl; past = refl; floats_stay = refl; ints_stay = refl });
      answers = (i ∙ sym (ap (λ (x : Done). ok x.gives.answer) d), c ∙ sym (ap (λ (x : Done). refused_by x.gives.answer) d));
    })
