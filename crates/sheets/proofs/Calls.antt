-- The theorems of specs/Claims.antt: a sheet makes its calls one by one, and two stations that play one sheet share a list. Assumes nothing.
use Prim.Native.Nat.{ℕ, zero, suc, ◌+◌, ◌*◌, ◌≤◌}
use native.Mathlib.Omega.{arith}
use mathlib.Core.Bool.{Bool, true, false, cond}
use mathlib.Core.List.{List, [], ◌∷◌, ◌++◌}
use mathlib.Core.Path.{◌≡◌, refl, sym, ap, ◌∙◌, subst}
use lib.Ieee.{Float}
use lib.Dec.{eqb}
use lib.ListN.{length, get_or, take, drop, length-append, length-take, length-drop}
use lib.Seq.{length-take-le, take_at}
use Rattle.num.specs.Refusals.{unless}
use Rattle.passes.specs.Painted.{painted}
use Rattle.cards.specs.Alike.{chain_of}
use Rattle.cards.specs.Answers.{Report, ok, refusal, acceptance}
use Rattle.cards.specs.Card.{end_at}
use Rattle.cards.specs.Step.{refuse}
use Rattle.cards.specs.declared.station.Station.{Station}
use Rattle.chain.specs.Agree.{SameFirst, SameCall, frames, resets, switches_to, asks, commits, steps, Same, none, more, Lends}
use Rattle.chain.specs.Calls.{Framed, stops, refusing_frame, frame_reply_by, frame_reply, shown_by, shown}
use Rattle.chain.specs.Chain.{chain}
use Rattle.chain.specs.Machine as Machine
use Rattle.chain.specs.Machine.{Call, call, run, saw, picture}
use Rattle.cards.proofs.Taken.{Gives, gives_then, gives_ret, gives_refuse, gives_field}
use Rattle.chain.proofs.Agreement.{machines_agree}
use Rattle.chain.proofs.Goes.{goes}
use Rattle.chain.proofs.Turns.{chain_frame}
use Rattle.sheets.specs.Claims.{calls_of, acceptances, pictured, Plays-calls, Sheets-agree}
use Rattle.sheets.specs.Events.{Event, frame, reset, switch, step, ask, commit, words_at, frame_at, switch_at, by_number, event_at, events_at, rest_at, sheet_at}
use Rattle.sheets.proofs.Turning.{laid-length, laid-is}
use Rattle.sheets.specs.Play.{Lent, Playing, laid, call_of, answer_of, turn, turns, begun}

-- ## One by one

one : (b : Bool) → cond b 1 0 + cond b 0 1 ≡ 1
one true = refl
one false = refl

made : (l : Lent) (es : List Event) (p : Playing) →
    let t : Playing = turns l es p in
    let cs : List Call = calls_of l es p in
    (t.state ≡ run p.state cs) × (t.words ≡ pictured (saw p.state cs) p.words) × (t.accepted ≡ p.accepted + acceptances (saw p.state cs))
    × (t.accepted + t.refused ≡ p.accepted + p.refused + length es)
unfolding turns calls_of run saw pictured acceptances turn
made l [] p = (refl, refl, omega arith, omega arith)
made l (e ∷ es) p =
    let r = made l es (turn l e p) in
    (r.0, r.1, omega (arith, r.2), omega (arith, r.3, one (ok (answer_of l e p))))

pub plays_calls : Plays-calls
plays_calls l es s words = let r = made l es (begun s words) in (r.0, r.1, omega (arith, r.2), omega (arith, r.3))

-- ## Frames as a sheet has them: as many words as their sides say

abbrev Formed : Event → Type 0
Formed (frame w h pixels) = length pixels ≡ h * w
Formed reset = Unit {0}
Formed (switch kind on) = Unit {0}
Formed step = Unit {0}
Formed (ask kind on) = Unit {0}
Formed commit = Unit {0}

abbrev AllFormed : List Event → Type 0
AllFormed [] = Unit {0}
AllFormed (e ∷ es) = Formed e × AllFormed es

words_formed : (n : ℕ) → Gives (words_at n) (λ ws. length ws ≡ n)
unfolding words_at
words_formed zero = gives_ret _ [] refl
words_formed (suc n) = gives_then _ (gives_field 24) (λ word k. gives_then _ (words_formed n) (λ ws e. gives_ret _ (word ∷ ws) (ap suc e)))

frame_formed : Gives frame_at Formed
unfolding frame_at
frame_formed =
    gives_then _ (gives_field 11) (λ w j. gives_then _ (gives_field 11) (λ h k. gives_then _ (words_formed (h * w)) (λ ws e. gives_ret Formed (frame w h ws) e)))

switch_formed : (made : ℕ → Bool → Event) → ((kind : ℕ) (on : Bool) → Formed (made kind on)) → Gives (switch_at made) Formed
unfolding switch_at
switch_formed made h = gives_then _ (gives_field 4) (λ kind j. gives_then _ (gives_field 1) (λ on k. gives_ret Formed (made kind (eqb on 1)) (h kind (eqb on 1))))

number_formed : (number : ℕ) → Gives (get_or by_number number (refuse 20)) Formed
number_formed zero = frame_formed
number_formed (suc zero) = gives_ret Formed reset tt
number_formed (suc (suc zero)) = switch_formed switch (λ kind on. tt)
number_formed (suc (suc (suc zero))) = gives_ret Formed step tt
number_formed (suc (suc (suc (suc zero)))) = switch_formed ask (λ kind on. tt)
number_formed (suc (suc (suc (suc (suc zero))))) = gives_ret Formed commit tt
number_formed (suc (suc (suc (suc (suc (suc n)))))) = gives_refuse Formed 20

event_formed : Gives event_at Formed
unfolding event_at
event_formed = gives_then _ (gives_field 3) (λ number j. number_formed number)

events_formed : (n : ℕ) → Gives (events_at n) AllFormed
unfolding events_at
events_formed zero = gives_ret AllFormed [] tt
events_formed (suc n) = gives_then _ event_formed (λ e f. gives_then _ (events_formed n) (λ es fs. gives_ret AllFormed (e ∷ es) (f, fs)))

end_formed : Gives end_at (λ u. Unit {0})
end_formed = record { gives = λ sheet p u q e. tt }

sheet_formed : Gives sheet_at AllFormed
unfolding sheet_at rest_at
sheet_formed = gives_then _ (gives_field 16) (λ n j. gives_then _ (events_formed n) (λ es fs. gives_then _ end_formed (λ u k. gives_ret AllFormed es fs)))

-- ## The framebuffer keeps its length

frame_long : (w h : ℕ) (s : Station) (words past : List ℕ) (floats ints : ℕ) (curve : List Float) (n : ℕ)
    → stops s w h (length words) (length past) floats ints curve ≡ n
    → length (unless n (refusing_frame s words past) (shown w h s words past curve)).words ≡ length words
unfolding unless shown_by
frame_long w h s words past floats ints curve zero e =
    let g = goes s w h (length words) (length past) floats ints curve e in
    let first = painted (take (h * w) words) 0 in
    omega (
      arith,
      length-append (chain w h curve (chain_of s) first past).frame.words (drop (h * w) words),
      chain_frame w h curve (chain_of s) first past,
      length-take-le (h * w) words g.frame_room,
      length-drop (h * w) words,
      g.frame_room,
    )
frame_long w h s words past floats ints curve (suc n) e = refl

-- a picture over the start of as many words
over : (a : Report) (count : ℕ) (shown words : List ℕ) → length shown ≡ length words
    → length (picture a count shown ++ drop (length (picture a count shown)) words) ≡ length words
over (refusal k) count shown words e = refl
over (acceptance r) count shown words e =
    omega (
      arith,
      length-append (take count shown) (drop (length (take count shown)) words),
      length-drop (length (take count shown)) words,
      length-take count shown,
      e,
    )

turn_long : (l : Lent) (e : Event) (p : Playing) → length (turn l e p).words ≡ length p.words
unfolding turn call frame_reply_by
turn_long l (frame w h pixels) p =
    let given : List ℕ = laid pixels p.words in
    let past : List ℕ = take l.history p.state.history in
    let r : Framed = frame_reply w h p.state.station given past l.floats l.ints l.curve in
    over r.answer (h * w) r.words p.words (frame_long w h p.state.station given past l.floats l.ints l.curve _ refl ∙ laid-length pixels p.words)
turn_long l reset p = refl
turn_long l (switch kind on) p = refl
turn_long l step p = refl
turn_long l (ask kind on) p = refl
turn_long l commit p = refl

-- ## One list for both

module _ (l l' : Lent) (history : l.history ≡ l'.history) (floats : l.floats ≡ l'.floats) (ints : l.ints ≡ l'.ints) (curves : SameFirst 256 l.curve l'.curve) where
  -- the frame's words are the first of either framebuffer, where they fit
  first_same : (w h : ℕ) (pixels words words' : List ℕ) → length pixels ≡ h * w → length words ≡ length words' → SameFirst (h * w) (laid pixels words) (laid pixels words')
  first_same w h pixels words words' f e = record {
    same_length = laid-length pixels words ∙ e ∙ sym (laid-length pixels words');
    same_first = λ room.
        let fits : length pixels ≤ length words = omega (arith, f, room, laid-length pixels words) in
        ap (take (h * w)) (laid-is pixels words fits) ∙ take_at pixels _ (h * w) f
        ∙ sym (ap (take (h * w)) (laid-is pixels words' (omega (arith, fits, e))) ∙ take_at pixels _ (h * w) f);
  }

  same_call : (e : Event) → Formed e → (words words' : List ℕ) → length words ≡ length words' → SameCall (call_of l words e) (call_of l' words' e)
  same_call (frame w h pixels) f words words' e =
      subst (λ (n : ℕ). SameCall (call_of l words (frame w h pixels)) (Machine.frame w h (laid pixels words') n l'.floats l'.ints l'.curve)) history
      (subst (λ (n : ℕ). SameCall (call_of l words (frame w h pixels)) (Machine.frame w h (laid pixels words') l.history n l'.ints l'.curve)) floats
      (subst (λ (n : ℕ). SameCall (call_of l words (frame w h pixels)) (Machine.frame w h (laid pixels words') l.history l.floats n l'.curve)) ints
      (frames (first_same w h pixels words words' f e) curves)))
  same_call reset f words words' e = resets
  same_call (switch kind on) f words words' e = switches_to
  same_call step f words words' e = steps
  same_call (ask kind on) f words words' e = asks
  same_call commit f words words' e = commits

  same_calls : (es : List Event) → AllFormed es → (p q : Playing) → length p.words ≡ length q.words → Same (calls_of l es p) (calls_of l' es q)
  unfolding calls_of
  same_calls [] fs p q e = none
  same_calls (x ∷ es) (f, fs) p q e =
      more (same_call x f p.words q.words e) (same_calls es fs (turn l x p) (turn l' x q) (turn_long l x p ∙ e ∙ sym (turn_long l' x q)))

  -- each lends as many words of the history, or none
  lends : (n : ℕ) → l.history ≤ n → (es : List Event) (p : Playing) → Lends n (calls_of l es p)
  unfolding calls_of
  lends n room [] p = tt
  lends n room (frame w h pixels ∷ es) p = (room, lends n room es (turn l (frame w h pixels) p))
  lends n room (reset ∷ es) p = (omega arith, lends n room es (turn l reset p))
  lends n room (switch kind on ∷ es) p = (omega arith, lends n room es (turn l (switch kind on) p))
  lends n room (step ∷ es) p = (omega arith, lends n room es (turn l step p))
  lends n room (ask kind on ∷ es) p = (omega arith, lends n room es (turn l (ask kind on) p))
  lends n room (commit ∷ es) p = (omega arith, lends n room es (turn l commit p))

pub sheets_agree : Sheets-agree
sheets_agree card other a b opens opens' alike H G own own' same sheet es n is words words' long l l' history floats ints curves room room' =
    machines_agree card other a b opens opens' alike H G own own' same _ _
    (same_calls l l' history floats ints curves es (sheet_formed.gives sheet 0 es n is) (begun _ words) (begun _ words') long)
    (lends l l' history floats ints curves (length H) room es (begun _ words))
    (lends l l' history floats ints curves (length G) room' es (begun _ words))
