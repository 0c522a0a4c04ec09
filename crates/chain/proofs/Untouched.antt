-- What a refusal keeps, and what no frame and no new depth touches. Assumes nothing.
use Prim.Native.Nat.{ℕ, zero, suc, ◌*◌}
use mathlib.Core.Path.{◌≡◌, refl, ap, sym, ◌∙◌}
use mathlib.Core.Bool.{Bool, true, false, cond}
use mathlib.Core.List.{List, [], ◌∷◌, ◌++◌, map-append}
use lib.Dec.{eqb}
use lib.Ieee.{Float}
use lib.ListN.{length, take, drop, take-append-drop}
use lib.Seq.{length-take-le, drop_at}
use Rattle.num.specs.Held.{area}
use Rattle.num.specs.Refusals.{unless}
use Rattle.passes.specs.Painted.{painted}
use Rattle.passes.specs.Laws.Persistence.{resized-front, resized-rest}
use Rattle.cards.specs.Alike.{chain_of}
use Rattle.cards.specs.Answers.{Report, refusal, acceptance, reply, refusing}
use Rattle.cards.specs.Laws.Answers.{accepted-not}
use Rattle.chain.specs.Calls.{stops, lacks, ask_stops, commit_stops, depth_stops, Framed, framed}
use Rattle.chain.specs.Calls.{refusing_frame, shown, shown_by, frame_reply_by, of_first, first_held, first_depth, forget, with_depth, redepth, depth_reply}
use Rattle.chain.specs.Chain.{chain, depth_of, depth}
use Rattle.chain.specs.Claims.{Refused-keeps, Untouched, Depth-leaves}
use Rattle.chain.specs.Machine.{Call, frame, reset, switch, ask, commit, step, new_depth, State, call, after}
use Rattle.cards.specs.Settings.{one_at_least}
use Rattle.cards.specs.Passes.{kind_of}
use Rattle.cards.specs.declared.station.Pass.{Pass}
use Rattle.cards.specs.declared.station.Record.{Record}
use Rattle.cards.specs.declared.station.Station.{Station}
use Rattle.chain.proofs.Changed.{passes, redepth-shapes, retake}
use Rattle.chain.proofs.Deeper.{deep_enough, deepens}
use Rattle.chain.proofs.Fit.{same_long}
use Rattle.chain.proofs.Goes.{goes}
use Rattle.chain.proofs.PassCases.{deep_kind}
use Rattle.chain.proofs.Sound.{by-stop}
use Rattle.chain.proofs.Turns.{chain_frame, chain-passes, chain-past}

-- ## A refusal

reply_keeps : (n : ℕ) (s t : Station) (ns : List ℕ) (k : ℕ) → (unless n (refusing s) (reply (acceptance ns) t)).answer ≡ refusal k → (unless n (refusing s) (reply (acceptance ns) t)).station ≡ s
unfolding unless
reply_keeps zero s t ns k e = accepted-not ns k e
reply_keeps (suc n) s t ns k e = refl

-- of a call that is lent words
lent_keeps : (n : ℕ) (s t : Station) (words past words' past' ns : List ℕ) (k : ℕ)
    → (unless n (refusing_frame s words past) (framed (acceptance ns) t words' past')).answer ≡ refusal k
    → unless n (refusing_frame s words past) (framed (acceptance ns) t words' past') ≡ framed (refusal k) s words past
unfolding unless
lent_keeps zero s t words past words' past' ns k e = accepted-not ns k e
lent_keeps (suc n) s t words past words' past' ns k e = ap (λ (r : Report). framed r s words past) e

-- its words come back as they were
given_back : (l : ℕ) (s : State) (k : ℕ) {words : List ℕ} {r : Framed} → r ≡ framed (refusal k) s.station words (take l s.history)
    → record { station = r.station; history = r.past ++ drop l s.history } ≡ s
given_back l s k kept =
    ap (λ (r : Framed). record { station = r.station; history = r.past ++ drop l s.history }) kept
    ∙ ap (λ (l : List ℕ). record { station = s.station; history = l }) (take-append-drop l s.history)

call_keeps : (c : Call) (s : State) (k : ℕ) → (call c s).gives.answer ≡ refusal k → after c s ≡ s
unfolding call after frame_reply_by shown_by depth_reply
call_keeps (frame w h words l m i curve) s k e =
    given_back l s k (lent_keeps (stops s.station w h (length words) (length (take l s.history)) m i curve) s.station _ words _ _ _ _ k e)
call_keeps reset s k e = ap (λ (t : Station). record { station = t; history = s.history }) (reply_keeps (lacks s.station 4) s.station _ _ k e)
call_keeps (switch kind on) s k e = ap (λ (t : Station). record { station = t; history = s.history }) (reply_keeps (lacks s.station kind) s.station _ _ k e)
call_keeps (ask kind on) s k e =
    ap (λ (t : Station). record { station = t; history = s.history }) (reply_keeps (ask_stops s.station kind) s.station _ _ k e)
call_keeps commit s k e = ap (λ (t : Station). record { station = t; history = s.history }) (reply_keeps (commit_stops s.station) s.station _ _ k e)
call_keeps step s k e = ap (λ (t : Station). record { station = t; history = s.history }) (reply_keeps (lacks s.station 5) s.station _ _ k e)
call_keeps (new_depth d l) s k e = given_back l s k (lent_keeps (depth_stops s.station d (length (take l s.history))) s.station _ [] _ _ _ _ k e)

pub refused_keeps : Refused-keeps
unfolding frame_reply_by shown_by
refused_keeps = (call_keeps, λ w h s words past floats ints curve k e. lent_keeps (stops s w h (length words) (length past) floats ints curve) s _ words past _ _ _ k e)

-- ## What no frame touches

abbrev Stays : (w h : ℕ) → Station → (words past : List ℕ) → Framed → Type 0
Stays w h s words past r =
    (drop (h * w) r.words ≡ drop (h * w) words)
    × (drop (depth (chain_of s) * (h * w)) r.past ≡ drop (depth (chain_of s) * (h * w)) past)
    × (passes r.station.records ≡ passes s.records)

stays : (w h : ℕ) (s : Station) (words past : List ℕ) (floats ints : ℕ) (curve : List Float) (n : ℕ)
    → stops s w h (length words) (length past) floats ints curve ≡ n
    → Stays w h s words past (unless n (refusing_frame s words past) (shown w h s words past curve))
unfolding unless shown_by
stays w h s words past floats ints curve zero e =
    let g = goes s w h (length words) (length past) floats ints curve e in
    let frame = painted (take (h * w) words) 0 in
    let long : length (take (h * w) words) ≡ h * w = length-take-le (h * w) words g.frame_room in
    let X = chain w h curve (chain_of s) frame past in (
      drop_at X.frame.words (drop (h * w) words) (h * w) (chain_frame w h curve (chain_of s) frame past ∙ long),
      (chain-past w h curve (chain_of s) frame past long g.past_room).1,
      map-append (λ r. r.pass) X.records (drop s.n s.records)
          ∙ ap (λ (l : List Pass). l ++ passes (drop s.n s.records)) (chain-passes w h curve (chain_of s) frame past)
          ∙ sym (map-append (λ r. r.pass) (chain_of s) (drop s.n s.records))
          ∙ ap passes (take-append-drop s.n s.records),
    )
stays w h s words past floats ints curve (suc n) e = (refl, refl, refl)

pub untouched : Untouched
unfolding frame_reply_by
untouched w h s words past floats ints curve = stays w h s words past floats ints curve (stops s w h (length words) (length past) floats ints curve) refl

-- ## What no new depth touches

-- the first persistence holds what it held
redepth-held : (d : ℕ) (rs : List Record) → first_held (redepth d rs) ≡ first_held rs
unfolding of_first redepth
redepth-held d [] = refl
redepth-held d (r ∷ rs) = go (eqb (kind_of r.pass) 4) refl (redepth-held d rs)
  where
    go : (b : Bool) → eqb (kind_of r.pass) 4 ≡ b → first_held (redepth d rs) ≡ first_held rs
        → first_held (cond b (with_depth d r ∷ cond (eqb d (depth_of r.pass)) rs (forget rs)) (r ∷ redepth d rs)) ≡ cond b r.held (first_held rs)
    go true z ih = rw (deep_kind d r.pass, z)
    go false z ih = rw z ih

pub depth-leaves : Depth-leaves
unfolding depth_reply
depth-leaves d s past =
    let count = area (first_held (chain_of s)) in
    by-stop
    (λ r. (take (first_depth (chain_of s) * count) r.past ≡ take (first_depth (chain_of s) * count) past)
    × (drop (one_at_least d * count) r.past ≡ drop (one_at_least d * count) past) × (first_held (chain_of r.station) ≡ first_held (chain_of s)))
    _ s [] past _ (refl, refl, refl)
    (λ z.
    let g = deepens s d (length past) z in
    let some = deep_enough s g.there in
    let new = redepth (one_at_least d) (chain_of s) in (
      resized-front _ (one_at_least d) count past some g.room,
      resized-rest _ (one_at_least d) count past some g.room,
      ap first_held (retake s.n s.records new (same_long new (chain_of s) (redepth-shapes (one_at_least d) g.few (chain_of s)))) ∙ redepth-held (one_at_least d) (chain_of s),
    ))
