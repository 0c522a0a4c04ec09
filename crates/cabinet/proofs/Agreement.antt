-- The theorem of specs/Claims.antt, from the agreement of two stations. Assumes nothing.
use Prim.Native.Nat.{ℕ, zero, suc, ◌*◌, ◌/◌, ◌%◌, ◌≤◌}
use native.Mathlib.Omega.{arith}
use mathlib.Core.Bool.{Bool, true, false, not, ◌||◌, cond}
use mathlib.Core.List.{List, [], ◌∷◌, ◌++◌, map}
use mathlib.Core.Path.{◌≡◌, refl, sym, ap, ap₂, ◌∙◌, subst}
use lib.Dec.{eqb, ltb}
use lib.Ieee.{Float}
use lib.ListN.{length, take, drop, length-append, length-take, length-drop, take-append-drop}
use lib.Seq.{take_at, length-take-le}
use borrow.Author.Tests.{ne_eqb}
use Rattle.num.specs.Refusals.{bad_side, unless}
use Rattle.num.specs.Laws.Refusals.{refuses}
use Rattle.cards.specs.Normal.{good_station}
use Rattle.num.specs.Rewrite.{rewrite, fill}
use Rattle.num.specs.Laws.Rewrite.{length-rewrite}
use Rattle.passes.specs.Rows.{sampled}
use Rattle.cards.specs.Answers.{refusal}
use Rattle.cards.specs.declared.station.Station.{Station}
use Rattle.chain.specs.Agree.{opened, SameFirst, SameCall, frames, Same, Comparable, point}
use Rattle.chain.specs.Agree as Agree
use Rattle.chain.specs.Calls.{stops, refusing_frame, frame_reply, frame_reply_by, shown}
use Rattle.chain.specs.Machine.{frame, State, Seen, seen, Done, lend, call, after, run, saw}
use Rattle.chain.proofs.Agreement.{machines_agree}
use Rattle.cabinet.specs.Cabinet.{cabinet_reply}
use Rattle.cabinet.specs.Claims.{CabinetCall, show, of_station, made, leaves, runs, gave, bad_source, station_call, SameCabinet, shows, calls, Shared, none, more, Cabinets-agree}
use Rattle.cabinet.specs.Source.{bad_source_side, source_stops, enlarged_at, enlarged}

-- ## The enlarged words

-- values of places do not ask what stood there
fill_alike : (f : ℕ → ℕ) (xs ys : List ℕ) → length xs ≡ length ys → fill f xs ≡ fill f ys
unfolding rewrite
fill_alike f [] [] e = refl
fill_alike f [] (y ∷ ys) e = absurd (omega (arith, e))
fill_alike f (x ∷ xs) [] e = absurd (omega (arith, e))
fill_alike f (x ∷ xs) (y ∷ ys) e = ap (λ (l : List ℕ). f 0 ∷ l) (fill_alike (λ i. f (suc i)) xs ys (omega (arith, e)))

module _ (w h : ℕ) (picture colours : List ℕ) where
  abbrev count : ℕ
  count = 3 * h * (3 * w)

  pub enlarged-length : (words : List ℕ) → length (enlarged w h picture colours words) ≡ length words
  unfolding enlarged
  enlarged-length words =
      omega (
        arith,
        length-append (sampled (3 * w) (enlarged_at w picture colours) (take count words)) (drop count words),
        length-rewrite (length (take count words)) (λ i x. enlarged_at w picture colours (i % (3 * w)) (i / (3 * w))) (take count words),
        length-take count words,
        length-drop count words,
      )

  -- of two framebuffers of one length they are the same
  pub enlarged-first : (words other : List ℕ) → length words ≡ length other → SameFirst count (enlarged w h picture colours words) (enlarged w h picture colours other)
  unfolding enlarged
  enlarged-first words other e = record {
    same_length = enlarged-length words ∙ e ∙ sym (enlarged-length other);
    same_first = λ room.
        let long : (zs : List ℕ) → count ≤ length zs → length (sampled (3 * w) (enlarged_at w picture colours) (take count zs)) ≡ count =
        λ zs l. length-rewrite (length (take count zs)) _ (take count zs) ∙ length-take-le count zs l in
        let fits : count ≤ length words = omega (arith, room, enlarged-length words) in
        let fits' : count ≤ length other = omega (arith, fits, e) in
        take_at (sampled (3 * w) (enlarged_at w picture colours) (take count words)) (drop count words) count (long words fits)
        ∙ fill_alike _ (take count words) (take count other) (length-take-le count words fits ∙ sym (length-take-le count other fits'))
        ∙ sym (take_at (sampled (3 * w) (enlarged_at w picture colours) (take count other)) (drop count other) count (long other fits'));
  }

-- ## One call

-- no other number
by_21 : (w h numbers colours : ℕ) → (source_stops w h numbers colours ≡ 0 → ⊥) → source_stops w h numbers colours ≡ 21
unfolding source_stops
by_21 w h numbers colours some = go (bad_source_side w || bad_source_side h || ltb numbers (h * w) || ltb colours 64) some
  where
    go : (b : Bool) → (◌≡◌ {A = ℕ} (cond b 21 0) 0 → ⊥) → ◌≡◌ {A = ℕ} (cond b 21 0) 21
    go true f = refl
    go false f = absurd (f refl)

-- what the station's call gives, told by 21 where the source is refused
abbrev told : Bool → Seen → Seen
told b g = cond b (seen (refusal 21) g.station []) g

abbrev overruled : Bool → Done → Done
overruled b d = record { gives = told b d.gives; history = d.history }

-- a refusal leaves the own buffer, and shows no word
kept : (k : ℕ) (count lent : ℕ) (s : State) (words : List ℕ)
    → lend count lent s.history (refusing_frame s.station words (take lent s.history) k) ≡ record { gives = seen (refusal k) s.station []; history = s.history }
kept k count lent s words = ap (λ (l : List ℕ). record { gives = seen (refusal k) s.station []; history = l }) (take-append-drop lent s.history)

-- a frame of no word is refused, whatever the station
no_frame : (s : State) → overruled true (call (frame 0 0 [] 0 0 0 []) s) ≡ record { gives = seen (refusal 21) s.station []; history = s.history }
unfolding call frame_reply_by stops bad_side unless
no_frame s = go (good_station s.station)
  where
    go : (b : Bool) → overruled true (lend 0 0 s.history (unless (cond (not b) 13 8) (refusing_frame s.station [] []) (shown 0 0 s.station [] [] [])))
        ≡ record { gives = seen (refusal 21) s.station []; history = s.history }
    go true = refl
    go false = refl

module _ (w h : ℕ) (picture colours words : List ℕ) (lent floats ints : ℕ) (curve : List Float) (s : State) where
  abbrev past : List ℕ
  past = take lent s.history

  abbrev given : List ℕ
  given = enlarged w h picture colours words

  -- the station's own checks
  station_says : (k : ℕ) → k ≡ stops s.station (3 * w) (3 * h) (length words) (length past) floats ints curve
      → lend (3 * h * (3 * w)) lent s.history (unless k (refusing_frame s.station words past) (frame_reply (3 * w) (3 * h) s.station given past floats ints curve))
      ≡ lend (3 * h * (3 * w)) lent s.history (frame_reply (3 * w) (3 * h) s.station given past floats ints curve)
  unfolding unless frame_reply_by
  station_says zero e = refl
  station_says (suc k) e =
      ap (lend (3 * h * (3 * w)) lent s.history)
      (refuses (suc k) (refusing_frame s.station given past) (shown (3 * w) (3 * h) s.station given past curve) number (λ z. absurd (omega (arith, z))))
    where
      number : suc k ≡ stops s.station (3 * w) (3 * h) (length given) (length past) floats ints curve
      number = e ∙ ap (λ (n : ℕ). stops s.station (3 * w) (3 * h) n (length past) floats ints curve) (sym (enlarged-length w h picture colours words))

  -- the source's before them
  source_says : (j : ℕ) → j ≡ source_stops w h (length picture) (length colours) →
      lend (3 * h * (3 * w)) lent s.history
      (unless j (refusing_frame s.station words past)
      (unless (stops s.station (3 * w) (3 * h) (length words) (length past) floats ints curve) (refusing_frame s.station words past)
      (frame_reply (3 * w) (3 * h) s.station given past floats ints curve)))
      ≡ overruled (not (eqb j 0)) (call (cond (eqb j 0) (frame (3 * w) (3 * h) given lent floats ints curve) (frame 0 0 [] 0 0 0 [])) s)
  unfolding unless call
  source_says zero e = station_says _ refl
  source_says (suc j) e =
      let z : suc j ≡ 21 = e ∙ by_21 w h (length picture) (length colours) (λ n. absurd (omega (arith, n, e))) in
      ap (λ (k : ℕ). record { gives = seen (refusal k) s.station []; history = past ++ drop lent s.history }) z ∙ kept 21 (3 * h * (3 * w)) lent s words
      ∙ sym (ap (λ (b : Bool). overruled (not b) (call (cond b (frame (3 * w) (3 * h) given lent floats ints curve) (frame 0 0 [] 0 0 0 [])) s))
      (ne_eqb (suc j) 0 (λ n. omega (arith, n))) ∙ no_frame s)

one-call : (c : CabinetCall) (s : State) → made c s ≡ overruled (bad_source c) (call (station_call c) s)
unfolding made cabinet_reply
one-call (show w h picture colours words lent floats ints curve) s = source_says w h picture colours words lent floats ints curve s _ refl
one-call (of_station c) s = refl

-- ## Lists

told-station : (b : Bool) (g : Seen) → (told b g).station ≡ g.station
told-station true g = refl
told-station false g = refl

same_left : (c : CabinetCall) (s : State) → leaves c s ≡ after (station_call c) s
unfolding leaves after
same_left c s =
    ap (λ (d : Done). record { station = d.gives.station; history = d.history }) (one-call c s)
    ∙ ap (λ (t : Station). record { station = t; history = (call (station_call c) s).history }) (told-station (bad_source c) (call (station_call c) s).gives)

same_run : (cs : List CabinetCall) (s : State) → runs s cs ≡ run s (map station_call cs)
unfolding runs run
same_run [] s = refl
same_run (c ∷ cs) s = ap (λ (t : State). runs t cs) (same_left c s) ∙ same_run cs (after (station_call c) s)

abbrev tells : List CabinetCall → List Seen → List Seen
tells [] gs = []
tells (c ∷ cs) [] = []
tells (c ∷ cs) (g ∷ gs) = told (bad_source c) g ∷ tells cs gs

same_gave : (cs : List CabinetCall) (s : State) → gave s cs ≡ tells cs (saw s (map station_call cs))
unfolding gave saw
same_gave [] s = refl
same_gave (c ∷ cs) s =
    ap₂ (λ (g : Seen) (gs : List Seen). g ∷ gs) (ap (λ (d : Done). d.gives) (one-call c s)) (ap (λ (t : State). gave t cs) (same_left c s) ∙ same_gave cs (after (station_call c) s))

-- what is told from a place on is told of what was seen from there on
tells-drop : (n : ℕ) (cs : List CabinetCall) (gs : List Seen) → drop n (tells cs gs) ≡ tells (drop n cs) (drop n gs)
tells-drop zero cs gs = refl
tells-drop (suc n) [] gs = refl
tells-drop (suc n) (c ∷ cs) [] = go (drop n cs)
  where
    go : (ds : List CabinetCall) → [] ≡ tells ds []
    go [] = refl
    go (d ∷ ds) = refl
tells-drop (suc n) (c ∷ cs) (g ∷ gs) = tells-drop n cs gs

-- ## Shared lists

same_source : {c d : CabinetCall} → SameCabinet c d → bad_source c ≡ bad_source d
same_source (shows e f) = refl
same_source (calls t) = refl

same_told : {cs ds : List CabinetCall} → Shared cs ds → (gs : List Seen) → tells cs gs ≡ tells ds gs
same_told none gs = refl
same_told (more t ts) [] = refl
same_told (more t ts) (g ∷ gs) = ap₂ (λ (b : Bool) (l : List Seen). told b g ∷ l) (same_source t) (same_told ts gs)

shared-drop : (n : ℕ) {cs ds : List CabinetCall} → Shared cs ds → Shared (drop n cs) (drop n ds)
shared-drop zero t = t
shared-drop (suc n) none = none
shared-drop (suc n) (more t ts) = shared-drop n ts

same_call : {c d : CabinetCall} → SameCabinet c d → SameCall (station_call c) (station_call d)
same_call (calls t) = t
same_call (shows {w} {h} {history} {floats} {ints} {picture} {colours} {words} {other} {curve} {curve'} e f) = go (eqb (source_stops w h (length picture) (length colours)) 0)
  where
    go : (b : Bool) → SameCall (cond b (frame (3 * w) (3 * h) (enlarged w h picture colours words) history floats ints curve) (frame 0 0 [] 0 0 0 []))
        (cond b (frame (3 * w) (3 * h) (enlarged w h picture colours other) history floats ints curve') (frame 0 0 [] 0 0 0 []))
    go true = frames (enlarged-first w h picture colours words other e) f
    go false = frames (record { same_length = refl; same_first = λ l. refl }) (record { same_length = refl; same_first = λ l. refl })

same_calls : {cs ds : List CabinetCall} → Shared cs ds → Same (map station_call cs) (map station_call ds)
same_calls none = Agree.none
same_calls (more t ts) = Agree.more (same_call t) (same_calls ts)

-- what the agreement of two stations says of the lists
abbrev Both : (s t : State) (cs ds : List CabinetCall) → Type 0
Both s t cs ds =
    let n : ℕ = point s t (map station_call cs) (map station_call ds) in
    (n ≡ point t s (map station_call ds) (map station_call cs)) × (drop n (saw s (map station_call cs)) ≡ drop n (saw t (map station_call ds)))

pub cabinets_agree : Cabinets-agree
cabinets_agree card other a b opens opens' alike H G own own' same cs ds shared room room' =
    let s = runs (opened a H) own in
    let t = runs (opened b G) own' in
    let e = same_run own (opened a H) in
    let f = same_run own' (opened b G) in
    let r = machines_agree card other a b opens opens' alike H G (map station_call own) (map station_call own')
    (subst (λ (x : State). Comparable x.station (run (opened b G) (map station_call own')).station) e (subst (λ (x : State). Comparable s.station x.station) f same))
    (map station_call cs) (map station_call ds) (same_calls shared) room room' in
    let r' = subst (λ (x : State). Both x t cs ds) (sym e) (subst (λ (x : State). Both (run (opened a H) (map station_call own)) x cs ds) (sym f) r) in
    let n = point s t (map station_call cs) (map station_call ds) in (
      r'.0,
      ap (drop n) (same_gave cs s) ∙ tells-drop n cs (saw s (map station_call cs)) ∙ ap (tells (drop n cs)) r'.1 ∙ same_told (shared-drop n shared) _
          ∙ sym (ap (drop n) (same_gave ds t) ∙ tells-drop n ds (saw t (map station_call ds))),
    )
