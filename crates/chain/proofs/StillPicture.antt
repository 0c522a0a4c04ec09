-- The frames after a reset find a history that holds nothing, or the frame alone, and so persistence gives
-- pictures that stand still. Assumes nothing.
use Prim.Native.Nat.{ℕ, zero, suc, ◌+◌, ◌*◌, ◌≤◌, ◌<◌}
use native.Mathlib.Nat.{add-zero, mul-pos, zero-lt-suc}
use native.Mathlib.Omega.{arith}
use mathlib.Core.Path.{◌≡◌, refl, ap, sym, subst, ◌∙◌}
use mathlib.Core.Bool.{Bool, true, false, not, cond}
use mathlib.Core.List.{List, [], ◌∷◌, ◌++◌}
use borrow.Author.Tests.{ltb-false, leb-true, not-true}
use lib.Dec.{leb}
use lib.IntN.{ℤ}
use lib.ListN.{length, take, drop, length-take, length-append, length-map, take-append-drop}
use lib.Seq.{length-take-le, take_at, take-take, take-append-le}
use lib.Ieee.{Float, nan, inf, fin, up, down, lt, of_bits}
use lib.Ieee.Exact.{HasValue}
use lib.Ieee.Fits.{up_pos}
use lib.Ieee.Positive.{num, den}
use lib.Ieee.Scale.{finite}
use Rattle.num.specs.Const.{c0_0, c0_95}
use Rattle.num.specs.Held.{Held, nothing, area, sized}
use Rattle.num.specs.Refusals.{unless}
use Rattle.passes.specs.Flow.{Flow, flow}
use Rattle.passes.specs.Laws.Lengths.{history_length}
use Rattle.passes.specs.Painted.{painted}
use Rattle.passes.specs.Plain.Persistence.{persistence, copies}
use Rattle.passes.specs.Still.{Still}
use Rattle.passes.proofs.Still.Pictures.{still_itself, persistence-still}
use Rattle.passes.proofs.Still.Places.{Full}
use Rattle.cards.specs.Answers.{acceptance, ok, reply, refusing}
use Rattle.chain.specs.Agree.{SameFirst, SameCall, frames}
use Rattle.cards.specs.Alike.{chain_of}
use Rattle.chain.specs.Calls.{rechain, forget, stops, lacks, Framed, framed, shown}
use Rattle.chain.specs.Calls.{shown_by, frame_reply_by}
use Rattle.chain.specs.Chain.{over_by, turn_by, with_held, Ran, chain, chain_by, depth, samples_in}
use Rattle.chain.specs.Machine.{Call, frame, reset, State, Seen, picture, call, after, saw}
use Rattle.cards.specs.Normal.{neg_zero, settled, counted, normal_pass, normal_chain, good_station}
use Rattle.cards.specs.Records.{kinds, among}
use Rattle.chain.specs.StillPicture.{alone, Repeats, AllStill, Stays-still, Stays-still-made}
use Rattle.cards.specs.declared.station.Record.{Record}
use Rattle.cards.specs.declared.station.Pass.TheVariants.{Persistence}
use Rattle.cards.specs.declared.station.Station.{Station}
use Rattle.num.specs.Laws.Bools.{false_true, both}
use Rattle.chain.proofs.Changed.{retake}
use Rattle.chain.proofs.Goes.{goes}
use Rattle.cards.specs.Laws.Good.{good, headed}
use Rattle.chain.proofs.Made.{made-is}
use Rattle.chain.proofs.Sound.{by-stop}

-- ## The settings of a good chain of persistence alone

at_most : (m : ℕ) (d : ℤ) → lt c0_95 (fin false m d) ≡ false → m * up d ≤ down d
unfolding lt of_bits
at_most m d e = let l = ltb-false (15938355 * 1 * down d) (m * up d * 16777216) e in omega arith

negative : (m : ℕ) (d : ℤ) → lt (fin true (suc m) d) c0_0 ≡ false → ⊥
unfolding lt of_bits
negative m d e = let l = ltb-false 0 (suc m * up d * 1 + 0 * 1 * down d) e in let p = mul-pos (zero-lt-suc m) (up_pos d) in omega arith

-- an amount from 0 to 0.95 is not negative, and at most 1
amount_fine : (x : Float) → settled c0_0 c0_95 x ≡ true → HasValue x false (num x) (den x) × (num x ≤ den x)
unfolding settled
amount_fine x e =
    let a = both _ (not (neg_zero x)) e in
    let b = both _ (not (lt c0_95 x)) a.0 in
    let c = both (finite x) (not (lt x c0_0)) b.0 in
    go x c.0 (not-true _ c.1) (not-true _ b.1) (not-true _ a.1)
  where
    go : (x : Float) → finite x ≡ true → lt x c0_0 ≡ false → lt c0_95 x ≡ false → neg_zero x ≡ false
        → HasValue x false (num x) (den x) × (num x ≤ den x)
    go nan f l u z = false_true f
    go (inf s) f l u z = false_true f
    go (fin true zero d) f l u z = false_true (sym z)
    go (fin true (suc m) d) f l u z = absurd (negative m d l)
    go (fin false m d) f l u z = ((refl, refl), at_most m d u)

record Settings (amount : Float) (k : ℕ) : Type 0 where
  own : HasValue amount false (num amount) (den amount)
  most : num amount ≤ den amount
  few : k ≤ 8

settings : (s : Station) (on : Bool) (amount : Float) (k : ℕ) (held : Held) → chain_of s ≡ alone on amount k held
    → good_station s ≡ true → Settings amount k
unfolding normal_pass
settings s on amount k held e g =
    let all = subst (λ (rs : List Record). normal_chain [] rs ≡ true) e (good s g).normal in
    let n = (headed [] (record { on = on; pass = Persistence amount k; held = held }) [] all).normal in
    let p = both (settled c0_0 c0_95 amount) (counted 8 k) n in
    let a = amount_fine amount p.0 in
    record { own = a.0; most = a.1; few = leb-true k 8 (both (leb 1 k) (leb k 8) p.1).1 }

-- ## The history after a reset, and after each of the frames

module _ (on : Bool) (amount : Float) (k w h : ℕ) (words : List ℕ) where
  abbrev F : List ℕ
  F = take (h * w) words

  -- all places hold the frame, if any frame of that size is held
  record Steady (s : State) : Type 0 where
    held : Held
    is-alone : chain_of s.station ≡ alone on amount k held
    full : good_station s.station ≡ true → 0 < h * w → held ≡ sized w h → take (k * (h * w)) s.history ≡ copies k F

  -- a good station accepts the reset, and holds nothing then
  after_reset : (s : State) (held : Held) → chain_of s.station ≡ alone on amount k held → Steady (after reset s)
  unfolding after call unless lacks
  after_reset s held e = go (lacks s.station 4) refl
    where
      go : (n : ℕ) → lacks s.station 4 ≡ n
          → Steady (record {
            station = (unless n (refusing s.station) (reply (acceptance []) (rechain (forget (chain_of s.station)) s.station))).station;
            history = s.history;
          })
      go zero z =
          record {
            held = nothing;
            is-alone =
                retake s.station.n s.station.records (forget (chain_of s.station)) (length-map (chain_of s.station) (with_held nothing)) ∙ ap forget e;
            full = λ g p same. let none : 0 ≡ h * w = ap area same in absurd (omega arith);
          }
      go (suc n) z =
          record {
            held = held;
            is-alone = e;
            full = λ g p same.
                let none : 0 ≡ suc n = (rw (g, ap (λ (rs : List Record). among 4 (kinds rs)) e) at z) in
                absurd (omega arith);
          }

  -- what a frame gives and leaves
  abbrev Gives : ℕ → State → Framed → Type 0
  Gives lent s r =
      (ok r.answer ≡ true → Still F (picture r.answer (h * w) r.words))
      × Steady (record { station = r.station; history = r.past ++ drop lent s.history })

  -- through the chain
  turned : (b : Bool) (x : Flow) →
      let words = x.frame.words in
      let y : Flow = cond b (persistence amount k (sized w h) x) x in
      Settings amount k → length words ≡ h * w → k * (h * w) ≤ length x.past → (x.held ≡ sized w h → Full k words x.past)
      → Still words y.frame.words × (length y.past ≡ length x.past) × (y.held ≡ sized w h → Full k words y.past)
  turned true x set long room full =
      let fits : k * length x.frame.words ≤ length x.past = rw long room in
      let p = persistence-still amount set.own set.most k set.few (sized w h) x fits full in
      (p.0, history_length amount k (sized w h) x fits, λ z. p.1)
  turned false x set long room full = (still_itself x.frame.words, refl, full)

  -- an accepted frame of which persistence made y with its places, which are the first words that are lent
  leaves : (s : State) (other : List ℕ) (lent samples : ℕ) (y : Flow) (rest : List ℕ) → Steady s → Still F y.frame.words
      → length y.frame.words ≡ h * w → length y.past ≡ k * (h * w)
      → (y.held ≡ sized w h → take (k * (h * w)) y.past ≡ copies k F)
      → Gives lent s (framed (acceptance (y.frame.clipped ∷ samples ∷ [])) (rechain (alone on amount k y.held) s.station)
      (y.frame.words ++ drop (h * w) other) (y.past ++ rest))
  leaves s other lent samples y rest t still long room full = (
    λ z. rw (take_at y.frame.words (drop (h * w) other) (h * w) long) still,
    record {
      held = y.held;
      is-alone = retake s.station.n s.station.records (alone on amount k y.held) (sym (ap length t.is-alone));
      full = λ g p same.
          take-append-le (k * (h * w)) (y.past ++ rest) (drop lent s.history) (omega (arith, length-append y.past rest))
          ∙ take-append-le (k * (h * w)) y.past rest (omega arith) ∙ full same;
    },
  )

  accepted : (s : State) (other : List ℕ) (lent floats ints : ℕ) (curve : List Float) → Steady s → SameFirst (h * w) words other
      → stops s.station w h (length other) (length (take lent s.history)) floats ints curve ≡ 0
      → Gives lent s (shown w h s.station other (take lent s.history) curve)
  unfolding shown_by chain_by turn_by over_by depth
  accepted s other lent floats ints curve t same z =
      let n = h * w in
      let past = take lent s.history in
      let x : Flow = flow (painted (take n other) 0) t.held (take (k * n) past) in
      let y : Flow = cond on (persistence amount k (sized w h) x) x in
      let g = goes s.station w h (length other) (length past) floats ints curve z in
      let one : F ≡ take n other = same.same_first (omega (arith, g.frame_room, same.same_length)) in
      let fits : length (take n other) ≡ n = length-take-le n other g.frame_room in
      let room : k * n ≤ length past = subst (λ (d : ℕ). d * n ≤ length past) (ap depth t.is-alone ∙ add-zero k) g.past_room in
      let own : length (take (k * n) past) ≡ k * n = length-take-le (k * n) past room in
      let lends : k * n ≤ lent = omega (arith, length-take lent s.history) in
      let p = turned on x (settings s.station on amount k t.held t.is-alone g.good) fits (omega arith)
      (λ held.
      rw fits (take-take (k * n) (k * n) past (omega arith) ∙ take-take (k * n) lent s.history lends
      ∙ t.full g.good (mul-pos g.high.0 g.wide.0) held ∙ ap (copies k) one)) in
      subst
      (λ (v : Ran).
      Gives lent s (framed (acceptance (v.frame.clipped ∷ samples_in w h (chain_of s.station) ∷ [])) (rechain v.records s.station)
      (v.frame.words ++ drop n other) v.past))
      (sym (ap (λ (rs : List Record). chain w h curve rs (painted (take n other) 0) past) t.is-alone))
      (leaves s other lent (samples_in w h (chain_of s.station)) y (drop (k * n) past) t (rw one p.0) (p.0.0 ∙ fits) (p.1 ∙ own)
      (λ held. (rw fits at (p.2 held)) ∙ ap (copies k) (sym one)))

  each : (s : State) (d : Call) (lent floats ints : ℕ) (curve : List Float) → Steady s → SameCall (frame w h words lent floats ints curve) d
      → (ok (call d s).gives.answer ≡ true → Still F (call d s).gives.picture) × Steady (after d s)
  unfolding call after frame_reply_by
  each s d lent floats ints curve t (frames {other = other} {curve' = curve'} same curves) =
      let past = take lent s.history in
      by-stop (Gives lent s) _ s.station other past _
      (λ z. false_true z, rw (take-append-drop lent s.history) t)
      (accepted s other lent floats ints curve' t same)

  all : (s : State) (cs : List Call) (lent floats ints : ℕ) (curve : List Float) → Steady s
      → Repeats (frame w h words lent floats ints curve) cs → AllStill F (saw s cs)
  unfolding saw
  all s [] lent floats ints curve t r = tt
  all s (c ∷ cs) lent floats ints curve t r =
      let e = each s c lent floats ints curve t r.0 in
      (e.0, all (after c s) cs lent floats ints curve e.1 r.1)

pub stays_still : Stays-still
unfolding saw
stays_still s on amount k held e w h words history floats ints curve cs same =
    all on amount k w h words (after reset s) cs history floats ints curve (after_reset on amount k w h words s held e) same

pub stays_still-made : Stays-still-made
stays_still-made s t on amount k held e w h words history floats ints curve cs same gave made =
    subst (λ (g : List Seen). AllStill (take (h * w) words) (drop 1 g)) (sym (made-is s t (reset ∷ cs) gave made).0)
    (stays_still s on amount k held e w h words history floats ints curve cs same)
