-- Two stations meet while k frames are due when their chains are linked so and they are alike in all else. A shared call is accepted by both or by none; it leaves
-- as much due, and one less where it is taken; after a reset or a switching-off nothing is due. A change of depth may be accepted by one alone; accepted by both
-- it leaves as much due as the depths of those that are on, or nothing, where nothing was. Where nothing is due the answers agree, and the pictures. Assumes
-- nothing.
use Prim.Native.Nat.{ℕ, zero, suc, ◌*◌, ◌-◌, ◌≤◌, zero-le}
use native.Mathlib.Nat.{zero-add, zero-mul}
use native.Mathlib.Omega.{arith}
use mathlib.Core.Path.{◌≡◌, refl, ap, ap₂, sym, subst, subst₂, ◌∙◌}
use mathlib.Core.Bool.{Bool, true, false, not, ◌&&◌, cond, and-false}
use mathlib.Core.List.{List, [], ◌∷◌, ◌++◌}
use borrow.Author.Tests.{not-true, le-leb}
use lib.Dec.{eqb}
use lib.Ieee.{Float}
use lib.ListN.{length, take, drop, take-append-drop}
use lib.Seq.{take-nil, take-append-le, take_at, length-take-le}
use Rattle.num.specs.Held.{area}
use Rattle.num.specs.Refusals.{unless}
use Rattle.passes.specs.Painted.{Painted, painted}
use Rattle.passes.specs.Laws.Persistence.{resized_same, resized-length}
use Rattle.passes.specs.Plain.Persistence.{resized}
use Rattle.chain.specs.Agree.{SameFirst, SameCall, frames, resets, switches_to, asks, commits, steps, new-depths, lent, Lends}
use Rattle.cards.specs.Answers.{refusal, acceptance, ok, reply, refusing}
use Rattle.chain.specs.Agree.{takes, switches_off, ends, changes}
use Rattle.cards.specs.Alike.{chain_of}
use Rattle.chain.specs.Calls.{rechain, pend, stops, lacks, waits, ask_stops, commit_stops, on_first, forget, with_switch, switched, stepped, committed}
use Rattle.chain.specs.Calls.{presets, step_lut, Framed, framed, refusing_frame, shown, shown_by, frame_reply_by, first_held, first_depth, depth_stops, redepth, depth_reply}
use Rattle.chain.specs.Chain.{Ran, chain, depth, depth_on, samples_in}
use Rattle.chain.specs.Machine.{Call, frame, reset, switch, ask, commit, step, new_depth, State, seen, Done, lend, still, call, after}
use Rattle.cards.specs.Normal.{persists, held_by, holding}
use Rattle.cards.specs.Passes.{kind_of}
use Rattle.cards.specs.Records.{kinds, among}
use Rattle.cards.specs.Settings.{one_at_least}
use Rattle.cards.specs.declared.station.Pending.{Pending}
use Rattle.cards.specs.declared.station.Pending.TheVariants.{Nothing, Switch}
use Rattle.cards.specs.declared.station.Record.{Record}
use Rattle.cards.specs.declared.station.Station.{Station}
use Rattle.num.specs.Laws.Bools.{both, neither, false_true}
use Rattle.cards.specs.Laws.Good.{good}
use Rattle.chain.proofs.Changed.{shapes, with_switch_gentle, stepped_gentle, first-shapes, passes-shapes, forget-passes, redepth-shapes}
use Rattle.chain.proofs.Curves.{reply_curve}
use Rattle.chain.proofs.Deeper.{deep_enough, deepens}
use Rattle.chain.proofs.Goes.{goes}
use Rattle.chain.proofs.Fit.{Fixed, fixed, Fit, chain-is-rs}
use Rattle.chain.proofs.Linked.{Refits, links_more, links_one, links_kinds, links_on, links_depth, links_reads, links_forgotten, links_off}
use Rattle.chain.proofs.Linked.{links_start, links_step, links_switch, links_redepth, links_deepen}
use Rattle.chain.proofs.Links.{Links, Normals, normals, Chained, chain_links}
use Rattle.chain.proofs.Sound.{call-after, call_fit}
use Rattle.chain.proofs.OwnBuffer.{call_length}
use Rattle.chain.proofs.Turns.{chain_frame, chain-passes}

-- ## One call on two stations

-- what two calls leave: as much is due as j, and answers and pictures agree where `all` holds. Before, two frames may have clipped different channels
pub record Step (all : Type 0) (j : ℕ) (d e : Done) : Type 0 where
  pub accepted : ok d.gives.answer ≡ ok e.gives.answer
  pub links : Links d.history e.history j 0 0 (chain_of d.gives.station) (chain_of e.gives.station)
  pub asked : d.gives.station.pending ≡ e.gives.station.pending
  pub answers : all → d.gives.answer ≡ e.gives.answer
  pub pictures : all → d.gives.picture ≡ e.gives.picture

abbrev with_history : Station → List ℕ → State
with_history s H = record { station = s; history = H }

-- of two stations alike but for what they hold, as much is due as the depths of those that are on
pub started : (X Y : List ℕ) (u v : Station) → Fit u → Fit v → forget (chain_of u) ≡ forget (chain_of v)
    → Links X Y (depth_on (chain_of u)) 0 0 (chain_of u) (chain_of v)
started X Y u v f g e =
    subst (λ (n : ℕ). Links X Y n 0 0 (chain_of u) (chain_of v)) (zero-add (depth_on (chain_of u)))
    (links_start X Y 0 0 (held_by (chain_of u)) (held_by (chain_of v)) (chain_of u) (chain_of v) e (good u f.sound).holds (good v g.sound).holds)

-- the first words of the first words
take_swap : (m n : ℕ) (l : List ℕ) → take m (take n l) ≡ take n (take m l)
take_swap zero n l = sym (take-nil n)
take_swap (suc m) zero l = refl
take_swap (suc m) (suc n) [] = refl
take_swap (suc m) (suc n) (x ∷ l) = ap (λ (r : List ℕ). x ∷ r) (take_swap m n l)

-- a chain without persistence has none that is on
none_on : (rs : List Record) → among 4 (kinds rs) ≡ false → persists rs ≡ false
unfolding persists
none_on [] e = refl
none_on (r ∷ rs) e =
    let d = neither (eqb (kind_of r.pass) 4) (among 4 (kinds rs)) e in
    rw (d.0, and-false r.on) (none_on rs d.1)

module _
    (s t : Station) (H G : List ℕ) (fit_s : Fit s) (fit_t : Fit t) (k : ℕ) (ls : Links H G k 0 0 (chain_of s) (chain_of t)) (same : fixed s ≡ fixed t)
    (same_asked : s.pending ≡ t.pending)
  where
    abbrev this : State
    this = with_history s H

    abbrev that : State
    that = with_history t G

    abbrev rs : List Record
    rs = chain_of s

    abbrev qs : List Record
    qs = chain_of t

    normal : Normals rs
    normal = normals [] rs (good s fit_s.sound).normal

    held-s : holding (held_by rs) rs ≡ true
    held-s = (good s fit_s.sound).holds

    -- where nothing is due they are one
    one : k ≡ 0 → s ≡ t
    one z =
        let chains : rs ≡ qs = links_one normal (subst (λ (j : ℕ). Links H G j 0 0 rs qs) z ls) in
        let rest : drop s.n s.records ≡ drop t.n t.records = ap (λ (x : Fixed). x.2) same in
        let all : s.records ≡ t.records =
        sym (take-append-drop s.n s.records) ∙ ap₂ (λ (x y : List Record). x ++ y) chains rest ∙ take-append-drop t.n t.records in
        λ i. record { records = all i; n = (same i).1; pending = same_asked i }

    -- linked chains that take the place of theirs
    put_back : (xs ys : List Record) → shapes xs ≡ shapes rs → shapes ys ≡ shapes qs → {X Y : List ℕ} {j : ℕ} → Links X Y j 0 0 xs ys
        → Links X Y j 0 0 (chain_of (rechain xs s)) (chain_of (rechain ys t))
    put_back xs ys a b {X} {Y} {j} = subst₂ (λ (x y : List Record). Links X Y j 0 0 x y) (sym (chain-is-rs s fit_s xs a)) (sym (chain-is-rs t fit_t ys b))

    lacks_same : (kind : ℕ) → lacks s kind ≡ lacks t kind
    unfolding lacks
    lacks_same kind = rw (fit_s.sound, fit_t.sound, links_kinds ls)

    ask_same : (kind : ℕ) → ask_stops s kind ≡ ask_stops t kind
    unfolding ask_stops
    ask_same kind = ap₂ (λ (n : ℕ) (q : Pending). unless n (λ n. n) (cond (waits q) 17 0)) (lacks_same kind) same_asked

    commit_same : commit_stops s ≡ commit_stops t
    unfolding commit_stops
    commit_same = rw (fit_s.sound, fit_t.sound, same_asked)

    stops_same : (w h u v m i : ℕ) (curve : List Float) → stops s w h u v m i curve ≡ stops t w h u v m i curve
    unfolding stops
    stops_same w h u v m i curve = rw (fit_s.sound, fit_t.sound, links_depth ls, links_reads ls)

    -- ## A frame, where n is its refusal

    module _ (w h l m i : ℕ) (curve : List Float) (p q : List ℕ) (lent-s : l ≤ length H) (lent-t : l ≤ length G) where
      abbrev this_frame : ℕ → Framed
      this_frame n = unless n (refusing_frame s p (take l H)) (shown w h s p (take l H) curve)

      abbrev that_frame : ℕ → Framed
      that_frame n = unless n (refusing_frame t q (take l G)) (shown w h t q (take l G) curve)

      abbrev X : Ran
      X = chain w h curve rs (painted (take (h * w) p) 0) (take l H)

      abbrev Y : Ran
      Y = chain w h curve qs (painted (take (h * w) q) 0) (take l G)

      -- both accept it
      module _ (frame-s : h * w ≤ length p) (frame-t : h * w ≤ length q) (first : take (h * w) p ≡ take (h * w) q) (room : depth rs * (h * w) ≤ l) where
        size-s : length (take (h * w) p) ≡ h * w
        size-s = length-take-le (h * w) p frame-s

        size-t : length (take (h * w) q) ≡ h * w
        size-t = length-take-le (h * w) q frame-t

        chained : Chained w h l curve H G lent-s lent-t k 0 0 X Y [] [] (drop l H) (drop l G)
        chained =
            rw (zero-mul (h * w)) at
            (chain_links w h l curve H G lent-s lent-t ls normal (painted (take (h * w) p) 0) (painted (take (h * w) q) 0) (λ z. ap (λ (l : List ℕ). painted l 0) first)
            size-s size-t (omega (arith, zero-mul (h * w))) [] [] (drop l H) (drop l G) (sym (zero-mul (h * w))) (sym (zero-mul (h * w))))

        frame_links : Links (X.past ++ drop l H) (Y.past ++ drop l G) (k - 1) 0 0 (chain_of (rechain X.records s)) (chain_of (rechain Y.records t))
        frame_links =
            put_back X.records Y.records (passes-shapes X.records rs (chain-passes w h curve rs (painted (take (h * w) p) 0) (take l H)))
            (passes-shapes Y.records qs (chain-passes w h curve qs (painted (take (h * w) q) 0) (take l G))) chained.links

        picture_same : k ≡ 0 → take (h * w) (X.frame.words ++ drop (h * w) p) ≡ take (h * w) (Y.frame.words ++ drop (h * w) q)
        picture_same z =
            take_at X.frame.words (drop (h * w) p) (h * w) (chain_frame w h curve rs (painted (take (h * w) p) 0) (take l H) ∙ size-s)
            ∙ ap (λ (f : Painted). f.words) (chained.frames z)
            ∙ sym (take_at Y.frame.words (drop (h * w) q) (h * w) (chain_frame w h curve qs (painted (take (h * w) q) 0) (take l G) ∙ size-t))

      frame_step : (A : Type 0) → (A → k ≡ 0) → SameFirst (h * w) p q → (n : ℕ) → stops s w h (length p) (length (take l H)) m i curve ≡ n
          → Step A (cond (persists rs && ok (this_frame n).answer) (k - 1) k) (lend (h * w) l H (this_frame n)) (lend (h * w) l G (that_frame n))
      unfolding unless shown_by
      frame_step A all same zero z =
          let g = goes s w h (length p) (length (take l H)) m i curve z in
          let first : take (h * w) p ≡ take (h * w) q = same.same_first g.frame_room in
          let room : depth rs * (h * w) ≤ l = rw (length-take-le l H lent-s) at g.past_room in
          let other : h * w ≤ length q = rw same.same_length at g.frame_room in
          record {
            accepted = refl;
            links = due (persists rs) (frame_links g.frame_room other first room);
            asked = same_asked;
            answers = λ a. ap₂ (λ (x : Painted) (n : ℕ). acceptance (x.clipped ∷ n ∷ [])) ((chained g.frame_room other first room).frames (all a))
                (ap (λ (u : Station). samples_in w h (chain_of u)) (one (all a)));
            pictures = λ a. picture_same g.frame_room other first room (all a);
          }
        where
          due : {A B : List ℕ} {xs ys : List Record} (b : Bool) → Links A B (k - 1) 0 0 xs ys → Links A B (cond (b && true) (k - 1) k) 0 0 xs ys
          due true x = x
          due false x = links_more k (omega arith) x
      frame_step A all same (suc n) z =
          rw (take-append-drop l H, take-append-drop l G, and-false (persists rs))
          (record { accepted = refl; links = ls; asked = same_asked; answers = λ a. refl; pictures = λ a. refl })

    -- ## Two calls that touch no word

    reply-step : (A : Type 0) (n : ℕ) {reports reports' : List ℕ} (u v : Station) → (A → reports ≡ reports')
        → Links H G k 0 0 (chain_of u) (chain_of v) → u.pending ≡ v.pending
        → Step A k (still H (unless n (refusing s) (reply (acceptance reports) u))) (still G (unless n (refusing t) (reply (acceptance reports') v)))
    unfolding unless
    reply-step A zero u v told l q = record { accepted = refl; links = l; asked = q; answers = λ z. ap acceptance (told z); pictures = λ z. refl }
    reply-step A (suc n) u v told l q = record { accepted = refl; links = ls; asked = same_asked; answers = λ z. refl; pictures = λ z. refl }

    forgotten : Links H G 0 0 0 (chain_of (rechain (forget rs) s)) (chain_of (rechain (forget qs) t))
    forgotten =
        put_back (forget rs) (forget qs) (passes-shapes (forget rs) rs (forget-passes rs)) (passes-shapes (forget qs) qs (forget-passes qs))
        (links_forgotten H G 0 ls)

    switch_links : (kind : ℕ) (position : Bool) → Links H G k 0 0 (chain_of (switched kind position s)) (chain_of (switched kind position t))
    switch_links kind position =
        let gentle = with_switch_gentle position in
        put_back (on_first kind (with_switch position) rs) (on_first kind (with_switch position) qs) (first-shapes kind (with_switch position) gentle rs)
        (first-shapes kind (with_switch position) gentle qs) (links_switch kind position (held_by rs) held-s ls)

    step_links : Links H G k 0 0 (chain_of (rechain (step_lut rs) s)) (chain_of (rechain (step_lut qs) t))
    step_links =
        put_back (step_lut rs) (step_lut qs) (first-shapes 5 stepped stepped_gentle rs) (first-shapes 5 stepped stepped_gentle qs) (links_step (held_by rs) held-s ls)

    -- what is asked for, committed
    commit_step : (A : Type 0) (n : ℕ) (q : Pending)
        → Step A k (still H (unless n (refusing s) (reply (acceptance []) (committed q s)))) (still G (unless n (refusing t) (reply (acceptance []) (committed q t))))
    commit_step A n Nothing = reply-step A n s t (λ z. refl) ls same_asked
    commit_step A n (Switch kind position) = reply-step A n (committed (Switch kind position) s) (committed (Switch kind position) t) (λ z. refl) (switch_links kind position) refl

    -- ## A new depth, where n and n' are its refusals

    module _ (d l : ℕ) (lent-s : l ≤ length H) (lent-t : l ≤ length G) where
      abbrev D : ℕ
      D = one_at_least d

      abbrev refit : List Record → List ℕ → List ℕ
      refit xs past = resized (first_depth xs) D (area (first_held xs)) past

      abbrev this-depth : ℕ → Framed
      this-depth n = unless n (refusing_frame s [] (take l H)) (framed (acceptance []) (rechain (redepth D rs) s) [] (refit rs (take l H)))

      abbrev that-depth : ℕ → Framed
      that-depth n = unless n (refusing_frame t [] (take l G)) (framed (acceptance []) (rechain (redepth D qs) t) [] (refit qs (take l G)))

      -- both refuse it
      refused-step : (A : Type 0) (n n' : ℕ) → (A → n ≡ n') → ok (this-depth n).answer ≡ false → ok (that-depth n').answer ≡ false
          → Step A k (lend 0 l H (this-depth n)) (lend 0 l G (that-depth n'))
      unfolding unless
      refused-step A zero n' told e f = false_true (sym e)
      refused-step A (suc n) zero told e f = false_true (sym f)
      refused-step A (suc n) (suc n') told e f =
          rw (take-append-drop l H, take-append-drop l G)
          (record { accepted = refl; links = ls; asked = same_asked; answers = λ z. ap refusal (told z); pictures = λ z. refl })

      depth_same : k ≡ 0 → depth_stops s d (length (take l H)) ≡ depth_stops t d (length (take l G))
      depth_same z = ap₂ (λ (u : Station) (n : ℕ). depth_stops u d n) (one z) (length-take-le l H lent-s ∙ sym (length-take-le l G lent-t))

      -- the histories that it leaves, where nothing was due
      module _ (none : depth_stops s d (length (take l H)) ≡ 0) (z : k ≡ 0) where
        abbrev n : ℕ
        n = area (first_held rs)

        some : 1 ≤ first_depth rs
        some = deep_enough s (deepens s d (length (take l H)) none).there

        room : D * n ≤ l
        room = rw (length-take-le l H lent-s) at (deepens s d (length (take l H)) none).room

        front : (B : List ℕ) → l ≤ length B → take (D * n) (refit rs (take l B) ++ drop l B) ≡ take (D * n) (refit rs (take l B))
        front B long =
            let roomy : D * n ≤ length (take l B) = omega (arith, length-take-le l B long, room) in
            take-append-le (D * n) (refit rs (take l B)) (drop l B) (omega (arith, resized-length (first_depth rs) D n (take l B) some roomy))

        stays : (B : List ℕ) → D ≡ first_depth rs → B ≡ refit rs (take l B) ++ drop l B
        unfolding resized
        stays B e = rw (le-leb D (first_depth rs) (omega arith)) (sym (take-append-drop l B))

        refits : Refits H G (refit rs (take l H) ++ drop l H) (refit rs (take l G) ++ drop l G) D (first_depth rs) n
        refits =
            record {
              agree = λ q.
                  let whole : take (first_depth rs * n) (take l H) ≡ take (first_depth rs * n) (take l G) =
                  take_swap (first_depth rs * n) l H ∙ ap (take l) q ∙ sym (take_swap (first_depth rs * n) l G) in
                  let roomy : D * n ≤ length (take l H) = omega (arith, length-take-le l H lent-s, room) in
                  let roomy' : D * n ≤ length (take l G) = omega (arith, length-take-le l G lent-t, room) in
                  front H lent-s ∙ resized_same (first_depth rs) D n (take l H) (take l G) some roomy roomy' whole ∙ sym (front G lent-t);
              stay = λ e. (stays H e, stays G e);
            }

        kept : Links (refit rs (take l H) ++ drop l H) (refit qs (take l G) ++ drop l G) 0 0 0 (redepth D rs) (redepth D qs)
        kept =
            subst (λ (u : Station). Links (refit rs (take l H) ++ drop l H) (refit (chain_of u) (take l G) ++ drop l G) 0 0 0 (redepth D rs) (redepth D qs)) (one z)
            (links_deepen H G (refit rs (take l H) ++ drop l H) (refit rs (take l G) ++ drop l G) D normal refl refits (subst (λ (j : ℕ). Links H G j 0 0 rs qs) z ls))

      -- the chains with their new depth, in place of the old ones
      redepth_back : {X Y : List ℕ} {j : ℕ} → depth_stops s d (length (take l H)) ≡ 0 → Links X Y j 0 0 (redepth D rs) (redepth D qs)
          → Links X Y j 0 0 (chain_of (rechain (redepth D rs) s)) (chain_of (rechain (redepth D qs) t))
      redepth_back none =
          let few = (deepens s d (length (take l H)) none).few in
          put_back (redepth D rs) (redepth D qs) (redepth-shapes D few rs) (redepth-shapes D few qs)

      -- where nothing was due, nothing is
      kept_step : (A : Type 0) (n n' : ℕ) → depth_stops s d (length (take l H)) ≡ n → ok (this-depth n).answer ≡ true → ok (that-depth n').answer ≡ true → k ≡ 0
          → Step A 0 (lend 0 l H (this-depth n)) (lend 0 l G (that-depth n'))
      unfolding unless
      kept_step A (suc n) n' none e f z = false_true e
      kept_step A zero (suc n') none e f z = false_true f
      kept_step A zero zero none e f z =
          record { accepted = refl; links = redepth_back none (kept none z); asked = same_asked; answers = λ z. refl; pictures = λ z. refl }

      -- else the count begins anew
      renew_step : (A : Type 0) (n n' : ℕ) → depth_stops s d (length (take l H)) ≡ n → ok (this-depth n).answer ≡ true → ok (that-depth n').answer ≡ true
          → Fit (this-depth n).station → Fit (that-depth n').station
          → Step A (depth_on (chain_of (this-depth n).station)) (lend 0 l H (this-depth n)) (lend 0 l G (that-depth n'))
      unfolding unless
      renew_step A (suc n) n' none e f fs ft = false_true e
      renew_step A zero (suc n') none e f fs ft = false_true f
      renew_step A zero zero none e f fs ft =
          let few = (deepens s d (length (take l H)) none).few in
          let now-s = ap forget (chain-is-rs s fit_s (redepth D rs) (redepth-shapes D few rs)) in
          let now-t = ap forget (chain-is-rs t fit_t (redepth D qs) (redepth-shapes D few qs)) in
          record {
            accepted = refl;
            links = started _ _ (rechain (redepth D rs) s) (rechain (redepth D qs) t) fs ft (now-s ∙ links_redepth D ls ∙ sym now-t);
            asked = same_asked;
            answers = λ z. refl;
            pictures = λ z. refl;
          }

    -- ## Each call

    abbrev Whole : Call → Type 0
    Whole c = ends this c ≡ false → k ≡ 0

    -- one that is no change of depth
    call_step : {c d : Call} → SameCall c d → lent c ≤ length H → lent c ≤ length G → changes this c ≡ false → changes that d ≡ false
        → Step (Whole c) (cond (takes this c) (k - 1) k) (call c this) (call d that)
    unfolding call frame_reply_by depth_reply
    call_step (frames {w} {h} {lent = l} {floats = m} {ints = i} {words = p} {other = q} {curve = curve} same curves) l_h l_g e f =
        let n = stops s w h (length p) (length (take l H)) m i curve in
        let long = same.same_length in
        let stop : n ≡ stops t w h (length q) (length (take l G)) m i curve =
        cc (stops_same w h (length p) (length (take l H)) m i curve, long, length-take-le l H l_h, length-take-le l G l_g) in
        let left = lend (h * w) l H (this_frame w h l m i curve p q l_h l_g n) in
        let whole = Whole (frame w h p l m i curve) in
        let due = cond (takes this (frame w h p l m i curve)) (k - 1) k in
        subst (λ (r : Framed). Step whole due left (lend (h * w) l G r)) (reply_curve w h t q (take l G) m i curves)
        (subst (λ (o : ℕ). Step whole due left (lend (h * w) l G (that_frame w h l m i curve p q l_h l_g o))) stop
        (frame_step w h l m i curve p q l_h l_g _ (λ z. z refl) same n refl))
    call_step resets l_h l_g e f = rw (← (lacks_same 4)) (reply-step (Whole reset) (lacks s 4) (rechain (forget rs) s) (rechain (forget qs) t) (λ z. refl) (links_more k zero-le forgotten) same_asked)
    call_step (switches_to {kind} {on = position}) l_h l_g e f =
        rw (← (lacks_same kind)) (reply-step (Whole (switch kind position)) (lacks s kind) (switched kind position s) (switched kind position t) (λ z. refl) (switch_links kind position) same_asked)
    call_step (asks {kind} {on = position}) l_h l_g e f = rw (← (ask_same kind)) (reply-step (Whole (ask kind position)) (ask_stops s kind) (pend (Switch kind position) s) (pend (Switch kind position) t) (λ z. refl) ls refl)
    call_step commits l_h l_g e f =
        subst₂ (λ (n : ℕ) (q : Pending).
        Step (Whole commit) k (still H (unless (commit_stops s) (refusing s) (reply (acceptance []) (committed s.pending s))))
        (still G (unless n (refusing t) (reply (acceptance []) (committed q t)))))
        commit_same same_asked (commit_step (Whole commit) (commit_stops s) s.pending)
    call_step steps l_h l_g e f =
        rw (← (lacks_same 5))
        (reply-step (Whole step) (lacks s 5) (rechain (step_lut rs) s) (rechain (step_lut qs) t) (λ z. ap (λ (u : Station). presets (step_lut (chain_of u))) (one (z refl))) step_links same_asked)
    call_step (new-depths {d} {lent = l}) l_h l_g e f =
        refused-step d l l_h l_g (Whole (new_depth d l)) (depth_stops s d (length (take l H))) (depth_stops t d (length (take l G))) (λ z. depth_same d l l_h l_g (z refl)) e f

    -- a change of depth that both accept: the count begins anew
    change_step : {c d : Call} → SameCall c d → lent c ≤ length H → lent c ≤ length G → changes this c ≡ true → changes that d ≡ true
        → Step (Whole c) (depth_on (chain_of (call c this).gives.station)) (call c this) (call d that)
    unfolding call after depth_reply
    change_step (frames same curves) l_h l_g e f = false_true e
    change_step resets l_h l_g e f = false_true e
    change_step switches_to l_h l_g e f = false_true e
    change_step asks l_h l_g e f = false_true e
    change_step commits l_h l_g e f = false_true e
    change_step steps l_h l_g e f = false_true e
    change_step (new-depths {d} {lent = l}) l_h l_g e f =
        renew_step d l l_h l_g (Whole (new_depth d l)) (depth_stops s d (length (take l H))) (depth_stops t d (length (take l G))) refl e f
        (call_fit (new_depth d l) this fit_s) (call_fit (new_depth d l) that fit_t)

    -- or, where nothing was due, nothing is
    keep-step : {c d : Call} → SameCall c d → lent c ≤ length H → lent c ≤ length G → changes this c ≡ true → changes that d ≡ true → k ≡ 0
        → Step (Whole c) 0 (call c this) (call d that)
    unfolding call depth_reply
    keep-step (frames same curves) l_h l_g e f z = false_true e
    keep-step resets l_h l_g e f z = false_true e
    keep-step switches_to l_h l_g e f z = false_true e
    keep-step asks l_h l_g e f z = false_true e
    keep-step commits l_h l_g e f z = false_true e
    keep-step steps l_h l_g e f z = false_true e
    keep-step (new-depths {d} {lent = l}) l_h l_g e f z =
        kept_step d l l_h l_g (Whole (new_depth d l)) (depth_stops s d (length (take l H))) (depth_stops t d (length (take l G))) refl e f z

    -- where nothing is due, both accept it or none
    changes_same : {c d : Call} → SameCall c d → lent c ≤ length H → lent c ≤ length G → k ≡ 0 → changes this c ≡ changes that d
    unfolding call depth_reply unless
    changes_same (frames same curves) l_h l_g z = refl
    changes_same resets l_h l_g z = refl
    changes_same switches_to l_h l_g z = refl
    changes_same asks l_h l_g z = refl
    changes_same commits l_h l_g z = refl
    changes_same steps l_h l_g z = refl
    changes_same (new-depths {d} {lent = l}) l_h l_g z = told _ _ (depth_same d l l_h l_g z)
      where
        ok_same : (n : ℕ) → ok (this-depth d l l_h l_g n).answer ≡ ok (that-depth d l l_h l_g n).answer
        ok_same zero = refl
        ok_same (suc n) = refl

        told : (n n' : ℕ) → n ≡ n' → ok (this-depth d l l_h l_g n).answer ≡ ok (that-depth d l l_h l_g n').answer
        told n n' e = ok_same n ∙ ap (λ (i : ℕ). ok (that-depth d l l_h l_g i).answer) e

    module _
        {c d : Call} (same_call : SameCall c d) (l_h : lent c ≤ length H) (l_g : lent c ≤ length G) (kept : changes this c ≡ false) (kept' : changes that d ≡ false)
      where
        now : Step (Whole c) (cond (takes this c) (k - 1) k) (call c this) (call d that)
        now = call_step same_call l_h l_g kept kept'

        -- both switch the last persistence off, or none
        off_same : switches_off this c ≡ switches_off that d
        unfolding after
        off_same = λ i. now.accepted i && (links_on ls i && not (links_on now.links i))

        -- and then nothing is due
        off_ended : switches_off this c ≡ true
            → Links (call c this).history (call d that).history 0 0 0 (chain_of (call c this).gives.station) (chain_of (call d that).gives.station)
        unfolding after
        off_ended z = links_off (not-true _ (both (persists rs) _ (both (ok (call c this).gives.answer) _ z).1).1) now.links

    ends_same : {c d : Call} → SameCall c d → lent c ≤ length H → lent c ≤ length G → ends this c ≡ ends that d
    ends_same (frames e f) l_h l_g = refl
    ends_same resets l_h l_g = refl
    ends_same switches_to l_h l_g = off_same switches_to l_h l_g refl refl
    ends_same asks l_h l_g = refl
    ends_same commits l_h l_g = off_same commits l_h l_g refl refl
    ends_same steps l_h l_g = refl
    ends_same new-depths l_h l_g = refl

    takes_same : {c d : Call} → SameCall c d → lent c ≤ length H → lent c ≤ length G → takes this c ≡ takes that d
    takes_same (frames e f) l_h l_g = ap₂ (λ (a b : Bool). a && b) (links_on ls) (now (frames e f) l_h l_g refl refl).accepted
    takes_same resets l_h l_g = refl
    takes_same switches_to l_h l_g = refl
    takes_same asks l_h l_g = refl
    takes_same commits l_h l_g = refl
    takes_same steps l_h l_g = refl
    takes_same new-depths l_h l_g = refl

    -- after a reset nothing is due: it is refused only where no persistence is there
    reset_ended : (n : ℕ) → lacks s 4 ≡ n
        → Links H G 0 0 0 (chain_of (unless n (refusing s) (reply (acceptance []) (rechain (forget rs) s))).station)
        (chain_of (unless n (refusing t) (reply (acceptance []) (rechain (forget qs) t))).station)
    unfolding unless lacks
    reset_ended zero e = forgotten
    reset_ended (suc n) e = links_off (none_on rs (absent (among 4 (kinds rs)) (rw fit_s.sound at e))) ls
      where
        absent : (b : Bool) → cond b 0 12 ≡ suc n → b ≡ false
        absent true y = absurd (omega arith)
        absent false y = refl

    -- a reset or a switching-off leaves nothing due
    ended : {c d : Call} → SameCall c d → lent c ≤ length H → lent c ≤ length G → ends this c ≡ true
        → Links (call c this).history (call d that).history 0 0 0 (chain_of (call c this).gives.station) (chain_of (call d that).gives.station)
    unfolding call
    ended (frames e f) l_h l_g z = false_true z
    ended resets l_h l_g z =
        subst (λ (n : ℕ).
        Links H G 0 0 0 (chain_of (unless (lacks s 4) (refusing s) (reply (acceptance []) (rechain (forget rs) s))).station)
        (chain_of (unless n (refusing t) (reply (acceptance []) (rechain (forget qs) t))).station)) (lacks_same 4) (reset_ended (lacks s 4) refl)
    ended switches_to l_h l_g z = off_ended switches_to l_h l_g refl refl z
    ended asks l_h l_g z = false_true z
    ended commits l_h l_g z = off_ended commits l_h l_g refl refl z
    ended steps l_h l_g z = false_true z
    ended new-depths l_h l_g z = false_true z

-- ## Stations that meet

pub record Meet (k : ℕ) (s t : State) : Type 0 where
  pub fit_s : Fit s.station
  pub fit_t : Fit t.station
  pub links : Links s.history t.history k 0 0 (chain_of s.station) (chain_of t.station)
  pub same : fixed s.station ≡ fixed t.station
  pub asked : s.station.pending ≡ t.station.pending

-- while nothing is due they are one
pub meet_one : {s t : State} → Meet 0 s t → s.station ≡ t.station
meet_one {s} {t} m = one s.station t.station s.history t.history m.fit_s m.fit_t 0 m.links m.same m.asked refl

abbrev Whole-of : ℕ → Call → State → Type 0
Whole-of k c s = ends s c ≡ false → k ≡ 0

-- what a shared call makes of two that meet
pub record Shared (k : ℕ) (c d : Call) (s t : State) : Type 0 where
  pub steps_to : changes s c ≡ false → changes t d ≡ false → Step (Whole-of k c s) (cond (takes s c) (k - 1) k) (call c s) (call d t)
  pub renews : changes s c ≡ true → changes t d ≡ true → Step (Whole-of k c s) (depth_on (chain_of (call c s).gives.station)) (call c s) (call d t)
  pub keeps : changes s c ≡ true → changes t d ≡ true → k ≡ 0 → Step (Whole-of k c s) 0 (call c s) (call d t)
  pub same_changes : k ≡ 0 → changes s c ≡ changes t d
  pub same_ends : ends s c ≡ ends t d
  pub same_takes : takes s c ≡ takes t d
  pub ends_all : ends s c ≡ true → Links (call c s).history (call d t).history 0 0 0 (chain_of (call c s).gives.station) (chain_of (call d t).gives.station)

module _ {k : ℕ} {s t : State} (m : Meet k s t) (c d : Call) where
  pub shared : SameCall c d → lent c ≤ length s.history → lent c ≤ length t.history → Shared k c d s t
  shared same l_h l_g =
      let a = s.station in
      let b = t.station in
      let H = s.history in
      let G = t.history in
      record {
        steps_to = call_step a b H G m.fit_s m.fit_t k m.links m.same m.asked same l_h l_g;
        renews = change_step a b H G m.fit_s m.fit_t k m.links m.same m.asked same l_h l_g;
        keeps = keep-step a b H G m.fit_s m.fit_t k m.links m.same m.asked same l_h l_g;
        same_changes = changes_same a b H G m.fit_s m.fit_t k m.links m.same m.asked same l_h l_g;
        same_ends = ends_same a b H G m.fit_s m.fit_t k m.links m.same m.asked same l_h l_g;
        same_takes = takes_same a b H G m.fit_s m.fit_t k m.links m.same m.asked same l_h l_g;
        ends_all = ended a b H G m.fit_s m.fit_t k m.links m.same m.asked same l_h l_g;
      }

  -- what a call leaves, by what is due then
  pub meet_after : (j : ℕ) → Links (call c s).history (call d t).history j 0 0 (chain_of (call c s).gives.station) (chain_of (call d t).gives.station)
      → (call c s).gives.station.pending ≡ (call d t).gives.station.pending → Meet j (after c s) (after d t)
  unfolding after
  meet_after j links asked =
      record {
        fit_s = call_fit c s m.fit_s;
        fit_t = call_fit d t m.fit_t;
        links = links;
        same = (call-after c s m.fit_s).same ∙ m.same ∙ sym (call-after d t m.fit_t).same;
        asked = asked;
      }

-- what is seen of a call after which nothing is due
pub gives_same : {A : Type 0} {j : ℕ} (s t : State) (c d : Call) → Step A j (call c s) (call d t) → A → Meet 0 (after c s) (after d t)
    → (call c s).gives ≡ (call d t).gives
unfolding after
gives_same s t c d k all m = λ i. seen (k.answers all i) (meet_one m i) (k.pictures all i)

-- each call lends words of the own buffer that the one before it left
pub lends_after : (c : Call) (s : State) (cs : List Call) → Lends (length s.history) cs → Lends (length (after c s).history) cs
lends_after c s cs = subst (λ (n : ℕ). Lends n cs) (sym (call_length c s))
