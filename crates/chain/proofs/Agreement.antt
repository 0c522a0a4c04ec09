-- Demand 3, by induction over the shared list: first the list from the point on, where nothing is due, then the list up to it, where one frame less is due
-- with each that is taken, and all are again after a change of depth; and comparable stations differ in what they hold alone. Assumes nothing.
use Prim.Native.Nat.{ℕ, suc, ◌-◌}
use native.Mathlib.Omega.{arith}
use mathlib.Core.Path.{◌≡◌, refl, ap, ap₂, sym, subst, ◌∙◌}
use mathlib.Core.Bool.{Bool, true, false, ◌||◌, cond, beq}
use mathlib.Core.List.{List, [], ◌∷◌, map}
use borrow.Author.Tests.{eqb-true}
use lib.Dec.{eqb}
use lib.ListN.{length, drop, drop_of_length-le}
use Rattle.num.specs.Held.{nothing}
use Rattle.chain.specs.Agree.{opened, Same, none, more, Lends}
use Rattle.chain.specs.Agree.{on, takes, ends, changes, due, before, point, Machines-agree}
use Rattle.cards.specs.Alike.{chain_of}
use Rattle.chain.specs.Calls.{presets, forget}
use Rattle.chain.specs.Chain.{depth_on, depths}
use Rattle.chain.specs.Machine.{Call, frame, reset, switch, ask, commit, step, new_depth, State, Seen, call, after, run, saw}
use Rattle.cards.specs.declared.station.Record.{Record}
use Rattle.num.specs.Laws.Bools.{false_true}
use Rattle.chain.proofs.Changed.{shapes}
use Rattle.chain.proofs.Linked.{links_on, links_depth-on, links_off}
use Rattle.chain.proofs.Meets.{Step, Meet, Shared, shared, started, meet_after, gives_same, lends_after}
use Rattle.chain.proofs.PassCases.{same_pass}
use Rattle.chain.proofs.Fit.{Fixed, fixed, Fit, opened_fit}
use Rattle.chain.proofs.Sound.{run_fit, run-fixed}
use Rattle.chain.proofs.OwnBuffer.{run_length}
use Rattle.cards.proofs.Theorems.{written_alike}

-- ## The list from the point on

-- where nothing is due, nothing is after a frame that is taken
zeroed : {A : Type 0} {x y : _} (b : Bool) → Step A (cond b (0 - 1) 0) x y → Step A 0 x y
zeroed true k = k
zeroed false k = k

saw_agree : {cs ds : List Call} → Same cs ds → (s t : State) → Meet 0 s t → Lends (length s.history) cs → Lends (length t.history) cs
    → saw s cs ≡ saw t ds
unfolding saw
saw_agree none s t m l_h l_g = refl
saw_agree (more {c = c} {d = d} {cs = cs} {ds = ds} same rest) s t m l_h l_g =
    go (changes s c) refl (λ next. saw_agree rest (after c s) (after d t) next (lends_after c s cs l_h.1) (lends_after d t cs l_g.1))
  where
    both : Shared 0 c d s t
    both = shared m c d same l_h.0 l_g.0

    seen_same : {A : Type 0} → A → Step A 0 (call c s) (call d t) → (Meet 0 (after c s) (after d t) → saw (after c s) cs ≡ saw (after d t) ds)
        → saw s (c ∷ cs) ≡ saw t (d ∷ ds)
    seen_same all k ih =
        let next = meet_after m c d 0 k.links k.asked in
        ap₂ (λ (x : Seen) (xs : List Seen). x ∷ xs) (gives_same s t c d k all next) (ih next)

    go : (b : Bool) → changes s c ≡ b → (Meet 0 (after c s) (after d t) → saw (after c s) cs ≡ saw (after d t) ds) → saw s (c ∷ cs) ≡ saw t (d ∷ ds)
    go true e ih = seen_same (λ z. refl) (both.keeps e (sym (both.same_changes refl) ∙ e) refl) ih
    go false e ih = seen_same (λ z. refl) (zeroed (takes s c) (both.steps_to e (sym (both.same_changes refl) ∙ e))) ih

-- ## The list up to the point

beq_refl : (b : Bool) → beq b b ≡ true
beq_refl true = refl
beq_refl false = refl

module _ (k : ℕ) (s t : State) (c d : Call) (cs ds : List Call) where
  before-now : eqb k 0 || ends s c ≡ true → before k s t (c ∷ cs) (d ∷ ds) ≡ 0
  unfolding before
  before-now e = rw e

  before_more : eqb k 0 || ends s c ≡ false → changes s c ≡ changes t d
      → before k s t (c ∷ cs) (d ∷ ds) ≡ suc (before (due k s c) (after c s) (after d t) cs ds)
  unfolding before
  before_more e f = rw (e, f, beq_refl (changes t d))

  -- one of them accepts a change of depth
  before_all : eqb k 0 || ends s c ≡ false → beq (changes s c) (changes t d) ≡ false → before k s t (c ∷ cs) (d ∷ ds) ≡ suc (length cs)
  unfolding before
  before_all e f = rw (e, f)

saw_long : (s : State) (cs : List Call) → length (saw s cs) ≡ length cs
unfolding saw
saw_long s [] = refl
saw_long s (c ∷ cs) = ap suc (saw_long (after c s) cs)

same_long : {cs ds : List Call} → Same cs ds → length cs ≡ length ds
same_long none = refl
same_long (more same rest) = ap suc (same_long rest)

-- what brings agreement is no change of depth
ends-kept : (s : State) (c : Call) → ends s c ≡ true → changes s c ≡ false
ends-kept s (frame w h words l m i curve) e = refl
ends-kept s reset e = refl
ends-kept s (switch kind position) e = refl
ends-kept s (ask kind position) e = refl
ends-kept s commit e = refl
ends-kept s step e = refl
ends-kept s (new_depth d l) e = false_true e

-- one point for both, and agreement from there on
abbrev Agree-from : ℕ → ℕ → (s t : State) → (cs ds : List Call) → Type 0
Agree-from m n s t cs ds = (m ≡ n) × (drop m (saw s cs) ≡ drop m (saw t ds))

-- while k frames have still to be taken
abbrev Agree-after : ℕ → (s t : State) → (cs ds : List Call) → Type 0
Agree-after k s t cs ds = Agree-from (before k s t cs ds) (before k t s ds cs) s t cs ds

abbrev Ahead : (cs ds : List Call) → Type 0
Ahead cs ds = (k : ℕ) (s t : State) → Meet k s t → Lends (length s.history) cs → Lends (length t.history) cs → Agree-after k s t cs ds

ahead : {cs ds : List Call} → Same cs ds → Ahead cs ds
unfolding saw before after
ahead none k s t m l_h l_g = (refl, refl)
ahead (more {c = c} {d = d} {cs = cs} {ds = ds} same rest) k s t m l_h l_g = go (eqb k 0) refl (ends s c) refl (λ k s t. ahead rest k s t)
  where
    both : Shared k c d s t
    both = shared m c d same l_h.0 l_g.0

    tail_s : Lends (length (after c s).history) cs
    tail_s = lends_after c s cs l_h.1

    tail_t : Lends (length (after d t).history) cs
    tail_t = lends_after d t cs l_g.1

    -- this call agrees
    now : eqb k 0 || ends s c ≡ true → saw s (c ∷ cs) ≡ saw t (d ∷ ds) → Agree-after k s t (c ∷ cs) (d ∷ ds)
    now z r =
        let u = before-now k s t c d cs ds z in
        (u ∙ sym (before-now k t s d c ds cs (rw both.same_ends at z)), rw u r)

    -- no call agrees
    never : eqb k 0 || ends s c ≡ false → beq (changes s c) (changes t d) ≡ false → beq (changes t d) (changes s c) ≡ false
        → Agree-after k s t (c ∷ cs) (d ∷ ds)
    never z f g =
        let u = before_all k s t c d cs ds z f in
        let v = before_all k t s d c ds cs (rw both.same_ends at z) g in
        let end : (w : State) (es : List Call) → length cs ≡ length es → drop (length cs) (saw w es) ≡ [] =
        λ w es l. drop_of_length-le (saw w es) {i = length cs} (omega (arith, saw_long w es)) in
        (u ∙ ap suc (same_long rest) ∙ sym v, rw u (end (after c s) cs refl ∙ sym (end (after d t) ds (same_long rest))))

    -- the calls after this one agree from their point on
    later : eqb k 0 || ends s c ≡ false → changes s c ≡ changes t d → (n : ℕ) → due k s c ≡ n → due k t d ≡ n
        → Agree-after n (after c s) (after d t) cs ds → Agree-after k s t (c ∷ cs) (d ∷ ds)
    later z f n e e' r =
        let u = before_more k s t c d cs ds z f ∙ ap (λ (i : ℕ). suc (before i (after c s) (after d t) cs ds)) e in
        let v = before_more k t s d c ds cs (rw both.same_ends at z) (sym f) ∙ ap (λ (i : ℕ). suc (before i (after d t) (after c s) ds cs)) e' in
        (u ∙ ap suc r.0 ∙ sym v, rw u r.1)

    -- a change of depth, by none, by one and by both
    by_change : eqb k 0 ≡ false → ends s c ≡ false → Ahead cs ds → (x y : Bool) → changes s c ≡ x → changes t d ≡ y → Agree-after k s t (c ∷ cs) (d ∷ ds)
    by_change a f ih true false p q = never (rw (a, f)) (rw (p, q)) (rw (p, q))
    by_change a f ih false true p q = never (rw (a, f)) (rw (p, q)) (rw (p, q))
    by_change a f ih true true p q =
        let k = both.renews p q in
        let n = depth_on (chain_of (call c s).gives.station) in
        later (rw (a, f)) (p ∙ sym q) n (rw p) (rw q (sym (links_depth-on k.links))) (ih n (after c s) (after d t) (meet_after m c d n k.links k.asked) tail_s tail_t)
    by_change a f ih false false p q =
        let x = both.steps_to p q in
        let n = cond (takes s c) (k - 1) k in
        later (rw (a, f)) (p ∙ sym q) n (rw p) (rw q (ap (λ (b : Bool). cond b (k - 1) k) (sym both.same_takes)))
        (ih n (after c s) (after d t) (meet_after m c d n x.links x.asked) tail_s tail_t)

    go : (a : Bool) → eqb k 0 ≡ a → (b : Bool) → ends s c ≡ b → Ahead cs ds → Agree-after k s t (c ∷ cs) (d ∷ ds)
    go true a b f ih = now (rw a) (saw_agree (more same rest) s t (subst (λ (i : ℕ). Meet i s t) (eqb-true k 0 a) m) l_h l_g)
    go false a true f ih =
        let x = both.steps_to (ends-kept s c f) (ends-kept t d (sym both.same_ends ∙ f)) in
        let next = meet_after m c d 0 (both.ends_all f) x.asked in
        now (rw (a, f))
        (ap₂ (λ (y : Seen) (ys : List Seen). y ∷ ys) (gives_same s t c d x (λ y. false_true (sym y ∙ f)) next)
        (saw_agree rest (after c s) (after d t) next tail_s tail_t))
    go false a false f ih = by_change a f ih (changes s c) (changes t d) refl refl

-- from two stations that differ in what they hold alone
from-here : (s t : State) → forget (chain_of s.station) ≡ forget (chain_of t.station) → fixed s.station ≡ fixed t.station
    → s.station.pending ≡ t.station.pending → Fit s.station → Fit t.station
    → (cs ds : List Call) → Same cs ds → Lends (length s.history) cs → Lends (length t.history) cs
    → Agree-from (point s t cs ds) (point t s ds cs) s t cs ds
unfolding point
from-here s t alike fix asked f g cs ds same l_h l_g = go (on s) refl
  where
    meet : Meet (depth_on (chain_of s.station)) s t
    meet = record { fit_s = f; fit_t = g; links = started s.history t.history s.station t.station f g alike; same = fix; asked = asked }

    away : (b : Bool) → on s ≡ b → cond b (before (depth_on (chain_of s.station)) t s ds cs) 0 ≡ point t s ds cs
    away b o =
        ap (λ (k : ℕ). cond b (before k t s ds cs) 0) (links_depth-on meet.links)
        ∙ ap (λ (c : Bool). cond c (before (depth_on (chain_of t.station)) t s ds cs) 0) (sym o ∙ links_on meet.links)

    go : (b : Bool) → on s ≡ b → Agree-from (cond b (before (depth_on (chain_of s.station)) s t cs ds) 0) (point t s ds cs) s t cs ds
    go true o = let r = ahead same (depth_on (chain_of s.station)) s t meet l_h l_g in (r.0 ∙ away true o, r.1)
    go false o =
        let idle : Meet 0 s t = record { fit_s = f; fit_t = g; links = links_off o meet.links; same = fix; asked = asked } in
        (away false o, saw_agree same s t idle l_h l_g)

-- ## Comparable stations

rebuild : (rs qs : List Record) → shapes rs ≡ shapes qs → map (λ r. r.on) rs ≡ map (λ r. r.on) qs → presets rs ≡ presets qs → depths rs ≡ depths qs
    → forget rs ≡ forget qs
unfolding presets
rebuild [] [] e f g h = refl
rebuild [] (q ∷ qs) e f g h = cc
rebuild (r ∷ rs) [] e f g h = cc
rebuild (r ∷ rs) (q ∷ qs) e f g h =
    let d = same_pass r.pass q.pass (presets rs) (presets qs) (cc) g (cc) in
    let o : r.on ≡ q.on = cc in
    let l : forget rs ≡ forget qs = rebuild rs qs (cc) (cc) d.1 (cc) in
    λ i. record { on = o i; pass = d.0 i; held = nothing } ∷ l i

-- ## Demand 3

pub machines_agree : Machines-agree
machines_agree card other a b opens opens' alike H G own own' comparable cs ds same l_h l_g =
    let first : a ≡ b = (written_alike card other a b opens opens').0.0 alike in
    let f = opened_fit card a opens in
    let g = opened_fit other b opens' in
    let s = run (opened a H) own in
    let t = run (opened b G) own' in
    let fix : fixed s.station ≡ fixed t.station = run-fixed (opened a H) own f ∙ ap fixed first ∙ sym (run-fixed (opened b G) own' g) in
    from-here s t
    (rebuild (chain_of s.station) (chain_of t.station) (ap (λ (x : Fixed). x.0) fix) comparable.same_switches comparable.same_presets
    comparable.same_depths)
    fix comparable.same_pending (run_fit (opened a H) own f) (run_fit (opened b G) own' g) cs ds same
    (subst (λ (n : ℕ). Lends n cs) (sym (run_length (opened a H) own)) l_h) (subst (λ (n : ℕ). Lends n cs) (sym (run_length (opened b G) own')) l_g)
