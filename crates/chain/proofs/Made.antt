-- Demand 3: calls that were made gave what the plain machine gives, and two such machines agree. Assumes nothing.
use Prim.Native.Nat.{ℕ, ◌*◌}
use mathlib.Core.Path.{◌≡◌, refl, ap, ap₂, sym, subst, subst₂, ◌∙◌}
use mathlib.Core.List.{List, ◌∷◌}
use lib.ListN.{length, drop}
use Rattle.chain.specs.Agree.{opened, Same, Lends, point, Comparable, Made, begin, by_apply, by_reset, by-set_enabled, by_ask, by_commit, by_cycle_lut, by-set-depth}
use Rattle.chain.specs.Agree.{Made-is, Demand-3}
use Rattle.chain.specs.Answers.{reported_frame, called, called_with, cycled}
use Rattle.chain.specs.Calls.{framed}
use Rattle.cards.specs.Card.{accepted, open_of}
use Rattle.cards.specs.Written.{card_of}
use Rattle.chain.specs.Machine.{Call, State, Seen, Done, lend, still, call, after, run, saw}
use Rattle.cards.specs.declared.station.Station.{Station}
use Rattle.chain.proofs.Agreement.{machines_agree}
use Rattle.chain.proofs.Never.{No-13, never_13}

-- what was given and left is the machine's
record Is (s : State) (cs : List Call) (gave : List Seen) (t : State) : Type 0 where
  given : gave ≡ saw s cs
  left : t ≡ run s cs

abbrev left_by : Done → State
left_by d = record { station = d.gives.station; history = d.history }

-- a call that gave d, and those after it
one_more : {s t : State} {c : Call} {cs : List Call} {gave : List Seen} (d : Done) → d ≡ call c s → Is (left_by d) cs gave t → Is s (c ∷ cs) (d.gives ∷ gave) t
unfolding saw run after
one_more {s} {t} {c} {cs} {gave} d e r =
    let l : left_by d ≡ left_by (call c s) = ap left_by e in
    record {
      given = ap₂ (λ (x : Seen) (xs : List Seen). x ∷ xs) (ap (λ (x : Done). x.gives) e) (r.given ∙ ap (λ (u : State). saw u cs) l);
      left = r.left ∙ ap (λ (u : State). run u cs) l;
    }

is_machine : {s t : State} {cs : List Call} {gave : List Seen} → Made s cs gave t → Is s cs gave t
unfolding call saw run
is_machine begin = record { given = refl; left = refl }
is_machine (by_apply {s = s} {w = w} {h = h} {history = history} {words' = words'} {past' = past'} r u a rest) =
    let lending = lend (h * w) history s.history in
    one_more (lending (framed (reported_frame r) u words' past')) (ap lending a.replies) (is_machine rest)
is_machine (by_reset {s = s} r u e rest) = one_more (still s.history (called r u)) (ap (still s.history) e) (is_machine rest)
is_machine (by-set_enabled {s = s} r u e rest) = one_more (still s.history (called r u)) (ap (still s.history) e) (is_machine rest)
is_machine (by_ask {s = s} r u e rest) = one_more (still s.history (called r u)) (ap (still s.history) e) (is_machine rest)
is_machine (by_commit {s = s} r u e rest) = one_more (still s.history (called r u)) (ap (still s.history) e) (is_machine rest)
is_machine (by_cycle_lut {s = s} r u e rest) = one_more (still s.history (cycled r u)) (ap (still s.history) e) (is_machine rest)
is_machine (by-set-depth {s = s} {history = history} {past' = past'} r u e rest) =
    one_more (lend 0 history s.history (called_with r u past')) (ap (lend 0 history s.history) e) (is_machine rest)

pub made-is : Made-is
made-is s t cs gave m = ((is_machine m).given, (is_machine m).left)

-- the agreement of the machines, of what was given
agreement : (card other : List ℕ) (a b : Station) → open_of card ≡ accepted a → open_of other ≡ accepted b → card_of a ≡ card_of b
    → (H G : List ℕ) (own own' : List Call) (s t : State) → s ≡ run (opened a H) own → t ≡ run (opened b G) own'
    → (cs ds : List Call) (gave gave' : List Seen) → gave ≡ saw s cs → gave' ≡ saw t ds
    → Comparable s.station t.station → Same cs ds → Lends (length H) cs → Lends (length G) cs
    → (point s t cs ds ≡ point t s ds cs) × (drop (point s t cs ds) gave ≡ drop (point s t cs ds) gave')
agreement card other a b opens opens' alike H G own own' s t es et cs ds gave gave' eg eg' =
    subst₂ (λ (x y : State). gave ≡ saw x cs → gave' ≡ saw y ds → Comparable x.station y.station → Same cs ds → Lends (length H) cs → Lends (length G) cs
    → (point x y cs ds ≡ point y x ds cs) × (drop (point x y cs ds) gave ≡ drop (point x y cs ds) gave'))
    (sym es) (sym et)
    (λ e e' comparable same l_h l_g.
    let n = point (run (opened a H) own) (run (opened b G) own') cs ds in
    let d = machines_agree card other a b opens opens' alike H G own own' comparable cs ds same l_h l_g in
    (d.0, ap (drop n) e ∙ d.1 ∙ sym (ap (drop n) e')))
    eg eg'

pub demand_3 : Demand-3
demand_3 card other a b opens opens' alike H G own own' past past' s t ms mt cs ds gave gave' u v mu mv =
    let is = made-is (opened a H) s own past ms in
    let it = made-is (opened b G) t own' past' mt in
    let iu = made-is s u cs gave mu in
    let iv = made-is t v ds gave' mv in
    ((is, it, iu, iv), agreement card other a b opens opens' alike H G own own' s t is.1 it.1 cs ds gave gave' iu.0 iv.0)

-- refusal 13 never comes
pub never_13_made : (card : List ℕ) (a : Station) → open_of card ≡ accepted a → (H : List ℕ) (own cs : List Call) (past gave : List Seen) (s u : State)
    → Made (opened a H) own past s → Made s cs gave u → No-13 past × No-13 gave
never_13_made card a opens H own cs past gave s u ms mu =
    let none = never_13 card a opens H own cs in (
      subst No-13 (sym (is_machine ms).given) none.0,
      subst No-13 (sym ((is_machine mu).given ∙ ap (λ (x : State). saw x cs) (is_machine ms).left)) none.1,
    )
