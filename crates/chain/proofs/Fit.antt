-- A good station with places for its records, and what a call may leave of it: its records change in nothing but switches, preset and
-- depth, its places past n not at all. Each way in which a call changes a station keeps to that. Assumes nothing.
use Prim.Native.Nat.{ℕ}
use mathlib.Core.Path.{◌≡◌, refl, ap, ap₂, sym, ◌∙◌}
use mathlib.Core.Bool.{Bool, true, false, ◌&&◌, ◌||◌, cond}
use mathlib.Core.List.{List, [], ◌∷◌, map}
use mathlib.Core.Logic.{◌⊎◌, inl, inr}
use lib.ListN.{length, drop, length-map}
use lib.Seq.{take_at, drop_at}
use Rattle.num.specs.Held.{Held, nothing, same_held, fine_held}
use Rattle.num.specs.Laws.Held.{same_held_lem}
use Rattle.cards.specs.Alike.{chain_of}
use Rattle.chain.specs.Calls.{rechain, pend}
use Rattle.chain.specs.Calls.{on_first, forget, with_switch, switched, committed, stepped, step_lut, redepth}
use Rattle.cards.specs.Card.{accepted, open_of}
use Rattle.cards.specs.Normal.{counted, normal_chain, glows, held_by, may_hold, holding, askable, good_station}
use Rattle.cards.specs.Passes.{kind_of}
use Rattle.cards.specs.Records.{among}
use Rattle.cards.specs.declared.station.Pass.{Pass}
use Rattle.cards.specs.declared.station.Pending.{Pending}
use Rattle.cards.specs.declared.station.Pending.TheVariants.{Nothing, Switch}
use Rattle.cards.specs.declared.station.Record.{Record}
use Rattle.cards.specs.declared.station.Station.{Station}
use Rattle.num.specs.Laws.Bools.{both, false_true}
use Rattle.chain.proofs.Changed.{shapes, kinds_are, Gentle, with_switch_gentle, stepped_gentle, first-shapes, first_normal}
use Rattle.chain.proofs.Changed.{first-holding, stepped-holds, switch_holds, forget-holding, passes, passes-shapes, passes_normal, forget-passes}
use Rattle.chain.proofs.Changed.{redepth-shapes, redepth_normal, redepth-holding}
use Rattle.cards.specs.Laws.Good.{Good, good, is_good, nothing-fine}
use Rattle.chain.proofs.PassCases.{blank}
use Rattle.cards.proofs.OpensGood.{opens_good}

-- the passes of a station but for preset and depth, their number, and the places past it
abbrev pub Fixed : Type 0
Fixed = List Pass × ℕ × List Record

abbrev pub fixed : Station → Fixed
fixed s = (shapes (chain_of s), s.n, drop s.n s.records)

-- a good station with places for its n records
pub record Fit (s : Station) : Type 0 where
  pub sound : good_station s ≡ true
  pub room : length (chain_of s) ≡ s.n

-- what a call leaves of the station s
pub record After (s t : Station) : Type 0 where
  pub sound : good_station t ≡ true
  pub same : fixed t ≡ fixed s

pub same_long : (rs qs : List Record) → shapes rs ≡ shapes qs → length rs ≡ length qs
same_long rs qs e = sym (length-map rs (λ r. blank r.pass)) ∙ ap length e ∙ length-map qs (λ r. blank r.pass)

pub after_fit : (s t : Station) → Fit s → After s t → Fit t
after_fit s t f a =
    let number : t.n ≡ s.n = ap (λ (x : Fixed). x.1) a.same in
    record { sound = a.sound; room = same_long (chain_of t) (chain_of s) (ap (λ (x : Fixed). x.0) a.same) ∙ f.room ∙ sym number }

pub after_itself : (s : Station) → Fit s → After s s
after_itself s f = record { sound = f.sound; same = refl }

after_then : {s t u : Station} → After s t → After t u → After s u
after_then a b = record { sound = b.sound; same = b.same ∙ a.same }

-- the kinds of a chain decide what may be asked of it
same_asks : (q : Pending) (rs qs : List Record) → shapes rs ≡ shapes qs → askable q rs ≡ askable q qs
same_asks Nothing rs qs e = refl
same_asks (Switch kind on) rs qs e = ap (among kind) (sym (kinds_are rs) ∙ ap (map kind_of) e ∙ kinds_are qs)

-- ## What records may hold

-- where each holds nothing or frames of one size, the chain remembers nothing, or that
held_by_lem : (size : Held) (rs : List Record) → holding size rs ≡ true → (held_by rs ≡ nothing) ⊎ (held_by rs ≡ size)
unfolding holding held_by
held_by_lem size [] e = inl refl
held_by_lem size (r ∷ rs) e =
    let d = both (may_hold size r) (holding size rs) e in
    go (same_held r.held nothing) refl d.0 (held_by_lem size rs d.1)
  where
    go : (b : Bool) → same_held r.held nothing ≡ b → b || (same_held r.held size && glows r) ≡ true → (held_by rs ≡ nothing) ⊎ (held_by rs ≡ size)
        → (cond b (held_by rs) r.held ≡ nothing) ⊎ (cond b (held_by rs) r.held ≡ size)
    go true z e ih = ih
    go false z e ih = inr (same_held_lem r.held size (both (same_held r.held size) (glows r) e).0)

-- where it remembers nothing, no record holds anything
held_none : (rs : List Record) → held_by rs ≡ nothing → holding nothing rs ≡ true
unfolding holding held_by same_held
held_none [] e = refl
held_none (r ∷ rs) e = go (same_held r.held nothing) refl e (held_none rs)
  where
    go : (b : Bool) → same_held r.held nothing ≡ b → cond b (held_by rs) r.held ≡ nothing → (held_by rs ≡ nothing → holding nothing rs ≡ true)
        → (may_hold nothing r && holding nothing rs) ≡ true
    go true z e ih = rw (z, ih e)
    go false z e ih = false_true (sym z ∙ ap (λ (h : Held). same_held h nothing) e)

-- so 13 is not told of a chain each of whose records holds nothing or frames of one fine size
one_size : (size : Held) (rs : List Record) → fine_held size ≡ true → holding size rs ≡ true → (fine_held (held_by rs) ≡ true) × (holding (held_by rs) rs ≡ true)
one_size size rs fine e = go (held_by_lem size rs e)
  where
    go : (held_by rs ≡ nothing) ⊎ (held_by rs ≡ size) → (fine_held (held_by rs) ≡ true) × (holding (held_by rs) rs ≡ true)
    go (inl z) = (ap fine_held z ∙ nothing-fine, ap (λ (h : Held). holding h rs) z ∙ held_none rs z)
    go (inr z) = (ap fine_held z ∙ fine, ap (λ (h : Held). holding h rs) z ∙ e)

-- ## A station that is changed

module _ (s : Station) (fit : Fit s) where
  abbrev g : Good s
  g = good s fit.sound

  -- in what is asked of it
  pub after-pend : (q : Pending) → askable q (chain_of s) ≡ true → After s (pend q s)
  after-pend q e = record { sound = is_good (pend q s) (record { few = g.few; normal = g.normal; fine = g.fine; holds = g.holds; asks = e }); same = refl }

  -- in the records of its chain, whose passes stay but for preset and depth
  module _ (rs : List Record) (alike : shapes rs ≡ shapes (chain_of s)) where
    long : length rs ≡ s.n
    long = same_long rs (chain_of s) alike ∙ fit.room

    pub chain-is-rs : chain_of (rechain rs s) ≡ rs
    chain-is-rs = take_at rs (drop s.n s.records) s.n long

    pub after-rechain : normal_chain [] rs ≡ true → (size : Held) → fine_held size ≡ true → holding size rs ≡ true → After s (rechain rs s)
    after-rechain normal size fine holds =
        let held = one_size size rs fine holds in
        record {
          sound =
              is_good (rechain rs s)
              (record {
                few = g.few;
                normal = ap (normal_chain []) chain-is-rs ∙ normal;
                fine = ap (λ (l : List Record). fine_held (held_by l)) chain-is-rs ∙ held.0;
                holds = ap (λ (l : List Record). holding (held_by l) l) chain-is-rs ∙ held.1;
                asks = same_asks s.pending (chain_of (rechain rs s)) (chain_of s) (ap shapes chain-is-rs ∙ alike) ∙ g.asks;
              });
          same =
              ap₂ (λ (l : List Pass) (rest : List Record). (l, s.n, rest)) (ap shapes chain-is-rs ∙ alike)
              (drop_at rs (drop s.n s.records) s.n long);
        }

  -- in what its records hold
  pub after-held : (rs : List Record) → passes rs ≡ passes (chain_of s) → (size : Held) → fine_held size ≡ true → holding size rs ≡ true → After s (rechain rs s)
  after-held rs e size fine holds = after-rechain rs (passes-shapes rs (chain_of s) e) (passes_normal [] rs (chain_of s) e ∙ g.normal) size fine holds

  pub after_reset : After s (rechain (forget (chain_of s)) s)
  after_reset = after-held (forget (chain_of s)) (forget-passes (chain_of s)) nothing nothing-fine (forget-holding nothing (chain_of s))

  -- in the first record of a kind
  after_first : (kind : ℕ) (f : Record → Record) → Gentle f → ((size : Held) (r : Record) → may_hold size r ≡ true → may_hold size (f r) ≡ true)
      → After s (rechain (on_first kind f (chain_of s)) s)
  after_first kind f gentle keeps =
      let size = held_by (chain_of s) in
      after-rechain (on_first kind f (chain_of s)) (first-shapes kind f gentle (chain_of s)) (first_normal kind f gentle [] (chain_of s) g.normal) size g.fine
      (first-holding kind f gentle size (keeps size) (chain_of s) g.holds)

  pub after_switch : (kind : ℕ) (on : Bool) → After s (switched kind on s)
  after_switch kind on = after_first kind (with_switch on) (with_switch_gentle on) (λ size. switch_holds size on)

  pub after-step : After s (rechain (step_lut (chain_of s)) s)
  after-step = after_first 5 stepped stepped_gentle stepped-holds

  pub after-depth : (d : ℕ) → counted 8 d ≡ true → After s (rechain (redepth d (chain_of s)) s)
  after-depth d few =
      let size = held_by (chain_of s) in
      let rs = chain_of s in
      after-rechain (redepth d rs) (redepth-shapes d few rs) (redepth_normal d few [] rs g.normal) size g.fine (redepth-holding d size rs g.holds)

pub after_commit : (s : Station) → Fit s → (q : Pending) → After s (committed q s)
after_commit s f Nothing = after_itself s f
after_commit s f (Switch kind on) =
    let a = after_switch s f kind on in
    after_then a (after-pend (switched kind on s) (after_fit s (switched kind on s) f a) Nothing refl)

-- as a station that is opened
pub opened_fit : (card : List ℕ) (s : Station) → open_of card ≡ accepted s → Fit s
opened_fit card s e = let o = opens_good card s e in record { sound = o.0; room = o.1 }
