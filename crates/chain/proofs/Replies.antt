-- The calls on one pass: a reply by its refusal, what no refusal tells, and the record changed or asked in its place. Assumes nothing.
use Prim.Native.Nat.{ℕ, zero, suc, ◌+◌, ◌*◌, ◌≤◌, ◌<◌}
use native.Mathlib.Omega.{arith}
use mathlib.Core.Path.{◌≡◌, refl, sym, ap, ap₂, subst₂, ◌∙◌}
use mathlib.Core.Bool.{Bool, true, false, not, cond}
use mathlib.Core.List.{List, [], ◌∷◌, ◌++◌}
use borrow.Author.Tests.{eq-eqb, ne_eqb, lt-ltb, le-ltb}
use lib.Dec.{eqb}
use lib.ListN.{length, take, drop, get_or, set}
use Rattle.num.specs.Held.{nothing, area}
use Rattle.num.specs.Refusals.{unless}
use Rattle.num.specs.Laws.Refusals.{accepts}
use Rattle.cards.specs.Alike.{chain_of}
use Rattle.cards.specs.Answers.{refusal, acceptance, Reply, reply, refusing}
use Rattle.chain.specs.Calls.{rechain, pend, lacks, waits, ask_stops, commit_stops, commit_reply, on_first, of_first, with_switch, switched}
use Rattle.chain.specs.Calls.{ask_reply, switch_reply, stepped, stepped_pass, preset_of, presets, step_lut, step_reply}
use Rattle.chain.specs.Calls.{framed, refusing_frame, first_held, first_depth, forget, depth_stops, deep_pass, with_depth, redepth, depth_reply}
use Rattle.chain.specs.Chain.{depth_of}
use Rattle.passes.specs.Plain.Persistence.{resized}
use Rattle.chain.specs.Lent.{Found, put_at}
use Rattle.cards.specs.Normal.{askable, good_station}
use Rattle.cards.specs.Records.{kinds, among}
use Rattle.cards.specs.Settings.{one_at_least}
use Rattle.cards.specs.declared.station.Pass.{Pass}
use Rattle.cards.specs.declared.station.Pending.{Pending}
use Rattle.cards.specs.declared.station.Pending.TheVariants.{Nothing, Switch}
use Rattle.cards.specs.declared.station.Record.{Record}
use Rattle.cards.specs.declared.station.Station.{Station}
use Rattle.chain.proofs.FirstOf.{first-set, first-told, first-redepth, one-preset}
use Rattle.chain.proofs.Forgets.{forgotten_behind}
use Rattle.cards.specs.Laws.Good.{Good, good}
use Rattle.cards.specs.Laws.Scans.{past}

-- no refusal: the station is good, and the kind is there
pub present : (s : Station) (kind : ℕ) → lacks s kind ≡ 0 → Good s × (among kind (kinds (chain_of s)) ≡ true)
unfolding lacks
present s kind e = by (good_station s) (among kind (kinds (chain_of s))) refl refl e
  where
    by : (g a : Bool) → good_station s ≡ g → among kind (kinds (chain_of s)) ≡ a → ◌≡◌ {A = ℕ} (cond (not g) 13 (cond a 0 12)) 0
        → Good s × (among kind (kinds (chain_of s)) ≡ true)
    by true true q t z = (good s q, t)
    by true false q t z = absurd (omega arith)
    by false a q t z = absurd (omega arith)

-- ## A record changed in its place

module _ (kind : ℕ) (s : Station) (i : ℕ) (t : Found kind s i) (none : lacks s kind ≡ 0) where
  abbrev old : Record
  old = get_or s.records i past

  placed : (f : Record → Record) → put_at i (f old) s ≡ rechain (on_first kind f (chain_of s)) s
  placed f = ap (λ (rs : List Record). record { records = rs; n = s.n; pending = s.pending }) (sym (first-set kind s.n f s.records i past t.first t.room))

  -- its switch
  pub switches : (on : Bool) {r : Record} → r ≡ with_switch on old → reply (acceptance []) (put_at i r s) ≡ switch_reply kind on s
  switches on e =
      ap (reply (acceptance [])) (ap (λ (r : Record). put_at i r s) e ∙ placed (with_switch on))
      ∙ accepts (lacks s kind) (refusing s) (reply (acceptance []) (switched kind on s)) refl none

-- ## A switch that is asked for

pub ask_goes : (s : Station) (kind : ℕ) → ask_stops s kind ≡ 0 → lacks s kind ≡ 0
unfolding ask_stops unless
ask_goes s kind = go (lacks s kind)
  where
    go : (k : ℕ) → unless k (λ k. k) (cond (waits s.pending) 17 0) ≡ 0 → k ≡ 0
    go zero e = refl
    go (suc k) e = e

module _ (s : Station) (kind : ℕ) (on : Bool) where
  pub ask_refused : (k : ℕ) → k ≡ lacks s kind → (k ≡ 0 → ⊥) → refusing s k ≡ ask_reply kind on s
  unfolding ask_stops unless
  ask_refused zero e some = absurd (some refl)
  ask_refused (suc k) e some = rw (sym e)

  -- one waits
  pub ask_waits : {k : ℕ} {at : Bool} → 0 ≡ lacks s kind → s.pending ≡ Switch k at → refusing s 17 ≡ ask_reply kind on s
  unfolding ask_stops unless
  ask_waits none e = rw (sym none, e)

  pub asks : 0 ≡ lacks s kind → s.pending ≡ Nothing → reply (acceptance []) (pend (Switch kind on) s) ≡ ask_reply kind on s
  unfolding ask_stops unless
  asks none e = rw (sym none, e)

-- the kind that is asked for is there
pub asked_there : (s : Station) {kind : ℕ} {on : Bool} → good_station s ≡ true → s.pending ≡ Switch kind on → lacks s kind ≡ 0
unfolding lacks
asked_there s {kind} g e = let there = ap (λ (q : Pending). askable q (chain_of s)) (sym e) ∙ (good s g).asks in rw (g, there)

-- the switch that is asked for, made
pub commits : (s : Station) {kind : ℕ} {on : Bool} {r : Reply} → good_station s ≡ true → s.pending ≡ Switch kind on → r ≡ switch_reply kind on s
    → reply r.answer (pend Nothing r.station) ≡ commit_reply s
unfolding commit_stops unless
commits s {kind} {on} g e p =
    ap (λ (r : Reply). reply r.answer (pend Nothing r.station)) (p ∙ sym (accepts (lacks s kind) (refusing s) (reply (acceptance []) (switched kind on s)) refl (asked_there s g e)))
    ∙ rw (g, e)

-- no such switch is refused
pub commits_always : (s : Station) {kind k : ℕ} {on : Bool} {u : Station} → good_station s ≡ true → s.pending ≡ Switch kind on
    → reply (refusal k) u ≡ switch_reply kind on s → ⊥
commits_always s {kind} {k} {on} g e p =
    never (p ∙ sym (accepts (lacks s kind) (refusing s) (reply (acceptance []) (switched kind on s)) refl (asked_there s g e)))
  where
    never : {u v : Station} → reply (refusal k) u ≡ reply (acceptance []) v → ⊥
    never q = let z : refusal k ≡ acceptance [] = ap (λ (r : Reply). r.answer) q in cc

pub none_committed : (s : Station) → good_station s ≡ true → s.pending ≡ Nothing → refusing s 18 ≡ commit_reply s
unfolding commit_stops unless
none_committed s g e = rw (g, e)

pub bad_committed : (s : Station) → good_station s ≡ false → refusing s 13 ≡ commit_reply s
unfolding commit_stops unless
bad_committed s g = rw g

-- what is asked of the record of that kind
pub tells : (kind : ℕ) (s : Station) (i : ℕ) → Found kind s i → lacks s kind ≡ 0 → (f : Record → List ℕ) {ns : List ℕ} → ns ≡ f (get_or s.records i past)
    → acceptance ns ≡ unless (lacks s kind) refusal (acceptance (of_first kind [] f (chain_of s)))
tells kind s i t none f e =
    ap acceptance (e ∙ sym (first-told kind s.n [] f s.records i past t.first t.room))
    ∙ accepts (lacks s kind) refusal (acceptance (of_first kind [] f (chain_of s))) refl none

-- the LUT's preset, which is the only one
pub cycles : (s : Station) (i : ℕ) {pass : Pass} {preset : ℕ} → Found 5 s i → lacks s 5 ≡ 0 →
    let was : Record = get_or s.records i past in
    pass ≡ stepped_pass was.pass → preset_of pass ≡ preset ∷ []
    → reply (acceptance (preset ∷ [])) (put_at i (record { on = was.on; pass = pass; held = was.held }) s) ≡ step_reply s
cycles s i {pass} t none e p =
    let was = get_or s.records i past in
    let one = one-preset [] s.n s.records i past (present s 5 none).0.normal t.first t.room in
    let report = acceptance (presets (step_lut (chain_of s))) in
    ap (λ (ps : List ℕ). reply (acceptance ps) (put_at i (record { on = was.on; pass = pass; held = was.held }) s)) (sym p ∙ ap preset_of e ∙ sym one)
    ∙ ap (reply report) (ap (λ (y : Pass). put_at i (record { on = was.on; pass = y; held = was.held }) s) e ∙ placed 5 s i t none stepped)
    ∙ accepts (lacks s 5) (refusing s) (reply report (rechain (step_lut (chain_of s)) s)) refl none

-- ## The first persistence with a new depth, and the history that it leaves

pub depth_lacks : (s : Station) (d : ℕ) (words : List ℕ) (k : ℕ) → k ≡ lacks s 4 → (k ≡ 0 → ⊥) → refusing_frame s [] words k ≡ depth_reply d s words
unfolding depth_reply depth_stops unless
depth_lacks s d words zero e some = absurd (some refl)
depth_lacks s d words (suc k) e some = rw (sym e)

module _ (s : Station) (i : ℕ) (t : Found 4 s i) (d : ℕ) (words : List ℕ) (there : 0 ≡ lacks s 4) where
  abbrev now : Record
  now = get_or s.records i past

  abbrev D : ℕ
  D = one_at_least d

  abbrev deeper : Station
  deeper = put_at i (with_depth D now) s

  abbrev with_records : List Record → Station
  with_records rs = record { records = rs; n = s.n; pending = s.pending }

  -- the tests, by what the code has computed
  pub depth_far : 8 < d → refusing_frame s [] words 6 ≡ depth_reply d s words
  unfolding depth_reply depth_stops unless
  depth_far h = rw (sym there, lt-ltb 8 d h)

  held : {count : ℕ} → count ≡ area now.held → count ≡ area (first_held (chain_of s))
  held c = c ∙ ap area (sym (first-told 4 s.n nothing (λ r. r.held) s.records i past t.first t.room))

  pub depth_short : {new count : ℕ} → d ≤ 8 → new ≡ D → count ≡ area now.held → length words < new * count → refusing_frame s [] words 10 ≡ depth_reply d s words
  unfolding depth_reply depth_stops unless
  depth_short {new} {count} h e c l =
      let short = lt-ltb (length words) (D * area (first_held (chain_of s))) (subst₂ (λ (j k : ℕ). length words < j * k) e (held c) l) in
      rw (sym there, le-ltb 8 d h, short)

  depth_goes : {new count : ℕ} → d ≤ 8 → new ≡ D → count ≡ area now.held → new * count ≤ length words → depth_stops s d (length words) ≡ 0
  unfolding depth_stops unless
  depth_goes {new} {count} h e c l =
      let room = le-ltb (length words) (D * area (first_held (chain_of s))) (subst₂ (λ (j k : ℕ). j * k ≤ length words) e (held c) l) in
      rw (sym there, le-ltb 8 d h, room)

  module _ {new before count : ℕ} {pass : Pass} {words' : List ℕ} (few : d ≤ 8) (e : new ≡ D) (b : before ≡ depth_of now.pass) (c : count ≡ area now.held)
      (fits : new * count ≤ length words) (p : pass ≡ deep_pass new now.pass) (h : words' ≡ resized before new count words) where
    redepths : {u : Station} → u ≡ rechain (redepth D (chain_of s)) s → framed (acceptance []) u [] words' ≡ depth_reply d s words
    unfolding depth_reply
    redepths q =
        let k = b ∙ sym (first-told 4 s.n 0 (λ r. depth_of r.pass) s.records i past t.first t.room) in
        let left = resized (first_depth (chain_of s)) D (area (first_held (chain_of s))) words in
        ap₂ (λ (v : Station) (l : List ℕ). framed (acceptance []) v [] l) q (h ∙ (λ j. resized (k j) (e j) (held c j) words))
        ∙ accepts (depth_stops s d (length words)) (refusing_frame s [] words)
        (framed (acceptance []) (rechain (redepth D (chain_of s)) s) [] left) refl (depth_goes few e c fits)

    new_records : (x : Bool) → eqb D (depth_of now.pass) ≡ x
        → redepth D (chain_of s) ++ drop s.n s.records
        ≡ cond x deeper.records (take (suc i) (chain_of deeper) ++ forget (drop (suc i) (chain_of deeper)) ++ drop s.n deeper.records)
    new_records x f = first-redepth D s.n s.records i past t.first t.room ∙ rw f

    is-deeper : put_at i (record { on = now.on; pass = pass; held = now.held }) s ≡ deeper
    is-deeper = ap (λ (y : Pass). put_at i (record { on = now.on; pass = y; held = now.held }) s) (p ∙ ap (λ (k : ℕ). deep_pass k now.pass) e)

    -- the same depth: nothing else changes
    pub redepths_same : before ≡ new → framed (acceptance []) (put_at i (record { on = now.on; pass = pass; held = now.held }) s) [] words' ≡ depth_reply d s words
    redepths_same z =
        let same : eqb D (depth_of now.pass) ≡ true = eq-eqb D (depth_of now.pass) (sym e ∙ sym z ∙ b) in
        redepths (is-deeper ∙ ap with_records (sym (new_records true same)))

    -- another: those behind it hold nothing
    pub redepths_other : {qs : List Record} (m : ℕ) → suc i + m ≡ s.n →
        let put = set s.records i (record { on = now.on; pass = pass; held = now.held }) in
        qs ≡ forget (take m (drop (suc i) put)) → (before ≡ new → ⊥)
        → framed (acceptance []) (with_records (take (suc i) put ++ (qs ++ drop m (drop (suc i) put)))) [] words' ≡ depth_reply d s words
    redepths_other {qs} m w f z =
        let different : eqb D (depth_of now.pass) ≡ false = ne_eqb D (depth_of now.pass) (λ y. z (b ∙ sym y ∙ sym e)) in
        let put = set s.records i (record { on = now.on; pass = pass; held = now.held }) in
        redepths
        (ap (λ (l : List Record). with_records (take (suc i) put ++ (l ++ drop m (drop (suc i) put)))) f
        ∙ ap with_records (forgotten_behind (suc i) m put ∙ ap (λ (n : ℕ). take (suc i) (take n put) ++ forget (drop (suc i) (take n put)) ++ drop n put) w
        ∙ ap (λ (u : Station). take (suc i) (chain_of u) ++ forget (drop (suc i) (chain_of u)) ++ drop u.n u.records) is-deeper
        ∙ sym (new_records false different)))
