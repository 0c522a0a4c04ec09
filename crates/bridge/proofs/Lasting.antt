-- Opening gives a whole station, and each call keeps it one. Assumes nothing.
use Prim.Native.Nat.{ℕ, ◌-◌}
use native.Mathlib.Omega.{arith}
use mathlib.Core.Path.{◌≡◌, ap, sym, subst, ◌∙◌}
use mathlib.Core.List.{List, [], ◌∷◌, ◌++◌}
use lib.ListN.{length, drop, replicate, length-append, length-replicate, take-append-drop}
use lib.Seq.{length-take-le, take-append_seam, drop-append_seam}
use Rattle.cards.specs.Alike.{chain_of}
use Rattle.cards.specs.Card.{unused, accepted, open_of}
use Rattle.chain.specs.Machine.{Call, State, call, after}
use Rattle.cards.specs.Typed.{Typed, TypedChain}
use Rattle.cards.specs.declared.station.Pass.{Pass}
use Rattle.cards.specs.declared.station.Pass.TheVariants.{Ntsc, Bloom, AutoGradient, Persistence, Lut, Curvature, ColorCorrection, Crt, Vignette, Scanlines}
use Rattle.cards.specs.declared.station.Record.{Record}
use Rattle.cards.specs.declared.station.Station.{Station}
use Rattle.cards.proofs.Chain.{NormalPass, NormalChain}
use Rattle.chain.proofs.Changed.{shapes}
use Rattle.cards.specs.Laws.Good.{good}
use Rattle.chain.proofs.PassCases.{blank, by_setting}
use Rattle.chain.proofs.Fit.{Fixed, Fit, After, opened_fit}
use Rattle.chain.proofs.Sound.{call-after, call_fit}
use Rattle.cards.proofs.Theorems.{accepted_opens}
use Rattle.bridge.specs.Claims.{Whole, Lasting}

-- ## Opening

normal_typed : (p : Pass) → NormalPass p → Typed p
normal_typed (Ntsc a b) n = n.0.held
normal_typed (Bloom a b c) n = (n.0, n.1.held)
normal_typed (AutoGradient a b c) n = (n.0.held, n.1.held, n.2.held)
normal_typed (Persistence a b) n = n.0.held
normal_typed (Lut a b) n = n.1.held
normal_typed (Curvature a) n = n.held
normal_typed (ColorCorrection a b c d) n = (n.0.held, n.1.held, n.2.held, n.3.held)
normal_typed (Crt a) n = n.held
normal_typed (Vignette a) n = n.held
normal_typed (Scanlines a) n = n.held

chain_typed : (rs done : List Record) → NormalChain done rs → TypedChain rs
chain_typed [] done n = tt
chain_typed (r ∷ rs) done n = (normal_typed r.pass n.0, chain_typed rs (done ++ r ∷ []) n.4)

pub opened-whole : (card : List ℕ) (s : Station) → open_of card ≡ accepted s → Whole s
opened-whole card s e =
    let o = accepted_opens card s e in
    let filled : List Record = replicate (12 - length o.chain) unused in
    record {
      good = (opened_fit card s e).sound;
      typed =
          subst (λ (t : Station). TypedChain (chain_of t)) (sym o.whole)
          (subst TypedChain (sym (take-append_seam o.chain filled)) (chain_typed o.chain [] o.normal));
      twelve =
          ap (λ (t : Station). length t.records) o.whole
          ∙ omega (arith, o.few, length-append o.chain filled, length-replicate (12 - length o.chain) unused);
      rest =
          subst (λ (t : Station). drop t.n t.records ≡ replicate (12 - t.n) unused) (sym o.whole) (drop-append_seam o.chain filled);
    }

-- ## Each call

-- a pass but for its preset and its depth is typed where the pass is
typed_blank : (p : Pass) → Typed p → Typed (blank p)
typed_blank = by_setting (λ p. Typed p → Typed (blank p)) (λ preset strength t. t) (λ amount k t. t) (λ p o t. subst Typed (sym o.whole) t)

blank_typed : (p : Pass) → Typed (blank p) → Typed p
blank_typed = by_setting (λ p. Typed (blank p) → Typed p) (λ preset strength t. t) (λ amount k t. t) (λ p o t. subst Typed o.whole t)

abbrev TypedShapes : List Pass → Type 0
TypedShapes [] = Unit {0}
TypedShapes (p ∷ ps) = Typed p × TypedShapes ps

typed_shapes : (rs : List Record) → TypedChain rs → TypedShapes (shapes rs)
typed_shapes [] t = tt
typed_shapes (r ∷ rs) t = (typed_blank r.pass t.0, typed_shapes rs t.1)

shapes_typed : (rs : List Record) → TypedShapes (shapes rs) → TypedChain rs
shapes_typed [] t = tt
shapes_typed (r ∷ rs) t = (blank_typed r.pass t.0, shapes_typed rs t.1)

whole_fit : (s : Station) → Whole s → Fit s
whole_fit s w = record { sound = w.good; room = length-take-le s.n s.records (omega (arith, w.twelve, (good s w.good).few)) }

-- what a call leaves: switches, preset, depth and what is held apart, the station that it got
after-whole : (s t : Station) → Whole s → After s t → Fit t → Whole t
after-whole s t w a f =
    let same-n : t.n ≡ s.n = ap (λ (x : Fixed). x.1) a.same in
    let rest : drop t.n t.records ≡ replicate (12 - t.n) unused =
    ap (λ (x : Fixed). x.2) a.same ∙ w.rest ∙ ap (λ (k : ℕ). replicate (12 - k) unused) (sym same-n) in
    record {
      good = a.sound;
      typed = shapes_typed (chain_of t) (subst TypedShapes (sym (ap (λ (x : Fixed). x.0) a.same)) (typed_shapes (chain_of s) w.typed));
      twelve =
          ap length (sym (take-append-drop t.n t.records))
          ∙ omega (
            arith,
            length-append (chain_of t) (drop t.n t.records),
            f.room,
            ap length rest,
            length-replicate (12 - t.n) unused,
            (good t a.sound).few,
          );
      rest = rest;
    }

pub call-whole : (c : Call) (s : State) → Whole s.station → Whole (after c s).station
unfolding after
call-whole c s w =
    let f = whole_fit s.station w in
    after-whole s.station (call c s).gives.station w (call-after c s f) (call_fit c s f)

pub lasting : Lasting
lasting = (opened-whole, call-whole)
