-- Any good station survives writing and opening: refusal 13's test is what the round trip needs. Assumes nothing.
use Prim.Native.Nat.{ℕ, ◌-◌}
use native.Mathlib.Omega.{arith}
use mathlib.Core.Path.{◌≡◌, ap, sym, subst, ◌∙◌}
use mathlib.Core.Bool.{not, ◌&&◌}
use mathlib.Core.List.{List, [], ◌∷◌, ◌++◌, map-append}
use lib.ListN.{length, take, replicate, take-append-drop}
use lib.Seq.{length-take-le}
use lib.Dec.{T, leb, ltb, leb→le}
use borrow.Author.Tests.{ltb-true}
use lib.Ieee.{Float, binary32, fits, lt, neg}
use lib.Ieee.Scale.{finite}
use lib.Ieee.Fits.{and_l, and_r}
use Rattle.num.specs.Const.{c0_0, c0_01, c0_5, c0_95, c1_0, c4_0}
use Rattle.cards.specs.Passes.{kind_of}
use Rattle.cards.specs.Records.{kinds}
use Rattle.cards.specs.Normal.{neg_zero, settled, counted, normal_pass, normal_chain}
use Rattle.cards.specs.Card.{unused, station_of, accepted, open_of}
use Rattle.cards.specs.Typed.{Typed, TypedChain, Unheld}
use Rattle.cards.specs.Claims.{Survives}
use Rattle.cards.specs.Written.{card_of}
use Rattle.cards.specs.declared.station.Pass.{Pass}
use Rattle.cards.specs.declared.station.Pass.TheVariants.{Ntsc, Bloom, AutoGradient, Persistence, Lut, Curvature, ColorCorrection, Crt, Vignette}
use Rattle.cards.specs.declared.station.Pass.TheVariants.{Scanlines}
use Rattle.cards.specs.declared.station.Pending.{Pending}
use Rattle.cards.specs.declared.station.Pending.TheVariants.{Nothing}
use Rattle.cards.specs.declared.station.Record.{Record}
use Rattle.cards.specs.declared.station.Station.{Station}
use Rattle.cards.specs.Laws.Good.{headed}
use Rattle.cards.proofs.Back.{Settled, Counted}
use Rattle.cards.proofs.Chain.{NormalPass, NormalChain}
use Rattle.cards.proofs.Writing.{good_parts}
use Rattle.num.specs.Laws.Bools.{is_true}
use Rattle.cards.proofs.Tests.{held-not}
use Rattle.cards.proofs.Theorems.{chain_opens}

settled_of : (low high x : Float) → T (fits binary32 x) → T (settled low high x) → Settled low high x
unfolding settled
settled_of low high x t h =
    let abc = and_l (finite x && not (lt x low) && not (lt high x)) (not (neg_zero x)) h in
    let ab = and_l (finite x && not (lt x low)) (not (lt high x)) abc in
    record {
      held = t;
      number = is_true (finite x) (and_l (finite x) (not (lt x low)) ab);
      above = held-not (lt x low) (and_r (finite x) (not (lt x low)) ab);
      below = held-not (lt high x) (and_r (finite x && not (lt x low)) (not (lt high x)) abc);
      plain = held-not (neg_zero x) (and_r (finite x && not (lt x low) && not (lt high x)) (not (neg_zero x)) h);
    }

counted_of : (most v : ℕ) → T (counted most v) → Counted most v
counted_of most v h = record { some = leb→le 1 v (and_l (leb 1 v) (leb v most) h); few = leb→le v most (and_r (leb 1 v) (leb v most) h) }

normal_of : (p : Pass) → Typed p → T (normal_pass p) → NormalPass p
unfolding normal_pass
normal_of (Ntsc a b) t h = (settled_of c0_0 c1_0 a t (and_l (settled c0_0 c1_0 a) _ h), counted_of 64 b (and_r (settled c0_0 c1_0 a) _ h))
normal_of (Bloom a b c) t h = (t.0, settled_of c0_0 c1_0 b t.1 (and_l (settled c0_0 c1_0 b) _ h), counted_of 64 c (and_r (settled c0_0 c1_0 b) _ h))
normal_of (AutoGradient a b c) t h =
    let ab = and_l (settled c0_0 c1_0 a && settled c0_0 c1_0 b) _ h in
    (settled_of c0_0 c1_0 a t.0 (and_l (settled c0_0 c1_0 a) _ ab), settled_of c0_0 c1_0 b t.1 (and_r (settled c0_0 c1_0 a) _ ab), settled_of c0_0 c1_0 c t.2 (and_r (settled c0_0 c1_0 a && settled c0_0 c1_0 b) _ h))
normal_of (Persistence a b) t h = (settled_of c0_0 c0_95 a t (and_l (settled c0_0 c0_95 a) _ h), counted_of 8 b (and_r (settled c0_0 c0_95 a) _ h))
normal_of (Lut a b) t h = (ltb-true a 7 (is_true _ (and_l (ltb a 7) _ h)), settled_of c0_0 c1_0 b t (and_r (ltb a 7) _ h))
normal_of (Curvature a) t h = settled_of c0_0 c0_5 a t h
normal_of (ColorCorrection a b c d) t h =
    let abc = and_l (settled (neg c1_0) c1_0 a && settled c0_0 c4_0 b && settled c0_0 c4_0 c) _ h in
    let ab = and_l (settled (neg c1_0) c1_0 a && settled c0_0 c4_0 b) _ abc in (
      settled_of (neg c1_0) c1_0 a t.0 (and_l (settled (neg c1_0) c1_0 a) _ ab),
      settled_of c0_0 c4_0 b t.1 (and_r (settled (neg c1_0) c1_0 a) _ ab),
      settled_of c0_0 c4_0 c t.2 (and_r (settled (neg c1_0) c1_0 a && settled c0_0 c4_0 b) _ abc),
      settled_of c0_01 c4_0 d t.3 (and_r (settled (neg c1_0) c1_0 a && settled c0_0 c4_0 b && settled c0_0 c4_0 c) _ h),
    )
normal_of (Crt a) t h = settled_of c0_0 c1_0 a t h
normal_of (Vignette a) t h = settled_of c0_0 c1_0 a t h
normal_of (Scanlines a) t h = settled_of c0_0 c1_0 a t h

chain_of_lem : (rs done : List Record) → TypedChain rs → Unheld rs → T (normal_chain (kinds done) rs) → NormalChain done rs
unfolding normal_chain
chain_of_lem [] done t u h = tt
chain_of_lem (r ∷ rs) done t u h =
    let q = headed (kinds done) r rs (is_true (normal_chain (kinds done) (r ∷ rs)) h) in (
      normal_of r.pass t.0 (subst T (sym q.normal) tt),
      q.new,
      q.rises,
      u.0,
      chain_of_lem rs (done ++ r ∷ []) t.1 u.1
          (subst T (sym q.others ∙ ap (λ (ks : List ℕ). normal_chain ks rs) (sym (map-append (λ (r : Record). kind_of r.pass) done (r ∷ [])))) tt),
    )

abbrev station_with : List Record → ℕ → Pending → Station
station_with rs n pending = record { records = rs; n = n; pending = pending }

pub survives : Survives
survives s good typed none unasked twelve rest =
    let chain = take s.n s.records in
    let parts = good_parts s good in
    let long : length chain ≡ s.n = length-take-le s.n s.records (omega (arith, parts.0)) in
    let whole : station_of chain ≡ s =
    ap (λ (k : ℕ). station_with (chain ++ replicate (12 - k) unused) k Nothing) long
    ∙ ap (λ (xs : List Record). station_with xs s.n Nothing) (ap (λ (xs : List Record). chain ++ xs) (sym rest) ∙ take-append-drop s.n s.records)
    ∙ ap (station_with s.records s.n) (sym unasked) in
    subst (λ (t : Station). open_of (card_of t) ≡ accepted t) whole (chain_opens chain (omega (arith, parts.0)) (chain_of_lem chain [] typed none parts.1))
