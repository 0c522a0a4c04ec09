-- An accepted card opens as a good station: what the reader leaves of each setting is what the test behind 13 asks for. Assumes nothing.
use Prim.Native.Nat.{ℕ}
use mathlib.Core.Path.{◌≡◌, refl, ap, sym, subst, ◌∙◌}
use mathlib.Core.Bool.{true}
use mathlib.Core.List.{List, [], ◌∷◌, ◌++◌, map-append}
use borrow.Author.Tests.{le-leb, lt-ltb}
use lib.Ieee.{Float, neg}
use lib.ListN.{length}
use lib.Seq.{take-append_seam}
use Rattle.num.specs.Const.{c0_0, c0_01, c0_5, c0_95, c1_0, c4_0}
use Rattle.cards.specs.Alike.{chain_of}
use Rattle.cards.specs.Card.{station_of}
use Rattle.cards.specs.Claims.{OpensGood}
use Rattle.cards.specs.Laws.Good.{is_good, nothing-fine, unheld, is_headed}
use Rattle.cards.specs.Typed.{Unheld}
use Rattle.num.specs.Held.{fine_held}
use Rattle.cards.specs.Normal.{settled, counted, normal_pass, normal_chain, good_station}
use Rattle.cards.specs.Passes.{kind_of}
use Rattle.cards.specs.Records.{kinds}
use Rattle.cards.specs.declared.station.Pass.{Pass}
use Rattle.cards.specs.declared.station.Pass.TheVariants.{Ntsc, Bloom, AutoGradient, Persistence, Lut, Curvature, ColorCorrection, Crt, Vignette}
use Rattle.cards.specs.declared.station.Pass.TheVariants.{Scanlines}
use Rattle.cards.specs.declared.station.Record.{Record}
use Rattle.cards.specs.declared.station.Station.{Station}
use Rattle.cards.proofs.Back.{Settled, Counted}
use Rattle.cards.proofs.Chain.{NormalPass, NormalChain, normal_unheld}
use Rattle.cards.proofs.Theorems.{accepted_opens}

settled_is : (low high x : Float) → Settled low high x → settled low high x ≡ true
unfolding settled
settled_is low high x t = rw (t.number, t.above, t.below, t.plain)

counted_is : (most v : ℕ) → Counted most v → counted most v ≡ true
counted_is most v t = rw (le-leb 1 v t.some, le-leb v most t.few)

normal_is : (p : Pass) → NormalPass p → normal_pass p ≡ true
unfolding normal_pass
normal_is (Ntsc a b) t = rw (settled_is c0_0 c1_0 a t.0, counted_is 64 b t.1)
normal_is (Bloom a b c) t = rw (settled_is c0_0 c1_0 b t.1, counted_is 64 c t.2)
normal_is (AutoGradient a b c) t = rw (settled_is c0_0 c1_0 a t.0, settled_is c0_0 c1_0 b t.1, settled_is c0_0 c1_0 c t.2)
normal_is (Persistence a b) t = rw (settled_is c0_0 c0_95 a t.0, counted_is 8 b t.1)
normal_is (Lut a b) t = rw (lt-ltb a 7 t.0, settled_is c0_0 c1_0 b t.1)
normal_is (Curvature a) t = settled_is c0_0 c0_5 a t
normal_is (ColorCorrection a b c d) t =
    rw (settled_is (neg c1_0) c1_0 a t.0, settled_is c0_0 c4_0 b t.1, settled_is c0_0 c4_0 c t.2, settled_is c0_01 c4_0 d t.3)
normal_is (Crt a) t = settled_is c0_0 c1_0 a t
normal_is (Vignette a) t = settled_is c0_0 c1_0 a t
normal_is (Scanlines a) t = settled_is c0_0 c1_0 a t

chain-is : (done rs : List Record) → NormalChain done rs → normal_chain (kinds done) rs ≡ true
unfolding normal_chain
chain-is done [] t = refl
chain-is done (r ∷ rs) t =
    is_headed (kinds done) r rs
    (record {
      normal = normal_is r.pass t.0;
      new = t.1;
      rises = t.2;
      others =
          subst (λ (ks : List ℕ). normal_chain ks rs ≡ true) (map-append (λ (r : Record). kind_of r.pass) done (r ∷ [])) (chain-is (done ++ r ∷ []) rs t.4);
    })

-- of a station that is opened
pub opens_good : OpensGood
opens_good card s e =
    let o = accepted_opens card s e in
    let chain_of_lem : chain_of (station_of o.chain) ≡ o.chain = take-append_seam o.chain _ in
    let u = unheld (chain_of (station_of o.chain)) (subst Unheld (sym chain_of_lem) (normal_unheld o.chain [] o.normal)) in
    subst (λ (t : Station). (good_station t ≡ true) × (length (chain_of t) ≡ t.n)) (sym o.whole) (
      is_good (station_of o.chain)
          (record {
            few = o.few;
            normal = ap (normal_chain []) chain_of_lem ∙ chain-is [] o.chain o.normal;
            fine = ap fine_held u.0 ∙ nothing-fine;
            holds = u.1 _;
            asks = refl;
          }),
      ap length chain_of_lem,
    )
