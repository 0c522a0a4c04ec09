-- A chain of normalised records, written as a card, is read back. Assumes nothing.
use Prim.Native.Nat.{ℕ, zero, suc, ◌+◌, ◌-◌, ◌*◌, ◌/◌, ◌^◌, ◌≤◌, ◌<◌}
use native.Mathlib.Omega.{arith}
use mathlib.Core.Path.{◌≡◌, refl, ap, ap₂, sym, subst, ◌∙◌}
use mathlib.Core.Bool.{Bool, true, false, cond, ◌||◌}
use mathlib.Core.List.{List, [], ◌∷◌, ◌++◌, append-nil, append_assoc}
use lib.ListN.{length, get_or, length-append, get_or-eq_default}
use lib.Dec.{ltb, eqb}
use borrow.Author.Tests.{eq-eqb}
use lib.Ieee.{neg}
use Rattle.cards.specs.Step.{took}
use Rattle.cards.specs.Bits.{bit_at, value_at}
use Rattle.num.specs.Const.{c0_0, c0_01, c0_5, c0_95, c1_0, c4_0}
use Rattle.cards.specs.Passes.{ntsc_at, bloom_at, auto_gradient_at, persistence_at, lut_at, curvature_at, color_correction_at, crt_at, vignette_at, scanlines_at}
use Rattle.cards.specs.Passes.{pass_at, kind_of}
use Rattle.cards.specs.Records.{kinds, last_of, full, record_at}
use Rattle.cards.specs.Typed.{Unheld}
use Rattle.num.specs.Held.{Held, nothing}
use Rattle.cards.specs.Card.{station_of, records_at, ends_at, station_at}
use Rattle.cards.specs.Written.{bits, pass_bits, record_bits, records_bits, chain_bits, chain_card}
use Rattle.cards.specs.declared.station.Pass.{Pass}
use Rattle.cards.specs.declared.station.Pass.TheVariants.{Ntsc, Bloom, AutoGradient, Persistence, Lut, Curvature, ColorCorrection, Crt, Vignette}
use Rattle.cards.specs.declared.station.Pass.TheVariants.{Scanlines}
use Rattle.cards.specs.declared.station.Record.{Record}
use Rattle.cards.proofs.Packed.{IsBits, joined-bits, bits-bits, length-bits, bit_packed, length-pack, Holds, holds-front, holds_back}
use Rattle.cards.proofs.Back.{Reads, reads_then, reads-last, reads-after, reads-ret, reads_as, reads_here, reads_guard, reads_field, Settled, Counted}
use Rattle.cards.proofs.Back.{reads_limited, reads-within, reads-raised, reads-count, reads-preset}
use Rattle.cards.proofs.Opening.{header_took, opens}

-- a normalised pass, whose values their types hold
abbrev pub NormalPass : Pass → Type 0
NormalPass (Ntsc s b) = Settled c0_0 c1_0 s × Counted 64 b
NormalPass (Bloom t s r) = (t < 256) × Settled c0_0 c1_0 s × Counted 64 r
NormalPass (AutoGradient s v h) = Settled c0_0 c1_0 s × Settled c0_0 c1_0 v × Settled c0_0 c1_0 h
NormalPass (Persistence a d) = Settled c0_0 c0_95 a × Counted 8 d
NormalPass (Lut p s) = (p < 7) × Settled c0_0 c1_0 s
NormalPass (Curvature a) = Settled c0_0 c0_5 a
NormalPass (ColorCorrection b c s g) = Settled (neg c1_0) c1_0 b × Settled c0_0 c4_0 c × Settled c0_0 c4_0 s × Settled c0_01 c4_0 g
NormalPass (Crt s) = Settled c0_0 c1_0 s
NormalPass (Vignette s) = Settled c0_0 c1_0 s
NormalPass (Scanlines s) = Settled c0_0 c1_0 s

-- normalised records after those that are done, no kind more often than it may, none below the one before it, and none that holds frames
abbrev pub NormalChain : List Record → List Record → Type 0
NormalChain done [] = Unit {0}
NormalChain done (r ∷ rs) =
    NormalPass r.pass × (full (kind_of r.pass) (kinds done) ≡ false) × (ltb (kind_of r.pass) (last_of 0 (kinds done)) ≡ false)
    × (r.held ≡ nothing) × NormalChain (done ++ r ∷ []) rs

pub normal_unheld : (rs done : List Record) → NormalChain done rs → Unheld rs
normal_unheld [] done n = tt
normal_unheld (r ∷ rs) done n = (n.3, normal_unheld rs (done ++ r ∷ []) n.4)

reads_pass : (p : Pass) → NormalPass p → Reads (pass_at (kind_of p)) (pass_bits p) p
unfolding pass_at pass_bits ntsc_at bloom_at auto_gradient_at persistence_at lut_at curvature_at color_correction_at crt_at vignette_at scanlines_at
reads_pass (Ntsc s b) n = reads_then _ (reads_limited c1_0 s n.0) (reads-last _ (reads-count 64 b (omega arith) n.1) reads-ret)
reads_pass (Bloom t s r) n =
    reads_then _ (reads_field 8 t n.0) (reads_then _ (reads_limited c1_0 s n.1) (reads-last _ (reads-count 64 r (omega arith) n.2) reads-ret))
reads_pass (AutoGradient s v h) n =
    reads_then _ (reads_limited c1_0 s n.0) (reads_then _ (reads_limited c1_0 v n.1) (reads-last _ (reads_limited c1_0 h n.2) reads-ret))
reads_pass (Persistence a d) n = reads_then _ (reads_limited c0_95 a n.0) (reads-last _ (reads-count 8 d (omega arith) n.1) reads-ret)
reads_pass (Lut p s) n = reads_then _ (reads-preset p n.0) (reads-last _ (reads_limited c1_0 s n.1) reads-ret)
reads_pass (Curvature a) n = reads-last _ (reads_limited c0_5 a n) reads-ret
reads_pass (ColorCorrection b c s g) n =
    reads_then _ (reads-within (neg c1_0) c1_0 b n.0)
    (reads_then _ (reads-raised c0_0 c n.1) (reads_then _ (reads-raised c0_0 s n.2) (reads-last _ (reads-raised c0_01 g n.3) reads-ret)))
reads_pass (Crt s) n = reads-last _ (reads_limited c1_0 s n) reads-ret
reads_pass (Vignette s) n = reads-last _ (reads_limited c1_0 s n) reads-ret
reads_pass (Scanlines s) n = reads-last _ (reads_limited c1_0 s n) reads-ret

pub known : (p : Pass) → (eqb (kind_of p) 0 || ltb 10 (kind_of p)) ≡ false
known (Ntsc a b) = refl
known (Bloom a b c) = refl
known (AutoGradient a b c) = refl
known (Persistence a b) = refl
known (Lut a b) = refl
known (Curvature a) = refl
known (ColorCorrection a b c d) = refl
known (Crt a) = refl
known (Vignette a) = refl
known (Scanlines a) = refl

small : (p : Pass) → kind_of p < 16
small (Ntsc a b) = omega arith
small (Bloom a b c) = omega arith
small (AutoGradient a b c) = omega arith
small (Persistence a b) = omega arith
small (Lut a b) = omega arith
small (Curvature a) = omega arith
small (ColorCorrection a b c d) = omega arith
small (Crt a) = omega arith
small (Vignette a) = omega arith
small (Scanlines a) = omega arith

switch_small : (on : Bool) → cond on 1 0 < 2 ^ 1
switch_small true = omega arith
switch_small false = omega arith

switch_back : (on : Bool) → eqb (cond on 1 0) 1 ≡ on
switch_back true = refl
switch_back false = refl

reads_record : (seen : List ℕ) (r : Record) → NormalPass r.pass → full (kind_of r.pass) seen ≡ false
    → ltb (kind_of r.pass) (last_of 0 seen) ≡ false → r.held ≡ nothing → Reads (record_at seen) (record_bits r) r
unfolding record_at record_bits
reads_record seen r n new rises unheld =
    reads_here
    (λ p. reads_then _ (reads_field 4 (kind_of r.pass) (small r.pass))
    (reads-after _ (reads_guard 4 p _ (known r.pass))
    (reads-after _ (reads_guard 5 p _ new)
    (reads-after _ (reads_guard 15 p _ rises)
    (reads_then _ (reads_field 1 (cond r.on 1 0) (switch_small r.on))
    (reads-last _ (reads_pass r.pass n)
    (reads_as (record { on = eqb (cond r.on 1 0) 1; pass = r.pass; held = nothing }) r
    (ap₂ (λ (on : Bool) (held : Held). record { on = on; pass = r.pass; held = held }) (switch_back r.on) (sym unheld)))))))))

reads_records : (rs done : List Record) → NormalChain done rs → Reads (records_at (length rs) done) (records_bits rs) (done ++ rs)
unfolding records_at records_bits
reads_records [] done n = reads_as done (done ++ []) (sym (append-nil done))
reads_records (r ∷ rs) done n =
    reads_then _ (reads_record (kinds done) r n.0 n.1 n.2 n.3)
    (subst (λ (l : List Record). Reads (records_at (length rs) (done ++ r ∷ [])) (records_bits rs) l) (append_assoc done (r ∷ []) rs)
    (reads_records rs (done ++ r ∷ []) n.4))

-- only bits are written
pass_bits_lem : (p : Pass) → IsBits (pass_bits p)
unfolding pass_bits
pass_bits_lem (Ntsc a b) = joined-bits (bits-bits 32 _) (bits-bits 8 _)
pass_bits_lem (Bloom a b c) = joined-bits (bits-bits 8 _) (joined-bits (bits-bits 32 _) (bits-bits 8 _))
pass_bits_lem (AutoGradient a b c) = joined-bits (bits-bits 32 _) (joined-bits (bits-bits 32 _) (bits-bits 32 _))
pass_bits_lem (Persistence a b) = joined-bits (bits-bits 32 _) (bits-bits 8 _)
pass_bits_lem (Lut a b) = joined-bits (bits-bits 3 _) (bits-bits 32 _)
pass_bits_lem (Curvature a) = bits-bits 32 _
pass_bits_lem (ColorCorrection a b c d) = joined-bits (bits-bits 32 _) (joined-bits (bits-bits 32 _) (joined-bits (bits-bits 32 _) (bits-bits 32 _)))
pass_bits_lem (Crt a) = bits-bits 32 _
pass_bits_lem (Vignette a) = bits-bits 32 _
pass_bits_lem (Scanlines a) = bits-bits 32 _

record_bits_lem : (r : Record) → IsBits (record_bits r)
unfolding record_bits
record_bits_lem r = joined-bits (bits-bits 4 _) (joined-bits (bits-bits 1 _) (pass_bits_lem r.pass))

records_bits_lem : (rs : List Record) → IsBits (records_bits rs)
unfolding records_bits
records_bits_lem [] = record { at = λ i. omega arith }
records_bits_lem (r ∷ rs) = joined-bits (record_bits_lem r) (records_bits_lem rs)

pub chain-bits : (rs : List Record) → IsBits (chain_bits rs)
unfolding chain_bits
chain-bits rs = joined-bits (bits-bits 4 1) (joined-bits (bits-bits 4 (length rs)) (records_bits_lem rs))

zeros : (card : List ℕ) (p k : ℕ) → ((i : ℕ) → i < k → bit_at card (p + i) ≡ 0) → value_at card p k ≡ 0
unfolding value_at
zeros card p zero h = refl
zeros card p (suc k) h = omega (arith, zeros card p k (λ i l. h i (omega arith)), h k (omega arith))

module _ (rs : List Record) where
  abbrev far : ℕ
  far = length (chain_bits rs)

  chain_long : length (chain_card rs) ≡ (far + 7) / 8
  unfolding chain_card
  chain_long = length-pack ((far + 7) / 8) (chain_bits rs)

  chain_bit : (p : ℕ) → p < 8 * ((far + 7) / 8) → bit_at (chain_card rs) p ≡ get_or (chain_bits rs) p 0
  unfolding chain_card
  chain_bit p l = bit_packed ((far + 7) / 8) (chain_bits rs) (chain-bits rs) p l

  chain-holds : Holds (chain_card rs) 0 (chain_bits rs)
  chain-holds =
      record {
        inside = omega (arith, chain_long);
        bit = λ i l. let here : 0 + i ≡ i = omega arith in rw here (chain_bit i (omega arith));
      }

  chain-ends : ends_at (chain_card rs) far ≡ true
  unfolding ends_at
  chain-ends =
      let none : value_at (chain_card rs) far ((far + 7) / 8 * 8 - far) ≡ 0 =
      zeros (chain_card rs) far ((far + 7) / 8 * 8 - far)
      (λ i l. chain_bit (far + i) (omega arith) ∙ get_or-eq_default (chain_bits rs) 0 {n = far + i} (omega arith)) in
      simp (eq-eqb _ _ chain_long, eq-eqb _ _ none)

  chain-far : far ≡ 8 + length (records_bits rs)
  unfolding chain_bits
  chain-far =
      omega (
        arith,
        length-append (bits 4 1) (bits 4 (length rs) ++ records_bits rs),
        length-append (bits 4 (length rs)) (records_bits rs),
        length-bits 4 1,
        length-bits 4 (length rs),
      )

  -- a card that was written is read as the chain that it was written from
  pub chain_back : length rs ≤ 12 → NormalChain [] rs → station_at (chain_card rs) 0 ≡ took (station_of rs) far
  unfolding chain_bits bits
  chain_back few n =
      let all = chain-holds in
      let rest = holds_back (chain_card rs) 0 (bits 4 1) (bits 4 (length rs) ++ records_bits rs) all in
      let last = holds_back (chain_card rs) 4 (bits 4 (length rs)) (records_bits rs) rest in
      let first = (reads_field 4 1 (omega arith)).reads (chain_card rs) 0 (holds-front (chain_card rs) 0 (bits 4 1) (bits 4 (length rs) ++ records_bits rs) all) in
      let second = (reads_field 4 (length rs) (omega arith)).reads (chain_card rs) 4 (holds-front (chain_card rs) 4 (bits 4 (length rs)) (records_bits rs) rest) in
      opens (chain_card rs) (length rs) 8 (header_took (chain_card rs) (length rs) first second few) far rs
      ((reads_records rs [] n).reads (chain_card rs) 8 last ∙ ap (λ (k : ℕ). took rs k) (sym chain-far))
      chain-ends
