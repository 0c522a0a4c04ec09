-- What opening gives is normalised. Assumes nothing.
use Prim.Native.Nat.{ℕ, zero, suc, ◌*◌, ◌≤◌, ◌<◌}
use native.Mathlib.Omega.{arith}
use mathlib.Core.Path.{◌≡◌, refl, ap, sym, subst, ◌∙◌}
use mathlib.Core.Bool.{Bool, true, false, cond}
use mathlib.Core.List.{List, [], ◌∷◌, ◌++◌, append-nil, append_assoc}
use lib.ListN.{length}
use lib.Dec.{T, ltb, eqb}
use borrow.Author.Tests.{ltb-false, eq-eqb, eqb-false, not-false}
use lib.Ieee.{Float, nan, inf, fin, binary32, fits, of_bits, lt, eq, up, down, neg}
use lib.Ieee.Bits.{of_bits-fits}
use lib.Ieee.Scale.{finite}
use Rattle.cards.specs.Step.{}
use Rattle.cards.specs.Settings.{finite_at, limited_at, within_at, raised_at, count_at, preset_at}
use Rattle.num.specs.Steps.{clamp_of, plus_zero_of, limit_of}
use Rattle.num.specs.Const.{c0_0, c0_01, c0_5, c0_95, c1_0, c4_0}
use Rattle.cards.specs.Passes.{ntsc_at, bloom_at, auto_gradient_at, persistence_at, lut_at, curvature_at, color_correction_at, crt_at, vignette_at, scanlines_at}
use Rattle.cards.specs.Passes.{pass_at, kind_of}
use Rattle.cards.specs.Records.{kinds, last_of, full, record_at}
use Rattle.num.specs.Held.{nothing}
use Rattle.cards.specs.Card.{station_of, records_at, end_at, station_at}
use Rattle.cards.specs.Normal.{neg_zero}
use Rattle.cards.specs.declared.station.Pass.{Pass}
use Rattle.cards.specs.declared.station.Record.{Record}
use Rattle.cards.specs.declared.station.Station.{Station}
use Rattle.cards.proofs.Taken.{Gives, gives_then, gives_ret, gives_refuse, gives_here, gives_guard, gives_field}
use Rattle.cards.proofs.Opening.{gives_header}
use Rattle.cards.proofs.Back.{Settled, Counted}
use Rattle.cards.proofs.Chain.{NormalPass, NormalChain}

-- finite
record Number (x : Float) : Type 0 where
  held : T (fits binary32 x)
  number : finite x ≡ true

gives_finite : Gives finite_at Number
unfolding finite_at
gives_finite =
    gives_here (λ p. gives_then _ (gives_field 32)
    (λ b h. gives_then _ (gives_guard 6 p _) (λ u g. gives_ret Number _ (record { held = of_bits-fits binary32 b; number = not-false _ g }))))

not-zero : (x : Float) → eq x c0_0 ≡ false → neg_zero x ≡ false
unfolding eq of_bits
not-zero nan e = refl
not-zero (inf s) e = refl
not-zero (fin false zero d) e = refl
not-zero (fin true zero d) e =
    simp (eq-eqb (0 * up d * 1) (0 * 1 * down d) (omega arith), eq-eqb (0 * up d * 1) 0 (omega arith)) at e
not-zero (fin s (suc m) d) e = refl

zero-plain : neg_zero c0_0 ≡ false
unfolding of_bits
zero-plain = refl

zero_finite : finite c0_0 ≡ true
unfolding of_bits
zero_finite = refl

-- a range whose ends are normalised
abbrev Range : Float → Float → Type 0
Range low high = Settled low high low × Settled low high high

-- what is limited to it is normalised
limit_settled : (low high x : Float) → Range low high → Number x → Settled low high (limit_of x low high)
unfolding limit_of plus_zero_of clamp_of
limit_settled low high x r n = plus (eq x c0_0) refl
  where
    clamped : (y : Float) → T (fits binary32 y) → finite y ≡ true → neg_zero y ≡ false → (a b : Bool) → lt y low ≡ a → lt high y ≡ b
        → Settled low high (cond a low (cond b high y))
    clamped y h f z true b ea eb = r.0
    clamped y h f z false true ea eb = r.1
    clamped y h f z false false ea eb = record { held = h; number = f; above = ea; below = eb; plain = z }

    plus : (b : Bool) → eq x c0_0 ≡ b
        → Settled low high (cond (lt (cond b c0_0 x) low) low (cond (lt high (cond b c0_0 x)) high (cond b c0_0 x)))
    plus true e = clamped c0_0 (of_bits-fits binary32 0) zero_finite zero-plain (lt c0_0 low) (lt high c0_0) refl refl
    plus false e = clamped x n.held n.number (not-zero x e) (lt x low) (lt high x) refl refl

gives_limited : (high : Float) → Range c0_0 high → Gives (limited_at high) (Settled c0_0 high)
unfolding limited_at
gives_limited high r = gives_then _ gives_finite (λ x n. gives_ret (Settled c0_0 high) _ (limit_settled c0_0 high x r n))

gives_within : (low high : Float) → Range low high → Gives (within_at low high) (Settled low high)
unfolding within_at
gives_within low high r =
    gives_here (λ p. gives_then _ gives_finite (λ x n. gives_then _ (gives_guard 6 p _) (λ u g. gives_ret (Settled low high) _ (limit_settled low high x r n))))

gives_count : (most : ℕ) → 1 ≤ most → Gives (count_at most) (Counted most)
unfolding count_at
gives_count most h =
    gives_here (λ p. gives_then _ (gives_field 8) (λ v l. gives_then _ (gives_guard 6 p _) (λ u g. gives_ret (Counted most) _ (go v (ltb-false most v g) (eqb v 0) refl))))
  where
    go : (v : ℕ) → v ≤ most → (a : Bool) → eqb v 0 ≡ a → Counted most (cond a 1 v)
    go v l true e = record { some = omega arith; few = h }
    go v l false e = record { some = omega (arith, eqb-false v 0 e); few = l }

gives_preset : Gives preset_at (λ v. v < 7)
unfolding preset_at
gives_preset =
    gives_here (λ p. gives_then _ (gives_field 3) (λ v l. gives_then _ (gives_guard 6 p _) (λ u g. gives_ret (λ v. v < 7) v (omega (arith, eqb-false v 7 g)))))

-- the ranges of the settings
range_0_1 : Range c0_0 c1_0
unfolding fits lt of_bits
range_0_1 = (record { held = tt; number = refl; above = refl; below = refl; plain = refl }, record { held = tt; number = refl; above = refl; below = refl; plain = refl })

range_0_0_5 : Range c0_0 c0_5
unfolding fits lt of_bits
range_0_0_5 = (record { held = tt; number = refl; above = refl; below = refl; plain = refl }, record { held = tt; number = refl; above = refl; below = refl; plain = refl })

range_0_0_95 : Range c0_0 c0_95
unfolding fits lt of_bits
range_0_0_95 = (record { held = tt; number = refl; above = refl; below = refl; plain = refl }, record { held = tt; number = refl; above = refl; below = refl; plain = refl })

range_0_4 : Range c0_0 c4_0
unfolding fits lt of_bits
range_0_4 = (record { held = tt; number = refl; above = refl; below = refl; plain = refl }, record { held = tt; number = refl; above = refl; below = refl; plain = refl })

range_0_01_4 : Range c0_01 c4_0
unfolding fits lt of_bits
range_0_01_4 = (record { held = tt; number = refl; above = refl; below = refl; plain = refl }, record { held = tt; number = refl; above = refl; below = refl; plain = refl })

range_minus : Range (neg c1_0) c1_0
unfolding fits lt of_bits neg
range_minus = (record { held = tt; number = refl; above = refl; below = refl; plain = refl }, record { held = tt; number = refl; above = refl; below = refl; plain = refl })

gives_1 : Gives (limited_at c1_0) (Settled c0_0 c1_0)
gives_1 = gives_limited c1_0 range_0_1

gives_raised : (low : Float) → Range low c4_0 → Gives (raised_at low) (Settled low c4_0)
unfolding raised_at
gives_raised low r =
    gives_here (λ p. gives_then _ gives_finite (λ x n. gives_then _ (gives_guard 6 p _) (λ u g. gives_ret (Settled low c4_0) _ (limit_settled low c4_0 x r n))))

-- a normalised pass of the kind k
abbrev Of : ℕ → Pass → Type 0
Of k p = NormalPass p × (kind_of p ≡ k)

gives_pass : (k : ℕ) → Gives (pass_at k) (Of k)
unfolding pass_at ntsc_at bloom_at auto_gradient_at persistence_at lut_at curvature_at color_correction_at crt_at vignette_at scanlines_at
gives_pass zero = gives_refuse (Of 0) 4
gives_pass (suc zero) = gives_then _ (gives_1) (λ x0 h0. gives_then _ (gives_count 64 (omega arith)) (λ x1 h1. gives_ret (Of 1) _ ((h0, h1), refl)))
gives_pass (suc (suc zero)) = gives_then _ (gives_field 8) (λ x0 h0. gives_then _ (gives_1) (λ x1 h1. gives_then _ (gives_count 64 (omega arith)) (λ x2 h2. gives_ret (Of 2) _ ((h0, h1, h2), refl))))
gives_pass (suc (suc (suc zero))) = gives_then _ (gives_1) (λ x0 h0. gives_then _ (gives_1) (λ x1 h1. gives_then _ (gives_1) (λ x2 h2. gives_ret (Of 3) _ ((h0, h1, h2), refl))))
gives_pass (suc (suc (suc (suc zero)))) = gives_then _ (gives_limited c0_95 range_0_0_95) (λ x0 h0. gives_then _ (gives_count 8 (omega arith)) (λ x1 h1. gives_ret (Of 4) _ ((h0, h1), refl)))
gives_pass (suc (suc (suc (suc (suc zero))))) = gives_then _ (gives_preset) (λ x0 h0. gives_then _ (gives_1) (λ x1 h1. gives_ret (Of 5) _ ((h0, h1), refl)))
gives_pass (suc (suc (suc (suc (suc (suc zero)))))) = gives_then _ (gives_limited c0_5 range_0_0_5) (λ x0 h0. gives_ret (Of 6) _ (h0, refl))
gives_pass (suc (suc (suc (suc (suc (suc (suc zero))))))) = gives_then _ (gives_within (neg c1_0) c1_0 range_minus) (λ x0 h0. gives_then _ (gives_raised c0_0 range_0_4) (λ x1 h1. gives_then _ (gives_raised c0_0 range_0_4) (λ x2 h2. gives_then _ (gives_raised c0_01 range_0_01_4) (λ x3 h3. gives_ret (Of 7) _ ((h0, h1, h2, h3), refl)))))
gives_pass (suc (suc (suc (suc (suc (suc (suc (suc zero)))))))) = gives_then _ (gives_1) (λ x0 h0. gives_ret (Of 8) _ (h0, refl))
gives_pass (suc (suc (suc (suc (suc (suc (suc (suc (suc zero))))))))) = gives_then _ (gives_1) (λ x0 h0. gives_ret (Of 9) _ (h0, refl))
gives_pass (suc (suc (suc (suc (suc (suc (suc (suc (suc (suc zero)))))))))) = gives_then _ (gives_1) (λ x0 h0. gives_ret (Of 10) _ (h0, refl))
gives_pass (suc (suc (suc (suc (suc (suc (suc (suc (suc (suc (suc k))))))))))) = gives_refuse (Of _) 4

-- a normalised record of a kind that may come once more, not below the last, that holds nothing
abbrev New : List ℕ → Record → Type 0
New seen r = NormalPass r.pass × (full (kind_of r.pass) seen ≡ false) × (ltb (kind_of r.pass) (last_of 0 seen) ≡ false) × (r.held ≡ nothing)

gives_record : (seen : List ℕ) → Gives (record_at seen) (New seen)
unfolding record_at
gives_record seen =
    gives_here
    (λ q. gives_then _ (gives_field 4)
    (λ k hk. gives_then _ (gives_guard 4 q _)
    (λ u g₄. gives_then _ (gives_guard 5 q _)
    (λ u g₅. gives_then _ (gives_guard 15 q _)
    (λ u g₁₅. gives_then _ (gives_field 1)
    (λ on ho. gives_then _ (gives_pass k)
    (λ p hp. gives_ret (New seen) _
    (hp.0, ap (λ (j : ℕ). full j seen) hp.1 ∙ g₅, ap (λ (j : ℕ). ltb j (last_of 0 seen)) hp.1 ∙ g₁₅, refl))))))))

-- n normalised records after those that are done
record More (n : ℕ) (done rs : List Record) : Type 0 where
  more : List Record
  joined : rs ≡ done ++ more
  normal : NormalChain done more
  long : length more ≡ n

gives_records : (n : ℕ) (done : List Record) → Gives (records_at n done) (More n done)
unfolding records_at
gives_records zero done = gives_ret (More 0 done) done (record { more = []; joined = sym (append-nil done); normal = tt; long = refl })
gives_records (suc n) done =
    gives_then _ (gives_record (kinds done))
    (λ r hr. record { gives = λ card p rs q e. go r hr rs ((gives_records n (done ++ r ∷ [])).gives card p rs q e) })
  where
    go : (r : Record) → New (kinds done) r → (rs : List Record) → More n (done ++ r ∷ []) rs → More (suc n) done rs
    go r hr rs m =
        record {
          more = r ∷ m.more;
          joined = m.joined ∙ append_assoc done (r ∷ []) m.more;
          normal = (hr.0, hr.1, hr.2, hr.3, m.normal);
          long = ap suc m.long;
        }

-- a station of normalised records
pub record Opens (s : Station) : Type 0 where
  pub chain : List Record
  pub whole : s ≡ station_of chain
  pub normal : NormalChain [] chain
  pub few : length chain ≤ 12

gives_end : Gives end_at (λ u. Unit {0})
gives_end = record { gives = λ card p u q e. tt }

pub gives_station : Gives station_at Opens
unfolding station_at
gives_station =
    gives_then _ gives_header
    (λ n few. gives_then _ (gives_records n [])
    (λ rs h. gives_then _ gives_end
    (λ u w. gives_ret Opens (station_of rs)
    (record {
      chain = rs;
      whole = refl;
      normal = subst (λ (l : List Record). NormalChain [] l) (sym h.joined) h.normal;
      few = subst (λ (l : List Record). length l ≤ 12) (sym h.joined) (omega (arith, h.long));
    }))))
