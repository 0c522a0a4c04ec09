-- The depth of a chain: the sum grows record by record; and what a chain is lent is enough for its passes. Assumes nothing.
use Prim.Native.Nat.{ℕ, zero, suc, ◌+◌, ◌*◌, ◌≤◌, ◌<◌, zero-le}
use native.Mathlib.Nat.{le_of_suc-le-suc, not-suc-le-zero}
use native.Mathlib.Omega.{arith}
use mathlib.Core.Path.{◌≡◌}
use mathlib.Core.Bool.{true}
use mathlib.Core.List.{List, [], ◌∷◌, ◌++◌}
use lib.ListN.{length, take, get_or}
use lib.ListN.{length-take}
use Rattle.num.specs.Held.{area}
use Rattle.num.specs.declared.size.Size.{Size}
use Rattle.cards.specs.Alike.{chain_of}
use Rattle.chain.specs.Chain.{depth, depth_of, reads, reads_curve}
use Rattle.chain.specs.Lent.{Readies}
use Rattle.cards.specs.Normal.{good_station, normal_pass, normal_chain}
use Rattle.cards.specs.Passes.{kind_of}
use Rattle.cards.specs.declared.station.Record.{Record}
use Rattle.cards.specs.declared.station.Station.{Station}
use Rattle.cards.specs.Laws.Good.{good, headed}
use Rattle.num.specs.Laws.Bools.{or_left, or-second}

pub depth_more : (rs : List Record) (i : ℕ) (d : Record) → i < length rs → depth (take (suc i) rs) ≡ depth (take i rs) + depth_of (get_or rs i d).pass
unfolding depth
depth_more [] i d l = absurd (not-suc-le-zero l)
depth_more (r ∷ rs) zero d l = omega arith
depth_more (r ∷ rs) (suc i) d l = omega (arith, depth_more rs i d (le_of_suc-le-suc l))

-- fewer records are not deeper
pub depth_less : (rs : List Record) (i : ℕ) → depth (take i rs) ≤ depth rs
unfolding depth
depth_less rs zero = zero-le
depth_less [] (suc i) = zero-le
depth_less (r ∷ rs) (suc i) = omega (arith, depth_less rs i)

-- every pass of a normalised chain is normalised
pub normal_at : (seen : List ℕ) (rs : List Record) → normal_chain seen rs ≡ true → (i : ℕ) (d : Record) → i < length rs → normal_pass (get_or rs i d).pass ≡ true
normal_at seen [] h i d l = absurd (not-suc-le-zero l)
normal_at seen (r ∷ rs) h zero d l = (headed seen r rs h).normal
normal_at seen (r ∷ rs) h (suc i) d l = normal_at (seen ++ kind_of r.pass ∷ []) rs (headed seen r rs h).others i d (le_of_suc-le-suc l)

-- so is that of each record of a good station's chain

-- a chain reads the curve where one of its passes does
reads_at : (rs : List Record) (i : ℕ) (d : Record) → i < length rs → reads (get_or rs i d).pass ≡ true → reads_curve rs ≡ true
unfolding reads_curve
reads_at [] i d l e = absurd (not-suc-le-zero l)
reads_at (r ∷ rs) zero d l e = or_left (reads r.pass) (reads_curve rs) e
reads_at (r ∷ rs) (suc i) d l e = or-second (reads r.pass) (reads_curve rs) (reads_at rs i d (le_of_suc-le-suc l) e)

-- a good station's records are ready where the history is long enough, and the curve where it is read
pub readies : (s : Station) (size : Size) (room lent : ℕ) → good_station s ≡ true → depth (chain_of s) * area size ≤ room
    → (reads_curve (chain_of s) ≡ true → 256 ≤ lent) → Readies size (chain_of s) room lent
readies s size room lent e fits read =
    let g = good s e in
    record {
      few = omega (arith, length-take s.n s.records, g.few);
      past_room = fits;
      normal = normal_at [] (chain_of s) g.normal;
      curve_room = λ i d l c. read (reads_at (chain_of s) i d l c);
    }
