-- Laying a chain record by record. Assumes nothing.
use Prim.Native.Nat.{ℕ, suc, ◌+◌, ◌*◌, ◌≤◌, ◌<◌}
use native.Mathlib.Omega.{arith}
use native.Mathlib.Numerals.{add-one}
use mathlib.Core.Path.{◌≡◌, refl, ap, sym, ◌∙◌}
use mathlib.Core.List.{List, [], ◌∷◌, ◌++◌, append-nil}
use lib.ListN.{length, take, drop, get_or, length-append, take-append-drop, drop_of_length-le}
use Rattle.std.proofs.Common.{drop-cons}
use Rattle.cards.specs.Written.{bits, record_bits, records_bits, chain_bits}
use Rattle.cards.specs.Sheet.{lay}
use Rattle.cards.specs.declared.station.Record.{Record}
use Rattle.cards.specs.declared.writer.Sheet.{Sheet}
use Rattle.cards.proofs.Packed.{length-bits}
use Rattle.cards.proofs.Sheets.{lay-lay, lay_then, lay-far}
use Rattle.cards.proofs.Records.{record_short}

abbrev sheet : List ℕ → ℕ → Sheet
sheet bs at = record { bits = bs; at = at }

pub records_short : (rs : List Record) → length (records_bits rs) ≤ 133 * length rs
unfolding records_bits
records_short [] = omega arith
records_short (r ∷ rs) = omega (arith, length-append (record_bits r) (records_bits rs), record_short r, records_short rs)

-- where the loop stands after i records: those are laid, and laying the rest leads to the end
pub record Laying (rs : List Record) (end s : Sheet) (i : ℕ) : Type 0 where
  pub near : s.at ≤ 8 + 133 * i
  pub same : lay s (records_bits (drop i rs)) ≡ end

pub laid_one : (rs : List Record) (end s : Sheet) (i : ℕ) (d : Record) → Laying rs end s i → i < length rs
    → (t : Sheet) → t ≡ lay s (record_bits (get_or rs i d)) → Laying rs end t (i + 1)
unfolding records_bits
laid_one rs end s i d l i<n t e =
    let r = get_or rs i d in
    let rest = drop (suc i) rs in
    record {
      near = omega (arith, lay-far s t (record_bits r) e, record_short r, l.near);
      same =
          rw add-one
          (ap (λ (u : Sheet). lay u (records_bits rest)) e
          ∙ lay-lay s (record_bits r) (records_bits rest)
          ∙ ap (λ (xs : List Record). lay s (records_bits xs)) (sym (drop-cons rs i d i<n))
          ∙ l.same);
    }

lay_nil : (s : Sheet) → lay s [] ≡ s
unfolding lay
lay_nil s =
    let none : s.at + 0 ≡ s.at = omega arith in
    rw none
    (ap (λ (l : List ℕ). sheet l s.at) (ap (λ (l : List ℕ). l ++ drop s.at s.bits) (append-nil (take s.at s.bits)) ∙ take-append-drop s.at s.bits))

pub laid_all : (rs : List Record) (end s : Sheet) (i : ℕ) → Laying rs end s i → length rs ≤ i → s ≡ end
unfolding records_bits
laid_all rs end s i l h =
    sym (lay_nil s)
    ∙ ap (λ (xs : List Record). lay s (records_bits xs)) (sym (drop_of_length-le rs {i = i} h))
    ∙ l.same

-- the header is laid
pub laid_none : (rs : List Record) (b t s : Sheet) → b.at ≡ 0 → t ≡ lay b (bits 4 1) → s ≡ lay t (bits 4 (length rs))
    → Laying rs (lay b (chain_bits rs)) s 0
unfolding chain_bits
laid_none rs b t s e₀ e₁ e₂ =
    let n = length rs in
    record {
      near = omega (arith, lay-far b t (bits 4 1) e₁, lay-far t s (bits 4 n) e₂, length-bits 4 1, length-bits 4 n);
      same = lay_then b t _ (bits 4 1) (bits 4 n ++ records_bits rs) e₁ (lay_then t s _ (bits 4 n) (records_bits rs) e₂ refl);
    }
