-- `sheets::write::close` meets its contract: the count stands before the events, and they are a sheet. Assumes nothing.
use Prim.Native.Nat.{ℕ}
use mathlib.Core.Path.{refl, subst}
use native.Mathlib.Omega.{arith}
use Rattle.cards.specs.Bits.{field_at}
use Rattle.sheets.specs.Written.{Writes}
use Rattle.sheets.proofs.Writing.{is-sheet}
use Rattle.sheets.proofs.write.close.Goals as goal

pub returns : goal.returns
returns c = let count = subst (λ (k : ℕ). Writes (field_at 16) c.args.n 0 k c.args.sheet.now c.put.new.sheet) c.put.ensures.1 c.put.ensures.0 in
    record {
      size = refl;
      whole = λ events there padded. is-sheet c.requires.1 (omega (arith, c.requires.2, c.put.auto.sheet)) refl count events there padded;
      behind = count.behind;
    }
