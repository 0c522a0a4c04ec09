-- `cards::writer::Sheet::put` meets its contract: the first i bits are pasted. Assumes nothing.
use Prim.Native.Nat.{ℕ, ◌+◌, ◌-◌, ◌/◌, ◌%◌, ◌^◌}
use native.Mathlib.Omega.{arith}
use native.Mathlib.Numerals.{add-one}
use mathlib.Core.Path.{◌≡◌, refl, ap, ap₂, sym, ◌∙◌}
use mathlib.Core.List.{List}
use lib.ListN.{length, set}
use borrow.Author.Rules.{rules}
use lib.Seq.{paste, paste-zero, paste-suc}
use Rattle.cards.specs.Written.{bits as bits_of}
use Rattle.cards.proofs.Packed.{length-bits}
use Rattle.cards.proofs.Sheets.{bits_at, laid}
use Rattle.cards.proofs.writer.Sheet.put.Goals as goal

pub loop-i-init : goal.loop-i-init
loop-i-init c = let s = c.args.self.now in
    (omega arith, refl, paste-zero s.bits s.at (bits_of c.args.width c.args.v))

pub loop-i-preserved : goal.loop-i-preserved
loop-i-preserved c = let a = c.args in
    let s = a.self.now in
    let i = c.loop-i.i in
    let all = bits_of a.width a.v in
    let long : length s.bits ≡ 1608 = search rules in (
      omega arith,
      c.loop-i.invariant.1,
      rw (add-one, c.loop-i.invariant.1)
          (ap (λ (l : List ℕ). set l (s.at + i) (a.v / 2 ^ (a.width - 1 - i) % 2)) c.loop-i.invariant.2
          ∙ ap (set (paste s.bits s.at all i) (s.at + i)) (sym (bits_at a.width a.v i (omega arith)))
          ∙ paste-suc s.bits s.at all i 0 (omega arith) (omega (arith, length-bits a.width a.v))),
    )

pub returns-clause-bits : goal.returns-clause-bits
returns-clause-bits c = let a = c.args in
    let s = a.self.now in
    let done : c.loop-i.i ≡ a.width = omega arith in
    ap₂ (λ (l : List ℕ) (at : ℕ). record { bits = l; at = at + a.width }) (c.loop-i.invariant.2 ∙ ap (paste s.bits s.at (bits_of a.width a.v)) done) c.loop-i.invariant.1
    ∙ laid s a.width (bits_of a.width a.v) (length-bits a.width a.v)
