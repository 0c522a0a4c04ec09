-- `texts::settings::pass_of` meets its contract: arm by arm. Assumes nothing.
use mathlib.Core.Path.{refl, sym, ap, ◌∙◌}
use native.Mathlib.Omega.{arith}
use lib.ListN.{drop}
use Rattle.cards.specs.declared.station.Pass.TheVariants.{Scanlines}
use Rattle.texts.specs.Settings.{Maker, last, makers, pass_of}
use Rattle.texts.proofs.Tables.{arm, outside, up}
use Rattle.texts.proofs.settings.pass_of.Goals as goal

pub returns-in-1 : goal.returns-in-1
returns-in-1 c = let a = c.args in arm (λ k. pass_of k a.a a.b a.c a.d) a.kind 1 (omega arith) (rw (c.real_in.ensures, c.whole_in.ensures) refl)

pub returns-in-2 : goal.returns-in-2
returns-in-2 c = let a = c.args in arm (λ k. pass_of k a.a a.b a.c a.d) a.kind 2 (omega arith) (rw (c.whole_in-in-2.ensures, c.real_in-in-2.ensures, c.whole_in-in-2-2.ensures) refl)

pub returns-in-3 : goal.returns-in-3
returns-in-3 c = let a = c.args in arm (λ k. pass_of k a.a a.b a.c a.d) a.kind 3 (omega arith) (rw (c.real_in-in-3.ensures, c.real_in-in-3-2.ensures, c.real_in-in-3-3.ensures) refl)

pub returns-in-4 : goal.returns-in-4
returns-in-4 c = let a = c.args in arm (λ k. pass_of k a.a a.b a.c a.d) a.kind 4 (omega arith) (rw (c.real_in-in-4.ensures, c.whole_in-in-4.ensures) refl)

pub returns-in-5 : goal.returns-in-5
returns-in-5 c = let a = c.args in arm (λ k. pass_of k a.a a.b a.c a.d) a.kind 5 (omega arith) (rw (c.whole_in-in-5.ensures, c.real_in-in-5.ensures) refl)

pub returns-in-6 : goal.returns-in-6
returns-in-6 c = let a = c.args in arm (λ k. pass_of k a.a a.b a.c a.d) a.kind 6 (omega arith) (rw c.real_in-in-6.ensures refl)

pub returns-in-7 : goal.returns-in-7
returns-in-7 c = let a = c.args in arm (λ k. pass_of k a.a a.b a.c a.d) a.kind 7 (omega arith) (rw (c.real_in-in-7.ensures, c.real_in-in-7-2.ensures, c.real_in-in-7-3.ensures, c.real_in-in-7-4.ensures) refl)

pub returns-in-8 : goal.returns-in-8
returns-in-8 c = let a = c.args in arm (λ k. pass_of k a.a a.b a.c a.d) a.kind 8 (omega arith) (rw c.real_in-in-8.ensures refl)

pub returns-in-9 : goal.returns-in-9
returns-in-9 c = let a = c.args in arm (λ k. pass_of k a.a a.b a.c a.d) a.kind 9 (omega arith) (rw c.real_in-in-9.ensures refl)

pub returns-in_default : goal.returns-in_default
returns-in_default c = let a = c.args in
    let n = c.in_default.in_default-own.rest in
    ap Scanlines c.real_in-in_default.ensures
    ∙ ap (λ (make : Maker). make a.a a.b a.c a.d) (sym (outside last (drop 1 makers) a.kind (λ some. (up (up (up (up (up (up (up (up (up some n.0.0.0.0.0.0.0.0.1) n.0.0.0.0.0.0.0.1) n.0.0.0.0.0.0.1) n.0.0.0.0.0.1) n.0.0.0.0.1) n.0.0.0.1) n.0.0.1) n.0.1) n.1))))
