-- Laws of what a history holds: one shape is one size, and which sizes may be held. Assumes nothing.
use Rattle.std.specs.Prelude.{ℕ, ◌≤◌, ◌<◌, true, ◌≡◌, eqb}
use Rattle.std.proofs.Common.{arith, ap₂, eqb-true, le-leb, ne_eqb}
use Rattle.num.specs.Held.{Held, sized, same_held, fine_held}
use Rattle.num.specs.Laws.Bools.{both}

pub same_held_lem : (held other : Held) → same_held held other ≡ true → held ≡ other
unfolding same_held
same_held_lem held other e =
    let d = both (eqb held.width other.width) (eqb held.height other.height) e in
    ap₂ sized (eqb-true held.width other.width d.0) (eqb-true held.height other.height d.1)

-- the size of any frame that is taken
pub fine-sized : (w h : ℕ) → 0 < w → w ≤ 1024 → 0 < h → h ≤ 1024 → fine_held (sized w h) ≡ true
unfolding fine_held
fine-sized w h p l q m =
    rw (le-leb w 1024 l, le-leb h 1024 m, ne_eqb w 0 (λ e. absurd (omega arith)), ne_eqb h 0 (λ e. absurd (omega arith)))
