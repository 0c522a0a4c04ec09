-- A printed text lies within its buffer. Assumes nothing.
use Rattle.std.specs.Prelude.{ℕ, ◌≤◌, List, length}
use Rattle.std.proofs.Common.{ap, arith, length-append}
use Rattle.events.specs.Buffers.{Printed}

-- the text lies within the buffer
pub fits : {text : List ℕ} {n : ℕ} {out out' : List ℕ} → Printed text n out out' → n ≤ length out'
fits p = omega (arith, p.size, simp length-append at (ap length p.front))
