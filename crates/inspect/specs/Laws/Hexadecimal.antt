-- What is decoded lies within the buffer. Assumes nothing.
use Rattle.std.specs.Prelude.{ℕ, ◌≤◌, Bool, true, false, cond, List, ◌++◌, leb, length, drop, ◌≡◌, refl, Some, None, Ok, Err}
use Rattle.std.proofs.Common.{length-append, length-drop, arith}
use Rattle.inspect.specs.declared.hexadecimal.DecodeError.TheVariants.{NoRoom}
use Rattle.inspect.specs.Hexadecimal.{Hex, answer_for, hex_of, left_in, decode_answer, decode_into}

-- the bytes that are told lie within the buffer
pub decoded-within : (text out : List ℕ) (n : ℕ) → decode_answer text out ≡ Ok n → n ≤ length (decode_into text out)
unfolding decode_answer decode_into
decoded-within text out n e = go (hex_of text) e
  where
    fits : (bs : List ℕ) (b : Bool) → leb (length bs) (length out) ≡ b → cond b (Ok (length bs)) (Err NoRoom) ≡ Ok n
        → n ≤ length (cond b (bs ++ drop (length bs) out) out)
    fits bs true t e =
        let same : length bs ≡ n = cc in
        simp (length-append, length-drop) (omega arith)
    fits bs false t e = absurd (let z : ◌≡◌ {A = ℕ} 0 1 = cc in omega arith)

    go : (h : Hex) → answer_for (length out) h ≡ Ok n → n ≤ length (left_in out h)
    go (Some bs) e = fits bs (leb (length bs) (length out)) refl e
    go None e = absurd (let z : ◌≡◌ {A = ℕ} 0 1 = cc in omega arith)
