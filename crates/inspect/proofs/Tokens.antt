-- Hexadecimal text read token by token. Assumes nothing.
use Prim.Native.Nat.{ℕ, suc, ◌+◌, ◌*◌, ◌≤◌, ◌<◌}
use native.Mathlib.Omega.{arith}
use mathlib.Core.Bool.{Bool, true, false, cond, ◌&&◌}
use mathlib.Core.List.{List, [], ◌∷◌, ◌++◌, append_assoc, append-nil}
use mathlib.Core.Path.{◌≡◌, refl, ap, sym, ◌∙◌}
use lib.Dec.{eqb}
use lib.ListN.{length, drop, get_or, drop_of_length-le, length-append}
use lib.Seq.{drop-cons, drop-drop}
use Rattle.std.specs.Prelude.{Option, Some, None, option_map}
use Rattle.num.specs.Laws.Bools.{false_true}
use Rattle.inspect.specs.Hexadecimal.{Hex, digit_of, is_digit, space, before, hex_of, is_hex, bytes_of}
use Rattle.inspect.specs.Private.{token_of}
use Rattle.inspect.specs.declared.hexadecimal.Token.{Token}
use Rattle.inspect.specs.declared.hexadecimal.Token.TheVariants.{Space, Pair}

-- ## What a token tells of the text

-- bytes before those of a text
abbrev joined : List ℕ → Hex → Hex
joined xs (Some bs) = Some (xs ++ bs)
joined xs None = None

joined_none : (h : Hex) → h ≡ joined [] h
joined_none (Some bs) = refl
joined_none None = refl

joined-before : (xs : List ℕ) (b : ℕ) (h : Hex) → joined xs (before b h) ≡ joined (xs ++ b ∷ []) h
joined-before xs b (Some bs) = ap Some (sym (append_assoc xs (b ∷ []) bs))
joined-before xs b None = refl

joined-few : (xs : List ℕ) (h : Hex) → is_hex (joined xs h) ≡ true → length xs ≤ length (bytes_of (joined xs h))
joined-few xs (Some bs) e = omega (arith, length-append xs bs)
joined-few xs None e = false_true e

-- a token, and the text after it
abbrev told : List ℕ → Option Token → Hex
told l (Some Space) = hex_of (drop 1 l)
told l (Some (Pair b)) = before b (hex_of (drop 2 l))
told l None = None

by_token : (a : ℕ) (l : List ℕ) → hex_of (a ∷ l) ≡ told (a ∷ l) (token_of (a ∷ l))
unfolding hex_of
by_token a [] = by (eqb a space)
  where
    by : (t : Bool) → cond t (Some []) None ≡ told (a ∷ []) (cond t (Some Space) None)
    by true = refl
    by false = refl
by_token a (b ∷ l) = by (eqb a space) (is_digit a && is_digit b)
  where
    by : (t u : Bool) → let v = digit_of a * 16 + digit_of b in
        cond t (hex_of (b ∷ l)) (cond u (before v (hex_of l)) None) ≡ told (a ∷ b ∷ l) (cond t (Some Space) (option_map Pair (cond u (Some v) None)))
    by true u = refl
    by false true = refl
    by false false = refl

-- ## Reading on

-- the text up to the present place is these bytes, and what is left decides
pub record Read (text : List ℕ) (at : ℕ) (done : List ℕ) : Type 0 where
  pub so_far : hex_of text ≡ joined done (hex_of (drop at text))

pub read_none : (text : List ℕ) → Read text 0 []
read_none text = record { so_far = joined_none (hex_of text) }

module _ {text done : List ℕ} {at : ℕ} (r : Read text at done) where
  pub read_all : length text ≤ at → hex_of text ≡ Some done
  unfolding hex_of
  read_all end = r.so_far ∙ ap (λ (l : List ℕ). joined done (hex_of l)) (drop_of_length-le text end) ∙ ap Some (append-nil done)

  next : at < length text → (t : Option Token) → t ≡ token_of (drop at text) → hex_of text ≡ joined done (told (drop at text) t)
  next inside t e =
      let whole : hex_of (drop at text) ≡ told (drop at text) (token_of (drop at text)) = rw (drop-cons text at 0) (by_token (get_or text at 0) (drop (suc at) text)) in
      r.so_far ∙ ap (joined done) (whole ∙ ap (told (drop at text)) (sym e))

  pub read-space : at < length text → Some Space ≡ token_of (drop at text) → Read text (at + 1) done
  read-space inside e = record { so_far = next inside (Some Space) e ∙ ap (λ (l : List ℕ). joined done (hex_of l)) (drop-drop 1 at text) }

  pub read_pair : at < length text → (b : ℕ) → Some (Pair b) ≡ token_of (drop at text) → Read text (at + 2) (done ++ b ∷ [])
  read_pair inside b e =
      record {
        so_far = next inside (Some (Pair b)) e ∙ ap (λ (l : List ℕ). joined done (before b (hex_of l))) (drop-drop 2 at text) ∙ joined-before done b (hex_of (drop (at + 2) text));
      }

  pub read-other : at < length text → None ≡ token_of (drop at text) → hex_of text ≡ None
  read-other inside e = next inside None e

  -- a hexadecimal text has at least the bytes that are read
  pub read-few : is_hex (hex_of text) ≡ true → length done ≤ length (bytes_of (hex_of text))
  read-few h = rw r.so_far (joined-few done (hex_of (drop at text)) (rw r.so_far at h))
