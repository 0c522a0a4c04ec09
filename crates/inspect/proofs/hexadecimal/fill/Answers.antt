-- `inspect::hexadecimal::fill` meets its contract: the bytes that are read stand at the start of the buffer. Assumes nothing.
use Prim.Native.Nat.{ℕ, suc, ◌+◌, ◌≤◌, ◌<◌}
use native.Mathlib.Numerals.{add-one}
use native.Mathlib.Omega.{arith}
use mathlib.Core.Bool.{true}
use mathlib.Core.List.{List, [], ◌∷◌, ◌++◌}
use mathlib.Core.Path.{◌≡◌, refl, ap, sym, ◌∙◌}
use lib.ListN.{length, drop, set, get_or, length-append, length-set}
use lib.Seq.{append_snoc, drop-cons, set_at}
use Rattle.std.specs.Prelude.{Some}
use Rattle.num.specs.Laws.Bools.{false_true}
use Rattle.inspect.specs.Hexadecimal.{Hex, hex_of, is_hex, bytes_of}
use Rattle.inspect.specs.Private.{token_of}
use Rattle.inspect.specs.declared.hexadecimal.Token.TheVariants.{Pair}
use Rattle.inspect.proofs.Tokens.{Read, read_none, read-space, read_pair, read-other, read_all, read-few}
use Rattle.inspect.proofs.hexadecimal.fill.Goals as goal

-- one byte more
stored : (done old : List ℕ) (n b : ℕ) → length done ≡ n → n < length old → set (done ++ drop n old) n b ≡ (done ++ b ∷ []) ++ drop (n + 1) old
stored done old n b many room =
    rw add-one
    (ap (λ (l : List ℕ). set (done ++ l) n b) (drop-cons old n 0 room) ∙ set_at done (get_or old n 0) (drop (suc n) old) b n many ∙ sym (append_snoc done b (drop (suc n) old)))

-- the byte that is read next has its place
module _ {text done : List ℕ} {at n byte : ℕ} (r : Read text at done) (inside : at < length text) (many : length done ≡ n) (is : Some (Pair byte) ≡ token_of (drop at text)) where
  more : Read text (at + 2) (done ++ byte ∷ [])
  more = read_pair r inside byte is

  long : length (done ++ byte ∷ []) ≡ n + 1
  long = length-append done (byte ∷ []) ∙ ap (λ (k : ℕ). k + 1) many

  room : (out : List ℕ) → is_hex (hex_of text) ≡ true → length (bytes_of (hex_of text)) ≤ length out → n < length out
  room out hex fits = omega (arith, long, read-few more hex, fits)

pub loop-at-init : goal.loop-at-init
loop-at-init c = record { done = _; read = read_none _; many = refl; front = refl; kept = refl }

pub loop-at-preserved-in-Some-Space : goal.loop-at-preserved-in-Some-Space
loop-at-preserved-in-Some-Space c = let i = c.loop-at.invariant in
    record {
      done = i.done;
      read = read-space i.read c.loop-at-test.true (ap Some (sym c.in-Some-Space.field-0-is) ∙ sym c.in-Some-Space.is ∙ c.token_at.ensures);
      many = i.many;
      front = i.front;
      kept = i.kept;
    }

pub bounds-out-n : goal.bounds-out-n
bounds-out-n c = let i = c.loop-at.invariant in
    omega (arith, room i.read c.loop-at-test.true i.many (ap Some (sym c.in-Some-Pair.field-0-is) ∙ sym c.in-Some-Pair.is ∙ c.token_at.ensures) _ c.requires.0 c.requires.1, i.kept)

pub overflow_add-n : goal.overflow_add-n
overflow_add-n c = let i = c.loop-at.invariant in
    omega (arith, room i.read c.loop-at-test.true i.many (ap Some (sym c.in-Some-Pair.field-0-is) ∙ sym c.in-Some-Pair.is ∙ c.token_at.ensures) _ c.requires.0 c.requires.1)

pub loop-at-preserved : goal.loop-at-preserved
loop-at-preserved c =
    let l = c.loop-at in
    let i = l.invariant in
    let is : Some (Pair c.in-Some-Pair.b) ≡ token_of (drop l.at c.args.text.now) = ap Some (sym c.in-Some-Pair.field-0-is) ∙ sym c.in-Some-Pair.is ∙ c.token_at.ensures in
    let fits = room i.read c.loop-at-test.true i.many is _ c.requires.0 c.requires.1 in
    record {
      done = i.done ++ c.in-Some-Pair.b ∷ [];
      read = more i.read c.loop-at-test.true i.many is;
      many = long i.read c.loop-at-test.true i.many is;
      front = ap (λ (x : List ℕ). set x l.n c.in-Some-Pair.b) i.front ∙ stored i.done c.args.out.now l.n c.in-Some-Pair.b i.many fits;
      kept = length-set l.out l.n c.in-Some-Pair.b ∙ i.kept;
    }

pub shape_of-out-in-None : goal.shape_of-out-in-None
shape_of-out-in-None c = c.loop-at.invariant.kept

pub returns-in-None : goal.returns-in-None
returns-in-None c = let none = read-other c.loop-at.invariant.read c.loop-at-test.true (sym c.in-None.is ∙ c.token_at.ensures) in
    false_true (ap is_hex (sym none) ∙ c.requires.0)

pub shape_of-out : goal.shape_of-out
shape_of-out c = c.loop-at.invariant.kept

pub returns : goal.returns
returns c = let i = c.loop-at.invariant in
    let old = c.args.out.now in
    let whole = read_all i.read c.loop-at-test.false in
    i.front ∙ ap (λ (k : ℕ). i.done ++ drop k old) (sym i.many) ∙ ap (λ (h : Hex). bytes_of h ++ drop (length (bytes_of h)) old) (sym whole)
