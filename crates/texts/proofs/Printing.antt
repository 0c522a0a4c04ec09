-- Texts laid into a buffer one after another. Assumes nothing.
use Prim.Native.Nat.{ℕ, ◌+◌, ◌≤◌}
use mathlib.Core.List.{List, [], ◌++◌, append_assoc, append-nil}
use mathlib.Core.Path.{◌≡◌, refl, sym, ap, ap₂, ◌∙◌}
use native.Mathlib.Omega.{arith}
use borrow.Rule.Slice.PartMut.{put_mid}
use native.Mathlib.Nat.{le_refl}
use lib.ListN.{length, take, drop, length-append, length-drop, take-append-drop}
use lib.Seq.{take_at, drop_at, drop-drop, length-take-le}
use Rattle.texts.specs.Print.{laid, Puts, Lays}
use Rattle.texts.specs.declared.print.Page.{Page}

-- ## The buffer

-- nothing laid is nothing changed
pub laid_nil : (at : ℕ) (out : List ℕ) → laid at [] out ≡ out
unfolding laid
laid_nil at out =
    let none : at + 0 ≡ at = omega arith in
    rw none (ap (λ (l : List ℕ). l ++ drop at out) (append-nil (take at out)) ∙ take-append-drop at out)

head_length : (at : ℕ) (xs out : List ℕ) → at ≤ length out → length (take at out ++ xs) ≡ at + length xs
head_length at xs out l = omega (arith, length-append (take at out) xs, length-take-le at out l)

pub laid-length : (at : ℕ) (xs out : List ℕ) → at + length xs ≤ length out → length (laid at xs out) ≡ length out
unfolding laid
laid-length at xs out l =
    omega (arith, length-append (take at out ++ xs) (drop (at + length xs) out), head_length at xs out (omega arith), length-drop (at + length xs) out)

-- one text after another is the two as one
pub laid_then : (at : ℕ) (xs ys out : List ℕ) → at ≤ length out → laid (at + length xs) ys (laid at xs out) ≡ laid at (xs ++ ys) out
unfolding laid
laid_then at xs ys out l =
    let k = at + length xs in
    let all = take at out ++ xs ++ drop k out in
    let far : k + length ys ≡ at + length (xs ++ ys) = omega (arith, length-append xs ys) in
    let cut : length (take at out ++ xs) ≡ k = head_length at xs out l in
    let rest : drop (k + length ys) all ≡ drop (k + length ys) out =
    sym (drop-drop (length ys) k all) ∙ ap (drop (length ys)) (drop_at (take at out ++ xs) (drop k out) k cut) ∙ drop-drop (length ys) k out in
    ap₂ (λ (p q : List ℕ). p ++ ys ++ q) (take_at (take at out ++ xs) (drop k out) k cut) rest
    ∙ ap (λ (p : List ℕ). p ++ drop (k + length ys) out) (append_assoc (take at out) xs ys)
    ∙ ap (λ (j : ℕ). take at out ++ (xs ++ ys) ++ drop j out) far

-- ## Texts put one after another

pub puts_none : (at most : ℕ) (out : List ℕ) → at ≤ length out → Puts [] most at out at out
puts_none at most out l = record { place = omega arith; few = omega arith; within = l; long = refl; bytes = sym (laid_nil at out) }

-- a text copied over a part of the buffer
pub puts_copy : (text out new : List ℕ) (at k : ℕ) → at + length text ≤ length out → k ≡ length text → new ≡ text
    → Puts text (length text) at out (at + length text) (put_mid at k out new)
unfolding laid
puts_copy text out new at k l e is =
    let laid-is : put_mid at k out new ≡ take at out ++ text ++ drop (at + length text) out = rw (e, is, drop-drop (length text) at out) (sym (append_assoc (take at out) text (drop (at + length text) out))) in
    record { place = refl; few = le_refl (length text); within = l; long = ap length laid-is ∙ laid-length at text out l; bytes = laid-is }

pub puts_then : {xs ys : List ℕ} {m n at r s : ℕ} {a b c : List ℕ} → Puts xs m at a r b → Puts ys n r b s c → Puts (xs ++ ys) (m + n) at a s c
puts_then {xs} {ys} {m} {n} {at} {r} {s} {a} {b} {c} p q = record {
  place = omega (arith, p.place, q.place, length-append xs ys);
  few = omega (arith, p.few, q.few, length-append xs ys);
  within = omega (arith, p.long, q.within);
  long = q.long ∙ p.long;
  bytes =
      q.bytes ∙ ap₂ (λ (k : ℕ) (l : List ℕ). laid k ys l) p.place p.bytes ∙ laid_then at xs ys a (omega (arith, p.place, p.within));
}

-- the same text in other words, and a wider bound
pub puts_as : {xs : List ℕ} {m at r : ℕ} {a b : List ℕ} (ys : List ℕ) (n : ℕ) → Puts xs m at a r b → xs ≡ ys → m ≤ n → Puts ys n at a r b
puts_as {xs} {m} {at} {r} {a} {b} ys n p e l = record {
  place = p.place ∙ ap (λ (zs : List ℕ). at + length zs) e;
  few = omega (arith, p.few, ap length e);
  within = p.within;
  long = p.long;
  bytes = p.bytes ∙ ap (λ (zs : List ℕ). laid at zs a) e;
}

-- ## The same on a page, whose buffer is known by a name

module _ {G : Type 0} where
  pub lays_then : {xs ys : List ℕ} {m n at r s : ℕ} {a b c : List ℕ} {g h k : G} → Puts xs m at a r b × (h ≡ g) → Puts ys n r b s c × (k ≡ h)
      → Puts (xs ++ ys) (m + n) at a s c × (k ≡ g)
  lays_then p q = (puts_then p.0 q.0, q.1 ∙ p.1)

  pub lays_as : {xs : List ℕ} {m at r : ℕ} {a b : List ℕ} {g h : G} (ys : List ℕ) (n : ℕ) → Puts xs m at a r b × (h ≡ g) → xs ≡ ys → m ≤ n
      → Puts ys n at a r b × (h ≡ g)
  lays_as ys n p e l = (puts_as ys n p.0 e l, p.1)

  pub lays_none : {at : ℕ} {out : List ℕ} {g : G} (most : ℕ) → at ≤ length out → Puts [] most at out at out × (g ≡ g)
  lays_none most l = (puts_none _ most _ l, refl)

-- ## A loop that has a rest of the text still to put

pub record Putting (text : List ℕ) (at : ℕ) (before rest : List ℕ) (to : ℕ) (out : List ℕ) : Type 0 where
  pub far : to + length rest ≡ at + length text
  pub long : length out ≡ length before
  pub same : laid to rest out ≡ laid at text before

pub putting_none : (text : List ℕ) (at : ℕ) (before : List ℕ) → Putting text at before text at before
putting_none text at before = record { far = refl; long = refl; same = refl }

-- a text at the front of the rest
pub putting_text : {text before rest xs more out after : List ℕ} {at to m r : ℕ} → Putting text at before rest to out → rest ≡ xs ++ more
    → Puts xs m to out r after → Putting text at before more r after
putting_text {text} {before} {rest} {xs} {more} {out} {after} {at} {to} {m} {r} t e p = record {
  far = omega (arith, t.far, p.place, length-append xs more, ap length e);
  long = p.long ∙ t.long;
  same =
      ap₂ (λ (k : ℕ) (l : List ℕ). laid k more l) p.place p.bytes
      ∙ laid_then to xs more out (omega (arith, p.place, p.within))
      ∙ ap (λ (l : List ℕ). laid to l out) (sym e)
      ∙ t.same;
}

-- nothing is left
pub putting_end : {text before rest out : List ℕ} {at to : ℕ} (most : ℕ) → Putting text at before rest to out → rest ≡ [] → to ≤ at + most → to ≤ length before
    → Puts text most at before to out
putting_end {text} {before} {rest} {out} {at} {to} most t e l m =
    let far : to ≡ at + length text = omega (arith, t.far, ap length e) in
    record {
      place = far;
      few = omega arith;
      within = m;
      long = t.long;
      bytes = sym (laid_nil to out) ∙ ap (λ (r : List ℕ). laid to r out) (sym e) ∙ t.same;
    }

-- the same on a page
pub record Laying (text : List ℕ) (before : Page) (rest : List ℕ) (now : Page) : Type 0 where
  pub putting : Putting text before.at before.out.now rest now.at now.out.now
  pub same : now.out.ghost_name ≡ before.out.ghost_name

pub laying_none : (text : List ℕ) (p : Page) → Laying text p text p
laying_none text p = record { putting = putting_none text p.at p.out.now; same = refl }

pub laying_text : {text rest xs more : List ℕ} {m : ℕ} {p q r : Page} → Laying text p rest q → rest ≡ xs ++ more → Lays xs m q r → Laying text p more r
laying_text t e l = record { putting = putting_text t.putting e l.0; same = l.1 ∙ t.same }

pub laying_end : {text rest : List ℕ} {p q : Page} (most : ℕ) → Laying text p rest q → rest ≡ [] → q.at ≤ p.at + most → q.at ≤ length p.out.now → Lays text most p q
laying_end most t e l m = (putting_end most t.putting e l m, t.same)
