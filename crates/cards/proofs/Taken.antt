-- What a reader gives wherever it takes: a property carried from field to field. Assumes nothing.
use Prim.Native.Nat.{ℕ, ◌^◌, ◌<◌}
use native.Mathlib.Omega.{arith}
use mathlib.Core.Path.{◌≡◌, refl, sym, subst}
use mathlib.Core.Bool.{Bool, true, false, cond}
use mathlib.Core.List.{List}
use Rattle.cards.specs.Step.{Step, took, refused, Reader, and_then, ◌>>=◌, ret, stop, here, refuse, refuse_if}
use Rattle.cards.specs.Bits.{field_at}
use Rattle.cards.proofs.Bits.{taken, value_at_lt}

pub record Gives {A : Type 0} (m : Reader A) (P : A → Type 0) : Type 0 where
  pub gives : (card : List ℕ) (p : ℕ) (a : A) (n : ℕ) → m card p ≡ took a n → P a

pub gives_then : {A B : Type 0} {m : Reader A} (f : A → Reader B) {P : A → Type 0} {Q : B → Type 0} → Gives m P → ((a : A) → P a → Gives (f a) Q) → Gives (◌>>=◌ m f) Q
gives_then {A} {B} {m} f {P} {Q} hm hf = record { gives = λ card p b n e. go card p b n (m card p) refl e }
  where
    go : (card : List ℕ) (p : ℕ) (b : B) (n : ℕ) (s : Step A) → m card p ≡ s → and_then s (λ a q. f a card q) ≡ took b n → Q b
    go card p b n (took a q) h e = (hf a (hm.gives card p a q h)).gives card q b n e
    go card p b n (refused i) h e = let z : ◌≡◌ {A = ℕ} 0 1 = cc in absurd (omega arith)

pub gives_ret : {A : Type 0} (P : A → Type 0) (a : A) → P a → Gives (ret a) P
gives_ret P a h = record { gives = λ card p b n e. let same : a ≡ b = cc in subst P same h }

pub gives_refuse : {A : Type 0} (P : A → Type 0) (k : ℕ) → Gives (refuse k) P
gives_refuse P k = record { gives = λ card p b n e. let z : ◌≡◌ {A = ℕ} 0 1 = cc in absurd (omega arith) }

pub gives_here : {A : Type 0} {f : ℕ → Reader A} {P : A → Type 0} → ((p : ℕ) → Gives (f p) P) → Gives (◌>>=◌ here f) P
gives_here h = record { gives = λ card p a n e. (h p).gives card p a n e }

pub gives_guard : (k q : ℕ) (b : Bool) → Gives (refuse_if k q b) (λ u. b ≡ false)
unfolding refuse_if
gives_guard k q b = record { gives = λ card p u n e. go b p u n e }
  where
    go : (b : Bool) (p : ℕ) (u : Unit {0}) (n : ℕ) → cond b (refused (stop k q)) (took tt p) ≡ took u n → b ≡ false
    go true p u n e = cc
    go false p u n e = refl

pub gives_field : (k : ℕ) → Gives (field_at k) (λ v. v < 2 ^ k)
gives_field k = record { gives = λ card p v n e. subst (λ (x : ℕ). x < 2 ^ k) (sym (taken k card p v n e).0) (value_at_lt card p k) }
