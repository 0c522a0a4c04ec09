-- `chain::first::place` meets its contract. Assumes nothing.
use Rattle.std.specs.Prelude.{ℕ, ◌≡◌, true, Option, length, IfOk}
use Rattle.std.proofs.Common.{Some, None, sym, ap, ◌∙◌, arith}
use Rattle.std.specs.List.{position}
use Rattle.std.specs.Option.{ok_or}
use Rattle.num.specs.Refusals.{code}
use Rattle.num.specs.declared.refusal.Refusal.TheVariants as R
use Rattle.cards.specs.Alike.{chain_of}
use Rattle.cards.specs.Laws.Good.{good}
use Rattle.cards.specs.Normal.{good_station}
use Rattle.cards.specs.declared.station.Station.{Station}
use Rattle.chain.specs.Calls.{lacks}
use Rattle.chain.specs.Lent.{Found}
use Rattle.chain.proofs.FirstOf.{is_kind, found, placed-among}
use Rattle.chain.proofs.first.place.Goals as goal

-- what is found or not, as the definition says it
module _ (kind : ℕ) (s : Station) (g : good_station s ≡ true) where
  told : (o : Option ℕ) → o ≡ position (is_kind kind) (chain_of s) → code (ok_or o R.NotInChain) ≡ lacks s kind
  unfolding lacks
  told (Some i) e = simp (g, placed-among kind (chain_of s), sym e)
  told None e = simp (g, placed-among kind (chain_of s), sym e)

  there : length s.records ≡ 12 → (o : Option ℕ) → o ≡ position (is_kind kind) (chain_of s) → IfOk (ok_or o R.NotInChain) (Found kind s)
  there long (Some i) e =
      let few = (good s g).few in
      let f = found kind s.n s.records i (omega arith) (sym e) in
      record { first = f; few = few; room = omega arith; inside = omega (arith, f.within) }
  there long None e = tt

pub returns-clause-refusal : goal.returns-clause-refusal
returns-clause-refusal c =
    rw c.ok_or.ensures.value
    (told _ _ (sym c.is_good.ensures ∙ c.if-not-is_good.false) _ (c.first.ensures ∙ ap (position (is_kind c.args.kind)) c.chain.ensures.chain))

pub returns-clause-place : goal.returns-clause-place
returns-clause-place c =
    rw c.ok_or.ensures.value
    (there _ _ (sym c.is_good.ensures ∙ c.if-not-is_good.false) c.chain.ensures.few.1 _
    (c.first.ensures ∙ ap (position (is_kind c.args.kind)) c.chain.ensures.chain))
