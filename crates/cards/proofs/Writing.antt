-- The sheet's bytes are the card. Assumes nothing.
use Prim.Native.Nat.{ℕ, ◌+◌, ◌/◌, ◌≤◌, ◌<◌}
use native.Mathlib.Omega.{arith}
use mathlib.Core.Path.{◌≡◌, ap, ap₂, sym, subst, ◌∙◌}
use mathlib.Core.Bool.{true}
use mathlib.Core.List.{List, [], ◌∷◌, ◌++◌}
use lib.ListN.{length, take, drop, get_or, length-append, length-take}
use lib.Dec.{T}
use Rattle.cards.specs.Normal.{normal_chain, good_station}
use Rattle.cards.specs.Written.{bits, records_bits, chain_bits, pack, chain_card, card_of}
use Rattle.cards.specs.Sheet.{lay, blank}
use Rattle.cards.specs.declared.station.Station.{Station}
use Rattle.cards.specs.declared.writer.Sheet.{Sheet}
use Rattle.cards.specs.Laws.Good.{good}
use Rattle.cards.proofs.Packed.{length-bits, length-pack, pack_same, blank-bits}
use Rattle.cards.proofs.Chain.{chain-bits}
use Rattle.cards.proofs.Laying.{records_short}
use Rattle.cards.specs.Answers.{reply, refusal, acceptance}
use Rattle.cards.specs.Write.{write_reply, write_into}
use Rattle.cards.specs.declared.station.Record.{Record}
use borrow.Author.Tests.{le-leb, lt-leb}

pub good_parts : (s : Station) → good_station s ≡ true → (s.n ≤ 12) × T (normal_chain [] (take s.n s.records))
good_parts s e =
    let g = good s e in
    (g.few, subst T (sym g.normal) tt)

module _ (s : Station) (t : Sheet) (e : t ≡ lay blank (chain_bits (take s.n s.records))) where
  far : t.at ≡ length (chain_bits (take s.n s.records))
  unfolding lay
  far = ap (λ (u : Sheet). u.at) e ∙ omega arith

  same : (i : ℕ) → get_or t.bits i 0 ≡ get_or (chain_bits (take s.n s.records)) i 0
  unfolding lay
  same i = ap (λ (u : Sheet). get_or u.bits i 0) e ∙ blank-bits 1608 (chain_bits (take s.n s.records)) i

  pub sheet-bits : (i : ℕ) → get_or t.bits i 0 < 2
  sheet-bits i = rw (same i) ((chain-bits (take s.n s.records)).at i)

  pub card-is : pack ((t.at + 7) / 8) t.bits ≡ card_of s
  unfolding card_of chain_card
  card-is =
      pack_same ((t.at + 7) / 8) t.bits (chain_bits (take s.n s.records)) same
      ∙ ap (λ (k : ℕ). pack ((k + 7) / 8) (chain_bits (take s.n s.records))) far

  pub card_long : length (card_of s) ≡ (t.at + 7) / 8
  card_long = ap length (sym card-is) ∙ length-pack ((t.at + 7) / 8) t.bits

  pub sheet-short : s.n ≤ 12 → t.at ≤ 1604
  unfolding chain_bits
  sheet-short few =
      let chain = take s.n s.records in
      omega (
        arith,
        far,
        length-append (bits 4 1) (bits 4 (length chain) ++ records_bits chain),
        length-append (bits 4 (length chain)) (records_bits chain),
        length-bits 4 1,
        length-bits 4 (length chain),
        records_short chain,
        length-take s.n s.records,
      )

-- what `write` answers once the bits are laid: 14, or the length and the bytes
module _ (s : Station) (rs : List Record) (t : Sheet) (ok : good_station s ≡ true) (all : rs ≡ take s.n s.records) (e : t ≡ lay blank (chain_bits rs)) where
  laid_chain : t ≡ lay blank (chain_bits (take s.n s.records))
  laid_chain = e ∙ ap (λ (l : List Record). lay blank (chain_bits l)) all

  long : length (card_of s) ≡ (t.at + 7) / 8
  long = card_long s t laid_chain

  pub bits_fit : t.at ≤ 1604
  bits_fit = sheet-short s t laid_chain (good_parts s ok).0

  pub bits_are : (i : ℕ) → get_or t.bits i 0 < 2
  bits_are = sheet-bits s t laid_chain

  module _ (buf : List ℕ) where
    pub written_short : length buf < (t.at + 7) / 8 → (reply (refusal 14) s ≡ write_reply s buf) × (buf ≡ write_into s buf)
    unfolding write_reply write_into
    written_short h = let room = lt-leb (length (card_of s)) (length buf) (omega (arith, long)) in (simp (ok, room), simp (ok, room))

    pub written_whole : (t.at + 7) / 8 ≤ length buf → (xs : List ℕ) → xs ≡ pack ((t.at + 7) / 8) t.bits
        → (reply (acceptance ((t.at + 7) / 8 ∷ [])) s ≡ write_reply s buf) × (xs ++ drop ((t.at + 7) / 8) buf ≡ write_into s buf)
    unfolding write_reply write_into
    written_whole h xs p =
        let room = le-leb (length (card_of s)) (length buf) (omega (arith, long)) in (
          simp (ok, room) (ap (λ (n : ℕ). reply (acceptance (n ∷ [])) s) (sym long)),
          simp (ok, room) (ap₂ (λ (l : List ℕ) (k : ℕ). l ++ drop k buf) (p ∙ card-is s t laid_chain) (sym long)),
        )
