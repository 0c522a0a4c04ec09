-- The card's theorems: a written card opens as the station that it was written from, and two accepted cards are written alike exactly when they open alike. Assumes nothing.
use Prim.Native.Nat.{ℕ, ◌≤◌}
use mathlib.Core.Path.{◌≡◌, refl, ap, sym, subst, ◌∙◌}
use mathlib.Core.List.{List, []}
use lib.ListN.{length}
use lib.Seq.{take-append_seam}
use Rattle.cards.specs.Answers.{Reply}
use Rattle.cards.specs.Laws.Answers.{accepted-not}
use Rattle.cards.specs.Typed.{Unheld}
use Rattle.cards.specs.Step.{Step, took, refused}
use Rattle.cards.specs.Card.{station_of, station_at, opened_of, accepted, open_of}
use Rattle.cards.specs.Alike.{Alike, chain_of}
use Rattle.cards.specs.Claims.{WrittenBack, WrittenAlike, NormalTwice}
use Rattle.cards.specs.Written.{chain_card, card_of}
use Rattle.cards.specs.declared.station.Record.{Record}
use Rattle.cards.specs.declared.station.Station.{Station}
use Rattle.cards.proofs.Chain.{NormalChain, normal_unheld, chain_back}
use Rattle.cards.proofs.Gives.{Opens, gives_station}
use Rattle.cards.proofs.Same.{chains_same}

-- the station of an accepted card is one of normalised records
pub accepted_opens : (card : List ℕ) (s : Station) → open_of card ≡ accepted s → Opens s
unfolding open_of
accepted_opens card s e = go (station_at card 0) refl e
  where
    go : (t : Step Station) → station_at card 0 ≡ t → opened_of t ≡ accepted s → Opens s
    go (took s' n) h e = subst Opens (ap (λ (o : Reply). o.station) e) (gives_station.gives card 0 s' n h)
    go (refused k) h e = accepted-not [] k.number (sym (ap (λ (o : Reply). o.answer) e))

pub chain_opens : (rs : List Record) → length rs ≤ 12 → NormalChain [] rs → open_of (card_of (station_of rs)) ≡ accepted (station_of rs)
unfolding open_of card_of
chain_opens rs few n =
    ap (λ (l : List Record). opened_of (station_at (chain_card l) 0)) (take-append_seam rs _) ∙ ap opened_of (chain_back rs few n)

-- reading a written card gives the same station
pub written_back : WrittenBack
written_back card s e =
    let o = accepted_opens card s e in
    subst (λ (t : Station). open_of (card_of t) ≡ accepted t) (sym o.whole) (chain_opens o.chain o.few o.normal)

-- the station of an accepted card is that of its chain
station-is : (s : Station) → Opens s → s ≡ station_of (chain_of s)
station-is s o = o.whole ∙ ap station_of (sym (take-append_seam o.chain _) ∙ ap chain_of (sym o.whole))

chain_unheld : (s : Station) → Opens s → Unheld (chain_of s)
chain_unheld s o = subst Unheld (sym (ap chain_of o.whole ∙ take-append_seam o.chain _)) (normal_unheld o.chain [] o.normal)

pub written_alike : WrittenAlike
written_alike card other s t e f = (
  (λ same. ap (λ (o : Reply). o.station) (sym (written_back card s e) ∙ ap open_of same ∙ written_back other t f), λ same. ap card_of same),
  (
    λ same. subst (λ (u : Station). Alike s u) same (record { same_order = refl; same_switches = refl; same_settings = refl }),
    λ alike. station-is s (accepted_opens card s e) ∙ ap station_of (chains_same s t (chain_unheld s (accepted_opens card s e)) (chain_unheld t (accepted_opens other t f)) alike) ∙ sym (station-is t (accepted_opens other t f)),
  ),
)

pub normal_twice : NormalTwice
normal_twice card s t e f = ap (λ (o : Reply). card_of o.station) (sym f ∙ written_back card s e)
