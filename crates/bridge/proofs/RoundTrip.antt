-- The round trip: a station is read back from the bytes that it is encoded in. Assumes nothing.
use Prim.Native.Nat.{ℕ, suc, ◌+◌, ◌-◌, ◌/◌, ◌≤◌}
use native.Mathlib.Omega.{arith}
use mathlib.Core.Path.{◌≡◌, refl, ap, ap₂, sym, subst, ◌∙◌}
use mathlib.Core.Bool.{Bool, true, false, ◌&&◌, cond}
use mathlib.Core.List.{List, [], ◌∷◌, ◌++◌, append_assoc}
use borrow.Author.Tests.{ne_eqb}
use lib.Dec.{eqb}
use lib.ListN.{length, get_or, take, drop, replicate, length-append, length-drop, length-map, take-append-drop}
use lib.Seq.{length-take-le, take-append_seam, take_at, drop_at, get_or-append-add}
use Rattle.num.specs.Held.{nothing, fine_held}
use Rattle.cards.specs.Answers.{ok, Reply}
use Rattle.chain.specs.Calls.{rechain, pend, forget}
use Rattle.chain.specs.Chain.{with_held}
use Rattle.cards.specs.Card.{accepted, open_of}
use Rattle.cards.specs.Alike.{chain_of}
use Rattle.cards.specs.Normal.{normal_chain, askable, good_station}
use Rattle.cards.specs.Passes.{kind_of}
use Rattle.cards.specs.Records.{kinds, among}
use Rattle.cards.specs.Typed.{TypedChain, Unheld}
use Rattle.cards.specs.Written.{bits, record_bits, records_bits, chain_bits, pack, chain_card, card_of}
use Rattle.cards.specs.declared.station.Pending.{Pending}
use Rattle.cards.specs.declared.station.Pending.TheVariants.{Nothing, Switch}
use Rattle.cards.specs.declared.station.Record.{Record}
use Rattle.cards.specs.declared.station.Station.{Station}
use Rattle.num.specs.Laws.Bools.{neither, false_true}
use Rattle.cards.proofs.Chain.{known}
use Rattle.cards.specs.Laws.Good.{good, is_good, nothing-fine, unheld}
use Rattle.cards.proofs.Longest.{station-short}
use Rattle.cards.proofs.Survives.{survives}
use Rattle.bridge.specs.Claims.{Whole, RoundTrip}
use Rattle.bridge.specs.State.{padded, sizes_bytes, kind_byte, position_byte, kept_bytes, laid, encoded}
use Rattle.bridge.specs.State.{card_in, hold_in, hold_on, pending_of, pending_in, station_in, same_bytes, is_state}
use Rattle.bridge.proofs.Bytes.{same_itself}
use Rattle.bridge.proofs.Laid.{padded_long}
use Rattle.bridge.proofs.Sizes.{sizes_long, sizes-append, sizes_back}

-- ## The same station with no history and nothing asked of it has the same card, and is good too

forget_unheld : (rs : List Record) → Unheld (forget rs)
forget_unheld [] = tt
forget_unheld (r ∷ rs) = (refl, forget_unheld rs)

forget_typed : (rs : List Record) → TypedChain rs → TypedChain (forget rs)
forget_typed [] t = tt
forget_typed (r ∷ rs) t = (t.0, forget_typed rs t.1)

forget_normal : (seen : List ℕ) (rs : List Record) → normal_chain seen (forget rs) ≡ normal_chain seen rs
unfolding normal_chain
forget_normal seen [] = refl
forget_normal seen (r ∷ rs) = rw (forget_normal (seen ++ kind_of r.pass ∷ []) rs) refl

forget-bits : (rs : List Record) → records_bits (forget rs) ≡ records_bits rs
unfolding records_bits record_bits
forget-bits [] = refl
forget-bits (r ∷ rs) = ap (λ (l : List ℕ). record_bits r ++ l) (forget-bits rs)

forget-card : (rs : List Record) → chain_card (forget rs) ≡ chain_card rs
unfolding chain_card chain_bits
forget-card rs =
    ap₂ (λ (n : ℕ) (l : List ℕ). let bs : List ℕ = bits 4 1 ++ (bits 4 n ++ l) in pack ((length bs + 7) / 8) bs)
    (length-map rs (with_held nothing)) (forget-bits rs)

abbrev bare : Station → Station
bare s = pend Nothing (rechain (forget (chain_of s)) s)

module _ (s : Station) (whole : Whole s) where
  chain_long : length (chain_of s) ≡ s.n
  chain_long = length-take-le s.n s.records (omega (arith, whole.twelve, (good s whole.good).few))

  forget_long : length (forget (chain_of s)) ≡ s.n
  forget_long = length-map (chain_of s) (with_held nothing) ∙ chain_long

  bare-chain : chain_of (bare s) ≡ forget (chain_of s)
  bare-chain = take_at (forget (chain_of s)) _ s.n forget_long

  bare-rest : drop s.n (bare s).records ≡ drop s.n s.records
  bare-rest = drop_at (forget (chain_of s)) _ s.n forget_long

  bare_twelve : length (bare s).records ≡ 12
  bare_twelve =
      length-append (forget (chain_of s)) (drop s.n s.records)
      ∙ omega (arith, forget_long, length-drop s.n s.records, whole.twelve, (good s whole.good).few)

  bare_good : good_station (bare s) ≡ true
  bare_good =
      let g = good s whole.good in
      let u = unheld (chain_of (bare s)) (subst Unheld (sym bare-chain) (forget_unheld (chain_of s))) in
      is_good (bare s)
      (record {
        few = g.few;
        normal = ap (normal_chain []) bare-chain ∙ forget_normal [] (chain_of s) ∙ g.normal;
        fine = ap fine_held u.0 ∙ nothing-fine;
        holds = u.1 _;
        asks = refl;
      })

  bare-card : card_of (bare s) ≡ card_of s
  unfolding card_of
  bare-card = ap chain_card bare-chain ∙ forget-card (chain_of s)

  bare_opens : open_of (card_of s) ≡ accepted (bare s)
  bare_opens =
      ap open_of (sym bare-card)
      ∙ survives (bare s) bare_good (subst TypedChain (sym bare-chain) (forget_typed (chain_of s) whole.typed))
      (subst Unheld (sym bare-chain) (forget_unheld (chain_of s))) refl bare_twelve (bare-rest ∙ whole.rest)

-- ## What is asked for

-- no pass has kind 0
no_zero : (rs : List Record) → among 0 (kinds rs) ≡ false
no_zero [] = refl
no_zero (r ∷ rs) = rw (neither (eqb (kind_of r.pass) 0) _ (known r.pass)).0 (no_zero rs)

-- so the two bytes of what is asked of a chain tell it
asked_back : (q : Pending) (rs : List Record) → askable q rs ≡ true → pending_of (kind_byte q) (position_byte q) ≡ q
asked_back Nothing rs e = refl
asked_back (Switch kind on) rs e =
    let some : eqb kind 0 ≡ false = ne_eqb kind 0 (λ z. false_true (sym (no_zero rs) ∙ ap (λ (k : ℕ). among k (kinds rs)) (sym z) ∙ e)) in
    rw some (ap (Switch kind) (position on))
  where
    position : (b : Bool) → eqb (cond b 1 0) 1 ≡ b
    position true = refl
    position false = refl

-- ## The bytes of a station

module _ (s : Station) (whole : Whole s) where
  short : length (card_of s) ≤ 83
  short = station-short s whole.good

  encoded-is : encoded s ≡ laid s
  unfolding encoded
  encoded-is = rw whole.good refl

  card_in_lem : card_in (laid s) ≡ card_of s
  card_in_lem =
      ap (take (length (card_of s))) (append_assoc (card_of s) (replicate (83 - length (card_of s)) 0) (kept_bytes s)) ∙ take-append_seam (card_of s) _

  -- the bytes before what is held
  abbrev front : List ℕ
  front = length (card_of s) ∷ padded (card_of s)

  front_long : length front ≡ 84
  front_long = ap suc (padded_long (card_of s) short)

  abbrev asked : List ℕ
  asked = kind_byte s.pending ∷ position_byte s.pending ∷ []

  -- of the chain, and of the places past it
  split : sizes_bytes s.records ≡ sizes_bytes (chain_of s) ++ sizes_bytes (drop s.n s.records)
  split = ap sizes_bytes (sym (take-append-drop s.n s.records)) ∙ sizes-append (chain_of s) (drop s.n s.records)

  held_in : hold_in 84 (laid s) (forget (chain_of s)) ≡ chain_of s
  held_in =
      let past : List ℕ = sizes_bytes (drop s.n s.records) in
      ap (λ (l : List ℕ). hold_in 84 (front ++ l) (forget (chain_of s)))
      (ap (λ (l : List ℕ). l ++ asked) split ∙ append_assoc (sizes_bytes (chain_of s)) past asked)
      ∙ sizes_back (chain_of s) front (past ++ asked) 84 front_long

  -- byte i of what is asked for
  byte : (i : ℕ) → get_or (laid s) (132 + i) 0 ≡ get_or asked i 0
  byte i =
      let l : List ℕ = front ++ sizes_bytes s.records in
      let long : length l ≡ 132 =
      length-append front (sizes_bytes s.records) ∙ omega (arith, front_long, sizes_long s.records, whole.twelve) in
      ap (λ (b : List ℕ). get_or b (132 + i) 0) (sym (append_assoc front (sizes_bytes s.records) asked))
      ∙ ap (λ (k : ℕ). get_or (l ++ asked) (k + i) 0) (sym long) ∙ get_or-append-add l asked i 0

  pending_in_lem : pending_in (laid s) ≡ s.pending
  pending_in_lem = ap₂ pending_of (byte 0) (byte 1) ∙ asked_back s.pending (chain_of s) (good s whole.good).asks

  opens : open_of (card_in (laid s)) ≡ accepted (bare s)
  opens = ap open_of card_in_lem ∙ bare_opens s whole

  records_in : (hold_on (laid s) (bare s)).records ≡ s.records
  records_in =
      ap₂ (λ (chain rest : List Record). hold_in 84 (laid s) chain ++ rest) (bare-chain s whole) (bare-rest s whole)
      ∙ ap (λ (chain : List Record). chain ++ drop s.n s.records) held_in ∙ take-append-drop s.n s.records

  station_in_lem : station_in (laid s) ≡ s
  station_in_lem =
      ap₂ (λ (q : Pending) (o : Reply). pend q (hold_on (laid s) o.station)) pending_in_lem opens
      ∙ ap (λ (rs : List Record). record { records = rs; n = s.n; pending = s.pending }) records_in

  is_state_lem : is_state (laid s) ≡ true
  unfolding is_state
  is_state_lem =
      ap₂ (λ (o : Reply) (t : Station). ok o.answer && same_bytes (encoded t) (laid s)) opens station_in_lem
      ∙ ap (λ (b : List ℕ). same_bytes b (laid s)) encoded-is ∙ same_itself (laid s)

pub round_trip : RoundTrip
round_trip s whole = (
  ap is_state (encoded-is s whole) ∙ is_state_lem s whole,
  ap station_in (encoded-is s whole) ∙ station_in_lem s whole,
)
