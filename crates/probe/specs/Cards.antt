-- A card's way through opening and writing. Assumes nothing.
use Rattle.std.specs.Prelude.{ℕ, List, get_or, set}
use Rattle.num.specs.Held.{Held}
use Rattle.cards.specs.Answers.{Report, refusal, acceptance, told, left}
use Rattle.cards.specs.Card.{open_of}
use Rattle.cards.specs.Laws.Scans.{past}
use Rattle.cards.specs.Write.{write_reply, write_into}
use Rattle.cards.specs.declared.station.Record.{Record}
use Rattle.cards.specs.declared.station.Station.{Station}

-- the station whose record at that place remembers that size; the same where it has no such place
abbrev pub holding : Station → ℕ → Held → Station
holding s at held =
    let r : Record = get_or s.records at past in
    record { records = set s.records at (record { on = r.on; pass = r.pass; held = held }); n = s.n; pending = s.pending }

-- a refusal, else what comes after it
abbrev pub and_then : Report → Report → Report
and_then (refusal k) next = refusal k
and_then (acceptance r) next = next

-- no card is so long that its length could be taken for a refusal
abbrev pub answer_of : List ℕ → ℕ → Held → List ℕ → ℕ
answer_of card at held out = let o = open_of card in told (and_then o.answer (write_reply (holding o.station at held) out).answer)

abbrev pub bytes_of : List ℕ → ℕ → Held → List ℕ → List ℕ
bytes_of card at held out = let o = open_of card in left o.answer out (write_into (holding o.station at held) out)
