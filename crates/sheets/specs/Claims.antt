-- What is proved of playing a sheet: it makes its calls one by one, and two stations that play one sheet agree as two that share a list do. The proofs are in
-- proofs/Calls.antt. Assumes nothing.
use Rattle.std.specs.Prelude.{ℕ, ◌+◌, ◌≤◌, ◌≡◌, cond, List, [], ◌∷◌, ◌++◌, length, drop}
use Rattle.cards.specs.Answers.{ok}
use Rattle.cards.specs.Card.{accepted, open_of}
use Rattle.cards.specs.Step.{took}
use Rattle.cards.specs.Written.{card_of}
use Rattle.cards.specs.declared.station.Station.{Station}
use Rattle.chain.specs.Agree.{opened, SameFirst, Comparable, point}
use Rattle.chain.specs.Machine.{Call, State, Seen, run, saw}
use Rattle.sheets.specs.Events.{Event, sheet_at}
use Rattle.sheets.specs.Play.{Lent, Playing, call_of, turn, turns, begun}

-- the calls that events are, each with the framebuffer that the one before it left
unfoldable pub calls_of : Lent → List Event → Playing → List Call
calls_of l [] p = []
calls_of l (e ∷ es) p = call_of l p.words e ∷ calls_of l es (turn l e p)

-- how many of what calls gave are acceptances
unfoldable pub acceptances : List Seen → ℕ
acceptances [] = 0
acceptances (g ∷ gs) = cond (ok g.answer) 1 0 + acceptances gs

-- the framebuffer that pictures leave, each written over its start
unfoldable pub pictured : List Seen → List ℕ → List ℕ
pictured [] words = words
pictured (g ∷ gs) words = pictured gs (g.picture ++ drop (length g.picture) words)

-- The station and the history that events leave are those of their calls, made one by one on the plain machine; the framebuffer has the pictures of the
-- accepted frames alone; and the two numbers are how many calls were accepted and how many were not.
abbrev pub Plays-calls : Type 0
Plays-calls =
    (l : Lent) (es : List Event) (s : State) (words : List ℕ) →
    let t : Playing = turns l es (begun s words) in
    let cs : List Call = calls_of l es (begun s words) in
    (t.state ≡ run s cs) × (t.words ≡ pictured (saw s cs) words) × (t.accepted ≡ acceptances (saw s cs)) × (t.accepted + t.refused ≡ length es)

abbrev pub Sheets-agree : Type 0
Sheets-agree =
    -- two accepted cards that normalise alike, own history buffers with any words, and own lists of any calls, after which the stations are comparable
    (card other : List ℕ) (a b : Station) → open_of card ≡ accepted a → open_of other ≡ accepted b → card_of a ≡ card_of b
    → (H G : List ℕ) (own own' : List Call) →
    let s : State = run (opened a H) own in
    let t : State = run (opened b G) own' in
    Comparable s.station t.station
    -- one accepted sheet
    → (sheet : List ℕ) (es : List Event) (n : ℕ) → sheet_at sheet 0 ≡ took es n
    -- framebuffers of one length with any words, as much of all else lent to both, from either own buffer, and the same curve
    → (words words' : List ℕ) → length words ≡ length words' → (l l' : Lent) → l.history ≡ l'.history → l.floats ≡ l'.floats → l.ints ≡ l'.ints
    → SameFirst 256 l.curve l'.curve → l.history ≤ length H → l.history ≤ length G →
    let cs : List Call = calls_of l es (begun s words) in
    let ds : List Call = calls_of l' es (begun t words') in
    -- the point is one for both, and from it on each answer, returned station and picture is equal
    (point s t cs ds ≡ point t s ds cs) × (drop (point s t cs ds) (saw s cs) ≡ drop (point s t cs ds) (saw t ds))
