-- Writing: 13 first, then 14; else the card at the start of the buffer, the rest untouched, and its length. The station comes back as it was given. Assumes
-- nothing.
use Rattle.std.specs.Prelude.{ℕ, cond, List, [], ◌∷◌, ◌++◌, length, drop, leb}
use Rattle.cards.specs.Answers.{acceptance, Reply, reply, refusing}
use Rattle.cards.specs.Normal.{good_station}
use Rattle.cards.specs.Written.{card_of}
use Rattle.cards.specs.declared.station.Station.{Station}

unfoldable pub write_reply : Station → List ℕ → Reply
write_reply s buf =
    cond (good_station s) (cond (leb (length (card_of s)) (length buf)) (reply (acceptance (length (card_of s) ∷ [])) s) (refusing s 14)) (refusing s 13)

unfoldable pub write_into : Station → List ℕ → List ℕ
write_into s buf = cond (good_station s) (cond (leb (length (card_of s)) (length buf)) (card_of s ++ drop (length (card_of s)) buf) buf) buf
