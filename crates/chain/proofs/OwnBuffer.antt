-- Every call keeps the length of the own buffer. Assumes nothing.
use Prim.Native.Nat.{ℕ, ◌*◌}
use mathlib.Core.Path.{◌≡◌, refl, ◌∙◌}
use mathlib.Core.List.{List, [], ◌∷◌}
use lib.Ieee.{Float}
use lib.ListN.{length, take}
use lib.Seq.{length_front, length-take-le}
use Rattle.cards.specs.Alike.{chain_of}
use Rattle.chain.specs.Calls.{shown_by, frame_reply, frame_reply_by, depth_reply}
use Rattle.chain.specs.Machine.{Call, frame, reset, switch, ask, commit, step, new_depth, State, call, after, run}
use Rattle.cards.specs.Settings.{one_at_least}
use Rattle.cards.specs.declared.station.Station.{Station}
use Rattle.passes.specs.Laws.Persistence.{resized-length}
use Rattle.passes.specs.Painted.{painted}
use Rattle.chain.proofs.Deeper.{deep_enough, deepens}
use Rattle.chain.proofs.Goes.{goes}
use Rattle.chain.proofs.Sound.{by-stop}
use Rattle.chain.proofs.Turns.{chain-past}

frame_past : (w h : ℕ) (s : Station) (words past : List ℕ) (m i : ℕ) (curve : List Float) → length (frame_reply w h s words past m i curve).past ≡ length past
unfolding frame_reply_by shown_by
frame_past w h s words past m i curve =
    by-stop (λ r. length r.past ≡ length past) _ s words past _ refl
    (λ z.
    let g = goes s w h (length words) (length past) m i curve z in
    (chain-past w h curve (chain_of s) (painted (take (h * w) words) 0) past (length-take-le (h * w) words g.frame_room) g.past_room).0)

depth-past : (d : ℕ) (s : Station) (past : List ℕ) → length (depth_reply d s past).past ≡ length past
unfolding depth_reply
depth-past d s past =
    by-stop (λ r. length r.past ≡ length past) _ s [] past _ refl
    (λ z.
    let g = deepens s d (length past) z in
    resized-length _ (one_at_least d) _ past (deep_enough s g.there) g.room)

pub call_length : (c : Call) (s : State) → length (after c s).history ≡ length s.history
unfolding call after
call_length (frame w h words l m i curve) s =
    let past = take l s.history in
    length_front s.history (frame_reply w h s.station words past m i curve).past l (frame_past w h s.station words past m i curve)
call_length reset s = refl
call_length (switch kind on) s = refl
call_length (ask kind on) s = refl
call_length commit s = refl
call_length step s = refl
call_length (new_depth d l) s =
    let past = take l s.history in
    length_front s.history (depth_reply d s.station past).past l (depth-past d s.station past)

pub run_length : (s : State) (cs : List Call) → length (run s cs).history ≡ length s.history
unfolding run
run_length s [] = refl
run_length s (c ∷ cs) = run_length (after c s) cs ∙ call_length c s
