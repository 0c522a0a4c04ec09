-- The places of a history, written one after another with the words of a source. Assumes nothing.
use Rattle.std.proofs.Common.{◌≡◌, ℕ, zero, suc, ◌+◌, ◌-◌, ◌*◌, ◌<◌, ◌≤◌, List, ◌++◌, length, take, drop, sym, refl, ap, ◌∙◌, subst, ap₂, append_assoc, zero-le, le_refl, le_of_suc-le-suc, not-suc-le-zero, suc-mul, add-mul, le_antisymm, zero-mul, add-one, arith, length-append, length-drop, take-append-drop, length-take-le, take_all, drop-drop, take_at, take-add, drop_at}
use lib.Seq.{take-append_seam, drop-append-add, paste}
use Rattle.passes.specs.Laws.Persistence.{oldest, grown, k_places, k_room, oldest_long, grown_long}
use Rattle.passes.specs.Laws.Rows.{row_ends}
use Rattle.passes.specs.Plain.Persistence.{copies}

-- the invariant of a loop by places of n words: the first j of `depth` are written, and place j begins at word j * n
pub record Written (n depth j : ℕ) (src was is : List ℕ) : Type 0 where
  pub room : depth * n ≤ length was
  pub enough : depth * n ≤ length src
  pub places : j ≤ depth
  pub kept : length is ≡ length was
  pub done : is ≡ take (j * n) src ++ drop (j * n) was

pub none : (n depth : ℕ) (src was : List ℕ) → depth * n ≤ length was → depth * n ≤ length src → Written n depth 0 src was was
none n depth src was r e = record { room = r; enough = e; places = zero-le; kept = refl; done = rw (zero-mul n) refl }

module _ {n depth j : ℕ} {src was is : List ℕ} (t : Written n depth j src was is) where
  abbrev k : ℕ
  k = j * n

  -- the place after it
  turn : k + n ≡ (j + 1) * n
  turn = sym (suc-mul j n) ∙ ap (λ (m : ℕ). m * n) (sym (add-one j))

  -- the next place lies within the history
  pub place_in : j < depth → j * n + n ≤ length was
  place_in l = omega (arith, t.room, row_ends n depth j l)

  -- what is done, by its two parts
  front : j < depth → length (take k src) ≡ k
  front l = length-take-le k src (omega (arith, t.enough, row_ends n depth j l))

  fore : j < depth → take k is ≡ take k src
  fore l = ap (take k) t.done ∙ take_at (take k src) (drop k was) k (front l)

  rest : j < depth → drop k is ≡ drop k was
  rest l = ap (drop k) t.done ∙ drop_at (take k src) (drop k was) k (front l)

  -- the next place is lent as it was
  pub place : j < depth → take (j * n + n - j * n) (drop (j * n) is) ≡ take n (drop (j * n) was)
  place l =
      let e : k + n - k ≡ n = omega arith in
      rw e (ap (take n) (rest l))

  pub place-length : j < depth → length (take (j * n + n - j * n) (drop (j * n) is)) ≡ n
  place-length l = ap length (place l) ∙ length-take-le n (drop k was) (simp length-drop (omega (arith, place_in l)))

  -- it came back as `new`, the words of the source
  pub more : (new : List ℕ) → j < depth → new ≡ take n (drop (j * n) src)
      → Written n depth (j + 1) src was (take (j * n) is ++ (new ++ drop (j * n + n - j * n) (drop (j * n) is)))
  more new l h =
      let e : k + n - k ≡ n = omega arith in
      let done : take k is ++ (new ++ drop (k + n - k) (drop k is)) ≡ take (k + n) src ++ drop (k + n) was =
      rw e
      (ap₂ (λ (x y : List ℕ). x ++ (new ++ drop n y)) (fore l) (rest l)
      ∙ ap₂ (λ (x y : List ℕ). take k src ++ (x ++ y)) h (drop-drop n k was)
      ∙ sym (append_assoc (take k src) (take n (drop k src)) (drop (k + n) was))
      ∙ ap (λ (x : List ℕ). x ++ drop (k + n) was) (sym (take-add k n src))) in
      record {
        room = t.room;
        enough = t.enough;
        places = omega arith;
        kept = ap length done ∙ length-append (take (k + n) src) _
            ∙ omega (arith, length-take-le (k + n) src (omega (arith, t.enough, row_ends n depth j l)), length-drop (k + n) was, place_in l);
        done = done ∙ ap (λ (m : ℕ). take m src ++ drop m was) turn;
      }

  pub all : depth ≤ j → is ≡ take (depth * n) src ++ drop (depth * n) was
  all l = t.done ∙ ap (λ (m : ℕ). take m src ++ drop m was) (ap (λ (m : ℕ). m * n) (le_antisymm t.places l))

-- ## Refilling: each place of the copies is the frame

pub copies-place : (j depth : ℕ) (frame : List ℕ) → j < depth → take (length frame) (drop (j * length frame) (copies depth frame)) ≡ frame
unfolding copies
copies-place j zero frame l = absurd (not-suc-le-zero l)
copies-place zero (suc depth) frame l = rw (zero-mul (length frame)) (take-append_seam frame (copies depth frame))
copies-place (suc j) (suc depth) frame l =
    let size : suc j * length frame ≡ length frame + j * length frame = omega (arith, suc-mul j (length frame)) in
    rw size (ap (take (length frame)) (drop-append-add frame (copies depth frame) (j * length frame)) ∙ copies-place j depth frame (le_of_suc-le-suc l))

-- ## Shifting: each place gets what stood in the place before, and the first gets the frame

-- what is carried to place j of a history `was` that gets a frame: the words that come there
pub record Carried (depth j : ℕ) (frame was carried is : List ℕ) : Type 0 where
  pub written : Written (length frame) depth j (frame ++ was) was is
  pub size : length carried ≡ length frame
  pub next : carried ≡ take (length frame) (drop (j * length frame) (frame ++ was))

pub carried_none : (depth : ℕ) (frame was : List ℕ) → depth * length frame ≤ length was → Carried depth 0 frame was frame was
carried_none depth frame was r = record {
  written = none (length frame) depth (frame ++ was) was r (simp length-append (omega arith));
  size = refl;
  next = sym (rw (zero-mul (length frame)) (take-append_seam frame was));
}

module _ {depth j : ℕ} {frame was carried is : List ℕ} (t : Carried depth j frame was carried is) where
  -- the place and what is carried are exchanged
  pub carried_more : (left new : List ℕ) → j < depth → new ≡ carried → (let k = j * length frame in left ≡ take (k + length frame - k) (drop k is))
      → let k = j * length frame in Carried depth (j + 1) frame was left (take k is ++ (new ++ drop (k + length frame - k) (drop k is)))
  carried_more left new l e f =
      let n = length frame in
      let k = j * n in
      let m : k + n ≡ n + k = omega arith in
      record {
        written = more t.written new l (e ∙ t.next);
        size = ap length f ∙ place-length t.written l;
        next = f ∙ place t.written l ∙ ap (take n) (sym (rw m (drop-append-add frame was k)) ∙ ap (λ (i : ℕ). drop i (frame ++ was)) (turn t.written));
      }

-- ## A larger depth: each further place gets what stands in the oldest

module _ (k d n : ℕ) (was : List ℕ) where
  abbrev old : List ℕ
  old = oldest k n was

  abbrev all_places : List ℕ
  all_places = grown k d n was

  -- k places are to become d, of which the first j stand
  pub record Growing (j : ℕ) (is : List ℕ) : Type 0 where
    pub some : 1 ≤ k
    pub stand : k ≤ j
    pub written : Written n d j all_places was is

  module _ (some : 1 ≤ k) (grows : k ≤ d) (room : d * n ≤ length was) where
    abbrev newer : ℕ
    newer = (k - 1) * n

    room_k : k * n ≤ length was
    room_k = k_room k d n was some room grows

    -- from the oldest on they are copies of it
    grown-is : all_places ≡ take newer was ++ copies (suc (d - k)) old
    unfolding copies
    grown-is =
        ap (λ (m : ℕ). take m was ++ copies (d - k) old) (k_places k n some)
        ∙ ap (λ (l : List ℕ). l ++ copies (d - k) old) (take-add newer n was)
        ∙ append_assoc (take newer was) old (copies (d - k) old)

    grown-place : (j i : ℕ) → j ≡ k - 1 + i → i < suc (d - k) → take n (drop (j * n) all_places) ≡ old
    grown-place j i e l =
        let long : length (take newer was) ≡ newer = length-take-le newer was (omega (arith, k_places k n some, room_k)) in
        let at : j * n ≡ length (take newer was) + i * n = ap (λ (m : ℕ). m * n) e ∙ add-mul (k - 1) i n ∙ ap (λ (m : ℕ). m + i * n) (sym long) in
        ap₂ (λ (m : ℕ) (l : List ℕ). take n (drop m l)) at grown-is
        ∙ ap (take n) (drop-append-add (take newer was) (copies (suc (d - k)) old) (i * n))
        ∙ subst (λ (m : ℕ). take m (drop (i * m) (copies (suc (d - k)) old)) ≡ old) (oldest_long k d n was some room grows) (copies-place i (suc (d - k)) old l)

    pub growing : Growing k was
    growing = record {
      some = some;
      stand = le_refl k;
      written = record {
        room = room;
        enough = omega (arith, grown_long k d n was some room grows);
        places = grows;
        kept = refl;
        done = sym (ap (λ (l : List ℕ). l ++ drop (k * n) was) (take_at (take (k * n) was) (copies (d - k) old) (k * n) (length-take-le (k * n) was room_k))
            ∙ take-append-drop (k * n) was);
      };
    }

  module _ {j : ℕ} {is : List ℕ} (g : Growing j is) where
    abbrev t : Written n d j all_places was is
    t = g.written

    abbrev at : ℕ
    at = j * n

    grows : k ≤ d
    grows = omega (arith, g.stand, t.places)

    -- a further place
    module _ (l : j < d) where
      back : at ≡ (j - 1) * n + n
      back =
          let e : j ≡ suc (j - 1) = omega (arith, g.some, g.stand) in
          ap (λ (m : ℕ). m * n) e ∙ suc-mul (j - 1) n

      -- there is a place before it
      pub before_in : n ≤ j * n
      before_in = omega (arith, back)

      -- whose words come here
      repeats : take n (drop (at - n) is) ≡ take n (drop at all_places)
      repeats =
          let place = grown-place g.some grows t.room in
          let start : at - n ≡ (j - 1) * n = omega (arith, back) in
          let split : take at all_places ≡ take (at - n) all_places ++ take n (drop (at - n) all_places) =
          let e : at ≡ at - n + n = omega (arith, back) in
          ap (λ (i : ℕ). take i all_places) e ∙ take-add (at - n) n all_places in
          let short : length (take (at - n) all_places) ≡ at - n = length-take-le (at - n) all_places (omega (arith, t.enough, row_ends n d j l)) in
          let one = place (j - 1) (j - k) (omega (arith, g.some, g.stand)) (omega arith) in
          ap (λ (x : List ℕ). take n (drop (at - n) x)) (t.done ∙ ap (λ (x : List ℕ). x ++ drop at was) split
          ∙ append_assoc (take (at - n) all_places) (take n (drop (at - n) all_places)) (drop at was))
          ∙ ap (take n) (drop_at (take (at - n) all_places) (take n (drop (at - n) all_places) ++ drop at was) (at - n) short)
          ∙ take_at (take n (drop (at - n) all_places)) (drop at was) n
          (ap (λ (i : ℕ). length (take n (drop i all_places))) start ∙ ap length one ∙ oldest_long k d n was g.some t.room grows)
          ∙ ap (λ (i : ℕ). take n (drop i all_places)) start
          ∙ one
          ∙ sym (place j (suc (j - k)) (omega (arith, g.some, g.stand)) (omega (arith, g.stand)))

      pub growing_more : {new : List ℕ} → new ≡ paste is (j * n) (drop (j * n - n) is) n → Growing (j + 1) new
      growing_more e =
          let words = take n (drop (at - n) is) in
          let size : at + n - at ≡ n = omega arith in
          record {
            some = g.some;
            stand = omega (arith, g.stand);
            written =
                subst (Written n d (j + 1) all_places was)
                (ap (λ (i : ℕ). take at is ++ (words ++ drop i (drop at is))) size
                ∙ ap (λ (x : List ℕ). take at is ++ (words ++ x)) (drop-drop n at is)
                ∙ sym (append_assoc (take at is) words (drop (at + n) is))
                ∙ sym e)
                (more t words l repeats);
          }

    pub grown_all : d ≤ j → is ≡ all_places ++ drop (d * n) was
    grown_all l =
        all t l ∙ ap (λ (x : List ℕ). x ++ drop (d * n) was) (take_all (d * n) all_places (omega (arith, grown_long k d n was g.some t.room grows)))
