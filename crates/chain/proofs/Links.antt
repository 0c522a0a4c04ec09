-- Two chains alike but for what they hold, link by link: how many frames are due until what enters a record agrees (e), until what leaves it does (u), and until
-- all does (at most k). A taken frame takes one off each. Then what each other call makes of such links. Assumes nothing.
use Prim.Native.Nat.{ℕ, zero, suc, ◌+◌, ◌*◌, ◌-◌, ◌≤◌}
use native.Mathlib.Nat.{zero-mul, add-mul, mul-le-mul_right}
use native.Mathlib.Omega.{arith}
use mathlib.Core.Path.{◌≡◌, refl, ap, sym, subst, ◌∙◌}
use mathlib.Core.Bool.{true, false}
use mathlib.Core.List.{List, [], ◌∷◌, ◌++◌, append_assoc}
use lib.Ieee.{Float}
use lib.ListN.{length, take, drop, length-append, length-drop}
use lib.Seq.{take-append-le, take-take, length-take-le, drop_at, take-add, drop-drop}
use Rattle.num.specs.Held.{Held, sized, area}
use Rattle.passes.specs.Flow.{Flow, flow}
use Rattle.passes.specs.Painted.{Painted}
use Rattle.passes.specs.Laws.Lengths.{persistence-held}
use Rattle.passes.specs.Plain.Persistence.{persistence}
use Rattle.chain.specs.Chain.{turn, Ran, with_held, chain, chain_by, depth_of, depth}
use Rattle.cards.specs.Normal.{normal_pass, normal_chain, glows}
use Rattle.cards.specs.Passes.{kind_of}
use Rattle.cards.specs.declared.station.Record.{Record}
use Rattle.cards.specs.Laws.Good.{headed}
use Rattle.chain.proofs.Kept.{Fits, Alike, near_more, near_picture}
use Rattle.chain.proofs.Turns.{Glow, glow_deep, tint, turn_idle, turn_glow, turn_frame, turn-past}

-- the same persistence, whatever it holds
abbrev pub other : (r : Record) (b : Held) → Glow r → Glow (with_held b r)
other r b x = record { amount = x.amount; depth = x.depth; is = x.is; is-on = x.is-on }

-- ## Links

-- one record of two chains, with the words of its history from place `off` on: it changes the frame alone; or it is persistence that is on, and what enters it
-- does not agree yet, or it does and j of its places agree
pub data Link (H G : List ℕ) (off e u : ℕ) (r : Record) (b : Held) : Type 0 where
  idle : glows r ≡ false → u ≡ e → r.held ≡ b → Link H G off e u r b
  blind : (g : Glow r) → u ≡ e + g.depth → Link H G off e u r b
  near : (g : Glow r) (j : ℕ) → e ≡ 0 → u + j ≡ g.depth → r.held ≡ b
      → take (j * area r.held) (drop (off * area r.held) H) ≡ take (j * area r.held) (drop (off * area r.held) G) → Link H G off e u r b

pub data Links (H G : List ℕ) (k : ℕ) : (off e : ℕ) → List Record → List Record → Type 0 where
  last : {off e : ℕ} → e ≤ k → Links H G k off e [] []
  link : {off e : ℕ} (u : ℕ) {r : Record} {b : Held} {rs qs : List Record} → Link H G off e u r b → Links H G k (off + depth_of r.pass) u rs qs
      → Links H G k off e (r ∷ rs) (with_held b r ∷ qs)

-- each record normalised
abbrev pub Normals : List Record → Type 0
Normals [] = Unit {0}
Normals (r ∷ rs) = (normal_pass r.pass ≡ true) × Normals rs

pub normals : (seen : List ℕ) (rs : List Record) → normal_chain seen rs ≡ true → Normals rs
normals seen [] e = tt
normals seen (r ∷ rs) e = let q = headed seen r rs e in (q.normal, normals (seen ++ kind_of r.pass ∷ []) rs q.others)

-- ## Lists

-- a window of the lent words is one of the own buffer
window : (i m l : ℕ) (H : List ℕ) → i + m ≤ l → l ≤ length H → take m (drop i (take l H)) ≡ take m (drop i H)
window i m l H h l_h = sym (front (take l H) (omega (arith, length-take-le l H l_h))) ∙ ap (drop i) (take-take (i + m) l H h) ∙ front H (omega arith)
  where
    front : (X : List ℕ) → i + m ≤ length X → drop i (take (i + m) X) ≡ take m (drop i X)
    front X g = ap (drop i) (take-add i m X) ∙ drop_at (take i X) (take m (drop i X)) i (length-take-le i X (omega arith))

-- the first words of a part that stands behind z
behind : (i m : ℕ) (z p t : List ℕ) → length z ≡ i → m ≤ length p → take m (drop i (z ++ (p ++ t))) ≡ take m p
behind i m z p t e h = ap (take m) (drop_at z (p ++ t) i e) ∙ take-append-le m p t h

-- ## One record, with a frame that both take

module _ (w h l : ℕ) (curve : List Float) (H G : List ℕ) (l_h : l ≤ length H) (l_g : l ≤ length G) where
  abbrev n : ℕ
  n = h * w

  abbrev ran-by : Record → Painted → List ℕ → Flow
  ran-by r = turn w h curve r

  record Passing (off e u : ℕ) (r : Record) (b : Held) (f g : Painted) (P Q : List ℕ) : Type 0 where
    frames : u ≡ 0 → (ran-by r f P).frame ≡ (ran-by (with_held b r) g Q).frame
    past-s : length (ran-by r f P).past ≡ depth_of r.pass * n
    past-t : length (ran-by (with_held b r) g Q).past ≡ depth_of r.pass * n
    links : (z z' t t' : List ℕ) → length z ≡ off * n → length z' ≡ off * n
        → Link (z ++ ((ran-by r f P).past ++ t)) (z' ++ ((ran-by (with_held b r) g Q).past ++ t')) off (e - 1) (u - 1)
        (with_held (ran-by r f P).held r) (ran-by (with_held b r) g Q).held

  module _ (off e u : ℕ) (r : Record) (b : Held) (f g : Painted) (normal : normal_pass r.pass ≡ true) (same : e ≡ 0 → f ≡ g)
      (size : length f.words ≡ n) (size' : length g.words ≡ n) (fits : off * n + depth_of r.pass * n ≤ l)
    where
      abbrev P : List ℕ
      P = take (depth_of r.pass * n) (drop (off * n) (take l H))

      abbrev Q : List ℕ
      Q = take (depth_of r.pass * n) (drop (off * n) (take l G))

      long_s : length P ≡ depth_of r.pass * n
      long_s = length-take-le (depth_of r.pass * n) (drop (off * n) (take l H)) (simp length-drop (omega (arith, length-take-le l H l_h)))

      long_t : length Q ≡ depth_of r.pass * n
      long_t = length-take-le (depth_of r.pass * n) (drop (off * n) (take l G)) (simp length-drop (omega (arith, length-take-le l G l_g)))

      past_of_s : length (ran-by r f P).past ≡ depth_of r.pass * n
      past_of_s = turn-past w h curve r f P (rw size (omega (arith, long_s))) ∙ long_s

      past_of_t : length (ran-by (with_held b r) g Q).past ≡ depth_of r.pass * n
      past_of_t = turn-past w h curve (with_held b r) g Q (rw size' (omega (arith, long_t))) ∙ long_t

      -- m places that agree in the own buffers agree in the parts that the record gets
      parts : (j m : ℕ) → m ≤ j → m ≤ depth_of r.pass → r.held ≡ sized w h
          → take (j * area r.held) (drop (off * area r.held) H) ≡ take (j * area r.held) (drop (off * area r.held) G)
          → take (m * n) P ≡ take (m * n) Q
      parts j m mj mp t q =
          let q' : take (j * n) (drop (off * n) H) ≡ take (j * n) (drop (off * n) G) =
          subst (λ (z : Held). take (j * area z) (drop (off * area z) H) ≡ take (j * area z) (drop (off * area z) G)) t q in
          let a : m * n ≤ j * n = mul-le-mul_right n mj in
          let c : m * n ≤ depth_of r.pass * n = mul-le-mul_right n mp in
          take-take (m * n) (depth_of r.pass * n) (drop (off * n) (take l H)) c ∙ window (off * n) (m * n) l H (omega arith) l_h
          ∙ sym (take-take (m * n) (j * n) (drop (off * n) H) a) ∙ ap (take (m * n)) q' ∙ take-take (m * n) (j * n) (drop (off * n) G) a
          ∙ sym (take-take (m * n) (depth_of r.pass * n) (drop (off * n) (take l G)) c ∙ window (off * n) (m * n) l G (omega arith) l_g)

      module _ (x : Glow r) where
        abbrev K : ℕ
        K = x.depth

        deep : depth_of r.pass ≡ x.depth
        deep = (glow_deep r normal x).0

        some : 1 ≤ x.depth
        some = (glow_deep r normal x).1

        abbrev X : Flow
        X = flow f r.held P

        abbrev Y : Flow
        Y = flow g b Q

        fits_s : Fits x.depth (sized w h) X
        fits_s = record { long = size; room = omega (arith, long_s, ap (λ (k : ℕ). k * n) deep) }

        fits_t : Fits x.depth (sized w h) Y
        fits_t = record { long = size'; room = omega (arith, long_t, ap (λ (k : ℕ). k * n) deep) }

        is-s : ran-by r f P ≡ persistence x.amount x.depth (sized w h) X
        is-s = turn_glow w h curve r f P x

        is-t : ran-by (with_held b r) g Q ≡ persistence x.amount x.depth (sized w h) Y
        is-t = turn_glow w h curve (with_held b r) g Q (other r b x)

        held-s : (ran-by r f P).held ≡ sized w h
        held-s = ap (λ (y : Flow). y.held) is-s ∙ persistence-held x.amount x.depth (sized w h) X

        held-t : (ran-by (with_held b r) g Q).held ≡ sized w h
        held-t = ap (λ (y : Flow). y.held) is-t ∙ persistence-held x.amount x.depth (sized w h) Y

        -- m places agree as far as a frame of this size would meet them: then one more does
        glow_link : (m : ℕ) → e ≡ 0 → suc m ≤ x.depth → (u - 1) + suc m ≡ x.depth → Alike (sized w h) m X Y
            → (z z' t t' : List ℕ) → length z ≡ off * n → length z' ≡ off * n
            → Link (z ++ ((ran-by r f P).past ++ t)) (z' ++ ((ran-by (with_held b r) g Q).past ++ t')) off 0 (u - 1)
            (with_held (ran-by r f P).held r) (ran-by (with_held b r) g Q).held
        glow_link m ez le due alike z z' t t' lz lz' =
            let less : suc m * n ≤ depth_of r.pass * n = mul-le-mul_right n (omega (arith, deep)) in
            let pasts : take (suc m * n) (ran-by r f P).past ≡ take (suc m * n) (ran-by (with_held b r) g Q).past =
            ap (λ (y : Flow). take (suc m * n) y.past) is-s
            ∙ near_more x.amount x.depth (sized w h) X Y (ap (λ (p : Painted). p.words) (same ez)) fits_s fits_t m le alike
            ∙ sym (ap (λ (y : Flow). take (suc m * n) y.past) is-t) in
            near (other r (ran-by r f P).held x) (suc m) refl due (held-s ∙ sym held-t)
            (subst (λ (y : Held). take (suc m * area y) (drop (off * area y) (z ++ ((ran-by r f P).past ++ t)))
            ≡ take (suc m * area y) (drop (off * area y) (z' ++ ((ran-by (with_held b r) g Q).past ++ t')))) (sym held-s)
            (behind (off * n) (suc m * n) z (ran-by r f P).past t lz (omega (arith, past_of_s))
            ∙ pasts
            ∙ sym (behind (off * n) (suc m * n) z' (ran-by (with_held b r) g Q).past t' lz' (omega (arith, past_of_t)))))

      passing : Link H G off e u r b → Passing off e u r b f g P Q
      passing (idle i ue hb) =
          let a = turn_idle w h curve r f P i in
          let c = turn_idle w h curve (with_held b r) g Q i in
          record {
            frames = λ z. ap (λ (v : Flow). v.frame) a ∙ ap (tint w h curve r) (same (sym ue ∙ z)) ∙ sym (ap (λ (v : Flow). v.frame) c);
            past-s = past_of_s;
            past-t = past_of_t;
            links = λ z z' t t' lz lz'.
                idle i (ap (λ (v : ℕ). v - 1) ue) (ap (λ (v : Flow). v.held) a ∙ hb ∙ sym (ap (λ (v : Flow). v.held) c));
          }
      passing (blind x ue) =
          record {
            frames = λ z. absurd (omega (arith, some x));
            past-s = past_of_s;
            past-t = past_of_t;
            links = go e refl;
          }
        where
          go : (d : ℕ) → e ≡ d → (z z' t t' : List ℕ) → length z ≡ off * n → length z' ≡ off * n
              → Link (z ++ ((ran-by r f P).past ++ t)) (z' ++ ((ran-by (with_held b r) g Q).past ++ t')) off (e - 1) (u - 1)
              (with_held (ran-by r f P).held r) (ran-by (with_held b r) g Q).held
          go zero d z z' t t' lz lz' =
              let none : e - 1 ≡ 0 = omega arith in
              let first : Alike (sized w h) 0 (X x) (Y x) = record { same_held_lem = λ y. absurd (omega arith); places = λ y. rw (zero-mul n) refl } in
              rw none (glow_link x 0 d (some x) (omega (arith, some x)) first z z' t t' lz lz')
          go (suc d) y z z' t t' lz lz' = blind (other r (ran-by r f P).held x) (omega arith)
      passing (near x j ez ue hb q) =
          let m = (x.depth - 1) - (u - 1) in
          let none : e - 1 ≡ 0 = omega arith in
          let alike : (i : ℕ) → i ≤ j → i ≤ depth_of r.pass → Alike (sized w h) i (X x) (Y x) =
          λ i le at. record { same_held_lem = λ y. hb; places = λ t. parts j i le at t q } in
          record {
            frames = λ z.
                ap (λ (v : Flow). v.frame) (is-s x)
                ∙ near_picture x.amount x.depth (sized w h) (X x) (Y x) (same ez) size (some x) (alike x.depth (omega arith) (omega (arith, deep x)))
                ∙ sym (ap (λ (v : Flow). v.frame) (is-t x));
            past-s = past_of_s;
            past-t = past_of_t;
            links = λ z z' t t' lz lz'.
                rw none (glow_link x ((x.depth - 1) - (u - 1)) ez (omega (arith, some x)) (omega (arith, some x))
                (alike ((x.depth - 1) - (u - 1)) (omega (arith, some x)) (omega (arith, some x, deep x))) z z' t t' lz lz');
          }

  -- ## The chain

  pub record Chained (k off e : ℕ) (X Y : Ran) (z z' t t' : List ℕ) : Type 0 where
    pub frames : k ≡ 0 → X.frame ≡ Y.frame
    pub links : Links (z ++ (X.past ++ t)) (z' ++ (Y.past ++ t')) (k - 1) off (e - 1) X.records Y.records

  -- the rest of the lent words
  rest_of : (off m : ℕ) (X : List ℕ) → drop (m * n) (drop (off * n) X) ≡ drop ((off + m) * n) X
  rest_of off m X = drop-drop (m * n) (off * n) X ∙ ap (λ (i : ℕ). drop i X) (sym (add-mul off m n))

  pub chain_links : {k off e : ℕ} {rs qs : List Record} → Links H G k off e rs qs → Normals rs → (f g : Painted) → (e ≡ 0 → f ≡ g)
      → length f.words ≡ n → length g.words ≡ n → off * n + depth rs * n ≤ l
      → (z z' t t' : List ℕ) → length z ≡ off * n → length z' ≡ off * n
      → Chained k off e (chain w h curve rs f (drop (off * n) (take l H))) (chain w h curve qs g (drop (off * n) (take l G))) z z' t t'
  unfolding chain_by depth
  chain_links {k} {off} {e} (last le) nm f g same size size' fits z z' t t' lz lz' =
      let le' : e - 1 ≤ k - 1 = omega arith in
      record { frames = λ c. same (omega arith); links = last le' }
  chain_links {k} {off} {e} (link u {r = r} {b = b} {rs = rs} {qs = qs} one rest) nm f g same size size' fits z z' t t' lz lz' =
      let m = depth_of r.pass in
      let sum : (m + depth rs) * n ≡ m * n + depth rs * n = add-mul m (depth rs) n in
      let next : (off + m) * n ≡ off * n + m * n = add-mul off m n in
      let p = passing off e u r b f g nm.0 same size size' (omega arith) one in
      let A = take (m * n) (drop (off * n) (take l H)) in
      let B = take (m * n) (drop (off * n) (take l G)) in
      let x = ran-by r f A in
      let y = ran-by (with_held b r) g B in
      let lx : length (z ++ x.past) ≡ (off + m) * n = length-append z x.past ∙ omega (arith, p.past-s) in
      let ly : length (z' ++ y.past) ≡ (off + m) * n = length-append z' y.past ∙ omega (arith, p.past-t) in
      let c = chain_links rest nm.1 x.frame y.frame p.frames (turn_frame w h curve r f A ∙ size) (turn_frame w h curve (with_held b r) g B ∙ size')
      (omega arith) (z ++ x.past) (z' ++ y.past) t t' lx ly in
      rw (rest_of off m (take l H), rest_of off m (take l G))
      (record {
        frames = c.frames;
        links = rw (
          append_assoc x.past (chain w h curve rs x.frame (drop ((off + m) * n) (take l H))).past t,
          append_assoc y.past (chain w h curve qs y.frame (drop ((off + m) * n) (take l G))).past t',
        )
            (link (u - 1) (p.links z z' _ _ lz lz') (rw (append_assoc z x.past _, append_assoc z' y.past _) at c.links));
      })
