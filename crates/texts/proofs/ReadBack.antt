-- The text that is printed for an accepted card makes the station that the card opens. The argument: a text is cut into lines where they end; a line that is
-- printed is read as its pass, and a comment as nothing; each pass is put behind those before it, since the first passes of a good chain are a good chain.
-- Assumes nothing.
use Prim.Native.Nat.{ℕ, suc, ◌+◌, ◌-◌, ◌≤◌, ◌<◌}
use mathlib.Core.Bool.{Bool, true, false, ◌&&◌}
use mathlib.Core.List.{List, [], ◌∷◌, ◌++◌, append_assoc, append-nil}
use mathlib.Core.Path.{◌≡◌, refl, sym, ap, ap₂, subst, ◌∙◌}
use native.Mathlib.Omega.{arith}
use borrow.Author.Tests.{not-true, ne_eqb, lt-leb}
use lib.Dec.{eqb, leb}
use lib.ListN.{length, set, take, replicate, length-append}
use lib.Seq.{take-append_seam, take_all, set-append_seam}
use Rattle.std.specs.Prelude.{Result, Ok}
use Rattle.cards.proofs.Chain.{NormalChain, normal_unheld}
use Rattle.cards.proofs.OpensGood.{opens_good}
use Rattle.cards.proofs.Theorems.{accepted_opens}
use Rattle.cards.specs.Alike.{chain_of}
use Rattle.cards.specs.Card.{unused, station_of}
use Rattle.cards.specs.Laws.Good.{good, is_good, nothing-fine, unheld, headed, is_headed}
use Rattle.cards.specs.Normal.{normal_chain, good_station}
use Rattle.cards.specs.Passes.{kind_of}
use Rattle.cards.specs.Records.{carded}
use Rattle.cards.specs.Typed.{Unheld}
use Rattle.cards.specs.declared.station.Pending.TheVariants as P
use Rattle.cards.specs.declared.station.Record.{Record}
use Rattle.cards.specs.declared.station.Station.{Station}
use Rattle.num.specs.Held.{Held, nothing, fine_held}
use Rattle.num.specs.Laws.Bools.{both}
use Rattle.texts.specs.Claims.{each, in_line, Comments, none, line, PrintedBack}
use Rattle.texts.specs.Lines.{kind_in, line_of}
use Rattle.texts.specs.Names.{found}
use Rattle.texts.specs.Print.{lines_text, text_of}
use Rattle.texts.specs.Read.{before, lines_of, in_text, uncommented, begun, appended, with_pass, with_none, with_line, made, finished, read_on, read_lines, made_of}
use Rattle.texts.specs.Words.{ascii, front, next_word, span_of, word_of, is}
use Rattle.texts.specs.declared.lines.Fault.{Fault}
use Rattle.texts.specs.declared.lines.Line.{Line}
use Rattle.texts.specs.declared.lines.Line.TheVariants as L
use Rattle.texts.specs.declared.read.Draft.{Draft}
use Rattle.texts.proofs.Lexing.{joined, front_all, joined_text, joined_line}
use Rattle.texts.proofs.LineBack.{line_pieces, line_text_lem, spaced, line_back}
use Rattle.texts.proofs.Tests.{cond_yes, cond_no}

-- ## Lines

lines_cut : (bytes rest : List ℕ) → each in_line bytes ≡ true → lines_of (bytes ++ 10 ∷ rest) ≡ bytes ∷ lines_of rest
unfolding lines_of
lines_cut [] rest e = refl
lines_cut (b ∷ bytes) rest e =
    let h = both (in_line b) (each in_line bytes) e in
    sym (cond_no (eqb b 10) _ _ _ (not-true (eqb b 10) h.0) refl) ∙ ap (before b) (lines_cut bytes rest h.1)

-- a line without a comment
uncommented_all : (bytes : List ℕ) → each in_text bytes ≡ true → uncommented bytes ≡ bytes
unfolding uncommented
uncommented_all bytes e = ap (λ (n : ℕ). take n bytes) (front_all in_text bytes e) ∙ take_all (length bytes) bytes (omega arith)

-- a comment is no line of a pass
commented : (bytes : List ℕ) → line_of (uncommented (35 ∷ bytes)) ≡ Ok L.Blank
unfolding uncommented front line_of span_of next_word
commented bytes = refl

-- one line, where nothing is wrong with it
read-line : (i : ℕ) (d e : Draft) (bytes rest : List ℕ) (l : Result Line Fault) → each in_line bytes ≡ true → line_of (uncommented bytes) ≡ l → with_line d l ≡ Ok e
    → read_lines i d (lines_of (bytes ++ 10 ∷ rest)) ≡ read_lines (suc i) e (lines_of rest)
unfolding read_lines
read-line i d e bytes rest l cut is next =
    ap (read_lines i d) (lines_cut bytes rest cut)
    ∙ ap (λ (f : Result Draft Fault). read_on i f (λ g. read_lines (suc i) g (lines_of rest))) (ap (with_line d) is ∙ next)

-- ## Comments

-- a draft makes a station out of a text, whatever the number of its first line
abbrev Makes : Draft → List ℕ → Station → Type 0
Makes d text s = (i : ℕ) → read_lines i d (lines_of text) ≡ made s

past_comments : {head : List ℕ} (d : Draft) (rest : List ℕ) (s : Station) → Comments head → Makes d rest s
    → Makes d (head ++ rest) s
past_comments d rest s none m i = m i
past_comments d rest s (line bytes {rest = more} e c) m i =
    ap (λ (l : List ℕ). read_lines i d (lines_of l)) (append_assoc (35 ∷ bytes) (10 ∷ more) rest)
    ∙ read-line i d d (35 ∷ bytes) (more ++ rest) (Ok L.Blank) e (commented bytes) refl
    ∙ past_comments d rest s c m (suc i)

-- where only comments are left
at_end : (d : Draft) (foot : List ℕ) (s : Station) → Comments foot → ((i : ℕ) → finished i d ≡ made s)
    → Makes d foot s
unfolding read_lines lines_of
at_end d foot s c f = subst (λ (l : List ℕ). Makes d l s) (append-nil foot) (past_comments d [] s c (λ i. f i))

-- ## One pass more

-- what is read after some passes
abbrev drafted : List Record → Draft
drafted done = record { station = station_of done; bare = false }

one_more : (done : List Record) (r : Record) → length done < 12 → appended (station_of done) r ≡ station_of (done ++ r ∷ [])
one_more done r l =
    let k = 12 - length (done ++ r ∷ []) in
    let long : length (done ++ r ∷ []) ≡ length done + 1 = length-append done (r ∷ []) in
    let left : 12 - length done ≡ suc k = omega (arith, long, l) in
    let records : set (done ++ replicate (12 - length done) unused) (length done) r ≡ done ++ r ∷ [] ++ replicate k unused =
    ap (λ (j : ℕ). set (done ++ replicate j unused) (length done) r) left
    ∙ set-append_seam done unused (replicate k unused) r
    ∙ sym (append_assoc done (r ∷ []) (replicate k unused)) in
    ap₂ (λ (rs : List Record) (n : ℕ). record { records = rs; n = n; pending = P.Nothing }) records (sym long)

with_pass_lem : (done : List Record) (r : Record) → length done < 12 → good_station (station_of (done ++ r ∷ [])) ≡ true
    → with_pass (drafted done) r ≡ Ok (drafted (done ++ r ∷ []))
unfolding with_pass
with_pass_lem done r l g =
    let more = one_more done r l in
    sym (cond_no (leb 12 (length done)) _ _ _ (lt-leb 12 (length done) l)
    (cond_yes (good_station (appended (station_of done) r)) _ _ _ (ap good_station more ∙ g)
    (sym (ap (λ (s : Station). Ok (record { station = s; bare = false })) more))))

-- ## The passes before one in a good chain are a good chain

normal_prefix : (seen : List ℕ) (xs ys : List Record) → normal_chain seen (xs ++ ys) ≡ true → normal_chain seen xs ≡ true
unfolding normal_chain
normal_prefix seen [] ys e = refl
normal_prefix seen (x ∷ xs) ys e =
    let q = headed seen x (xs ++ ys) e in
    is_headed seen x xs
    (record { normal = q.normal; new = q.new; rises = q.rises; others = normal_prefix (seen ++ kind_of x.pass ∷ []) xs ys q.others })

unheld_prefix : (xs ys : List Record) → Unheld (xs ++ ys) → Unheld xs
unheld_prefix [] ys u = tt
unheld_prefix (x ∷ xs) ys u = (u.0, unheld_prefix xs ys u.1)

-- a chain that a card can have
record Whole (all : List Record) : Type 0 where
  normal : normal_chain [] all ≡ true
  free : Unheld all
  few : length all ≤ 12

good_prefix : (xs ys : List Record) → Whole (xs ++ ys) → good_station (station_of xs) ≡ true
good_prefix xs ys w =
    let same : chain_of (station_of xs) ≡ xs = take-append_seam xs _ in
    let u = unheld (chain_of (station_of xs)) (subst Unheld (sym same) (unheld_prefix xs ys w.free)) in
    is_good (station_of xs)
    (record {
      few = omega (arith, w.few, length-append xs ys);
      normal = ap (normal_chain []) same ∙ normal_prefix [] xs ys w.normal;
      fine = ap fine_held u.0 ∙ nothing-fine;
      holds = u.1 _;
      asks = refl;
    })

-- ## A chain is read back

as_carded : (r : Record) → r.held ≡ nothing → carded r.on r.pass ≡ r
as_carded r e = ap (λ (h : Held). record { on = r.on; pass = r.pass; held = h }) (sym e)

printed-next : (r : Record) (rs : List Record) (foot : List ℕ)
    → lines_text (r ∷ rs) ++ foot ≡ joined (line_pieces r.on r.pass) ++ 10 ∷ (lines_text rs ++ foot)
unfolding lines_text
printed-next r rs foot =
    let t = joined (line_pieces r.on r.pass) in
    ap (λ (l : List ℕ). l ++ lines_text rs ++ foot) (line_text_lem r)
    ∙ append_assoc (t ++ 10 ∷ []) (lines_text rs) foot
    ∙ append_assoc t (10 ∷ []) (lines_text rs ++ foot)

module _ (all : List Record) (w : Whole all) (some : 0 < length all) (foot : List ℕ) (c : Comments foot) where
  chain_makes : (rs done : List Record) → done ++ rs ≡ all → NormalChain done rs → Makes (drafted done) (lines_text rs ++ foot) (station_of all)
  unfolding lines_text finished
  chain_makes [] done e n i =
      let same : done ≡ all = sym (append-nil done) ∙ e in
      at_end (drafted done) foot (station_of all) c
      (λ j. sym (cond_no (eqb (length done) 0 && true) _ _ _
      (ap (λ (b : Bool). b && true) (ne_eqb (length done) 0 (λ z. omega (arith, z, some, ap length same))))
      (ap (λ (rs : List Record). made (station_of rs)) (sym same)))) i
  chain_makes (r ∷ rs) done e n i =
      let on = r.on in
      let p = r.pass in
      let t = joined (line_pieces on p) in
      let g = spaced on p n.0 in
      let short : length done < 12 = omega (arith, ap length e, length-append done (r ∷ rs), w.few) in
      let next : done ++ r ∷ [] ++ rs ≡ all = append_assoc done (r ∷ []) rs ∙ e in
      let is : line_of (uncommented t) ≡ Ok (L.Pass r)
      = ap line_of (uncommented_all t (joined_text (line_pieces on p) g)) ∙ line_back on p n.0 ∙ ap (λ (q : Record). Ok (L.Pass q)) (as_carded r n.3) in
      ap (λ (l : List ℕ). read_lines i (drafted done) (lines_of l)) (printed-next r rs foot)
      ∙ read-line i (drafted done) (drafted (done ++ r ∷ [])) t (lines_text rs ++ foot) (Ok (L.Pass r)) (joined_line (line_pieces on p) g) is
      (with_pass_lem done r short (good_prefix (done ++ r ∷ []) rs (subst Whole (sym next) w)))
      ∙ chain_makes rs (done ++ r ∷ []) next n.4 (suc i)

-- that there is no pass
none_is : line_of (uncommented (ascii "none")) ≡ Ok L.Bare
unfolding uncommented front line_of span_of next_word word_of kind_in found is
none_is = refl

text_makes : (rs : List Record) → Whole rs → NormalChain [] rs → (foot : List ℕ) → Comments foot → Makes begun (text_of rs ++ foot) (station_of rs)
unfolding text_of with_none finished
text_makes [] w n foot c i =
    let d : Draft = record { station = station_of []; bare = true } in
    read-line i begun d (ascii "none") foot (Ok L.Bare) refl none_is refl ∙ at_end d foot (station_of []) c (λ j. refl) (suc i)
text_makes (r ∷ rs) w n foot c i = chain_makes (r ∷ rs) w (omega arith) foot c (r ∷ rs) [] refl n i

-- ## The theorem

pub printed_back : PrintedBack
unfolding made_of
printed_back card s e head foot h f =
    let o = accepted_opens card s e in
    let same : chain_of s ≡ o.chain = ap chain_of o.whole ∙ take-append_seam o.chain _ in
    let w : Whole o.chain = record {
      normal = ap (normal_chain []) (sym same) ∙ (good s (opens_good card s e).0).normal;
      free = normal_unheld o.chain [] o.normal;
      few = o.few;
    } in
    ap (λ (l : List ℕ). read_lines 0 begun (lines_of l)) (append_assoc head (text_of (chain_of s)) foot)
    ∙ ap (λ (rs : List Record). read_lines 0 begun (lines_of (head ++ (text_of rs ++ foot)))) same
    ∙ past_comments begun (text_of o.chain ++ foot) (station_of o.chain) h (text_makes o.chain w o.normal foot f) 0
    ∙ ap made (sym o.whole)
