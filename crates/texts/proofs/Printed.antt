-- What the texts are, case by case, and how long they can be. Assumes nothing.
use Prim.Native.Nat.{ℕ, zero, suc, ◌+◌, ◌-◌, ◌/◌, ◌%◌, ◌≤◌, ◌<◌}
use mathlib.Core.Bool.{Bool, true, false, cond}
use mathlib.Core.List.{List, [], ◌∷◌, ◌++◌}
use mathlib.Core.Path.{◌≡◌, refl, sym, ap, ap₂, ◌∙◌}
use native.Mathlib.Nat.{not-suc-le-zero}
use native.Mathlib.Numerals.{add-one}
use native.Mathlib.Omega.{arith}
use borrow.Author.Tests.{eq-eqb, ne_eqb, lt-ltb, le-ltb}
use lib.Ieee.{Float}
use lib.ListN.{length, get_or, take, drop, drop_of_length-le}
use lib.Seq.{drop-cons, take-append_seam}
use Rattle.cards.specs.Alike.{chain_of}
use Rattle.cards.specs.Laws.Scans.{past}
use Rattle.cards.specs.Normal.{good_station}
use Rattle.cards.specs.Passes.{kind_of}
use Rattle.cards.specs.declared.station.Record.{Record}
use Rattle.cards.specs.declared.station.Station.{Station}
use Rattle.inspect.specs.Decimal.{digits_of, point_of}
use Rattle.inspect.specs.declared.decimal.Point.{Point}
use Rattle.inspect.specs.declared.settings.Setting.{Setting}
use Rattle.inspect.specs.declared.settings.Setting.TheVariants.{Real, Whole}
use Rattle.texts.specs.Names.{kind_name}
use Rattle.std.specs.Prelude.{Option, Some, None, is_some, Ok, Err}
use Rattle.num.specs.Laws.Bools.{false_true}
use Rattle.num.specs.declared.refusal.Refusal.TheVariants.{BadStation, ShortCardBuffer}
use Rattle.texts.specs.Print.{digit, down, pointed, sign_text, real_text, whole_text, count_text, value_text, label_text, setting_text, settings_text, switch_text}
use Rattle.texts.specs.Print.{line_text, lines_text, text_of, print_reply, print_into, laid, Puts, Lays}
use Rattle.texts.specs.declared.print.Page.{Page}
use Rattle.texts.specs.Words.{ascii}
use Rattle.texts.proofs.Printing.{lays_none, lays_then, lays_as}

-- ## Digits, from the highest place down

pub down-length : (p : ℕ) (ds : List ℕ) → length (down p ds) ≡ p
unfolding down
down-length zero ds = refl
down-length (suc p) ds = ap suc (down-length p ds)

pub down-next : (i : ℕ) (ds : List ℕ) → 0 < i → down i ds ≡ digit (get_or ds (i - 1) 0) ∷ down (i - 1) ds
unfolding down
down-next zero ds l = absurd (not-suc-le-zero l)
down-next (suc i) ds l = let same : suc i - 1 ≡ i = omega arith in rw same refl

pub down_none : (i : ℕ) (ds : List ℕ) → i ≤ 0 → down i ds ≡ []
unfolding down
down_none zero ds l = refl
down_none (suc i) ds l = absurd (not-suc-le-zero l)

-- ## Numbers

pub point_none : (places : ℕ) (ds : List ℕ) → places ≡ 0 → digit (get_or ds places 0) ∷ [] ≡ pointed places ds
unfolding pointed
point_none places ds e = rw (eq-eqb places 0 e) refl

pub point-some : (places : ℕ) (ds : List ℕ) → (places ≡ 0 → ⊥) → (digit (get_or ds places 0) ∷ []) ++ (46 ∷ []) ++ down places ds ≡ pointed places ds
unfolding pointed
point-some places ds n = rw (ne_eqb places 0 n) refl

pub real-is : (x : Float) (point : Point) (ds : List ℕ) → point ≡ point_of x → ds ≡ digits_of x
    → sign_text point.negative ++ pointed point.places ds ≡ real_text x
unfolding real_text
real-is x point ds e f = ap₂ (λ (p : Point) (l : List ℕ). sign_text p.negative ++ pointed p.places l) e f

pub whole-one : (v : ℕ) → v < 10 → digit v ∷ [] ≡ whole_text v
unfolding whole_text
whole-one v l = rw (lt-ltb v 10 l) refl

pub whole-two : (v : ℕ) → 10 ≤ v → v < 100 → digit (v / 10) ∷ digit (v % 10) ∷ [] ≡ whole_text v
unfolding whole_text
whole-two v l m = rw (le-ltb v 10 l, lt-ltb v 100 m) refl

pub whole-three : (v : ℕ) → 10 ≤ v → 100 ≤ v → digit (v / 100) ∷ digit (v / 10 % 10) ∷ digit (v % 10) ∷ [] ≡ whole_text v
unfolding whole_text
whole-three v l m = rw (le-ltb v 10 l, le-ltb v 100 m) refl

-- ## A branch

pub first : (b : Bool) (xs ys : List ℕ) → b ≡ true → xs ≡ cond b xs ys
first b xs ys e = rw e refl

pub second : (b : Bool) (xs ys : List ℕ) → b ≡ false → ys ≡ cond b xs ys
second b xs ys e = rw e refl

-- ## Values: an arm of the `match`

pub real_value : (s : Option Setting) (x : Float) (kind : ℕ) (p q : Page) → Lays (real_text x) 152 p q → s ≡ Some (Real x) → Lays (value_text kind s) 152 p q
real_value s x kind p q l e = rw e l

pub whole_value : (s : Option Setting) (v kind : ℕ) (p q : Page) → Lays (count_text kind v) 13 p q → s ≡ Some (Whole v) → Lays (value_text kind s) 152 p q
whole_value s v kind p q l e = rw e (lays_as _ 152 l refl (omega arith))

pub no_value : (s : Option Setting) (kind : ℕ) (p : Page) → p.at + 152 ≤ length p.out.now → s ≡ None → Lays (value_text kind s) 152 p p
no_value s kind p l e = rw e (lays_none 152 (omega arith))

pub ruleset values = (real_value, whole_value, no_value)

-- what was put at the start of a buffer
pub at-start : {text before after : List ℕ} {most r : ℕ} → Puts text most 0 before r after → (r ≤ length after) × (take r after ≡ text)
unfolding laid
at-start {text} {before} {after} {most} {r} p =
    let long : r ≡ length text = omega (arith, p.place) in
    (omega (arith, p.within, p.long), rw long (ap (take (length text)) p.bytes ∙ take-append_seam text (drop (0 + length text) before)))

-- ## Settings: the text of a value follows the label

pub some_setting : (o : Option Setting) (kind j : ℕ) (p q r : Page) → is_some o ≡ true → Lays (label_text kind j) 13 p q → Lays (value_text kind o) 152 q r
    → Lays (setting_text kind j o) 165 p r
unfolding setting_text
some_setting (Some s) kind j p q r e a b = lays_then a b
some_setting None kind j p q r e a b = false_true e

pub no_setting : (o : Option Setting) (kind j : ℕ) (p : Page) → p.at + 165 ≤ length p.out.now → is_some o ≡ false → Lays (setting_text kind j o) 165 p p
unfolding setting_text
no_setting (Some s) kind j p l e = false_true (sym e)
no_setting None kind j p l e = lays_none 165 (omega arith)

-- ## Lines

pub line-is : (r : Record) (k : ℕ) → k ≡ kind_of r.pass
    → kind_name k ++ ascii ", " ++ switch_text r.on ++ settings_text r.pass ++ ascii "\n" ≡ line_text r
unfolding line_text
line-is r k e = ap (λ (kind : ℕ). kind_name kind ++ ascii ", " ++ switch_text r.on ++ settings_text r.pass ++ ascii "\n") e

pub lines_next : (rs : List Record) (i : ℕ) → i < length rs → lines_text (drop i rs) ≡ line_text (get_or rs i past) ++ lines_text (drop (i + 1) rs)
unfolding lines_text
lines_next rs i l = rw add-one (ap lines_text (drop-cons rs i past l))

pub lines_none : (rs : List Record) (i : ℕ) → length rs ≤ i → lines_text (drop i rs) ≡ []
unfolding lines_text
lines_none rs i l = ap lines_text (drop_of_length-le rs {i = i} l)

pub text_none : (rs : List Record) → length rs ≡ 0 → ascii "none\n" ≡ text_of rs
unfolding text_of
text_none [] e = refl
text_none (r ∷ rs) e = absurd (omega (arith, e))

pub text_some : (rs : List Record) → (length rs ≡ 0 → ⊥) → lines_text rs ≡ text_of rs
unfolding text_of
text_some [] some = absurd (some refl)
text_some (r ∷ rs) some = refl

-- ## What `print` answers

pub printed : (s : Station) (m r : ℕ) (a b : List ℕ) → good_station s ≡ true → 8192 ≤ length a → Puts (text_of (chain_of s)) m 0 a r b
    → (Ok r ≡ print_reply s a) × (b ≡ print_into s a)
unfolding print_reply print_into laid
printed s m r a b ok room p =
    let text = text_of (chain_of s) in
    let none : 0 + length text ≡ length text = omega arith in (
      rw (ok, le-ltb (length a) 8192 room) (ap Ok (p.place ∙ none)),
      rw (ok, le-ltb (length a) 8192 room) (p.bytes ∙ ap (λ (k : ℕ). text ++ drop k a) none),
    )

pub unprinted : (s : Station) (a : List ℕ) → good_station s ≡ false → (Err BadStation ≡ print_reply s a) × (a ≡ print_into s a)
unfolding print_reply print_into
unprinted s a bad = (rw bad refl, rw bad refl)

pub no_room : (s : Station) (a : List ℕ) → good_station s ≡ true → length a < 8192 → (Err ShortCardBuffer ≡ print_reply s a) × (a ≡ print_into s a)
unfolding print_reply print_into
no_room s a ok l = (rw (ok, lt-ltb (length a) 8192 l) refl, rw (ok, lt-ltb (length a) 8192 l) refl)
