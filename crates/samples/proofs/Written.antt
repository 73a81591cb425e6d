-- A text is that of n samples exactly if the reader finds it so, and then it finds the lines of which it is, and no others.
use mathlib.Core.Path.{◌≡◌, refl, sym, ap, ap₂, subst, ◌∙◌}
use mathlib.Core.Bool.{true, false, false≢true}
use mathlib.Core.List.{List, [], ◌∷◌, ◌++◌, append_assoc, map}
use mathlib.Core.Logic.{◌↔◌}
use Prim.Native.Nat.{ℕ, zero, suc, ◌+◌, ◌^◌, ◌≤◌, ◌<◌}
use Prim.Native.Char.{code}
use native.Mathlib.Omega.{arith}
use borrow.Author.Tests.{ltb-true, lt-ltb}
use lib.ListN.{length, take, drop, get_or, get_or-append, length-append, length-take}
use lib.Seq.{take_at, drop-append_seam, drop-append-add, get_or-take}
use Rattle.std.specs.Prelude.{Some, None}
use Rattle.std.specs.List.{All}
use Rattle.std.proofs.lemmas.List.Elements.{All-head, All-tail, All-nil, All-cons}
use Rattle.ascii.specs.Text.{comma, line_feed}
use Rattle.bits.specs.Same.{same}
use Rattle.bits.proofs.Cases.{by_cases}
use Rattle.bits.proofs.Same.{same_self, same-equal}
use Rattle.bits.proofs.Table.{left-true, right_true}
use Rattle.samples.specs.Reader.{is_digit, pair_bytes}
use Rattle.samples.specs.Text.{Line, TextOf, begins, digits, hexadecimal, is_text, line_fits, line_in, line_text, lines_in, pair_in, sample_of, samples_in, text_of, word_fits, word_in}
use Rattle.samples.proofs.Lines.{length-pair, lost_bytes, pair-front}
use Rattle.samples.proofs.Pairs.{Written, first, second, written}
use Rattle.samples.proofs.Texts.{text_next}
use Rattle.samples.proofs.Words.{all_digits, hexadecimal-digits, hexadecimal-value, length-hexadecimal, word-low}

-- a line that stands in front is found
lost_there : (rest : List ℕ) → line_in (line_text None ++ rest) ≡ None
unfolding line_in line_text
lost_there rest = refl

leading : (ds : List ℕ) → all_digits ds ≡ true → 0 < length ds → is_digit (get_or ds 0 0) ≡ true
unfolding all_digits
leading [] t h = absurd (omega arith)
leading (b ∷ ds) t h = left-true (is_digit b) (all_digits ds) t

module _ (i q : ℕ) (rest : List ℕ) where
  abbrev whole : List ℕ
  whole = line_text (Some (i, q)) ++ rest

  first_byte : get_or whole 0 0 ≡ get_or (hexadecimal digits i) 0 0
  unfolding line_text
  first_byte =
      let word = hexadecimal digits i in
      let ends = comma ∷ (hexadecimal digits q ++ line_feed ∷ []) in
      let some : 0 < length word = omega (arith, length-hexadecimal digits i) in
      get_or-append (word ++ ends) rest 0 0 (omega (arith, length-append word ends, some)) ∙ get_or-append word ends 0 0 some

  not_lost : begins (line_text None) whole ≡ false
  unfolding line_text
  not_lost =
      by_cases
      (begins (line_text None) whole)
      (λ t.
      let L : get_or whole 0 0 ≡ code "L" = sym (get_or-take lost_bytes whole 0 0 (omega arith)) ∙ ap (λ l. get_or l 0 0) (same-equal (take lost_bytes whole) (line_text None) t) in
      let digit = leading (hexadecimal digits i) (hexadecimal-digits digits i) (omega (arith, length-hexadecimal digits i)) in
      absurd (false≢true (ap is_digit (sym L ∙ first_byte) ∙ digit)))
      (λ f. f)

  pair_there : word_fits i ≡ true → word_fits q ≡ true → pair_in whole ≡ Some (i, q)
  unfolding pair_in line_text
  pair_there fi fq =
      let wi = hexadecimal digits i in
      let wq = hexadecimal digits q in
      let long = length-hexadecimal digits i in
      let behind = (wq ++ line_feed ∷ []) ++ rest in
      let is : whole ≡ wi ++ comma ∷ behind = append_assoc wi (comma ∷ (wq ++ line_feed ∷ [])) rest in
      let one_more : digits + 1 ≡ length wi + 1 = omega (arith, long) in
      let second : drop (digits + 1) whole ≡ behind =
      ap (drop (digits + 1)) is ∙ ap (λ n. drop n (wi ++ comma ∷ behind)) one_more ∙ drop-append-add wi (comma ∷ behind) 1 in
      ap₂ (λ a b. Some (word_in a, word_in b))
      (ap (take digits) is ∙ take_at wi (comma ∷ behind) digits long)
      (ap (take digits) (second ∙ append_assoc wq (line_feed ∷ []) rest) ∙ take_at wq (line_feed ∷ rest) digits (length-hexadecimal digits q))
      ∙ ap₂ (λ a b. Some (a, b))
      (hexadecimal-value digits i (ltb-true i (2 ^ 64) fi))
      (hexadecimal-value digits q (ltb-true q (2 ^ 64) fq))

line_found : (line : Line) (rest : List ℕ) → line_fits line ≡ true → line_in (line_text line ++ rest) ≡ line
unfolding line_in
line_found None rest fits = lost_there rest
line_found (Some (i, q)) rest fits =
    rw (not_lost i q rest) (pair_there i q rest (left-true _ _ fits) (right_true (word_fits i) _ fits))

pub lines_found : (lines : List Line) → All (λ line. line_fits line ≡ true) lines → lines_in (length lines) (text_of lines) ≡ lines
unfolding lines_in
lines_found [] fit = refl
lines_found (line ∷ lines) fit =
    let is = line_found line (text_of lines) (All-head (λ line. line_fits line ≡ true) line lines fit) in
    rw (is, drop-append_seam (line_text line) (text_of lines), lines_found lines (All-tail (λ line. line_fits line ≡ true) line lines fit)) refl

-- and what is found fits
pair_fits : (line : List ℕ) → Written line → line_fits (pair_in line) ≡ true
unfolding pair_in
pair_fits line w =
    let low_i = subst (λ l. word_in l < 2 ^ 64) (sym w.first_is) (word-low (word_in (first line))) in
    let low_q = subst (λ l. word_in l < 2 ^ 64) (sym w.second-is) (word-low (word_in (second line))) in
    rw (lt-ltb _ _ low_i, lt-ltb _ _ low_q) refl

found_fits : (there : List ℕ) → begins (line_text (line_in there)) there ≡ true → line_fits (line_in there) ≡ true
unfolding line_in
found_fits there t =
    by_cases
    (begins (line_text None) there)
    (λ lost. rw lost refl)
    (λ f.
    let p : begins (line_text (pair_in there)) there ≡ true = rw f at t in
    let front = same-equal (take (length (line_text (pair_in there))) there) _ p in
    let long : pair_bytes ≤ length there = omega (arith, length-pair there, ap length front, length-take (length (line_text (pair_in there))) there) in
    let line = take pair_bytes there in
    let is = pair-front there long in
    let own : same line (line_text (pair_in line)) ≡ true =
    ap (λ l. same line (line_text l)) is ∙ ap (λ n. same (take n there) (line_text (pair_in there))) (sym (length-pair there)) ∙ p in
    rw f (rw is at (pair_fits line (written line own))))

all_fit : (n : ℕ) (text : List ℕ) → is_text n text ≡ true → All (λ line. line_fits line ≡ true) (lines_in n text)
unfolding lines_in
all_fit zero text t = All-nil _
all_fit (suc n) text t =
    let both = sym (text_next n text) ∙ t in
    All-cons (λ line. line_fits line ≡ true) (line_in text) _ (found_fits text (left-true _ _ both)) (all_fit n _ (right_true (begins (line_text (line_in text)) text) _ both))

pub length-lines : (n : ℕ) (text : List ℕ) → length (lines_in n text) ≡ n
unfolding lines_in
length-lines zero text = refl
length-lines (suc n) text = ap suc (length-lines n _)

-- the lines of which a text is are those that the reader finds, and so are its samples
module _ (n : ℕ) (text : List ℕ) (o : TextOf n text) where
  lines_are : lines_in n text ≡ o.lines
  lines_are = ap₂ lines_in (sym o.many) o.written ∙ lines_found o.lines o.fit

  pub samples_are : samples_in n text ≡ map sample_of o.lines
  samples_are = ap (map sample_of) lines_are

pub text_agrees : (n : ℕ) (text : List ℕ) → (is_text n text ≡ true) ↔ TextOf n text
unfolding is_text
text_agrees n text = (
  (λ t. record { lines = lines_in n text; many = length-lines n text; fit = all_fit n text t; written = same-equal text _ t }),
  (λ o. ap (λ l. same text (text_of l)) (lines_are n text o) ∙ ap (same text) (sym o.written) ∙ same_self text),
)
