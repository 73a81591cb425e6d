-- The reader agrees with the writer: a text is a line of a form exactly if it is the text of such numbers, and then it says these.
use mathlib.Core.Path.{◌≡◌, refl, sym, ap, ◌∙◌}
use mathlib.Core.Bool.{true, false, true≢false}
use mathlib.Core.List.{List, [], ◌∷◌, ◌++◌}
use mathlib.Core.Logic.{◌↔◌}
use Prim.Native.Nat.{ℕ, ◌+◌, ◌*◌, ◌^◌, ◌≤◌, ◌<◌}
use native.Mathlib.Omega.{arith}
use borrow.Author.Tests.{leb-true, leb-false, ltb-true}
use lib.Dec.{leb}
use lib.ListN.{length, take, length-append}
use lib.Seq.{take_all, length-take-le}
use Rattle.std.specs.Prelude.{Option, Some, None}
use Rattle.std.proofs.lemmas.Option.{none-some, same_Some}
use Rattle.bits.specs.Same.{same}
use Rattle.bits.proofs.Cases.{by_cases}
use Rattle.bits.proofs.Same.{same_self, same-equal}
use Rattle.bits.proofs.Table.{left-true, right_true}
use Rattle.ascii.specs.Text.{comma, line_feed, decimal}
use Rattle.fields.specs.Fields.{before, behind}
use Rattle.fields.proofs.Cuts.{before_at, behind-at}
use Rattle.fields.proofs.Digits.{decimal-value}
use Rattle.fields.proofs.Numbers.{decimal_spelled}
use Rattle.job_line.specs.declared.steps.Added.{Added}
use Rattle.job_line.specs.declared.steps.Line.{Line}
use Rattle.job_line.specs.Line.{OldLine, LongerLine, old_line, longer_line, field_digits, code_digits, longest_old, longest_line, code_text, added_text, text_of, field_fits, code_fits, added_fits, fits, code_in, added_in, old_in, longer_in, is_text_of, is_old, is_longer, is_line, said, line_of}
use Rattle.job_line.specs.Reader.{line_read}
use Rattle.job_line.proofs.Reader.{line_written, line_is, low_of, number_without, code_without, no_dash}

-- a text that is a line of a form is the text of the numbers in it, which fit
module _ (text : List ℕ) (l : Line) (e : is_text_of text l ≡ true) where
  low : fits l ≡ true
  low = left-true (fits l) (same text (text_of l)) e

  written : text ≡ text_of l
  written = same-equal text (text_of l) (right_true (fits l) (same text (text_of l)) e)

  read_there : line_read text ≡ Some l
  read_there = ap line_read written ∙ line_written l low

-- and the numbers in the text of numbers are these
abbrev tail : ℕ → Option Added → List ℕ
tail p a = decimal p ++ added_text a

before_comma : (f : ℕ) (rest : List ℕ) → before comma (decimal f ++ comma ∷ rest) ≡ decimal f
before_comma f rest = before_at comma (decimal f) rest (number_without comma refl f)

behind-comma : (f : ℕ) (rest : List ℕ) → behind comma (decimal f ++ comma ∷ rest) ≡ rest
behind-comma f rest = behind-at comma (decimal f) rest (number_without comma refl f)

pub old_there : (f p : ℕ) → (let l = old_line f p in old_in (text_of l) ≡ l)
old_there f p =
    rw (before_comma f (tail p None), behind-comma f (tail p None), before_at line_feed (decimal p) [] (number_without line_feed refl p), decimal-value f, decimal-value p)

code_there : (c : Option ℕ) → code_in (before line_feed (code_text c ++ line_feed ∷ [])) ≡ c
code_there None = rw (before_at line_feed (code_text None) [] (code_without None))
code_there (Some n) = rw (before_at line_feed (decimal n) [] (code_without (Some n)), no_dash n, decimal-value n)

added_there : (a : Added) → added_in (decimal a.pilots ++ comma ∷ (code_text a.code ++ line_feed ∷ [])) ≡ a
added_there a =
    let rest = code_text a.code ++ line_feed ∷ [] in
    rw (before_comma a.pilots rest, behind-comma a.pilots rest, decimal-value a.pilots, code_there a.code)

pub longer_there : (f p : ℕ) (a : Added) → (let l = longer_line f p a in longer_in (text_of l) ≡ l)
longer_there f p a =
    let rest = decimal a.pilots ++ comma ∷ (code_text a.code ++ line_feed ∷ []) in
    rw (before_comma f (tail p (Some a)), behind-comma f (tail p (Some a)), before_comma p rest, behind-comma p rest, decimal-value f, decimal-value p, added_there a)

-- so the text of numbers is a line of its form
pub old_written : (f p : ℕ) → (let l = old_line f p in fits l ≡ true → is_old (text_of l) ≡ true)
unfolding is_old
old_written f p h =
    let l = old_line f p in
    ap (is_text_of (text_of l)) (old_there f p) ∙ rw h (same_self (text_of l))

pub longer_written : (f p : ℕ) (a : Added) → (let l = longer_line f p a in fits l ≡ true → is_longer (text_of l) ≡ true)
unfolding is_longer
longer_written f p a h =
    let l = longer_line f p a in
    ap (is_text_of (text_of l)) (longer_there f p a) ∙ rw h (same_self (text_of l))

-- a line of a form is the text of its numbers
pub old_is : (text : List ℕ) → is_old text ≡ true → (fits (old_in text) ≡ true) × (text ≡ text_of (old_in text))
unfolding is_old
old_is text e = (low text (old_in text) e, written text (old_in text) e)

pub longer_is : (text : List ℕ) → is_longer text ≡ true → (fits (longer_in text) ≡ true) × (text ≡ text_of (longer_in text))
unfolding is_longer
longer_is text e = (low text (longer_in text) e, written text (longer_in text) e)

pub old_agrees : (text : List ℕ) → (is_old text ≡ true) ↔ OldLine text
old_agrees text = (
  (λ e. let (h, is) = old_is text e in record { format = (old_in text).format; pattern = (old_in text).pattern; low = h; written = is }),
  (λ w. ap is_old w.written ∙ old_written w.format w.pattern w.low),
)

pub longer_agrees : (text : List ℕ) → (is_longer text ≡ true) ↔ LongerLine text
longer_agrees text = (
  (λ e.
      let (h, is) = longer_is text e in
      let l = longer_in text in
      record { format = l.format; pattern = l.pattern; added = added_in (behind comma (behind comma text)); low = h; written = is }),
  (λ w. ap is_longer w.written ∙ longer_written w.format w.pattern w.added w.low),
)

old_read : (text : List ℕ) → is_old text ≡ true → line_read text ≡ Some (old_in text)
unfolding is_old
old_read text e = read_there text (old_in text) e

longer_read : (text : List ℕ) → is_longer text ≡ true → line_read text ≡ Some (longer_in text)
unfolding is_longer
longer_read text e = read_there text (longer_in text) e

-- no text is a line of both forms
pub apart : (text : List ℕ) → is_old text ≡ true → is_longer text ≡ false
apart text old =
    by_cases
    (is_longer text)
    (λ t. absurd (none-some _ (ap (λ (l : Line). l.added) (same_Some _ _ (sym (old_read text old) ∙ longer_read text t)))))
    (λ f. f)

-- what a line says
pub said-old : (text : List ℕ) → is_old text ≡ true → said text ≡ old_in text
unfolding said
said-old text e = rw e

pub said-longer : (text : List ℕ) → is_longer text ≡ true → said text ≡ longer_in text
unfolding said
said-longer text e =
    by_cases (is_old text) (λ t. absurd (true≢false (sym e ∙ apart text t))) (λ f. rw f)

-- the reader agrees
a_line : (f p : ℕ) (a : Option Added) → (let l : Line = record { format = f; pattern = p; added = a } in fits l ≡ true → is_line (text_of l) ≡ true)
a_line f p None h = rw (old_written f p h)
a_line f p (Some a) h =
    let l = longer_line f p a in
    by_cases (is_old (text_of l)) (λ t. rw t) (λ n. rw (n, longer_written f p a h))

no_line : (text : List ℕ) (o : Option Line) → line_read text ≡ o → is_line text ≡ false → o ≡ None
no_line text None e n = refl
no_line text (Some l) e n =
    let (is, h) = line_is text l e in
    absurd (true≢false (sym (ap is_line is ∙ a_line l.format l.pattern l.added h) ∙ n))

pub read_agrees : (text : List ℕ) → line_read text ≡ line_of text
unfolding said
read_agrees text =
    by_cases
    (is_old text)
    (λ t. rw t (old_read text t))
    (λ f.
    by_cases
    (is_longer text)
    (λ t. rw (f, t) (longer_read text t))
    (λ n. rw (f, n) (no_line text (line_read text) refl (rw (f, n)))))

-- a line that is read is one of its form
pub read-old : (text : List ℕ) (l : Line) → Some l ≡ line_of text → l.added ≡ None → (is_old text ≡ true) × (l ≡ old_in text)
unfolding said
read-old text l e none =
    by_cases
    (is_old text)
    (λ t. let e' : Some l ≡ Some (old_in text) = rw t at e in (t, same_Some _ _ e'))
    (λ f.
    by_cases
    (is_longer text)
    (λ t. let e' : Some l ≡ Some (longer_in text) = rw (f, t) at e in absurd (none-some _ (sym none ∙ ap (λ (l : Line). l.added) (same_Some _ _ e'))))
    (λ n. let e' : Some l ≡ None = rw (f, n) at e in absurd (none-some _ (sym e'))))

pub read-longer : (text : List ℕ) (l : Line) (a : Added) → Some l ≡ line_of text → l.added ≡ Some a → (is_longer text ≡ true) × (l ≡ longer_in text)
unfolding said
read-longer text l a e some =
    by_cases
    (is_old text)
    (λ t. let e' : Some l ≡ Some (old_in text) = rw t at e in absurd (none-some _ (sym (ap (λ (l : Line). l.added) (same_Some _ _ e')) ∙ some)))
    (λ f.
    by_cases
    (is_longer text)
    (λ t. let e' : Some l ≡ Some (longer_in text) = rw (f, t) at e in (t, same_Some _ _ e'))
    (λ n. let e' : Some l ≡ None = rw (f, n) at e in absurd (none-some _ (sym e'))))

-- the numbers that a line is written of are those that are read
pub numbers_agree : (l : Line) → fits l ≡ true → line_of (text_of l) ≡ Some l
numbers_agree l h = sym (read_agrees (text_of l)) ∙ line_written l h

-- how long a line is
number-short : (n : ℕ) → field_fits n ≡ true → length (decimal n) ≤ field_digits
number-short n h = (decimal_spelled field_digits n (omega arith) (ltb-true n (10 ^ field_digits) h)).short

code-short : (c : Option ℕ) → code_fits c ≡ true → length (code_text c) ≤ code_digits
code-short None h = omega arith
code-short (Some n) h = (decimal_spelled code_digits n (omega arith) (ltb-true n (10 ^ code_digits) h)).short

front-length : (f p : ℕ) (a : Option Added) → (let l : Line = record { format = f; pattern = p; added = a } in fits l ≡ true → length (text_of l) ≤ 2 * field_digits + 1 + length (added_text a))
front-length f p a h =
    let l : Line = record { format = f; pattern = p; added = a } in
    let fit = low_of l h in
    omega (arith, length-append (decimal f) (comma ∷ tail p a), length-append (decimal p) (added_text a), number-short f fit.format, number-short p fit.pattern)

added-length : (a : Added) → added_fits (Some a) ≡ true → length (added_text (Some a)) ≤ field_digits + code_digits + 3
added-length a h =
    let rest = code_text a.code ++ line_feed ∷ [] in
    omega (arith, length-append (decimal a.pilots) (comma ∷ rest), length-append (code_text a.code) (line_feed ∷ []), number-short a.pilots (left-true (field_fits a.pilots) (code_fits a.code) h), code-short a.code (right_true (field_fits a.pilots) (code_fits a.code) h))

pub old-short : (text : List ℕ) → is_old text ≡ true → length text ≤ longest_old
old-short text e =
    let (h, is) = old_is text e in
    let l = old_in text in
    omega (arith, ap length is, front-length l.format l.pattern None h)

pub longer-short : (text : List ℕ) → is_longer text ≡ true → length text ≤ longest_line
longer-short text e =
    let (h, is) = longer_is text e in
    let l = longer_in text in
    let a = added_in (behind comma (behind comma text)) in
    omega (arith, ap length is, front-length l.format l.pattern l.added h, added-length a (low_of l h).added)

pub line-short : (text : List ℕ) → is_line text ≡ true → length text ≤ longest_line
line-short text e =
    by_cases
    (is_old text)
    (λ t. omega (arith, old-short text t))
    (λ f. longer-short text (rw f at e))

-- so of a text that is too long for a line no more need be read than shows it
pub read_front : {A : Type 0} (g : List ℕ → A) (refusal : A) → ((text : List ℕ) → longest_line < length text → g text ≡ refusal)
    → (n : ℕ) (text : List ℕ) → longest_line < n → g (take n text) ≡ g text
read_front g refusal long-refused n text h =
    by_cases (leb (length text) n)
    (λ t. ap g (take_all n text (leb-true _ _ t)))
    (λ f.
    let over = leb-false (length text) n f in
    let long = length-take-le n text (omega arith) in
    long-refused (take n text) (omega arith) ∙ sym (long-refused text (omega arith)))
