-- A word and its digits: sixteen digits are the text of their value, and no other text of sixteen bytes is a word's.
use mathlib.Core.Path.{◌≡◌, refl, sym, ap, ◌∙◌}
use mathlib.Core.Bool.{Bool, true, false, ◌&&◌, false≢true}
use mathlib.Core.List.{List, [], ◌∷◌, ◌++◌, map, append_assoc, append-nil}
use Prim.Native.Nat.{ℕ, zero, suc, ◌+◌, ◌-◌, ◌*◌, ◌/◌, ◌%◌, ◌^◌, ◌≤◌, ◌<◌}
use Prim.Native.Char.{code}
use native.Mathlib.Nat.{pow-suc, pow-le-pow_right, mul_assoc, mul_comm, mul-le-mul_right, lt_of_lt_of_le}
use native.Mathlib.Numerals.{add-one}
use native.Mathlib.Omega.{arith}
use borrow.Author.Tests.{leb-true, le-leb, lt-leb, lt-ltb, le-ltb, ltb-true, ltb-false}
use lib.Dec.{leb, ltb}
use lib.ListN.{length, get_or, drop, length-append}
use Rattle.std.specs.Prelude.{Some, None}
use Rattle.std.proofs.lemmas.List.{map-append}
use Rattle.bits.specs.Digits.{value_from}
use Rattle.bits.specs.Same.{same}
use Rattle.bits.proofs.Cases.{by_cases}
use Rattle.bits.proofs.Digits.{value-last}
use Rattle.bits.proofs.Legal.{and-false}
use Rattle.bits.proofs.Lists.{drop-next}
use Rattle.bits.proofs.Same.{same_self, same-equal}
use Rattle.bits.proofs.Table.{left-true, right_true}
use Rattle.ascii.specs.Text.{zero_digit, nine_digit}
use Rattle.samples.specs.Reader.{is_digit, digit_of, word_of}
use Rattle.samples.specs.Text.{digits, digit, digit_value, hexadecimal, word_in}

unfoldable pub all_digits : List ℕ → Bool
all_digits [] = true
all_digits (b ∷ bs) = is_digit b && all_digits bs

module _ (b : ℕ) (t : is_digit b ≡ true) where
  -- 0 to 9, or A to F
  of_digit : {P : Type 0} → (zero_digit ≤ b → b ≤ nine_digit → P) → (code "A" ≤ b → b ≤ code "F" → P) → P
  of_digit number letter =
      by_cases
      (leb zero_digit b && leb b nine_digit)
      (λ u. number (leb-true _ _ (left-true _ _ u)) (leb-true _ _ (right_true (leb zero_digit b) _ u)))
      (λ f. let u = rw f at t in letter (leb-true _ _ (left-true _ _ u)) (leb-true _ _ (right_true (leb (code "A") b) _ u)))

  pub value_low : digit_value b < 16
  value_low =
      of_digit
      (λ l h. rw (le-leb b nine_digit h) (omega arith))
      (λ l h. rw (lt-leb b nine_digit (omega arith)) (omega arith))

  digit_is : digit (digit_value b) ≡ b
  digit_is =
      of_digit
      (λ l h. rw (le-leb b nine_digit h, lt-ltb (b - zero_digit) 10 (omega arith)) (omega arith))
      (λ l h. rw (lt-leb b nine_digit (omega arith), le-ltb (b - code "A" + 10) 10 (omega arith)) (omega arith))

-- the writer's digits are such
module _ (d : ℕ) (h : d < 16) where
  written-digit : is_digit (digit d) ≡ true
  written-digit =
      by_cases
      (ltb d 10)
      (λ t. rw (t, le-leb zero_digit (zero_digit + d) (omega arith), le-leb (zero_digit + d) nine_digit (omega (arith, ltb-true d 10 t))) refl)
      (λ f.
      rw
      (f, lt-leb (code "A" + (d - 10)) nine_digit (omega arith), le-leb (code "A") (code "A" + (d - 10)) (omega arith), le-leb (code "A" + (d - 10)) (code "F") (omega arith), and-false)
      refl)

  written-value : digit_value (digit d) ≡ d
  written-value =
      by_cases
      (ltb d 10)
      (λ t. rw (t, le-leb (zero_digit + d) nine_digit (omega (arith, ltb-true d 10 t))) (omega arith))
      (λ f. rw (f, lt-leb (code "A" + (d - 10)) nine_digit (omega arith)) (omega (arith, ltb-false d 10 f)))

digits_last : (xs : List ℕ) (b : ℕ) → all_digits xs ≡ true → is_digit b ≡ true → all_digits (xs ++ b ∷ []) ≡ true
unfolding all_digits
digits_last [] b t e = rw e
digits_last (x ∷ xs) b t e =
    rw (left-true (is_digit x) (all_digits xs) t) (digits_last xs b (right_true (is_digit x) (all_digits xs) t) e)

-- so many digits, and their value is the word, if it is one of so many
pub length-hexadecimal : (n word : ℕ) → length (hexadecimal n word) ≡ n
unfolding hexadecimal
length-hexadecimal zero word = refl
length-hexadecimal (suc n) word =
    length-append (hexadecimal n (word / 16)) (digit (word % 16) ∷ []) ∙ omega (arith, length-hexadecimal n (word / 16))

pub hexadecimal-digits : (n word : ℕ) → all_digits (hexadecimal n word) ≡ true
unfolding hexadecimal all_digits
hexadecimal-digits zero word = refl
hexadecimal-digits (suc n) word =
    digits_last (hexadecimal n (word / 16)) _ (hexadecimal-digits n (word / 16)) (written-digit (word % 16) (omega arith))

pub hexadecimal-value : (n word : ℕ) → word < 16 ^ n → word_in (hexadecimal n word) ≡ word
unfolding hexadecimal
hexadecimal-value zero word h = omega arith
hexadecimal-value (suc n) word h =
    let front = hexadecimal n (word / 16) in
    let last = digit (word % 16) in
    rw (map-append digit_value front (last ∷ []))
    (value-last 16 0 (map digit_value front) (digit_value last)
    ∙ omega (arith, hexadecimal-value n (word / 16) (omega (arith, pow-suc 16 n)), written-value (word % 16) (omega arith)))

-- digits behind those of another word
hexadecimal-behind : (n a : ℕ) (ds : List ℕ) → all_digits ds ≡ true
    → hexadecimal (n + length ds) (value_from 16 a (map digit_value ds)) ≡ hexadecimal n a ++ ds
unfolding hexadecimal all_digits
hexadecimal-behind n a [] t = let z : n + 0 ≡ n = omega arith in rw z (sym (append-nil (hexadecimal n a)))
hexadecimal-behind n a (b ∷ ds) t =
    let is = left-true (is_digit b) (all_digits ds) t in
    let v = digit_value b in
    let low = value_low b is in
    let more : n + length (b ∷ ds) ≡ suc n + length ds = omega arith in
    let front : (16 * a + v) / 16 ≡ a = omega arith in
    let last : (16 * a + v) % 16 ≡ v = omega arith in
    rw more
    (hexadecimal-behind (suc n) (16 * a + v) ds (right_true (is_digit b) (all_digits ds) t)
    ∙ rw (front, last, digit_is b is, append_assoc) refl)

-- a text is a word's digits exactly if it has digits alone
module _ (text : List ℕ) (long : length text ≡ digits) where
  digits_word : all_digits text ≡ true → hexadecimal digits (word_in text) ≡ text
  unfolding hexadecimal
  digits_word t =
      let e : digits ≡ 0 + length text = omega (arith, long) in
      ap (λ (n : ℕ). hexadecimal n (word_in text)) e ∙ hexadecimal-behind 0 0 text t

  is_word : same text (hexadecimal digits (word_in text)) ≡ all_digits text
  is_word =
      by_cases
      (all_digits text)
      (λ t. rw (digits_word t, t) (same_self text))
      (λ f.
      by_cases
      (same text (hexadecimal digits (word_in text)))
      (λ s.
      let e = same-equal _ _ s in
      absurd (false≢true (sym f ∙ ap all_digits e ∙ hexadecimal-digits digits (word_in text))))
      (λ s. s ∙ sym f))

  pub word_there : all_digits text ≡ true → Some (word_in text) ≡ word_of text
  unfolding word_of
  word_there t = rw (is_word, t) refl

  pub no_word : all_digits text ≡ false → None ≡ word_of text
  unfolding word_of
  no_word f = rw (is_word, f) refl

-- one digit more
module _ (text : List ℕ) (k : ℕ) (inside : k < length text) where
  abbrev b : ℕ
  b = get_or text k 0

  pub next_value : (a : ℕ) → value_from 16 a (map digit_value (drop k text)) ≡ value_from 16 (16 * a + digit_value b) (map digit_value (drop (k + 1) text))
  next_value a = rw (drop-next text k inside) refl

  pub next_digits : all_digits (drop k text) ≡ (is_digit b && all_digits (drop (k + 1) text))
  unfolding all_digits
  next_digits = rw (drop-next text k inside) refl

pub digit_some : (b v : ℕ) → digit_of b ≡ Some v → (is_digit b ≡ true) × (digit_value b ≡ v)
digit_some b v e =
    by_cases
    (is_digit b)
    (λ t. let e' : Some (digit_value b) ≡ Some v = rw t at e in let is : digit_value b ≡ v = cc in (t, is))
    (λ f. let e' : None ≡ Some v = rw f at e in cc)

pub digit_none : (b : ℕ) → digit_of b ≡ None → is_digit b ≡ false
digit_none b e = by_cases (is_digit b) (λ t. let e' : Some (digit_value b) ≡ None = rw t at e in cc) (λ f. f)

-- the word that digits write, and one more digit behind it: with sixteen it fits in 64 bits
module _ (k v d : ℕ) (h : v < 16 ^ k) (low : d < 16) where
  pub next_low : 16 * v + d < 16 ^ (k + 1)
  next_low = rw (add-one k, pow-suc 16 k) (omega arith)

  pub next_fits : k < digits → 16 * v + d < 2 ^ 64
  next_fits inside =
      let last : k + 1 ≤ digits = omega arith in
      let most : 16 ^ (k + 1) ≤ 16 ^ digits = pow-le-pow_right (omega arith) last in
      omega (arith, next_low, most)

-- what the reader says of a word
pub word_some : (text : List ℕ) (word : ℕ) → word_of text ≡ Some word → (text ≡ hexadecimal digits (word_in text)) × (word_in text ≡ word)
unfolding word_of
word_some text word e =
    by_cases
    (same text (hexadecimal digits (word_in text)))
    (λ t. let e' : Some (word_in text) ≡ Some word = rw t at e in let is : word_in text ≡ word = cc in (same-equal _ _ t, is))
    (λ f. let e' : None ≡ Some word = rw f at e in cc)

pub word_none : (text : List ℕ) → word_of text ≡ None → text ≡ hexadecimal digits (word_in text) → ⊥
unfolding word_of
word_none text e is =
    let same_there : same text (hexadecimal digits (word_in text)) ≡ true = ap (same text) (sym is) ∙ same_self text in
    let e' : Some (word_in text) ≡ None = rw same_there at e in cc

-- a word has 64 bits
value-low : (a : ℕ) (ds : List ℕ) → all_digits ds ≡ true → value_from 16 a (map digit_value ds) < (a + 1) * 16 ^ length ds
unfolding all_digits
value-low a [] t = omega arith
value-low a (b ∷ ds) t =
    let low = value_low b (left-true (is_digit b) (all_digits ds) t) in
    let v = 16 * a + digit_value b in
    let room : v + 1 ≤ (a + 1) * 16 = omega (arith, low) in
    lt_of_lt_of_le (value-low v ds (right_true (is_digit b) (all_digits ds) t))
    (rw (pow-suc 16 (length ds), mul_comm (16 ^ length ds) 16, ← mul_assoc (a + 1) 16 (16 ^ length ds)) (mul-le-mul_right (16 ^ length ds) room))

pub word-low : (word : ℕ) → word_in (hexadecimal digits word) < 2 ^ 64
word-low word =
    let ds = hexadecimal digits word in
    omega (arith, value-low 0 ds (hexadecimal-digits digits word), ap (λ (n : ℕ). 16 ^ n) (length-hexadecimal digits word))
