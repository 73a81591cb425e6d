-- A text is a field of at most k digits exactly if it has 1 to k digits without a leading zero.
use mathlib.Core.Path.{◌≡◌, sym, ◌∙◌}
use mathlib.Core.Bool.{true}
use mathlib.Core.List.{List, [], ◌∷◌, ◌++◌, append-nil, append_assoc}
use Prim.Native.Nat.{ℕ, zero, suc, ◌+◌, ◌-◌, ◌*◌, ◌^◌, ◌≤◌, ◌<◌}
use native.Mathlib.Nat.{mul_assoc, mul_comm, pow-le-pow_right, pow-succ'}
use native.Mathlib.Omega.{arith}
use borrow.Author.Tests.{leb-true, ltb-true, eqb-true, eqb-false, lt-ltb}
use lib.Dec.{eqb, leb, ltb}
use lib.ListN.{length, get_or}
use Rattle.bits.specs.Same.{same}
use Rattle.bits.proofs.Cases.{by_cases}
use Rattle.bits.proofs.Same.{same_self, same-equal}
use Rattle.bits.proofs.Table.{left-true, right_true}
use Rattle.std.specs.Prelude.{Some, None}
use Rattle.ascii.specs.Text.{zero_digit, nine_digit, digit, decimal}
use Rattle.ascii.proofs.Decimal.{decimal-one, decimal_push, decimal-some, decimal-length}
use Rattle.fields.specs.Fields.{is_digit, all_digits, value_behind, value, is_field, field_of}
use Rattle.fields.proofs.Digits.{decimal-digits, decimal-value, decimal-leads}

pub record Spelled (k : ℕ) (text : List ℕ) : Type 0 where
  pub some : 0 < length text
  pub short : length text ≤ k
  pub leads : get_or text 0 0 ≡ zero_digit → length text ≡ 1
  pub digits : all_digits text ≡ true

-- the writer's side: the text of each number below 10^k is spelled so
pub decimal_spelled : (k n : ℕ) → 0 < k → n < 10 ^ k → Spelled k (decimal n)
decimal_spelled zero n some h = absurd (omega arith)
decimal_spelled (suc k) n some h =
    record {
      some = decimal-some n;
      short = decimal-length k n h;
      leads = decimal-leads n;
      digits = decimal-digits n;
    }

-- the text of a number below 10^k is a field, and every field is one
pub field_written : (k n : ℕ) → n < 10 ^ k → is_field k (decimal n) ≡ true
unfolding is_field
field_written k n h = rw (decimal-value n, lt-ltb n (10 ^ k) h) (same_self (decimal n))

pub field_read : (k : ℕ) (text : List ℕ) → is_field k text ≡ true → (value text < 10 ^ k) × (text ≡ decimal (value text))
unfolding is_field
field_read k text e =
    let low = ltb (value text) (10 ^ k) in
    let is = same text (decimal (value text)) in
    (ltb-true _ _ (left-true low is e), same-equal _ _ (right_true low is e))

-- the reader's side: digits without a leading zero are the text of their value
digit_low : (b : ℕ) → is_digit b ≡ true → zero_digit ≤ b
digit_low b t = leb-true zero_digit b (left-true (leb zero_digit b) (leb b nine_digit) t)

digit_high : (b : ℕ) → is_digit b ≡ true → b ≤ nine_digit
digit_high b t = leb-true b nine_digit (right_true (leb zero_digit b) (leb b nine_digit) t)

pub digits_head : (b : ℕ) (bs : List ℕ) → all_digits (b ∷ bs) ≡ true → (zero_digit ≤ b) × (b ≤ nine_digit)
unfolding all_digits
digits_head b bs t =
    let d = left-true (is_digit b) (all_digits bs) t in
    (digit_low b d, digit_high b d)

pub digits-tail : (b : ℕ) (bs : List ℕ) → all_digits (b ∷ bs) ≡ true → all_digits bs ≡ true
unfolding all_digits
digits-tail b bs t = right_true (is_digit b) (all_digits bs) t

pub digits-at : (bs : List ℕ) → all_digits bs ≡ true → (k : ℕ) → k < length bs → (zero_digit ≤ get_or bs k 0) × (get_or bs k 0 ≤ nine_digit)
digits-at [] t k h = absurd (omega arith)
digits-at (b ∷ bs) t zero h = digits_head b bs t
digits-at (b ∷ bs) t (suc k) h = digits-at bs (digits-tail b bs t) k (omega arith)

-- the value of digits behind a number: no less than it, and below its bound with a zero for each
pub value_grows : (n : ℕ) (ds : List ℕ) → n ≤ value_behind n ds
value_grows n [] = omega arith
value_grows n (d ∷ ds) = omega (arith, value_grows (10 * n + (d - zero_digit)) ds)

value_low : (m n : ℕ) (ds : List ℕ) → n < m → all_digits ds ≡ true → value_behind n ds < m * 10 ^ length ds
value_low m n [] h t = omega arith
value_low m n (d ∷ ds) h t =
    let (low, high) = digits_head d ds t in
    let one_more : 10 * m * 10 ^ length ds ≡ m * 10 ^ suc (length ds) =
    rw (pow-succ' 10 (length ds), mul_comm 10 m) (mul_assoc m 10 (10 ^ length ds)) in
    omega (arith, value_low (10 * m) (10 * n + (d - zero_digit)) ds (omega arith) (digits-tail d ds t), one_more)

pub value-bound : (k : ℕ) (text : List ℕ) → length text ≤ k → all_digits text ≡ true → value text < 10 ^ k
value-bound k text short t =
    let grows : 10 ^ length text ≤ 10 ^ k = pow-le-pow_right (omega arith) short in
    omega (arith, value_low 1 0 text (omega arith) t, grows)

decimal-behind : (n : ℕ) (ds : List ℕ) → 0 < n → all_digits ds ≡ true → decimal (value_behind n ds) ≡ decimal n ++ ds
decimal-behind n [] h t = sym (append-nil (decimal n))
decimal-behind n (d ∷ ds) h t =
    let (low, high) = digits_head d ds t in
    let is : digit (d - zero_digit) ≡ d = omega arith in
    decimal-behind (10 * n + (d - zero_digit)) ds (omega arith) (digits-tail d ds t)
    ∙ rw (decimal_push n (d - zero_digit) h (omega arith), is, append_assoc)

pub decimal_of : (k : ℕ) (text : List ℕ) → Spelled k text → text ≡ decimal (value text)
decimal_of k [] spelled = absurd (omega (arith, spelled.some))
decimal_of k (a ∷ ds) spelled =
    let (low, high) = digits_head a ds spelled.digits in
    let v = 10 * 0 + (a - zero_digit) in
    let is : digit v ≡ a = omega arith in
    let one : decimal v ≡ a ∷ [] = decimal-one v (omega arith) ∙ rw is in
    by_cases (eqb a zero_digit)
    (λ z. alone ds (spelled.leads (eqb-true a zero_digit z)) one)
    (λ f. sym (decimal-behind v ds (omega (arith, eqb-false a zero_digit f)) (digits-tail a ds spelled.digits) ∙ rw one))
  where
    alone : (ds : List ℕ) → length (a ∷ ds) ≡ 1 → decimal (10 * 0 + (a - zero_digit)) ≡ a ∷ [] → a ∷ ds ≡ decimal (value (a ∷ ds))
    alone [] e one = sym one
    alone (d ∷ ds) e one = absurd (omega arith)

-- so a text is a field exactly if it is spelled so
module _ (k : ℕ) (text : List ℕ) where
  pub field_spelled : 0 < k → is_field k text ≡ true → Spelled k text
  field_spelled some e =
      let (low, is) = field_read k text e in
      rw is (decimal_spelled k (value text) some low)

  pub spelled_field : Spelled k text → is_field k text ≡ true
  spelled_field spelled =
      rw (decimal_of k text spelled) (field_written k (value text) (value-bound k text spelled.short spelled.digits))

  -- the two answers
  pub a_field : Spelled k text → Some (value text) ≡ field_of k text
  a_field spelled = rw (spelled_field spelled)

  pub no_field : 0 < k → (Spelled k text → ⊥) → None ≡ field_of k text
  no_field some n = by_cases (is_field k text) (λ t. absurd (n (field_spelled some t))) (λ f. rw f)

  -- what they say
  pub number_read : (n : ℕ) → field_of k text ≡ Some n → (n < 10 ^ k) × (text ≡ decimal n)
  number_read n e =
      by_cases
      (is_field k text)
      (λ t.
      let e' : Some (value text) ≡ Some n = rw t at e in
      let is : value text ≡ n = cc in
      rw (← is) (field_read k text t))
      (λ f. let e' : None ≡ Some n = rw f at e in cc)

-- the field of a number below 10^k
pub number_written : (k n : ℕ) → n < 10 ^ k → field_of k (decimal n) ≡ Some n
number_written k n h = rw (field_written k n h, decimal-value n)
