-- Labels, a column at a time: what one more column makes of them, their bounds and their places.
use mathlib.Core.Path.{◌≡◌, refl, sym, ap, ap₂, ◌∙◌}
use mathlib.Core.Bool.{true}
use mathlib.Core.List.{List, [], ◌∷◌, ◌++◌, append-nil}
use Prim.Native.Nat.{ℕ, zero, suc, ◌+◌, ◌-◌, ◌*◌, ◌/◌, ◌%◌, ◌^◌, ◌≤◌, ◌<◌}
use native.Mathlib.Nat.{pow-suc, pow-succ', add-zero, div-div-eq-div-mul}
use native.Mathlib.Numerals.{add-one}
use native.Mathlib.Omega.{arith}
use borrow.Author.Tests.{le-leb}
use lib.ListN.{length, get_or, drop, take, replicate, length-append, length-drop, get_or-append}
use lib.Seq.{length-take-le, get_or-drop, take_at, drop_at, drop-drop}
use lib.Pow.{pow_mono, le_ones}
use Rattle.bits.specs.Digits.{value}
use Rattle.bits.specs.Legal.{all_at_most, all_bits}
use Rattle.bits.proofs.Digits.{value-last}
use Rattle.bits.proofs.Legal.{legal-at}
use Rattle.bits.proofs.Lists.{drop-next}
use Rattle.acm.specs.Formats.{symbols}
use Rattle.mapping.specs.Columns.{appended}
use Rattle.mapping.specs.Labels.{row_from, label, labels_from, labels, columns}

row_next : (codeword : List ℕ) (p m : ℕ) → row_from codeword p (suc m) ≡ row_from codeword p m ++ get_or codeword (p + m * symbols) 0 ∷ []
row_next codeword p zero =
    let e : p ≡ p + 0 * symbols = omega arith in
    ap (λ (q : ℕ). get_or codeword q 0 ∷ []) e
row_next codeword p (suc m) =
    let e : p + symbols + m * symbols ≡ p + suc m * symbols = omega arith in
    ap (λ (l : List ℕ). get_or codeword p 0 ∷ l)
    (row_next codeword (p + symbols) m ∙ ap (λ (q : ℕ). row_from codeword (p + symbols) m ++ get_or codeword q 0 ∷ []) e)

pub label-next : (m : ℕ) (codeword : List ℕ) (r : ℕ) → label (suc m) codeword r ≡ 2 * label m codeword r + get_or codeword (r + m * symbols) 0
label-next m codeword r = ap (value 2) (row_next codeword r m) ∙ value-last 2 0 (row_from codeword r m) (get_or codeword (r + m * symbols) 0)

pub labels-none : (codeword : List ℕ) (r k : ℕ) → labels_from 0 codeword r k ≡ replicate k 0
labels-none codeword r zero = refl
labels-none codeword r (suc k) = ap (λ (l : List ℕ). 0 ∷ l) (labels-none codeword (r + 1) k)

-- column c behind the labels of c bits makes the labels of c + 1 bits
pub labels-appended : (c : ℕ) (codeword : List ℕ) (r k : ℕ) (rest : List ℕ) → r + c * symbols + k ≤ length codeword
    → appended (take k (drop (r + c * symbols) codeword)) (labels_from c codeword r k ++ rest) ≡ labels_from (suc c) codeword r k ++ rest
labels-appended c codeword r zero rest h = refl
labels-appended c codeword r (suc k) rest h =
    let p = r + c * symbols in
    let e : p + 1 ≡ r + 1 + c * symbols = omega arith in
    rw (drop-next codeword p (omega arith), label-next c codeword r, e)
    (ap (λ (l : List ℕ). (2 * label c codeword r + get_or codeword p 0) ∷ l) (labels-appended c codeword (r + 1) k rest (omega arith)))

pub labels_length : (m : ℕ) (codeword : List ℕ) (r k : ℕ) → length (labels_from m codeword r k) ≡ k
labels_length m codeword r zero = refl
labels_length m codeword r (suc k) = ap suc (labels_length m codeword (r + 1) k)

pub labels_at : (m : ℕ) (codeword : List ℕ) (r k : ℕ) (rest : List ℕ) (j : ℕ) → j < k → get_or (labels_from m codeword r k ++ rest) j 0 ≡ label m codeword (r + j)
labels_at m codeword r zero rest j h = absurd (omega arith)
labels_at m codeword r (suc k) rest zero h = ap (label m codeword) (sym (add-zero r))
labels_at m codeword r (suc k) rest (suc j) h =
    let e : r + 1 + j ≡ r + suc j = omega arith in
    labels_at m codeword (r + 1) k rest j (omega arith) ∙ ap (label m codeword) e

-- a label of m bits is below 2^m
pub label-low : (m : ℕ) (codeword : List ℕ) (r : ℕ) → all_bits codeword ≡ true → label m codeword r < 2 ^ m
label-low zero codeword r h = omega arith
label-low (suc m) codeword r h =
    omega (arith, label-next m codeword r, label-low m codeword r h, legal-at 1 codeword h (r + m * symbols), pow-suc 2 m)

-- so one bit more still fits a byte
pub label-fits : (c m : ℕ) (codeword : List ℕ) (r : ℕ) → all_bits codeword ≡ true → c < m → m ≤ 8
    → 2 * label c codeword r + get_or codeword (r + c * symbols) 0 < 256
label-fits c m codeword r h low high =
    omega (arith, label-next c codeword r, label-low (suc c) codeword r h, pow_mono {i = suc c} {j = 8} (omega arith))

-- the labels of ones and zeros are legal
legal_from : (m : ℕ) (codeword : List ℕ) → all_bits codeword ≡ true → (r k : ℕ) → all_at_most (2 ^ m - 1) (labels_from m codeword r k) ≡ true
legal_from m codeword h r zero = refl
legal_from m codeword h r (suc k) =
    rw (le-leb (label m codeword r) (2 ^ m - 1) (le_ones m (label-low m codeword r h))) (legal_from m codeword h (r + 1) k)

pub labels-legal : (m : ℕ) (codeword : List ℕ) → all_bits codeword ≡ true → all_at_most (2 ^ m - 1) (labels m codeword) ≡ true
unfolding labels
labels-legal m codeword h = legal_from m codeword h 0 symbols

-- the whole column of labels
-- none of its bits yet: zeros, written as a part of the buffer
pub labels_start : (codeword out new : List ℕ) → symbols ≤ length out → new ≡ replicate (length (take symbols out)) 0
    → new ++ drop symbols out ≡ labels 0 codeword ++ drop symbols out
unfolding labels
labels_start codeword out new room e =
    ap (λ (l : List ℕ). l ++ drop symbols out) (e ∙ ap (λ (n : ℕ). replicate n 0) (length-take-le symbols out room) ∙ sym (labels-none codeword 0 symbols))

pub labels-long : (m : ℕ) (codeword : List ℕ) → length (labels m codeword) ≡ symbols
unfolding labels
labels-long m codeword = labels_length m codeword 0 symbols

pub labels-turn : (c : ℕ) (codeword rest : List ℕ) → c * symbols + symbols ≤ length codeword
    → appended (take symbols (drop (c * symbols) codeword)) (labels c codeword ++ rest) ≡ labels (c + 1) codeword ++ rest
unfolding labels
labels-turn c codeword rest h =
    let z : c * symbols ≡ 0 + c * symbols = omega arith in
    ap (λ (p : ℕ). appended (take symbols (drop p codeword)) (labels_from c codeword 0 symbols ++ rest)) z
    ∙ labels-appended c codeword 0 symbols rest (omega arith)
    ∙ ap (λ (k : ℕ). labels_from k codeword 0 symbols ++ rest) (sym (add-one c))

pub labels-get : (m : ℕ) (codeword rest : List ℕ) (r : ℕ) → r < symbols → get_or (labels m codeword ++ rest) r 0 ≡ label m codeword r
unfolding labels
labels-get m codeword rest r h =
    let z : 0 + r ≡ r = omega arith in
    labels_at m codeword 0 symbols rest r h ∙ ap (label m codeword) z

pub label_at : (m : ℕ) (codeword : List ℕ) (r : ℕ) → r < symbols → get_or (labels m codeword) r 0 ≡ label m codeword r
label_at m codeword r h =
    ap (λ (l : List ℕ). get_or l r 0) (sym (append-nil (labels m codeword))) ∙ labels-get m codeword [] r h

-- the first m bits of a label are a label of m bits; its last is the codeword's in the last column
pub label-first : (h m : ℕ) (codeword : List ℕ) (r : ℕ) → all_bits codeword ≡ true → label (h + m) codeword r / 2 ^ h ≡ label m codeword r
label-first zero m codeword r b =
    let z : 0 + m ≡ m = omega arith in
    rw z (omega arith)
label-first (suc h) m codeword r b =
    let more : suc h + m ≡ suc (h + m) = omega arith in
    let half : label (suc (h + m)) codeword r / 2 ≡ label (h + m) codeword r = omega (arith, label-next (h + m) codeword r, legal-at 1 codeword b (r + (h + m) * symbols)) in
    ap₂ (λ (n d : ℕ). label n codeword r / d) more (pow-succ' 2 h)
    ∙ sym (div-div-eq-div-mul (label (suc (h + m)) codeword r) 2 (2 ^ h))
    ∙ ap (λ (n : ℕ). n / 2 ^ h) half
    ∙ label-first h m codeword r b

pub label-last : (m : ℕ) (codeword : List ℕ) (r : ℕ) → all_bits codeword ≡ true → label (suc m) codeword r % 2 ≡ get_or codeword (r + m * symbols) 0
label-last m codeword r b = omega (arith, label-next m codeword r, legal-at 1 codeword b (r + m * symbols))

-- bits behind the m columns do not show in labels of m bits
pub label-front : (m : ℕ) (a b : List ℕ) (r : ℕ) → r < symbols → symbols * m ≤ length a → label m (a ++ b) r ≡ label m a r
label-front zero a b r h e = refl
label-front (suc m) a b r h e =
    label-next m (a ++ b) r
    ∙ ap₂ (λ (n d : ℕ). 2 * n + d) (label-front m a b r h (omega arith)) (get_or-append a b 0 (r + m * symbols) (omega arith))
    ∙ sym (label-next m a r)

-- after some columns the labels of as many bits stand before what is behind them, and the other columns are left
pub record ColumnsLeft (codeword behind out : List ℕ) (size : ℕ) (rest : List ℕ) : Type 0 where
  pub size_is : size ≡ symbols
  pub done : ℕ
  pub rest_is : rest ≡ drop (done * symbols) codeword
  pub inside : done * symbols ≤ length codeword
  pub labelled : out ≡ labels done codeword ++ behind

module _ {codeword behind out rest : List ℕ} {size : ℕ} (p : ColumnsLeft codeword behind out size rest) where
  rest_long : p.done * symbols + length rest ≡ length codeword
  rest_long = omega (arith, ap length p.rest_is, length-drop (p.done * symbols) codeword, p.inside)

  -- a column, and what is left behind it
  module _ (column next : List ℕ) (split : rest ≡ column ++ next) (lent : length column ≡ size) where
    column_long : length column ≡ symbols
    column_long = lent ∙ p.size_is

    column_inside : p.done * symbols + symbols ≤ length codeword
    column_inside = omega (arith, rest_long, ap length split, length-append column next, column_long)

    pub bit_fits : all_bits codeword ≡ true → columns codeword ≤ 8 → (r : ℕ) → r < length column → 2 * get_or out r 0 + get_or column r 0 < 256
    bit_fits bits high r h =
        let before : get_or out r 0 ≡ label p.done codeword r = ap (λ (l : List ℕ). get_or l r 0) p.labelled ∙ labels-get p.done codeword behind r (omega (arith, column_long)) in
        let bit : get_or column r 0 ≡ get_or codeword (p.done * symbols + r) 0 =
        sym (get_or-append column next 0 r h) ∙ ap (λ (l : List ℕ). get_or l r 0) (sym split ∙ p.rest_is) ∙ get_or-drop (p.done * symbols) codeword r 0 in
        let e : p.done * symbols + r ≡ r + p.done * symbols = omega arith in
        let low : p.done < columns codeword = omega (arith, column_inside) in
        omega (arith, before, bit, ap (λ (k : ℕ). get_or codeword k 0) e, label-fits p.done (columns codeword) codeword r bits low high)

    pub column_turn : (after : List ℕ) (same : ℕ) → after ≡ appended column out → same ≡ size → ColumnsLeft codeword behind after same next
    column_turn after same is kept =
        let column_is : take symbols (drop (p.done * symbols) codeword) ≡ column = ap (take symbols) (sym p.rest_is ∙ split) ∙ take_at column next symbols column_long in
        let past : p.done * symbols + symbols ≡ (p.done + 1) * symbols = omega arith in
        record {
          size_is = kept ∙ p.size_is;
          done = p.done + 1;
          rest_is = sym (ap (drop symbols) (sym p.rest_is ∙ split) ∙ drop_at column next symbols column_long) ∙ drop-drop symbols (p.done * symbols) codeword ∙ ap (λ (k : ℕ). drop k codeword) past;
          inside = omega (arith, column_inside);
          labelled = is ∙ ap₂ appended (sym column_is) p.labelled ∙ labels-turn p.done codeword behind column_inside;
        }
