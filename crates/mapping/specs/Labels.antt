-- The row-column interleaver (4.5) and the labels (4.6). The codeword is written column by column into 8,100 rows of m bits; a label is a row,
-- read as a number whose first bit weighs most.
use Rattle.std.specs.Prelude.{List, [], ◌∷◌, ℕ, zero, suc, ◌+◌, ◌/◌, length, get_or}
use Rattle.bits.specs.Digits.{value}
use Rattle.acm.specs.Formats.{symbols}

-- the bits at positions p, p + 8100, p + 16200 and so on, m of them
abbrev pub row_from : List ℕ → ℕ → ℕ → List ℕ
row_from codeword p zero = []
row_from codeword p (suc m) = get_or codeword p 0 ∷ row_from codeword (p + symbols) m

abbrev pub label : ℕ → List ℕ → ℕ → ℕ
label m codeword r = value 2 (row_from codeword r m)

-- the labels r, r + 1 and so on, k of them
abbrev pub labels_from : ℕ → List ℕ → ℕ → ℕ → List ℕ
labels_from m codeword r zero = []
labels_from m codeword r (suc k) = label m codeword r ∷ labels_from m codeword (r + 1) k

unfoldable pub labels : ℕ → List ℕ → List ℕ
labels m codeword = labels_from m codeword 0 symbols

-- the columns of a codeword, and so the bits of its labels
abbrev pub columns : List ℕ → ℕ
columns codeword = length codeword / symbols
