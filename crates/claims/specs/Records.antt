-- One record for each ACM format f, with its soft share.
use Rattle.std.specs.Prelude.{◌≡◌, true, List, ℕ, ◌+◌, ◌*◌, ◌≤◌, length}
use Rattle.acm.specs.Formats.{symbols, M, piece_length, formats, last_format, last_one_stage, is_format, format_of, P, N1, hard_bits, AllSoft}
use Rattle.acm.specs.declared.table.Format.{Format}
use Rattle.trellis.specs.Trellis.{outer}
use Rattle.inner.specs.Registers.{from_outer}
use Rattle.encoder.specs.Codeword.{trellis_part, hard_part, hard_coded}

-- there are as many records as formats
abbrev pub Counted : Type 0
Counted = length formats ≡ last_format

-- what holds of every format's record: its number is the place it stands at; K = K1 + K2; 2 I = 3 (K1 + 2); I = 120 W; N = 8,100 m; the
-- 8,100 × soft bits that come from the trellises are the S and P of table 4-3; and K2 is 8,048 for each bit of a label that does not
pub record Balanced (f : ℕ) (r : Format) : Type 0 where
  pub number : r.number ≡ f
  pub split : r.k ≡ r.k1 + r.k2
  pub outer : 2 * r.i ≡ 3 * (r.k1 + 2)
  pub banks : r.i ≡ M * r.w
  pub labels : r.n ≡ symbols * r.m
  pub trellis : N1 r ≡ r.s + P r
  pub pieces : r.k2 ≡ piece_length * hard_bits r

abbrev pub Balances : Type 0
Balances = (f : ℕ) → is_format f ≡ true → Balanced f (format_of f)

-- in formats 1 to 27 K1, K2 and the soft bits are K, 0 and m
abbrev pub Soft : Type 0
Soft = (f : ℕ) → is_format f ≡ true → f ≤ last_one_stage → AllSoft (format_of f)

-- these are the sizes of what is encoded: of a block of K bits K1 go through the trellises, I are kept by the outer one, and N1 bits of the
-- codeword come from the inner one; the other K2 are coded in pieces, with which the codeword has N bits
pub record Sized (f : ℕ) (block : List ℕ) : Type 0 where
  pub part : length (trellis_part f block) ≡ (format_of f).k1
  pub kept : length (outer (trellis_part f block)) ≡ (format_of f).i
  pub trellis : length (from_outer f (outer (trellis_part f block))) ≡ N1 (format_of f)
  pub hard : length (hard_part f block) ≡ (format_of f).k2
  pub both : N1 (format_of f) + length (hard_coded f block) ≡ (format_of f).n

abbrev pub Sizes : Type 0
Sizes = (f : ℕ) → is_format f ≡ true → (block : List ℕ) → length block ≡ (format_of f).k → Sized f block

pub record Recording : Type 0 where
  pub counted : Counted
  pub balances : Balances
  pub soft : Soft
  pub sizes : Sizes
