-- From the information block to the codeword (4.1 to 4.4; 004, 4.1 to 4.3).
use Rattle.std.specs.Prelude.{List, ◌++◌, ℕ, take, drop}
use Rattle.acm.specs.Formats.{format_of, hard_bits}
use Rattle.trellis.specs.Trellis.{outer}
use Rattle.inner.specs.Registers.{from_outer}
use Rattle.pieces.specs.Pieces.{coded_pieces}

-- the bits of a block that go through the trellises: its first K1 (004, 4.1.1.1)
abbrev pub trellis_part : ℕ → List ℕ → List ℕ
trellis_part f block = take (format_of f).k1 block

-- the others, K2 of them, which are coded in pieces: none in formats 1 to 27
abbrev pub hard_part : ℕ → List ℕ → List ℕ
hard_part f block = drop (format_of f).k1 block

abbrev pub hard_coded : ℕ → List ℕ → List ℕ
hard_coded f block = coded_pieces (hard_bits (format_of f)) (hard_part f block)

-- the codeword of an information block in ACM format f: what the trellises give, then the pieces' codewords
unfoldable pub codeword : ℕ → List ℕ → List ℕ
codeword f block = from_outer f (outer (trellis_part f block)) ++ hard_coded f block
