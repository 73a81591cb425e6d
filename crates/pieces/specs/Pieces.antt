-- The pieces (004, 4.3): the bits that do not go through the trellises, 8,048 at a time, each piece coded by itself. A piece and
-- its 52 check bits are a column of labels.
use Rattle.std.specs.Prelude.{List, [], ◌++◌, ℕ, zero, suc, ◌/◌, length, take, drop}
use Rattle.acm.specs.Formats.{piece_length}
use Rattle.bch.specs.Bch.{coded}

-- the codewords of n pieces, one behind the other
abbrev pub coded_pieces : ℕ → List ℕ → List ℕ
coded_pieces zero bits = []
coded_pieces (suc n) bits = coded (take piece_length bits) ++ coded_pieces n (drop piece_length bits)

-- those of all whole pieces of a list
abbrev pub all_coded : List ℕ → List ℕ
all_coded bits = coded_pieces (length bits / piece_length) bits
