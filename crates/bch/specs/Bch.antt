-- The BCH code (004, 4.3): the systematic (8191, 8139) code with the generator g(x) = g_0 + g_1 x + .. + g_52 x^52, shortened by 91 zeros.
-- Figure 4-3 draws the zeros behind the information bits; here they stand before them, as was decided (docs/DECISIONS.md).
use Rattle.std.specs.Prelude.{List, [], ◌∷◌, ◌++◌, reverse, ℕ, drop, replicate}
use Rattle.bch.specs.Division.{remainder}

-- the check bits, as many as the degree of g(x)
abbrev pub check_length : ℕ
check_length = 52

-- the zeros that fill 8,048 information bits up to 8,139
abbrev pub zero_filling : ℕ
zero_filling = 91

abbrev pub zeros : ℕ → List ℕ
zeros n = replicate n 0

-- 4.3.1: g_0 to g_52, hexadecimal 1AAC3AB8418945, "the MSB is g_0"
unfoldable pub printed : List ℕ
printed =
    1 ∷
    1 ∷ 0 ∷ 1 ∷ 0 ∷ 1 ∷ 0 ∷ 1 ∷ 0 ∷ 1 ∷ 1 ∷ 0 ∷ 0 ∷ 0 ∷ 0 ∷ 1 ∷ 1 ∷ 1 ∷ 0 ∷ 1 ∷ 0 ∷ 1 ∷ 0 ∷ 1 ∷ 1 ∷ 1 ∷ 0 ∷ 0 ∷ 0 ∷
    0 ∷ 1 ∷ 0 ∷ 0 ∷ 0 ∷ 0 ∷ 0 ∷ 1 ∷ 1 ∷ 0 ∷ 0 ∷ 0 ∷ 1 ∷ 0 ∷ 0 ∷ 1 ∷ 0 ∷ 1 ∷ 0 ∷ 0 ∷ 0 ∷ 1 ∷ 0 ∷ 1 ∷ []

-- g_51 to g_0, which follow g_52 = 1
unfoldable pub lower : List ℕ
lower = drop 1 (reverse printed)

-- the error control field: the remainder of the information bits, zeros before them, times x^52
unfoldable pub check_bits : List ℕ → List ℕ
check_bits bits = remainder lower (zeros zero_filling ++ bits ++ zeros check_length)

-- the codeword (figure 4-2), without the zeros
abbrev pub coded : List ℕ → List ℕ
coded bits = bits ++ check_bits bits
