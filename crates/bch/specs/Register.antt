-- The shift register that the code runs (figure 4-4): it starts with zeros, and holds the remainder of what is fed to it, times x^52, at once.
use Rattle.std.specs.Prelude.{◌≡◌, List, [], ◌∷◌, ◌++◌, ℕ, ◌^◌, ◌<◌, length, get_or}
use Rattle.bits.specs.Sum.{◌⊕◌, ◌⊕*◌}
use Rattle.bits.specs.Words.{bits_of}
use Rattle.bch.specs.Division.{scaled}
use Rattle.bch.specs.Bch.{check_length, zeros, lower}

-- a register of q's feedback, holding r, once u is fed to it: the first bit leaves, and with u decides whether q is added to the others
abbrev pub fed : List ℕ → List ℕ → ℕ → List ℕ
fed q [] u = []
fed q (h ∷ r) u = (r ++ (0 ∷ [])) ⊕* scaled (h ⊕ u) q

abbrev pub register_from : List ℕ → List ℕ → List ℕ → List ℕ
register_from q r [] = r
register_from q r (u ∷ us) = register_from q (fed q r u) us

-- the code feeds eight bits at once: a table has, for each byte, what it leaves in a register of zeros
abbrev pub byte_length : ℕ
byte_length = 8

pub record Table (table : List ℕ) : Type 0 where
  pub long : length table ≡ 2 ^ byte_length
  pub small : (byte : ℕ) → byte < 2 ^ byte_length → get_or table byte 0 < 2 ^ check_length
  pub entry : (byte : ℕ) → byte < 2 ^ byte_length → bits_of check_length (get_or table byte 0) ≡ register_from lower (zeros check_length) (bits_of byte_length byte)
