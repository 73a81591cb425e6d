-- The Gold sequences of the physical-layer randomizer, and its turns (000, annex E). n is the code number.
use Rattle.std.specs.Prelude.{ℕ, ◌+◌, ◌*◌, ◌%◌}
use Rattle.bits.specs.Sum.{◌⊕◌}
use Rattle.m_sequences.specs.MSequences.{period, symbol, x, y}

abbrev pub z : ℕ → ℕ → ℕ
z n i = symbol x ((i + n) % period) ⊕ symbol y i

abbrev pub half : ℕ
half = 131072

-- how many quarter turns the symbol at the place i is given
unfoldable pub R : ℕ → ℕ → ℕ
R n i = 2 * z n ((i + half) % period) + z n i
