-- A generator of the turns: a word of each m-sequence at both places where R takes its symbols.
use Rattle.std.specs.Prelude.{ℕ, ◌+◌, ◌*◌, ◌%◌}
use Rattle.bits.specs.Sum.{◌⊕◌, bit}
use Rattle.m_sequences.specs.MSequences.{period, stepped, word_at, x, y}
use Rattle.gold.specs.declared.steps.Generator.{Generator}
use Rattle.gold.specs.Gold.{half}

-- that of code number n at the place i
abbrev pub generator_at : ℕ → ℕ → Generator
generator_at n i =
    record {
      x = word_at x ((i + n) % period);
      y = word_at y (i % period);
      half_x = word_at x ((i + half + n) % period);
      half_y = word_at y ((i + half) % period);
    }

-- what it gives the symbol
abbrev pub turns_of : Generator → ℕ
turns_of g = 2 * (bit 0 g.half_x ⊕ bit 0 g.half_y) + (bit 0 g.x ⊕ bit 0 g.y)

-- the generator a symbol later
abbrev pub later : Generator → Generator
later g =
    record {
      x = stepped x.exponents g.x;
      y = stepped y.exponents g.y;
      half_x = stepped x.exponents g.half_x;
      half_y = stepped y.exponents g.half_y;
    }
