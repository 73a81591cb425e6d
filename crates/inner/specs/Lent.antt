-- What the inner encoder asks of the memory lent to it: the outer kept bits at the front of a workspace, and an output with room for the
-- codeword's trellis part; what it writes there; and where a run over the positions stands.
use Rattle.std.specs.Prelude.{List, ℕ, ◌≤◌, length}
use Rattle.acm.specs.Formats.{N1}
use Rattle.acm.specs.declared.table.Format.{Format}
use Rattle.interleaver.specs.Interleaver.{permuted}
use Rattle.interleaver.specs.Walk.{Walked}
use Rattle.inner.specs.Left.{completed, Fits}
use Rattle.inner.specs.Registers.{interleaved, registers}
use Rattle.inner.specs.declared.parameters.Parameters.{Parameters}
use Rattle.inner.specs.declared.steps.Progress.{Progress}

pub record Lent (r : Format) (work out : List ℕ) : Type 0 where
  pub outer-bits : r.i ≤ length work
  pub room : N1 r ≤ length out

-- the interleaver, over its two vectors
abbrev pub π_of : Parameters → ℕ → ℕ
π_of p = permuted p.permutation.alpha.now p.permutation.beta.now

-- a run over the positions stands where its registers fit, with the row and column of its position
pub record Stands (p : Parameters) (work : List ℕ) (at : Progress) : Type 0 where
  pub fits : Fits p.figures (π_of p) work at.walk.position.0 at.coder
  pub walked : Walked (length p.permutation.alpha.now) at.walk

-- the output with all stored that is left at that position
abbrev pub completes : Parameters → List ℕ → Progress → List ℕ → List ℕ
completes p work at out = completed p.figures (π_of p) work at.walk.position.0 at.coder out

-- the trellis part of a codeword, by the record and the interleaver
abbrev pub written : Parameters → List ℕ → List ℕ
written p work = registers p.figures (π_of p) (interleaved p.figures (π_of p) work)
