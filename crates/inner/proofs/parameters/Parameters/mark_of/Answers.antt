-- The residue is one that the pattern laid out has, and its mark is that of the interleaved position.
use Prim.Native.Nat.{◌*◌, ◌<◌}
use native.Mathlib.Omega.{arith}
use Rattle.puncture.specs.Puncture.{period}
use Rattle.puncture.proofs.Laid.{laid_survives}
use Rattle.puncture.proofs.Zeroed.{pattern-low}
use Rattle.inner.proofs.parameters.Parameters.mark_of.Goals.{After-residue_of-residue}
use Rattle.inner.proofs.parameters.Parameters.mark_of.Goals as goal

low : (c : After-residue_of-residue) → c.residue_of-residue.result < 3 * period
low c =
    let p = c.args.self.now in
    omega (arith, c.residue_of-residue.ensures.low period (omega arith) p.residues_are, p.permutation.ranges.narrow, c.requires)

pub bounds-self-residue : goal.bounds-self-residue
bounds-self-residue c = low (goal.at.bounds-self-residue c).After-residue_of-residue

pub returns-clause-low : goal.returns-clause-low
returns-clause-low c =
    rw (c.args.self.now.pattern_is.entry _ (low (goal.at.returns-clause-low c).After-residue_of-residue)) (pattern-low _ _)

pub returns-clause-value : goal.returns-clause-value
returns-clause-value c row of =
    let p = c.args.self.now in
    let leaves = c.residue_of-residue.ensures.leaves period row p.residues_are of in
    laid_survives _ _ p.pattern_is _ _ (low (goal.at.returns-clause-value c).After-residue_of-residue) leaves
