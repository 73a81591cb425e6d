-- The table has W × bank modulo P, so that the row's α added to it is the interleaved position but for multiples of P.
use Rattle.interleaver.proofs.Walks.{residue_in}
use Rattle.interleaver.proofs.steps.Permutation.residue_of.Goals as goal

pub returns-clause-leaves : goal.returns-clause-leaves
returns-clause-leaves c P row m of =
    rw (c.looked_up.ensures, of.address-is, of.shift-is) (residue_in _ _ c.args.self.now.ranges c.args.place.column row c.args.place.column_low of.row_low P _ m)
