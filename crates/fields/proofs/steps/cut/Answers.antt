use Rattle.fields.proofs.Cuts.{cut-missing, cut_found}
use Rattle.fields.proofs.steps.cut.Goals as goal

pub returns-in_err-at : goal.returns-in_err-at
returns-in_err-at c = rw c.from_residual.ensures (cut-missing _ _ c.in_err-at.ensures)

pub returns : goal.returns
returns c = cut_found _ _ _ c.in_ok-at.ensures
