-- The reader's answer decides first, then the checks of its numbers.
use mathlib.Core.Path.{sym, ◌∙◌}
use Rattle.std.proofs.lemmas.Result.{err_from_is_err_and}
use Rattle.job_line.proofs.Checked.{line_refused, line_accepted}
use Rattle.job_line.proofs.parse.Goals as goal

pub returns-in_err-line : goal.returns-in_err-line
returns-in_err-line c =
    let line = c.in_err-line.ensures in
    let p = err_from_is_err_and c.from_residual.result c.from_residual.ensures.1 in
    rw (p.1, p.2) (line_refused _ _ _ c.read.ensures line.ok_part line.value)

pub returns : goal.returns
returns c =
    line_accepted _ _ (sym c.in_ok-line.ensures.ok_part ∙ c.read.ensures) _ c.check.ensures.number c.check.ensures.known
