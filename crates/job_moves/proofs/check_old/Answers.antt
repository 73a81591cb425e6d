-- What is read decides first, then the checks of its numbers.
use mathlib.Core.Path.{◌≡◌, sym, ◌∙◌}
use borrow.Author.Rules.{rules}
use Rattle.bits.specs.Checks.{number_of, passed}
use Rattle.job_line.specs.Job.{said_number}
use Rattle.job_moves.proofs.Checked.{none_old, other_old, old_asks}
use Rattle.job_moves.proofs.check_old.Goals as goal

pub returns-in_default : goal.returns-in_default
returns-in_default c = none_old _ (sym c.in_default.is ∙ c.read.ensures)

pub returns-then-is_some : goal.returns-then-is_some
returns-then-is_some c = other_old _ c.in-Some.line (sym c.in-Some.is ∙ c.read.ensures) (λ none. search rules)

pub returns-in_err-check : goal.returns-in_err-check
returns-in_err-check c =
    let e : number_of c.from_residual.result ≡ said_number c.in-Some.line = search rules in
    e ∙ old_asks _ c.in-Some.line (sym c.in-Some.is ∙ c.read.ensures) (search rules)

pub returns : goal.returns
returns c =
    let e : passed ≡ said_number c.in-Some.line = search rules in
    e ∙ old_asks _ c.in-Some.line (sym c.in-Some.is ∙ c.read.ensures) (search rules)
