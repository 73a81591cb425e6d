-- What is read decides first, then the checks of its numbers, and then whether it goes back.
use mathlib.Core.Path.{◌≡◌, sym, ◌∙◌}
use borrow.Author.Rules.{rules}
use Rattle.bits.specs.Checks.{number_of, passed}
use Rattle.bits.proofs.Refusals.{not_passed}
use Rattle.job_line.specs.Job.{plain, said_number}
use Rattle.job_moves.proofs.Checked.{none_plain, not_plain, other_plain, said_refused, plain_asked}
use Rattle.job_moves.proofs.check_plain.Goals as goal

pub returns-in_default : goal.returns-in_default
returns-in_default c = none_plain _ (sym c.in_default.is ∙ c.read.ensures)

pub returns-in_default-added : goal.returns-in_default-added
returns-in_default-added c = other_plain _ c.in-Some.line (sym c.in-Some.is ∙ c.read.ensures) c.in_default-added.is

pub returns-in_err-check : goal.returns-in_err-check
returns-in_err-check c =
    let e : number_of c.from_residual.result ≡ said_number c.in-Some.line = search rules in
    let refused : said_number c.in-Some.line ≡ passed → ⊥ = search (rules, not_passed) in
    e ∙ said_refused _ c.in-Some.line (sym c.in-Some.is ∙ c.read.ensures) c.in-Some-added.added c.in-Some-added.is refused

pub returns-then-ne : goal.returns-then-ne
returns-then-ne c =
    let passes : said_number c.in-Some.line ≡ passed = search rules in
    let other : c.in-Some-added.added ≡ plain → ⊥ = search rules in
    sym (plain_asked _ c.in-Some.line (sym c.in-Some.is ∙ c.read.ensures) c.in-Some-added.added c.in-Some-added.is passes ∙ rw (not_plain _ other))

pub returns : goal.returns
returns c =
    let passes : said_number c.in-Some.line ≡ passed = search rules in
    let same : c.in-Some-added.added ≡ plain = search rules in
    sym (plain_asked _ c.in-Some.line (sym c.in-Some.is ∙ c.read.ensures) c.in-Some-added.added c.in-Some-added.is passes ∙ rw same)
