-- Each exit is the reader's step by step, which agrees with the line's definition.
use mathlib.Core.Path.{◌≡◌, ◌∙◌}
use borrow.Author.Rules.{rules}
use Rattle.job_line.specs.Reader.{line_read}
use Rattle.job_line.proofs.Lines.{read_agrees}
use Rattle.job_line.proofs.steps.read.Goals as goal

pub returns-in_err-format : goal.returns-in_err-format
returns-in_err-format c = let e : c.from_residual.result ≡ line_read c.args.text.now = search rules in e ∙ read_agrees _

pub returns-in_err-format-2 : goal.returns-in_err-format-2
returns-in_err-format-2 c = let e : c.from_residual-in_err-format-2.result ≡ line_read c.args.text.now = search rules in e ∙ read_agrees _

pub returns : goal.returns
returns c = let e : c.read_rest.result ≡ line_read c.args.text.now = search rules in e ∙ read_agrees _
