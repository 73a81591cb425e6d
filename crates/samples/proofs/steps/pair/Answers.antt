use mathlib.Core.Path.{sym, ◌∙◌}
use Rattle.samples.proofs.Pairs.{no_pair, pair_there}
use Rattle.samples.proofs.Words.{word_none}
use Rattle.samples.proofs.steps.pair.Goals.{then-line-ne-COMMA-via-then-line-ne-COMMA, then-line-ne-COMMA-via-else-line-ne-COMMA+then-line-ne-LINE_FEED}
use Rattle.samples.proofs.steps.pair.Goals as goal

pub returns-then-line-ne-COMMA : goal.returns-then-line-ne-COMMA
returns-then-line-ne-COMMA c =
    no_pair c.args.line.now
    (λ w.
    elim c.then-line-ne-COMMA.branch [
      | then-line-ne-COMMA-via-then-line-ne-COMMA b ↦ b.if-line-ne-COMMA.true w.between
      | then-line-ne-COMMA-via-else-line-ne-COMMA+then-line-ne-LINE_FEED b ↦ b.if-line-ne-LINE_FEED.true w.last
    ])

pub returns-in_err-i : goal.returns-in_err-i
returns-in_err-i c = rw c.from_residual.ensures (no_pair c.args.line.now (λ w. word_none _ (sym c.word.ensures ∙ c.in_err-i.was) w.first_is))

pub returns-in_err-q : goal.returns-in_err-q
returns-in_err-q c =
    rw c.from_residual-in_err-q.ensures (no_pair c.args.line.now (λ w. word_none _ (sym c.word-2.ensures ∙ c.in_err-q.was) w.second-is))

pub returns : goal.returns
returns c =
    rw (c.float.ensures, c.float-2.ensures)
    (pair_there c.args.line.now c.requires c.if-line-ne-COMMA.false c.if-line-ne-LINE_FEED.false (sym c.word.ensures ∙ c.in_ok-i.was) (sym c.word-2.ensures ∙ c.in_ok-q.was))
