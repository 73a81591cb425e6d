-- The checks of the labels decide first, then those of the capture.
use Rattle.std.proofs.lemmas.Result.{err_from_is_err_and}
use Rattle.capture.proofs.Checked.{coordinate_refused, judged_so, labels-long, labels_refused, text_refused}
use Rattle.capture.proofs.judge.Goals as goal

pub returns-in_err-check_labels : goal.returns-in_err-check_labels
returns-in_err-check_labels c =
    let p = err_from_is_err_and c.from_residual.result c.from_residual.ensures.1 in
    rw (p.1, p.2) (labels_refused _ _ _ _ c.in_err-check_labels.ensures)

pub count-requires : goal.count-requires
count-requires c = labels-long c.args.format _ c.args.capture.now c.in_ok-check_labels.ensures

pub returns-in_err-tally : goal.returns-in_err-tally
returns-in_err-tally c =
    let p = err_from_is_err_and c.from_residual-in_err-tally.result c.from_residual-in_err-tally.ensures.1 in
    rw (p.1, p.2) (text_refused _ _ _ c.in_ok-check_labels.ensures _ c.in_err-tally.ensures.number)

pub returns-then-tally : goal.returns-then-tally
returns-then-tally c =
    coordinate_refused _ _ _ c.in_ok-check_labels.ensures c.in_ok-tally.ensures.number _ c.in_ok-tally.ensures.value c.if-tally.true

pub returns : goal.returns
returns c =
    judged_so _ _ _ c.in_ok-check_labels.ensures c.in_ok-tally.ensures.number _ c.in_ok-tally.ensures.value c.if-tally.false
