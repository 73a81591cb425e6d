-- The move's answer decides what is put: the line, which is there already, or the text of the refusal.
use borrow.Author.Rules.{rules}
use Rattle.job_moves.specs.Moves.{lengthened, lengthen_number}
use Rattle.job_moves.specs.Printed.{lengthen_printed}
use Rattle.job_moves.proofs.Printings.{line_length, line_printed, refusal_length, refusal_printed}
use Rattle.job_moves.proofs.lengthen_printed.Goals as goal

pub returns-in-Ok : goal.returns-in-Ok
unfolding lengthen_printed
returns-in-Ok c =
    let a = c.args in
    let move = c.in-Ok.ensures in
    record {
      length = line_length (lengthen_number a.text.now) (lengthened a.text.now) a.out.now (search rules) move.out_after _ move.answer;
      printed = line_printed (lengthen_number a.text.now) (lengthened a.text.now) a.out.now (search rules) move.out_after _ move.answer;
    }

pub returns-in-Err : goal.returns-in-Err
unfolding lengthen_printed
returns-in-Err c =
    let a = c.args in
    let move = c.in-Err.ensures in
    let put = c.put_refusal.ensures in
    record {
      length = refusal_length (lengthen_number a.text.now) (lengthened a.text.now) a.out.now (search rules) move.out_after _ move.answer put.value;
      printed = refusal_printed (lengthen_number a.text.now) (lengthened a.text.now) a.out.now (search rules) move.out_after _ move.answer put.out_after;
    }
