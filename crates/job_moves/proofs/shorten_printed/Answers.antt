-- The move's answer decides what is put: the line, which is there already, or the text of the refusal.
use borrow.Author.Rules.{rules}
use Rattle.job_moves.specs.Moves.{shortened, shorten_number}
use Rattle.job_moves.specs.Printed.{shorten_printed}
use Rattle.job_moves.proofs.Printings.{line_length, line_printed, refusal_length, refusal_printed}
use Rattle.job_moves.proofs.shorten_printed.Goals as goal

pub returns-in-Ok : goal.returns-in-Ok
unfolding shorten_printed
returns-in-Ok c =
    let a = c.args in
    let move = c.in-Ok.ensures in
    record {
      length = line_length (shorten_number a.text.now) (shortened a.text.now) a.out.now (search rules) move.out_after _ move.answer;
      printed = line_printed (shorten_number a.text.now) (shortened a.text.now) a.out.now (search rules) move.out_after _ move.answer;
    }

pub returns-in-Err : goal.returns-in-Err
unfolding shorten_printed
returns-in-Err c =
    let a = c.args in
    let move = c.in-Err.ensures in
    let put = c.put_refusal.ensures in
    record {
      length = refusal_length (shorten_number a.text.now) (shortened a.text.now) a.out.now (search rules) move.out_after _ move.answer put.value;
      printed = refusal_printed (shorten_number a.text.now) (shortened a.text.now) a.out.now (search rules) move.out_after _ move.answer put.out_after;
    }
