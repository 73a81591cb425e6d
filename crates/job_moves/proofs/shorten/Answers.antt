-- The line's checks decide first, then the room for the line that is written, which is the front of the other and its own end.
use mathlib.Core.Path.{◌≡◌, refl, sym, ◌∙◌}
use borrow.Author.Rules.{rules}
use Rattle.std.specs.Prelude.{Err}
use Rattle.job_moves.specs.Moves.{shortened, plain_checks, plain_number, shorten_number}
use Rattle.job_moves.proofs.Bytes.{shortened_bytes, longer-some}
use Rattle.job_moves.proofs.Checked.{refused_answer, refused_output, made_answer, made_output, plain_passed}
use Rattle.job_moves.proofs.shorten.Goals as goal

pub returns-in_err-check_plain : goal.returns-in_err-check_plain
unfolding shorten_number plain_number
returns-in_err-check_plain c =
    let a = c.args in
    let r = c.in_err-check_plain.field-0.0 in
    let is : c.from_residual.result ≡ Err r = search rules in
    record {
      answer = rw is (refused_answer (plain_checks a.text.now) (shortened a.text.now) a.out.now r c.in_err-check_plain.ensures);
      out_after = refused_output (plain_checks a.text.now) (shortened a.text.now) a.out.now r c.in_err-check_plain.ensures;
    }

pub slice_bounds-put-count : goal.slice_bounds-put-count
slice_bounds-put-count c =
    let (longer, plainly) = plain_passed _ (sym c.in_ok-check_plain.ensures) in
    longer-some _ longer plainly

pub returns : goal.returns
unfolding shorten_number plain_number
returns c =
    let a = c.args in
    let (longer, plainly) = plain_passed _ (sym c.in_ok-check_plain.ensures) in
    record {
      answer = c.put.ensures.answer ∙ made_answer (plain_checks a.text.now) (shortened a.text.now) a.out.now refl c.in_ok-check_plain.ensures (shortened_bytes a.text.now longer plainly);
      out_after = c.put.ensures.out_after ∙ made_output (plain_checks a.text.now) (shortened a.text.now) a.out.now refl c.in_ok-check_plain.ensures (shortened_bytes a.text.now longer plainly);
    }
