-- The loop runs to the last position, where the terminating bits are left: so what is written is the format's trellis part.
use mathlib.Core.Path.{sym, ◌∙◌}
use native.Mathlib.Omega.{arith}
use Rattle.acm.specs.Formats.{format_of}
use Rattle.acm.proofs.Laws.{format-sound}
use Rattle.interleaver.specs.Interleaver.{π}
use Rattle.inner.specs.Registers.{from_outer}
use Rattle.inner.proofs.Formats.{fits_whole, front-written}
use Rattle.inner.proofs.Turns.{completed_start, completed-end}
use Rattle.inner_expanded.proofs.steps.encode.Goals as goal

pub returns : goal.returns
unfolding from_outer
returns c =
    let format = c.args.expanded.now.format in
    let f = format.number in
    let work = c.args.work.now in
    c.finish.ensures
    ∙ sym (completed-end (format_of f) (π f) work (format_of f).i c.run-end.result _ (omega arith))
    ∙ c.run-end.ensures.out_after
    ∙ completed_start (format_of f) (π f) work c.args.out.now (omega (arith, (format-sound f format.listed).deletes)) (fits_whole f format.listed work)
    ∙ front-written f format.listed work c.args.out.now c.requires.1
