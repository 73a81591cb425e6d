-- The run from the first position to the last completes what is left at the start, both registers, and the terminating bits come last.
use mathlib.Core.Path.{sym, ◌∙◌}
use native.Mathlib.Omega.{arith}
use Rattle.inner.specs.Left.{starting, Fits}
use Rattle.inner.specs.Lent.{π_of}
use Rattle.inner.proofs.Runs.{stands_start, completes_start, completes-end, fits_start, written_is}
use Rattle.inner.proofs.steps.encode.Goals.{After-of-parameters}
use Rattle.inner.proofs.steps.encode.Goals as goal

module _ (c : After-of-parameters) where
  fits : (let p = c.of-parameters.result in Fits p.figures (π_of p) c.args.work.now 0 (starting p.figures))
  fits =
      let of = c.of-parameters.ensures in
      fits_start c.of-parameters.result c.args.format.number c.args.format.listed of.figures_value of.alpha_value of.beta_value c.args.work.now

pub advance-end-requires-clause-stands : goal.advance-end-requires-clause-stands
advance-end-requires-clause-stands c =
    let (coder, position, walked) = c.start.ensures in (
      stands_start c.of-parameters.result c.args.work.now c.start.result (fits (goal.at.advance-end-requires-clause-stands c).After-of-parameters) coder position (walked _),
      omega (arith, position),
      omega arith,
    )

pub returns : goal.returns
returns c =
    let p = c.of-parameters.result in
    let of = c.of-parameters.ensures in
    let work = c.args.work.now in
    let out = c.args.out.now in
    let (coder, position, walked) = c.start.ensures in
    let (stands, last) = c.advance-end.ensures.stands_2 in
    c.finish.ensures
    ∙ sym (completes-end p work c.advance-end.result stands (omega (arith, last)) _)
    ∙ c.advance-end.ensures.out_after
    ∙ completes_start p work c.start.result (fits (goal.at.returns c).After-of-parameters) coder position out
    ∙ written_is p c.args.format.number c.args.format.listed of.figures_value of.alpha_value of.beta_value work out c.requires.1
