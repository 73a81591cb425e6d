-- The starting states that are worked out are those of the plain run over the interleaved bits, so the second pass is that run.
use mathlib.Core.Path.{◌≡◌, sym, ap, subst, ◌∙◌}
use mathlib.Core.List.{List}
use Prim.Native.Nat.{ℕ}
use Rattle.acm.specs.Formats.{format_of}
use Rattle.acm.specs.declared.table.Format.{Format}
use Rattle.interleaver.specs.Interleaver.{π}
use Rattle.inner.specs.Lent.{π_of}
use Rattle.inner.specs.Registers.{interleaved}
use Rattle.inner.specs.declared.parameters.Parameters.{Parameters}
use Rattle.inner.proofs.Reading.{read_length}
use Rattle.inner.proofs.Runs.{interleaved-is, fits_start, written_is}
use Rattle.cuts.specs.Cuts.{Cuts, start_states, padded, states_of}
use Rattle.cuts.proofs.Sixteen.{started_is, states_are}
use Rattle.inner_segments.proofs.steps.encode.Goals.{After-starts-started}
use Rattle.inner_segments.proofs.steps.encode.Goals as goal

-- the bits that are read, I of them, and the states of their segments
module _ (c : After-starts-started) where
  abbrev p : Parameters
  p = c.of-parameters.result

  abbrev bits : List ℕ
  bits = interleaved p.figures (π_of p) c.args.work.now

  bits_are : bits ≡ interleaved (format_of c.args.format.number) (π c.args.format.number) c.args.work.now
  bits_are =
      let of = c.of-parameters.ensures in
      interleaved-is p c.args.format.number c.args.format.listed of.figures_value of.alpha_value of.beta_value c.args.work.now

  cuts_are : Cuts p.figures.i c.args.cuts.now
  cuts_are = subst (λ (r : Format). Cuts r.i c.args.cuts.now) (sym c.of-parameters.ensures.figures_value) c.requires.cuts.0

  started : c.starts-started.result ≡ padded (start_states c.args.cuts.now bits)
  started =
      let all = subst (λ (n : ℕ). Cuts n c.args.cuts.now) (sym (read_length (π_of p) c.args.work.now 0 p.figures.i)) cuts_are in
      started_is bits c.args.cuts.now all c.first-ended.ensures (rw bits_are c.requires.cuts.1) c.starts-started.ensures

pub second-requires-clause-fits : goal.second-requires-clause-fits
second-requires-clause-fits c =
    let of = c.of-parameters.ensures in
    fits_start c.of-parameters.result c.args.format.number c.args.format.listed of.figures_value of.alpha_value of.beta_value c.args.work.now

pub second-requires-clause-cuts : goal.second-requires-clause-cuts
second-requires-clause-cuts c =
    let s = (goal.at.second-requires-clause-cuts c).After-starts-started in
    (cuts_are s, started s)

pub returns-clause-value : goal.returns-clause-value
returns-clause-value c =
    let s = (goal.at.returns-clause-value c).After-starts-started in
    states_are (bits s) c.args.cuts.now c.first-ended.ensures (started s) ∙ ap (states_of c.args.cuts.now) (bits_are s)

pub returns-clause-out_after : goal.returns-clause-out_after
returns-clause-out_after c =
    let of = c.of-parameters.ensures in
    c.second.ensures
    ∙ written_is c.of-parameters.result c.args.format.number c.args.format.listed of.figures_value of.alpha_value of.beta_value c.args.work.now c.args.out.now c.requires.lent.1
