-- The rows behind those of the sizes before are the size's own.
use mathlib.Core.Path.{refl}
use native.Mathlib.Omega.{arith}
use Rattle.annex_c.specs.AnnexC.{size_of}
use Rattle.annex_c_tables.proofs.Flats.{Part, α_from, β_from}
use Rattle.annex_c_tables.proofs.steps.lend.Goals.{After-locate-start}
use Rattle.annex_c_tables.proofs.steps.lend.Goals as goal

module _ (c : After-locate-start) where
  α : Part c.locate-start.result.rows c.args.w c.args.alphas.now (size_of c.args.w).α
  α = α_from c.args.w c.requires.w_value c.requires.tables c.locate-start.ensures.rows_value

  β : Part c.locate-start.result.rows c.args.w c.args.betas.now (size_of c.args.w).β
  β = β_from c.args.w c.requires.w_value c.requires.tables c.locate-start.ensures.rows_value

pub locate-start-requires : goal.locate-start-requires
locate-start-requires c =
    omega (arith, (α_from c.args.w c.requires.w_value c.requires.tables refl).inside)

pub overflow_add-end : goal.overflow_add-end
overflow_add-end c = omega (arith, (α (goal.at.overflow_add-end c).After-locate-start).inside)

pub offset_bounds-alphas-start : goal.offset_bounds-alphas-start
offset_bounds-alphas-start c = omega (arith, (α (goal.at.offset_bounds-alphas-start c).After-locate-start).inside)

pub slice_bounds-result-end : goal.slice_bounds-result-end
slice_bounds-result-end c = (α (goal.at.slice_bounds-result-end c).After-locate-start).inside

pub slice_bounds-result-end-2 : goal.slice_bounds-result-end-2
slice_bounds-result-end-2 c = (β (goal.at.slice_bounds-result-end-2 c).After-locate-start).inside

pub returns-clause-alpha_value : goal.returns-clause-alpha_value
returns-clause-alpha_value c = (α (goal.at.returns-clause-alpha_value c).After-locate-start).is

pub returns-clause-beta_value : goal.returns-clause-beta_value
returns-clause-beta_value c = (β (goal.at.returns-clause-beta_value c).After-locate-start).is
