-- The fold makes as many steps as the powers' remainder by 3, which lead where all of them do.
use Rattle.std.proofs.Common.{rules, ◌%◌, sym, ◌∙◌, arith, refl}
use Rattle.std.proofs.lemmas.Iterator.{YieldsList-from_range}
use Rattle.std.proofs.lemmas.Iterator.Consumers.{fold_from_yields_List}
use Rattle.trellis.specs.Trellis.{State, next}
use Rattle.cuts.proofs.Propagations.{propagated-period, propagated_folds}
use Rattle.cuts.proofs.steps.propagate.Goals as goal

pub returns : goal.returns
returns c =
    let n = c.args.n % 3 in
    fold_from_yields_List _ (λ (x : State) k. next x 0) c.args.state _ c.fold.ensures.ran (YieldsList-from_range 0 n n refl (omega arith)) (λ x k y q called. search rules)
    ∙ propagated_folds n 0 c.args.state
    ∙ sym (propagated-period c.args.n c.args.state (omega arith) (omega arith))
