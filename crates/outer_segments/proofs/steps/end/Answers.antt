use Rattle.std.proofs.Common.{ℕ, ◌∙◌, rules}
use Rattle.std.proofs.lemmas.Iterator.{YieldsList-from_slice}
use Rattle.std.proofs.lemmas.Iterator.Consumers.{fold_from_yields_List}
use Rattle.trellis.specs.Trellis.{State, zero-state, next}
use Rattle.outer_segments.proofs.Kept.{ends_folds}
use Rattle.outer_segments.proofs.steps.end.Goals as goal

pub returns : goal.returns
returns c =
    fold_from_yields_List _ (λ (x : State) (u : ℕ). next x u) zero-state _ c.fold.ensures.ran (YieldsList-from_slice c.args.bits.now (cc)) (λ x u y q k. search rules)
    ∙ ends_folds zero-state c.args.bits.now
