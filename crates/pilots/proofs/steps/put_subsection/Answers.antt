-- The pilots are stored behind the labels.
use Rattle.std.proofs.Common.{◌∙◌, refl}
use Rattle.pilots.proofs.Behind.{stored_behind}
use Rattle.pilots.specs.Pilots.{pilots, subsection_labels}
use Rattle.pilots.proofs.Inserted.{with_whole}
use Rattle.pilots.proofs.steps.put_subsection.Goals as goal

pub returns-then-labels-eq-SUBSECTION_LABELS : goal.returns-then-labels-eq-SUBSECTION_LABELS
returns-then-labels-eq-SUBSECTION_LABELS c =
    let a = c.args.labels.now in
    let whole = c.if-labels-eq-SUBSECTION_LABELS.true in
    stored_behind subsection_labels a pilots c.args.out.now _ _ whole (rw whole at c.requires.1) (rw whole at c.put_labels.ensures) c.put_pilots.ensures
    ∙ rw (with_whole a whole, whole) refl
