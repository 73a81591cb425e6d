-- A memory that holds the interleaver already is what building it would leave.
use mathlib.Core.Path.{ap, ◌∙◌}
use Rattle.acm.specs.declared.table.Format.{Format}
use Rattle.interleaver.proofs.Expanded.{holds_already}
use Rattle.sharing.proofs.prepare.Goals as goal

pub returns-else-held-size-clause-memory_after : goal.returns-else-held-size-clause-memory_after
returns-else-held-size-clause-memory_after c =
    holds_already c.args.format.number c.args.memory.now (c.requires.1 (c.if-held-size.false ∙ ap (λ (r : Format). r.i) c.record-size.ensures))
