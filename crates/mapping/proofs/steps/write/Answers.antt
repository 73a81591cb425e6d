use Rattle.std.proofs.Common.{refl, arith}
use Rattle.mapping.proofs.Rows.{labels_start, bit_fits, column_turn}
use Rattle.mapping.proofs.steps.write.Goals as goal

pub loop-column-init : goal.loop-column-init
loop-column-init c =
    let items = c.chunks_exact-column-items.ensures in
    rw (c.into_iter-column-iterator.ensures.into_iter_gives, items.size, items.rest) (record {
      size_is = refl;
      done = 0;
      rest_is = refl;
      inside = omega arith;
      labelled = labels_start c.args.codeword.now c.args.out.now c.fill.new.self c.requires.2 (c.fill.ensures.after (λ y e. e));
    })

pub append-requires-clause-by_index : goal.append-requires-clause-by_index
append-requires-clause-by_index c =
    let s = c.in-Some.ensures.steps in
    bit_fits c.loop-column.invariant _ _ s.1.0 s.1.1 c.requires.1 c.requires.0

pub loop-column-preserved : goal.loop-column-preserved
loop-column-preserved c =
    let s = c.in-Some.ensures.steps in
    column_turn c.loop-column.invariant _ _ s.1.0 s.1.1 _ _ c.append.ensures s.0
