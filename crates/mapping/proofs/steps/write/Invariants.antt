-- After c columns the first 8,100 bytes are the labels of c bits.
use Rattle.std.proofs.Common.{drop}
use Rattle.acm.specs.Formats.{symbols}
use Rattle.mapping.proofs.Rows.{ColumnsLeft}
use Rattle.mapping.proofs.steps.write.Given as goal

abbrev pub invariant-loop-column : goal.invariant-loop-column
invariant-loop-column l = ColumnsLeft l.codeword (drop symbols l.fn.out) l.out l.column-iterator.size l.column-iterator.rest.now
