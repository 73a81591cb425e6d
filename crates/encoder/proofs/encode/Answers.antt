-- A call that fails a check returns before it writes; one that passes writes the pieces, the outer kept bits and, from them, what stands before the
-- pieces.
use mathlib.Core.Path.{sym, ap₂, ◌∙◌}
use Prim.Native.Nat.{ℕ}
use mathlib.Core.List.{List, ◌++◌}
use native.Mathlib.Omega.{arith}
use lib.ListN.{drop}
use Rattle.bits.proofs.Passed.{when_passed}
use Rattle.bits.proofs.Refusals.{when_err}
use Rattle.acm.specs.Formats.{format_of, N1}
use Rattle.inner.specs.Registers.{from_outer}
use Rattle.encoder.specs.Calls.{encode_workspace, encode_output}
use Rattle.encoder.proofs.Checked.{encode_passed-at}
use Rattle.encoder.proofs.Codewords.{part-even, lent_is, lent_long, outer-long, trellis-room, work-written, both-written}
use Rattle.encoder.proofs.encode.Goals as goal

pub returns-in_err-format-clause-workspace : goal.returns-in_err-format-clause-workspace
unfolding encode_workspace
returns-in_err-format-clause-workspace c = when_err _ _ _ _ c.in_err-format.ensures.number

pub returns-in_err-format-clause-output : goal.returns-in_err-format-clause-output
unfolding encode_output
returns-in_err-format-clause-output c = when_err _ _ _ _ c.in_err-format.ensures.number

pub put_pieces-requires : goal.put_pieces-requires
put_pieces-requires c =
    let p = encode_passed-at c.in_ok-format.ensures.known c.in_ok-format.ensures.number in
    (p.long, p.bits, p.out-fits)

pub slice_bounds-outer-end : goal.slice_bounds-outer-end
slice_bounds-outer-end c =
    let p = encode_passed-at c.in_ok-format.ensures.known c.in_ok-format.ensures.number in
    sym (lent_long _ p.known c.args.block.now p.long c.record-k1.ensures)

pub outer-requires-clause-block_len : goal.outer-requires-clause-block_len
outer-requires-clause-block_len c =
    let p = encode_passed-at c.in_ok-format.ensures.known c.in_ok-format.ensures.number in
    rw (lent_is _ c.args.block.now c.record-k1.ensures) (part-even _ p.known c.args.block.now p.long)

pub outer-requires-clause-block_in_bounds : goal.outer-requires-clause-block_in_bounds
outer-requires-clause-block_in_bounds c =
    let p = encode_passed-at c.in_ok-format.ensures.known c.in_ok-format.ensures.number in
    rw (lent_is _ c.args.block.now c.record-k1.ensures) (omega (arith, outer-long _ p.known c.args.block.now p.long, p.work-fits))

pub encode-requires : goal.encode-requires
encode-requires c =
    let p = encode_passed-at c.in_ok-format.ensures.known c.in_ok-format.ensures.number in
    (omega (arith, c.outer.auto.work, p.work-fits), trellis-room _ p.known (omega (arith, c.put_pieces.auto.out, p.out-fits)))

pub returns-clause-workspace : goal.returns-clause-workspace
unfolding encode_workspace
returns-clause-workspace c =
    let is = c.in_ok-format.ensures.known in
    let p = encode_passed-at is c.in_ok-format.ensures.number in
    c.outer.ensures ∙ work-written _ p.known c.args.block.now p.long c.args.work.now c.record-k1.ensures ∙ rw is (when_passed _ _ _ (sym c.in_ok-format.ensures.number))

pub returns-clause-output : goal.returns-clause-output
unfolding encode_output
returns-clause-output c =
    let n = c.in_ok-format.format.number in
    let is = c.in_ok-format.ensures.known in
    let p = encode_passed-at is c.in_ok-format.ensures.number in
    c.encode.ensures
    ∙ ap₂ (λ (l out : List ℕ). from_outer n l ++ drop (N1 (format_of n)) out)
    (c.outer.ensures ∙ work-written _ p.known c.args.block.now p.long c.args.work.now c.record-k1.ensures) c.put_pieces.ensures
    ∙ both-written n p.known c.args.block.now p.long _ c.args.out.now p.out-fits
    ∙ rw is (when_passed _ _ _ (sym c.in_ok-format.ensures.number))
