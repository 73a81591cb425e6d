-- A call that fails a check returns before it writes; one that passes prepares the memory, and leaves what encode leaves, since the inner trellis
-- does, before the same pieces.
use mathlib.Core.Path.{refl, sym, ap, ap₂, ◌∙◌}
use mathlib.Core.List.{List, ◌++◌}
use Prim.Native.Nat.{ℕ}
use native.Mathlib.Omega.{arith}
use lib.ListN.{drop}
use Rattle.std.proofs.lemmas.Result.{err_from_is_err_and}
use Rattle.bits.specs.Checks.{passed}
use Rattle.bits.proofs.Passed.{when_passed}
use Rattle.bits.proofs.Refusals.{when_err}
use Rattle.acm.specs.Formats.{format_of, N1}
use Rattle.interleaver.proofs.Expanded.{built_holds}
use Rattle.inner.specs.Registers.{from_outer}
use Rattle.encoder.specs.Calls.{encode_workspace, encode_output}
use Rattle.encoder.proofs.Checked.{encode_passed}
use Rattle.encoder.proofs.Codewords.{part-even, lent_is, lent_long, outer-long, trellis-room, work-written, both-written}
use Rattle.sharing.specs.Calls.{Shared, shared, shared_memory, shared_workspace, shared_output}
use Rattle.sharing.proofs.Checked.{shared_passed-at}
use Rattle.sharing.proofs.encode_shared.Goals as goal

pub returns-in_err-format-clause-answer : goal.returns-in_err-format-clause-answer
unfolding shared
returns-in_err-format-clause-answer c =
    let p = err_from_is_err_and c.from_residual.result c.from_residual.ensures.1 in
    let e = c.in_err-format.ensures.number in
    rw (p.1, p.2) (ap {B = Shared} (λ (n : ℕ). (record { number = n; held = c.args.held })) e ∙ when_err _ _ _ _ e)

pub returns-in_err-format-clause-workspace : goal.returns-in_err-format-clause-workspace
unfolding shared_workspace
returns-in_err-format-clause-workspace c = when_err _ _ _ _ c.in_err-format.ensures.number

pub returns-in_err-format-clause-output : goal.returns-in_err-format-clause-output
unfolding shared_output
returns-in_err-format-clause-output c = when_err _ _ _ _ c.in_err-format.ensures.number

pub returns-in_err-format-clause-interleaver : goal.returns-in_err-format-clause-interleaver
unfolding shared_memory
returns-in_err-format-clause-interleaver c = when_err _ _ _ _ c.in_err-format.ensures.number

pub prepare-size-requires : goal.prepare-size-requires
prepare-size-requires c =
    let s = shared_passed-at c.in_ok-format.ensures.known c.in_ok-format.ensures.number in
    (s.room, s.holds)

pub put_pieces-requires : goal.put_pieces-requires
put_pieces-requires c =
    let s = shared_passed-at c.in_ok-format.ensures.known c.in_ok-format.ensures.number in
    let p = encode_passed _ _ _ _ s.encodes in
    (p.long, p.bits, p.out-fits)

pub slice_bounds-outer-end : goal.slice_bounds-outer-end
slice_bounds-outer-end c =
    let s = shared_passed-at c.in_ok-format.ensures.known c.in_ok-format.ensures.number in
    let p = encode_passed _ _ _ _ s.encodes in
    sym (lent_long _ p.known c.args.block.now p.long c.record-k1.ensures)

pub outer-requires-clause-block_len : goal.outer-requires-clause-block_len
outer-requires-clause-block_len c =
    let s = shared_passed-at c.in_ok-format.ensures.known c.in_ok-format.ensures.number in
    let p = encode_passed _ _ _ _ s.encodes in
    rw (lent_is _ c.args.block.now c.record-k1.ensures) (part-even _ p.known c.args.block.now p.long)

pub outer-requires-clause-block_in_bounds : goal.outer-requires-clause-block_in_bounds
outer-requires-clause-block_in_bounds c =
    let s = shared_passed-at c.in_ok-format.ensures.known c.in_ok-format.ensures.number in
    let p = encode_passed _ _ _ _ s.encodes in
    rw (lent_is _ c.args.block.now c.record-k1.ensures) (omega (arith, outer-long _ p.known c.args.block.now p.long, p.work-fits))

pub of-requires : goal.of-requires
of-requires c =
    let n = c.in_ok-format.format.number in
    let s = shared_passed-at c.in_ok-format.ensures.known c.in_ok-format.ensures.number in
    let p = encode_passed _ _ _ _ s.encodes in
    rw c.prepare-size.ensures.memory_after (built_holds n n p.known p.known refl _)

pub encode-requires : goal.encode-requires
encode-requires c =
    let s = shared_passed-at c.in_ok-format.ensures.known c.in_ok-format.ensures.number in
    let p = encode_passed _ _ _ _ s.encodes in
    rw c.of.ensures (omega (arith, c.outer.auto.work, p.work-fits), trellis-room _ p.known (omega (arith, c.put_pieces.auto.out, p.out-fits)))

pub returns-clause-answer : goal.returns-clause-answer
unfolding shared
returns-clause-answer c =
    let is = c.in_ok-format.ensures.known in
    ap {B = Shared} (λ (size : ℕ). (record { number = passed; held = size })) (c.prepare-size.ensures.value ∙ ap (λ (f : ℕ). (format_of f).i) is)
    ∙ when_passed _ _ _ (sym c.in_ok-format.ensures.number)

pub returns-clause-workspace : goal.returns-clause-workspace
unfolding shared_workspace encode_workspace
returns-clause-workspace c =
    let is = c.in_ok-format.ensures.known in
    let s = shared_passed-at is c.in_ok-format.ensures.number in
    let p = encode_passed _ _ _ _ s.encodes in
    rw (← is) (
    c.outer.ensures ∙ work-written _ p.known c.args.block.now p.long c.args.work.now c.record-k1.ensures
    ∙ when_passed _ _ _ s.encodes ∙ when_passed _ _ _ s.passes
    )

pub returns-clause-output : goal.returns-clause-output
unfolding shared_output encode_output
returns-clause-output c =
    let n = c.in_ok-format.format.number in
    let is = c.in_ok-format.ensures.known in
    let s = shared_passed-at is c.in_ok-format.ensures.number in
    let p = encode_passed _ _ _ _ s.encodes in
    rw (← is) (
    rw c.of.ensures at c.encode.ensures
    ∙ ap₂ (λ (l out : List ℕ). from_outer n l ++ drop (N1 (format_of n)) out)
    (c.outer.ensures ∙ work-written _ p.known c.args.block.now p.long c.args.work.now c.record-k1.ensures) c.put_pieces.ensures
    ∙ both-written n p.known c.args.block.now p.long _ c.args.out.now p.out-fits
    ∙ when_passed _ _ _ s.encodes ∙ when_passed _ _ _ s.passes
    )

pub returns-clause-interleaver : goal.returns-clause-interleaver
unfolding shared_memory
returns-clause-interleaver c =
    c.prepare-size.ensures.memory_after ∙ rw c.in_ok-format.ensures.known (when_passed _ _ _ (sym c.in_ok-format.ensures.number))
