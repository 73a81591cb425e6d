-- A call that fails a check returns before it writes; one that passes leaves what encode leaves, since the segmented trellises do, before the
-- same pieces.
use mathlib.Core.Path.{sym, ap, ap₂, subst, ◌∙◌}
use mathlib.Core.List.{List, ◌++◌}
use Prim.Native.Nat.{ℕ}
use native.Mathlib.Omega.{arith}
use lib.ListN.{length, drop}
use Rattle.std.proofs.lemmas.Result.{err_from_is_err_and}
use Rattle.bits.specs.Checks.{passed}
use Rattle.bits.proofs.Passed.{when_passed}
use Rattle.bits.proofs.Refusals.{when_err}
use Rattle.acm.specs.Formats.{format_of, N1}
use Rattle.trellis.specs.Trellis.{outer}
use Rattle.interleaver.specs.Interleaver.{π}
use Rattle.inner.specs.Registers.{interleaved, from_outer}
use Rattle.encoder.specs.Codeword.{trellis_part}
use Rattle.encoder.specs.Calls.{encode_workspace, encode_output}
use Rattle.encoder.proofs.Checked.{encode_passed}
use Rattle.encoder.proofs.Codewords.{part-bits, part-long, part-even, lent_is, lent_long, outer-long, trellis-room, work-written, both-written}
use Rattle.cuts.specs.Cuts.{Cuts, states_of}
use Rattle.cuts.specs.declared.States.{States}
use Rattle.segments.specs.Calls.{Segmented, refused, segmented, segments_workspace, segments_output}
use Rattle.segments.proofs.Checked.{segments_passed-at, work-read, work-bits}
use Rattle.segments.proofs.encode_segments.Goals as goal

pub returns-in_err-format-clause-answer : goal.returns-in_err-format-clause-answer
unfolding segmented
returns-in_err-format-clause-answer c =
    let p = err_from_is_err_and c.from_residual.result c.from_residual.ensures.1 in
    let e = c.in_err-format.ensures.number in
    rw (p.1, p.2) (ap refused e ∙ when_err _ _ _ _ e)

pub returns-in_err-format-clause-workspace : goal.returns-in_err-format-clause-workspace
unfolding segments_workspace
returns-in_err-format-clause-workspace c = when_err _ _ _ _ c.in_err-format.ensures.number

pub returns-in_err-format-clause-output : goal.returns-in_err-format-clause-output
unfolding segments_output
returns-in_err-format-clause-output c = when_err _ _ _ _ c.in_err-format.ensures.number

pub put_pieces-requires : goal.put_pieces-requires
put_pieces-requires c =
    let s = segments_passed-at c.in_ok-format.ensures.known c.in_ok-format.ensures.number in
    let p = encode_passed _ _ _ _ s.encodes in
    (p.long, p.bits, p.out-fits)

pub slice_bounds-encode-end : goal.slice_bounds-encode-end
slice_bounds-encode-end c =
    let s = segments_passed-at c.in_ok-format.ensures.known c.in_ok-format.ensures.number in
    let p = encode_passed _ _ _ _ s.encodes in
    sym (lent_long _ p.known c.args.block.now p.long c.record-k1.ensures)

pub encode-of_outer-requires-clause-block_len : goal.encode-of_outer-requires-clause-block_len
encode-of_outer-requires-clause-block_len c =
    let a = c.args in
    let s = segments_passed-at c.in_ok-format.ensures.known c.in_ok-format.ensures.number in
    let p = encode_passed _ _ _ _ s.encodes in
    rw (lent_is _ a.block.now c.record-k1.ensures) (
      part-even _ p.known a.block.now p.long,
      part-bits _ a.block.now p.bits,
      subst (λ (n : ℕ). Cuts n a.outer.now) (sym (part-long _ p.known a.block.now p.long)) s.outer_cuts,
    )

pub encode-of_outer-requires-clause-block_in_bounds : goal.encode-of_outer-requires-clause-block_in_bounds
encode-of_outer-requires-clause-block_in_bounds c =
    let s = segments_passed-at c.in_ok-format.ensures.known c.in_ok-format.ensures.number in
    let p = encode_passed _ _ _ _ s.encodes in
    rw (lent_is _ c.args.block.now c.record-k1.ensures) (omega (arith, outer-long _ p.known c.args.block.now p.long, p.work-fits))

pub encode-of_inner-requires-clause-lent : goal.encode-of_inner-requires-clause-lent
encode-of_inner-requires-clause-lent c =
    let s = segments_passed-at c.in_ok-format.ensures.known c.in_ok-format.ensures.number in
    let p = encode_passed _ _ _ _ s.encodes in
    (omega (arith, c.encode-of_outer.auto.work, p.work-fits), trellis-room _ p.known (omega (arith, c.put_pieces.auto.out, p.out-fits)))

pub encode-of_inner-requires-clause-cuts : goal.encode-of_inner-requires-clause-cuts
encode-of_inner-requires-clause-cuts c =
    let n = c.in_ok-format.format.number in
    let block = c.args.block.now in
    let s = segments_passed-at c.in_ok-format.ensures.known c.in_ok-format.ensures.number in
    let p = encode_passed _ _ _ _ s.encodes in (
      s.inner_cuts,
      rw (c.encode-of_outer.ensures.work_after, lent_is _ block c.record-k1.ensures)
          (work-bits n p.known (trellis_part n block) _ (outer-long _ p.known block p.long) (part-bits _ block p.bits)),
    )

pub returns-clause-answer : goal.returns-clause-answer
unfolding segmented
returns-clause-answer c =
    let a = c.args in
    let n = c.in_ok-format.format.number in
    let is = c.in_ok-format.ensures.known in
    let s = segments_passed-at is c.in_ok-format.ensures.number in
    let p = encode_passed _ _ _ _ s.encodes in
    let part = trellis_part n a.block.now in
    let part-is = lent_is n a.block.now c.record-k1.ensures in
    let outer-states = c.encode-of_outer.ensures.value ∙ ap (states_of a.outer.now) part-is in
    let inner-states =
    c.encode-of_inner.ensures.value
    ∙ ap (λ (l : List ℕ). states_of a.inner.now (interleaved (format_of n) (π n) l))
    (c.encode-of_outer.ensures.work_after ∙ ap (λ (l : List ℕ). outer l ++ drop (length (outer l)) a.work.now) part-is)
    ∙ ap (states_of a.inner.now) (work-read n p.known part _ (outer-long _ p.known a.block.now p.long)) in
    ap₂ {C = Segmented} (λ (o i : States). (record { number = passed; outer = o; inner = i })) outer-states inner-states ∙ when_passed _ _ _ s.passes
    ∙ ap (λ (f : ℕ). segmented f a.block.now (length a.work.now) (length a.out.now) a.outer.now a.inner.now) is

pub returns-clause-workspace : goal.returns-clause-workspace
unfolding segments_workspace encode_workspace
returns-clause-workspace c =
    let is = c.in_ok-format.ensures.known in
    let s = segments_passed-at is c.in_ok-format.ensures.number in
    let p = encode_passed _ _ _ _ s.encodes in
    rw (← is) (
    c.encode-of_outer.ensures.work_after ∙ work-written _ p.known c.args.block.now p.long c.args.work.now c.record-k1.ensures
    ∙ when_passed _ _ _ s.encodes ∙ when_passed _ _ _ s.passes
    )

pub returns-clause-output : goal.returns-clause-output
unfolding segments_output encode_output
returns-clause-output c =
    let n = c.in_ok-format.format.number in
    let is = c.in_ok-format.ensures.known in
    let s = segments_passed-at is c.in_ok-format.ensures.number in
    let p = encode_passed _ _ _ _ s.encodes in
    rw (← is) (
    c.encode-of_inner.ensures.out_after
    ∙ ap₂ (λ (l out : List ℕ). from_outer n l ++ drop (N1 (format_of n)) out)
    (c.encode-of_outer.ensures.work_after ∙ work-written _ p.known c.args.block.now p.long c.args.work.now c.record-k1.ensures) c.put_pieces.ensures
    ∙ both-written n p.known c.args.block.now p.long _ c.args.out.now p.out-fits
    ∙ when_passed _ _ _ s.encodes ∙ when_passed _ _ _ s.passes
    )
