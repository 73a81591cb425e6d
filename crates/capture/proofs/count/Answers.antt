use mathlib.Core.Path.{◌≡◌, refl}
use native.Mathlib.Omega.{arith}
use Rattle.std.specs.Prelude.{Err}
use Rattle.std.proofs.lemmas.Result.{err_from_is_err_and}
use Rattle.bits.specs.declared.checks.Refusal.TheVariants.{Capture}
use Rattle.capture.proofs.Texts.{left_broken, left_next, left_tally, left_whole}
use Rattle.capture.proofs.count.Goals as goal

pub returns-in_err-sample-clause-number : goal.returns-in_err-sample-clause-number
returns-in_err-sample-clause-number c =
    let sample = c.in_err-sample.ensures in
    let p = err_from_is_err_and c.from_residual.result c.from_residual.ensures.1 in
    let broken = left_broken c.loop-place.invariant c.loop-place-test.true c.requires (rw sample.ok_part at c.read.ensures) in
    let e : Err c.in_err-sample.field-0.0 ≡ Err Capture = rw sample.ok_part at sample.value in
    let is : c.in_err-sample.field-0.0 ≡ Capture = cc in
    rw (p.1, p.2, is, broken) refl

pub loop-place-preserved : goal.loop-place-preserved
loop-place-preserved c =
    rw c.with-tally.ensures (left_next c.loop-place.invariant c.loop-place-test.true c.requires c.in_ok-sample.sample c.in_ok-sample.behind.now (rw c.in_ok-sample.ensures.ok_part at c.read.ensures))

pub returns-then-is_empty-clause-number : goal.returns-then-is_empty-clause-number
returns-then-is_empty-clause-number c =
    rw (left_whole c.loop-place.invariant (omega arith) c.requires, ← c.if-is_empty.ensures) refl

pub returns-then-is_empty-clause-value : goal.returns-then-is_empty-clause-value
returns-then-is_empty-clause-value c = left_tally c.loop-place.invariant (omega arith) c.requires

pub returns-else-is_empty-clause-number : goal.returns-else-is_empty-clause-number
returns-else-is_empty-clause-number c =
    rw (left_whole c.loop-place.invariant (omega arith) c.requires, ← c.if-is_empty.ensures) refl
