use mathlib.Core.Path.{◌≡◌, ap, ◌∙◌}
use Prim.Native.Nat.{suc, ◌+◌, ◌*◌, ◌/◌}
use native.Mathlib.Omega.{arith}
use Rattle.m_sequences.specs.MSequences.{stepped, word_at}
use Rattle.m_sequences.specs.Tables.{sequence, stride}
use Rattle.m_sequences.proofs.steps.Sequence.word_at.Goals as goal

pub bounds-words-place : goal.bounds-words-place
bounds-words-place c = omega (arith, c.words.ensures.long)

pub loop-init : goal.loop-init
loop-init c =
    let z : c.args.place / stride * stride + 0 ≡ c.args.place / stride * stride = omega arith in
    rw z (c.words.ensures.at_stride (c.args.place / stride) (omega arith))

pub loop-preserved : goal.loop-preserved
unfolding word_at
loop-preserved c =
    let at = c.args.place / stride * stride in
    let step : at + (c.loop.counter + 1) ≡ suc (at + c.loop.counter) = omega arith in
    c.step-word.ensures ∙ rw step (ap (stepped (sequence c.args.self).exponents) c.loop.invariant)

pub returns : goal.returns
returns c =
    let place = c.args.place in
    let there : place / stride * stride + c.loop.counter ≡ place = omega arith in
    c.loop.invariant ∙ ap (word_at (sequence c.args.self)) there
