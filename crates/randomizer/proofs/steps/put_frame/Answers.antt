-- A chunk has as many octets as there are masks, or all that are left.
use Rattle.std.proofs.Common.{◌≡◌, ◌∙◌, ◌+◌, ◌*◌, length, ap, arith, ℕ, min}
use Rattle.bits.proofs.Fill.{fill_end}
use Rattle.randomizer.proofs.Stored.{chunk-place, chunk-next, chunk-none, chunks-next}
use Rattle.randomizer.proofs.steps.put_frame.Goals.{In-Some}
use Rattle.randomizer.proofs.steps.put_frame.Goals as goal

module _ (c : In-Some) where
  many : length c.in-Some.octets.now ≡ min (length c.args.masks.now) (length c.loop-i.i-iterator.iter.rest.now)
  many = c.in-Some.ensures.steps.0.1.1 ∙ ap (λ (n : ℕ). min n (length c.loop-i.i-iterator.iter.rest.now)) c.loop-i.invariant.0

  place : length c.args.masks.now * c.in-Some.i + length c.loop-i.i-iterator.iter.rest.now ≡ length c.args.frame.now
  place = rw c.in-Some.ensures.steps.1 (chunk-place _ _ _ c.in-Some.ensures.steps.0.1.2 c.loop-i.invariant.1)

pub overflow_mul-next : goal.overflow_mul-next
overflow_mul-next c = omega (arith, place (goal.at.overflow_mul-next c).In-Some)

pub overflow_mul-next-in-loop-i : goal.overflow_mul-next-in-loop-i
overflow_mul-next-in-loop-i c = omega (arith, place (goal.at.overflow_mul-next-in-loop-i c).In-Some)

pub overflow_add-next : goal.overflow_add-next
overflow_add-next c = omega (arith, place (goal.at.overflow_add-next c).In-Some)

pub put_octets-requires : goal.put_octets-requires
put_octets-requires c =
    let p = (goal.at.put_octets-requires c).In-Some in
    (c.requires.1, omega (arith, many p), omega (arith, many p, place p, c.loop-i.invariant.1.same))

pub loop-i-preserved : goal.loop-i-preserved
loop-i-preserved c =
    let s = c.in-Some.ensures.steps in
    let (size, left) = c.loop-i.invariant in
    let on : length c.args.masks.now * c.next.new.self.count ≡ length c.args.masks.now * c.in-Some.i + length c.args.masks.now = rw (s.2, s.1) (chunks-next _ _) in
    (s.0.0 ∙ size, chunk-next _ c.requires.0 _ _ _ s.0.1.0 (many (goal.at.loop-i-preserved c).In-Some) _ _ _ _ s.0.1.2 on c.put_octets.ensures (rw s.1 left))

pub returns : goal.returns
returns c = fill_end (chunk-none _ c.in-None.ensures.steps.0.1.0) c.loop-i.invariant.1
