-- A turn stores the two bits of its pair and the parity between them.
use Rattle.std.proofs.Common.{◌≡◌, ◌*◌, ◌+◌, ◌<◌, ◌≤◌, length, arith}
use lib.ListN.{length-set}
use Rattle.bits.proofs.Fill.{left_as, left-room_three, left_store_three, left_end}
use Rattle.trellis.specs.Trellis.{outer}
use Rattle.trellis.proofs.Outer.{outer-turn, outer-done}
use Rattle.trellis.proofs.steps.outer.Goals.{In-loop-i}
use Rattle.trellis.proofs.steps.outer.Goals as goal

-- what three more stores need
room : (t : In-loop-i) → 3 * t.loop-i.i + 2 < length t.loop-i.work
room t =
    left-room_three {ws = outer t.args.block.now} (omega (arith, t.requires.block_in_bounds))
    (left_as (outer-turn t.args.block.now t.as_chunks.ensures.front t.loop-i.state t.loop-i.i (omega (arith, t.as_chunks.ensures.front_len))) t.loop-i.invariant)

pub bounds-work-i : goal.bounds-work-i
bounds-work-i c = omega (arith, room (goal.at.bounds-work-i c).In-loop-i)

pub bounds-work-i-in-loop-i : goal.bounds-work-i-in-loop-i
bounds-work-i-in-loop-i c = simp length-set (omega (arith, room (goal.at.bounds-work-i-in-loop-i c).In-loop-i))

pub bounds-work-i-in-loop-i-2 : goal.bounds-work-i-in-loop-i-2
bounds-work-i-in-loop-i-2 c = simp length-set (room (goal.at.bounds-work-i-in-loop-i-2 c).In-loop-i)

pub loop-i-preserved : goal.loop-i-preserved
loop-i-preserved c =
    let past : 3 * (c.loop-i.i + 1) ≡ 3 * c.loop-i.i + 3 = omega arith in
    rw (past, c.parity.ensures, c.next-state.ensures, c.next.ensures)
    (left_store_three (left_as (outer-turn c.args.block.now c.as_chunks.ensures.front c.loop-i.state c.loop-i.i (omega (arith, c.as_chunks.ensures.front_len))) c.loop-i.invariant))

pub returns : goal.returns
returns c =
    let b = c.args.block.now in
    let last : length c.as_chunks.result.0.now ≡ c.loop-i.i = omega arith in
    let all : length b ≤ 2 * c.loop-i.i = omega (arith, c.as_chunks.ensures.front_len, c.requires.block_len) in
    rw last (left_end c.requires.block_in_bounds
    (left_store_three (left_as (outer-done b c.loop-i.state (2 * c.loop-i.i) all c.terminate-end.ensures) c.loop-i.invariant)))
