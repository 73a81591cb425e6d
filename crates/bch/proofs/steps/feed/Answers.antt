-- The eight bits that leave, with the byte, choose the table's entry; the others move up.
use Prim.Native.Nat.{ℕ, ◌*◌, ◌/◌, ◌%◌, ◌^◌, ◌<◌}
use native.Mathlib.Omega.{arith}
use lib.Bits.{bit_xor, xor_lt}
use lib.ListN.{get_or}
use Rattle.bch.specs.Bch.{check_length}
use Rattle.bch.specs.Register.{byte_length}
use Rattle.bch.proofs.Words.{staying, feed_bits}
use Rattle.bch.proofs.steps.feed.Goals as goal

leaving-small : (word byte : ℕ) → word < 2 ^ check_length → byte < 2 ^ byte_length → bit_xor byte (word / 2 ^ staying) < 2 ^ byte_length
leaving-small word byte h g = xor_lt byte_length byte (word / 2 ^ staying) g (omega arith)

pub returns : goal.returns
returns c =
    let word = c.args.word in
    let byte = c.args.byte in
    let t = c.requires.0 in
    let small = leaving-small word byte c.requires.1 c.requires.2 in
    let leaving = bit_xor byte (word / 2 ^ staying) in (
      xor_lt check_length (word * 2 ^ byte_length % 2 ^ check_length) (get_or c.args.table.now leaving 0) (omega arith) (t.small leaving small),
      feed_bits word byte (get_or c.args.table.now leaving 0) (t.entry leaving small),
    )
