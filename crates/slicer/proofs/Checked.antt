-- What the number 0 says of a call's arguments: that all of its checks hold.
use mathlib.Core.Path.{◌≡◌, refl}
use mathlib.Core.Bool.{true}
use mathlib.Core.List.{List}
use Prim.Native.Nat.{ℕ, ◌+◌, ◌*◌, ◌≤◌, ◌<◌}
use native.Mathlib.Omega.{arith}
use borrow.Author.Tests.{leb-true, ltb-true}
use lib.Dec.{leb, lit<}
use lib.ListN.{length}
use Rattle.bits.specs.Checks.{◌or_else◌, passed}
use Rattle.bits.specs.Legal.{all_bits}
use Rattle.bits.proofs.Passed.{passes}
use Rattle.bits.proofs.Table.{left-true, right_true}
use Rattle.acm.specs.Formats.{is_format, most_k}
use Rattle.acm.proofs.Laws.{within}
use Rattle.randomizer.specs.Randomizer.{octet_length}
use Rattle.transfer.specs.Transfer.{marker_length}
use Rattle.waiting.specs.Waiting.{memory_length, waiting_bits}
use Rattle.slicer.specs.declared.Slicer.{Slicer}
use Rattle.slicer.specs.Calls.{least_frame, most_frame, K, push_checks, push_number, block_checks, block_number}
use Rattle.slicer.specs.Change.{change_checks, change_number}

pub record PushPassed (s : Slicer) (octets : ℕ) (memory : List ℕ) : Type 0 where
  pub known : is_format s.format ≡ true
  pub long : octets ≤ most_frame
  pub few : s.waiting < K s
  pub bits : all_bits (waiting_bits s.waiting memory) ≡ true
  pub memory-fits : memory_length ≤ length memory

pub push_passed : (s : Slicer) (octets : ℕ) (memory : List ℕ) → push_number s octets memory ≡ passed → PushPassed s octets memory
unfolding push_number
push_passed s octets memory e =
    let part = passes (push_checks s octets memory) (true or_else passed) refl e in
    record {
      known = part 0 (lit< tt);
      long = leb-true _ _ (right_true (leb least_frame octets) _ (part 1 (lit< tt)));
      few = ltb-true _ _ (part 3 (lit< tt));
      bits = part 5 (lit< tt);
      memory-fits = leb-true _ _ (part 6 (lit< tt));
    }

-- 600,000 bytes are enough for the bits that wait once a frame is taken in, whatever the format
pub memory-enough : (k waiting octets : ℕ) → k ≤ most_k → waiting < k → octets ≤ most_frame → waiting + (marker_length + octet_length * octets) ≤ memory_length
memory-enough k waiting octets most few long = omega arith

pub frame-fits : (s : Slicer) (octets : ℕ) (memory : List ℕ) → PushPassed s octets memory → s.waiting + (marker_length + octet_length * octets) ≤ memory_length
frame-fits s octets memory p = memory-enough (K s) s.waiting octets (within s.format p.known).most_k_lem p.few p.long

pub record BlockPassed (s : Slicer) (memory : List ℕ) (room : ℕ) : Type 0 where
  pub known : is_format s.format ≡ true
  pub count : s.waiting ≤ memory_length
  pub bits : all_bits (waiting_bits s.waiting memory) ≡ true
  pub memory-fits : memory_length ≤ length memory
  pub out-fits : K s ≤ room

pub block-passed : (s : Slicer) (memory : List ℕ) (room : ℕ) → block_number s memory room ≡ passed → BlockPassed s memory room
unfolding block_number
block-passed s memory room e =
    let part = passes (block_checks s memory room) (true or_else passed) refl e in
    record {
      known = part 0 (lit< tt);
      count = leb-true _ _ (part 1 (lit< tt));
      bits = part 2 (lit< tt);
      memory-fits = leb-true _ _ (part 3 (lit< tt));
      out-fits = leb-true _ _ (part 4 (lit< tt));
    }

pub record ChangePassed (s : Slicer) (f : ℕ) : Type 0 where
  pub own : is_format s.format ≡ true
  pub known : is_format f ≡ true
  pub count : s.waiting ≤ memory_length

pub change-passed : (s : Slicer) (f : ℕ) → change_number s f ≡ passed → ChangePassed s f
unfolding change_number
change-passed s f e =
    let part = passes (change_checks s f) (true or_else passed) refl e in
    record {
      own = left-true (is_format s.format) (is_format f) (part 0 (lit< tt));
      known = right_true (is_format s.format) (is_format f) (part 0 (lit< tt));
      count = leb-true _ _ (part 1 (lit< tt));
    }
