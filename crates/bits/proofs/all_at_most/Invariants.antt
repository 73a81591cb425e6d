-- The list is legal exactly when the elements that are left are: those of every stretch before were. What is left is the list's end, whole
-- stretches and the rest.
use Rattle.std.proofs.Common.{◌≡◌, ◌-◌, ◌%◌, ◌≤◌, length, drop}
use Rattle.bits.specs.Legal.{all_at_most}
use Rattle.bits.proofs.all_at_most.Given as goal

abbrev pub invariant-loop-stretch : goal.invariant-loop-stretch
invariant-loop-stretch l =
    let left = l.stretch-iterator in record {
      legal : all_at_most l.top l.list ≡ all_at_most l.top left.rest.now;
      size : left.size ≡ 1024;
      end : left.rest.now ≡ drop (length l.list - length left.rest.now) l.list;
      whole : length left.rest.now % 1024 ≡ length l.list % 1024;
      fits : length left.rest.now ≤ length l.list;
    }
