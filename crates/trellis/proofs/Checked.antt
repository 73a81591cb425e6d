-- What the number 0 says of a run's arguments, and what the call then gives.
use mathlib.Core.Path.{◌≡◌, refl, sym}
use mathlib.Core.Bool.{true}
use mathlib.Core.List.{List, ◌++◌}
use Prim.Native.Nat.{ℕ, ◌*◌, ◌≤◌}
use borrow.Author.Tests.{le-leb, leb-true}
use lib.Dec.{lit<}
use lib.ListN.{length, drop}
use Rattle.bits.specs.Checks.{◌or_else◌, passed}
use Rattle.bits.specs.Legal.{all_bits}
use Rattle.bits.proofs.Passed.{passes, when_passed}
use Rattle.bits.proofs.Table.{left-true, right_true}
use Rattle.trellis.specs.Run.{Ran, run_checks, run_number, ran, run_output}
use Rattle.trellis.specs.Trellis.{state_number, state_of, is_state, run, ends}

pub run-passed : (s : ℕ) (bits : List ℕ) (room : ℕ) → run_number s bits room ≡ passed → (s ≤ 3) × (all_bits bits ≡ true) × (2 * length bits ≤ room)
unfolding run_number
run-passed s bits room e =
    let part = passes (run_checks s bits room) (true or_else passed) refl e in
    let legal = part 0 (lit< tt) in
    (leb-true _ _ (left-true (is_state s) (all_bits bits) legal), right_true (is_state s) (all_bits bits) legal, leb-true _ _ (part 1 (lit< tt)))

pub run-passes : (s : ℕ) → s ≤ 3 → (bits : List ℕ) → all_bits bits ≡ true → (room : ℕ) → 2 * length bits ≤ room → run_number s bits room ≡ passed
unfolding run_number
run-passes s state bits legal room fits = rw (le-leb s 3 state, legal, le-leb (2 * length bits) room fits)

abbrev pub passing : ℕ → Ran
passing s = record { number = passed; state = s }

pub ran-passed : (s : ℕ) (bits : List ℕ) (room : ℕ) → run_number s bits room ≡ passed → ran s bits room ≡ passing (state_number (ends (state_of s) bits))
unfolding ran
ran-passed s bits room e = sym (when_passed _ _ _ e)

pub output-passed : (s : ℕ) (bits out : List ℕ) → run_number s bits (length out) ≡ passed → run_output s bits out ≡ run (state_of s) bits ++ drop (2 * length bits) out
unfolding run_output
output-passed s bits out e = sym (when_passed _ _ _ e)
