-- A call over two lists joined is the call over the first, and then over the second from the state that it answered.
use mathlib.Core.Path.{◌≡◌, sym, ap, ◌∙◌}
use mathlib.Core.List.{List, ◌++◌, append_assoc}
use Prim.Native.Nat.{ℕ, ◌+◌, ◌-◌, ◌*◌, ◌≤◌}
use native.Mathlib.Omega.{arith}
use borrow.Author.Tests.{le-leb, lt-leb, leb-true, leb-false}
use lib.Dec.{leb}
use lib.ListN.{length, take, drop, length-append, length-drop}
use lib.Seq.{take_at, drop_at, drop-drop}
use Rattle.bits.specs.Checks.{passed}
use Rattle.bits.proofs.Cases.{by_cases}
use Rattle.bits.proofs.Legal.{legal-both}
use Rattle.trellis.specs.Run.{Ran, run_number, ran, run_output}
use Rattle.trellis.specs.Trellis.{State, state_number, state_of, run, ends}
use Rattle.trellis.proofs.Checked.{run-passed, ran-passed, output-passed}
use Rattle.trellis.proofs.Runs.{ends-append, run-append, run_length, end_state_lem, end_back}

-- room for n and m is room for m in what n leaves
room-left : (n m room : ℕ) → n ≤ room → leb (n + m) room ≡ leb m (room - n)
room-left n m room h =
    by_cases
    (leb m (room - n))
    (λ t. le-leb (n + m) room (omega (arith, leb-true m (room - n) t)) ∙ sym t)
    (λ f. lt-leb (n + m) room (omega (arith, leb-false m (room - n) f)) ∙ sym f)

long : (a b : List ℕ) → 2 * length (a ++ b) ≡ 2 * length a + 2 * length b
long a b = omega (arith, length-append a b)

-- the answers, into a room of so many bytes
module _ (s : ℕ) (a b : List ℕ) (room : ℕ) (p : run_number s a room ≡ passed) where
  abbrev end : ℕ
  end = state_number (ends (state_of s) a)

  number-joined : run_number s (a ++ b) room ≡ run_number end b (room - 2 * length a)
  unfolding run_number
  number-joined =
      let (state, legal, fits) = run-passed s a room p in
      rw (le-leb s 3 state, le-leb end 3 (end_state_lem s a state), legal-both 1 a b, legal, long a b, room-left (2 * length a) (2 * length b) room fits)

  ran-joined : ran s (a ++ b) room ≡ ran end b (room - 2 * length a)
  unfolding ran
  ran-joined = rw (number-joined, ends-append (state_of s) a b, end_back s a (run-passed s a room p).0)

-- what the first call answers and leaves to the second, and what the second then gives
module _ (s : ℕ) (a b out : List ℕ) (p : run_number s a (length out) ≡ passed) where
  abbrev x : State
  x = state_of s

  abbrev rest : List ℕ
  rest = drop (2 * length a) out

  middle-is : (ran s a (length out)).state ≡ state_number (ends x a)
  middle-is = ap (λ (r : Ran). r.state) (ran-passed s a (length out) p)

  front-is : take (2 * length a) (run_output s a out) ≡ run x a
  front-is = rw (output-passed s a out p) (take_at (run x a) rest (2 * length a) (run_length x a))

  rest-is : drop (2 * length a) (run_output s a out) ≡ rest
  rest-is = rw (output-passed s a out p) (drop_at (run x a) rest (2 * length a) (run_length x a))

  pub answer-joined : ran s (a ++ b) (length out) ≡ ran (ran s a (length out)).state b (length (drop (2 * length a) (run_output s a out)))
  answer-joined = rw (rest-is, middle-is, length-drop (2 * length a) out) (ran-joined s a b (length out) p)

  module _ (q : run_number s (a ++ b) (length out) ≡ passed) where
    passes : run_number (state_number (ends x a)) b (length rest) ≡ passed
    passes = rw (length-drop (2 * length a) out, ← number-joined s a b (length out) p) q

    back_is : run_output (state_number (ends x a)) b rest ≡ run (ends x a) b ++ drop (2 * length a + 2 * length b) out
    back_is =
        output-passed (state_number (ends x a)) b rest passes
        ∙ rw (end_back s a (run-passed s a (length out) p).0, drop-drop (2 * length b) (2 * length a) out)

    pub output-joined : run_output s (a ++ b) out
        ≡ take (2 * length a) (run_output s a out) ++ run_output (ran s a (length out)).state b (drop (2 * length a) (run_output s a out))
    output-joined = output-passed s (a ++ b) out q ∙ rw (run-append x a b, long a b, front-is, rest-is, middle-is, back_is, append_assoc)
