-- What waits after bits are put behind those that wait, and after the first of them are taken off.
use mathlib.Core.Path.{◌≡◌, sym, ap, ◌∙◌}
use mathlib.Core.List.{List, ◌++◌}
use Prim.Native.Nat.{ℕ, ◌+◌, ◌-◌, ◌≤◌}
use native.Mathlib.Omega.{arith}
use lib.ListN.{length, take, drop, length-append, length-drop}
use lib.Seq.{take_at, take-add, length-take-le}
use Rattle.waiting.specs.Waiting.{waiting_bits, behind, advanced}

module _ (count : ℕ) (bits memory : List ℕ) (room : count + length bits ≤ length memory) where
  front : length (take count memory) ≡ count
  front = length-take-le count memory (omega arith)

  pub behind-waits : waiting_bits (count + length bits) (behind count bits memory) ≡ waiting_bits count memory ++ bits
  behind-waits =
      take_at (take count memory ++ bits) (drop (count + length bits) memory) (count + length bits) (omega (arith, length-append (take count memory) bits, front))

  pub behind-length : length (behind count bits memory) ≡ length memory
  behind-length = simp (length-append, front, length-drop) (omega arith)

module _ (k count : ℕ) (memory : List ℕ) (enough : k ≤ count) (room : count ≤ length memory) where
  rest : length (take (count - k) (drop k memory)) ≡ count - k
  rest = length-take-le (count - k) (drop k memory) (simp length-drop (omega arith))

  pub advanced-waits : take k memory ++ waiting_bits (count - k) (advanced k (count - k) memory) ≡ waiting_bits count memory
  advanced-waits =
      let all : k + (count - k) ≡ count = omega arith in
      ap (λ (l : List ℕ). take k memory ++ l) (take_at (take (count - k) (drop k memory)) (drop (count - k) memory) (count - k) rest)
      ∙ sym (take-add k (count - k) memory)
      ∙ ap (λ (n : ℕ). take n memory) all

  pub advanced-length : length (advanced k (count - k) memory) ≡ length memory
  advanced-length = simp (length-append, rest, length-drop) (omega arith)
