-- How long a line of numbers is, and with it the text of a refusal.
use mathlib.Core.Path.{◌≡◌, ◌∙◌}
use mathlib.Core.List.{List, [], ◌∷◌}
use Prim.Native.Nat.{ℕ, suc, ◌+◌, ◌^◌, ◌≤◌, ◌<◌}
use native.Mathlib.Omega.{arith}
use lib.ListN.{length, length-append}
use Rattle.ascii.specs.Text.{decimal, separator, line, refusal_text, longest_refusal}
use Rattle.ascii.proofs.Decimal.{decimal-length}

line-length : (n : ℕ) (ns : List ℕ) → length (line (n ∷ ns)) ≡ length (decimal n) + 1 + length (line ns)
line-length n ns = length-append (decimal n) (separator ns ∷ line ns) ∙ omega arith

-- a number of at most k + 1 digits, and the byte that follows it
pub number-length : (k n : ℕ) (ns : List ℕ) → n < 10 ^ suc k → length (line (n ∷ ns)) ≤ suc k + 1 + length (line ns)
number-length k n ns h = omega (arith, line-length n ns, decimal-length k n h)

-- the number of a check has at most three digits
pub refusal_length : (n : ℕ) → n < 256 → length (refusal_text n) ≤ longest_refusal
unfolding refusal_text
refusal_length n h = omega (arith, number-length 2 n [] (omega arith))
