-- The bits at the positions that pass a test: a turn of a loop over them, how many they are, that they are bits, and their linearity.
use mathlib.Core.Path.{◌≡◌, refl}
use mathlib.Core.Bool.{Bool, true}
use mathlib.Core.List.{List, [], ◌∷◌}
use Prim.Native.Nat.{ℕ, ◌+◌}
use native.Mathlib.Omega.{arith}
use borrow.Author.Tests.{le-leb}
use lib.ListN.{length}
use Rattle.bits.specs.Legal.{all_bits}
use Rattle.bits.specs.Sum.{◌⊕*◌}
use Rattle.bits.proofs.Cases.{by_cases}
use Rattle.bits.proofs.Legal.{legal_head, legal-tail}
use Rattle.puncture.specs.Puncture.{kept_at}

pub kept-sum : (test : ℕ → Bool) (i : ℕ) (a b : List ℕ) → length a ≡ length b → kept_at test i (a ⊕* b) ≡ kept_at test i a ⊕* kept_at test i b
kept-sum test i [] [] e = refl
kept-sum test i [] (y ∷ b) e = absurd (omega arith)
kept-sum test i (x ∷ a) [] e = absurd (omega arith)
kept-sum test i (x ∷ a) (y ∷ b) e =
    let rest = kept-sum test (i + 1) a b (omega arith) in
    by_cases (test i) (λ t. rw (t, rest)) (λ f. rw (f, rest))

-- how many are kept does not depend on what they are
pub kept-length : (test : ℕ → Bool) (i : ℕ) (a b : List ℕ) → length a ≡ length b → length (kept_at test i a) ≡ length (kept_at test i b)
kept-length test i [] [] e = refl
kept-length test i [] (y ∷ b) e = absurd (omega arith)
kept-length test i (x ∷ a) [] e = absurd (omega arith)
kept-length test i (x ∷ a) (y ∷ b) e =
    let rest = kept-length test (i + 1) a b (omega arith) in
    by_cases (test i) (λ t. rw (t, rest)) (λ f. rw (f, rest))

pub kept-bits : (test : ℕ → Bool) (i : ℕ) (l : List ℕ) → all_bits l ≡ true → all_bits (kept_at test i l) ≡ true
kept-bits test i [] h = refl
kept-bits test i (x ∷ l) h =
    let rest = kept-bits test (i + 1) l (legal-tail 1 x l h) in
    by_cases (test i) (λ t. rw (t, le-leb x 1 (legal_head 1 x l h)) rest) (λ f. rw f rest)
