-- The outer trellis's kept bits: how many, that they are bits, and a turn of the loop that writes them.
use mathlib.Core.Path.{◌≡◌, refl}
use mathlib.Core.Bool.{true}
use mathlib.Core.List.{List, [], ◌∷◌}
use Prim.Native.Nat.{ℕ, zero, suc, ◌+◌, ◌*◌, ◌/◌, ◌%◌, ◌≤◌, ◌<◌}
use native.Mathlib.Omega.{arith}
use borrow.Author.Tests.{le-leb}
use lib.ListN.{length, get_or, drop, drop_of_length-le}
use Rattle.std.specs.Simd.{first_chunks}
use Rattle.bits.specs.Legal.{all_bits}
use Rattle.bits.proofs.Legal.{legal_head, legal-tail}
use Rattle.bits.proofs.Lists.{drop-next_two}
use Rattle.trellis.specs.declared.state.Termination.{Termination}
use Rattle.trellis.specs.Trellis.{State, zero-state, parity, next, parities, terminated_from, termination_of, kept, outer_from, outer}
use Rattle.trellis.proofs.Runs.{parities-bits, terminated-bits}

outer_from-length : (x : State) (block : List ℕ) → length block % 2 ≡ 0 → 2 * length (outer_from x block) ≡ 3 * (length block + 2)
outer_from-length x [] e = refl
outer_from-length x (u ∷ []) e = absurd (omega arith)
outer_from-length x (u ∷ v ∷ us) e = omega (arith, outer_from-length (next (next x u) v) us (omega arith))

pub outer-length : (block : List ℕ) → length block % 2 ≡ 0 → 2 * length (outer block) ≡ 3 * (length block + 2)
outer-length block e = outer_from-length zero-state block e

kept-bits : (s p : List ℕ) → all_bits s ≡ true → all_bits p ≡ true → all_bits (kept s p) ≡ true
kept-bits [] p hs hp = refl
kept-bits (a ∷ []) p hs hp = refl
kept-bits (a ∷ b ∷ s) [] hs hp = refl
kept-bits (a ∷ b ∷ s) (u ∷ []) hs hp = refl
kept-bits (a ∷ b ∷ s) (u ∷ v ∷ p) hs hp =
    let ts = legal-tail 1 a (b ∷ s) hs in
    let tp = legal-tail 1 u (v ∷ p) hp in
    rw (le-leb a 1 (legal_head 1 a (b ∷ s) hs), le-leb u 1 (legal_head 1 u (v ∷ p) hp), le-leb b 1 (legal_head 1 b s ts))
    (kept-bits s p (legal-tail 1 b s ts) (legal-tail 1 v p tp))

pub outer-bits : (block : List ℕ) → all_bits block ≡ true → all_bits (outer block) ≡ true
outer-bits block h =
    let s = terminated_from zero-state block in
    kept-bits s (parities zero-state s) (terminated-bits zero-state block h) (parities-bits zero-state s)

-- a block of even length is its pairs
pair-first : (n : ℕ) (block : List ℕ) (i : ℕ) → i < n → get_or (get_or (first_chunks 2 n block) i []) 0 0 ≡ get_or block (2 * i) 0
pair-first zero block i h = absurd (omega arith)
pair-first (suc n) [] zero h = refl
pair-first (suc n) (u ∷ us) zero h = refl
pair-first (suc n) [] (suc i) h = pair-first n [] i (omega arith)
pair-first (suc n) (u ∷ []) (suc i) h =
    let past : 2 * suc i ≡ suc (suc (2 * i)) = omega arith in
    rw past (pair-first n [] i (omega arith))
pair-first (suc n) (u ∷ v ∷ us) (suc i) h =
    let past : 2 * suc i ≡ suc (suc (2 * i)) = omega arith in
    rw past (pair-first n us i (omega arith))

pair-second : (n : ℕ) (block : List ℕ) (i : ℕ) → i < n → get_or (get_or (first_chunks 2 n block) i []) 1 0 ≡ get_or block (2 * i + 1) 0
pair-second zero block i h = absurd (omega arith)
pair-second (suc n) [] zero h = refl
pair-second (suc n) (u ∷ []) zero h = refl
pair-second (suc n) (u ∷ v ∷ us) zero h = refl
pair-second (suc n) [] (suc i) h = pair-second n [] i (omega arith)
pair-second (suc n) (u ∷ []) (suc i) h =
    let past : 2 * suc i + 1 ≡ suc (suc (2 * i + 1)) = omega arith in
    rw past (pair-second n [] i (omega arith))
pair-second (suc n) (u ∷ v ∷ us) (suc i) h =
    let past : 2 * suc i + 1 ≡ suc (suc (2 * i + 1)) = omega arith in
    rw past (pair-second n us i (omega arith))

-- what is left at the i-th pair begins with its two bits and the parity between them
module _ (block : List ℕ) {pairs : List (List ℕ)} (is : pairs ≡ first_chunks 2 (length block / 2) block) (x : State) (i : ℕ) (h : i < length block / 2) where
  abbrev u : ℕ
  u = get_or (get_or pairs i []) 0 0

  abbrev v : ℕ
  v = get_or (get_or pairs i []) 1 0

  pub outer-turn : outer_from x (drop (2 * i) block) ≡ u ∷ parity x u ∷ v ∷ outer_from (next (next x u) v) (drop (2 * (i + 1)) block)
  outer-turn =
      let more : 2 * i + 1 < length block = omega arith in
      let past : 2 * (i + 1) ≡ 2 * i + 2 = omega arith in
      rw (is, pair-first (length block / 2) block i h, pair-second (length block / 2) block i h, past, drop-next_two block (2 * i) more)

-- and with no pair left, the terminating steps' three kept bits
pub outer-done : (block : List ℕ) (x : State) (i : ℕ) {t : Termination} → length block ≤ i → t ≡ termination_of x
    → outer_from x (drop i block) ≡ t.s0 ∷ t.p0 ∷ t.s1 ∷ []
outer-done block x i h et = rw (drop_of_length-le block h, et)
