-- What the inner encoder reads: how much, that it is bits, that it stands in the first I outer kept bits, and where a run over it ends.
use mathlib.Core.Path.{◌≡◌, refl, sym, ap, ◌∙◌}
use mathlib.Core.Bool.{true}
use mathlib.Core.List.{List, [], ◌∷◌, ◌++◌}
use Prim.Native.Nat.{ℕ, zero, suc, ◌+◌, ◌-◌, ◌≤◌, ◌<◌}
use native.Mathlib.Omega.{arith}
use borrow.Author.Tests.{le-leb}
use lib.ListN.{length, get_or, get_or-append}
use Rattle.bits.specs.Legal.{all_bits}
use Rattle.bits.proofs.Legal.{legal-at}
use Rattle.trellis.specs.Trellis.{State, next, ends}
use Rattle.trellis.proofs.Runs.{ends-append}
use Rattle.inner.specs.Left.{reads}
use Rattle.inner.specs.Registers.{read_from}

pub read_length : (ρ : ℕ → ℕ) (kept : List ℕ) (i n : ℕ) → length (read_from ρ kept i n) ≡ n
read_length ρ kept i zero = refl
read_length ρ kept i (suc n) = ap suc (read_length ρ kept (i + 1) n)

pub read-bits : (ρ : ℕ → ℕ) (kept : List ℕ) → all_bits kept ≡ true → (i n : ℕ) → all_bits (read_from ρ kept i n) ≡ true
read-bits ρ kept h i zero = refl
read-bits ρ kept h i (suc n) = rw (le-leb (get_or kept (ρ i) 0) 1 (legal-at 1 kept h (ρ i))) (read-bits ρ kept h (i + 1) n)

-- what stands behind the bits that ρ reaches is not read
pub read-front : (ρ : ℕ → ℕ) (a b : List ℕ) (I : ℕ) → ((i : ℕ) → i < I → ρ i < length a) → (i n : ℕ) → i + n ≤ I → read_from ρ (a ++ b) i n ≡ read_from ρ a i n
read-front ρ a b I low i zero h = refl
read-front ρ a b I low i (suc n) h =
    rw (get_or-append a b 0 (ρ i) (low i (omega arith)), read-front ρ a b I low (i + 1) n (omega arith))

module _ (ρ : ℕ → ℕ) (work : List ℕ) where
  pub reads_all : (I : ℕ) → reads ρ work I 0 ≡ read_from ρ work 0 I
  reads_all I =
      let e : I - 0 ≡ I = omega arith in
      ap (read_from ρ work 0) e

  read-append : (i n m : ℕ) → read_from ρ work i (n + m) ≡ read_from ρ work i n ++ read_from ρ work (i + n) m
  read-append i zero m =
      let e : i ≡ i + 0 = omega arith in
      let d : 0 + m ≡ m = omega arith in
      ap (read_from ρ work i) d ∙ ap (λ (k : ℕ). read_from ρ work k m) e
  read-append i (suc n) m =
      let e : i + 1 + n ≡ i + suc n = omega arith in
      let d : suc n + m ≡ suc (n + m) = omega arith in
      ap (read_from ρ work i) d
      ∙ ap (λ (l : List ℕ). get_or work (ρ i) 0 ∷ l) (read-append (i + 1) n m ∙ ap (λ (k : ℕ). read_from ρ work (i + 1) n ++ read_from ρ work k m) e)

  -- up to a time between, and from there on
  pub reads-split : (I i m : ℕ) → i ≤ m → m ≤ I → reads ρ work I i ≡ reads ρ work m i ++ reads ρ work I m
  reads-split I i m h k =
      let e : I - i ≡ m - i + (I - m) = omega arith in
      let d : i + (m - i) ≡ m = omega arith in
      ap (read_from ρ work i) e ∙ read-append i (m - i) (I - m) ∙ ap (λ (j : ℕ). reads ρ work m i ++ read_from ρ work j (I - m)) d

  pub read-end : (I i : ℕ) → I ≤ i → reads ρ work I i ≡ []
  read-end I i h =
      let e : I - i ≡ 0 = omega arith in
      ap (read_from ρ work i) e

  pub read-bit : (I i : ℕ) {u : ℕ} → i < I → u ≡ get_or work (ρ i) 0 → reads ρ work I i ≡ u ∷ reads ρ work I (i + 1)
  read-bit I i h bit =
      let e : I - i ≡ suc (I - (i + 1)) = omega arith in
      ap (read_from ρ work i) e ∙ ap (λ (v : ℕ). v ∷ reads ρ work I (i + 1)) (sym bit)

  -- a run that is in the state x at time i ends where it would: after one more bit, after those up to a time between, and with none left
  pub end-next : (I i : ℕ) (x : State) {u : ℕ} → i < I → u ≡ get_or work (ρ i) 0 → ends (next x u) (reads ρ work I (i + 1)) ≡ ends x (reads ρ work I i)
  end-next I i x h bit = sym (ap (ends x) (read-bit I i h bit))

  pub end_later : (I i m : ℕ) (x : State) → i ≤ m → m ≤ I → ends (ends x (reads ρ work m i)) (reads ρ work I m) ≡ ends x (reads ρ work I i)
  end_later I i m x h k = sym (ap (ends x) (reads-split I i m h k) ∙ ends-append x (reads ρ work m i) (reads ρ work I m))
