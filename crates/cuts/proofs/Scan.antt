-- What std's scans find in a list of cuts: that it does not fall, and that none is beyond the input.
use Rattle.std.proofs.Common.{◌≡◌, ℕ, zero, suc, zero-le, ◌+◌, ◌≤◌, ◌<◌, Bool, true, false, List, [], ◌∷◌, length, get_or, replicate, refl, sym, arith, add-one}
use Rattle.std.specs.Bool.{MatchBool}
use Rattle.std.specs.List.Sorted.{IsNonDecreasing}
use borrow.Author.Tests.{le-leb, lt-leb}
use lib.Dec.{leb}
use Rattle.bits.proofs.Legal.{and-false}
use Rattle.cuts.specs.Cuts.{rises_from}

rising : (from : ℕ) (cuts : List ℕ) → ((k : ℕ) → k < length cuts → get_or (from ∷ cuts) k 0 ≤ get_or cuts k 0) → rises_from from cuts ≡ true
rising from [] h = refl
rising from (c ∷ cs) h = rw (le-leb from c (h 0 (omega arith))) (rising c cs (λ k l. h (suc k) (omega arith)))

falling : (from : ℕ) (cuts : List ℕ) (k : ℕ) → k < length cuts → get_or cuts k 0 < get_or (from ∷ cuts) k 0 → rises_from from cuts ≡ false
falling from [] k h l = absurd (omega arith)
falling from (c ∷ cs) zero h l = rw (lt-leb from c l) refl
falling from (c ∷ cs) (suc k) h l = rw (falling c cs k (omega arith) l) (and-false (leb from c))

pub sorted_is : (cuts : List ℕ) (sorted : Bool) → MatchBool sorted (IsNonDecreasing cuts) ((k : ℕ) × (k + 1 < length cuts) × ((d : ℕ) → get_or cuts (k + 1) d < get_or cuts k d))
    → sorted ≡ rises_from 0 cuts
sorted_is cuts true h = sym (rising 0 cuts up)
  where
    up : (k : ℕ) → k < length cuts → get_or (0 ∷ cuts) k 0 ≤ get_or cuts k 0
    up zero l = zero-le
    up (suc k) l = h k (suc k) 0 (omega arith) l
sorted_is cuts false (k, l, h) = sym (falling 0 cuts (suc k) (omega arith) (rw (add-one k) at (h 0)))

-- cuts at one place do not fall
pub rises_repeated : (n c : ℕ) → rises_from 0 (replicate n c) ≡ true
rises_repeated zero c = refl
rises_repeated (suc n) c = rw (le-leb 0 c zero-le) (rises-on-one n c)
  where
    rises-on-one : (n c : ℕ) → rises_from c (replicate n c) ≡ true
    rises-on-one zero c = refl
    rises-on-one (suc n) c = rw (le-leb c c (omega arith)) (rises-on-one n c)
