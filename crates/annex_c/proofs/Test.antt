-- One test, computed over the 19 sizes: W rows, α a permutation of 0 .. W - 1, every β below M.
use mathlib.Core.Path.{◌≡◌, refl, sym, ap, ◌∙◌}
use mathlib.Core.Bool.{Bool, true}
use mathlib.Core.List.{List, [], ◌∷◌}
use Prim.Native.Nat.{ℕ, suc, ◌+◌, ◌*◌, ◌/◌, ◌%◌, ◌^◌, ◌<◌}
use native.Mathlib.Omega.{arith}
use borrow.Author.Tests.{leb-true, ltb-true, eqb-true}
use lib.Dec.{leb, ltb, eqb, lit<}
use lib.ListN.{length, get_or}
use Rattle.std.specs.List.{list_all}
use Rattle.std.proofs.lemmas.List.Sums.{AllPass-from_list_all}
use Rattle.bits.specs.Permutation.{Permutes}
use Rattle.bits.proofs.Table.{every, every-at, below, below_at}
use Rattle.acm.specs.Formats.{M}
use Rattle.annex_c.specs.Sizes.{Size, sizes}
use Rattle.annex_c.specs.AnnexC.{Vectors, widest}

pub record Sound (s : Size) : Type 0 where
  pub rows : length s.α ≡ s.W
  pub vectors : Vectors s.α s.β
  pub permutes : Permutes (length s.α) (λ j. get_or s.α j 0)

-- α as two numbers to the base 1024: one has α's elements as its digits, the other the row of each element as the digit at that element
abbrev pub elements : List ℕ → ℕ
elements [] = 0
elements (x ∷ xs) = x + 1024 * elements xs

abbrev pub rows : ℕ → List ℕ → ℕ
rows j [] = 0
rows j (x ∷ xs) = j * 1024 ^ x + rows (suc j) xs

abbrev pub digit : ℕ → ℕ → ℕ
digit n k = n / 1024 ^ k % 1024

-- the tests of a size, e and r being the two numbers; what they say of α holds whatever numbers e and r are
abbrev pub tests : ℕ → ℕ → Size → List Bool
tests e r s =
    let W = length s.α in
    eqb W s.W
    ∷ eqb (length s.β) W
    ∷ leb W widest
    ∷ list_all (λ x. ltb x W) s.α
    ∷ list_all (λ x. ltb x M) s.β
    ∷ every (λ j x. eqb (digit e j) x) 0 s.α
    ∷ every (λ j x. eqb (digit r x) j) 0 s.α
    ∷ below (λ x. ltb (digit r x) W) W
    ∷ below (λ x. eqb (digit e (digit r x)) x) W
    ∷ []

abbrev pub test : Size → Bool
test s = list_all (λ t. t) (tests (elements s.α) (rows 0 s.α) s)

pub tested : list_all test sizes ≡ true
unfolding sizes
tested = refl

module _ (e r : ℕ) (s : Size) (t : list_all (λ t. t) (tests e r s) ≡ true) where
  part : (k : ℕ) → k < 9 → get_or (tests e r s) k true ≡ true
  part k = AllPass-from_list_all (λ t. t) (tests e r s) t k true

  same_length : length s.β ≡ length s.α
  same_length = eqb-true _ _ (part 1 (lit< tt))

  module _ (j : ℕ) (h : j < length s.α) where
    α-low : get_or s.α j 0 < length s.α
    α-low = ltb-true _ _ (AllPass-from_list_all (λ x. ltb x (length s.α)) s.α (part 3 (lit< tt)) j 0 h)

    β-low : get_or s.β j 0 < M
    β-low = ltb-true _ _ (AllPass-from_list_all (λ x. ltb x M) s.β (part 4 (lit< tt)) j 0 (omega (arith, same_length)))

    element_at : digit e j ≡ get_or s.α j 0
    element_at = eqb-true _ _ (every-at (λ j x. eqb (digit e j) x) s.α 0 (part 5 (lit< tt)) j h)

    row_at : digit r (get_or s.α j 0) ≡ j
    row_at = eqb-true _ _ (every-at (λ j x. eqb (digit r x) j) s.α 0 (part 6 (lit< tt)) j h)

  module _ (x : ℕ) (h : x < length s.α) where
    row_low : digit r x < length s.α
    row_low = ltb-true _ _ (below_at (λ x. ltb (digit r x) (length s.α)) (length s.α) (part 7 (lit< tt)) x h)

    element_there : get_or s.α (digit r x) 0 ≡ x
    element_there =
        sym (element_at (digit r x) row_low)
        ∙ eqb-true _ _ (below_at (λ x. eqb (digit e (digit r x)) x) (length s.α) (part 8 (lit< tt)) x h)

  sound : Sound s
  sound =
      record {
        rows = eqb-true _ _ (part 0 (lit< tt));
        vectors = record { long = same_length; narrow = leb-true _ _ (part 2 (lit< tt)); α_range = α-low; β_range = β-low };
        permutes = record {
          below = α-low;
          apart = λ i j h l q. sym (row_at i h) ∙ ap (digit r) q ∙ row_at j l;
          onto = λ x h. (digit r x, row_low x h, element_there x h);
        };
      }

pub test-sound : (s : Size) → test s ≡ true → Sound s
test-sound s t = sound (elements s.α) (rows 0 s.α) s t
