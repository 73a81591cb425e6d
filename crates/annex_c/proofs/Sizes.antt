-- What holds of every size of annex C, from the test.
use mathlib.Core.Path.{◌≡◌, ◌∙◌}
use mathlib.Core.Bool.{true, false≢true}
use mathlib.Core.List.{List, [], ◌∷◌}
use Prim.Native.Nat.{ℕ}
use borrow.Author.Tests.{eqb-true}
use lib.Dec.{eqb}
use lib.ListN.{length, get_or}
use Rattle.std.specs.List.{list_all}
use Rattle.std.proofs.lemmas.Bool.{and_parts}
use Rattle.bits.specs.Permutation.{Permutes}
use Rattle.bits.proofs.Cases.{by_cases}
use Rattle.annex_c.specs.Sizes.{Size, sizes}
use Rattle.annex_c.specs.AnnexC.{Vectors, among, find, is_size, size_of}
use Rattle.annex_c.proofs.Test.{Sound, test, tested, test-sound}

-- the size that is found passed the test, and has the W asked for
found-sound : (w : ℕ) (ss : List Size) → list_all test ss ≡ true → among w ss ≡ true → Sound (find w ss)
found-sound w [] t h = absurd (false≢true h)
found-sound w (s ∷ ss) t h =
    let (here, rest) = and_parts (test s) (list_all test ss) t in
    by_cases (eqb s.W w) (λ e. rw e (test-sound s here)) (λ n. rw n (found-sound w ss rest (rw n at h)))

found_width : (w : ℕ) (ss : List Size) → among w ss ≡ true → (find w ss).W ≡ w
found_width w [] h = absurd (false≢true h)
found_width w (s ∷ ss) h = by_cases (eqb s.W w) (λ e. rw e (eqb-true s.W w e)) (λ n. rw n (found_width w ss (rw n at h)))

module _ (w : ℕ) (h : is_size w ≡ true) where
  size-sound : Sound (size_of w)
  unfolding is_size size_of
  size-sound = found-sound w sizes tested h

  pub size-vectors : Vectors (size_of w).α (size_of w).β
  size-vectors = size-sound.vectors

  pub α-rows : length (size_of w).α ≡ w
  unfolding is_size size_of
  α-rows = size-sound.rows ∙ found_width w sizes h

  pub β-rows : length (size_of w).β ≡ w
  β-rows = size-vectors.long ∙ α-rows

  pub rows_permute : Permutes (length (size_of w).α) (λ j. get_or (size_of w).α j 0)
  rows_permute = size-sound.permutes
