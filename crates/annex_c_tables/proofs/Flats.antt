-- The flat tables: a size's rows stand behind those of the sizes before it.
use mathlib.Core.Path.{◌≡◌, ◌∙◌}
use mathlib.Core.Bool.{true, false, false≢true}
use mathlib.Core.List.{List, [], ◌∷◌, ◌++◌, map}
use Prim.Native.Nat.{ℕ, ◌+◌, ◌-◌, ◌≤◌, ◌<◌}
use native.Mathlib.Omega.{arith}
use borrow.Author.Tests.{eqb-true, ne_eqb}
use lib.Dec.{eqb}
use lib.ListN.{length, get_or, take, drop, length-append}
use lib.Seq.{take_at, drop-append-add}
use Rattle.std.specs.List.{list_all}
use Rattle.std.proofs.lemmas.Bool.{and_parts}
use Rattle.bits.specs.Place.{place}
use Rattle.bits.proofs.Cases.{by_cases}
use Rattle.bits.proofs.Lists.{drop-next}
use Rattle.annex_c.specs.Sizes.{Size, sizes}
use Rattle.annex_c.specs.AnnexC.{among, find, is_size, size_of}
use Rattle.annex_c_tables.specs.Flat.{Tables, widths, flat, rows_before}
use Rattle.annex_c.proofs.Sizes.{α-rows, β-rows}
use Rattle.annex_c.proofs.Test.{Sound, test, tested, test-sound}

-- what one more width says of the rest
module _ (w : ℕ) (l : List ℕ) (k : ℕ) (h : k < length l) where
  pub rows_next : (get_or l k 0 ≡ w → ⊥) → rows_before w (drop k l) ≡ get_or l k 0 + rows_before w (drop (k + 1) l)
  rows_next n = rw (drop-next l k h, ne_eqb _ _ n)

-- a table with an entry for each size has the size's own behind those of the sizes before it
module _ (w : ℕ) where
  before-inside : (ss : List Size) → among w ss ≡ true → place w (widths ss) < length ss
  unfolding place
  before-inside [] h = absurd (false≢true h)
  before-inside (s ∷ ss) h = by_cases (eqb s.W w) (λ e. rw e (omega arith)) (λ n. rw n (omega (arith, before-inside ss (rw n at h))))

  entry_at : {A : Type 0} (f : Size → A) (d : A) (ss : List Size) → among w ss ≡ true → get_or (map f ss) (place w (widths ss)) d ≡ f (find w ss)
  unfolding place
  entry_at f d [] h = absurd (false≢true h)
  entry_at f d (s ∷ ss) h = by_cases (eqb s.W w) (λ e. rw e) (λ n. rw n (entry_at f d ss (rw n at h)))

  module _ (h : is_size w ≡ true) {k : ℕ} (e : k ≡ place w (widths sizes)) where
    pub size-inside : k < length sizes
    unfolding is_size
    size-inside = rw e (before-inside sizes h)

    pub stand_in-at : get_or (map (λ s. s.stand_in) sizes) k false ≡ (size_of w).stand_in
    unfolding is_size size_of
    stand_in-at = rw e (entry_at (λ s. s.stand_in) false sizes h)

drop_past : (a b : List ℕ) (n m : ℕ) → length a ≡ n → drop (n + m) (a ++ b) ≡ drop m b
drop_past a b n m e = rw (← e) (drop-append-add a b m)

-- a table with the vector v of each size has the size's own behind the rows of the sizes before it
module _ (v : Size → List ℕ) (long : (s : Size) → Sound s → length (v s) ≡ s.W) (w : ℕ) where
  rows_inside : (ss : List Size) → list_all test ss ≡ true → among w ss ≡ true → rows_before w (widths ss) + w ≤ length (flat v ss)
  rows_inside [] t h = absurd (false≢true h)
  rows_inside (s ∷ ss) t h =
      let (here, rest) = and_parts (test s) (list_all test ss) t in
      let l = long s (test-sound s here) in
      let both = length-append (v s) (flat v ss) in
      by_cases (eqb s.W w)
      (λ e. rw e (omega (arith, eqb-true s.W w e)))
      (λ n. rw n (omega (arith, rows_inside ss rest (rw n at h))))

  rows_are : (ss : List Size) → list_all test ss ≡ true → among w ss ≡ true → take w (drop (rows_before w (widths ss)) (flat v ss)) ≡ v (find w ss)
  rows_are [] t h = absurd (false≢true h)
  rows_are (s ∷ ss) t h =
      let (here, rest) = and_parts (test s) (list_all test ss) t in
      let l = long s (test-sound s here) in
      by_cases (eqb s.W w)
      (λ e. rw e (take_at (v s) (flat v ss) w (l ∙ eqb-true s.W w e)))
      (λ n. rw (n, drop_past (v s) (flat v ss) s.W (rows_before w (widths ss)) l) (rows_are ss rest (rw n at h)))

-- the part of a table from `start` on that is the size's vector, as the code cuts it out
pub record Part (start w : ℕ) (table v : List ℕ) : Type 0 where
  pub inside : start + w ≤ length table
  pub is : take (start + w - start) (drop start table) ≡ v
  pub long : length v ≡ w

part_of : (v : Size → List ℕ) → ((s : Size) → Sound s → length (v s) ≡ s.W) → (w : ℕ) → is_size w ≡ true → length (v (size_of w)) ≡ w
    → Part (rows_before w (widths sizes)) w (flat v sizes) (v (size_of w))
unfolding is_size size_of
part_of v long w h l =
    let start = rows_before w (widths sizes) in
    let e : start + w - start ≡ w = omega arith in
    record { inside = rows_inside v long w sizes tested h; is = rw e (rows_are v long w sizes tested h); long = l }

module _ (w : ℕ) (h : is_size w ≡ true) where
  α-part : Part (rows_before w (widths sizes)) w (flat (λ s. s.α) sizes) (size_of w).α
  α-part = part_of (λ s. s.α) (λ s p. p.rows) w h (α-rows w h)

  β-part : Part (rows_before w (widths sizes)) w (flat (λ s. s.β) sizes) (size_of w).β
  β-part = part_of (λ s. s.β) (λ s p. p.vectors.long ∙ p.rows) w h (β-rows w h)

  -- in the tables that are lent
  module _ {ws xs ys : List ℕ} (t : Tables ws xs ys) {start : ℕ} (e : start ≡ rows_before w ws) where
    pub α_from : Part start w xs (size_of w).α
    α_from = rw (e, t.W, t.α) α-part

    pub β_from : Part start w ys (size_of w).β
    β_from = rw (e, t.W, t.β) β-part
