-- One label more is the nearest if it is nearer than the nearest of those before, and else that stays; so it does over a row of which none is nearer.
use mathlib.Core.Path.{◌≡◌, refl, sym, ap, ◌∙◌}
use mathlib.Core.Bool.{Bool, true, false, ◌||◌, false≢true}
use Prim.Native.Nat.{ℕ, zero, suc, ◌+◌, ◌-◌, ◌<◌}
use native.Mathlib.Numerals.{add-one}
use native.Mathlib.Omega.{arith}
use lib.Ieee.{Float, lt}
use Rattle.std.specs.Prelude.{if◌then◌else◌}
use Rattle.bits.proofs.Legal.{or_false}
use Rattle.nearest.specs.declared.Nearest.{Nearest}
use Rattle.nearest.specs.Nearest.{distance_to, least}
use Rattle.nearest.specs.Search.{nearest_of, row, some_nearer}

left_false : (a b : Bool) → (a || b) ≡ false → a ≡ false
left_false true b e = e
left_false false b e = refl

right_false : (a b : Bool) → (a || b) ≡ false → b ≡ false
right_false true b e = absurd (false≢true (sym e))
right_false false b e = e

or_assoc : (a b c : Bool) → ((a || b) || c) ≡ (a || (b || c))
or_assoc true b c = refl
or_assoc false b c = refl

module _ (i q : Float) where
  abbrev d : ℕ → Float
  d = distance_to i q

  pub none_yet : nearest_of i q 0 ≡ record { label = 0; distance = d 0 }
  unfolding least
  none_yet = refl

  module _ (n : ℕ) where
    opened : least d (n + 1) ≡ (if lt (d n) (d (least d n)) then n else least d n)
    unfolding least
    opened = rw add-one refl

    pub nearer_next : lt (d n) (d (least d n)) ≡ true → ◌≡◌ {A = Nearest} (record { label = n; distance = d n }) (nearest_of i q (n + 1))
    nearer_next t = let is : n ≡ least d (n + 1) = sym (opened ∙ rw t refl) in ap (λ label. record { label = label; distance = d label }) is

    pub nearest_stays : lt (d n) (d (least d n)) ≡ false → nearest_of i q n ≡ nearest_of i q (n + 1)
    nearest_stays f = let is : least d n ≡ least d (n + 1) = sym (opened ∙ rw f refl) in ap (λ label. record { label = label; distance = d label }) is

  pub row_stays : (n k : ℕ) → some_nearer i q n k (nearest_of i q n).distance ≡ false → nearest_of i q n ≡ nearest_of i q (n + k)
  unfolding some_nearer
  row_stays n zero f = let e : n ≡ n + 0 = omega arith in ap (nearest_of i q) e
  row_stays n (suc k) f =
      let stays = nearest_stays n (left_false _ _ f) ∙ ap (nearest_of i q) (add-one n) in
      let rest = ap (λ m. some_nearer i q (suc n) k m.distance) (sym stays) ∙ right_false (lt (d n) (d (least d n))) _ f in
      let e : suc n + k ≡ n + suc k = omega arith in
      stays ∙ row_stays (suc n) k rest ∙ ap (nearest_of i q) e

  -- a row, label by label: what was found, or will be among the n labels from one on
  module _ (so_far : Float) where
    abbrev pub Found : ℕ → ℕ → Bool → Type 0
    Found first label nearer = (nearer || some_nearer i q label (first + row - label) so_far) ≡ some_nearer i q first row so_far

    pub found_next : (first label : ℕ) (nearer : Bool) → label < first + row → Found first label nearer
        → Found first (label + 1) (nearer || lt (d label) so_far)
    unfolding some_nearer
    found_next first label nearer h found =
        let e : first + row - label ≡ suc (first + row - (label + 1)) = omega arith in
        or_assoc nearer (lt (d label) so_far) _
        ∙ ap (λ n. nearer || (lt (d label) so_far || some_nearer i q n (first + row - (label + 1)) so_far)) (add-one label)
        ∙ sym (ap (λ n. nearer || some_nearer i q label n so_far) e)
        ∙ found

    pub found_all : (first : ℕ) (nearer : Bool) → Found first (first + row) nearer → nearer ≡ some_nearer i q first row so_far
    unfolding some_nearer
    found_all first nearer found =
        let e : first + row - (first + row) ≡ 0 = omega arith in
        sym (ap (λ n. nearer || some_nearer i q (first + row) n so_far) e ∙ or_false nearer) ∙ found
