-- Laws of the exclusive or of three: of bits it is their sum, and of one list thrice the list itself.
use mathlib.Core.Path.{◌≡◌, refl, sym, ap, ap₂, ◌∙◌}
use mathlib.Core.Bool.{true}
use mathlib.Core.List.{List, [], ◌∷◌, ◌++◌, map}
use Prim.Native.Nat.{ℕ, zero, suc, ◌<◌}
use native.Mathlib.Omega.{arith}
use lib.Bits.{bit_xor, xor_self, xor_zero_l}
use lib.ListN.{length, get_or, take, drop}
use Rattle.std.specs.List.{All}
use Rattle.std.proofs.lemmas.List.Elements.{All-nil, All-cons, All-head, All-tail}
use Rattle.bits.specs.Joined.{joined}
use Rattle.bits.specs.Legal.{all_bits}
use Rattle.bits.specs.Sum.{◌⊕*◌}
use Rattle.bits.specs.Three.{of_three, xored, lists_xored}
use Rattle.bits.specs.Words.{bits_of, unpacked}
use Rattle.bits.proofs.Legal.{legal_head, legal-tail}
use Rattle.bits.proofs.Lists.{Long}
use Rattle.bits.proofs.Sums.{xor_of_bits, ⊕*-append, ⊕*-length}
use Rattle.bits.proofs.Words.{bits-xor, length-bits}

-- of any function of three
module _ {A : Type 0} (g : A → A → A → A) where
  pub three-length : (a b c : List A) → length a ≡ length b → length b ≡ length c → length (of_three g a b c) ≡ length a
  three-length [] b c e d = refl
  three-length (x ∷ a) [] c e d = absurd (omega arith)
  three-length (x ∷ a) (y ∷ b) [] e d = absurd (omega arith)
  three-length (x ∷ a) (y ∷ b) (z ∷ c) e d = ap suc (three-length a b c (omega arith) (omega arith))

  pub three-at : (a b c : List A) (k : ℕ) (d : A) → k < length a → length a ≡ length b → length b ≡ length c
      → get_or (of_three g a b c) k d ≡ g (get_or a k d) (get_or b k d) (get_or c k d)
  three-at [] b c k d h e f = absurd (omega arith)
  three-at (x ∷ a) [] c k d h e f = absurd (omega arith)
  three-at (x ∷ a) (y ∷ b) [] k d h e f = absurd (omega arith)
  three-at (x ∷ a) (y ∷ b) (z ∷ c) zero d h e f = refl
  three-at (x ∷ a) (y ∷ b) (z ∷ c) (suc k) d h e f = three-at a b c k d (omega arith) (omega arith) (omega arith)

  pub three-append : (a b c x y z : List A) → length a ≡ length b → length b ≡ length c
      → of_three g (a ++ x) (b ++ y) (c ++ z) ≡ of_three g a b c ++ of_three g x y z
  three-append [] [] [] x y z e f = refl
  three-append [] [] (w ∷ c) x y z e f = absurd (omega arith)
  three-append [] (v ∷ b) c x y z e f = absurd (omega arith)
  three-append (u ∷ a) [] c x y z e f = absurd (omega arith)
  three-append (u ∷ a) (v ∷ b) [] x y z e f = absurd (omega arith)
  three-append (u ∷ a) (v ∷ b) (w ∷ c) x y z e f = ap (λ (l : List A). g u v w ∷ l) (three-append a b c x y z (omega arith) (omega arith))

  pub three-take : (n : ℕ) (a b c : List A) → take n (of_three g a b c) ≡ of_three g (take n a) (take n b) (take n c)
  three-take zero a b c = refl
  three-take (suc n) [] b c = refl
  three-take (suc n) (x ∷ a) [] c = refl
  three-take (suc n) (x ∷ a) (y ∷ b) [] = refl
  three-take (suc n) (x ∷ a) (y ∷ b) (z ∷ c) = ap (λ (l : List A). g x y z ∷ l) (three-take n a b c)

  pub three-drop : (n : ℕ) (a b c : List A) → length a ≡ length b → length b ≡ length c
      → drop n (of_three g a b c) ≡ of_three g (drop n a) (drop n b) (drop n c)
  three-drop zero a b c e f = refl
  three-drop (suc n) [] [] [] e f = refl
  three-drop (suc n) [] [] (w ∷ c) e f = absurd (omega arith)
  three-drop (suc n) [] (v ∷ b) c e f = absurd (omega arith)
  three-drop (suc n) (x ∷ a) [] c e f = absurd (omega arith)
  three-drop (suc n) (x ∷ a) (y ∷ b) [] e f = absurd (omega arith)
  three-drop (suc n) (x ∷ a) (y ∷ b) (z ∷ c) e f = three-drop n a b c (omega arith) (omega arith)

-- of one list thrice
pub xored_self : (a : List ℕ) → xored a a a ≡ a
xored_self [] = refl
xored_self (x ∷ a) = ap₂ (λ (y : ℕ) (l : List ℕ). y ∷ l) (ap (λ (y : ℕ). bit_xor y x) (xor_self x) ∙ xor_zero_l x) (xored_self a)

-- of bits
pub xored-bits : (a b c : List ℕ) → all_bits a ≡ true → all_bits b ≡ true → all_bits c ≡ true → xored a b c ≡ a ⊕* b ⊕* c
xored-bits [] b c ha hb hc = refl
xored-bits (x ∷ a) [] c ha hb hc = refl
xored-bits (x ∷ a) (y ∷ b) [] ha hb hc = refl
xored-bits (x ∷ a) (y ∷ b) (z ∷ c) ha hb hc =
    let lx = legal_head 1 x a ha in
    let ly = legal_head 1 y b hb in
    let first = xor_of_bits x y lx ly in
    let both = xor_of_bits (bit_xor x y) z (omega (arith, first)) (legal_head 1 z c hc) in
    rw (both, first, xored-bits a b c (legal-tail 1 x a ha) (legal-tail 1 y b hb) (legal-tail 1 z c hc))

-- of words, and of their bits
module _ (width : ℕ) where
  word_bits : (x y z : ℕ) → bits_of width (bit_xor (bit_xor x y) z) ≡ bits_of width x ⊕* bits_of width y ⊕* bits_of width z
  word_bits x y z = bits-xor width (bit_xor x y) z ∙ ap (λ (l : List ℕ). l ⊕* bits_of width z) (bits-xor width x y)

  same : (x y : ℕ) → length (bits_of width x) ≡ length (bits_of width y)
  same x y = length-bits width x ∙ sym (length-bits width y)

  pub unpacked-xored : (a b c : List ℕ) → length a ≡ length b → length b ≡ length c
      → unpacked width (xored a b c) ≡ unpacked width a ⊕* unpacked width b ⊕* unpacked width c
  unfolding unpacked
  unpacked-xored [] b c e f = refl
  unpacked-xored (x ∷ a) [] c e f = absurd (omega arith)
  unpacked-xored (x ∷ a) (y ∷ b) [] e f = absurd (omega arith)
  unpacked-xored (x ∷ a) (y ∷ b) (z ∷ c) e f =
      let u = bits_of width x in
      let v = bits_of width y in
      let w = bits_of width z in
      let p = unpacked width a in
      let q = unpacked width b in
      let r = unpacked width c in
      ap₂ (λ (k l : List ℕ). k ++ l) (word_bits x y z) (unpacked-xored a b c (omega arith) (omega arith))
      ∙ sym (⊕*-append (u ⊕* v) w (p ⊕* q) r (⊕*-length u v (same x y) ∙ same x z))
      ∙ ap (λ (l : List ℕ). l ⊕* (w ++ r)) (sym (⊕*-append u v p q (same x y)))

-- of lists of n elements each, joined
pub joined-xored : (n : ℕ) (xs ys zs : List (List ℕ)) → length xs ≡ length ys → length ys ≡ length zs → All (Long n) xs → All (Long n) ys → All (Long n) zs
    → joined (lists_xored xs ys zs) ≡ xored (joined xs) (joined ys) (joined zs)
joined-xored n [] ys zs e f ha hb hc = refl
joined-xored n (a ∷ xs) [] zs e f ha hb hc = absurd (omega arith)
joined-xored n (a ∷ xs) (b ∷ ys) [] e f ha hb hc = absurd (omega arith)
joined-xored n (a ∷ xs) (b ∷ ys) (c ∷ zs) e f ha hb hc =
    let la = All-head (Long n) a xs ha in
    let lb = All-head (Long n) b ys hb in
    let lc = All-head (Long n) c zs hc in
    ap (λ (l : List ℕ). xored a b c ++ l)
    (joined-xored n xs ys zs (omega arith) (omega arith) (All-tail (Long n) a xs ha) (All-tail (Long n) b ys hb) (All-tail (Long n) c zs hc))
    ∙ sym (three-append _ a b c (joined xs) (joined ys) (joined zs) (la ∙ sym lb) (lb ∙ sym lc))

-- a function that takes the exclusive or of three lists with P to that of the three it gives does so in each place
module _ (P : List ℕ → Type 0) (F : List ℕ → List ℕ) (keeps : (a b c : List ℕ) → P a → P b → P c → F (xored a b c) ≡ xored (F a) (F b) (F c)) where
  pub map-xored : (xs ys zs : List (List ℕ)) → All P xs → All P ys → All P zs
      → map F (lists_xored xs ys zs) ≡ lists_xored (map F xs) (map F ys) (map F zs)
  map-xored [] ys zs ha hb hc = refl
  map-xored (a ∷ xs) [] zs ha hb hc = refl
  map-xored (a ∷ xs) (b ∷ ys) [] ha hb hc = refl
  map-xored (a ∷ xs) (b ∷ ys) (c ∷ zs) ha hb hc =
      ap₂ (λ (k : List ℕ) (l : List (List ℕ)). k ∷ l) (keeps a b c (All-head P a xs ha) (All-head P b ys hb) (All-head P c zs hc))
      (map-xored xs ys zs (All-tail P a xs ha) (All-tail P b ys hb) (All-tail P c zs hc))

-- what holds of the exclusive or of three with P holds in each place
module _ (P : List ℕ → Type 0) (again : (a b c : List ℕ) → P a → P b → P c → P (xored a b c)) where
  pub all-xored : (xs ys zs : List (List ℕ)) → All P xs → All P ys → All P zs → All P (lists_xored xs ys zs)
  all-xored [] ys zs ha hb hc = All-nil P
  all-xored (a ∷ xs) [] zs ha hb hc = All-nil P
  all-xored (a ∷ xs) (b ∷ ys) [] ha hb hc = All-nil P
  all-xored (a ∷ xs) (b ∷ ys) (c ∷ zs) ha hb hc =
      All-cons P (xored a b c) (lists_xored xs ys zs) (again a b c (All-head P a xs ha) (All-head P b ys hb) (All-head P c zs hc))
      (all-xored xs ys zs (All-tail P a xs ha) (All-tail P b ys hb) (All-tail P c zs hc))
