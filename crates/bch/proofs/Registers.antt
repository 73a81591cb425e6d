-- The register does the long division: fed with us, it comes to hold the remainder of us, times x^d, where d is its length.
use mathlib.Core.Path.{◌≡◌, refl, sym, ap, ap₂, ◌∙◌}
use mathlib.Core.Bool.{true}
use mathlib.Core.List.{List, [], ◌∷◌, ◌++◌}
use Prim.Native.Nat.{ℕ, zero, suc, ◌+◌, ◌-◌, ◌*◌, ◌%◌, ◌≤◌, ◌<◌}
use native.Mathlib.Omega.{arith}
use lib.ListN.{length, get_or, take, drop, length-append, length-map, length-drop, length-replicate}
use lib.Seq.{length-take-le}
use Rattle.bits.specs.Legal.{all_bits}
use Rattle.bits.specs.Sum.{◌⊕◌, ◌⊕*◌}
use Rattle.bits.proofs.Legal.{legal_head, legal-tail, legal-drop, legal-append, legal_repeated}
use Rattle.bits.proofs.Sums.{⊕*-length, ⊕*-bits}
use Rattle.bch.specs.Division.{add_front, scaled, divided, remainder}
use Rattle.bch.specs.Bch.{zeros}
use Rattle.bch.specs.Register.{fed, register_from}

-- zeros
pub zeros-length : (n : ℕ) → length (zeros n) ≡ n
zeros-length n = length-replicate {A = ℕ} n 0

pub zeros-sum : (l : List ℕ) → all_bits l ≡ true → zeros (length l) ⊕* l ≡ l
zeros-sum [] h = refl
zeros-sum (x ∷ l) h =
    let low = legal_head 1 x l h in
    ap₂ (λ (n : ℕ) (k : List ℕ). n ∷ k) (omega arith) (zeros-sum l (legal-tail 1 x l h))

pub sum_itself : (l : List ℕ) → l ⊕* l ≡ zeros (length l)
sum_itself [] = refl
sum_itself (x ∷ l) = ap₂ (λ (n : ℕ) (k : List ℕ). n ∷ k) (omega arith) (sum_itself l)

pub same_bits : (a b : List ℕ) → all_bits a ≡ true → all_bits b ≡ true → a ⊕* b ≡ zeros (length a) → length a ≡ length b → a ≡ b
same_bits [] [] ha hb z e = refl
same_bits [] (y ∷ b) ha hb z e = absurd (omega arith)
same_bits (x ∷ a) [] ha hb z e = absurd (omega arith)
same_bits (x ∷ a) (y ∷ b) ha hb z e =
    let low = legal_head 1 x a ha in
    let low' = legal_head 1 y b hb in
    let first : (x + y) % 2 ≡ 0 = ap (λ (l : List ℕ). get_or l 0 0) z in
    ap₂ (λ (n : ℕ) (l : List ℕ). n ∷ l) (omega arith) (same_bits a b (legal-tail 1 x a ha) (legal-tail 1 y b hb) (ap (drop 1) z) (omega arith))

add-zeros : (l : List ℕ) (n : ℕ) → all_bits l ≡ true → add_front l (zeros n) ≡ l
add-zeros l zero h = refl
add-zeros [] (suc n) h = refl
add-zeros (x ∷ l) (suc n) h =
    let low = legal_head 1 x l h in
    ap₂ (λ (n : ℕ) (k : List ℕ). n ∷ k) (omega arith) (add-zeros l n (legal-tail 1 x l h))

-- the register keeps its length, and bits
module _ (q : List ℕ) where
  shifted : (h : ℕ) (r : List ℕ) (u : ℕ) → length (h ∷ r) ≡ length q → length (r ++ (0 ∷ [])) ≡ length (scaled (h ⊕ u) q)
  shifted h r u e = omega (arith, length-append r (0 ∷ []), length-map q (λ c. (h ⊕ u) * c))

  fed-length : (r : List ℕ) (u : ℕ) → length r ≡ length q → length (fed q r u) ≡ length q
  fed-length [] u e = e
  fed-length (h ∷ r) u e = ⊕*-length (r ++ (0 ∷ [])) (scaled (h ⊕ u) q) (shifted h r u e) ∙ omega (arith, length-append r (0 ∷ []))

  pub register_length : (r us : List ℕ) → length r ≡ length q → length (register_from q r us) ≡ length q
  register_length r [] e = e
  register_length r (u ∷ us) e = register_length (fed q r u) us (fed-length r u e)

  fed-bits : (r : List ℕ) (u : ℕ) → all_bits (fed q r u) ≡ true
  fed-bits [] u = refl
  fed-bits (h ∷ r) u = ⊕*-bits (r ++ (0 ∷ [])) (scaled (h ⊕ u) q)

  pub register_bits : (r us : List ℕ) → all_bits r ≡ true → all_bits (register_from q r us) ≡ true
  register_bits r [] h = h
  register_bits r (u ∷ us) h = register_bits (fed q r u) us (fed-bits r u)

  pub register_append : (r a b : List ℕ) → register_from q r (a ++ b) ≡ register_from q (register_from q r a) b
  register_append r [] b = refl
  register_append r (u ∷ a) b = register_append (fed q r u) a b

-- what the register holds stands in the front of what is left to divide
add_same : (c r : List ℕ) → length c ≡ length r → add_front c r ≡ c ⊕* r
add_same [] [] e = refl
add_same [] (y ∷ r) e = absurd (omega arith)
add_same (x ∷ c) [] e = absurd (omega arith)
add_same (x ∷ c) (y ∷ r) e = ap (λ (l : List ℕ). x ⊕ y ∷ l) (add_same c r (omega arith))

add_twice : (p t s : List ℕ) → length s ≡ suc (length t) → add_front (add_front p t) s ≡ add_front p ((t ++ (0 ∷ [])) ⊕* s)
add_twice p t [] e = absurd (omega arith)
add_twice [] [] (z ∷ s) e = refl
add_twice [] (y ∷ t) (z ∷ s) e = refl
add_twice (x ∷ p) [] (z ∷ []) e = ap (λ (n : ℕ). n ∷ p) (omega arith)
add_twice (x ∷ p) [] (z ∷ w ∷ s) e = absurd (omega arith)
add_twice (x ∷ p) (y ∷ t) (z ∷ s) e = ap₂ (λ (n : ℕ) (l : List ℕ). n ∷ l) (omega arith) (add_twice p t s (omega arith))

module _ (q : List ℕ) (some : 0 < length q) where
  pub divides : (us c r : List ℕ) → length r ≡ length q → length c ≡ length q → divided q (length us) (add_front (us ++ c) r) ≡ c ⊕* register_from q r us
  divides [] c r er ec = add_same c r (ec ∙ sym er)
  divides (u ∷ us) c [] er ec = absurd (omega arith)
  divides (u ∷ us) c (h ∷ r) er ec =
      let turn : u ⊕ h ≡ h ⊕ u = omega arith in
      ap (λ (n : ℕ). divided q (length us) (add_front (add_front (us ++ c) r) (scaled n q))) turn
      ∙ ap (divided q (length us)) (add_twice (us ++ c) r (scaled (h ⊕ u) q) (length-map q (λ x. (h ⊕ u) * x) ∙ sym er))
      ∙ divides us c (fed q (h ∷ r) u) (fed-length q (h ∷ r) u er) ec

  divides-zeros : (us c : List ℕ) → length c ≡ length q → all_bits (us ++ c) ≡ true
      → divided q (length us) (us ++ c) ≡ c ⊕* register_from q (zeros (length q)) us
  divides-zeros us c ec h =
      ap (divided q (length us)) (sym (add-zeros (us ++ c) (length q) h)) ∙ divides us c (zeros (length q)) (zeros-length (length q)) ec

  pub remainder_is : (us c : List ℕ) → length c ≡ length q → all_bits (us ++ c) ≡ true
      → remainder q (us ++ c) ≡ c ⊕* register_from q (zeros (length q)) us
  remainder_is us c ec h =
      let n : length (us ++ c) - length q ≡ length us = omega (arith, length-append us c) in
      ap (λ (k : ℕ). divided q k (us ++ c)) n ∙ divides-zeros us c ec h

  -- zeros before change nothing
  still : (n : ℕ) (s : List ℕ) → length s ≡ suc n → (zeros n ++ (0 ∷ [])) ⊕* scaled 0 s ≡ zeros (suc n)
  still n [] e = absurd (omega arith)
  still zero (c ∷ []) e = ap (λ (n : ℕ). n ∷ []) (omega arith)
  still zero (c ∷ d ∷ s) e = absurd (omega arith)
  still (suc n) (c ∷ s) e = ap₂ (λ (n : ℕ) (l : List ℕ). n ∷ l) (omega arith) (still n s (omega arith))

  pub zeros-before : (n : ℕ) (us : List ℕ) → register_from q (zeros (length q)) (zeros n ++ us) ≡ register_from q (zeros (length q)) us
  zeros-before zero us = refl
  zeros-before (suc n) us =
      let e : length q ≡ suc (length q - 1) = omega arith in
      ap (λ (r : List ℕ). register_from q r (zeros n ++ us)) (ap (λ (k : ℕ). fed q (zeros k) 0) e ∙ still (length q - 1) q e ∙ ap zeros (sym e)) ∙ zeros-before n us

  -- Several bits at once: what leaves is fed to a register of zeros, what stays moves up.
  front-zeros : (k : ℕ) (r : List ℕ) → length r ≤ k → all_bits r ≡ true → add_front (zeros k) r ≡ r ++ zeros (k - length r)
  front-zeros k [] e h = let n : k - 0 ≡ k = omega arith in rw n
  front-zeros zero (x ∷ r) e h = absurd (omega arith)
  front-zeros (suc k) (x ∷ r) e h =
      let low = legal_head 1 x r h in
      let n : suc k - suc (length r) ≡ k - length r = omega arith in
      rw n (ap₂ (λ (n : ℕ) (l : List ℕ). n ∷ l) (omega arith) (front-zeros k r (omega arith) (legal-tail 1 x r h)))

  parted : (us r : List ℕ) (k : ℕ) → length us ≤ length r → length r ≤ length us + k → all_bits r ≡ true
      → add_front (us ++ zeros k) r ≡ (us ⊕* take (length us) r) ++ (drop (length us) r ++ zeros (length us + k - length r))
  parted [] r k low high h =
      let n : k - length r ≡ 0 + k - length r = omega arith in
      front-zeros k r (omega arith) h ∙ ap (λ (n : ℕ). r ++ zeros n) n
  parted (u ∷ us) [] k low high h = absurd (omega arith)
  parted (u ∷ us) (x ∷ r) k low high h =
      let n : suc (length us) + k - suc (length r) ≡ length us + k - length r = omega arith in
      rw n (ap (λ (l : List ℕ). u ⊕ x ∷ l) (parted us r k (omega arith) (omega arith) (legal-tail 1 x r h)))

  pub several : (us r : List ℕ) → length r ≡ length q → length us ≤ length q → all_bits r ≡ true
      → register_from q r us ≡ (drop (length us) r ++ zeros (length us)) ⊕* register_from q (zeros (length q)) (us ⊕* take (length us) r)
  several us r er low h =
      let n = length us in
      let d = length q in
      let front = us ⊕* take n r in
      let back = drop n r ++ zeros n in
      let held = register_from q r us in
      let left : n + d - length r ≡ n = omega arith in
      let long : length (take n r) ≡ n = length-take-le n r (omega arith) in
      let many : length front ≡ n = ⊕*-length us (take n r) (sym long) in
      let behind : length back ≡ d = omega (arith, length-append (drop n r) (zeros n), length-drop n r, zeros-length n) in
      let bits = legal-append 1 front back (⊕*-bits us (take n r)) (legal-append 1 (drop n r) (zeros n) (legal-drop 1 n r h) (legal_repeated 1 n 0 (omega arith))) in
      sym (ap (λ (k : ℕ). zeros k ⊕* held) (sym (register_length q r us er)) ∙ zeros-sum held (register_bits q r us h))
      ∙ sym (divides us (zeros d) r er (zeros-length d))
      ∙ ap (divided q n) (parted us r d (omega arith) (omega arith) h ∙ ap (λ (k : ℕ). front ++ (drop n r ++ zeros k)) left)
      ∙ ap (λ (k : ℕ). divided q k (front ++ back)) (sym many)
      ∙ divides-zeros front back behind bits
