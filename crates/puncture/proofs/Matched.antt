-- Rate matching: the code's counter keeps the bits that 4.4.3.2 keeps, I - Δ of them; and its linearity.
use mathlib.Core.Path.{◌≡◌, refl, sym, ap, ◌∙◌}
use mathlib.Core.Bool.{true}
use mathlib.Core.List.{List, [], ◌∷◌}
use Prim.Native.Nat.{ℕ, ◌+◌, ◌-◌, ◌*◌, ◌/◌, ◌≤◌, ◌<◌}
use native.Mathlib.Nat.{mul-suc, mul-zero, add-mul-div_left, add-mul-div_right, div-eq_of_lt}
use native.Mathlib.Omega.{arith}
use borrow.Author.Tests.{le-leb, lt-ltb, le-ltb, leb-true, leb-false}
use lib.Dec.{leb, ltb}
use lib.ListN.{length}
use Rattle.bits.specs.Legal.{all_bits}
use Rattle.bits.specs.Sum.{◌⊕*◌}
use Rattle.bits.proofs.Cases.{by_cases}
use Rattle.bits.proofs.Legal.{legal_head, legal-tail}
use Rattle.puncture.specs.Puncture.{matched, rate_matched, counter_start, counted_from}

-- the counter is e + Δ - 1
matched-counted : (I Δ plus minus c : ℕ) (bits : List ℕ) → Δ ≤ I → c + minus + 1 ≡ plus + Δ → matched I Δ plus minus bits ≡ counted_from I Δ c bits
matched-counted I Δ plus minus c [] d e = refl
matched-counted I Δ plus minus c (b ∷ bs) d e =
    by_cases (leb Δ c)
    (λ t. let h : Δ ≤ c = leb-true Δ c t in
    rw (t, lt-ltb minus plus (omega arith), matched-counted I Δ plus (minus + Δ) (c - Δ) bs d (omega arith)))
    (λ f. let h : c < Δ = leb-false Δ c f in
    rw (f, le-ltb minus plus (omega arith), matched-counted I Δ (plus + I) (minus + Δ) (c + (I - Δ)) bs d (omega arith)))

pub rate_matched-counted : (I Δ : ℕ) (bits : List ℕ) → Δ ≤ I → rate_matched I Δ bits ≡ counted_from I Δ (counter_start Δ) bits
rate_matched-counted I Δ bits d = matched-counted I Δ 1 0 (counter_start Δ) bits d (omega arith)

-- each kept bit takes Δ from the counter, each deleted one adds I - Δ, and it stays below I
counted-length : (I Δ c : ℕ) (bits : List ℕ) → Δ ≤ I → c < I
    → (r : ℕ) × (r < I) × (c + (I - Δ) * length bits ≡ r + I * length (counted_from I Δ c bits))
counted-length I Δ c [] d h = (c, h, simp mul-zero)
counted-length I Δ c (b ∷ bs) d h =
    by_cases (leb Δ c)
    (λ t. let k : Δ ≤ c = leb-true Δ c t in
    let (r, low, e) = counted-length I Δ (c - Δ) bs d (omega arith) in
    (r, low, rw t (omega (arith, e, mul-suc (I - Δ) (length bs), mul-suc I (length (counted_from I Δ (c - Δ) bs))))))
    (λ f. let k : c < Δ = leb-false Δ c f in
    let (r, low, e) = counted-length I Δ (c + (I - Δ)) bs d (omega arith) in
    (r, low, rw f (omega (arith, e, mul-suc (I - Δ) (length bs)))))

pub rate_matched-length : (I Δ : ℕ) (bits : List ℕ) → Δ < I → length bits ≡ I → length (rate_matched I Δ bits) ≡ I - Δ
rate_matched-length I Δ bits d e =
    let n = length (counted_from I Δ Δ bits) in
    let (r, low, q) = counted-length I Δ Δ bits (omega arith) d in
    let q' : Δ + (I - Δ) * I ≡ r + I * n = ap (λ (k : ℕ). Δ + (I - Δ) * k) (sym e) ∙ q in
    let left : (Δ + (I - Δ) * I) / I ≡ Δ / I + (I - Δ) = add-mul-div_right Δ (I - Δ) (omega arith) in
    let right : (r + I * n) / I ≡ r / I + n = add-mul-div_left r n (omega arith) in
    let both : (Δ + (I - Δ) * I) / I ≡ (r + I * n) / I = ap (λ (k : ℕ). k / I) q' in
    ap length (rate_matched-counted I Δ bits (omega arith)) ∙ omega (arith, left, right, both, div-eq_of_lt d, div-eq_of_lt low)

matched-sum : (I Δ plus minus : ℕ) (a b : List ℕ) → length a ≡ length b → matched I Δ plus minus (a ⊕* b) ≡ matched I Δ plus minus a ⊕* matched I Δ plus minus b
matched-sum I Δ plus minus [] [] e = refl
matched-sum I Δ plus minus [] (y ∷ b) e = absurd (omega arith)
matched-sum I Δ plus minus (x ∷ a) [] e = absurd (omega arith)
matched-sum I Δ plus minus (x ∷ a) (y ∷ b) e =
    by_cases (ltb minus plus)
    (λ t. rw (t, matched-sum I Δ plus (minus + Δ) a b (omega arith)))
    (λ f. rw (f, matched-sum I Δ (plus + I) (minus + Δ) a b (omega arith)))

pub rate_matched-sum : (I Δ : ℕ) (a b : List ℕ) → length a ≡ length b → rate_matched I Δ (a ⊕* b) ≡ rate_matched I Δ a ⊕* rate_matched I Δ b
rate_matched-sum I Δ a b e = matched-sum I Δ 1 0 a b e

matched-bits : (I Δ plus minus : ℕ) (l : List ℕ) → all_bits l ≡ true → all_bits (matched I Δ plus minus l) ≡ true
matched-bits I Δ plus minus [] h = refl
matched-bits I Δ plus minus (x ∷ l) h =
    let rest = legal-tail 1 x l h in
    by_cases (ltb minus plus)
    (λ t. rw (t, le-leb x 1 (legal_head 1 x l h)) (matched-bits I Δ plus (minus + Δ) l rest))
    (λ f. rw f (matched-bits I Δ (plus + I) (minus + Δ) l rest))

pub rate_matched-bits : (I Δ : ℕ) (l : List ℕ) → all_bits l ≡ true → all_bits (rate_matched I Δ l) ≡ true
rate_matched-bits I Δ l h = matched-bits I Δ 1 0 l h
