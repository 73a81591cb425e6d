-- One column on, an interleaved position is W more, modulo I. So I entries are the expanded interleaver exactly if the first W are its first
-- column, and each other is what the one a column before it says.
use mathlib.Core.Path.{◌≡◌, refl, sym, ap, ◌∙◌}
use mathlib.Core.Bool.{true, false, false≢true}
use mathlib.Core.List.{List, [], ◌∷◌, map}
use Prim.Native.Nat.{ℕ, zero, suc, ◌+◌, ◌*◌, ◌-◌, ◌/◌, ◌%◌, ◌≤◌, ◌<◌}
use native.Mathlib.Nat.{div-add-mod, mul-le-mul_left}
use native.Mathlib.Omega.{arith}
use borrow.Author.Tests.{lt-ltb, le-ltb, ltb-true, ltb-false}
use lib.Dec.{ltb}
use lib.ListN.{length, get_or, take, drop, length-drop, length-map, get_or-map}
use lib.Seq.{get_or-take, get_or-drop, take_at, ext_get_or, length-take-le}
use Rattle.bits.specs.Same.{same}
use Rattle.bits.proofs.Cases.{by_cases}
use Rattle.bits.proofs.Same.{same_self, same-equal}
use Rattle.acm.specs.Formats.{M}
use Rattle.annex_c.specs.AnnexC.{Vectors}
use Rattle.interleaver.specs.Interleaver.{permuted}
use Rattle.interleaver.specs.Expanded.{expanded_from}
use Rattle.interleaver.proofs.Expanded.{expanded-length, expanded-at, expanded-all, expanded-split}
use Rattle.interleaver.proofs.Laws.{row_low, row_of, bank_of}
use Rattle.entries.specs.Columns.{column_on}

-- the next bank
bank_on : (W s a : ℕ) → a < W → W * ((s + 1) % M) + a ≡ column_on W (M * W - W) (W * (s % M) + a)
bank_on W s a h =
    let bank = s % M in
    by_cases
    (ltb (bank + 1) M)
    (λ t.
    let more : bank + 1 < M = ltb-true (bank + 1) M t in
    let on : (s + 1) % M ≡ bank + 1 = omega arith in
    rw (on, lt-ltb (W * bank + a) (M * W - W) (omega (arith, mul-le-mul_left {m = bank + 1} {n = M - 1} W (omega arith)))) (omega arith))
    (λ f.
    let last : bank ≡ M - 1 = omega (arith, ltb-false (bank + 1) M f) in
    let on : (s + 1) % M ≡ 0 = omega arith in
    rw (on, last, le-ltb (W * (M - 1) + a) (M * W - W) (omega arith)) (omega arith))

-- what is read inside a list does not hang on what stands for the outside
inside_any : (l : List ℕ) (i d e : ℕ) → i < length l → get_or l i d ≡ get_or l i e
inside_any [] i d e h = absurd (omega arith)
inside_any (x ∷ l) zero d e h = refl
inside_any (x ∷ l) (suc i) d e h = inside_any l i d e (omega arith)

pub differ : (a b : List ℕ) → (a ≡ b → ⊥) → same a b ≡ false
differ a b n = by_cases (same a b) (λ t. absurd (n (same-equal a b t))) (λ f. f)

module _ (α β : List ℕ) (v : Vectors α β) where
  abbrev W : ℕ
  W = length α

  abbrev ρ : ℕ → ℕ
  ρ = permuted α β

  abbrev on : ℕ → ℕ
  on = column_on W (M * W - W)

  column-next : (i : ℕ) → W + i < M * W → ρ (W + i) ≡ on (ρ i)
  unfolding permuted
  column-next i h =
      let row = i % W in
      let low : row < W = row_low W i (omega arith) in
      let there : W + i ≡ W * (i / W + 1) + row = omega (arith, div-add-mod i W) in
      let sum : i / W + 1 + get_or β row 0 ≡ i / W + get_or β row 0 + 1 = omega arith in
      rw (there, row_of W (i / W + 1) row low, bank_of W (i / W + 1) row low, sum) (bank_on W (i / W + get_or β row 0) (get_or α row 0) (v.α_range row low))

  module _ (memory : List ℕ) (long : length memory ≡ M * W) where
    abbrev E : List ℕ
    E = expanded_from ρ 0 (length memory)

    first_of : take W E ≡ expanded_from ρ 0 W
    first_of =
        ap (take W) (sym (expanded-all ρ (length memory)) ∙ expanded-split ρ (length memory) 0 W (omega arith) (omega (arith, long)))
        ∙ rw (expanded-all ρ W) (take_at (expanded_from ρ 0 W) (expanded_from ρ W (length memory - W)) W (expanded-length ρ 0 W))

    -- each entry of the expanded interleaver is what the one a column before it says
    on_of : drop W E ≡ map on (take (length memory - W) E)
    on_of =
        let full = expanded-length ρ 0 (length memory) in
        let last = length memory - W in
        let behind : length (drop W E) ≡ last = length-drop W E ∙ omega (arith, full) in
        let before : length (map on (take last E)) ≡ last = length-map (take last E) on ∙ length-take-le last E (omega (arith, full)) in
        ext_get_or (on 0) (drop W E) (map on (take last E)) (behind ∙ sym before)
        (λ i h.
        let here : 0 + (W + i) ≡ W + i = omega arith in
        let back : ρ i ≡ ρ (0 + i) = ap ρ (omega arith) in
        get_or-drop W E i (on 0)
        ∙ expanded-at ρ 0 (length memory) (W + i) (on 0) (omega (arith, behind))
        ∙ ap ρ here
        ∙ column-next i (omega (arith, behind, long))
        ∙ ap on (back ∙ sym (expanded-at ρ 0 (length memory) i 0 (omega (arith, behind))) ∙ sym (get_or-take last E i 0 (omega (arith, behind))))
        ∙ sym (get_or-map on (take last E) i 0))

    -- entries of which this is so, and the first W of which are right, are right
    module _ (first : take W memory ≡ expanded_from ρ 0 W) (rest : drop W memory ≡ map on (take (length memory - W) memory)) where
      right_first : (i : ℕ) → i < W → get_or memory i 0 ≡ ρ i
      right_first i h =
          let here : 0 + i ≡ i = omega arith in
          sym (get_or-take W memory i 0 h) ∙ ap (λ (l : List ℕ). get_or l i 0) first ∙ expanded-at ρ 0 W i 0 h ∙ ap ρ here

      right_on : (i : ℕ) → W + i < length memory → get_or memory i 0 ≡ ρ i → get_or memory (W + i) 0 ≡ ρ (W + i)
      right_on i h e =
          let last = length memory - W in
          inside_any memory (W + i) 0 (on 0) h
          ∙ sym (get_or-drop W memory i (on 0))
          ∙ ap (λ (l : List ℕ). get_or l i (on 0)) rest
          ∙ get_or-map on (take last memory) i 0
          ∙ ap on (get_or-take last memory i 0 (omega arith) ∙ e)
          ∙ sym (column-next i (omega (arith, long)))

      right_below : (bound i : ℕ) → i < bound → i < length memory → get_or memory i 0 ≡ ρ i
      right_below zero i h k = absurd (omega arith)
      right_below (suc bound) i h k =
          by_cases
          (ltb i W)
          (λ t. right_first i (ltb-true i W t))
          (λ f.
          let far : W ≤ i = ltb-false i W f in
          let there : W + (i - W) ≡ i = omega arith in
          ap (λ (j : ℕ). get_or memory j 0) (sym there)
          ∙ right_on (i - W) (omega arith) (right_below bound (i - W) (omega (arith, long)) (omega arith))
          ∙ ap ρ there)

      all_right : memory ≡ E
      all_right =
          ext_get_or 0 memory E (sym (expanded-length ρ 0 (length memory)))
          (λ i h.
          let here : ρ i ≡ ρ (0 + i) = ap ρ (omega arith) in
          right_below (length memory) i h h ∙ here ∙ sym (expanded-at ρ 0 (length memory) i 0 h))

    -- so the entries are compared by columns
    pub first_wrong : same (take W memory) (expanded_from ρ 0 W) ≡ false → false ≡ same memory E
    first_wrong n =
        by_cases
        (same memory E)
        (λ t. absurd (false≢true (sym n ∙ rw (same-equal memory E t, first_of) (same_self (expanded_from ρ 0 W)))))
        (λ f. sym f)

    pub by_columns : same (take W memory) (expanded_from ρ 0 W) ≡ true
        → same (drop W memory) (map (column_on W (length memory - W)) (take (length memory - W) memory)) ≡ same memory E
    by_columns t =
        let rest = map on (take (length memory - W) memory) in
        ap (λ (n : ℕ). same (drop W memory) (map (column_on W (n - W)) (take (length memory - W) memory))) long
        ∙ by_cases
        (same (drop W memory) rest)
        (λ r. r ∙ sym (rw (← all_right (same-equal _ _ t) (same-equal _ _ r)) (same_self memory)))
        (λ f. f ∙ sym (differ memory E (λ e. false≢true (sym f ∙ rw (ap (drop W) e ∙ on_of ∙ ap (λ (l : List ℕ). map on (take (length memory - W) l)) (sym e)) (same_self rest)))))
