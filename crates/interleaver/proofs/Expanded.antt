-- The expanded interleaver: its entries, what is left of them at a position, the memories that hold it, and that formats of one size have one.
use mathlib.Core.Path.{◌≡◌, refl, sym, ap, ◌∙◌}
use mathlib.Core.Bool.{true}
use mathlib.Core.List.{List, ◌∷◌, ◌++◌}
use Prim.Native.Nat.{ℕ, zero, suc, ◌+◌, ◌-◌, ◌≤◌, ◌<◌}
use native.Mathlib.Omega.{arith}
use lib.ListN.{length, get_or, take, drop, take-append-drop, length-take}
use lib.Seq.{get_or-take, take_at}
use Rattle.bits.proofs.Same.{same_self, same-equal}
use Rattle.acm.specs.Formats.{is_format, format_of}
use Rattle.acm.proofs.Laws.{format-sound}
use Rattle.annex_c.specs.AnnexC.{size_of}
use Rattle.interleaver.specs.Interleaver.{permuted, π}
use Rattle.interleaver.specs.Expanded.{expanded_from, expanded, expands}

module _ (ρ : ℕ → ℕ) where
  pub expanded-length : (i n : ℕ) → length (expanded_from ρ i n) ≡ n
  expanded-length i zero = refl
  expanded-length i (suc n) = ap suc (expanded-length (i + 1) n)

  pub expanded-at : (i n j d : ℕ) → j < n → get_or (expanded_from ρ i n) j d ≡ ρ (i + j)
  expanded-at i zero j d h = absurd (omega arith)
  expanded-at i (suc n) zero d h =
      let z : i ≡ i + 0 = omega arith in
      ap ρ z
  expanded-at i (suc n) (suc j) d h =
      let z : i + 1 + j ≡ i + suc j = omega arith in
      expanded-at (i + 1) n j d (omega arith) ∙ ap ρ z

  pub expanded-append : (i n m : ℕ) → expanded_from ρ i (n + m) ≡ expanded_from ρ i n ++ expanded_from ρ (i + n) m
  expanded-append i zero m =
      let e : i ≡ i + 0 = omega arith in
      let d : 0 + m ≡ m = omega arith in
      ap (expanded_from ρ i) d ∙ ap (λ (k : ℕ). expanded_from ρ k m) e
  expanded-append i (suc n) m =
      let e : i + 1 + n ≡ i + suc n = omega arith in
      let d : suc n + m ≡ suc (n + m) = omega arith in
      ap (expanded_from ρ i) d
      ∙ ap (λ (l : List ℕ). ρ i ∷ l) (expanded-append (i + 1) n m ∙ ap (λ (k : ℕ). expanded_from ρ (i + 1) n ++ expanded_from ρ k m) e)

  -- of the entries up to n, those from i on
  module _ (n i : ℕ) where
    pub expanded-split : (m : ℕ) → i ≤ m → m ≤ n → expanded_from ρ i (n - i) ≡ expanded_from ρ i (m - i) ++ expanded_from ρ m (n - m)
    expanded-split m h k =
        let e : n - i ≡ m - i + (n - m) = omega arith in
        let d : i + (m - i) ≡ m = omega arith in
        ap (expanded_from ρ i) e ∙ expanded-append i (m - i) (n - m) ∙ ap (λ (j : ℕ). expanded_from ρ i (m - i) ++ expanded_from ρ j (n - m)) d

  pub expanded-all : (n : ℕ) → expanded_from ρ 0 (n - 0) ≡ expanded_from ρ 0 n
  expanded-all n =
      let e : n - 0 ≡ n = omega arith in
      ap (expanded_from ρ 0) e

pub expanded-long : (f : ℕ) → length (expanded f) ≡ (format_of f).i
unfolding expanded
expanded-long f = expanded-length (π f) 0 (format_of f).i

-- a memory that holds it
module _ (f : ℕ) (memory : List ℕ) (holds : expands f memory ≡ true) where
  front : take (format_of f).i memory ≡ expanded f
  unfolding expands
  front = same-equal (take (format_of f).i memory) (expanded f) holds

  pub holds-room : (format_of f).i ≤ length memory
  holds-room = omega (arith, sym (length-take (format_of f).i memory) ∙ ap length front ∙ expanded-long f)

  pub holds-entry : (i : ℕ) → i < (format_of f).i → get_or memory i 0 ≡ π f i
  unfolding expanded
  holds-entry i h =
      let z : 0 + i ≡ i = omega arith in
      sym (get_or-take (format_of f).i memory i 0 h) ∙ ap (λ (l : List ℕ). get_or l i 0) front ∙ expanded-at (π f) 0 (format_of f).i i 0 h ∙ ap (π f) z

  -- is what building it there would leave
  pub holds_already : memory ≡ expanded f ++ drop (format_of f).i memory
  holds_already = sym (take-append-drop (format_of f).i memory) ∙ ap (λ (l : List ℕ). l ++ drop (format_of f).i memory) front

-- what reading an entry needs
pub ruleset entries_held = (holds-room, holds-entry)

-- what is built for one format holds it for each of its size
module _ (f g : ℕ) (known-f : is_format f ≡ true) (known-g : is_format g ≡ true) (sizes : (format_of f).i ≡ (format_of g).i) where
  pub one_interleaver : π f ≡ π g
  unfolding π
  one_interleaver =
      let w : (format_of f).w ≡ (format_of g).w = omega (arith, (format-sound f known-f).banks, (format-sound g known-g).banks) in
      ap (λ (w : ℕ). permuted (size_of w).α (size_of w).β) w

  pub built_holds : (rest : List ℕ) → expands g (expanded f ++ rest) ≡ true
  unfolding expands expanded
  built_holds rest =
      rw (take_at (expanded_from (π f) 0 (format_of f).i) rest (format_of g).i (expanded-length (π f) 0 (format_of f).i ∙ sizes), one_interleaver, sizes)
      (same_self (expanded_from (π g) 0 (format_of g).i))
