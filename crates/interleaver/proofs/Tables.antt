-- A table of multiples is made by adding W: the banks below a number have theirs, and then the table is laid out twice.
use mathlib.Core.Path.{◌≡◌, sym, ap, ◌∙◌}
use mathlib.Core.List.{List, ◌++◌}
use Prim.Native.Nat.{ℕ, ◌+◌, ◌*◌, ◌-◌, ◌%◌, ◌≤◌, ◌<◌}
use native.Mathlib.Nat.{add-mod, mod-eq_of_lt, mod-eq-sub-mod}
use native.Mathlib.Omega.{arith}
use borrow.Author.Tests.{ltb-true, ltb-false}
use lib.Dec.{ltb}
use lib.ListN.{length, get_or, set, get_or-append}
use Rattle.std.specs.List.{SameBelow, CopiedTo}
use Rattle.bits.proofs.Cases.{by_cases}
use Rattle.bits.proofs.Lists.{entry_set}
use Rattle.acm.specs.Formats.{M}
use Rattle.interleaver.specs.Walk.{Multiples}

module _ (W P : ℕ) where
  abbrev pub Filled : List ℕ → ℕ → Type 0
  Filled out bank = (k : ℕ) → k < bank → get_or out k 0 ≡ W * k % P

  -- W more, modulo P
  pub multiple-next : (bank : ℕ) → (W * bank % P + W % P) % P ≡ W * (bank + 1) % P
  multiple-next bank =
      let e : W * bank + W ≡ W * (bank + 1) = omega arith in
      sym (add-mod (W * bank) W P) ∙ ap (λ (n : ℕ). n % P) e

  pub filled_next : (out : List ℕ) (bank m : ℕ) → bank < length out → m ≡ W * bank % P → Filled out bank → Filled (set out bank m) (bank + 1)
  filled_next out bank m h is filled k l =
      entry_set out bank m k _ h (λ e. is ∙ ap (λ (b : ℕ). W * b % P) (sym e)) (λ n. filled k (omega arith))

  -- the first half copied to the second
  pub filled_twice : (half rest out : List ℕ) → length half ≡ M → length out ≡ 2 * M → SameBelow (half ++ rest) out M → CopiedTo (half ++ rest) out 0 M M
      → Filled half M → Multiples W P out
  filled_twice half rest out h long first second filled = record {
    long = long;
    entry = λ j l. by_cases (ltb j M)
        (λ t. let low : j < M = ltb-true j M t in rw (mod-eq_of_lt low) (first j 0 low ∙ get_or-append half rest 0 j (omega arith) ∙ filled j low))
        (λ f. let high : M ≤ j = ltb-false j M f in
        let low : j - M < M = omega arith in
        let z : 0 + (j - M) ≡ j - M = omega arith in
        rw (mod-eq-sub-mod high, mod-eq_of_lt low) (
        second j 0 high (omega arith) ∙ ap (λ (k : ℕ). get_or (half ++ rest) k 0) z ∙ get_or-append half rest 0 (j - M) (omega arith) ∙ filled (j - M) low
        ));
  }
