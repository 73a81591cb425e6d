-- A generator turns each symbol as its place asks, and a call that passes its checks answers the symbols' points.
use mathlib.Core.Path.{◌≡◌, refl, sym, ap, ap₂, ◌∙◌}
use mathlib.Core.List.{List, [], ◌∷◌, ◌++◌}
use Prim.Native.Nat.{ℕ, ◌+◌, ◌*◌, ◌≤◌, ◌<◌}
use native.Mathlib.Omega.{arith}
use lib.Ieee.{Float}
use lib.ListN.{length, get_or, drop, set, drop_of_length-le}
use Rattle.std.specs.Prelude.{Option, Some, None, option_map}
use Rattle.bits.specs.Checks.{passed}
use Rattle.bits.proofs.Fill.{Left, left_as, left_end, left_store_two}
use Rattle.bits.proofs.Lists.{drop-next}
use Rattle.bits.proofs.Passed.{when_passed}
use Rattle.constellation.specs.declared.Point.{Point}
use Rattle.constellation.specs.Points.{point_of, turned}
use Rattle.gold.specs.declared.steps.Generator.{Generator}
use Rattle.gold.specs.Generator.{later}
use Rattle.gold.proofs.Generators.{generator-later, generator-turns}
use Rattle.waveform.specs.Generators.{generated, generated_coordinates, generator_of}
use Rattle.waveform.specs.Waveform.{Answer, coordinates, origin, places, pointed, point_number, scrambled, symbol_point}

pub generated-scrambled : (code : Option ℕ) (i : ℕ) (p : Point) → i < places → generated (generator_of code i) p ≡ scrambled code i p
generated-scrambled None i p h = refl
generated-scrambled (Some n) i p h = ap (λ k. turned k p) (generator-turns n i (omega arith))

later-generator : (code : Option ℕ) (i : ℕ) → option_map later (generator_of code i) ≡ generator_of code (i + 1)
later-generator None i = refl
later-generator (Some n) i = ap Some (generator-later n i)

pub generated_is : (code : Option ℕ) (i : ℕ) (slots : List ℕ) → i + length slots ≤ places
    → generated_coordinates (generator_of code i) slots ≡ coordinates code i slots
unfolding generated_coordinates coordinates
generated_is code i [] h = refl
generated_is code i (slot ∷ slots) h =
    ap₂ (λ p l. p.i ∷ p.q ∷ l) (generated-scrambled code i (point_of slot) (omega arith))
    (ap (λ g. generated_coordinates g slots) (later-generator code i) ∙ generated_is code (i + 1) slots (omega arith))

pub answered : (f slot : ℕ) (code : Option ℕ) (i : ℕ) (p : Point) → passed ≡ point_number f slot code i → p ≡ symbol_point code i slot
    → ◌≡◌ {A = Answer} record { number = passed; point = p } (pointed f slot code i)
answered f slot code i p e is =
    ap₂ (λ n p. record { number = n; point = p }) e (is ∙ when_passed (point_number f slot code i) (symbol_point code i slot) origin (sym e))

generated_length : (g : Option Generator) (slots : List ℕ) → length (generated_coordinates g slots) ≡ 2 * length slots
unfolding generated_coordinates
generated_length g [] = refl
generated_length g (slot ∷ slots) = omega (arith, generated_length (option_map later g) slots)

-- before symbol k the coordinates from its own on are left to store, by the generator g
abbrev pub SymbolsLeft : Option Generator → List ℕ → List Float → List Float → ℕ → Option Generator → Type 0
SymbolsLeft first slots out₀ out k g = Left out₀ 0 (generated_coordinates first slots) out (2 * k) (generated_coordinates g (drop k slots))

pub symbol_stored : {out₀ out : List Float} {k : ℕ} (first g : Option Generator) (p : Point) (slots : List ℕ) → k < length slots
    → p ≡ generated g (point_of (get_or slots k 0)) → SymbolsLeft first slots out₀ out k g
    → SymbolsLeft first slots out₀ (set (set out (2 * k) p.i) (2 * k + 1) p.q) (k + 1) (option_map later g)
unfolding generated_coordinates
symbol_stored {k = k} first g p slots h is l =
    let more : 2 * k + 2 ≡ 2 * (k + 1) = omega arith in
    rw (is, sym more) (left_store_two (rw (drop-next slots k h) at l))

pub symbols_stored : {out₀ out : List Float} {k : ℕ} (first g : Option Generator) (slots : List ℕ) → 2 * length slots ≤ length out₀ → length slots ≤ k
    → SymbolsLeft first slots out₀ out k g → out ≡ generated_coordinates first slots ++ drop (2 * length slots) out₀
unfolding generated_coordinates
symbols_stored {out₀} {k = k} first g slots room h l =
    let long = generated_length first slots in
    left_end (omega (arith, long)) (left_as (ap (generated_coordinates g) (drop_of_length-le slots h)) l)
    ∙ ap (λ n. generated_coordinates first slots ++ drop n out₀) long
