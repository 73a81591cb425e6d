use mathlib.Core.Path.{◌≡◌, refl, sym, ap, ◌∙◌}
use mathlib.Core.List.{List, [], ◌∷◌, ◌++◌}
use Prim.Native.Nat.{ℕ, ◌+◌, ◌*◌, ◌^◌, ◌≤◌, ◌<◌}
use native.Mathlib.Nat.{pow-succ'}
use native.Mathlib.Numerals.{add-one}
use native.Mathlib.Omega.{arith}
use lib.ListN.{length, get_or, take}
use lib.Seq.{take-suc}
use Rattle.bits.specs.Words.{bits_of}
use Rattle.bits.proofs.Legal.{legal-at}
use Rattle.bits.proofs.Words.{bits-more}
use Rattle.bch.proofs.steps.pack.Goals as goal

pub loop-bit-init : goal.loop-bit-init
unfolding bits_of
loop-bit-init c = (omega arith, refl)

more-small : (byte k bit : ℕ) → bit ≤ 1 → byte < 2 ^ k → 2 * byte + bit < 2 ^ (k + 1)
more-small byte k bit b h = rw (add-one k, pow-succ' 2 k) (omega arith)

more : (bits : List ℕ) (byte k bit : ℕ) → bit ≡ get_or bits k 0 → bit ≤ 1 → k < length bits → bits_of k byte ≡ take k bits
    → bits_of (k + 1) (2 * byte + bit) ≡ take (k + 1) bits
more bits byte k bit is b h e =
    bits-more k byte bit b
    ∙ ap (λ (l : List ℕ). l ++ (bit ∷ [])) e
    ∙ ap (λ (x : ℕ). take k bits ++ (x ∷ [])) is
    ∙ sym (ap (λ (j : ℕ). take j bits) (add-one k) ∙ take-suc bits k 0 h)

pub loop-bit-preserved : goal.loop-bit-preserved
loop-bit-preserved c =
    let b : c.from.result ≤ 1 = omega (arith, c.from.ensures, legal-at 1 c.args.bits.now c.requires.0 c.loop-bit.bit-index) in (
      more-small c.loop-bit.byte c.loop-bit.bit-index c.from.result b c.loop-bit.invariant.0,
      more c.args.bits.now c.loop-bit.byte c.loop-bit.bit-index c.from.result c.from.ensures b c.loop-bit-test.true c.loop-bit.invariant.1,
    )
