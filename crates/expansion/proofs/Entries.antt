-- A loop that writes the entries of the positions, a column at a time, and what it writes in a format.
use mathlib.Core.Path.{◌≡◌, sym, ap, ◌∙◌}
use mathlib.Core.List.{List, ◌++◌}
use Prim.Native.Nat.{ℕ, ◌+◌, ◌-◌, ◌*◌, ◌≤◌}
use native.Mathlib.Omega.{arith}
use borrow.Rule.Slice.PartMut.{put_mid}
use lib.ListN.{length, drop}
use lib.Seq.{sets}
use Rattle.bits.proofs.Fill.{sets-append, sets-front}
use Rattle.bits.proofs.Parts.{sets_of_part}
use Rattle.acm.specs.Formats.{format_of}
use Rattle.interleaver.specs.Interleaver.{π}
use Rattle.interleaver.specs.Expanded.{expanded_from, expanded}
use Rattle.interleaver.proofs.Expanded.{expanded-length, expanded-append}

-- a column of W entries, written behind those before it
pub column_behind : (ρ : ℕ → ℕ) (W : ℕ) (memory : List ℕ) {out : List ℕ} (column : ℕ) → W * column + W ≤ length out → out ≡ sets memory 0 (expanded_from ρ 0 (W * column))
    → put_mid (W * column) (W * column + W - W * column) out (expanded_from ρ (W * column) W) ≡ sets memory 0 (expanded_from ρ 0 (W * (column + 1)))
column_behind ρ W memory {out} column room written =
    let at = W * column in
    let long : at + W - at ≡ W = omega arith in
    let before : 0 + length (expanded_from ρ 0 at) ≡ at = omega (arith, expanded-length ρ 0 at) in
    let next : W * (column + 1) ≡ at + W = omega arith in
    let z : 0 + at ≡ at = omega arith in
    rw (long, sets_of_part at W out (expanded_from ρ at W) (expanded-length ρ at W) room, written, next, expanded-append ρ 0 at W, z)
    (sym (sets-append memory 0 (expanded_from ρ 0 at) (expanded_from ρ at W) ∙ ap (λ (k : ℕ). sets (sets memory 0 (expanded_from ρ 0 at)) k (expanded_from ρ at W)) before))

-- in a format, whose interleaver is π f
pub built_is : (f : ℕ) (memory : List ℕ) → (format_of f).i ≤ length memory
    → sets memory 0 (expanded_from (π f) 0 (format_of f).i) ≡ expanded f ++ drop (format_of f).i memory
unfolding expanded
built_is f memory room =
    let n = expanded-length (π f) 0 (format_of f).i in
    sets-front (expanded_from (π f) 0 (format_of f).i) memory (omega (arith, n))
    ∙ ap (λ (k : ℕ). expanded_from (π f) 0 (format_of f).i ++ drop k memory) n
