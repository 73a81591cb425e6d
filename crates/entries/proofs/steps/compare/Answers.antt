-- The first column, and each other by the one before it.
use mathlib.Core.Path.{◌≡◌, sym, ap, ◌∙◌}
use Prim.Native.Nat.{ℕ, ◌-◌, ◌≤◌}
use native.Mathlib.Omega.{arith}
use lib.ListN.{length, take, drop, length-drop}
use lib.Seq.{length-take-le, take_all}
use Rattle.bits.specs.Same.{same}
use Rattle.interleaver.specs.Interleaver.{permuted}
use Rattle.interleaver.specs.Expanded.{expanded_from}
use Rattle.entries.proofs.Columns.{first_wrong, by_columns}
use Rattle.entries.proofs.steps.compare.Goals.{After-compare_first, Start}
use Rattle.entries.proofs.steps.compare.Goals as goal

-- behind the first column are the others
others : (s : Start)
    → (let a = s.args in let w = length a.permutation.now.alpha.now in take (length a.memory.now - w) (drop w a.memory.now) ≡ drop w a.memory.now)
others s =
    let m = s.args.memory.now in
    let w = length s.args.permutation.now.alpha.now in
    take_all (length m - w) (drop w m) (omega (arith, length-drop w m))

-- what comparing the first column said
told : (c : After-compare_first)
    → (let a = c.args in let w = length a.permutation.now.alpha.now in
    c.compare_first.result ≡ same (take w a.memory.now) (expanded_from (permuted a.permutation.now.alpha.now a.permutation.now.beta.now) 0 w))
told c =
    let a = c.args in
    let there : length a.permutation.now.alpha.now ≤ length a.memory.now = omega (arith, c.requires) in
    rw c.rows-w.ensures at c.compare_first.ensures
    ∙ ap (λ (n : ℕ). same (take (length a.permutation.now.alpha.now) a.memory.now) (expanded_from (permuted a.permutation.now.alpha.now a.permutation.now.beta.now) 0 n)) (length-take-le (length a.permutation.now.alpha.now) a.memory.now there)

pub returns-then-not-compare_first : goal.returns-then-not-compare_first
returns-then-not-compare_first c =
    first_wrong _ c.args.permutation.now.beta.now c.args.permutation.now.ranges c.args.memory.now c.requires (sym (told (goal.at.returns-then-not-compare_first c).After-compare_first) ∙ c.if-not-compare_first.true)

pub returns : goal.returns
returns c =
    c.compare_columns.ensures ∙ rw (c.rows-w.ensures, others (goal.at.returns c).Start) (by_columns _ c.args.permutation.now.beta.now c.args.permutation.now.ranges c.args.memory.now c.requires (sym (told (goal.at.returns c).After-compare_first) ∙ c.if-not-compare_first.false))
