use mathlib.Core.Path.{◌≡◌}
use Prim.Native.Nat.{ℕ, ◌+◌, ◌*◌}
use native.Mathlib.Omega.{arith}
use borrow.Author.Tests.{tests}
use lib.ListN.{length}
use Rattle.std.proofs.Common.{rules}
use Rattle.std.proofs.lemmas.Iterator.{YieldsList-from_slice, cases_from_all}
use Rattle.std.proofs.lemmas.Iterator.Consumers.{YieldsList-from_enumerate}
use Rattle.interleaver.specs.Interleaver.{permuted}
use Rattle.entries.proofs.Turns.{rows_right}
use Rattle.entries.proofs.steps.compare_first.Goals as goal

pub returns : goal.returns
returns c =
    let p = c.args.permutation.now in
    let ρ = permuted p.alpha.now p.beta.now in
    let first : (row : ℕ) → length p.alpha.now * 0 + row ≡ row = λ row. omega arith in
    rows_right ρ c.args.column.now c.all.result (
    cases_from_all _ _ _ (λ x. x.1 ≡ ρ x.0) (λ x. x.1 ≡ ρ x.0 → ⊥) c.all.ensures.ran (YieldsList-from_enumerate (YieldsList-from_slice c.args.column.now cc) (cc))
    (λ x q k. search (rules, tests, first)) (λ x q k. search (rules, tests, first))
    )
