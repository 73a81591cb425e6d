-- The checks decide first, then whether a place differs; each exit is a case of the definition.
use mathlib.Core.Path.{◌≡◌, sym, ◌∙◌}
use native.Mathlib.Omega.{arith}
use borrow.Author.Tests.{eq-eqb, ne_eqb}
use lib.ListN.{length}
use Rattle.bits.specs.Checks.{passed}
use Rattle.compare.specs.Comparison.{compare_number, differing}
use Rattle.compare.proofs.Checked.{ComparePassed, compare_passed}
use Rattle.compare.proofs.Laws.{byte_bits}
use Rattle.compare.proofs.Places.{bits-zipped, nowhere-first}
use Rattle.compare.proofs.compare.Goals.{In_ok-check_compare}
use Rattle.compare.proofs.compare.Goals as goal

passes : (c : In_ok-check_compare) → compare_number c.args.format c.args.a.now c.args.b.now ≡ passed
passes c = sym c.in_ok-check_compare.ensures

fits : (c : In_ok-check_compare) → ComparePassed c.args.format c.args.a.now c.args.b.now
fits c = compare_passed _ _ _ (passes c)

long : (c : In_ok-check_compare) → length c.args.a.now ≡ length c.args.b.now
long c = (fits c).long_a ∙ sym (fits c).long_b

pub first_differing-requires : goal.first_differing-requires
first_differing-requires c = long (goal.at.first_differing-requires c).In_ok-check_compare

pub count_bits-count-requires : goal.count_bits-count-requires
count_bits-count-requires c =
    omega (arith, (fits (goal.at.count_bits-count-requires c).In_ok-check_compare).long_a)

pub returns : goal.returns
returns c =
    let ok = (goal.at.returns c).In_ok-check_compare in
    let p = passes ok in
    let (first, inside) = c.in-Some.ensures in
    let some : differing c.args.a.now c.args.b.now ≡ 0 → ⊥ = λ z. omega (arith, nowhere-first _ _ (long ok) z, first, inside) in
    simp (eq-eqb _ _ p, ne_eqb _ _ some, first, c.count_bits-count.ensures ∙ bits-zipped 8 c.args.a.now c.args.b.now ∙ byte_bits _ _ _ p)
