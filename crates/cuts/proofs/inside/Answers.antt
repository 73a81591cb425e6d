use Rattle.std.proofs.Common.{◌≤◌, rules, ◌↔◌, sym, ◌∙◌}
use Rattle.std.specs.Prelude.{IsTrue}
use Rattle.std.specs.List.{All}
use Rattle.std.proofs.lemmas.List.Sorted.{non_decreasing_from_is_sorted}
use Rattle.bits.proofs.Legal.{low_is}
use Rattle.cuts.proofs.Scan.{sorted_is}
use Rattle.cuts.proofs.inside.Goals as goal

pub returns-then-is_sorted : goal.returns-then-is_sorted
returns-then-is_sorted c =
    let cuts = c.args.cuts.now in
    let low : IsTrue c.all.result ↔ All (λ x. x ≤ c.args.long) cuts = search rules in
    let rises = sorted_is cuts _ (non_decreasing_from_is_sorted cuts _ c.is_sorted.ensures.cases) in
    rw (sym rises ∙ c.if-is_sorted.true) (low_is c.args.long cuts _ low)

pub returns-else-is_sorted : goal.returns-else-is_sorted
returns-else-is_sorted c =
    let cuts = c.args.cuts.now in
    let rises = sorted_is cuts _ (non_decreasing_from_is_sorted cuts _ c.is_sorted.ensures.cases) in
    rw (sym rises ∙ c.if-is_sorted.false) c.if-is_sorted.false
