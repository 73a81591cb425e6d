-- Fewer than a stretch are left where the stretches end: they are the rest.
use Rattle.std.proofs.Common.{arith, ◌≡◌, ◌∙◌, ◌++◌, ◌+◌, ◌-◌, ◌≤◌, ◌%◌, sym, ap, List, ℕ, length, drop, length-append}
use Rattle.std.proofs.lemmas.List.{drop-drop, drop_at}
use mathlib.Core.Bool.{◌&&◌}
use lib.Dec.{leb}
use borrow.Author.Tests.{le-leb, lt-leb}
use Rattle.bits.specs.Legal.{all_at_most}
use Rattle.bits.proofs.Legal.{legal_split}
use Rattle.bits.proofs.all_at_most.Goals.{After-largest}
use Rattle.bits.proofs.all_at_most.Goals as goal

-- what is left behind a stretch is the list's end too
end-next : (list rest stretch next : List ℕ) → rest ≡ stretch ++ next → length rest ≤ length list → rest ≡ drop (length list - length rest) list
    → next ≡ drop (length list - length next) list
end-next list rest stretch next parts fits end =
    let n = length stretch in
    let long : length rest ≡ n + length next = ap length parts ∙ length-append stretch next in
    let past : length list - length rest + n ≡ length list - length next = omega arith in
    sym (drop_at stretch next n (omega arith)) ∙ ap (drop n) (sym parts ∙ end) ∙ drop-drop n (length list - length rest) list ∙ ap (λ k. drop k list) past

left : (c : After-largest) → all_at_most c.args.top c.args.list.now ≡ (leb c.largest.result c.args.top && all_at_most c.args.top c.next.new.self.rest.now)
left c = c.loop-stretch.invariant.legal ∙ legal_split _ _ _ _ _ c.in-Some.ensures.steps.1.0 (c.largest.ensures c.args.top)

pub returns-then-top-largest : goal.returns-then-top-largest
returns-then-top-largest c = sym (rw (lt-leb _ _ c.if-top-largest.true) at (left (goal.at.returns-then-top-largest c).After-largest))

pub loop-stretch-preserved : goal.loop-stretch-preserved
loop-stretch-preserved c =
    let (size, (parts, stretch), rem) = c.in-Some.ensures.steps in
    let i = c.loop-stretch.invariant in
    let long = ap length parts ∙ length-append c.in-Some.stretch.now c.next.new.self.rest.now in
    record {
      legal = rw (le-leb _ _ c.if-top-largest.false) at (left (goal.at.loop-stretch-preserved c).After-largest);
      size = size ∙ i.size;
      end = end-next _ _ _ _ parts i.fits i.end;
      whole = omega (arith, long, stretch, i.size, i.whole);
      fits = omega (arith, long, i.fits);
    }

pub returns : goal.returns
returns c =
    let i = c.loop-stretch.invariant in
    let few = c.in-None.ensures.steps.1.0 in
    let all : length c.loop-stretch.stretch-iterator.rest.now ≡ length c.args.list.now % 1024 = omega (arith, few, i.size, i.whole) in
    sym (c.largest-2.ensures c.args.top)
    ∙ ap (all_at_most c.args.top) (c.remainder-rest.ensures ∙ c.chunks_exact-stretches.ensures.remainder ∙ ap (λ k. drop (length c.args.list.now - k) c.args.list.now) (sym all) ∙ sym i.end)
    ∙ sym i.legal
