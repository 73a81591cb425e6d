-- A byte of ones shifted down to m bits is 2^m - 1, by one test over m.
use mathlib.Core.Path.{◌≡◌, refl, sym, ap, subst, ◌∙◌}
use Prim.Native.Nat.{ℕ, ◌-◌, ◌/◌, ◌^◌, ◌≤◌}
use native.Mathlib.Omega.{arith}
use borrow.Author.Tests.{eqb-true}
use lib.Dec.{eqb}
use Rattle.bits.proofs.Table.{below_at}
use Rattle.acm.specs.declared.table.Format.{Format}
use Rattle.acm.proofs.Laws.{Sound, format-sound}
use Rattle.acm.proofs.number.AcmFormat.top_label.Goals.{After-record}
use Rattle.acm.proofs.number.AcmFormat.top_label.Goals as goal

ones : (m : ℕ) → m ≤ 8 → 255 / 2 ^ (8 - m) ≡ 2 ^ m - 1
ones m h = eqb-true _ _ (below_at (λ m. eqb (255 / 2 ^ (8 - m)) (2 ^ m - 1)) 9 refl m (omega arith))

top : Format → ℕ
top r = 2 ^ r.m - 1

sound : (c : After-record) → Sound c.record.result
sound c = subst Sound (sym c.record.ensures) (format-sound _ c.args.self.listed)

pub overflow_sub-result : goal.overflow_sub-result
overflow_sub-result c = omega (arith, (sound (goal.at.overflow_sub-result c).After-record).most-m)

pub overflow_shr-result : goal.overflow_shr-result
overflow_shr-result c = omega (arith, (sound (goal.at.overflow_shr-result c).After-record).least-m)

pub returns : goal.returns
unfolding top
returns c = ones _ (omega (arith, (sound (goal.at.returns c).After-record).most-m)) ∙ ap top (goal.at.returns c).After-record.record.ensures
