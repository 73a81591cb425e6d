-- The word goes to the front of the buffer and the number behind it, and there is room for both.
use mathlib.Core.Path.{◌≡◌, subst, ◌∙◌}
use mathlib.Core.List.{[], ◌∷◌}
use Prim.Native.Nat.{ℕ, ◌≤◌}
use native.Mathlib.Omega.{arith}
use lib.ListN.{length}
use Rattle.bits.specs.Checks.{check_number}
use Rattle.ascii.specs.Text.{ascii, line, at_front, refusal_text}
use Rattle.ascii.proofs.Lengths.{refusal_length}
use Rattle.ascii.proofs.Stores.{front-room, front_put}
use Rattle.ascii.proofs.steps.put_refusal.Goals.{After-from-number}
use Rattle.ascii.proofs.steps.put_refusal.Goals as goal

fits : (c : After-from-number) → length (refusal_text c.from-number.result) ≤ length c.args.out.now
fits c =
    omega (arith, refusal_length c.from-number.result (omega (arith, c.from-number.ensures, c.from.type_inv)), c.requires)

pub put_line-requires : goal.put_line-requires
unfolding refusal_text
put_line-requires c =
    let text = line (c.from-number.result ∷ []) in
    front-room c.args.out.now (ascii "refused,") text c.put-at.ensures.out_after c.put-at.ensures.value (fits (goal.at.put_line-requires c).After-from-number)

pub returns : goal.returns
unfolding refusal_text
returns c =
    let out = c.args.out.now in
    let text = line (c.from-number.result ∷ []) in
    let is : c.from-number.result ≡ check_number c.args.refusal = c.from-number.ensures ∙ c.from.ensures in
    let p = subst (λ (n : ℕ). (c.put_line.result ≡ length (refusal_text n)) × (c.put_line.new.out ≡ at_front (refusal_text n) out)) is
    (front_put out (ascii "refused,") text c.put-at.ensures.out_after c.put-at.ensures.value (fits (goal.at.returns c).After-from-number) c.put_line.ensures.out_after c.put_line.ensures.value) in
    record { value = p.0; out_after = p.1 }
