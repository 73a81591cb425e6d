use Rattle.std.proofs.Common.{◌∙◌, ◌<◌, ◌++◌, ap, sym, List, ℕ, take, arith, append_assoc, append-nil}
use Rattle.std.proofs.lemmas.List.{take_all, take_more_set}
use Rattle.bits.proofs.Words.{bits-next, bits_none}
use Rattle.bch.specs.Bch.{check_length}
use Rattle.bch.proofs.steps.put_bits.Goals as goal

pub loop-k-preserved : goal.loop-k-preserved
loop-k-preserved c =
    let inside : c.loop-k.k < check_length = omega arith in
    let out = c.loop-k.out in
    rw (take_more_set out c.loop-k.k _ (omega arith), append_assoc)
    (ap (λ (left : List ℕ). take c.loop-k.k out ++ left) (sym (bits-next check_length c.loop-k.k c.args.word inside)) ∙ c.loop-k.invariant)

pub returns : goal.returns
returns c = rw (bits_none check_length c.loop-k.k c.args.word (omega arith), append-nil, take_all c.loop-k.k c.loop-k.out (omega arith)) at c.loop-k.invariant
