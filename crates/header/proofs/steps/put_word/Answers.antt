use Rattle.std.proofs.Common.{◌∙◌, ◌<◌, ◌++◌, ap, sym, List, ℕ, take, arith, append_assoc, append-nil}
use Rattle.std.proofs.lemmas.List.{take_all, take_more_set}
use Rattle.header.specs.Words.{word_length}
use Rattle.header.proofs.Words.{slots_next, slots-none}
use Rattle.header.proofs.steps.put_word.Goals as goal

pub loop-k-preserved : goal.loop-k-preserved
loop-k-preserved c =
    let more : c.loop-k.k < word_length = omega arith in
    let out = c.loop-k.out in
    rw (take_more_set out c.loop-k.k _ (omega arith), append_assoc)
    (ap (λ (left : List ℕ). take c.loop-k.k out ++ left) (sym (slots_next _ _ _ _ more c.header_code.ensures c.bit.ensures)) ∙ c.loop-k.invariant)

pub returns : goal.returns
returns c = rw (slots-none c.loop-k.k c.args.word (omega arith), append-nil, take_all c.loop-k.k c.loop-k.out (omega arith)) at c.loop-k.invariant
