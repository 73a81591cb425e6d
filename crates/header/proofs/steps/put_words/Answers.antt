use Rattle.header.proofs.Words.{words_next, words_end}
use Rattle.header.proofs.steps.put_words.Goals as goal

pub loop-i-preserved : goal.loop-i-preserved
loop-i-preserved c = words_next _ _ _ c.loop-i-test.true c.requires c.put_word.ensures c.loop-i.invariant

pub returns : goal.returns
returns c = words_end _ _ c.loop-i-test.false c.requires c.loop-i.invariant
