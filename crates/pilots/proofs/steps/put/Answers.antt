use Rattle.pilots.proofs.Turns.{chunked_end, chunked_turn}
use Rattle.pilots.proofs.steps.put.Goals as goal

pub loop-i-preserved : goal.loop-i-preserved
loop-i-preserved c =
    let s = c.in-Some.ensures.steps in
    chunked_turn c.loop-i.invariant c.requires _ _ s.0.1.0 s.0.1.1 s.0.1.2 _ s.1 _ _ _ c.put_subsection.ensures s.2 s.0.0

pub returns : goal.returns
returns c = chunked_end c.loop-i.invariant c.requires c.in-None.ensures.steps.0.1.0
