use Rattle.pieces.proofs.Written.{piece_asks, piece_turn, pieces_end}
use Rattle.pieces.proofs.steps.write.Goals as goal

pub encode-requires : goal.encode-requires
encode-requires c =
    let s = c.in-Some.ensures.steps in
    piece_asks c.loop-j.invariant c.requires.1 _ _ s.0.1.0 s.0.1.1 _ s.1

pub loop-j-preserved : goal.loop-j-preserved
loop-j-preserved c =
    let s = c.in-Some.ensures.steps in
    piece_turn c.loop-j.invariant c.requires.1 _ _ s.0.1.0 s.0.1.1 _ s.1 _ _ _ c.encode.ensures s.2 s.0.0

pub returns : goal.returns
returns c = pieces_end c.loop-j.invariant c.requires.1 c.in-None.ensures.steps.0.1.0
