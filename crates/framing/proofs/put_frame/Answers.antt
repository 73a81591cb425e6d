-- The header fills the first 320 slots, and the labels, with pilots or without, those behind it.
use Rattle.pilots.proofs.Inserted.{with_length}
use Rattle.framing.proofs.Frames.{frame-stored}
use Rattle.framing.proofs.put_frame.Goals as goal

pub returns-in-On : goal.returns-in-On
returns-in-On c =
    let on = c.in-On.is in
    rw on
    (frame-stored _ _ _ _ _ _ c.requires.0 (rw on at c.requires.1) (rw on at c.put.ensures) (rw (← with_length c.args.labels.now) at c.put-in-On.ensures))

pub returns-in-Off : goal.returns-in-Off
returns-in-Off c =
    let off = c.in-Off.is in
    rw off (frame-stored _ _ _ _ _ _ c.requires.0 (rw off at c.requires.1) (rw off at c.put.ensures) c.put_labels.ensures)
