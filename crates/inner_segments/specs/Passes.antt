-- The second pass over the inner trellis: where a segment begins, the trellis is set to the segment's own starting state.
use Rattle.trellis.specs.Trellis.{State}
use Rattle.inner.specs.declared.steps.Progress.{Progress}

-- the inner encoder where it stands, but with its trellis in the state x
abbrev pub restarted : Progress → State → Progress
restarted at x =
    let c = at.coder in
    record { walk = at.walk; coder = record { state = x; upper = c.upper; lower = c.lower; counter = c.counter } }
