-- The starting states that are worked out are those of the plain run, so the second pass and the terminating steps store what it keeps.
use mathlib.Core.Path.{◌≡◌, ap}
use native.Mathlib.Omega.{arith}
use lib.ListN.{length}
use lib.Seq.{length-sets}
use Rattle.trellis.specs.Trellis.{zero-state}
use Rattle.cuts.specs.Cuts.{start_states, padded}
use Rattle.cuts.proofs.Sixteen.{started_is, states_are}
use Rattle.outer_segments.specs.Kept.{kept_from}
use Rattle.outer_segments.proofs.Kept.{outer-room, outer-stored}
use Rattle.outer_segments.proofs.steps.encode.Goals.{After-starts-started}
use Rattle.outer_segments.proofs.steps.encode.Goals as goal

-- the starting states
module _ (c : After-starts-started) where
  started : c.starts-started.result ≡ padded (start_states c.args.cuts.now c.args.block.now)
  started = started_is c.args.block.now c.args.cuts.now c.requires.block_len.2 c.first-ended.ensures c.requires.block_len.1 c.starts-started.ensures

pub second-last-requires : goal.second-last-requires
second-last-requires c =
    record {
      cuts = (c.requires.block_len.2, started (goal.at.second-last-requires c).After-starts-started);
      block_in_bounds = omega (arith, outer-room c.args.block.now c.requires.block_len.0, c.requires.block_in_bounds);
    }

pub finish-requires : goal.finish-requires
finish-requires c =
    let b = c.args.block.now in
    omega (arith, outer-room b c.requires.block_len.0, c.requires.block_in_bounds, ap length c.second-last.ensures.work_after, length-sets c.args.work.now 0 (kept_from 0 zero-state b))

pub returns : goal.returns
returns c =
    let b = c.args.block.now in record {
      value = states_are b c.args.cuts.now c.first-ended.ensures (started (goal.at.returns c).After-starts-started);
      work_after = outer-stored b c.requires.block_len.0 c.args.work.now c.requires.block_in_bounds c.second-last.ensures.value c.second-last.ensures.work_after c.finish.ensures;
    }
