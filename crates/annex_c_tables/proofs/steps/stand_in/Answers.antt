-- The flag at the size's number is the size's.
use Rattle.annex_c.specs.Sizes.{sizes}
use Rattle.annex_c_tables.proofs.Flats.{size-inside, stand_in-at}
use Rattle.annex_c_tables.proofs.steps.stand_in.Goals as goal

pub returns : goal.returns
unfolding sizes
returns c =
    stand_in-at c.args.w c.requires c.locate-number.ensures.sizes_value

pub bounds-number : goal.bounds-number
unfolding sizes
bounds-number c = size-inside c.args.w c.requires c.locate-number.ensures.sizes_value
