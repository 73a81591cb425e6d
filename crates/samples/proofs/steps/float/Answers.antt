use mathlib.Core.Path.{◌≡◌, refl, sym, ◌∙◌}
use mathlib.Core.Bool.{true}
use borrow.Author.Tests.{lt-ltb, le-ltb}
use lib.Ieee.{Float, nan, inf, fin, binary64, of_bits, is_nan}
use lib.Ieee.Bits.{nan_bits_above, nan_bits_is}
use Rattle.std.proofs.lemmas.Float.{T_from_false}
use Rattle.samples.proofs.steps.float.Goals as goal

the_nan : (x : Float) → is_nan x ≡ true → nan ≡ x
unfolding is_nan
the_nan nan t = refl
the_nan (inf s) t = cc
the_nan (fin s m e) t = cc

pub float_from_bits-result : goal.float_from_bits-result
float_from_bits-result c = T_from_false _ (nan_bits_above binary64 c.args.bits ∙ le-ltb _ _ c.if-bits-le-INFINITY.true)

pub returns-else-bits-le-INFINITY : goal.returns-else-bits-le-INFINITY
unfolding of_bits
returns-else-bits-le-INFINITY c =
    let above = nan_bits_above binary64 c.args.bits ∙ lt-ltb _ _ c.if-bits-le-INFINITY.false in
    the_nan _ (sym (nan_bits_is binary64 c.args.bits) ∙ above)
