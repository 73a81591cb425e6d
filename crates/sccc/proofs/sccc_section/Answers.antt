-- The checks' number decides; a place below 16 times the labels of a codeword fits.
use mathlib.Core.Path.{sym}
use native.Mathlib.Omega.{arith}
use Rattle.framing.proofs.Checked.{section-passed}
use Rattle.sccc.proofs.sccc_section.Goals as goal

pub overflow_mul-result : goal.overflow_mul-result
overflow_mul-result c = omega (arith, (section-passed _ _ (sym c.in-Ok.ensures.number)).inside)
