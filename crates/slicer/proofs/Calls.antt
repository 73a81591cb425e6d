-- The lemmas that the calls' proofs rest on, where the check does not know them by itself: src/lib.rt names this set.
use Rattle.std.proofs.lemmas.Bool.Decides.{nat_tests}
use Rattle.std.proofs.lemmas.List.Edits.{sets-eq}
use Rattle.bits.proofs.Refusals.{not_passed}
use Rattle.acm.proofs.Laws.{within}
use Rattle.transfer.proofs.Marked.{marked_length}

pub ruleset calls = (nat_tests, not_passed, within, marked_length, sets-eq)
