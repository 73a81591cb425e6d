-- The laws of encoding by segments together.
use native.Mathlib.Omega.{arith}
use borrow.Author.Tests.{le-leb}
use lib.ListN.{length, replicate, length-replicate}
use Rattle.bits.proofs.Legal.{legal_repeated}
use Rattle.cuts.specs.Cuts.{most_cuts}
use Rattle.cuts.proofs.Propagations.{worked_out_lem, propagated-period}
use Rattle.cuts.proofs.Scan.{rises_repeated}
use Rattle.cuts.proofs.Segments.{segments_join}
use Rattle.segments.proofs.Checked.{plain_number_lem, plain-workspace, plain-output}
use Rattle.claims.specs.Segments.{WorksOut, Cycles, Parts, SameAsPlain, Cuttable, Segmenting}

works_out : WorksOut
works_out = worked_out_lem

cycles : Cycles
cycles = propagated-period

parts : Parts
parts = segments_join

same_as_plain : SameAsPlain
same_as_plain f block work out outer_list inner_list o i = record {
  number = plain_number_lem f block outer_list inner_list o i (length work) (length out);
  workspace = plain-workspace f block outer_list inner_list o i work out;
  output = plain-output f block outer_list inner_list o i work out;
}

cuttable : Cuttable
cuttable long place n inside few = record {
  few = le-leb (length (replicate n place)) most_cuts (omega (arith, length-replicate n place));
  inside = rw (rises_repeated n place) (legal_repeated long n place inside);
}

pub segmenting : Segmenting
segmenting = record { works_out = works_out; cycles = cycles; parts = parts; same_as_plain = same_as_plain; cuttable = cuttable }
