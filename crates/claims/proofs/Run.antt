-- The laws of a run together.
use mathlib.Core.List.{◌++◌}
use native.Mathlib.Omega.{arith}
use lib.ListN.{length-append}
use Rattle.bits.proofs.Legal.{legal-front}
use Rattle.trellis.proofs.Checked.{run-passes, run-passed}
use Rattle.trellis.proofs.Joined.{answer-joined, output-joined}
use Rattle.trellis.proofs.Runs.{ends-append, run-append, run-alternates}
use Rattle.claims.specs.Run.{Joins, Resumes, Stops, Passes, Alternates, Running}

joins : Joins
joins x a b = record { bits = run-append x a b; state = ends-append x a b }

resumes : Resumes
resumes s a b out p = record { answer = answer-joined s a b out p; output = output-joined s a b out p }

stops : Stops
stops s a b room p =
    let (state, legal, fits) = run-passed s (a ++ b) room p in
    run-passes s state a (legal-front 1 a b legal) room (omega (arith, fits, length-append a b))

passes : Passes
passes = run-passes

alternates : Alternates
alternates = run-alternates

pub running : Running
running = record { joins = joins; resumes = resumes; stops = stops; passes = passes; alternates = alternates }
