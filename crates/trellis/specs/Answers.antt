-- The answers of a step and of a run as numbers. They stand apart from the definitions that the type of a state is made of.
use Rattle.std.specs.Prelude.{Result, Ok, Err}
use Rattle.bits.specs.Checks.{check_number, passed}
use Rattle.bits.specs.declared.checks.Refusal.{Refusal}
use Rattle.trellis.specs.declared.state.Step.{Step}
use Rattle.trellis.specs.Run.{Ran}
use Rattle.trellis.specs.Trellis.{State, Stepped, state_number, step_refused}

abbrev pub step_answer : Result Step Refusal → Stepped
step_answer (Ok s) = record { number = passed; systematic = s.systematic; parity = s.parity; state = state_number s.state }
step_answer (Err refusal) = step_refused (check_number refusal)

abbrev pub run_answer : Result State Refusal → Ran
run_answer (Ok x) = record { number = passed; state = state_number x }
run_answer (Err refusal) = record { number = check_number refusal; state = 0 }
