-- Job lines, read: which are refused, and with what.
use mathlib.Core.Path.{◌≡◌, refl}
use Rattle.bits.specs.Place.{place}
use Rattle.ascii.specs.Text.{ascii, decimal, decimal_within, refusal_text}
use Rattle.job_line.specs.Line.{is_old, is_longer, said}
use Rattle.job_line.specs.Job.{job_number}
use Rattle.job.specs.Output.{output}

leading_zero : output (ascii "07,0\n") ≡ ascii "refused,6\n"
unfolding output refusal_text job_number is_old is_longer said place decimal decimal_within
leading_zero = refl

no_format : output (ascii "0,9\n") ≡ ascii "refused,1\n"
unfolding output refusal_text job_number is_old is_longer said place decimal decimal_within
no_format = refl

no_pattern : output (ascii "7,3\n") ≡ ascii "refused,7\n"
unfolding output refusal_text job_number is_old is_longer said place decimal decimal_within
no_pattern = refl

-- and of the longer form
no_pilots : output (ascii "7,0,2,262143\n") ≡ ascii "refused,14\n"
unfolding output refusal_text job_number is_old is_longer said place decimal decimal_within
no_pilots = refl

no_code : output (ascii "7,0,1,262143\n") ≡ ascii "refused,16\n"
unfolding output refusal_text job_number is_old is_longer said place decimal decimal_within
no_code = refl

code_left_out : output (ascii "7,0,1\n") ≡ ascii "refused,6\n"
unfolding output refusal_text job_number is_old is_longer said place decimal decimal_within
code_left_out = refl
