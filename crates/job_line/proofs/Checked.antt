-- What the number of a text says: 0 that all of the checks hold, and any other that the job is refused with it.
use mathlib.Core.Path.{◌≡◌, refl, sym, ap, ◌∙◌}
use mathlib.Core.Bool.{true}
use mathlib.Core.List.{List}
use Prim.Native.Nat.{ℕ, ◌≤◌, ◌<◌}
use native.Mathlib.Omega.{arith}
use borrow.Author.Tests.{leb-true, ltb-true, eqb-true, eqb-false, eq-eqb, ne_eqb}
use lib.Dec.{eqb, lit<}
use Rattle.std.specs.Prelude.{Option, Some, None, Result, Ok, Err, IfOk}
use Rattle.std.specs.Option.{ok_or}
use Rattle.bits.specs.Checks.{◌or_else◌, check_number, number_of, passed, bad_line}
use Rattle.bits.specs.declared.checks.Refusal.{Refusal}
use Rattle.bits.specs.declared.checks.Refusal.TheVariants as refusal
use Rattle.bits.proofs.Cases.{by_cases}
use Rattle.bits.proofs.Passed.{passes}
use Rattle.bits.proofs.Refusals.{not_passed}
use Rattle.acm.specs.Formats.{is_format}
use Rattle.acm.proofs.Laws.{format-low}
use Rattle.header.specs.Descriptor.{pilots_on}
use Rattle.job_line.specs.declared.Job.{Job}
use Rattle.job_line.specs.declared.steps.Line.{Line}
use Rattle.job_line.specs.Line.{is_line, said, line_of}
use Rattle.scrambling.specs.Code.{code_legal}
use Rattle.job_line.specs.Job.{patterns, added_of, said_number, job_checks, job_number, Answer, accepted, refused, line_of_job, answer_of, asked}

pub record JobPassed (text : List ℕ) : Type 0 where
  pub line : is_line text ≡ true
  pub format : is_format (said text).format ≡ true
  pub pattern : (said text).pattern < patterns
  pub pilots : (added_of (said text)).pilots ≤ pilots_on
  pub code : code_legal (added_of (said text)).code ≡ true

pub job_passed : (text : List ℕ) → job_number text ≡ passed → JobPassed text
unfolding job_number
job_passed text e =
    let part = passes (job_checks text) (true or_else passed) refl e in
    record {
      line = part 0 (lit< tt);
      format = part 1 (lit< tt);
      pattern = ltb-true _ _ (part 2 (lit< tt));
      pilots = leb-true _ _ (part 3 (lit< tt));
      code = part 4 (lit< tt);
    }

-- what the reader's answer says
malformed-number : (text : List ℕ) → None ≡ line_of text → job_number text ≡ bad_line
unfolding job_number
malformed-number text e =
    by_cases (is_line text) (λ t. let e' : None ≡ Some (said text) = rw t at e in cc) (λ f. rw f)

record Read (text : List ℕ) (read : Line) : Type 0 where
  is : read ≡ said text
  number : job_number text ≡ said_number read

line-read : (text : List ℕ) (read : Line) → Some read ≡ line_of text → Read text read
unfolding job_number said_number
line-read text read e =
    by_cases (is_line text)
    (λ t.
    let e' : Some read ≡ Some (said text) = rw t at e in
    let is : read ≡ said text = cc in
    record { is = is; number = rw (t, is) })
    (λ n. let e' : Some read ≡ None = rw n at e in cc)

-- the exits of parse
pub line_refused : (text : List ℕ) (read : Option Line) (r : Refusal) → read ≡ line_of text → read ≡ None → Err r ≡ ok_or read refusal.Line → refused (check_number r) ≡ asked text
line_refused text read r e none refuses =
    let e' : ◌≡◌ {A = Result Line Refusal} (Err r) (Err refusal.Line) = rw none at refuses in
    let is : r ≡ refusal.Line = cc in
    rw (is, malformed-number text (sym none ∙ e)) refl

pub line_accepted : (text : List ℕ) (read : Line) → Some read ≡ line_of text → (result : Result Job Refusal)
    → number_of result ≡ said_number read → IfOk result (λ job. accepted (line_of_job job) ≡ accepted read) → answer_of result ≡ asked text
line_accepted text read e (Ok job) pass known =
    let r = line-read text read e in
    rw (eq-eqb (job_number text) passed (r.number ∙ sym pass)) (known ∙ ap accepted r.is)
line_accepted text read e (Err r) is known =
    let number : job_number text ≡ check_number r = (line-read text read e).number ∙ sym is in
    rw (number, ne_eqb (check_number r) passed (not_passed r))

-- what an answer says
pub run-read : (text : List ℕ) (a : Answer) → a.number ≡ passed → a ≡ asked text
    → (job_number text ≡ passed) × (a.format ≡ (said text).format) × (a.pattern ≡ (said text).pattern)
run-read text a pass e =
    by_cases (eqb (job_number text) passed)
    (λ t.
    let e' : a ≡ accepted (said text) = rw t at e in
    (eqb-true _ _ t, ap (λ (a : Answer). a.format) e', ap (λ (a : Answer). a.pattern) e'))
    (λ n. absurd (eqb-false _ _ n (sym (ap (λ (a : Answer). a.number) (rw n at e)) ∙ pass)))

pub refused-read : (text : List ℕ) (n : ℕ) → refused n ≡ asked text → (job_number text ≡ n) × (n ≡ passed → ⊥)
refused-read text n e =
    by_cases (eqb (job_number text) passed)
    (λ t.
    let none : 0 ≡ (said text).format = ap (λ (a : Answer). a.format) (rw t at e) in
    absurd (omega (arith, format-low (said text).format (job_passed text (eqb-true _ _ t)).format)))
    (λ f.
    let is : job_number text ≡ n = sym (ap (λ (a : Answer). a.number) (rw f at e)) in
    (is, λ z. eqb-false _ _ f (is ∙ z)))
