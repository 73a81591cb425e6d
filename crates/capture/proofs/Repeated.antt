-- One label and one line, repeated: the call passes, and every sample comes to the same.
use mathlib.Core.Path.{◌≡◌, refl, sym, ap, ap₂, ◌∙◌}
use mathlib.Core.Bool.{true, false}
use mathlib.Core.List.{List, ◌∷◌, map}
use Prim.Native.Nat.{ℕ, zero, suc, ◌≤◌, ◌<◌}
use native.Mathlib.Omega.{arith}
use lib.ListN.{replicate, length-replicate}
use Rattle.std.specs.Prelude.{Option, Some, None}
use Rattle.std.specs.List.{All}
use Rattle.std.proofs.lemmas.List.Elements.{All-nil, All-cons}
use Rattle.bits.specs.Checks.{passed}
use Rattle.bits.proofs.Legal.{legal_repeated}
use Rattle.bits.proofs.Passed.{when_passed}
use Rattle.acm.specs.Formats.{symbols}
use Rattle.waveform.specs.Waveform.{last_label}
use Rattle.samples.specs.declared.Sample.{Sample}
use Rattle.samples.specs.Samples.{sample_in_range}
use Rattle.samples.specs.Text.{Line, TextOf, line_fits, sample_of, text_of}
use Rattle.samples.proofs.Written.{samples_are, text_agrees}
use Rattle.capture.specs.declared.Judgement.{Judgement}
use Rattle.capture.specs.Judgement.{agrees, all_in_range, differs, first, is_lost, judge_number, judged, judgement, nothing, samples_of}
use Rattle.capture.proofs.Laws.{count_each, count_none, first-none, repeated_in_range}
use Rattle.capture.proofs.Passing.{judge_passes}

all_repeated : {A : Type 0} (P : A → Type 0) (n : ℕ) (x : A) → P x → All P (replicate n x)
all_repeated P zero x p = All-nil P
all_repeated P (suc n) x p = All-cons P x (replicate n x) p (all_repeated P n x p)

map_repeated : (n : ℕ) (line : Line) → map sample_of (replicate n line) ≡ replicate n (sample_of line)
map_repeated zero line = refl
map_repeated (suc n) line = ap (λ l. sample_of line ∷ l) (map_repeated n line)

module _ (n : ℕ) (e : n ≡ symbols) (label : ℕ) (low : label ≤ last_label) (line : Line) (fits : line_fits line ≡ true) (inside : sample_in_range (sample_of line) ≡ true) where
  abbrev labels : List ℕ
  labels = replicate n label

  abbrev text : List ℕ
  text = text_of (replicate n line)

  abbrev samples : List Sample
  samples = replicate n (sample_of line)

  is_text_of : TextOf symbols text
  is_text_of =
      record {
        lines = replicate n line;
        many = length-replicate n line ∙ e;
        fit = all_repeated (λ line. line_fits line ≡ true) n line fits;
        written = refl;
      }

  samples_found : samples_of text ≡ samples
  unfolding is_text_of
  samples_found = samples_are symbols text is_text_of ∙ map_repeated n line

  repeated_passes : judge_number 33 labels text ≡ passed
  repeated_passes =
      judge_passes 33 labels text
      record {
        known = refl;
        long = length-replicate n label ∙ e;
        legal = legal_repeated last_label n label low;
        whole = (text_agrees symbols text).1 is_text_of;
        inside = ap all_in_range samples_found ∙ repeated_in_range n (sample_of line) inside;
      }

  pub judged_repeated : judged 33 labels text ≡ record { number = passed; judgement = judgement labels samples }
  judged_repeated =
      ap₂ (λ n j. record { number = n; judgement = j }) repeated_passes
      (sym (when_passed (judge_number 33 labels text) _ nothing repeated_passes) ∙ ap (judgement labels) samples_found)

-- what one sample comes to, so many times
module _ (label : ℕ) (sample : Sample) (n : ℕ) where
  abbrev pub Judged : ℕ → ℕ → ℕ → Option ℕ → Type 0
  Judged a d l f =
      judgement (replicate n label) (replicate n sample) ≡ record { agreeing = a; differing = d; lost = l; first = f }

  counted : {a a' d d' l l' : ℕ} {f f' : Option ℕ} → a ≡ a' → d ≡ d' → l ≡ l' → f ≡ f'
      → ◌≡◌ {A = Judgement} (record { agreeing = a; differing = d; lost = l; first = f }) (record { agreeing = a'; differing = d'; lost = l'; first = f' })
  counted p q r s = rw (p, q, r, s) refl

  no_first : differs label sample ≡ false → first differs (replicate n label) (replicate n sample) ≡ None
  no_first t = (first-none differs (replicate n label) (replicate n sample)).1 (count_none differs label sample n t)

  pub all_lost : agrees label sample ≡ false → differs label sample ≡ false → is_lost label sample ≡ true → Judged 0 0 n None
  all_lost a d l =
      counted (count_none agrees label sample n a) (count_none differs label sample n d) (count_each is_lost label sample n l) (no_first d)

  pub all_agree : agrees label sample ≡ true → differs label sample ≡ false → is_lost label sample ≡ false → Judged n 0 0 None
  all_agree a d l =
      counted (count_each agrees label sample n a) (count_none differs label sample n d) (count_none is_lost label sample n l) (no_first d)

pub all_differ : (label : ℕ) (sample : Sample) (n : ℕ) → 0 < n → agrees label sample ≡ false → differs label sample ≡ true → is_lost label sample ≡ false
    → Judged label sample n 0 n 0 (Some 0)
unfolding first
all_differ label sample zero some a d l = absurd (omega arith)
all_differ label sample (suc n) some a d l =
    counted label sample (suc n) (count_none agrees label sample (suc n) a) (count_each differs label sample (suc n) d) (count_none is_lost label sample (suc n) l) (rw d refl)
