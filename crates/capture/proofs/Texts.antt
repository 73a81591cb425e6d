-- From one line of a capture to the next: whether the text is a capture, and what its samples come to, hang on what is left.
use mathlib.Core.Path.{◌≡◌, refl, sym, ap, ◌∙◌}
use mathlib.Core.Bool.{false}
use mathlib.Core.List.{List, [], ◌∷◌}
use Prim.Native.Nat.{ℕ, suc, ◌+◌, ◌-◌, ◌≤◌, ◌<◌}
use native.Mathlib.Omega.{arith}
use borrow.Author.Tests.{ne_eqb}
use lib.ListN.{length, get_or, drop, drop_of_length-le}
use Rattle.std.specs.Prelude.{Some, None, ◌==◌}
use Rattle.std.proofs.lemmas.List.{length-map}
use Rattle.bits.specs.Same.{same}
use Rattle.bits.proofs.Lists.{drop-next}
use Rattle.samples.specs.declared.Sample.{Sample}
use Rattle.samples.specs.Reader.{line_read}
use Rattle.samples.specs.Text.{is_text, lines_in, sample_of, samples_in}
use Rattle.samples.proofs.Texts.{line_there, no_line}
use Rattle.samples.proofs.Written.{length-lines}
use Rattle.capture.specs.declared.Tally.{Tally}
use Rattle.capture.specs.Tally.{tallied, tally_of, total}
use Rattle.capture.proofs.Tallies.{gone, gone_all, one_more, start}

-- before the sample at place k, with n samples in all
pub record Left (n : ℕ) (labels text : List ℕ) (k : ℕ) (t : Tally) (rest : List ℕ) : Type 0 where
  pub whole : is_text n text ≡ is_text (n - k) rest
  pub comes_to : gone start 0 labels (samples_in n text) ≡ gone t k (drop k labels) (samples_in (n - k) rest)
  pub counted : total t.judgement ≡ k

pub left_start : (n : ℕ) (labels text : List ℕ) → Left n labels text 0 start text
left_start n labels text = let all : n - 0 ≡ n = omega arith in record { whole = rw all refl; comes_to = rw all refl; counted = refl }

module _ {n : ℕ} {labels text : List ℕ} {k : ℕ} {t : Tally} {rest : List ℕ} (l : Left n labels text k t rest) (inside : k < length labels) (long : length labels ≡ n) where
  one : n - k ≡ suc (n - (k + 1))
  one = omega arith

  pub left_broken : None ≡ line_read rest → is_text n text ≡ false
  left_broken e = l.whole ∙ ap (λ m. is_text m rest) one ∙ no_line (n - (k + 1)) rest e

  pub left_next : (sample : Sample) (behind : List ℕ) → Some (sample, behind) ≡ line_read rest
      → Left n labels text (k + 1) (tallied t k (get_or labels k 0) sample) behind
  unfolding gone
  left_next sample behind e =
      let (is, samples) = line_there (n - (k + 1)) rest sample behind e in
      record {
        whole = l.whole ∙ ap (λ m. is_text m rest) one ∙ is;
        comes_to = l.comes_to ∙ rw (one, drop-next labels k inside, samples) refl;
        counted = one_more t.judgement k (get_or labels k 0) sample ∙ ap (λ j. j + 1) l.counted;
      }

pub length-samples : (n : ℕ) (text : List ℕ) → length (samples_in n text) ≡ n
length-samples n text = length-map (lines_in n text) sample_of ∙ length-lines n text

same_none : (text : List ℕ) → same text [] ≡ (length text == 0)
same_none [] = refl
same_none (x ∷ text) = sym (ne_eqb (length (x ∷ text)) 0 (λ e. omega (arith, e)))

module _ {n : ℕ} {labels text : List ℕ} {k : ℕ} {t : Tally} {rest : List ℕ} (l : Left n labels text k t rest) (past : length labels ≤ k) (long : length labels ≡ n) where
  none : n - k ≡ 0
  none = omega arith

  pub left_whole : is_text n text ≡ (length rest == 0)
  unfolding is_text lines_in
  left_whole = l.whole ∙ ap (λ m. is_text m rest) none ∙ same_none rest

  pub left_tally : t ≡ tally_of labels (samples_in n text)
  unfolding gone
  left_tally =
      let ended : gone t k (drop k labels) (samples_in (n - k) rest) ≡ t = rw (drop_of_length-le labels past) refl in
      sym (l.comes_to ∙ ended) ∙ gone_all labels (samples_in n text) (long ∙ sym (length-samples n text))
