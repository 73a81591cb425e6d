-- Texts of samples, line by line: whether a text is one, and of which samples, hangs on its first line and on what stands behind.
use mathlib.Core.Path.{◌≡◌, refl, ◌∙◌}
use mathlib.Core.Bool.{false, ◌&&◌}
use mathlib.Core.List.{List, ◌∷◌}
use Prim.Native.Nat.{ℕ, suc}
use lib.ListN.{length, drop}
use Rattle.std.specs.Prelude.{Option, Some, None}
use Rattle.std.proofs.NetLemmas.Options.{same_parts}
use Rattle.bits.proofs.Cases.{by_cases}
use Rattle.bits.proofs.Same.{same-append}
use Rattle.samples.specs.declared.Sample.{Sample}
use Rattle.samples.specs.Reader.{line_read}
use Rattle.samples.specs.Text.{begins, is_text, line_in, line_text, lines_in, sample_of, samples_in, text_of}

-- whether a text is that of one sample more
module _ (n : ℕ) (text : List ℕ) where
  abbrev line : List ℕ
  line = line_text (line_in text)

  abbrev rest : List ℕ
  rest = drop (length line) text

  pub text_next : is_text (suc n) text ≡ (begins line text && is_text n rest)
  unfolding is_text lines_in
  text_next = same-append line (text_of (lines_in n rest)) text

  pub no_line : None ≡ line_read text → is_text (suc n) text ≡ false
  unfolding line_read
  no_line e =
      by_cases
      (begins line text)
      (λ t. let e' : None ≡ Some (sample_of (line_in text), rest) = rw t at e in cc)
      (λ f. text_next ∙ rw f refl)

  pub line_there : (sample : Sample) (behind : List ℕ) → Some (sample, behind) ≡ line_read text
      → (is_text (suc n) text ≡ is_text n behind) × (samples_in (suc n) text ≡ sample ∷ samples_in n behind)
  unfolding line_read lines_in
  line_there sample behind e =
      by_cases
      (begins line text)
      (λ t.
      let e' : Some (sample, behind) ≡ Some (sample_of (line_in text), rest) = rw t at e in
      let (is, left) = same_parts sample (sample_of (line_in text)) behind rest e' in
      rw (is, left) (text_next ∙ rw t refl, refl))
      (λ f. let e' : ◌≡◌ {A = Option (Sample × List ℕ)} (Some (sample, behind)) None = rw f at e in cc)
