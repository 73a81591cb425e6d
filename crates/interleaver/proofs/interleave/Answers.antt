-- A format's W is that of a size, and its I is M × W, so a position below I is one of that size.
use mathlib.Core.Path.{◌≡◌, ap, ◌∙◌}
use mathlib.Core.Bool.{true}
use Prim.Native.Nat.{ℕ, ◌<◌}
use native.Mathlib.Omega.{arith}
use borrow.Author.Tests.{lt-ltb}
use Rattle.bits.specs.Checks.{passed}
use Rattle.acm.specs.Formats.{is_format, format_of}
use Rattle.acm.specs.declared.table.Format.{Format}
use Rattle.annex_c.specs.AnnexC.{size_of}
use Rattle.interleaver.specs.Interleaver.{Answer}
use Rattle.interleaver.proofs.Formats.{format-size, format-vectors, format-length, format-π}
use Rattle.interleaver.proofs.interleave.Goals.{After-of, After-record-record}
use Rattle.interleaver.proofs.interleave.Goals as goal

-- the format's record
module _ (c : After-record-record) where
  known : is_format c.args.format ≡ true
  known = c.in_ok-try_from.ensures.0

  record-is : c.record-record.result ≡ format_of c.args.format
  record-is = c.record-record.ensures ∙ ap format_of c.in_ok-try_from.ensures.1

-- the vectors of its size
module _ (c : After-of) where
  α-is : c.of.result.alpha.now ≡ (size_of (format_of c.args.format).w).α
  α-is = c.of.ensures.alpha_value ∙ ap (λ (r : Format). (size_of r.w).α) (c.record-record.ensures ∙ ap format_of c.in_ok-try_from.ensures.1)

  β-is : c.of.result.beta.now ≡ (size_of (format_of c.args.format).w).β
  β-is = c.of.ensures.beta_value ∙ ap (λ (r : Format). (size_of r.w).β) (c.record-record.ensures ∙ ap format_of c.in_ok-try_from.ensures.1)

pub of-requires : goal.of-requires
of-requires c =
    let r = (goal.at.of-requires c).After-record-record in
    rw (record-is r) (format-size _ (known r))

pub permute-requires : goal.permute-requires
permute-requires c =
    let r = (goal.at.permute-requires c).After-record-record in
    let v = (goal.at.permute-requires c).After-of in
    record {
      ranges = format-vectors _ (known r) (α-is v) (β-is v);
      position_bound = omega (arith, format-length _ (known r) (α-is v) (β-is v), ap (λ (r : Format). r.i) (record-is r));
    }

pub returns : goal.returns
returns c =
    let r = (goal.at.returns c).After-record-record in
    let v = (goal.at.returns c).After-of in
    let i = c.args.position.0 in
    let below : i < (format_of c.args.format).i = omega (arith, ap (λ (r : Format). r.i) (record-is r)) in
    rw (known r, lt-ltb i (format_of c.args.format).i below) (ap at (c.permute.ensures ∙ ap (λ (ρ : ℕ → ℕ). ρ i) (format-π _ (known r) (α-is v) (β-is v))))
  where
    at : ℕ → Answer
    at p = record { number = passed; position = p }
