-- A run over the positions, where it starts and where it ends; and, of a format, what it writes: the codeword's trellis part.
use mathlib.Core.Path.{◌≡◌}
use mathlib.Core.Bool.{true}
use mathlib.Core.List.{List, ◌++◌}
use Prim.Native.Nat.{ℕ, ◌≤◌, ◌<◌}
use native.Mathlib.Omega.{arith}
use lib.ListN.{length, drop}
use lib.Seq.{sets}
use Rattle.acm.specs.Formats.{is_format, format_of, N1}
use Rattle.annex_c.specs.AnnexC.{size_of}
use Rattle.coder.specs.Coder.{finished}
use Rattle.interleaver.specs.Interleaver.{π}
use Rattle.interleaver.specs.Walk.{Walked}
use Rattle.interleaver.proofs.Formats.{format-π}
use Rattle.interleaver.proofs.Laws.{permuted-below}
use Rattle.inner.specs.Left.{starting, Fits}
use Rattle.inner.specs.Lent.{π_of, Stands, completes, written}
use Rattle.inner.specs.Registers.{interleaved, from_outer}
use Rattle.inner.specs.declared.parameters.Parameters.{Parameters}
use Rattle.inner.specs.declared.steps.Progress.{Progress}
use Rattle.inner.proofs.Formats.{fits_whole, front-written}
use Rattle.inner.proofs.Turns.{completed_start, completed-end}

module _ (p : Parameters) where
  -- the interleaver keeps to its positions
  pub position_low : (i : ℕ) → i < p.figures.i → π_of p i < p.figures.i
  position_low i h = omega (arith, permuted-below _ _ p.permutation.ranges i (omega (arith, h, p.size)), p.size)

  module _ (work : List ℕ) (at : Progress) where
    -- a run at the first position
    module _ (fits : Fits p.figures (π_of p) work 0 (starting p.figures)) (coder : at.coder ≡ starting p.figures) (position : at.walk.position.0 ≡ 0) where
      pub stands_start : Walked (length p.permutation.alpha.now) at.walk → Stands p work at
      stands_start walked = record { fits = rw (position, coder) fits; walked = walked }

      pub completes_start : (out : List ℕ) → completes p work at out ≡ sets out 0 (written p work)
      completes_start out = rw (position, coder) (completed_start p.figures (π_of p) work out (omega (arith, p.deletes)) fits)

    -- and at the last
    module _ (stands : Stands p work at) (late : p.figures.i ≤ at.walk.position.0) where
      pub completes-end : (out : List ℕ) → completes p work at out ≡ finished at.coder out
      completes-end out = completed-end p.figures (π_of p) work at.walk.position.0 at.coder out late

  -- with a format's record and vectors
  module _ (f : ℕ) (h : is_format f ≡ true) (is : p.figures ≡ format_of f)
      (α-is : p.permutation.alpha.now ≡ (size_of (format_of f).w).α) (β-is : p.permutation.beta.now ≡ (size_of (format_of f).w).β) (work : List ℕ) where
    pub interleaved-is : interleaved p.figures (π_of p) work ≡ interleaved (format_of f) (π f) work
    interleaved-is = rw (format-π f h α-is β-is, is)

    pub fits_start : Fits p.figures (π_of p) work 0 (starting p.figures)
    fits_start = rw (format-π f h α-is β-is, is) (fits_whole f h work)

    pub written_is : (out : List ℕ) → N1 (format_of f) ≤ length out → sets out 0 (written p work) ≡ from_outer f work ++ drop (N1 (format_of f)) out
    unfolding from_outer
    written_is out room = rw (format-π f h α-is β-is, is) (front-written f h work out room)
