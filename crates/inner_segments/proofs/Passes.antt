-- The two passes over the inner trellis: a segment's bits as they are read, and the second pass at a segment's start, where it is the plain run.
use mathlib.Core.Path.{◌≡◌, refl, sym, ap, ◌∙◌}
use mathlib.Core.List.{List, ◌++◌}
use Prim.Native.Nat.{ℕ, ◌-◌, ◌≤◌}
use native.Mathlib.Omega.{arith}
use lib.ListN.{length, take}
use lib.Seq.{take_at, drop_at}
use Rattle.trellis.specs.Trellis.{State, zero-state, ends}
use Rattle.coder.specs.Coder.{state_in}
use Rattle.inner.specs.Left.{starting, reads}
use Rattle.inner.specs.Lent.{π_of, Stands, completes}
use Rattle.inner.specs.Registers.{read_from, interleaved}
use Rattle.inner.specs.declared.parameters.Parameters.{Parameters}
use Rattle.inner.specs.declared.steps.Progress.{Progress}
use Rattle.inner.proofs.Reading.{read_length, reads_all, reads-split}
use Rattle.cuts.specs.Cuts.{between}
use Rattle.cuts.proofs.Propagations.{ends-between}
use Rattle.inner_segments.specs.Passes.{restarted}

-- the bits between two times
pub reads-between : (ρ : ℕ → ℕ) (work : List ℕ) (I from to : ℕ) → from ≤ to → to ≤ I → reads ρ work to from ≡ between from to (read_from ρ work 0 I)
reads-between ρ work I from to up low =
    let before = reads ρ work from 0 in
    let here = reads ρ work to from in
    let whole : read_from ρ work 0 I ≡ before ++ (here ++ reads ρ work I to) = sym (reads_all ρ work I) ∙ reads-split ρ work I 0 from (omega arith) (omega arith) ∙ ap (λ (l : List ℕ). before ++ l) (reads-split ρ work I from to up low) in
    sym
    (ap (between from to) whole
    ∙ ap (take (to - from)) (drop_at before (here ++ reads ρ work I to) from (read_length ρ work 0 (from - 0) ∙ omega arith))
    ∙ take_at here (reads ρ work I to) (to - from) (read_length ρ work from (to - from)))

-- a segment's starting state, set where the trellis is in it already
pub restarted-is : (at : Progress) (x : State) → x ≡ state_in at.coder → restarted at x ≡ at
restarted-is at x e =
    let c = at.coder in
    ap (λ (x : State). (record { walk = at.walk; coder = record { state = x; upper = c.upper; lower = c.lower; counter = c.counter } })) e

-- the second pass where a segment begins: it has left to store what the plain run has, and is in that run's state
pub record Along (p : Parameters) (work out₀ : List ℕ) (at₀ : Progress) (out : List ℕ) (at : Progress) : Type 0 where
  pub stands : Stands p work at
  pub state : state_in at.coder ≡ ends zero-state (take at.walk.position.0 (interleaved p.figures (π_of p) work))
  pub same : length out ≡ length out₀
  pub completing : completes p work at out ≡ completes p work at₀ out₀

pub along_start : {p : Parameters} {work : List ℕ} {at : Progress} → Stands p work at → at.coder ≡ starting p.figures → at.walk.position.0 ≡ 0 → (out : List ℕ)
    → Along p work out at out at
along_start stands coder position out = record { stands = stands; state = rw (coder, position); same = refl; completing = refl }

-- and so where it ends
module _ {p : Parameters} {work out₀ : List ℕ} {at₀ : Progress} {out : List ℕ} {at : Progress} (a : Along p work out₀ at₀ out at) (to : ℕ)
    (up : at.walk.position.0 ≤ to) (low : to ≤ p.figures.i) {from : Progress} (is : from ≡ at) where
  abbrev bits : List ℕ
  bits = interleaved p.figures (π_of p) work

  pub along_next : {new : List ℕ} {end : Progress} → Stands p work end → end.walk.position.0 ≡ to → length new ≡ length out
      → completes p work end new ≡ completes p work from out
      → state_in end.coder ≡ ends (state_in from.coder) (reads (π_of p) work to from.walk.position.0) → Along p work out₀ at₀ new end
  along_next {new} {end} stands position same completing state =
      let here = at.walk.position.0 in
      record {
        stands = stands;
        state =
            state ∙ ap (λ (q : Progress). ends (state_in q.coder) (reads (π_of p) work to q.walk.position.0)) is
            ∙ ap (λ (l : List ℕ). ends (state_in at.coder) l) (reads-between (π_of p) work p.figures.i here to up low)
            ∙ ap (λ (x : State). ends x (between here to bits)) a.state
            ∙ ends-between bits here to up ∙ ap (λ (n : ℕ). ends zero-state (take n bits)) (sym position);
        same = same ∙ a.same;
        completing = completing ∙ ap (λ (q : Progress). completes p work q out) is ∙ a.completing;
      }
