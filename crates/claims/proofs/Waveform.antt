-- Points of symbols, from the laws of the constellation, of the sequences and of the call.
use mathlib.Core.Path.{◌≡◌, refl, sym}
use mathlib.Core.Bool.{true}
use Prim.Native.Nat.{ℕ, zero, suc, ◌+◌, ◌*◌, ◌%◌, ◌≤◌, ◌<◌}
use native.Mathlib.Omega.{arith}
use borrow.Author.Tests.{leb-true, ltb-true}
use lib.Dec.{lit<}
use lib.Ieee.{Float}
use lib.ListN.{length}
use Rattle.std.specs.Float.{float_zero}
use Rattle.bits.specs.Checks.{◌or_else◌, passed}
use Rattle.bits.proofs.Passed.{passes}
use Rattle.bits.proofs.Table.{left-true, right_true}
use Rattle.constellation.specs.Points.{point, turned}
use Rattle.constellation.specs.Table.{entries}
use Rattle.constellation.proofs.Rings.{on-a-ring, ring, ring_full}
use Rattle.constellation.proofs.Turns.{four-turns, three-turns}
use Rattle.m_sequences.specs.MSequences.{period, symbol, word_at, x, y}
use Rattle.m_sequences.proofs.Period.{symbol-again, x-period, y-period}
use Rattle.m_sequences.proofs.Recursions.{x_next, x_zeros, y_next, y_ones}
use Rattle.gold.specs.Gold.{R, half, z}
use Rattle.waveform.specs.Waveform.{point_checks, point_number}
use Rattle.waveform.proofs.Passing.{each_passes, formats-alike, symbol_passes}
use Rattle.waveform.proofs.Rows.{coordinates_at, coordinates_length}
use Rattle.claims.specs.Waveform.{AnnexE, Each, Full, InARow, OnRings, Passes, Some, Turns, Waveform}

on_rings : OnRings
on_rings label h = let r = on-a-ring label (omega arith) in (ring label, r.0, r.1, r.2)

full : Full
full zero l h = absurd (omega arith)
full (suc k) l h = ring_full k (omega arith)

turns : (i q : Float) → Turns i q
unfolding turned
turns i q =
    record {
      none = refl;
      one = refl;
      two = refl;
      three = sym (three-turns (point i q));
      four = four-turns (point i q);
    }

annex_E : AnnexE
unfolding word_at R
annex_E =
    record {
      x_one = refl;
      x_zeros = zeros;
      y_ones = λ i h. y_ones i (omega arith);
      x_next = x_next;
      y_next = y_next;
      z_is = λ n i. refl;
      R_is = λ n i. refl;
      R-most = λ n i. omega arith;
      x_again = symbol-again x x-period;
      y_again = symbol-again y y-period;
    }
  where
    zeros : (i : ℕ) → 1 ≤ i → i ≤ 17 → symbol x i ≡ 0
    zeros zero l h = absurd (omega arith)
    zeros (suc i) l h = x_zeros i (omega arith)

passes_asked : Passes
unfolding point_number
passes_asked f slot code i = (
  λ e.
      let part = passes (point_checks f slot code i) (true or_else passed) refl e in
      let known = part 0 (lit< tt) in
      record {
        least = leb-true _ _ (left-true _ _ known);
        most = leb-true _ _ (right_true _ _ known);
        label = leb-true _ _ (part 1 (lit< tt));
        legal = part 2 (lit< tt);
        inside = ltb-true _ _ (part 3 (lit< tt));
      },
  λ a. symbol_passes f slot code i a.least a.most a.label a.legal a.inside,
)

in-a-row : InARow
in-a-row f slots code i room e = (coordinates_length code i slots, each)
  where
    each : (k : ℕ) → k < length slots → Each f slots code i k
    each k h =
        let at = coordinates_at code i slots float_zero k h in
        record { asked = each_passes f slots code i room e k h; in-phase = at.in-phase; quadrature = at.quadrature }

low_one : z 0 18 ≡ 1
unfolding word_at
low_one = refl

turned_18 : R 0 18 % 2 ≡ 1
unfolding R
turned_18 = odd (z 0 ((18 + half) % period)) (z 0 18) low_one
  where
    odd : (n b : ℕ) → b ≡ 1 → (2 * n + b) % 2 ≡ 1
    odd n b e = omega (arith, e)

some : Some
unfolding point_number entries
some = record { plain = refl; scrambled = refl; is_turned = turned_18; second-ring = refl }

pub waveform : Waveform
waveform =
    record {
      on_rings = on_rings;
      full = full;
      turns = turns;
      annex_E = annex_E;
      passes = passes_asked;
      formats = λ f slot code i l h. formats-alike f slot code i l h;
      in-a-row = in-a-row;
      some = some;
    }
