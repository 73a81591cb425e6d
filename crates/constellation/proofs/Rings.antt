-- The table's points and the rings, by computing.
use mathlib.Core.Path.{◌≡◌, refl}
use mathlib.Core.Bool.{Bool, true, cond, ◌&&◌}
use Prim.Native.Nat.{ℕ, zero, suc, ◌-◌, ◌*◌, ◌≤◌, ◌<◌}
use borrow.Author.Tests.{eqb-true, leb-true}
use lib.Dec.{eqb, leb}
use lib.ListN.{length}
use Rattle.std.specs.List.{filter}
use Rattle.bits.proofs.Table.{below_at, left-true, right_true}
use Rattle.constellation.specs.Table.{Entry, entries, entry_of}
use Rattle.constellation.specs.Rings.{on_ring, rings}

-- the largest ring up to n that a point is on, 0 if there is none
unfoldable ring_from : ℕ → Entry → ℕ
ring_from zero e = 0
ring_from (suc n) e = cond (on_ring (suc n) e) (suc n) (ring_from n e)

pub ring : ℕ → ℕ
unfolding ring_from entries
ring label = ring_from rings (entry_of label)

ringed : ℕ → Bool
unfolding ring entries
ringed label = leb 1 (ring label) && (leb (ring label) rings && on_ring (ring label) (entry_of label))

pub on-a-ring : (label : ℕ) → label < 256 → (1 ≤ ring label) × (ring label ≤ rings) × (on_ring (ring label) (entry_of label) ≡ true)
unfolding ringed
on-a-ring label h =
    let all = below_at ringed 256 refl label h in
    let rest = right_true _ _ all in
    (leb-true _ _ (left-true _ _ all), leb-true _ _ (left-true _ _ rest), right_true _ _ rest)

full : ℕ → Bool
unfolding entries
full k = eqb (length (filter (on_ring (suc k)) entries)) (4 * (2 * suc k - 1))

pub ring_full : (k : ℕ) → k < rings → length (filter (on_ring (suc k)) entries) ≡ 4 * (2 * suc k - 1)
unfolding full
ring_full k h = eqb-true _ _ (below_at full rings refl k h)
