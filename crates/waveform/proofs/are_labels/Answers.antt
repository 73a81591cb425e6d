use Prim.Native.Nat.{◌≤◌}
use Rattle.std.specs.Prelude.{◌↔◌, IsTrue}
use Rattle.std.specs.List.{All}
use Rattle.bits.proofs.Legal.{low_is}
use Rattle.waveform.specs.Waveform.{last_label}
use borrow.Author.Rules.{rules}
use Rattle.waveform.proofs.are_labels.Goals as goal

pub returns : goal.returns
returns c =
    let low : IsTrue c.all.result ↔ All (λ x. x ≤ last_label) c.args.slots.now = search rules in
    low_is last_label c.args.slots.now _ low
