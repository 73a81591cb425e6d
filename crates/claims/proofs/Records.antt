-- The laws of the formats' records together.
use mathlib.Core.Path.{sym, ◌∙◌}
use Rattle.acm.proofs.Laws.{one_each, format-number, format-sound, all-soft}
use Rattle.trellis.specs.Trellis.{outer}
use Rattle.inner.proofs.Codewords.{from_outer-length}
use Rattle.encoder.specs.Codeword.{trellis_part}
use Rattle.encoder.proofs.Codewords.{part-long, outer-long, hard-long, both_long}
use Rattle.claims.specs.Records.{Counted, Balances, Soft, Sizes, Recording}

counted : Counted
counted = one_each

balances : Balances
balances f h =
    let s = format-sound f h in
    record { number = format-number f h; split = s.split; outer = s.outer; banks = s.banks; labels = s.labels; trellis = sym s.total; pieces = s.pieces }

soft : Soft
soft = all-soft

sizes : Sizes
sizes f h block e = record {
  part = part-long f h block e;
  kept = outer-long f h block e;
  trellis = from_outer-length f h (outer (trellis_part f block));
  hard = hard-long f h block e ∙ sym (format-sound f h).pieces;
  both = both_long f h block e;
}

pub recording : Recording
recording = record { counted = counted; balances = balances; soft = soft; sizes = sizes }
