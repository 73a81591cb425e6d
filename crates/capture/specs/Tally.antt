-- The judgement as the code keeps it, sample by sample, and whether a coordinate was none from -2 to 2. What a judgement is does not stand on it.
use Rattle.std.specs.Prelude.{not, ◌||◌, List, ℕ, ◌+◌, eqb, if◌then◌else◌, Some}
use Rattle.std.specs.Option.{option_or}
use Rattle.nearest.specs.Nearest.{nearest_label}
use Rattle.samples.specs.declared.Sample.{Sample}
use Rattle.samples.specs.declared.Sample.TheVariants.{Lost, Pair}
use Rattle.samples.specs.Samples.{sample_in_range}
use Rattle.capture.specs.declared.Judgement.{Judgement}
use Rattle.capture.specs.declared.Tally.{Tally}
use Rattle.capture.specs.Judgement.{all_in_range, judgement}

abbrev pub total : Judgement → ℕ
total j = j.agreeing + j.differing + j.lost

-- one sample more, at a place
abbrev pub with_sample : Judgement → ℕ → ℕ → Sample → Judgement
with_sample j place label Lost = record { agreeing = j.agreeing; differing = j.differing; lost = j.lost + 1; first = j.first }
with_sample j place label (Pair i q) =
    if eqb (nearest_label i q) label
    then record { agreeing = j.agreeing + 1; differing = j.differing; lost = j.lost; first = j.first }
    else record { agreeing = j.agreeing; differing = j.differing + 1; lost = j.lost; first = option_or j.first (Some place) }

abbrev pub tallied : Tally → ℕ → ℕ → Sample → Tally
tallied t place label sample =
    record { judgement = with_sample t.judgement place label sample; outside = t.outside || not (sample_in_range sample) }

abbrev pub tally_of : List ℕ → List Sample → Tally
tally_of labels samples = record { judgement = judgement labels samples; outside = not (all_in_range samples) }
