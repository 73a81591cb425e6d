-- Place by place, the number that a call of the closure gave.
use Rattle.std.proofs.Common.{◌≡◌, refl, ◌∙◌, ℕ, ◌+◌, ◌<◌, List, map, length, get_or, arith}
use lib.ListN.{get_or-map, length-map}
use Rattle.std.specs.List.{range_with_len}
use Rattle.std.proofs.lemmas.List.{ext_get_or}
use Rattle.std.proofs.lemmas.List.FromFn.{get_or-range_with_len}
use Rattle.acm.specs.declared.number.AcmFormat.{AcmFormat}
use Rattle.acm.specs.Formats.{last_format}
use Rattle.acm.proofs.number.AcmFormat.all.Goals as goal

abbrev first : AcmFormat
first = record { number = 1; listed = refl }

numbers : (fs : List AcmFormat) → length fs ≡ last_format → ((i : ℕ) (f : AcmFormat) → i < last_format → (get_or fs i f).number ≡ i + 1)
    → map (λ (f : AcmFormat). f.number) fs ≡ range_with_len 1 last_format
numbers fs long each =
    let number : AcmFormat → ℕ = λ f. f.number in
    let all = length-map fs number ∙ long in
    ext_get_or 1 (map number fs) (range_with_len 1 last_format) all
    (λ i h.
    let low = rw all at h in
    get_or-map number fs i first ∙ each i first low ∙ omega (arith, get_or-range_with_len 1 last_format i 1 low))

pub returns : goal.returns
returns c = numbers c.from_fn.result c.from_fn.ensures.items.long (λ i f h. (c.from_fn.ensures.items.at i f h).2.met)
