-- Pilots among the labels (5.3, table 5-2): behind those of each sub-section. Figure 5-5, which draws them, is missing in our copy: that they
-- follow the labels was decided (docs/DECISIONS.md).
use Rattle.std.specs.Prelude.{List, ◌++◌, ℕ, zero, suc, ◌+◌, ◌*◌, ◌/◌, length, take, drop, replicate}

-- a sub-section: labels, and the pilots that follow them
abbrev pub subsection_labels : ℕ
subsection_labels = 540

abbrev pub subsection_pilots : ℕ
subsection_pilots = 16

abbrev pub subsection_length : ℕ
subsection_length = subsection_labels + subsection_pilots

-- the slot of a pilot
abbrev pub pilot : ℕ
pilot = 258

abbrev pub pilots : List ℕ
pilots = replicate subsection_pilots pilot

-- so many sub-sections, and the labels that are over
abbrev pub inserted : ℕ → List ℕ → List ℕ
inserted zero labels = labels
inserted (suc n) labels = take subsection_labels labels ++ pilots ++ inserted n (drop subsection_labels labels)

unfoldable pub with_pilots : List ℕ → List ℕ
with_pilots labels = inserted (length labels / subsection_labels) labels

-- the slots of so many labels
abbrev pub piloted_length : ℕ → ℕ
piloted_length n = n + n / subsection_labels * subsection_pilots
