-- What the reader makes of a text, step by step, and that it goes back and forth: of the text of a line's numbers it makes these, and a text of
-- which it makes numbers is theirs.
use mathlib.Core.Path.{◌≡◌, refl, sym, ap, ap₂, ◌∙◌}
use mathlib.Core.Bool.{true, false, ◌&&◌, false≢true}
use mathlib.Core.List.{List, [], ◌∷◌, ◌++◌}
use Prim.Native.Nat.{ℕ, ◌^◌}
use native.Mathlib.Omega.{arith}
use borrow.Author.Tests.{eqb-true, lt-ltb, ltb-true}
use lib.Dec.{eqb}
use lib.ListN.{length, length-append}
use Rattle.std.specs.Prelude.{Option, Some, None}
use Rattle.std.proofs.NetLemmas.Options.{and_then_some, cond_some, map_some}
use Rattle.bits.specs.Place.{place}
use Rattle.bits.specs.Same.{same}
use Rattle.bits.proofs.Cases.{by_cases}
use Rattle.bits.proofs.Same.{same-equal}
use Rattle.bits.proofs.Table.{left-true, right_true}
use Rattle.ascii.specs.Text.{comma, line_feed, dash, decimal}
use Rattle.fields.specs.Fields.{is_digit, all_digits, cut_at, field_of}
use Rattle.fields.proofs.Cuts.{cut_read, cut_written, cut-none, digits_without, place_behind}
use Rattle.fields.proofs.Digits.{decimal-digits}
use Rattle.fields.proofs.Numbers.{number_read, number_written}
use Rattle.job_line.specs.declared.steps.Added.{Added}
use Rattle.job_line.specs.declared.steps.Line.{Line}
use Rattle.job_line.specs.Reader.{field, ended_of, code_read, with_code, added_read, behind_format, line_read}
use Rattle.job_line.specs.Line.{old_line, longer_line, field_digits, code_digits, code_text, added_text, text_of, field_fits, code_fits, added_fits, fits}

-- from the writer's side
pub number_without : (b : ℕ) → is_digit b ≡ false → (n : ℕ) → place b (decimal n) ≡ length (decimal n)
number_without b other n = digits_without b other (decimal n) (decimal-digits n)

pub code_without : (c : Option ℕ) → place line_feed (code_text c) ≡ length (code_text c)
unfolding place
code_without None = refl
code_without (Some n) = number_without line_feed refl n

field_written : (n : ℕ) → field_fits n ≡ true → field (decimal n) ≡ Some n
field_written n h = number_written field_digits n (ltb-true n (10 ^ field_digits) h)

ended_written : (xs : List ℕ) → place line_feed xs ≡ length xs → ended_of (xs ++ line_feed ∷ []) ≡ Some xs
ended_written xs without = rw (cut_written line_feed xs [] without)

dash-other : false ≡ all_digits (dash ∷ [])
unfolding all_digits
dash-other = refl

pub no_dash : (n : ℕ) → same (decimal n) (dash ∷ []) ≡ false
no_dash n =
    by_cases
    (same (decimal n) (dash ∷ []))
    (λ t. absurd (false≢true (dash-other ∙ sym (ap all_digits (same-equal _ _ t)) ∙ decimal-digits n)))
    (λ f. f)

code_written : (c : Option ℕ) → code_fits c ≡ true → code_read (code_text c) ≡ Some c
code_written None h = refl
code_written (Some n) h = rw (no_dash n, number_written code_digits n (ltb-true n (10 ^ code_digits) h))

added_written : (pilots : ℕ) (c : Option ℕ) → field_fits pilots ≡ true → code_fits c ≡ true
    → added_read (decimal pilots ++ comma ∷ (code_text c ++ line_feed ∷ [])) ≡ Some (with_code pilots c)
added_written pilots c h h' =
    rw (cut_written comma (decimal pilots) (code_text c ++ line_feed ∷ []) (number_without comma refl pilots), field_written pilots h, ended_written (code_text c) (code_without c), code_written c h')

no_comma : (p : ℕ) → cut_at comma (decimal p ++ line_feed ∷ []) ≡ None
unfolding place
no_comma p = cut-none comma (decimal p ++ line_feed ∷ []) (place_behind comma (decimal p) (line_feed ∷ []) (number_without comma refl p) ∙ sym (length-append (decimal p) (line_feed ∷ [])))

pattern_written : (f p : ℕ) (a : Option Added) → field_fits p ≡ true → added_fits a ≡ true
    → (let rest = decimal p ++ added_text a in behind_format f rest (cut_at comma rest)) ≡ Some (record { format = f; pattern = p; added = a })
pattern_written f p None h h' = rw (no_comma p, ended_written (decimal p) (number_without line_feed refl p), field_written p h)
pattern_written f p (Some a) h h' =
    let low = left-true (field_fits a.pilots) (code_fits a.code) h' in
    let low' = right_true (field_fits a.pilots) (code_fits a.code) h' in
    rw (cut_written comma (decimal p) (decimal a.pilots ++ comma ∷ (code_text a.code ++ line_feed ∷ [])) (number_without comma refl p), field_written p h, added_written a.pilots a.code low low')

-- the three tests of a line's numbers
pub record Low (l : Line) : Type 0 where
  pub format : field_fits l.format ≡ true
  pub pattern : field_fits l.pattern ≡ true
  pub added : added_fits l.added ≡ true

pub low_of : (l : Line) → fits l ≡ true → Low l
low_of l h =
    let both = left-true (field_fits l.format && field_fits l.pattern) (added_fits l.added) h in
    record {
      format = left-true (field_fits l.format) (field_fits l.pattern) both;
      pattern = right_true (field_fits l.format) (field_fits l.pattern) both;
      added = right_true (field_fits l.format && field_fits l.pattern) (added_fits l.added) h;
    }

pub line_written : (l : Line) → fits l ≡ true → line_read (text_of l) ≡ Some l
line_written l h =
    let low = low_of l h in
    rw (cut_written comma (decimal l.format) (decimal l.pattern ++ added_text l.added) (number_without comma refl l.format), field_written l.format low.format)
    (pattern_written l.format l.pattern l.added low.pattern low.added)

-- and from the reader's
field_is : (text : List ℕ) (n : ℕ) → field text ≡ Some n → (text ≡ decimal n) × (field_fits n ≡ true)
field_is text n e =
    let (low, is) = number_read field_digits text n e in
    (is, lt-ltb n (10 ^ field_digits) low)

ended_is : (text xs : List ℕ) → ended_of text ≡ Some xs → text ≡ xs ++ line_feed ∷ []
ended_is text xs e =
    and_then_some _ (cut_at line_feed text) _ e λ parts cut kept.
    let (none, is) = cond_some (eqb (length parts.1) 0) parts.0 xs kept in
    cut_read line_feed text cut ∙ ap₂ (λ (l r : List ℕ). l ++ line_feed ∷ r) is (nothing parts.1 (eqb-true (length parts.1) 0 none))
  where
    nothing : (ys : List ℕ) → length ys ≡ 0 → ys ≡ []
    nothing [] z = refl
    nothing (y ∷ ys) z = absurd (omega (arith, z))

code_is : (text : List ℕ) (c : Option ℕ) → code_read text ≡ Some c → (text ≡ code_text c) × (code_fits c ≡ true)
code_is text c e =
    by_cases
    (same text (dash ∷ []))
    (λ t.
    let is : Some None ≡ Some c = rw t at e in
    let is' : None ≡ c = cc in
    rw (← is') (same-equal _ _ t, refl))
    (λ f.
    map_some Some (field_of code_digits text) c (rw f at e) λ n read is.
    let (low, text-is) = number_read code_digits text n read in
    rw (← is) (text-is, lt-ltb n (10 ^ code_digits) low))

added_is : (text : List ℕ) (a : Added) → added_read text ≡ Some a
    → (text ≡ decimal a.pilots ++ comma ∷ (code_text a.code ++ line_feed ∷ [])) × (added_fits (Some a) ≡ true)
added_is text a e =
    and_then_some _ (cut_at comma text) _ e λ parts cut e₁.
    and_then_some _ (field parts.0) _ e₁ λ pilots read e₂.
    and_then_some _ (ended_of parts.1) _ e₂ λ last ended e₃.
    map_some (with_code pilots) (code_read last) _ e₃ λ c read-code is.
    let (first, low) = field_is parts.0 pilots read in
    let (second, low') = code_is last c read-code in
    let rest = ended_is parts.1 last ended ∙ ap (λ (xs : List ℕ). xs ++ line_feed ∷ []) second in
    rw (← is) (cut_read comma text cut ∙ ap₂ (λ (l r : List ℕ). l ++ comma ∷ r) first rest, rw (low, low'))

pattern_is : (f : ℕ) (rest : List ℕ) (cut : Option (List ℕ × List ℕ)) (l : Line) → cut_at comma rest ≡ cut → behind_format f rest cut ≡ Some l
    → (l.format ≡ f) × (rest ≡ decimal l.pattern ++ added_text l.added) × (field_fits l.pattern ≡ true) × (added_fits l.added ≡ true)
pattern_is f rest None l cut e =
    and_then_some _ (ended_of rest) _ e λ last ended e₁.
    map_some (old_line f) (field last) _ e₁ λ p read is.
    let (first, low) = field_is last p read in
    rw (← is) (refl, ended_is rest last ended ∙ ap (λ (xs : List ℕ). xs ++ line_feed ∷ []) first, low, refl)
pattern_is f rest (Some parts) l cut e =
    and_then_some _ (field parts.0) _ e λ p read e₁.
    map_some (longer_line f p) (added_read parts.1) _ e₁ λ a read-added is.
    let (first, low) = field_is parts.0 p read in
    let (second, low') = added_is parts.1 a read-added in
    rw (← is) (refl, cut_read comma rest cut ∙ ap₂ (λ (l r : List ℕ). l ++ comma ∷ r) first second, low, low')

pub line_is : (text : List ℕ) (l : Line) → line_read text ≡ Some l → (text ≡ text_of l) × (fits l ≡ true)
line_is text l e =
    and_then_some _ (cut_at comma text) _ e λ parts cut e₁.
    and_then_some _ (field parts.0) _ e₁ λ f read e₂.
    let (first, low) = field_is parts.0 f read in
    let (is, rest, low', low'') = pattern_is f parts.1 _ l refl e₂ in
    rw is (cut_read comma text cut ∙ ap₂ (λ (l r : List ℕ). l ++ comma ∷ r) first rest, rw (low, low', low''))
