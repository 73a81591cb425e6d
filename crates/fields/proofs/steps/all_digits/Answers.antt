use mathlib.Core.Path.{◌≡◌}
use mathlib.Core.Bool.{true}
use mathlib.Core.Logic.{◌↔◌}
use borrow.Author.Rules.{rules}
use Rattle.std.specs.Prelude.{IsTrue}
use Rattle.std.specs.List.{All}
use Rattle.fields.specs.Fields.{is_digit}
use Rattle.fields.proofs.Scans.{digits_checked}
use Rattle.fields.proofs.steps.all_digits.Goals as goal

pub returns : goal.returns
returns c =
    let each : IsTrue c.all.result ↔ All (λ b. is_digit b ≡ true) c.args.text.now = search rules in
    digits_checked _ _ each
