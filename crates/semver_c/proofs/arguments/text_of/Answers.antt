use Rattle.std.proofs.Common.{◌≡◌, IsUtf8, Ok, rules, subst, sym}
use Rattle.semver_c.specs.Arguments.{IsOnly, IsUtf8Text}
use Rattle.semver_c.proofs.Asking.{text_found, text_missing}
use Rattle.semver_c.proofs.arguments.text_of.Goals as goal

pub returns-in-Ok : goal.returns-in-Ok
returns-in-Ok c =
    let same : c.in-Ok.text.now ≡ c.args.bytes.now = search rules in
    let utf8 : IsUtf8 c.args.bytes.now = search rules in
    subst (λ text. IsOnly (IsUtf8Text c.args.bytes.now) (Ok text)) (sym same) (text_found c.args.bytes.now utf8)

pub returns-in-Err : goal.returns-in-Err
returns-in-Err c = text_missing c.args.bytes.now (search rules)
