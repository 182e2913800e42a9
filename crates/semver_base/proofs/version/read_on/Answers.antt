use Rattle.std.proofs.Common.{◌≡◌, [], arith, refl}
use Rattle.std.proofs.lemmas.Bool.Decides.{nat_tests}
use Rattle.std.proofs.lemmas.List.{nil_from_length}
use Rattle.semver_base.proofs.ShortTexts.{qualified_version}
use Rattle.semver_base.proofs.version.read_on.Goals as goal

pub returns-then-is_empty-clause-read : goal.returns-then-is_empty-clause-read
returns-then-is_empty-clause-read c =
    let nil : c.in_ok-qualifier.rest.now ≡ [] = nil_from_length c.in_ok-qualifier.rest.now (grind (arith, nat_tests)) in
    let plain = qualified_version {numbers = record { major = c.args.major; minor = c.args.minor; patch = c.args.patch }} c.requires (record {
      qualifier = c.in_ok-qualifier.qualifier;
      longest = rw nil at c.in_ok-qualifier.ensures;
      version_is = refl;
    }) in
    rw plain.trimmed plain.version

pub returns-clause-read : goal.returns-clause-read
returns-clause-read c = rw c.trim.ensures.trim at c.read.ensures.read

pub returns-clause-rejected : goal.returns-clause-rejected
returns-clause-rejected c = rw c.trim.ensures.trim at c.read.ensures.rejected
