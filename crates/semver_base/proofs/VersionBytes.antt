-- The bytes of a version's text.
use Rattle.std.proofs.Common.{◌≡◌, ℕ, true, refl, arith}
use Rattle.std.specs.Char.{is_ascii_digit}
use Rattle.std.specs.List.{list_all}
use Rattle.std.proofs.lemmas.Bool.Decides.{nat_tests}
use Rattle.semver_base.specs.Lexical.{IsLooseNumber, IsQualifier}
use Rattle.semver_base.specs.VersionGrammar.{IsTriple, is_version}
use Rattle.semver_base.specs.VersionText.{IsWritable, VersionTextsAreBare, is_version_text_byte, version_text}
use Rattle.semver_base.specs.declared.lexical.values.Strictness.TheVariants.{Loose}
use Rattle.semver_base.specs.declared.version.Version.{Version}
use Rattle.semver_base.specs.ByteLaws.{MadeOf, joined_made, made_wider, mapped_made, prefixed_made, optional_made, run_made}
use Rattle.semver_base.specs.TokenLaws.{identifiers_made, is_identifiers_byte, pre_made}
use Rattle.semver_base.proofs.WrittenVersions.{version_joined}
use Rattle.semver_base.specs.WrittenLaws.{read_writable}

digit_passes : (b : ℕ) → is_ascii_digit b ≡ true → is_version_text_byte b ≡ true
digit_passes b h = grind (arith, nat_tests)

identifiers_pass : (b : ℕ) → is_identifiers_byte b ≡ true → is_version_text_byte b ≡ true
identifiers_pass b h = grind (arith, nat_tests)

number_made : MadeOf IsLooseNumber is_version_text_byte
number_made = mapped_made (made_wider is_ascii_digit is_version_text_byte digit_passes (run_made is_ascii_digit))

qualifier_made : MadeOf (IsQualifier Loose) is_version_text_byte
qualifier_made = mapped_made (joined_made (optional_made (made_wider is_identifiers_byte is_version_text_byte identifiers_pass (pre_made Loose)))
    (optional_made (prefixed_made (made_wider is_identifiers_byte is_version_text_byte identifiers_pass identifiers_made) 43 refl)))

triple_made : MadeOf IsTriple is_version_text_byte
triple_made = joined_made number_made (prefixed_made (joined_made number_made (prefixed_made number_made 46 refl)) 46 refl)

passes : (v : Version) → IsWritable v → list_all is_version_text_byte (version_text v) ≡ true
passes v h = (joined_made triple_made qualifier_made).made (version_text v) _ (version_joined v h)

pub version_bare : VersionTextsAreBare
version_bare text v (is_version h fits) = passes v (read_writable text v h fits)
