-- The text of a version matches the grammar, and parses to that version.
use Rattle.std.proofs.Common.{◌≡◌, ℕ, true, List, [], ◌∷◌, ◌++◌, None, Ok, refl, sym, ap, ◌∙◌, append_assoc, decimal}
use Rattle.std.specs.Char.{is_not_whitespace}
use Rattle.std.specs.List.{list_all}
use Rattle.std.specs.Str.{trim}
use Rattle.std.proofs.lemmas.Str.{NoCharPasses-nil}
use Rattle.semver_base.specs.Grammar.{Joined}
use Rattle.semver_base.specs.Lexical.{IsWhitespace, IsQualifier, NoDigitFollows}
use Rattle.semver_base.specs.VersionGrammar.{IsLead, IsTriple, IsVersion, IsVersionOutcome, is_version}
use Rattle.semver_base.specs.VersionText.{IsWritable, prefixed, version_text, ReadsBack}
use Rattle.semver_base.specs.declared.lexical.values.Strictness.TheVariants.{Loose}
use Rattle.semver_base.specs.declared.version.Version.{Version}
use Rattle.semver_base.specs.ByteLaws.{MadeOf, joined_made, joined_some_text, prefixed_made}
use Rattle.semver_base.specs.SolidLaws.{ends_solid, is_solid_byte, number_made, qualifier_made, solid_all_ascii, some_text, starts_solid, trim_same}
use Rattle.semver_base.specs.TokenLaws.{loose_some}
use Rattle.semver_base.specs.WrittenLaws.{follow, after, loose_written, qualifier_written, no_digit_written, read_writable}

-- ---- texts of combined grammars

-- ---- numbers

-- ---- identifiers

-- ---- versions

no_lead : IsLead [] tt
no_lead =
    let whitespace : IsWhitespace [] tt = NoCharPasses-nil is_not_whitespace in
    record { value = None; stands = after [] [] None refl (after [] [] tt whitespace refl); is = refl }

triple_written : (v : Version) → IsWritable v → IsTriple (decimal v.major ++ (46 ∷ (decimal v.minor ++ (46 ∷ decimal v.patch)))) (v.major, (v.minor, v.patch))
triple_written v h = follow _ _ (loose_written v.major h.numbers.major) (refl, follow _ _ (loose_written v.minor h.numbers.minor) (refl, loose_written v.patch h.numbers.patch))

pub version_joined : (v : Version) → IsWritable v → Joined NoDigitFollows IsTriple (IsQualifier Loose) (version_text v) ((v.major, (v.minor, v.patch)), record { pre = v.pre; build = v.build })
version_joined v h = record {
  first = decimal v.major ++ (46 ∷ (decimal v.minor ++ (46 ∷ decimal v.patch)));
  second = prefixed 45 v.pre ++ prefixed 43 v.build;
  text_is = sym (append_assoc (decimal v.major) _ _ ∙ ap (λ t. decimal v.major ++ (46 ∷ t)) (append_assoc (decimal v.minor) _ _));
  in_first = triple_written v h;
  in_second = qualifier_written Loose v.pre v.build h.pre h.build;
  seam = no_digit_written v.pre v.build;
}

-- the text of a version parses back to that version
pub version_written : (v : Version) → IsWritable v → IsVersion (version_text v) v
version_written v h = record { value = _; stands = after [] (version_text v) tt no_lead (version_joined v h); is = refl }

pub triple_made : MadeOf IsTriple is_solid_byte
triple_made = joined_made number_made (prefixed_made (joined_made number_made (prefixed_made number_made 46 refl)) 46 refl)

pub version_solid : (v : Version) → IsWritable v → list_all is_solid_byte (version_text v) ≡ true
version_solid v h = (joined_made triple_made qualifier_made).made (version_text v) _ (version_joined v h)

pub version_trimmed : (v : Version) → IsWritable v → trim (version_text v) ≡ version_text v
version_trimmed v h =
    let some = some_text (joined_some_text (joined_some_text loose_some)) (version_text v) (version_joined v h) in
    let solid = version_solid v h in
    trim_same (version_text v) (solid_all_ascii (version_text v) solid) (starts_solid (version_text v) some solid) (ends_solid (version_text v) some solid)

-- so does the version parser's result for it
pub version_outcome : (v : Version) → IsWritable v → IsVersionOutcome (trim (version_text v)) (Ok v)
version_outcome v h = rw (version_trimmed v h) (is_version (version_written v h) h.numbers)

-- a version that a text parses to parses back from its own text
pub read_back : (text : List ℕ) (v : Version) → IsVersionOutcome text (Ok v) → ReadsBack v
read_back text v (is_version h fits) = version_outcome v (read_writable text v h fits)
