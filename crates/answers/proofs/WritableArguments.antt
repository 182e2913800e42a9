-- The texts of what arguments parse to parse back.
use Rattle.std.proofs.Common.{◌≡◌, ℕ, List, Ok, Err, Result, inl, inr, refl, ◌⊎◌, subst}
use Rattle.std.specs.Str.{trim}
use Rattle.semver_base.specs.NormalText.{AreWritableRanges}
use Rattle.semver_base.specs.VersionGrammar.{IsVersionOutcome, is_version}
use Rattle.semver_base.specs.VersionText.{IsWritable}
use Rattle.semver_base.specs.WrittenLaws.{read_writable}
use Rattle.semver_base.specs.declared.range.VersionRangeSet.{VersionRangeSet}
use Rattle.semver_base.specs.declared.version.Version.{Version}
use Rattle.semver_req.specs.Parsers.{IsReadOrTag}
use Rattle.semver_req.specs.Rereading.{ReadRangesAreWritable}
use Rattle.semver_req.specs.declared.range_set_or_tag.RangeSetOrTag.{RangeSetOrTag}
use Rattle.semver_req.specs.declared.range_set_or_tag.RangeSetOrTag.TheVariants as inner
use Rattle.answers.specs.Asking.{Fault, IsAnswer, OutOfMemory}
use Rattle.answers.specs.AskingLaws.{as_fault, as_value, fault_no_value, same_value, value_no_fault}
use Rattle.answers.specs.Reading.{IsVersionAt, IsVersionRead, Parsed, not_parsed, parsed}
use Rattle.answers.specs.declared.asking.Kind.TheVariants as kind

outcome_writable : (text : List ℕ) (v : Version) → IsVersionOutcome text (Ok v) → IsWritable v
outcome_writable text v (is_version h fits) = read_writable text v h fits

parsed_writable : (text : List ℕ) (v : Version) (o : Result Version Fault) → o ≡ as_value v → Parsed kind.Version 0 (IsVersionRead text) o → IsWritable v
parsed_writable text v o e (parsed {x = w} h) = subst IsWritable (same_value w v e) (outcome_writable (trim text) w h)
parsed_writable text v o e (not_parsed some h) = absurd (fault_no_value v _ e)

pub version_writable : (text : List ℕ) (v : Version) → IsAnswer (IsVersionAt 0 text) (λ (w : Version). w) (Ok v) → IsWritable v
version_writable text v h = go h.is
  where
    go : (as_value v ≡ as_fault OutOfMemory) ⊎ Parsed kind.Version 0 (IsVersionRead text) (as_value v) → IsWritable v
    go (inl none) = absurd (value_no_fault v OutOfMemory none)
    go (inr was) = parsed_writable text v (as_value v) refl was

pub set_writable : ReadRangesAreWritable → (read : RangeSetOrTag) (set : VersionRangeSet) → read ≡ inner.RangeSet set → IsReadOrTag read → AreWritableRanges set.0
set_writable law read set is h = law.sets set.0 (rw is at h)
