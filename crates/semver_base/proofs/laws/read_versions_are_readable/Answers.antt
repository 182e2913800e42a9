use Rattle.std.proofs.Common.{ℕ, List, Ok}
use Rattle.semver_base.specs.LowestVersion.{IsReadable}
use Rattle.semver_base.specs.VersionGrammar.{IsVersionOutcome, is_version}
use Rattle.semver_base.specs.declared.version.Version.{Version}
use Rattle.semver_base.specs.WrittenLaws.{read_writable}
use Rattle.semver_base.proofs.laws.read_versions_are_readable.Goals as goal

readable : (text : List ℕ) (v : Version) → IsVersionOutcome text (Ok v) → IsReadable v
readable text v (is_version h fits) = record { numbers = fits; pre = (read_writable text v h fits).pre }

pub returns : goal.returns
returns c = readable
