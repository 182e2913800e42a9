use Rattle.std.proofs.Common.{◌≡◌, [], arith, IfErr, IfOk}
use Rattle.std.specs.Str.{trim}
use Rattle.std.proofs.lemmas.Bool.Decides.{nat_tests}
use Rattle.std.proofs.lemmas.List.{nil_from_length}
use Rattle.semver_base.proofs.ShortTexts.{short_version}
use Rattle.semver_base.specs.Failure.{source_of}
use Rattle.semver_base.proofs.VersionReading.{read_answer, read_outcome, rejected_answer}
use Rattle.semver_base.specs.VersionGrammar.{IsVersionRejection}
use Rattle.semver_base.specs.VersionParserSteps.{IsReadVersion}
use Rattle.semver_base.proofs.WrittenVersions.{read_back}
use Rattle.semver_base.proofs.version.Version.parse_standard.Goals as goal
use Rattle.semver_base.proofs.version.Version.parse_standard.Goals.{in-Some-2, in-None}

pub returns-in-Ok-clause-read : goal.returns-in-Ok-clause-read
returns-in-Ok-clause-read c =
    let read : IfOk c.match-split_numbers.read (IsReadVersion (trim c.args.text.now)) = elim c.match-split_numbers.branch
    [ in-Some-2 w ↦ rw w.read-is w.read_on-read.ensures.read | in-None w ↦ rw w.read-is (rw w.trim.ensures.trim at w.read-read.ensures.read) ] in
    let version : IsReadVersion (trim c.args.text.now) c.in-Ok.version = rw c.in-Ok.is at read in
    read_outcome version

pub returns-in-Ok-clause-reads_back : goal.returns-in-Ok-clause-reads_back
returns-in-Ok-clause-reads_back c =
    let read : IfOk c.match-split_numbers.read (IsReadVersion (trim c.args.text.now)) = elim c.match-split_numbers.branch
    [ in-Some-2 w ↦ rw w.read-is w.read_on-read.ensures.read | in-None w ↦ rw w.read-is (rw w.trim.ensures.trim at w.read-read.ensures.read) ] in
    let version : IsReadVersion (trim c.args.text.now) c.in-Ok.version = rw c.in-Ok.is at read in
    read_back (trim c.args.text.now) c.in-Ok.version (read_outcome version)

pub returns-in-Ok-clause-answer : goal.returns-in-Ok-clause-answer
returns-in-Ok-clause-answer c =
    let read : IfOk c.match-split_numbers.read (IsReadVersion (trim c.args.text.now)) = elim c.match-split_numbers.branch
    [ in-Some-2 w ↦ rw w.read-is w.read_on-read.ensures.read | in-None w ↦ rw w.read-is (rw w.trim.ensures.trim at w.read-read.ensures.read) ] in
    let version : IsReadVersion (trim c.args.text.now) c.in-Ok.version = rw c.in-Ok.is at read in
    read_answer source_of (trim c.args.text.now) c.in-Ok.version version

pub returns-in-Err-clause-rejected : goal.returns-in-Err-clause-rejected
returns-in-Err-clause-rejected c =
    let rejected : IfErr c.match-split_numbers.read (IsVersionRejection (trim c.args.text.now)) = elim c.match-split_numbers.branch
    [ in-Some-2 w ↦ rw w.read-is w.read_on-read.ensures.rejected | in-None w ↦ rw w.read-is (rw w.trim.ensures.trim at w.read-read.ensures.rejected) ] in
    rw c.in-Err.is at rejected

pub returns-in-Err-clause-answer : goal.returns-in-Err-clause-answer
returns-in-Err-clause-answer c =
    let rejected : IfErr c.match-split_numbers.read (IsVersionRejection (trim c.args.text.now)) = elim c.match-split_numbers.branch
    [ in-Some-2 w ↦ rw w.read-is w.read_on-read.ensures.rejected | in-None w ↦ rw w.read-is (rw w.trim.ensures.trim at w.read-read.ensures.rejected) ] in
    rejected_answer source_of (trim c.args.text.now) (record { source = c.in-Err.source }) (rw c.in-Err.is at rejected)

-- three numbers alone
pub returns-in-Some-clause-read : goal.returns-in-Some-clause-read
returns-in-Some-clause-read c =
    let nil : c.in-Some.rest.now ≡ [] = nil_from_length c.in-Some.rest.now (grind (arith, nat_tests)) in
    let plain = short_version {numbers = c.in-Some.numbers} (rw nil at c.in-Some.ensures.numbers) in
    rw (plain.trimmed, c.release.ensures) (read_outcome plain.version)

pub returns-in-Some-clause-reads_back : goal.returns-in-Some-clause-reads_back
returns-in-Some-clause-reads_back c =
    let nil : c.in-Some.rest.now ≡ [] = nil_from_length c.in-Some.rest.now (grind (arith, nat_tests)) in
    let plain = short_version {numbers = c.in-Some.numbers} (rw nil at c.in-Some.ensures.numbers) in
    read_back c.args.text.now c.release.result (rw c.release.ensures (read_outcome plain.version))

pub returns-in-Some-clause-answer : goal.returns-in-Some-clause-answer
returns-in-Some-clause-answer c =
    let nil : c.in-Some.rest.now ≡ [] = nil_from_length c.in-Some.rest.now (grind (arith, nat_tests)) in
    let plain = short_version {numbers = c.in-Some.numbers} (rw nil at c.in-Some.ensures.numbers) in
    rw plain.trimmed (read_answer source_of c.args.text.now c.release.result (rw c.release.ensures plain.version))
