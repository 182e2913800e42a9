use Rattle.std.proofs.Common.{◌≡◌, ◌∙◌, Ok, Err, sym, inr}
use Rattle.std.specs.Str.{trim}
use Rattle.semver_base.specs.VersionGrammar.{IsVersionOutcome, version_failure}
use Rattle.semver_base.specs.declared.failure.Rejection.{Rejection}
use Rattle.semver_base.specs.declared.version.Version.{Version}
use Rattle.semver_req.specs.Parsers.{Failure}
use Rattle.answers.specs.ReadingLaws.{fault_read, value_read}
use Rattle.answers.specs.declared.asking.Kind.TheVariants as kind
use Rattle.answers.proofs.reading.version.Goals as goal

pub returns-in-Ok : goal.returns-in-Ok
returns-in-Ok c =
    let text = trim c.args.text.now in
    value_read kind.Version c.args.place (IsVersionOutcome text) (λ fault failure. failure ≡ version_failure fault text) c.in-Ok.version c.in-Ok.ensures.read (λ (v : Version) o. c.in-Ok.ensures.answer (Ok v) o)
    (λ (fault : Rejection) o. c.in-Ok.ensures.answer (Err fault) o)

pub returns-in-Err : goal.returns-in-Err
returns-in-Err c =
    let text = trim c.args.text.now in
    let shows = λ (fault : Rejection) (failure : Failure). failure ≡ version_failure fault text in
    rw c.of.ensures (fault_read kind.Version c.args.place (IsVersionOutcome text) shows c.in-Err.error.source (λ none. none) (λ fault is. inr is) (λ fault p q is same. is ∙ sym same) c.in-Err.ensures.rejected
    (λ (v : Version) o. c.in-Err.ensures.answer (Ok v) o) (λ (fault : Rejection) o. c.in-Err.ensures.answer (Err fault) o))
