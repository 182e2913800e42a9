use Rattle.std.proofs.lemmas.Result.{IfOk-weaker}
use Rattle.std.specs.Prelude.{string_bytes}
use Rattle.semver_req.specs.Rereading.{IsReadAsForms, KeepsEqual, KeepsStable, KeepsTheSame, MeansTheSame}
use Rattle.semver_req.proofs.Rereading.{of_text, rereadings, stabilizes}
use Rattle.semver_req.proofs.req.VersionReq.to_string_normalized.Goals as goal

pub returns-clause-forms : goal.returns-clause-forms
returns-clause-forms c = IfOk-weaker c.displayed.result _ _ (λ text is. of_text IsReadAsForms (λ ranges r. (rereadings ranges r).forms) c.args.self.now.inner (string_bytes text) is) (rw c.inner.ensures at c.displayed.ensures)

pub returns-clause-means : goal.returns-clause-means
returns-clause-means c = IfOk-weaker c.displayed.result _ _ (λ text is. of_text MeansTheSame (λ ranges r. (rereadings ranges r).means) c.args.self.now.inner (string_bytes text) is) (rw c.inner.ensures at c.displayed.ensures)

pub returns-clause-retained_means : goal.returns-clause-retained_means
returns-clause-retained_means c = IfOk-weaker c.displayed.result _ _ (λ text is. of_text KeepsTheSame (λ ranges r. (rereadings ranges r).retained_means) c.args.self.now.inner (string_bytes text) is) (rw c.inner.ensures at c.displayed.ensures)

pub returns-clause-equal : goal.returns-clause-equal
returns-clause-equal c = IfOk-weaker c.displayed.result _ _ (λ text is. of_text KeepsEqual (λ ranges r. (rereadings ranges r).equal) c.args.self.now.inner (string_bytes text) is) (rw c.inner.ensures at c.displayed.ensures)

pub returns-clause-stable : goal.returns-clause-stable
returns-clause-stable c = IfOk-weaker c.displayed.result _ _ (λ text is. of_text KeepsStable stabilizes c.args.self.now.inner (string_bytes text) is) (rw c.inner.ensures at c.displayed.ensures)
