use Rattle.std.proofs.Common.{rules}
use Rattle.deno_semver.proofs.NameAndVersion.{bad_answer, bad_rejection, followed_answer, followed_rejection, whole_answer, whole_read}
use Rattle.deno_semver.proofs.NvText.{reads_back}
use Rattle.deno_semver.proofs.Runs.{none_left, some_left}
use Rattle.deno_semver.proofs.package.values.PackageNv.from_str.Goals as goal

pub returns-in-Err-clause-parsed : goal.returns-in-Err-clause-parsed
returns-in-Err-clause-parsed c =
    record { read = search rules; rejected = bad_rejection c.in-Err.ensures.rejected; answer = bad_answer c.in-Err.ensures.answer }

pub returns-then-not-is_empty-clause-parsed : goal.returns-then-not-is_empty-clause-parsed
returns-then-not-is_empty-clause-parsed c =
    let left = some_left _ _ c.is_empty.ensures c.if-not-is_empty.true in
    record {
      read = search rules;
      rejected = followed_rejection c.in-Ok.ensures.read left c.unexpected.ensures;
      answer = followed_answer c.in-Ok.ensures.answer left c.unexpected.ensures;
    }

pub returns-clause-parsed : goal.returns-clause-parsed
returns-clause-parsed c =
    let none = none_left _ _ c.is_empty.ensures c.if-not-is_empty.false in
    record { read = whole_read c.in-Ok.ensures.read none; rejected = search rules; answer = whole_answer c.in-Ok.ensures.answer none }

pub returns-clause-reads_back : goal.returns-clause-reads_back
returns-clause-reads_back c = reads_back c.in-Ok.ensures.read c.in-Ok.ensures.plain c.in-Ok.ensures.reads_back
