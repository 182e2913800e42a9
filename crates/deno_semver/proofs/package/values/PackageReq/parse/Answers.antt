use Rattle.std.proofs.Common.{◌≡◌, true, false, inr, refl, rules}
use Rattle.deno_semver.specs.PackageOutcome.{is_package}
use Rattle.deno_semver.specs.PackageText.{lacks_at}
use Rattle.deno_semver.proofs.PackageFaults.{read_answer, rejected, rejected_answer}
use Rattle.deno_semver.proofs.package.values.PackageReq.parse.Goals.{else-contains-via-then-contains+else-not-starts_with_at, else-contains-via-else-contains}
use Rattle.deno_semver.proofs.package.values.PackageReq.parse.Goals as goal

pub returns-in-Ok : goal.returns-in-Ok
returns-in-Ok c = record {
  read = is_package c.in-Ok.ensures;
  rejected = search rules;
  answer = read_answer c.texts_have_one_outcome.ensures c.in-Ok.req c.in-Ok.ensures;
}

pub returns-then-not-starts_with_at : goal.returns-then-not-starts_with_at
returns-then-not-starts_with_at c =
    let lacks : lacks_at c.args.text.now ≡ true = search rules in
    record {
      read = search rules;
      rejected = rejected c.texts_have_one_outcome.ensures c.in-Err.source _ c.in-Err.ensures (inr (record { no_memory = search rules; source_is = rw lacks refl; text_is = search rules }));
      answer = rejected_answer c.texts_have_one_outcome.ensures c.in-Err.source _ c.in-Err.ensures (inr (record { no_memory = search rules; source_is = rw lacks refl; text_is = search rules }));
    }

pub returns : goal.returns
returns c =
    let has : lacks_at c.args.text.now ≡ false = elim c.else-contains.branch [
      | else-contains-via-then-contains+else-not-starts_with_at w ↦ search rules
      | else-contains-via-else-contains w ↦ search rules
    ] in
    record {
      read = search rules;
      rejected = rejected c.texts_have_one_outcome.ensures c.in-Err.source _ c.in-Err.ensures (inr (record { no_memory = search rules; source_is = rw has refl; text_is = search rules }));
      answer = rejected_answer c.texts_have_one_outcome.ensures c.in-Err.source _ c.in-Err.ensures (inr (record { no_memory = search rules; source_is = rw has refl; text_is = search rules }));
    }
