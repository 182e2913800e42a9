use Rattle.std.proofs.Common.{refl, rules}
use Rattle.deno_semver.specs.NvReference.{IsNoPath}
use Rattle.deno_semver.proofs.NvReferences.{front_answer, read_answer, reads, reads_back, rejected_front, rejected_rest, rejected_scheme, rest_answer, scheme_answer}
use Rattle.deno_semver.proofs.package.registry.RegistryNvReference.from_str.Goals as goal

pub returns-in_default-clause-parsed : goal.returns-in_default-clause-parsed
returns-in_default-clause-parsed g c =
    record {
      read = search rules;
      rejected = rejected_scheme (rw c.kind-kind.ensures at c.in_default.ensures) c.unexpected.ensures c.of_nv_error.ensures;
      answer = scheme_answer (rw c.kind-kind.ensures at c.in_default.ensures) c.unexpected.ensures c.of_nv_error.ensures;
    }

pub returns-in-Err-clause-parsed : goal.returns-in-Err-clause-parsed
returns-in-Err-clause-parsed g c =
    let body = rw c.kind-kind.ensures at c.in-Some.ensures in
    record {
      read = search rules;
      rejected = rejected_front c.in-Some.body.now body (rw c.without_slash.ensures at c.in-Err.ensures.rejected) c.of_nv_error-in-Err.ensures;
      answer = front_answer c.in-Some.body.now body (rw c.without_slash.ensures at c.in-Err.ensures.answer) c.of_nv_error-in-Err.ensures;
    }

pub returns-then-is_empty-clause-parsed : goal.returns-then-is_empty-clause-parsed
returns-then-is_empty-clause-parsed g c =
    let body = rw c.kind-kind.ensures at c.in-Some.ensures in
    record {
      read = reads c.in-Some.body.now body c.new.result (rw c.without_slash.ensures at c.in-Ok.ensures.read) (rw c.new.ensures (refl, search rules));
      rejected = search rules;
      answer = read_answer c.in-Some.body.now body (rw c.without_slash.ensures at c.in-Ok.ensures.answer) c.new.result (rw c.new.ensures (refl, search rules));
    }

pub returns-then-is_empty-clause-reads_back : goal.returns-then-is_empty-clause-reads_back
returns-then-is_empty-clause-reads_back g c = reads_back g.R.Registry.kind c.new.result c.in-Ok.ensures.read c.in-Ok.ensures.plain c.in-Ok.ensures.reads_back (rw c.new.ensures refl)

pub returns-in_default-after-clause-parsed : goal.returns-in_default-after-clause-parsed
returns-in_default-after-clause-parsed g c =
    let body = rw c.kind-kind.ensures at c.in-Some.ensures in
    let no_path : IsNoPath c.in-Ok.parts.1.now = search rules in
    record {
      read = search rules;
      rejected = rejected_rest c.in-Some.body.now body (rw c.without_slash.ensures at c.in-Ok.ensures.read) (search rules) c.of_nv_error-in_default-after.ensures;
      answer = rest_answer c.in-Some.body.now body (rw c.without_slash.ensures at c.in-Ok.ensures.answer) (search rules) c.of_nv_error-in_default-after.ensures;
    }

pub returns-in-Ok-from_str-clause-parsed : goal.returns-in-Ok-from_str-clause-parsed
returns-in-Ok-from_str-clause-parsed g c =
    let body = rw c.kind-kind.ensures at c.in-Some.ensures in
    record {
      read = reads c.in-Some.body.now body c.new-in-Ok-from_str.result (rw c.without_slash.ensures at c.in-Ok.ensures.read) (rw c.new-in-Ok-from_str.ensures (refl, search rules));
      rejected = search rules;
      answer = read_answer c.in-Some.body.now body (rw c.without_slash.ensures at c.in-Ok.ensures.answer) c.new-in-Ok-from_str.result (rw c.new-in-Ok-from_str.ensures (refl, search rules));
    }

pub returns-in-Ok-from_str-clause-reads_back : goal.returns-in-Ok-from_str-clause-reads_back
returns-in-Ok-from_str-clause-reads_back g c = reads_back g.R.Registry.kind c.new-in-Ok-from_str.result c.in-Ok.ensures.read c.in-Ok.ensures.plain c.in-Ok.ensures.reads_back (rw c.new-in-Ok-from_str.ensures refl)
