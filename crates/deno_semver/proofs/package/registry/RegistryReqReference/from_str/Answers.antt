use Rattle.std.proofs.Common.{◌≡◌, true, None, Some, inr, sym, ap, subst, ◌∙◌, rules}
use Rattle.std.specs.List.{list_all}
use Rattle.deno_semver.specs.Cuts.{is_not}
use Rattle.deno_semver.specs.ReferenceOutcome.{HasNoVersionInPath, HasVersionInPath, NotExpectedScheme, OtherScheme, is_reference, other_scheme}
use Rattle.deno_semver.proofs.PackageText.{at_last, no_at}
use Rattle.deno_semver.proofs.References.{read_answer, rejected_answer, rejected_text, rejected_version}
use Rattle.deno_semver.proofs.ReferencesBack.{no_version_in, reads_back}
use Rattle.deno_semver.proofs.package.registry.RegistryReqReference.from_str.Given.{Over}
use Rattle.deno_semver.proofs.package.registry.RegistryReqReference.from_str.Goals.{After-drop-2, After-new-2, else-eq-via-else-eq, else-eq-via-then-eq+in-None-1, else-eq-via-then-eq+in-Some-sub_path+in-None-1}
use Rattle.deno_semver.proofs.package.registry.RegistryReqReference.from_str.Goals as goal

pub returns-in_default-clause-parsed : goal.returns-in_default-clause-parsed
returns-in_default-clause-parsed g c =
    let rejected = inr (OtherScheme, other_scheme (rw c.kind-kind.ensures at c.in_default.ensures), ap NotExpectedScheme c.kind-kind.ensures) in
    record { read = search rules; rejected = rejected; answer = rejected_answer c.texts_have_one_outcome.ensures rejected }

pub returns-in-Err-clause-parsed : goal.returns-in-Err-clause-parsed
returns-in-Err-clause-parsed g c =
    let rejected = rejected_text (rw c.kind-kind.ensures at c.in-Some.ensures) c.in-Err.ensures (search rules) in
    record { read = search rules; rejected = rejected; answer = rejected_answer c.texts_have_one_outcome.ensures rejected }

found : (g : Over) (c : After-drop-2 g) → HasVersionInPath c.in-Ok.reference c.in-Some-rsplit_once.before.now c.in-Some-rsplit_once.version.now
found g c =
    let at = at_last c.as_str.result.now c.in-Some-rsplit_once.before.now c.in-Some-rsplit_once.version.now c.in-Some-rsplit_once.ensures.cases in
    record { any = search rules; path = c.in-Some-sub_path.is ∙ ap Some (sym c.as_str.ensures.value ∙ at.0); last_at = at.1 }

pub returns-clause-parsed : goal.returns-clause-parsed
returns-clause-parsed g c =
    let rejected = rejected_version (rw c.kind-kind.ensures at c.in-Some.ensures) c.in-Ok.ensures (found g c) (search rules) in
    record { read = search rules; rejected = rejected; answer = rejected_answer c.texts_have_one_outcome.ensures rejected }

none : (g : Over) (c : After-new-2 g) → HasNoVersionInPath c.in-Ok.reference
none g c = elim c.else-eq.branch [
  | else-eq-via-else-eq w ↦ search rules
  | else-eq-via-then-eq+in-None-1 w ↦ search rules
  | else-eq-via-then-eq+in-Some-sub_path+in-None-1 w ↦
      let lacks : w.rsplit_once.result ≡ None = search rules in
      let no_sign = no_at w.as_str.result.now (rw lacks at w.rsplit_once.ensures.cases) in
      no_version_in c.in-Ok.reference w.in-Some-sub_path.path w.in-Some-sub_path.is (subst (λ path. list_all (is_not 64) path ≡ true) w.as_str.ensures.value no_sign.1)
]

pub returns-2-clause-parsed : goal.returns-2-clause-parsed
returns-2-clause-parsed g c =
    let read = is_reference (rw c.kind-kind.ensures at c.in-Some.ensures) c.in-Ok.ensures (none g c) in
    rw c.new-2.ensures (record { read = read; rejected = search rules; answer = read_answer c.texts_have_one_outcome.ensures c.in-Ok.reference read })

pub returns-2-clause-reads_back : goal.returns-2-clause-reads_back
returns-2-clause-reads_back g c = rw c.new-2.ensures (reads_back c.texts_have_one_outcome.ensures c.star_is_any_version.ensures g.R.Registry.kind c.in-Ok.reference c.in-Ok.ensures (none g c))
