use Rattle.std.proofs.Common.{◌≡◌, ◌∙◌, ℕ, List, Bor, None, Some, ap, rules}
use Rattle.deno_semver.specs.DependencyOutcome.{is_dependency, reported_scheme}
use Rattle.deno_semver.proofs.Dependencies.{before_colon, package_answer, package_rejected, read_answer, scheme_answer, scheme_rejected}
use Rattle.deno_semver.proofs.jsr.dependency.read.Goals.{in-Some-split_once, in-None}
use Rattle.deno_semver.proofs.jsr.dependency.read.Goals as goal

pub returns-in-Ok-parse : goal.returns-in-Ok-parse
returns-in-Ok-parse c = record {
  read = is_dependency _ _ (search rules) c.in-Ok-parse.ensures.read;
  rejected = search rules;
  answer = read_answer _ _ (search rules) c.in-Ok-parse.req c.in-Ok-parse.ensures.answer;
}

pub returns-in-Err-parse : goal.returns-in-Err-parse
returns-in-Err-parse c = record {
  read = search rules;
  rejected = package_rejected c.match-after_scheme.kind.0 c.match-after_scheme.kind.1.now (search rules) c.in-Err-parse.ensures.rejected c.from.ensures;
  answer = package_answer c.match-after_scheme.kind.0 c.match-after_scheme.kind.1.now (search rules) c.in-Err-parse.ensures.answer c.from.ensures;
}

pub returns-in-Ok : goal.returns-in-Ok
returns-in-Ok c =
    let scheme : c.match-split_once.scheme.now ≡ reported_scheme c.args.text.now = elim c.match-split_once.branch [
      | in-Some-split_once w ↦ ap (λ (x : Bor (List ℕ)). x.now) w.scheme-is ∙ before_colon c.args.text.now (Some (w.in-Some-split_once.scheme, w.in-Some-split_once.field-0-1)) w.in-Some-split_once.ensures.cases
      | in-None w ↦ ap (λ (x : Bor (List ℕ)). x.now) w.scheme-is ∙ before_colon c.args.text.now None w.in-None.ensures.cases
    ] in
    record { read = search rules; rejected = scheme_rejected _ (search rules) (search rules); answer = scheme_answer _ (search rules) (search rules) }
