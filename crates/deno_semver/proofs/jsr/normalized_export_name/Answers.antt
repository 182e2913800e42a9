use Rattle.std.proofs.Common.{◌≡◌, ◌∙◌, ap, arith, rules}
use Rattle.std.proofs.lemmas.Str.Pattern.{strip_suffix_char}
use Rattle.deno_semver.specs.ExportName.{without_last_slash}
use Rattle.deno_semver.proofs.ExportNames.{without_slash}
use Rattle.deno_semver.proofs.jsr.normalized_export_name.Goals as goal

pub returns-then-starts_with-clause-value : goal.returns-then-starts_with-clause-value
returns-then-starts_with-clause-value c =
    let path : c.unwrap_or-path.result.now ≡ without_last_slash c.in-Some.path.now = ap (λ p. p.now) c.unwrap_or-path.ensures ∙ without_slash c.in-Some.path c.strip_suffix.result (strip_suffix_char 47 c.in-Some.path.now c.strip_suffix.result c.strip_suffix.ensures.cases (omega arith)) in
    search rules

pub returns-clause-value : goal.returns-clause-value
returns-clause-value c =
    let path : c.unwrap_or-path.result.now ≡ without_last_slash c.in-Some.path.now = ap (λ p. p.now) c.unwrap_or-path.ensures ∙ without_slash c.in-Some.path c.strip_suffix.result (strip_suffix_char 47 c.in-Some.path.now c.strip_suffix.result c.strip_suffix.ensures.cases (omega arith)) in
    search rules
