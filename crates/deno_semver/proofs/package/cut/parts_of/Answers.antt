use Rattle.std.proofs.Common.{◌∙◌, sym, inr, refl, rules, option_copied}
use Rattle.deno_semver.proofs.PackageText.{bare_cut, front_boundary, scope_alone, scoped_cut}
use Rattle.deno_semver.proofs.Runs.{none_left, some_left}
use Rattle.deno_semver.proofs.package.cut.parts_of.Goals as goal

pub returns-then-not-starts_with_at-clause-cut : goal.returns-then-not-starts_with_at-clause-cut
returns-then-not-starts_with_at-clause-cut c =
    bare_cut c.without_slash-body.ensures c.segment_and_rest.ensures (some_left _ _ c.is_empty.ensures c.if-is_empty.false) (sym c.starts_with_at.ensures ∙ c.if-not-starts_with_at.true) c.name_and_version.ensures (c.path_of.ensures c.segment_and_rest.ensures.stops)

pub returns-clause-cut : goal.returns-clause-cut
returns-clause-cut c =
    scoped_cut c.args.text.now c.without_slash-body.ensures c.segment_and_rest.ensures (sym c.starts_with_at.ensures ∙ c.if-not-starts_with_at.false) (c.path_of-2.ensures c.segment_and_rest.ensures.stops) c.segment_and_rest-2.ensures
    (some_left _ _ c.is_empty-2.ensures c.if-is_empty-2.false) c.name_and_version-2.result.0.now (option_copied c.name_and_version-2.result.1) c.name_and_version-2.ensures c.split_at.ensures.front
    (c.path_of-3.ensures c.segment_and_rest-2.ensures.stops)

pub split_at-requires : goal.split_at-requires
split_at-requires c =
    front_boundary c.args.text.now c.without_slash-body.ensures c.segment_and_rest.ensures (sym c.starts_with_at.ensures ∙ c.if-not-starts_with_at.false) (c.path_of-2.ensures c.segment_and_rest.ensures.stops) c.segment_and_rest-2.ensures
    (some_left _ _ c.is_empty-2.ensures c.if-is_empty-2.false) c.name_and_version-2.result.0.now (option_copied c.name_and_version-2.result.1) c.name_and_version-2.ensures (search rules) (search rules) (search rules)

pub returns-then-is_empty-2-clause-uncut : goal.returns-then-is_empty-2-clause-uncut
returns-then-is_empty-2-clause-uncut c =
    inr (
      refl,
      scope_alone c.args.text.now c.without_slash-body.ensures c.segment_and_rest.ensures (sym c.starts_with_at.ensures ∙ c.if-not-starts_with_at.false) (c.path_of-2.ensures c.segment_and_rest.ensures.stops) c.segment_and_rest-2.ensures
          (none_left _ _ c.is_empty-2.ensures c.if-is_empty-2.true),
    )
