use Rattle.std.proofs.Common.{◌≡◌, ◌∷◌, sym, rules, tests, ◌∙◌}
use Rattle.std.proofs.lemmas.Iterator.{YieldsList-from_slice}
use Rattle.std.proofs.lemmas.Iterator.Consumers.{count_from_yields_List}
use Rattle.std.proofs.lemmas.Iterator.Search.{YieldsList-from_take_while}
use Rattle.deno_semver.specs.Cuts.{is_not}
use Rattle.deno_semver.specs.NameAndVersion.{is_version_byte}
use Rattle.deno_semver.proofs.NameAndVersion.{name_cut, no_at, no_version, parts_of, version_cut}
use Rattle.deno_semver.proofs.package.name_version.cut.Goals as goal

pub returns-in_default-after : goal.returns-in_default-after
returns-in_default-after c =
    let text : c.args.text.now ≡ c.in-Some.field-0-0.now ∷ c.in-Some.more.now = search rules in
    let len = count_from_yields_List c.take_while.result _ c.count-len.ensures.ran (YieldsList-from_take_while _ (is_not 64) (YieldsList-from_slice c.in-Some.more.now cc) c.take_while.ensures.closure c.take_while.ensures.done (λ x b q k. search (rules, tests))) in
    let name = name_cut c.counted_runs_are_cut.ensures _ _ c.split_at.result.0.now c.split_at.result.1.now c.count-len.result text len c.split_at.ensures.front c.split_at.ensures.back in
    no_at name c.in_default-after.ensures

pub returns-then-is_empty : goal.returns-then-is_empty
returns-then-is_empty c =
    let text : c.args.text.now ≡ c.in-Some.field-0-0.now ∷ c.in-Some.more.now = search rules in
    let len = count_from_yields_List c.take_while.result _ c.count-len.ensures.ran (YieldsList-from_take_while _ (is_not 64) (YieldsList-from_slice c.in-Some.more.now cc) c.take_while.ensures.closure c.take_while.ensures.done (λ x b q k. search (rules, tests))) in
    let name = name_cut c.counted_runs_are_cut.ensures _ _ c.split_at.result.0.now c.split_at.result.1.now c.count-len.result text len c.split_at.ensures.front c.split_at.ensures.back in
    let version_len = count_from_yields_List c.take_while-2.result _ c.count-len-2.ensures.ran (YieldsList-from_take_while _ is_version_byte (YieldsList-from_slice c.in-Some-after.rest.now cc) c.take_while-2.ensures.closure c.take_while-2.ensures.done (λ x b q k. search (rules, tests))) in
    let version = version_cut c.counted_runs_are_cut.ensures c.in-Some-after.rest.now c.split_at-2.result.0.now c.split_at-2.result.1.now c.count-len-2.result version_len c.split_at-2.ensures.front c.split_at-2.ensures.back in
    no_version name c.in-Some-after.ensures version (sym c.is_empty.ensures ∙ c.if-is_empty.true)

pub returns : goal.returns
returns c =
    let text : c.args.text.now ≡ c.in-Some.field-0-0.now ∷ c.in-Some.more.now = search rules in
    let len = count_from_yields_List c.take_while.result _ c.count-len.ensures.ran (YieldsList-from_take_while _ (is_not 64) (YieldsList-from_slice c.in-Some.more.now cc) c.take_while.ensures.closure c.take_while.ensures.done (λ x b q k. search (rules, tests))) in
    let name = name_cut c.counted_runs_are_cut.ensures _ _ c.split_at.result.0.now c.split_at.result.1.now c.count-len.result text len c.split_at.ensures.front c.split_at.ensures.back in
    let version_len = count_from_yields_List c.take_while-2.result _ c.count-len-2.ensures.ran (YieldsList-from_take_while _ is_version_byte (YieldsList-from_slice c.in-Some-after.rest.now cc) c.take_while-2.ensures.closure c.take_while-2.ensures.done (λ x b q k. search (rules, tests))) in
    let version = version_cut c.counted_runs_are_cut.ensures c.in-Some-after.rest.now c.split_at-2.result.0.now c.split_at-2.result.1.now c.count-len-2.result version_len c.split_at-2.ensures.front c.split_at-2.ensures.back in
    parts_of name c.in-Some-after.ensures version (sym c.is_empty.ensures ∙ c.if-is_empty.false)
