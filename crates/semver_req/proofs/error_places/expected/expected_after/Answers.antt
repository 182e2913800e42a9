use Rattle.std.proofs.Common.{◌≡◌, ◌++◌, ◌∙◌, ◌∷◌, [], false, get_or, rules, true, take_all}
use Rattle.semver_req.proofs.ErrorCauses.{next_expected, next_not}
use Rattle.semver_req.proofs.KindTexts.{expected}
use Rattle.semver_req.proofs.ListedFronts.{front_boundary}
use Rattle.semver_req.proofs.ViableParts.{slice_front}
use Rattle.std.proofs.lemmas.List.{take-append-drop}
use Rattle.semver_req.specs.declared.error_places.Grammar.TheVariants.{Ranges}
use Rattle.semver_req.specs.declared.error_places.Sizes.TheVariants.{Any}
use Rattle.semver_req.specs.Kinds.{all_kinds, no_kind}
use Rattle.semver_req.specs.declared.error_places.expected.Kind.TheVariants as kind
use Rattle.semver_req.proofs.error_places.expected.expected_after.Goals as goal
use Rattle.semver_req.proofs.error_places.expected.expected_after.Goals.{in-Npm+in_ok-may_end-in-Npm, in-Normal+in_ok-may_end-in-Normal, in-Specifier+in_ok-may_end-in-Specifier}

pub range-front-requires-clause-end_boundary : goal.range-front-requires-clause-end_boundary
range-front-requires-clause-end_boundary c = front_boundary (Ranges c.args.flavour Any) c.args.prefix.now c.in_ok-behind.behind c.utf8.prefix c.in_ok-behind.ensures

pub loop-kind-init : goal.loop-kind-init
loop-kind-init c = rw c.new-kinds.ensures.items no_kind

pub loop-kind-preserved-then-not-branch : goal.loop-kind-preserved-then-not-branch
loop-kind-preserved-then-not-branch c =
    let l = c.loop-kind in
    let whole : c.range-front.result.now ++ c.range_from-rest.result.now ≡ c.args.prefix.now = rw (c.range-front.ensures.value ∙ slice_front c.args.prefix.now c.in_ok-behind.behind, c.range_from-rest.ensures.value) (take-append-drop c.in_ok-behind.behind c.args.prefix.now) in
    let isnt : c.in_ok-is_viable_with.field-0 ≡ false = search rules in
    next_not c.args.flavour c.args.prefix.now all_kinds l.kinds.items l.kind-index _ c.loop-kind-test.true l.invariant isnt (expected c.args.flavour c.args.prefix.now _ _ (rw (c.text.ensures.text, whole) at c.in_ok-is_viable_with.ensures))

pub loop-kind-preserved : goal.loop-kind-preserved
loop-kind-preserved c =
    let l = c.loop-kind in
    let whole : c.range-front.result.now ++ c.range_from-rest.result.now ≡ c.args.prefix.now = rw (c.range-front.ensures.value ∙ slice_front c.args.prefix.now c.in_ok-behind.behind, c.range_from-rest.ensures.value) (take-append-drop c.in_ok-behind.behind c.args.prefix.now) in
    let is : c.in_ok-is_viable_with.field-0 ≡ true = search rules in
    let pushed : c.push.new.self.items ≡ l.kinds.items ++ get_or all_kinds l.kind-index kind.Digit ∷ [] = search rules in
    rw pushed (next_expected c.args.flavour c.args.prefix.now all_kinds l.kinds.items l.kind-index _ c.loop-kind-test.true l.invariant is (expected c.args.flavour c.args.prefix.now _ _ (rw (c.text.ensures.text, whole) at c.in_ok-is_viable_with.ensures)))

pub returns : goal.returns
returns c =
    let whole : c.range-front.result.now ++ c.range_from-rest.result.now ≡ c.args.prefix.now = rw (c.range-front.ensures.value ∙ slice_front c.args.prefix.now c.in_ok-behind.behind, c.range_from-rest.ensures.value) (take-append-drop c.in_ok-behind.behind c.args.prefix.now) in
    record {
      kinds = rw (take_all c.loop-kind.kind-index all_kinds c.loop-kind-test.false) at c.loop-kind.invariant;
      ends = elim c.match-flavour.branch [
        | in-Npm+in_ok-may_end-in-Npm w ↦ rw (w.may_end-is, w.in-Npm.is) (rw whole at w.in_ok-may_end-in-Npm.ensures)
        | in-Normal+in_ok-may_end-in-Normal w ↦ rw (w.may_end-is, w.in-Normal.is) (rw whole at w.in_ok-may_end-in-Normal.ensures)
        | in-Specifier+in_ok-may_end-in-Specifier w ↦ rw (w.may_end-is, w.in-Specifier.is) w.in_ok-may_end-in-Specifier.ensures
      ];
    }
