use Rattle.std.proofs.Common.{◌≡◌, ◌++◌, ◌∙◌, not, ap, subst, sym, take_all}
use Rattle.std.proofs.lemmas.List.Elements.{All-append, All-same}
use Rattle.semver_base.specs.Intervals.{all_match, flag_of, hold, some_means, IsWritableInterval}
use Rattle.semver_base.specs.NormalText.{AreWritableRanges}
use Rattle.semver_base.proofs.FoundVersions.{all_out, first_out, more_out, none_writable, one_of_sets}
use Rattle.semver_base.proofs.range.lowest.left_out.Goals as goal

pub loop-set-init : goal.loop-set-init
loop-set-init c = (
  λ v own. first_out (flag_of c.args.group) c.args.question.own.now v c.new-out.result.items c.args.own.items _ (c.in_ok-push_gaps.ensures.holds v) c.new-out.ensures.items (c.requires.own v own),
  λ written others. c.in_ok-push_gaps.ensures.writable (none_writable c.new-out.result.items c.new-out.ensures.items) (c.requires.writable written),
)

pub loop-set-preserved : goal.loop-set-preserved
loop-set-preserved c =
    let l = c.loop-set in
    let sets = c.args.question.others.now in
    let inside = c.loop-set-test.true in
    let set = c.set-item.result in (
      λ v own. more_out (flag_of c.args.group) c.args.question.own.now v sets l.set-index set inside c.set-item.is (hold l.out.items v) _ _ (c.in_ok-push_gaps-2.ensures.holds v) (l.invariant.0 v own)
          (c.in_ok-intervals.ensures.holds v own ∙ ap (λ ranges. some_means (flag_of c.args.group) ranges v) c.as_slice.ensures),
      λ written others. c.in_ok-push_gaps-2.ensures.writable (l.invariant.1 written others)
          (c.in_ok-intervals.ensures.writable (subst AreWritableRanges (sym c.as_slice.ensures) (one_of_sets sets l.set-index set inside c.set-item.is others))),
    )

pub returns-clause-holds : goal.returns-clause-holds
returns-clause-holds c = λ v own.
    let l = c.loop-set in
    let q = c.args.question in
    let all : hold l.out.items v ≡ not (all_match (flag_of c.args.group) q.own.now v q.others.now) =
    l.invariant.0 v own ∙ ap (λ sets. not (all_match (flag_of c.args.group) q.own.now v sets)) (take_all l.set-index q.others.now c.loop-set-test.false) in
    ap (λ intervals. hold intervals v) (c.in_ok-extend_from_slice.ensures.items ∙ ap (λ last. l.out.items ++ last) c.as_slice-2.ensures.value)
    ∙ all_out (flag_of c.args.group) q.own.now v q.others.now q.without.now l.out.items c.in_ok-without.without.items all (c.in_ok-without.ensures.holds v own)

pub returns-clause-writable : goal.returns-clause-writable
returns-clause-writable c = λ written others without.
    let l = c.loop-set in
    let last = c.in_ok-without.without.items in
    All-same IsWritableInterval c.extend_from_slice.new.self.items (l.out.items ++ last) (c.in_ok-extend_from_slice.ensures.items ∙ ap (λ last. l.out.items ++ last) c.as_slice-2.ensures.value)
    (All-append IsWritableInterval l.out.items last (l.invariant.1 written others) (c.in_ok-without.ensures.writable without))
