use Rattle.std.proofs.Common.{◌≡◌, ◌∙◌, ◌∷◌, ◌++◌, ap, is_le, is_lt, map, rules, subst, sym, IsPermutation, IsSortedBy}
use Rattle.std.proofs.lemmas.Fn.{always_returns_same}
use Rattle.std.proofs.lemmas.List.{at_drop_all}
use Rattle.std.proofs.lemmas.List.Elements.{All-push}
use Rattle.std.specs.String.{string_bytes}
use Rattle.semver_base.proofs.MergedSpans.{begins_first, beginnings_rank, grows, keys_of, listed, merge_keys, merged_are, starts, stays, IsMerged, IsOfKind}
use Rattle.semver_base.proofs.range.scans.merged.Goals as goal
use Rattle.semver_base.proofs.range.scans.merged.Goals.{then-is_le+then-is_lt, then-is_le+else-is_lt, else-is_le+in_ok-between+in_ok-push}

pub loop-span-preserved : goal.loop-span-preserved
loop-span-preserved c =
    let l = c.loop-span in
    let inside = c.loop-span-test.true in
    let touches = ap is_le (sym c.cmp.ensures) ∙ sym c.is_le.ensures in
    elim c.if-is_le.branch [
      | then-is_le+then-is_lt w ↦ rw (w.scans-is, w.low-is, w.high-is) (
        l.invariant.0,
        grows c.in-Some.others.now l.span-index c.span-item.result inside c.span-item.is _ _ _ _ l.invariant.1 (touches ∙ w.if-is_le.true) (ap is_lt (sym w.cmp-then-is_le.ensures) ∙ sym w.is_lt.ensures ∙ w.if-is_lt.true),
      )
      | then-is_le+else-is_lt w ↦ rw (w.scans-is, w.low-is, w.high-is) (
        l.invariant.0,
        stays c.in-Some.others.now l.span-index c.span-item.result inside c.span-item.is _ _ _ _ l.invariant.1 (touches ∙ w.if-is_le.true) (ap is_lt (sym w.cmp-then-is_le.ensures) ∙ sym w.is_lt.ensures ∙ w.if-is_lt.false),
      )
      | else-is_le+in_ok-between+in_ok-push w ↦
          let scan = w.in_ok-between.field-0 in
          let made = w.in_ok-between.ensures in
          rw (w.scans-is, w.low-is, w.high-is, w.in_ok-push.ensures.items) (
            All-push (IsOfKind c.args.is_pre) l.scans.items scan l.invariant.0 made.0,
            rw (listed l.scans.items scan _ _ (made.1.0 ∙ w.as_str.ensures.value) (made.1.1 ∙ w.as_str-else-is_le.ensures.value))
                (starts c.in-Some.others.now l.span-index c.span-item.result inside c.span-item.is _ _ _ _ l.invariant.1 (touches ∙ w.if-is_le.false)),
          )
    ]

made : (c : goal.After-drop-spans-2) → IsMerged c.args.is_pre c.args.spans.items c.push-2.new.self.items
made c =
    let l = c.loop-span in
    let scan = c.in_ok-between-2.field-0 in
    let first = c.in-Some.first.now in
    let others = c.in-Some.others.now in
    let is : c.sort_by.new.self.items ≡ first ∷ others = sym c.as_slice-sorted.ensures.value ∙ c.in-Some.ensures.cases.0 in
    let ascends = c.in_ok-sort_by.ensures.sorted begins_first beginnings_rank (always_returns_same _ _ _ (λ a r f k. search rules)) in
    let ends = c.in_ok-between-2.ensures in
    let kind = All-push (IsOfKind c.args.is_pre) l.scans.items scan l.invariant.0 ends.0 in
    let all : map keys_of (l.scans.items ++ scan ∷ _) ≡ merge_keys (string_bytes first.low) (string_bytes first.high) others =
    listed l.scans.items scan _ _ (ends.1.0 ∙ c.as_str-2.ensures.value) (ends.1.1 ∙ c.as_str-3.ensures.value)
    ∙ sym (at_drop_all (λ ss. map keys_of l.scans.items ++ merge_keys (string_bytes l.low.now) (string_bytes l.high.now) ss) others l.span-index c.loop-span-test.false) ∙ l.invariant.1 in
    rw c.in_ok-push-2.ensures.items (merged_are c.args.is_pre c.args.spans.items first others (l.scans.items ++ scan ∷ _) (subst (IsPermutation c.args.spans.items) is c.sort_by.ensures.permutation)
    (subst (IsSortedBy begins_first) is ascends) c.requires kind all)

pub returns-clause-holds : goal.returns-clause-holds
returns-clause-holds c = (made c).holds

pub returns-clause-sorted : goal.returns-clause-sorted
returns-clause-sorted c = (made c).sorted
