use Rattle.std.proofs.Common.{◌≡◌, ◌++◌, ◌∙◌, inl, inr, take, length, arith, sym, eq-eqb}
use Rattle.std.proofs.lemmas.Bool.{both_ways, cases_lt}
use Rattle.std.proofs.lemmas.List.{take-append-drop}
use Rattle.semver_req.specs.Viable.{IsTextOf, IsViablePrefix}
use Rattle.semver_req.proofs.ListedFronts.{front_and_rest, front_boundary, viable_front}
use Rattle.semver_req.proofs.ViableParts.{shorter_viable, slice_front, up_to, whole_viable}
use Rattle.semver_req.proofs.error_places.longest_viable.Goals as goal
use Rattle.semver_req.proofs.error_places.longest_viable.Goals.{then-end-behind, else-end-behind+in_ok-is_viable-2}

pub range-front-requires-clause-end_boundary : goal.range-front-requires-clause-end_boundary
range-front-requires-clause-end_boundary c = front_boundary c.args.grammar c.args.text.now c.in_ok-behind.behind c.utf8.text c.in_ok-behind.ensures

pub loop-high-init : goal.loop-high-init
loop-high-init c =
    let n = c.in_ok-behind.behind in
    let front = c.in_ok-behind.ensures in
    let boundary = front_boundary c.args.grammar c.args.text.now n c.utf8.text front in
    let whole : c.range-front.result.now ++ c.range_from.result.now ≡ c.args.text.now = rw (c.range-front.ensures.value ∙ slice_front c.args.text.now n, c.range_from.ensures.value) (take-append-drop n c.args.text.now) in
    let never : IsViablePrefix (IsTextOf c.args.grammar) c.args.text.now → ⊥ = λ v. both_ways c.in_ok-is_viable.field-0 c.if-branch.false (c.in_ok-is_viable.ensures.1 (rw whole v)) in
    let starts = viable_front c.args.grammar c.args.text.now n front in
    record {
      starts = omega arith;
      order = elim (cases_lt n (length c.args.text.now)) [
        | inl less ↦ less
        | inr there ↦ absurd (never (whole_viable c.args.text.now n there starts))
      ];
      within = omega arith;
      below = λ m b le. shorter_viable c.args.text.now m n c.utf8.text b boundary le starts;
      above = λ m b le v. never (whole_viable c.args.text.now m le v);
    }

pub range-requires-clause-start_le_end : goal.range-requires-clause-start_le_end
range-requires-clause-start_le_end c =
    let f = c.floor_char_boundary-end in
    let boundary = front_boundary c.args.grammar c.args.text.now c.in_ok-behind.behind c.utf8.text c.in_ok-behind.ensures in
    up_to c.args.text.now c.in_ok-behind.behind f.result _ f.ensures.nearest boundary (omega (arith, c.loop-high.invariant.starts))

pub loop-high-preserved-then-branch-2 : goal.loop-high-preserved-then-branch-2
loop-high-preserved-then-branch-2 c =
    let i = c.loop-high.invariant in
    let n = c.in_ok-behind.behind in
    let f = c.floor_char_boundary-end in
    let there : IsViablePrefix (IsTextOf c.args.grammar) (take f.result c.args.text.now) = elim c.if-end-behind.branch [
      | then-end-behind w ↦
          let same : f.result ≡ n = w.if-end-behind.true in
          rw same (viable_front c.args.grammar c.args.text.now n c.in_ok-behind.ensures)
      | else-end-behind+in_ok-is_viable-2 w ↦
          let whole : c.range-front.result.now ++ w.range.result.now ≡ take f.result c.args.text.now = rw (c.range-front.ensures.value ∙ slice_front c.args.text.now n, w.range.ensures.value) (front_and_rest c.args.grammar c.args.text.now n f.result _ c.utf8.text c.in_ok-behind.ensures f.ensures.nearest (omega (arith, i.starts)) f.ensures.boundary.0) in
          rw whole at (w.in_ok-is_viable-2.ensures.0 (sym w.value-is ∙ c.if-branch-2.true))
    ] in
    record {
      starts = omega (arith, i.starts);
      order = omega (arith, c.loop-high-test.true, i.order);
      within = i.within;
      below = λ n b le. shorter_viable c.args.text.now n f.result c.utf8.text b f.ensures.boundary (up_to c.args.text.now n f.result _ f.ensures.nearest b le) there;
      above = i.above;
    }

pub loop-high-preserved : goal.loop-high-preserved
loop-high-preserved c =
    let i = c.loop-high.invariant in
    let n = c.in_ok-behind.behind in
    let f = c.floor_char_boundary-end in
    let never : IsViablePrefix (IsTextOf c.args.grammar) (take f.result c.args.text.now) → ⊥ = λ v. elim c.if-end-behind.branch [
      | then-end-behind w ↦ both_ways c.if-end-behind.value c.if-branch-2.false (w.value-is ∙ eq-eqb f.result n w.if-end-behind.true)
      | else-end-behind+in_ok-is_viable-2 w ↦
          let whole : c.range-front.result.now ++ w.range.result.now ≡ take f.result c.args.text.now = rw (c.range-front.ensures.value ∙ slice_front c.args.text.now n, w.range.ensures.value) (front_and_rest c.args.grammar c.args.text.now n f.result _ c.utf8.text c.in_ok-behind.ensures f.ensures.nearest (omega (arith, i.starts)) f.ensures.boundary.0) in
          both_ways w.in_ok-is_viable-2.field-0 (sym w.value-is ∙ c.if-branch-2.false) (w.in_ok-is_viable-2.ensures.1 (rw whole v))
    ] in
    record {
      starts = i.starts;
      order = omega (arith, c.loop-high-test.true, i.order);
      within = omega (arith, c.loop-high-test.true, i.order, i.within);
      below = i.below;
      above = λ n b le v. never (shorter_viable c.args.text.now f.result n c.utf8.text f.ensures.boundary b (omega (arith, f.ensures.bound, le)) v);
    }
