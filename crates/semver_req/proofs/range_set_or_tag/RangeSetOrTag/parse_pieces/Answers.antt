use Rattle.std.proofs.Common.{arith, ◌≡◌, ◌∙◌, ◌∷◌, ◌++◌, [], None, ap, append_assoc, inr, refl, rules, sym}
use Rattle.semver_req.specs.PieceReading.{IsCutRejection, is_out_of_memory}
use Rattle.semver_req.specs.declared.common.values.Flavour.TheVariants.{Npm}
use Rattle.semver_req.specs.declared.range_set_or_tag.RangeSetOrTag.TheVariants.{Tag}
use Rattle.semver_req.proofs.Cuts.{first_piece, next_behind, next_piece, next_shorter}
use Rattle.semver_req.proofs.PiecesRead.{all_read, first_rejected, many_ranges, many_rejected, only_normal, read_first, read_more, tag_read, tag_rejected, valid_ranges}
use Rattle.semver_req.proofs.ParserAnswers.{err_reports}
use Rattle.semver_req.proofs.range_set_or_tag.RangeSetOrTag.parse_pieces.Goals as goal
use Rattle.semver_req.proofs.range_set_or_tag.RangeSetOrTag.parse_pieces.Goals.{then-all+else-is_valid_npm_tag, else-all+else-eq}

pub returns-in_err-add-clause-rejection : goal.returns-in_err-add-clause-rejection
returns-in_err-add-clause-rejection c =
    err_reports (λ e. e) c.from_residual.result None (IsCutRejection c.args.flavour c.args.text.now) c.from_residual.ensures.1 is_out_of_memory

pub add-requires : goal.add-requires
add-requires c = c.requires

pub loop-next-init : goal.loop-next-init
loop-next-init c =
    let added = c.in_ok-add.ensures in
    record {
      others = [];
      joins = λ pieces m. m;
      read = read_first c.requires c.first-first.result.is_followed c.add.new.self c.first-first.result.text.now added.answer added.read (rw c.new.ensures at added.more.ranges) added.more.rejected added.more.is_only;
      behind = omega (arith, c.first-first.ensures.behind);
    }

pub loop-next-preserved : goal.loop-next-preserved
loop-next-preserved c =
    let so_far = c.loop-next.invariant in
    let added = c.in_ok-add-2.ensures in
    let next = rw c.in-Some.is at c.next.ensures in
    record {
      others = so_far.others ++ c.in-Some.next.text.now ∷ [];
      joins = λ pieces m. rw append_assoc (so_far.joins (c.in-Some.next.text.now ∷ pieces) (next_piece c.loop-next.piece c.in-Some.next next pieces m));
      read = read_more c.requires c.first-first.result.is_followed c.first-first.result.text.now so_far.others c.loop-next.all c.add-in-Some.new.self c.in-Some.next.text.now added.answer so_far.read added.read added.more.ranges added.more.rejected added.more.is_only;
      behind = next_behind c.loop-next.piece c.in-Some.next next ∙ so_far.behind;
    }

pub loop-next-smaller : goal.loop-next-smaller
loop-next-smaller c = next_shorter c.loop-next.piece c.in-Some.next (rw c.in-Some.is at c.next.ensures)

pub returns-in_err-add-2-clause-rejection : goal.returns-in_err-add-2-clause-rejection
returns-in_err-add-2-clause-rejection c =
    err_reports (λ e. e) c.from_residual-in_err-add-2.result None (IsCutRejection c.args.flavour c.args.text.now) c.from_residual-in_err-add-2.ensures.1 is_out_of_memory

pub returns-in_default-rejected-clause-reading : goal.returns-in_default-rejected-clause-reading
returns-in_default-rejected-clause-reading c =
    let first = c.first-first.result in
    let all = all_read c.loop-next.invariant.joins c.loop-next.invariant.read c.in_default.ensures in
    valid_ranges c.requires (first_piece c.first-first.ensures) all c.in_default-rejected.is refl

pub returns-in_err-from_str-clause-rejection : goal.returns-in_err-from_str-clause-rejection
returns-in_err-from_str-clause-rejection c = err_reports (λ e. e) c.from_residual-in_err-from_str.result None (IsCutRejection c.args.flavour c.args.text.now) c.from_residual-in_err-from_str.ensures.1 is_out_of_memory

pub returns-then-is_valid_npm_tag-clause-reading : goal.returns-then-is_valid_npm_tag-clause-reading
returns-then-is_valid_npm_tag-clause-reading c =
    let first = c.first-first.result in
    let all = all_read c.loop-next.invariant.joins c.loop-next.invariant.read c.in_default.ensures in
    tag_read (first_piece c.first-first.ensures) all c.in-Some-rejected.is c.if-all.true _ (ap Tag (c.in_ok-from_str.ensures.value ∙ c.trim-tag.ensures.trim), rw c.trim-tag.ensures.trim at (sym c.if-is_valid_npm_tag.ensures))

pub returns-then-eq-clause-reading : goal.returns-then-eq-clause-reading
returns-then-eq-clause-reading c =
    let first = c.first-first.result in
    let all = all_read c.loop-next.invariant.joins c.loop-next.invariant.read c.in_default.ensures in
    let npm : c.args.flavour ≡ Npm = search rules in
    rw npm (many_ranges (first_piece c.first-first.ensures) (rw npm at all) c.if-all.false refl)

pub returns-clause-rejected : goal.returns-clause-rejected
returns-clause-rejected c =
    let first = c.first-first.result in
    let all = all_read c.loop-next.invariant.joins c.loop-next.invariant.read c.in_default.ensures in
    inr (elim c.if-all.branch [
      | then-all+else-is_valid_npm_tag w ↦ tag_rejected (first_piece c.first-first.ensures) all c.in-Some-rejected.is w.if-all.true (rw w.trim-tag.ensures.trim at (sym w.if-is_valid_npm_tag.ensures))
      | else-all+else-eq w ↦
          let is = only_normal c.args.flavour c.requires (λ npm. cc (rw npm at w.if-eq.ensures)) in
          rw is (many_rejected (first_piece c.first-first.ensures) (rw is at all) c.in-Some-rejected.is w.if-all.false)
    ])

pub returns-clause-rejection : goal.returns-clause-rejection
returns-clause-rejection c =
    let first = c.first-first.result in
    let all = all_read c.loop-next.invariant.joins c.loop-next.invariant.read c.in_default.ensures in
    first_rejected (first_piece c.first-first.ensures) all c.in-Some-rejected.is c.of_rejection.ensures
