use Rattle.std.proofs.Common.{◌++◌, codes, refl}
use Rattle.std.proofs.lemmas.Bool.{both_ways}
use Rattle.std.proofs.lemmas.Result.{IfOk-weaker}
use Rattle.semver_req.proofs.Endings.{ascii_text}
use Rattle.semver_req.proofs.ViableParts.{bar_viable, bars_viable, piece_viable, sixth, with_viable}
use Rattle.semver_req.proofs.error_places.is_viable_piece.Goals as goal

pub is_piece_behind-requires : goal.is_piece_behind-requires
is_piece_behind-requires c = c.requires.behind

pub is_piece_with-requires : goal.is_piece_with-requires
is_piece_with-requires c = c.requires.behind

pub returns-then-branch : goal.returns-then-branch
returns-then-branch c = (λ t. piece_viable c.args.flavour c.args.sizes (c.args.front.now ++ c.args.prefix.now) (c.in_ok-is_piece_behind.ensures.0 c.if-branch.true), λ v. refl)

pub returns-then-branch-2 : goal.returns-then-branch-2
returns-then-branch-2 c = (λ t. with_viable c.args.flavour c.args.sizes (c.args.front.now ++ c.args.prefix.now) (codes "1") (ascii_text (codes "1") refl) (c.in_ok-is_piece_with.ensures.0 c.if-branch-2.true), λ v. refl)

pub returns-then-branch-3 : goal.returns-then-branch-3
returns-then-branch-3 c = (λ t. with_viable c.args.flavour c.args.sizes (c.args.front.now ++ c.args.prefix.now) (codes " 1") (ascii_text (codes " 1") refl) (c.in_ok-is_piece_with-2.ensures.0 c.if-branch-3.true), λ v. refl)

pub returns-then-branch-4 : goal.returns-then-branch-4
returns-then-branch-4 c = (λ t. with_viable c.args.flavour c.args.sizes (c.args.front.now ++ c.args.prefix.now) (codes "&") (ascii_text (codes "&") refl) (c.in_ok-is_piece_with-3.ensures.0 c.if-branch-4.true), λ v. refl)

pub returns-then-branch-5 : goal.returns-then-branch-5
returns-then-branch-5 c = (λ t. bar_viable c.args.flavour c.args.sizes (c.args.front.now ++ c.args.prefix.now) (c.in_ok-is_piece_before.ensures.0 c.if-branch-5.true), λ v. refl)

pub returns : goal.returns
returns c =
    IfOk-weaker c.is_piece_before-2.result _ _
    (λ b h. (
      λ t. bars_viable c.args.flavour c.args.sizes (c.args.front.now ++ c.args.prefix.now) (h.0 t),
      λ v. h.1 (sixth c.args.flavour c.args.sizes c.requires.splits (c.args.front.now ++ c.args.prefix.now)
          (λ k. both_ways c.in_ok-is_piece_behind.field-0 c.if-branch.false (c.in_ok-is_piece_behind.ensures.1 k))
          (λ k. both_ways c.in_ok-is_piece_with.field-0 c.if-branch-2.false (c.in_ok-is_piece_with.ensures.1 k))
          (λ k. both_ways c.in_ok-is_piece_with-2.field-0 c.if-branch-3.false (c.in_ok-is_piece_with-2.ensures.1 k))
          (λ k. both_ways c.in_ok-is_piece_with-3.field-0 c.if-branch-4.false (c.in_ok-is_piece_with-3.ensures.1 k))
          (λ k. both_ways c.in_ok-is_piece_before.field-0 c.if-branch-5.false (c.in_ok-is_piece_before.ensures.1 k)) v),
    ))
    c.is_piece_before-2.ensures
