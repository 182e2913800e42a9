use Rattle.std.proofs.Common.{List, arith, refl, subst, sym}
use Rattle.semver_req.specs.Alternatives.{IsAlternative}
use Rattle.semver_req.specs.declared.error_places.pieces.Alternative.{Alternative}
use Rattle.semver_req.proofs.Alternatives.{Completes, first_completes, next_completes, none_left}
use Rattle.semver_req.proofs.Cuts.{next_behind, next_shorter, next_within, piece_within}
use Rattle.semver_req.proofs.error_places.pieces.split.Goals as goal

pub loop-all-init : goal.loop-all-init
loop-all-init c = record {
  so_far = rw c.new-all.ensures.items (first_completes c.args.flavour c.args.before c.args.text.now c.first-piece.result c.first-piece.ensures);
  within = omega (arith, piece_within c.first-piece.ensures, c.requires.in_memory);
  behind = omega (arith, c.first-piece.ensures.behind, c.requires.in_memory);
}

pub loop-all-preserved : goal.loop-all-preserved
loop-all-preserved c =
    let l = c.loop-all in
    let a : Alternative = record { text = l.piece.text; parsed = c.in_ok-parsed.parsed } in
    let h : IsAlternative c.args.flavour l.piece.is_followed l.piece.start l.piece.text.now a = record { is_text = refl; parsed = c.in_ok-parsed.ensures } in
    let next = rw c.in-Some.is at c.next.ensures in
    record {
      so_far = subst (λ (items : List Alternative). Completes c.args.flavour c.args.before c.args.text.now c.in-Some.next items) (sym c.in_ok-push.ensures.items)
          (next_completes c.args.flavour c.args.before c.args.text.now l.piece l.all.items l.invariant.so_far a h c.in-Some.next next);
      within = omega (arith, next_within l.piece c.in-Some.next next, l.invariant.behind);
      behind = omega (arith, next_behind l.piece c.in-Some.next next, l.invariant.behind);
    }

pub returns-in_default : goal.returns-in_default
returns-in_default c =
    let l = c.loop-all in
    let a : Alternative = record { text = l.piece.text; parsed = c.in_ok-parsed.parsed } in
    let h : IsAlternative c.args.flavour l.piece.is_followed l.piece.start l.piece.text.now a = record { is_text = refl; parsed = c.in_ok-parsed.ensures } in
    rw c.in_ok-push.ensures.items (none_left c.args.flavour c.args.before c.args.text.now l.piece l.all.items l.invariant.so_far a h c.in_default.ensures)

pub loop-all-smaller : goal.loop-all-smaller
loop-all-smaller c = next_shorter c.loop-all.piece c.in-Some.next (rw c.in-Some.is at c.next.ensures)
