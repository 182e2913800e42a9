use Rattle.std.proofs.Common.{◌≡◌, ◌∙◌, sym, min, [], ◌∷◌, length, length-append, rules, Equal}
use Rattle.std.proofs.lemmas.Cmp.{tied_itself}
use Rattle.std.proofs.lemmas.Slice.Zip.{zip_end, zip_turn}
use Rattle.std.specs.Cmp.{unsigned_Decides}
use Rattle.std.specs.Cmp.Lexicographic.{pointwise_decides, slice_cmp}
use Rattle.semver_base.specs.Precedence.{identifier_cmp, pre_cmp}
use Rattle.semver_base.specs.PrecedenceLaws.{identifier_total}
use Rattle.semver_base.proofs.PrecedenceLemmas.{neither_empty, slice_cmp_end, slice_cmp_tie}
use Rattle.semver_base.proofs.version.cmp_pre.Goals as goal

pub loop-x-preserved-then-eq : goal.loop-x-preserved-then-eq
loop-x-preserved-then-eq c =
    let l = c.loop-x in
    let x = c.in-Some.x in
    let y = c.in-Some.y in
    let same : x.now ≡ y.now = (pointwise_decides unsigned_Decides x.now y.now).0 (sym c.if-eq.ensures) in
    let tie : identifier_cmp x.now y.now ≡ Equal = rw same (tied_itself identifier_total y.now) in
    let turn = zip_turn c.as_slice-a.result.now c.as_slice-b.result.now l.yielded _ _ c.next.new.self c.next.result (cc) (cc) l.yielded_by (x, y) c.in-Some.is c.next.ensures.steps in
    rw (length-append l.yielded ((x, y) ∷ [])) (l.invariant ∙ slice_cmp_tie identifier_cmp _ _ (length l.yielded) x.now y.now turn.0 turn.1 turn.2 turn.3 tie)

pub loop-x-preserved : goal.loop-x-preserved
loop-x-preserved c =
    let l = c.loop-x in
    let x = c.in-Some.x in
    let y = c.in-Some.y in
    let tie : identifier_cmp x.now y.now ≡ Equal = search rules in
    let turn = zip_turn c.as_slice-a.result.now c.as_slice-b.result.now l.yielded _ _ c.next.new.self c.next.result (cc) (cc) l.yielded_by (x, y) c.in-Some.is c.next.ensures.steps in
    rw (length-append l.yielded ((x, y) ∷ [])) (l.invariant ∙ slice_cmp_tie identifier_cmp _ _ (length l.yielded) x.now y.now turn.0 turn.1 turn.2 turn.3 tie)

pub returns : goal.returns
returns c =
    let a = c.as_slice-a.result.now in
    let b = c.as_slice-b.result.now in
    let both : pre_cmp c.args.a.now c.args.b.now ≡ slice_cmp identifier_cmp a b =
    rw (c.as_slice-a.ensures, c.as_slice-b.ensures) (neither_empty _ _ (λ e. cc (c.is_empty.ensures.1 e, c.if-is_empty.false)) (λ e. cc (c.is_empty-2.ensures.1 e, c.if-is_empty-3.false))) in
    let at_end : length c.loop-x.yielded ≡ min (length a) (length b) =
    zip_end a b c.loop-x.yielded _ _ c.next.new.self c.next.result (cc) (cc) c.loop-x.yielded_by c.in-None.is c.next.ensures.steps in
    c.cmp-2.ensures ∙ sym (both ∙ c.loop-x.invariant ∙ slice_cmp_end identifier_cmp a b (length c.loop-x.yielded) at_end)
