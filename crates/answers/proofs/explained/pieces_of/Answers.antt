use Rattle.std.proofs.Common.{◌≡◌, ◌++◌, ◌∷◌, [], ◌∙◌, length, rules, subst, sym}
use Rattle.std.specs.Vec.{vec_len}
use Rattle.std.proofs.lemmas.Iterator.Adapters.{YieldsList-from_vec}
use Rattle.std.proofs.lemmas.Iterator.Consumers.{YieldsList-end, YieldsList-turn}
use Rattle.std.proofs.lemmas.List.{map-id}
use Rattle.semver_req.specs.Alternatives.{AreAlternatives}
use Rattle.answers.specs.Explained.{AreExplained}
use Rattle.answers.proofs.ExplainedPieces.{explained_more, writable_at}
use Rattle.answers.proofs.explained.pieces_of.Goals as goal

pub of-requires : goal.of-requires
of-requires c =
    let l = c.loop-alternative in
    let all = c.in_ok-alternative-items.alternative-items.items in
    let gives = c.into_iter-alternative-iterator.ensures.into_iter_gives in
    let count : vec_len c.in_ok-alternative-items.alternative-items ≡ length all = search rules in
    let given = YieldsList-from_vec {s = c.into_iter-alternative-iterator.result} all gives.0 (gives.1 ∙ count) in
    let at = YieldsList-turn given l.yielded l.alternative-iterator l.yielded_by c.next.result c.next.new.self c.in-Some.alternative c.in-Some.is c.next.ensures.steps in
    writable_at all (length l.yielded) c.in-Some.alternative at.0 at.1 c.in_ok-alternative-items.ensures.writable

pub loop-alternative-preserved : goal.loop-alternative-preserved
loop-alternative-preserved c =
    let l = c.loop-alternative in
    subst (AreExplained c.args.flavour c.args.pre_release (l.yielded ++ c.in-Some.alternative ∷ [])) (sym c.in_ok-push.ensures.items)
    (explained_more c.args.flavour c.args.pre_release l.yielded l.pieces.items c.in-Some.alternative c.in_ok-of.field-0 l.invariant c.in_ok-of.ensures)

pub returns : goal.returns
returns c =
    let l = c.loop-alternative in
    let all = c.in_ok-alternative-items.alternative-items.items in
    let gives = c.into_iter-alternative-iterator.ensures.into_iter_gives in
    let count : vec_len c.in_ok-alternative-items.alternative-items ≡ length all = search rules in
    let given = YieldsList-from_vec {s = c.into_iter-alternative-iterator.result} all gives.0 (gives.1 ∙ count) in
    let end = YieldsList-end given l.yielded l.alternative-iterator l.yielded_by c.next.result c.next.new.self c.in-None.is c.next.ensures.steps in
    record {
      alternatives = l.yielded;
      are = subst (AreAlternatives c.args.flavour 0 c.args.text.now) (sym end.0 ∙ map-id l.yielded) c.in_ok-alternative-items.ensures.are;
      explained = l.invariant;
    }
