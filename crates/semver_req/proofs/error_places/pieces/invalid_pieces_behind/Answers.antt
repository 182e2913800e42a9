use Rattle.std.proofs.Common.{◌≡◌, ◌∙◌, ◌++◌, ◌∷◌, [], ap, length, rules, sym}
use Rattle.std.specs.Vec.{vec_len}
use Rattle.std.proofs.lemmas.Iterator.Adapters.{YieldsList-from_vec}
use Rattle.std.proofs.lemmas.Iterator.Consumers.{YieldsList-end}
use Rattle.std.proofs.lemmas.List.{map-id}
use Rattle.semver_req.specs.Alternatives.{errors_of}
use Rattle.semver_req.specs.declared.error_places.pieces.InvalidPiece.{InvalidPiece}
use Rattle.semver_req.proofs.Alternatives.{error_more, range_more}
use Rattle.semver_req.proofs.error_places.pieces.invalid_pieces_behind.Goals as goal

pub loop-alternative-preserved : goal.loop-alternative-preserved
loop-alternative-preserved c =
    let l = c.loop-alternative in
    let error : InvalidPiece = c.in-Invalid.error in
    let pushed : c.push.new.self.items ≡ l.errors.items ++ error ∷ [] = search rules in
    pushed ∙ (ap (λ errors. errors ++ error ∷ []) l.invariant ∙ sym (error_more l.yielded c.in-Some.alternative error c.in-Invalid.is))

pub loop-alternative-preserved-in-Range : goal.loop-alternative-preserved-in-Range
loop-alternative-preserved-in-Range c = c.loop-alternative.invariant ∙ sym (range_more c.loop-alternative.yielded c.in-Some.alternative c.in-Range._range c.in-Range.is)

pub loop-alternative-preserved-in-Range-2 : goal.loop-alternative-preserved-in-Range-2
loop-alternative-preserved-in-Range-2 c = c.loop-alternative.invariant ∙ sym (range_more c.loop-alternative.yielded c.in-Some.alternative c.in-Range._range c.in-Range.is)

pub returns : goal.returns
returns c =
    let l = c.loop-alternative in
    let all = c.in_ok-alternative-items.alternative-items.items in
    let gives = c.into_iter-alternative-iterator.ensures.into_iter_gives in
    let count : vec_len c.in_ok-alternative-items.alternative-items ≡ length all = search rules in
    let given = YieldsList-from_vec {s = c.into_iter-alternative-iterator.result} all gives.0 (gives.1 ∙ count) in
    let end = YieldsList-end given l.yielded l.alternative-iterator l.yielded_by c.next.result c.next.new.self c.in-None.is c.next.ensures.steps in
    (all, c.in_ok-alternative-items.ensures.are, l.invariant ∙ ap errors_of (sym (map-id l.yielded) ∙ end.0))
