use Rattle.std.proofs.Common.{◌≡◌, ◌++◌, ◌∷◌, [], ◌∙◌, append-nil, length, map, refl, rules, string_bytes, sym}
use Rattle.std.specs.Vec.{vec_len}
use Rattle.std.proofs.lemmas.Iterator.Adapters.{YieldsList-from_vec}
use Rattle.std.proofs.lemmas.Iterator.Consumers.{YieldsList-end}
use Rattle.std.proofs.lemmas.List.{map-append, map-id}
use Rattle.semver_req.specs.ComparatorLists.{told}
use Rattle.answers.specs.Explained.{of_comparators, of_none, shown}
use Rattle.answers.proofs.ExplainedPieces.{fitting_more}
use Rattle.answers.proofs.explained.comparators_of.Goals as goal

pub returns-in_default : goal.returns-in_default
returns-in_default c = rw c.new-all.ensures.items (of_none (rw c.in_default.is at c.in_ok-items.ensures))

pub loop-item-preserved : goal.loop-item-preserved
loop-item-preserved c =
    let l = c.loop-item in
    let item = c.in-Some-item.item in
    rw (map-append told l.yielded (item ∷ []), fitting_more (map told l.yielded) item.text.now item.parsed, c.in-Invalid.is, append-nil) l.invariant

pub loop-item-preserved-in-Continue-branch-4 : goal.loop-item-preserved-in-Continue-branch-4
loop-item-preserved-in-Continue-branch-4 c =
    let l = c.loop-item in
    let item = c.in-Some-item.item in
    let made = c.in_ok-text-in-Range.text in
    let text : string_bytes made ≡ item.text.now = search rules in
    rw (c.in_ok-push-in-Range.ensures.items, map-append shown l.all.items (record { text = made; range = c.in-Range.range } ∷ []), l.invariant, map-append told l.yielded (item ∷ []), fitting_more (map told l.yielded) item.text.now item.parsed, c.in-Range.is, text) refl

pub returns : goal.returns
returns c =
    let l = c.loop-item in
    let all = c.in-Some.items.items in
    let gives = c.into_iter-item-iterator.ensures.into_iter_gives in
    let count : vec_len c.in-Some.items ≡ length all = search rules in
    let given = YieldsList-from_vec {s = c.into_iter-item-iterator.result} all gives.0 (gives.1 ∙ count) in
    let end = YieldsList-end given l.yielded l.item-iterator l.yielded_by c.next.result c.next.new.self c.in-None.is c.next.ensures.steps in
    let whole : all ≡ l.yielded = sym end.0 ∙ map-id l.yielded in
    rw l.invariant (of_comparators (rw (c.in-Some.is, whole) at c.in_ok-items.ensures))
