use Rattle.std.proofs.Common.{◌≡◌, ◌++◌, ◌<◌, ◌∙◌, ℕ, zero, suc, arith, List, [], ◌∷◌, Option, None, Some, get_or, length, take, refl, sym, ap, rules}
use Rattle.std.proofs.lemmas.List.{take_all, take_more}
use Rattle.semver_req.specs.Requirement.{Requirement, tag_of}
use Rattle.answers.specs.Questions.{first_of, first_tag}
use Rattle.answers.proofs.questions.first_tag.Goals as goal

none_before : (own more : Option (List ℕ)) → first_of own more ≡ None → (own ≡ None) × (more ≡ None)
none_before None more h = (refl, h)
none_before (Some tag) more h = absurd (cc h)

-- the first tag is that of the first range that has one
found : (reqs : List Requirement) (i : ℕ) (d : Requirement) → i < length reqs → first_tag (take i reqs) ≡ None → (tag : List ℕ) → tag_of (get_or reqs i d).inner ≡ Some tag → first_tag reqs ≡ Some tag
found [] i d within h tag is = absurd (omega (arith, within))
found (req ∷ reqs) zero d within h tag is = ap (λ own. first_of own (first_tag reqs)) is
found (req ∷ reqs) (suc i) d within h tag is =
    let both = none_before (tag_of req.inner) (first_tag (take i reqs)) h in
    ap (λ own. first_of own (first_tag reqs)) both.0 ∙ found reqs i d (omega (arith, within)) both.1 tag is

none_more : (reqs : List Requirement) (req : Requirement) → first_tag reqs ≡ None → tag_of req.inner ≡ None → first_tag (reqs ++ req ∷ []) ≡ None
none_more [] req h is = ap (λ own. first_of own None) is
none_more (r ∷ rs) req h is =
    let both = none_before (tag_of r.inner) (first_tag rs) h in
    ap (λ own. first_of own (first_tag (rs ++ req ∷ []))) both.0 ∙ none_more rs req both.1 is

pub returns-in-Some : goal.returns-in-Some
returns-in-Some c =
    let is : tag_of c.range-item.result.inner ≡ Some c.in-Some.tag.now = search rules in
    sym (found c.args.ranges.now c.loop-range.range-index _ c.loop-range-test.true c.loop-range.invariant c.in-Some.tag.now (ap (λ (req : Requirement). tag_of req.inner) (sym c.range-item.is) ∙ is))

pub loop-range-preserved : goal.loop-range-preserved
loop-range-preserved c =
    let is : tag_of c.range-item.result.inner ≡ None = search rules in
    ap first_tag (take_more c.args.ranges.now c.loop-range.range-index c.range-item.result c.loop-range-test.true)
    ∙ none_more (take c.loop-range.range-index c.args.ranges.now) _ c.loop-range.invariant (rw (sym c.range-item.is) is)

pub returns : goal.returns
returns c = sym (ap first_tag (sym (take_all c.loop-range.range-index c.args.ranges.now c.loop-range-test.false)) ∙ c.loop-range.invariant)
