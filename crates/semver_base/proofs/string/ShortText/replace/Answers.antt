use Rattle.std.proofs.Common.{◌≡◌, ◌++◌, ◌<◌, [], length, take, drop, encode_utf8, refl, rules, sym, ap, subst, ◌∙◌, arith, length-append, append_assoc}
use Rattle.std.proofs.lemmas.Bool.Decides.{nat_tests}
use Rattle.std.proofs.lemmas.List.{nil_from_length}
use Rattle.semver_base.specs.Texts.{IsReplaced, at_end, no_more}
use Rattle.semver_base.proofs.Replaced.{IsPartly, IsStep, character_step, first_fits, found_step, last_one, left_over, next, no_longer, second_fits}
use Rattle.semver_base.proofs.string.ShortText.replace.Goals as goal

-- ---- between the characters

pub returns-in_err-push_str-clause-succeeds : goal.returns-in_err-push_str-clause-succeeds
returns-in_err-push_str-clause-succeeds g c r h short =
    let to = c.args.to.now in
    let none : c.args.from.now ≡ [] = nil_from_length c.args.from.now (grind (arith, nat_tests)) in
    let steps = c.in-Some.ensures.steps in
    let step = character_step [] to refl c.loop-character.character-iterator.rest.now c.next.new.self.rest.now c.in-Some.character (sym steps.2) steps.0 in
    let fits = no_longer [] to c.args.self.now c.loop-character.replaced _ _ _ r c.loop-character.invariant step (rw none at h) in
    absurd (cc (c.in_err-push_str.ensures.succeeds (first_fits c.loop-character.replaced to (encode_utf8 c.in-Some.character) g.row.LIMIT (omega (arith, fits, short)))))

pub loop-character-preserved : goal.loop-character-preserved
loop-character-preserved g c =
    let to = c.args.to.now in
    let steps = c.in-Some.ensures.steps in
    let step = character_step [] to refl c.loop-character.character-iterator.rest.now c.next.new.self.rest.now c.in-Some.character (sym steps.2) steps.0 in
    let grown : c.push.new.self ≡ c.loop-character.replaced ++ (to ++ encode_utf8 c.in-Some.character) =
    c.in_ok-push.ensures.ok ∙ (ap (λ done. done ++ encode_utf8 c.in-Some.character) c.in_ok-push_str.ensures.ok ∙ append_assoc c.loop-character.replaced to (encode_utf8 c.in-Some.character)) in
    subst (λ done. IsPartly [] to c.args.self.now done c.next.new.self.rest.now) (sym grown) (next [] to c.args.self.now c.loop-character.replaced _ _ _ c.loop-character.invariant step)

pub returns-in_err-push-clause-succeeds : goal.returns-in_err-push-clause-succeeds
returns-in_err-push-clause-succeeds g c r h short =
    let to = c.args.to.now in
    let none : c.args.from.now ≡ [] = nil_from_length c.args.from.now (grind (arith, nat_tests)) in
    let steps = c.in-Some.ensures.steps in
    let step = character_step [] to refl c.loop-character.character-iterator.rest.now c.next.new.self.rest.now c.in-Some.character (sym steps.2) steps.0 in
    let fits = no_longer [] to c.args.self.now c.loop-character.replaced _ _ _ r c.loop-character.invariant step (rw none at h) in
    absurd (cc (c.in_err-push.ensures.succeeds
    (second_fits c.loop-character.replaced to (encode_utf8 c.in-Some.character) c.push_str.new.self g.row.LIMIT (omega (arith, fits, short)) c.in_ok-push_str.ensures.ok)))

pub returns-in_err-push_str-2-clause-succeeds : goal.returns-in_err-push_str-2-clause-succeeds
returns-in_err-push_str-2-clause-succeeds g c r h short =
    let to = c.args.to.now in
    let none : c.args.from.now ≡ [] = nil_from_length c.args.from.now (grind (arith, nat_tests)) in
    let left = c.loop-character.invariant.comes_from r (rw none at h) in
    let last = last_one [] to refl c.loop-character.character-iterator.rest.now left.more c.in-None.ensures.steps.0.0 left.replaced in
    let whole : length r ≡ length (c.loop-character.replaced ++ to) = ap length (left.is ∙ ap (λ t. c.loop-character.replaced ++ t) last) in
    absurd (cc (c.in_err-push_str-2.ensures.succeeds (omega (arith, whole, short, length-append c.loop-character.replaced to))))

pub returns-then-is_empty-clause-value : goal.returns-then-is_empty-clause-value
returns-then-is_empty-clause-value g c =
    let to = c.args.to.now in
    let none : c.args.from.now ≡ [] = nil_from_length c.args.from.now (grind (arith, nat_tests)) in
    let ended = nil_from_length c.loop-character.character-iterator.rest.now c.in-None.ensures.steps.0.0 in
    rw none (subst (IsReplaced [] to c.args.self.now) (sym c.in_ok-push_str-2.ensures.ok) (c.loop-character.invariant.goes_on to (subst (λ t. IsReplaced [] to t to) (sym ended) (at_end refl))))

-- ---- each occurrence

pub returns-in_err-push_str-3-clause-succeeds : goal.returns-in_err-push_str-3-clause-succeeds
returns-in_err-push_str-3-clause-succeeds g c r h short =
    let to = c.args.to.now in
    let some : 0 < length c.args.from.now = search rules in
    let cut = c.in-Some-split_once.ensures.cases in
    let step = subst (λ front. IsStep c.args.from.now to c.loop-before.rest.now (front ++ to) (drop cut.1 c.loop-before.rest.now)) (sym cut.3) (found_step c.args.from.now to some c.loop-before.rest.now cut.0 cut.1 cut.2) in
    let fits = no_longer c.args.from.now to c.args.self.now c.loop-before.replaced _ _ _ r c.loop-before.invariant.1 step h in
    absurd (cc (c.in_err-push_str-3.ensures.succeeds (first_fits c.loop-before.replaced c.in-Some-split_once.before.now to g.row.LIMIT (omega (arith, fits, short)))))

pub returns-in_err-push_str-4-clause-succeeds : goal.returns-in_err-push_str-4-clause-succeeds
returns-in_err-push_str-4-clause-succeeds g c r h short =
    let to = c.args.to.now in
    let some : 0 < length c.args.from.now = search rules in
    let cut = c.in-Some-split_once.ensures.cases in
    let step = subst (λ front. IsStep c.args.from.now to c.loop-before.rest.now (front ++ to) (drop cut.1 c.loop-before.rest.now)) (sym cut.3) (found_step c.args.from.now to some c.loop-before.rest.now cut.0 cut.1 cut.2) in
    let fits = no_longer c.args.from.now to c.args.self.now c.loop-before.replaced _ _ _ r c.loop-before.invariant.1 step h in
    absurd (cc (c.in_err-push_str-4.ensures.succeeds
    (second_fits c.loop-before.replaced c.in-Some-split_once.before.now to c.push_str-in-Some-split_once.new.self g.row.LIMIT (omega (arith, fits, short)) c.in_ok-push_str-3.ensures.ok)))

pub loop-before-preserved : goal.loop-before-preserved
loop-before-preserved g c =
    let to = c.args.to.now in
    let some : 0 < length c.args.from.now = search rules in
    let cut = c.in-Some-split_once.ensures.cases in
    let step = found_step c.args.from.now to some c.loop-before.rest.now cut.0 cut.1 cut.2 in
    let grown : c.push_str-in-Some-split_once-2.new.self ≡ c.loop-before.replaced ++ (take cut.0 c.loop-before.rest.now ++ to) =
    c.in_ok-push_str-4.ensures.ok ∙ (ap (λ done. done ++ to) c.in_ok-push_str-3.ensures.ok ∙ (append_assoc c.loop-before.replaced c.in-Some-split_once.before.now to ∙ ap (λ front. c.loop-before.replaced ++ (front ++ to)) cut.3)) in (
      search rules,
      subst (λ done. IsPartly c.args.from.now to c.args.self.now done c.in-Some-split_once.after.now) (sym grown)
          (subst (IsPartly c.args.from.now to c.args.self.now (c.loop-before.replaced ++ (take cut.0 c.loop-before.rest.now ++ to))) (sym cut.4)
          (next c.args.from.now to c.args.self.now c.loop-before.replaced _ _ _ c.loop-before.invariant.1 step)),
    )

pub returns-in_err-push_str-5-clause-succeeds : goal.returns-in_err-push_str-5-clause-succeeds
returns-in_err-push_str-5-clause-succeeds g c r h short =
    let some : 0 < length c.args.from.now = search rules in
    let left = c.loop-before.invariant.1.comes_from r h in
    let last = left_over c.args.from.now c.args.to.now some c.loop-before.rest.now left.more c.in_default.ensures.cases left.replaced in
    let whole : length r ≡ length (c.loop-before.replaced ++ c.loop-before.rest.now) = ap length (left.is ∙ ap (λ t. c.loop-before.replaced ++ t) last) in
    absurd (cc (c.in_err-push_str-5.ensures.succeeds (omega (arith, whole, short, length-append c.loop-before.replaced c.loop-before.rest.now))))

pub returns-clause-value : goal.returns-clause-value
returns-clause-value g c =
    subst (IsReplaced c.args.from.now c.args.to.now c.args.self.now) (sym c.in_ok-push_str-5.ensures.ok) (c.loop-before.invariant.1.goes_on c.loop-before.rest.now (no_more c.in_default.ensures.cases))
