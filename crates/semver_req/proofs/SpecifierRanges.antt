-- What the strict parser makes of a text.
use Rattle.std.proofs.Common.{◌≡◌, ◌<◌, ℕ, true, false, List, [], ◌∷◌, length, Some, None, Result, Ok, Err, refl, sym, ap, ◌∙◌, arith, inl, inr, ◌⊎◌, IfErr, IsErrAnd}
use Rattle.std.proofs.lemmas.Bool.{and_from, and_left, and_right}
use Rattle.semver_base.specs.Failure.{message_of, rejection_message}
use Rattle.semver_base.specs.Grammar.{HasNone}
use Rattle.semver_base.specs.Lexical.{IsWhitespace}
use Rattle.semver_base.specs.declared.failure.Rejection.{Rejection}
use Rattle.semver_base.specs.declared.failure.Rejection.TheVariants.{UnexpectedCharacter}
use Rattle.semver_base.specs.declared.range.VersionRange.{VersionRange}
use Rattle.semver_base.specs.ByteLaws.{none_by_byte}
use Rattle.semver_req.specs.Outcome.{IsSpecifierOutcome, IsSpecifierRange, IsTagOr, Outcome, Ranges, Rejected, Tag, left_over, no_fit, no_front, no_tag, tag, whole}
use Rattle.semver_req.specs.Parsers.{Failure, IsReading}
use Rattle.semver_req.specs.Single.{IsSingle, absent, is_followed, is_range, over_bound, over_number}
use Rattle.semver_req.specs.SpecifierRejections.{IsNoTag, IsSpecifierRejection, whitespace_no_tag, whitespace_text, empty_constraint, large_bound, large_number, is_out_of_memory, no_memory_left, no_range, other_no_tag, something_follows, unexpected_character}
use Rattle.semver_req.specs.Tag.{is_valid_tag}
use Rattle.semver_req.specs.declared.specifier.Single.TheVariants.{Absent, Followed, Range, TooLarge}
use Rattle.semver_req.specs.declared.common.values.Flavour.TheVariants.{Specifier}
use Rattle.semver_req.specs.declared.range_set_or_tag.RangeSetOrTag.{RangeSetOrTag}
use Rattle.semver_req.specs.declared.range_set_or_tag.RangeSetOrTag.TheVariants as inner
use Rattle.semver_req.proofs.OneOutcome.{some_or_none}
use Rattle.semver_req.proofs.SpecifierRetained.{specifier_retained}
use Rattle.semver_req.proofs.Grammars as rule
use Rattle.semver_req.proofs.GrammarFacts.{comparator_some, comparator_under, disjoint, starts, whitespace_under}
use Rattle.semver_req.proofs.RuleFacts.{begins_first, plain}
use Rattle.semver_req.proofs.Rules.{Bytes, firsts, steps}

-- ---- whitespace doesn't begin with a range of a specifier

abbrev whitespace_starts : Bytes
whitespace_starts = firsts (steps (plain rule.whitespace))

pub no_whitespace_none : (text : List ℕ) → IsWhitespace text tt → HasNone IsSpecifierRange text
no_whitespace_none text b = none_by_byte (comparator_some Specifier) (begins_first (comparator_under Specifier)) text (λ x rest e k. disjoint (starts Specifier) whitespace_starts refl x k ((begins_first whitespace_under).begins x (record { more = rest; value = tt; stands = rw e at b })))

-- ---- tags

pub no_tag_of : (text : List ℕ) (rejection : Rejection) (failure : Failure) → (failure ≡ None) ⊎ (failure ≡ Some (rejection_message rejection, None)) → is_valid_tag text ≡ false → (IsWhitespace text tt → ⊥) → IsNoTag text rejection failure
no_tag_of text rejection failure (inl e) v b = rw e no_memory_left
no_tag_of text rejection failure (inr e) v b = rw e (other_no_tag v b)

pub whitespace_of : (text : List ℕ) (rejection : Rejection) (failure : Failure) → (failure ≡ None) ⊎ (failure ≡ empty_constraint) → is_valid_tag text ≡ false → IsWhitespace text tt → IsNoTag text rejection failure
whitespace_of text rejection failure (inl e) v b = rw e no_memory_left
whitespace_of text rejection failure (inr e) v b = rw e (whitespace_no_tag v b)

-- the text as a tag, if its outcome is what it is as a tag
tag_reading : {text : List ℕ} {answer : RangeSetOrTag} → ((o : Outcome) → IsTagOr text o → IsSpecifierOutcome text o) → (answer ≡ inner.Tag text) × (is_valid_tag text ≡ true) → IsReading Specifier text answer
tag_reading {text} to h = record { outcome = Tag text; is_outcome = to (Tag text) (tag h.1); is_read = h.0 }

module _ {text : List ℕ} where
  pub range_reading : {range : VersionRange} → IsSingle Specifier text (Range range) → (answer : RangeSetOrTag) → answer ≡ inner.RangeSet (record { 0 = range ∷ [] }) → IsReading Specifier text answer
  range_reading (is_range {c} longest numbers sums) answer answered = record {
    outcome = Ranges ((c ∷ []) ∷ []);
    is_outcome = whole longest (and_from _ _ numbers sums);
    is_read = answered ∙ ap (λ (r : VersionRange). inner.RangeSet (record { 0 = r ∷ [] })) (sym (specifier_retained longest.stands));
  }

  pub followed_rejection : IsSingle Specifier text Followed → (failure : Failure) → (failure ≡ None) ⊎ (failure ≡ unexpected_character) → IsSpecifierRejection text failure
  followed_rejection (is_followed longest numbers sums some) failure (inl h) = rw h is_out_of_memory
  followed_rejection (is_followed longest numbers sums some) failure (inr h) = rw h (something_follows longest (and_from _ _ numbers sums) some)

  pub absent_reading : IsSingle Specifier text Absent → (answer : RangeSetOrTag) → (answer ≡ inner.Tag text) × (is_valid_tag text ≡ true) → IsReading Specifier text answer
  absent_reading (absent none) answer = tag_reading (λ o t. no_front none t)

  pub absent_rejection : IsSingle Specifier text Absent → (failure : Failure) → IsNoTag text UnexpectedCharacter failure → IsSpecifierRejection text failure
  absent_rejection (absent none) failure no_memory_left = is_out_of_memory
  absent_rejection (absent none) failure (whitespace_no_tag v b) = whitespace_text none v b
  absent_rejection (absent none) failure (other_no_tag v b) = no_range none v b

  pub large_reading : {why : Rejection} → IsSingle Specifier text (TooLarge why) → (answer : RangeSetOrTag) → (answer ≡ inner.Tag text) × (is_valid_tag text ≡ true) → IsReading Specifier text answer
  large_reading (over_number longest large) answer = tag_reading (λ o t. no_fit longest (and_left _ _ large) t)
  large_reading (over_bound longest numbers large) answer = tag_reading (λ o t. no_fit longest (and_right _ _ large) t)

  pub large_rejection : {why : Rejection} → IsSingle Specifier text (TooLarge why) → (failure : Failure) → IsNoTag text why failure → IsSpecifierRejection text failure
  large_rejection (over_number longest large) failure no_memory_left = is_out_of_memory
  large_rejection (over_number longest large) failure (whitespace_no_tag v b) = some_or_none longest (no_whitespace_none text b)
  large_rejection (over_number longest large) failure (other_no_tag v b) = large_number longest large v
  large_rejection (over_bound longest numbers large) failure no_memory_left = is_out_of_memory
  large_rejection (over_bound longest numbers large) failure (whitespace_no_tag v b) = some_or_none longest (no_whitespace_none text b)
  large_rejection (over_bound longest numbers large) failure (other_no_tag v b) = large_bound longest numbers large v

-- ---- failures

pub memory_err : {T : Type 0} (r : Result T Failure) (P : Failure → Type 0) → IsErrAnd r (λ f. f ≡ None) → P None → IfErr r P
memory_err (Ok x) P h k = tt
memory_err (Err f) P h k = rw h k

-- ---- the outcomes of rejected texts

pub rejection_outcome : {text : List ℕ} {failure : Failure} → IsSpecifierRejection text failure → (failure ≡ None) ⊎ IsSpecifierOutcome text Rejected
rejection_outcome is_out_of_memory = inl refl
rejection_outcome (something_follows p f some) = inr (left_over p f some)
rejection_outcome (whitespace_text n v b) = inr (no_front n (no_tag v))
rejection_outcome (no_range n v b) = inr (no_front n (no_tag v))
rejection_outcome (large_number p l v) = inr (no_fit p (and_left _ _ l) (no_tag v))
rejection_outcome (large_bound p f l v) = inr (no_fit p (and_right _ _ l) (no_tag v))

pub whitespace_rejection : {text : List ℕ} {failure : Failure} → IsWhitespace text tt → IsSpecifierRejection text failure → (failure ≡ None) ⊎ (failure ≡ empty_constraint)
whitespace_rejection b is_out_of_memory = inl refl
whitespace_rejection {text} b (something_follows p f some) = some_or_none p (no_whitespace_none text b)
whitespace_rejection b (whitespace_text n v _) = inr refl
whitespace_rejection b (no_range n v not) = absurd (not b)
whitespace_rejection {text} b (large_number p l v) = some_or_none p (no_whitespace_none text b)
whitespace_rejection {text} b (large_bound p f l v) = some_or_none p (no_whitespace_none text b)

other_message : {T : Type 0} {a b : Failure} → length (message_of a) < length (message_of b) → a ≡ b → T
other_message less e = absurd (omega (arith, ap (λ f. length (message_of f)) e))

pub rejection_whitespace : {text : List ℕ} {failure : Failure} → IsSpecifierRejection text failure → failure ≡ empty_constraint → IsWhitespace text tt
rejection_whitespace is_out_of_memory e = cc e
rejection_whitespace (something_follows p f some) e = other_message (omega arith) e
rejection_whitespace (whitespace_text n v b) e = b
rejection_whitespace (no_range n v not) e = other_message (omega arith) e
rejection_whitespace (large_number p l v) e = other_message (omega arith) e
rejection_whitespace (large_bound p f l v) e = other_message (omega arith) (sym e)
