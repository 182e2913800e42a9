-- The result of a parser is what the argument means.
use Rattle.std.proofs.Common.{◌≡◌, ℕ, List, Ok, Err, None, ap, inl, inr, ◌∙◌, sym, ◌⊎◌}
use Rattle.semver_req.specs.Outcome as outcome
use Rattle.semver_req.specs.Outcome.{IsOutcome, Outcome, Ranges, Tag}
use Rattle.semver_req.specs.Parsers.{Failure, IsResultOf, IsRead, IsParserAnswer, IsReading}
use Rattle.semver_req.specs.Requirement.{Requirement}
use Rattle.semver_req.specs.TextRejection.{IsTextRejection, TextsAreRejectedForOneReason}
use Rattle.semver_req.specs.declared.common.values.Flavour.{Flavour}
use Rattle.semver_req.specs.declared.range_set_or_tag.RangeSetOrTag.{RangeSetOrTag}
use Rattle.answers.specs.Asking.{IsAnswer, problem_of}
use Rattle.answers.specs.Reading.{IsRangeAt, IsRangeRead}
use Rattle.answers.specs.declared.asking.Kind.TheVariants as kind
use Rattle.answers.specs.ReadingLaws.{was_not_parsed, was_parsed}

module _ (f : Flavour) (place : ℕ) (text : List ℕ) where
  one_reading : (req : Requirement) → IsParserAnswer (λ (e : Failure). e) f text (Ok req) → (read : RangeSetOrTag) → IsReading f text read → req.inner ≡ read
  one_reading req h read k = go k.outcome (h.answer k.outcome k.is_outcome) k.is_read
    where
      go : (o : Outcome) → IsResultOf (λ (e : Failure). e) f o (Ok req) → IsRead f o read → req.inner ≡ read
      go (Ranges tree) is was = is ∙ sym was
      go (Tag name) is was = is ∙ sym was
      go outcome.Rejected is was = absurd was

  not_rejected : (req : Requirement) → IsParserAnswer (λ (e : Failure). e) f text (Ok req) → IsOutcome f text outcome.Rejected → ⊥
  not_rejected req h p = cc (h.answer outcome.Rejected p)

  same_requirement : (req other : Requirement) → req.inner ≡ other.inner → req.raw_text ≡ other.raw_text → req ≡ other
  same_requirement req other e g = ap (λ (read : RangeSetOrTag). record { raw_text = req.raw_text; inner = read }) e ∙ ap (λ (raw : List ℕ). record { raw_text = raw; inner = other.inner }) g

  pub was_read : (req : Requirement) → IsParserAnswer (λ (e : Failure). e) f text (Ok req) → IsAnswer (IsRangeAt f place text) (λ (r : Requirement). r) (Ok req)
  was_read req h = was_parsed kind.Range place (IsRangeRead f text) req (record { reading = h.outcome; raw_text = h.raw_text }, h.means)
      (λ other k. same_requirement req other (one_reading req h other.inner k.0.reading) (h.raw_text ∙ sym k.0.raw_text)) (λ failure some p. not_rejected req h p.0)

  reading_memory : (failure : Failure) → IsParserAnswer (λ (e : Failure). e) f text (Err failure) → (read : RangeSetOrTag) → IsReading f text read → failure ≡ None
  reading_memory failure h read k = go k.outcome (h.answer k.outcome k.is_outcome) k.is_read
    where
      go : (o : Outcome) → IsResultOf (λ (e : Failure). e) f o (Err failure) → IsRead f o read → failure ≡ None
      go (Ranges tree) is was = is
      go (Tag name) is was = is
      go outcome.Rejected is was = absurd was

  pub was_rejected : TextsAreRejectedForOneReason → (failure : Failure) → IsParserAnswer (λ (e : Failure). e) f text (Err failure) → IsTextRejection f text failure
      → IsAnswer (IsRangeAt f place text) (λ (r : Requirement). r) (Err (problem_of kind.Range place failure))
  was_rejected one_reason failure h why = was_not_parsed kind.Range place (IsRangeRead f text) failure (read h.rejected) (λ other k. reading_memory failure h other.inner k.0.reading)
      (λ other k some more. one_reason f text failure other why k.1 some more)
    where
      read : (failure ≡ None) ⊎ IsOutcome f text outcome.Rejected → (failure ≡ None) ⊎ IsRangeRead f text (Err failure)
      read (inl none) = inl none
      read (inr o) = inr (o, why)
