-- A text parses in one way to ranges or a tag, and in none if it is invalid.
use Rattle.std.proofs.Common.{◌≡◌, ◌∙◌, ℕ, List, Bool, None, sym, inl, inr, ◌⊎◌, ◌↔◌, IsTrue}
use Rattle.semver_req.specs.Outcome.{IsOutcome, Outcome, Ranges, Tag, Rejected, TextsHaveOneOutcome}
use Rattle.semver_req.specs.Parsers.{Failure, IsRead, IsReading}
use Rattle.semver_req.specs.declared.common.values.Flavour.{Flavour}
use Rattle.semver_req.specs.declared.range_set_or_tag.RangeSetOrTag.{RangeSetOrTag}
use Rattle.deno_semver.specs.declared.json.JsonError.{JsonError}
use Rattle.deno_semver.specs.declared.json.JsonError.TheVariants as error

module _ (texts : TextsHaveOneOutcome) (f : Flavour) (text : List ℕ) where
  pub one_reading : (x y : RangeSetOrTag) → IsReading f text x → IsReading f text y → x ≡ y
  one_reading x y h k = go k.outcome (rw (texts f text h.outcome k.outcome h.is_outcome k.is_outcome) at h.is_read) k.is_read
    where
      go : (o : Outcome) → IsRead f o x → IsRead f o y → x ≡ y
      go (Ranges tree) a b = a ∙ sym b
      go (Tag t) a b = a ∙ sym b
      go Rejected a b = absurd a

  no_reading : (x : RangeSetOrTag) → IsOutcome f text Rejected → IsReading f text x → ⊥
  no_reading x rejected h = rw (texts f text h.outcome Rejected h.is_outcome rejected) at h.is_read

  -- a failure for a text that parses is out of memory, and is reported as such
  pub reported_as_memory : (failure : Failure) (is_memory : Bool) (e : JsonError) → (failure ≡ None) ⊎ IsOutcome f text Rejected → IsTrue is_memory ↔ (failure ≡ None)
      → IsTrue is_memory ↔ (e ≡ error.Memory) → (x : RangeSetOrTag) → IsReading f text x → e ≡ error.Memory
  reported_as_memory failure is_memory e (inl none) asked reported x h = reported.0 (asked.1 none)
  reported_as_memory failure is_memory e (inr rejected) asked reported x h = absurd (no_reading x rejected h)
