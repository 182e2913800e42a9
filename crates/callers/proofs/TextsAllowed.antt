-- The result for the text of a requirement, from its parser's result.
use Rattle.std.proofs.Common.{ℕ, List, Ok, refl, ap}
use Rattle.callers.specs.Allowance.{IsAllowance, IsAllowanceOf, allowance_of, yes_or_no}
use Rattle.semver_base.specs.declared.range.PreRelease.TheVariants.{Restricted}
use Rattle.semver_base.specs.declared.version.Version.{Version}
use Rattle.semver_req.specs.Outcome.{IsOutcome, Outcome, Ranges, Rejected, Tag}
use Rattle.semver_req.specs.Parsers.{Failure, IsRead, IsParserAnswer, MeansTrees}
use Rattle.semver_req.specs.Requirement.{Requirement}
use Rattle.semver_req.specs.declared.common.values.Flavour.{Flavour}
use Rattle.semver_req.specs.declared.range_set_or_tag.RangeSetOrTag.{RangeSetOrTag}
use Rattle.semver_req.specs.declared.range_set_or_tag.RangeSetOrTag.TheVariants as inner

-- the result for a tree, or a tag, is that for the requirement parsed from it
reported_of : (f : Flavour) (text : List ℕ) (o : Outcome) (req : RangeSetOrTag) (v : Version) → IsOutcome f text o → IsRead f o req → MeansTrees f text req → IsAllowanceOf o v (allowance_of req v)
reported_of f text (Ranges tree) (inner.RangeSet set) v is read means = ap yes_or_no (means tree is Restricted v)
reported_of f text (Ranges tree) (inner.Tag tag) v is read means = cc read
reported_of f text (Tag name) (inner.RangeSet set) v is read means = cc read
reported_of f text (Tag name) (inner.Tag tag) v is read means = refl
reported_of f text Rejected req v is read means = read

-- the requirement alone is parsed, with a given version
pub alone_read : {E : Type 0} (source : E → Failure) (f : Flavour) (text : List ℕ) (req : Requirement) (v : Version) → IsParserAnswer source f text (Ok req)
    → IsAllowance source f text v (Ok (allowance_of req.inner v))
alone_read source f text req v h = record {
  reported = (h.outcome.outcome, h.outcome.is_outcome, reported_of f text h.outcome.outcome req.inner v h.outcome.is_outcome h.outcome.is_read h.means);
  ranges = λ tree t. reported_of f text (Ranges tree) req.inner v t (h.answer (Ranges tree) t) h.means;
  tag = λ name t. reported_of f text (Tag name) req.inner v t (h.answer (Tag name) t) h.means;
  rejected = λ t. h.answer Rejected t;
  rejected_only = tt;
}
