-- A short range that matches the same versions of a list. Source: node-semver's documentation of `simplifyRange`. What is ours: the
-- range that is made matches the same versions of the list, which is checked; and a list without versions changes nothing.
use Rattle.std.specs.Prelude.{◌≡◌, ◌==◌, ◌&&◌, ℕ, Bool, false, List, None, Result, Ok, IsPermutation, IsSorted, if◌then◌else◌, is_none, length, nat_lt, not}
use Rattle.std.specs.List.{list_all}
use Rattle.semver_base.specs.NormalText.{set_text}
use Rattle.semver_base.specs.Precedence.{version_cmp}
use Rattle.semver_base.specs.declared.range.PreRelease.{PreRelease}
use Rattle.semver_base.specs.declared.version.Version.{Version}
use Rattle.semver_req.specs.Requirement.{Requirement, inner_means_with, tag_of}
use Rattle.semver_req.specs.declared.common.values.Flavour.{Flavour}
use Rattle.semver_req.specs.declared.range_set_or_tag.RangeSetOrTag.{RangeSetOrTag}
use Rattle.node_semver.specs.Simplify.{ranges_of}
use Rattle.answers.specs.Asking.{Each, Fault, Given, OrElse}
use Rattle.answers.specs.Questions.{UnlessTag}
use Rattle.answers.specs.Reading.{IsRangeAt, IsVersionAt}
use Rattle.answers.specs.declared.asking.Answer.{Answer}
use Rattle.answers.specs.declared.asking.Answer.TheVariants.{Value}

-- whether both ranges match a version, or neither does
abbrev pub match_alike : PreRelease → RangeSetOrTag → RangeSetOrTag → Version → Bool
match_alike flag one other v = if inner_means_with flag one v then inner_means_with flag other v else not (inner_means_with flag other v)

-- whether the other is a range, and both match the same versions of the list, of which there are some
abbrev pub match_same : PreRelease → RangeSetOrTag → List Version → RangeSetOrTag → Bool
match_same flag one versions other = (not (length versions == 0) && is_none (tag_of other)) && list_all (match_alike flag one other) versions

-- the versions in ascending order, those that differ only in the build by it
pub record IsAscending (versions sorted : List Version) : Type 0 where
  pub same : IsPermutation versions sorted
  pub ascends : IsSorted version_cmp sorted

-- the canonical form of the ranges in which sorted versions match
abbrev pub made_text : PreRelease → RangeSetOrTag → List Version → List ℕ
made_text flag read sorted = set_text (ranges_of (inner_means_with flag read) sorted)

-- the one text, if it is as good and shorter, or else the other
abbrev pub shorter : Bool → List ℕ → List ℕ → List ℕ
shorter is_as_good made text = if is_as_good && nat_lt (length made) (length text) then made else text

-- the range of this text, or what is made of the versions if it's shorter and, parsed by the same grammar, matches the same of the list
pub record Simplified (flag : PreRelease) (f : Flavour) (text : List ℕ) (read : RangeSetOrTag) (versions : List Version) (simplified : List ℕ) : Type 0 where
  pub sorted : List Version
  pub is_sorted : IsAscending versions sorted
  pub is_same : Bool
  pub is_same_is : OrElse (IsRangeAt f 0 (made_text flag read sorted)) (λ (req : Requirement). match_same flag read sorted req.inner) false (Ok is_same)
  pub is : simplified ≡ shorter is_same (made_text flag read sorted) text

abbrev pub SimplifiedOf : PreRelease → Flavour → List ℕ → RangeSetOrTag → List Version → Result (Answer (List ℕ)) Fault → Type 0
SimplifiedOf flag f text read versions = UnlessTag (tag_of read)
    (λ outcome. (simplified : List ℕ) × Simplified flag f text read versions simplified × (outcome ≡ Ok (Value simplified)))

-- the same of texts
abbrev pub Simplifies : PreRelease → Flavour → List ℕ → List (List ℕ) → Result (Answer (List ℕ)) Fault → Type 0
Simplifies flag f range versions =
    Given (IsRangeAt f 0 range) (λ req. Given (Each IsVersionAt 0 versions) (SimplifiedOf flag f range req.inner))
