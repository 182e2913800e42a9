-- Questions about versions and ranges.
use Rattle.std.specs.Prelude.{◌≡◌, ◌↔◌, IsTrue, ℕ, List, [], ◌∷◌, Bool, false, Option, None, Some, Result, Ok}
use Rattle.std.specs.List.{list_any}
use Rattle.std.specs.declared.cmp.Ordering.{Ordering}
use Rattle.semver_base.specs.Containment.{AreEquivalent, IsWithin}
use Rattle.semver_base.specs.LowestVersion.{IsLowest}
use Rattle.semver_base.specs.Precedence.{precedence_cmp}
use Rattle.semver_base.specs.SortKey.{sort_key}
use Rattle.semver_base.specs.VersionText.{version_text}
use Rattle.semver_base.specs.declared.range.PreRelease.{PreRelease}
use Rattle.semver_base.specs.declared.version.Version.{Version}
use Rattle.node_semver.specs.Outside.{lies}
use Rattle.node_semver.specs.declared.outside.Side.{Side}
use Rattle.semver_req.specs.Requirement.{Requirement, all_inners_mean_with, inner_means_alone_with, inner_means_with, inner_overlap, inner_text, tag_of}
use Rattle.semver_req.specs.declared.common.values.Flavour.{Flavour}
use Rattle.semver_req.specs.declared.range_set_or_tag.RangeSetOrTag.{RangeSetOrTag}
use Rattle.semver_req.specs.declared.range_set_or_tag.RangeSetOrTag.TheVariants as inner
use Rattle.semver_req.specs.Resolve.{IsBestAt, higher, lower}
use Rattle.answers.specs.Asking.{Each, Fault, Given, Is}
use Rattle.answers.specs.Reading.{IsRangeAt, IsVersionAt}
use Rattle.answers.specs.declared.asking.Answer.{Answer}
use Rattle.answers.specs.declared.asking.Answer.TheVariants.{Value, Tag}
use Rattle.answers.specs.declared.questions.Best.{Best}
use Rattle.answers.specs.declared.questions.End.{End}
use Rattle.answers.specs.declared.questions.End.TheVariants.{Highest, Lowest}

-- ---- tags

-- the one, or else the other
abbrev pub first_of : Option (List ℕ) → Option (List ℕ) → Option (List ℕ)
first_of (Some tag) other = Some tag
first_of None other = other

-- the first tag among ranges
abbrev pub first_tag : List Requirement → Option (List ℕ)
first_tag [] = None
first_tag (req ∷ reqs) = first_of (tag_of req.inner) (first_tag reqs)

-- a tag is the result; without a tag, what is asked
abbrev pub UnlessTag : {X : Type 0} → Option (List ℕ) → (Result (Answer X) Fault → Type 0) → Result (Answer X) Fault → Type 0
UnlessTag (Some tag) Asked outcome = outcome ≡ Ok (Tag tag)
UnlessTag None Asked outcome = Asked outcome

-- ---- does the version match the range

-- whether the version matches the range, or the tag
abbrev pub match_of : PreRelease → RangeSetOrTag → Version → Answer Bool
match_of flag (inner.RangeSet set) v = Value (inner_means_with flag (inner.RangeSet set) v)
match_of flag (inner.Tag tag) v = Tag tag

abbrev pub Matches : PreRelease → Flavour → List ℕ → List ℕ → Result (Answer Bool) Fault → Type 0
Matches flag f range version =
    Given (IsRangeAt f 0 range) (λ req. Given (IsVersionAt 0 version) (λ v. Is (match_of flag req.inner v)))

-- ---- does the version lie outside the range

-- whether the version lies on this side of each version that the range matches
abbrev pub LiesOutsideOf : Side → PreRelease → RangeSetOrTag → Version → Result (Answer Bool) Fault → Type 0
LiesOutsideOf side flag read v = UnlessTag (tag_of read) (λ outcome. (is : Bool)
    × (IsTrue is ↔ IsWithin (inner_means_with flag read) (lies side v)) × (outcome ≡ Ok (Value is)))

abbrev pub LiesOutside : Side → PreRelease → Flavour → List ℕ → List ℕ → Result (Answer Bool) Fault → Type 0
LiesOutside side flag f range version =
    Given (IsRangeAt f 0 range) (λ req. Given (IsVersionAt 0 version) (LiesOutsideOf side flag req.inner))

-- ---- the highest or the lowest of several versions that matches

-- at this end of the order, which of two versions is the better one
abbrev pub better : End → Version → Version → Bool
better Highest = higher
better Lowest = lower

-- the best version that passes a test with its place, of equal ones the first; or that none passes
abbrev pub IsBest : End → (Version → Bool) → List Version → Option Best → Type 0
IsBest end test versions (Some best) = IsBestAt (better end) test versions best.place best.version
IsBest end test versions None = list_any test versions ≡ false

-- of a parsed range, the match at this end of the order
abbrev pub BestOf : End → PreRelease → RangeSetOrTag → List Version → Result (Answer (Option Best)) Fault → Type 0
BestOf end flag read versions = UnlessTag (tag_of read)
    (λ outcome. (best : Option Best) × IsBest end (inner_means_with flag read) versions best × (outcome ≡ Ok (Value best)))

-- the same of texts
abbrev pub BestMatch : End → PreRelease → Flavour → List ℕ → List (List ℕ) → Result (Answer (Option Best)) Fault → Type 0
BestMatch end flag f range versions =
    Given (IsRangeAt f 0 range) (λ req. Given (Each IsVersionAt 0 versions) (BestOf end flag req.inner))

-- ---- do two ranges overlap

abbrev pub Overlaps : Flavour → List ℕ → List ℕ → Result Bool Fault → Type 0
Overlaps f one other =
    Given (IsRangeAt f 0 one) (λ req. Given (IsRangeAt f 1 other) (λ others. Is (inner_overlap req.inner others.inner)))

-- ---- the lowest version

-- the lowest version that passes a test, or that there is none
abbrev pub LowestOf : (Version → Bool) → Result (Answer (Option Version)) Fault → Type 0
LowestOf test outcome = (lowest : Option Version) × IsLowest test lowest × (outcome ≡ Ok (Value lowest))

-- the lowest version that all ranges match; none for no ranges
abbrev pub CommonOf : PreRelease → List Requirement → Result (Answer (Option Version)) Fault → Type 0
CommonOf flag [] = Is (Value None)
CommonOf flag (own ∷ others) = UnlessTag (first_tag (own ∷ others)) (LowestOf (all_inners_mean_with flag own.inner others))

abbrev pub Common : PreRelease → Flavour → List (List ℕ) → Result (Answer (Option Version)) Fault → Type 0
Common flag f texts = Given (Each (IsRangeAt f) 0 texts) (CommonOf flag)

-- the lowest version that the first range matches and the other doesn't; none if the other contains it
abbrev pub OutsideOf : PreRelease → Requirement → Requirement → Result (Answer (Option Version)) Fault → Type 0
OutsideOf flag one other = UnlessTag (first_tag (one ∷ other ∷ [])) (LowestOf (inner_means_alone_with flag one.inner other.inner))

abbrev pub Outside : PreRelease → Flavour → List ℕ → List ℕ → Result (Answer (Option Version)) Fault → Type 0
Outside flag f one other = Given (IsRangeAt f 0 one) (λ req. Given (IsRangeAt f 1 other) (OutsideOf flag req))

-- ---- do two ranges match the same versions

-- whether two parsed ranges match the same versions
abbrev pub EquivalentOf : PreRelease → Requirement → Requirement → Result (Answer Bool) Fault → Type 0
EquivalentOf flag one other = UnlessTag (first_tag (one ∷ other ∷ [])) (λ outcome. (same : Bool)
    × (IsTrue same ↔ AreEquivalent (inner_means_with flag one.inner) (inner_means_with flag other.inner))
    × (outcome ≡ Ok (Value same)))

abbrev pub Equivalent : PreRelease → Flavour → List ℕ → List ℕ → Result (Answer Bool) Fault → Type 0
Equivalent flag f one other = Given (IsRangeAt f 0 one) (λ req. Given (IsRangeAt f 1 other) (EquivalentOf flag req))

-- ---- texts

-- the canonical form of a range, or the tag
abbrev pub Canonical : Flavour → List ℕ → Result (List ℕ) Fault → Type 0
Canonical f range = Given (IsRangeAt f 0 range) (λ req. Is (inner_text req.inner))

-- the version as displayed
abbrev pub Displayed : List ℕ → Result (List ℕ) Fault → Type 0
Displayed version = Given (IsVersionAt 0 version) (λ v. Is (version_text v))

-- the version's sort key
abbrev pub SortKeyOf : List ℕ → Result (List ℕ) Fault → Type 0
SortKeyOf version = Given (IsVersionAt 0 version) (λ v. Is (sort_key v))

-- ---- of two versions, which is before the other

abbrev pub Orders : List ℕ → List ℕ → Result Ordering Fault → Type 0
Orders one other = Given (IsVersionAt 0 one) (λ v. Given (IsVersionAt 1 other) (λ w. Is (precedence_cmp v w)))
