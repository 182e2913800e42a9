-- What a requirement is, and which versions it matches. Source: node-semver's description of ranges; a requirement may also
-- be a tag, as in npm's package specifiers.
use Rattle.std.specs.Prelude.{◌≡◌, ◌&&◌, ◌↔◌, IsTrue, ℕ, List, [], ◌∷◌, Bool, true, false, not, Option, Some, None, nat_eq, codes}
use Rattle.std.specs.Cmp.Lexicographic.{pointwise}
use Rattle.std.specs.List.{list_all}
use Rattle.semver_base.specs.Meaning.{alternatives, everything, from, tree_means_with}
use Rattle.semver_base.specs.NormalText.{set_text}
use Rattle.semver_base.specs.Overlap.{some_overlap}
use Rattle.semver_base.specs.PartialTable.{between, up_to}
use Rattle.semver_base.specs.PrecedenceLaws.{SamePrecedence}
use Rattle.semver_base.specs.VersionText.{version_text}
use Rattle.semver_base.specs.declared.range.PreRelease.{PreRelease}
use Rattle.semver_base.specs.declared.range.PreRelease.TheVariants.{Restricted}
use Rattle.semver_base.specs.declared.range.VersionRange.{VersionRange}
use Rattle.semver_base.specs.declared.range.VersionRangeSet.{VersionRangeSet}
use Rattle.semver_base.specs.declared.version.Version.{Version}
use Rattle.semver_req.specs.declared.range_set_or_tag.RangeSetOrTag.{RangeSetOrTag}
use Rattle.semver_req.specs.declared.range_set_or_tag.RangeSetOrTag.TheVariants as inner

-- the text that was parsed, and its ranges or tag
pub record Requirement : Type 0 where
  pub raw_text : List ℕ
  pub inner : RangeSetOrTag

abbrev pub tag_of : RangeSetOrTag → Option (List ℕ)
tag_of (inner.RangeSet set) = None
tag_of (inner.Tag text) = Some text

abbrev pub set_of : RangeSetOrTag → Option VersionRangeSet
set_of (inner.RangeSet set) = Some set
set_of (inner.Tag text) = None

-- which versions match; a tag matches none
abbrev pub inner_means_with : PreRelease → RangeSetOrTag → Version → Bool
inner_means_with flag (inner.RangeSet set) v = tree_means_with flag (alternatives set.0) v
inner_means_with flag (inner.Tag text) v = false

-- the same by npm's rule about pre-releases
abbrev pub inner_means : RangeSetOrTag → Version → Bool
inner_means answer v = inner_means_with Restricted answer v

-- two range sets overlap by the bound rule, two tags if they are the same, a tag and ranges never
abbrev pub inner_overlap : RangeSetOrTag → RangeSetOrTag → Bool
inner_overlap (inner.RangeSet set) (inner.RangeSet other) = some_overlap set.0 other.0
inner_overlap (inner.Tag text) (inner.Tag other) = pointwise nat_eq text other
inner_overlap (inner.RangeSet set) (inner.Tag text) = false
inner_overlap (inner.Tag text) (inner.RangeSet set) = false

-- no version matches both, with or without npm's rule about pre-releases
abbrev pub MatchNoVersion : RangeSetOrTag → RangeSetOrTag → Type 0
MatchNoVersion one other =
    (flag : PreRelease) (v : Version) → (inner_means_with flag one v && inner_means_with flag other v) ≡ false

-- both requirements match the version
abbrev pub inners_mean_with : PreRelease → RangeSetOrTag → RangeSetOrTag → Version → Bool
inners_mean_with flag one other v = inner_means_with flag one v && inner_means_with flag other v

-- the first requirement matches the version, and the other doesn't
abbrev pub inner_means_alone_with : PreRelease → RangeSetOrTag → RangeSetOrTag → Version → Bool
inner_means_alone_with flag one other v = inner_means_with flag one v && not (inner_means_with flag other v)

-- the ranges of a requirement; a tag has none
abbrev pub ranges_of : RangeSetOrTag → VersionRangeSet
ranges_of (inner.RangeSet set) = set
ranges_of (inner.Tag text) = record { 0 = [] }

-- none of the requirements is a tag
abbrev pub is_no_tag : RangeSetOrTag → Bool
is_no_tag (inner.RangeSet set) = true
is_no_tag (inner.Tag text) = false

abbrev pub have_no_tag : List Requirement → Bool
have_no_tag requirements = list_all (λ (req : Requirement). is_no_tag req.inner) requirements

-- the first requirement and all others match the version
abbrev pub all_inners_mean_with : PreRelease → RangeSetOrTag → List Requirement → Version → Bool
all_inners_mean_with flag own others v = inner_means_with flag own v
    && list_all (λ (other : Requirement). inner_means_with flag other.inner v) others

-- two tags overlap exactly if they are the same
abbrev pub OverlapAsTags : RangeSetOrTag → RangeSetOrTag → Bool → Type 0
OverlapAsTags (inner.Tag text) (inner.Tag other) result = IsTrue result ↔ (text ≡ other)
OverlapAsTags one other result = Unit {0}

-- ---- texts

-- the canonical form of ranges, and a tag as it is
abbrev pub inner_text : RangeSetOrTag → List ℕ
inner_text (inner.RangeSet set) = set_text set.0
inner_text (inner.Tag text) = text

-- ---- the requirement of one range

abbrev pub of_range : List ℕ → VersionRange → Requirement
of_range text range = record { raw_text = text; inner = inner.RangeSet (record { 0 = range ∷ [] }) }

-- ---- the requirement of one version

-- from the version to itself, both inclusive; its text is the version's
abbrev pub pinned : Version → Requirement
pinned v = of_range (version_text v) (between (from v) (up_to v))

-- exactly the versions of the same precedence match
abbrev pub PinsTo : Version → RangeSetOrTag → Type 0
PinsTo v answer = (w : Version) → IsTrue (inner_means answer w) ↔ SamePrecedence v w

-- ---- the requirement of any version

-- the text `*`, and one range without bounds
abbrev pub wildcard : Requirement
wildcard = of_range (codes "*") everything
