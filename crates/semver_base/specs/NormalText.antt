-- The canonical form of a requirement as text: the shortest form of each range. Source: node-semver's "Advanced Range Syntax"
-- for the forms; the choice among them is `deno_semver`'s own.
use Rattle.std.specs.Prelude.{ℕ, List, [], ◌∷◌, ◌++◌, codes, decimal}
use Rattle.std.specs.List.{AllByRecursion, join_by}
use Rattle.semver_base.specs.Characters.{dot}
use Rattle.semver_base.specs.Comparators.{Caret, Comparator, Hyphen, OfPrimitive, Bare, Tilde, primitive_kind_text}
use Rattle.semver_base.specs.PartialTable.{lowest}
use Rattle.semver_base.specs.Shortest.{shortest}
use Rattle.semver_base.specs.VersionText.{IsWritable, version_text}
use Rattle.semver_base.specs.declared.partial.Partial.{Partial}
use Rattle.semver_base.specs.declared.partial.XRange.{XRange}
use Rattle.semver_base.specs.declared.partial.XRange.TheVariants.{Wildcard, Val}
use Rattle.semver_base.specs.declared.range.RangeBound.{RangeBound}
use Rattle.semver_base.specs.declared.range.RangeBound.TheVariants as bound
use Rattle.semver_base.specs.declared.range.VersionRange.{VersionRange}

-- ---- as text

-- trailing wildcards aren't printed, unless there is nothing else
abbrev pub text_by : Partial → XRange → XRange → XRange → List ℕ
text_by p Wildcard minor patch = codes "*"
text_by p (Val major) Wildcard patch = decimal major
text_by p (Val major) (Val minor) Wildcard = decimal major ++ (dot ∷ decimal minor)
text_by p (Val major) (Val minor) (Val patch) = version_text (lowest p)

abbrev pub partial_text : Partial → List ℕ
partial_text p = text_by p p.major p.minor p.patch

abbrev pub comparator_text : Comparator → List ℕ
comparator_text (Tilde p) = codes "~" ++ partial_text p
comparator_text (Caret p) = codes "^" ++ partial_text p
comparator_text (OfPrimitive kind p) = primitive_kind_text kind ++ partial_text p
comparator_text (Bare p) = partial_text p
comparator_text (Hyphen p q) = partial_text p ++ (codes " - " ++ partial_text q)

abbrev pub comparators_text : List Comparator → List ℕ
comparators_text cs = join_by comparator_text (codes " ") cs

abbrev pub range_text : VersionRange → List ℕ
range_text r = comparators_text (shortest r)

-- the ranges' texts joined by ` || `, or without ranges the text that matches no release
abbrev pub set_text : List VersionRange → List ℕ
set_text [] = codes "<0.0.0"
set_text (r ∷ more) = join_by range_text (codes " || ") (r ∷ more)

-- ---- which ranges have a text that parses back

abbrev pub IsWritableBound : RangeBound → Type 0
IsWritableBound bound.Unbounded = Unit {0}
IsWritableBound (bound.Version b) = IsWritable b.version

-- the versions of its bounds have texts that parse back
pub record IsWritableRange (r : VersionRange) : Type 0 where
  pub start : IsWritableBound r.start
  pub end : IsWritableBound r.end

-- so it is for each range
abbrev pub AreWritableRanges : List VersionRange → Type 0
AreWritableRanges ranges = AllByRecursion IsWritableRange ranges
