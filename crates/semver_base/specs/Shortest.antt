-- The shortest usual form of a range, as comparators. Source: node-semver's range grammar, whose tilde, caret and partial
-- versions abbreviate two bounds.
use Rattle.std.specs.Prelude.{ℕ, List, [], ◌∷◌, length, map, ◌+◌, Bool, ◌==◌, ◌&&◌, ◌||◌, nat_lt, if◌then◌else◌}
use Rattle.semver_base.specs.Comparators.{Caret, Comparator, OfPrimitive, Bare, Tilde}
use Rattle.semver_base.specs.Meaning.{release}
use Rattle.semver_base.specs.PrecedenceLaws.{version_eq}
use Rattle.semver_base.specs.declared.partial.Partial.{Partial}
use Rattle.semver_base.specs.declared.partial.PrimitiveKind.TheVariants as primitive
use Rattle.semver_base.specs.declared.partial.XRange.{XRange}
use Rattle.semver_base.specs.declared.partial.XRange.TheVariants.{Wildcard, Val}
use Rattle.semver_base.specs.declared.range.RangeBound.{RangeBound}
use Rattle.semver_base.specs.declared.range.RangeBound.TheVariants as bound
use Rattle.semver_base.specs.declared.range.VersionBoundKind.{VersionBoundKind}
use Rattle.semver_base.specs.declared.range.VersionBoundKind.TheVariants as kind
use Rattle.semver_base.specs.declared.range.VersionRange.{VersionRange}
use Rattle.semver_base.specs.declared.version.Version.{Version}

-- ---- comparators of versions

abbrev pub whole : Version → Partial
whole v = record { major = Val v.major; minor = Val v.minor; patch = Val v.patch; pre = v.pre; build = v.build }

-- a major and a minor, with any patch
abbrev pub numbered : XRange → XRange → Partial
numbered major minor = record { major = major; minor = minor; patch = Wildcard; pre = []; build = [] }

abbrev pub starting : VersionBoundKind → Version → Comparator
starting kind.Inclusive s = OfPrimitive primitive.GreaterThanOrEqual (whole s)
starting kind.Exclusive s = OfPrimitive primitive.GreaterThan (whole s)

abbrev pub ending : VersionBoundKind → Version → Comparator
ending kind.Inclusive e = OfPrimitive primitive.LessThanOrEqual (whole e)
ending kind.Exclusive e = OfPrimitive primitive.LessThan (whole e)

-- ---- the shortest form of a range: the first line that fits

-- the version has these numbers, and neither a pre-release nor a build
abbrev pub is_release_of : Version → ℕ → ℕ → ℕ → Bool
is_release_of v major minor patch =
    (v.major == major) && ((v.minor == minor) && ((v.patch == patch) && ((length v.pre == 0) && (length v.build == 0))))

abbrev pub is_major : Version → Version → Bool
is_major s e = is_release_of s s.major 0 0 && is_release_of e (s.major + 1) 0 0

abbrev pub is_minor : Version → Version → Bool
is_minor s e = is_release_of s s.major s.minor 0 && is_release_of e s.major (s.minor + 1) 0

abbrev pub is_tilde : Version → Version → Bool
is_tilde s e = is_release_of e s.major (s.minor + 1) 0

abbrev pub is_caret_patch : Version → Version → Bool
is_caret_patch s e = (s.major == 0) && ((s.minor == 0) && is_release_of e 0 0 (s.patch + 1))

abbrev pub is_caret_major : Version → Version → Bool
is_caret_major s e = nat_lt 0 s.major && is_release_of e (s.major + 1) 0 0

abbrev pub shortest_between : VersionBoundKind → VersionBoundKind → Version → Version → List Comparator
shortest_between kind.Inclusive kind.Inclusive s e =
    if version_eq s e then Bare (whole s) ∷ []
    else if is_release_of s 0 0 0 then ending kind.Inclusive e ∷ []
    else starting kind.Inclusive s ∷ ending kind.Inclusive e ∷ []
shortest_between kind.Inclusive kind.Exclusive s e =
    if is_major s e then Bare (numbered (Val s.major) Wildcard) ∷ []
    else if is_minor s e then Bare (numbered (Val s.major) (Val s.minor)) ∷ []
    else if is_tilde s e then Tilde (whole s) ∷ []
    else if is_caret_patch s e then Caret (whole s) ∷ []
    else if is_caret_major s e then Caret (whole s) ∷ []
    else if is_release_of s 0 0 0 then ending kind.Exclusive e ∷ []
    else starting kind.Inclusive s ∷ ending kind.Exclusive e ∷ []
shortest_between kind.Exclusive k s e = starting kind.Exclusive s ∷ ending k e ∷ []

abbrev pub shortest_of : RangeBound → RangeBound → List Comparator
shortest_of bound.Unbounded bound.Unbounded = Bare (numbered Wildcard Wildcard) ∷ []
shortest_of bound.Unbounded (bound.Version e) = ending e.kind e.version ∷ []
shortest_of (bound.Version s) bound.Unbounded = starting s.kind s.version ∷ []
shortest_of (bound.Version s) (bound.Version e) = shortest_between s.kind e.kind s.version e.version

abbrev pub shortest : VersionRange → List Comparator
shortest range = shortest_of range.start range.end

-- a range from s to below e has a form of one comparator
abbrev pub has_short_form : Version → Version → Bool
has_short_form s e = is_major s e || (is_tilde s e || (is_caret_patch s e || is_caret_major s e))

-- the forms of the ranges of a set; a set without ranges is `<0.0.0`
abbrev pub shortest_tree : List VersionRange → List (List Comparator)
shortest_tree [] = (ending kind.Exclusive (release 0 0 0) ∷ []) ∷ []
shortest_tree (range ∷ ranges) = map shortest (range ∷ ranges)
