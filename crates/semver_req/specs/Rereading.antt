-- The canonical form of a parsed set, parsed again. Source: `deno_semver`, whose text of a requirement is meant to parse
-- back.
use Rattle.std.specs.Prelude.{◌≡◌, ◌≤◌, ◌<◌, ◌↔◌, ℕ, List, [], ◌∷◌, length, Bool, true, false, not, ◌==◌, ◌&&◌, ◌||◌, IsUtf8, Ok, codes}
use Rattle.std.specs.List.{AllByRecursion, list_all}
use Rattle.std.specs.Str.{trim}
use Rattle.semver_base.specs.Characters.{at_sign, slash}
use Rattle.semver_base.specs.Comparators.{Comparator}
use Rattle.semver_base.specs.Containment.{AreEquivalent}
use Rattle.semver_base.specs.Meaning.{alternatives, release, set_means, tree_means_with}
use Rattle.semver_base.specs.NormalText.{range_text, set_text, AreWritableRanges, IsWritableRange}
use Rattle.semver_base.specs.Overlap.{starts_before}
use Rattle.semver_base.specs.PrecedenceLaws.{version_eq}
use Rattle.semver_base.specs.Shortest.{ending, is_release_of, shortest, shortest_tree}
use Rattle.semver_base.specs.VersionGrammar.{IsVersionOutcome}
use Rattle.semver_base.specs.declared.range.PreRelease.{PreRelease}
use Rattle.semver_base.specs.declared.range.RangeBound.{RangeBound}
use Rattle.semver_base.specs.declared.range.RangeBound.TheVariants as bound
use Rattle.semver_base.specs.declared.range.VersionBoundKind.{VersionBoundKind}
use Rattle.semver_base.specs.declared.range.VersionBoundKind.TheVariants as kind
use Rattle.semver_base.specs.declared.range.VersionRange.{VersionRange}
use Rattle.semver_base.specs.declared.version.Version.{Version}
use Rattle.semver_req.specs.Comparators.{fits}
use Rattle.semver_req.specs.RetainedSet.{IsReadSet, retained}
use Rattle.semver_req.specs.Outcome.{IsOutcome, Outcome, Ranges, Tag, tree_ranges}
use Rattle.semver_req.specs.PieceReading.{IsPieceRead}
use Rattle.semver_req.specs.Pieces.{HasNoBar, IsCutting, IsPiece}
use Rattle.semver_req.specs.Parsers.{IsReadFrom, IsReading, StartsFit}
use Rattle.semver_req.specs.Requirement.{inner_means, wildcard}
use Rattle.semver_req.specs.declared.common.values.Flavour.{Flavour}
use Rattle.semver_req.specs.declared.common.values.Flavour.TheVariants.{Normal}
use Rattle.semver_req.specs.declared.range_set_or_tag.RangeSetOrTag.{RangeSetOrTag}
use Rattle.semver_req.specs.declared.range_set_or_tag.RangeSetOrTag.TheVariants as inner
use Rattle.semver_req.specs.declared.range_set_or_tag.pieces.RangeOrInvalid.TheVariants as read

-- ---- which ranges keep their meaning

-- a pre-release of 0.0.0
abbrev pub is_pre_of_zero : Version → Bool
is_pre_of_zero v = not (length v.pre == 0) && ((v.major == 0) && ((v.minor == 0) && (v.patch == 0)))

-- from a version to itself, build included, or to below 0.0.1 or 0.1.0, as `^0.0.0-a` and `~0.0.0-a`
abbrev pub has_own_form : VersionBoundKind → VersionBoundKind → Version → Version → Bool
has_own_form kind.Inclusive kind.Inclusive s e = version_eq s e
has_own_form kind.Inclusive kind.Exclusive s e = is_release_of e 0 0 1 || is_release_of e 0 1 0
has_own_form kind.Exclusive k s e = false

abbrev pub keeps_start : RangeBound → RangeBound → Bool
keeps_start (bound.Version s) (bound.Version e) =
    not (is_pre_of_zero s.version) || has_own_form s.kind e.kind s.version e.version
keeps_start start end = true

-- a range with an end keeps its meaning unless it starts at a pre-release of 0.0.0 and has no form of its own
abbrev pub keeps_meaning : VersionRange → Bool
keeps_meaning range = keeps_start range.start range.end

-- ---- which ranges parse back equal

abbrev pub has_no_build : RangeBound → Bool
has_no_build (bound.Version b) = length b.version.build == 0
has_no_build bound.Unbounded = true

-- no bound has a build, and the start is below the end, or at it with both inclusive
abbrev pub is_orderly : VersionRange → Bool
is_orderly range = (has_no_build range.start && has_no_build range.end) && starts_before range.start range.end

-- ---- parsing again

-- the parser parses the text to this tree
abbrev pub IsTree : Flavour → List ℕ → List (List Comparator) → Type 0
IsTree f text tree = IsOutcome f text (Ranges tree)

-- npm's and the normalized parser both parse the text to the shortest forms of the ranges, and to nothing else
abbrev pub IsReadAsForms : List ℕ → List VersionRange → Type 0
IsReadAsForms text ranges = (f : Flavour) → IsCutting f
    → IsTree f text (shortest_tree ranges) × ((o : Outcome) → IsOutcome f text o → o ≡ Ranges (shortest_tree ranges))

-- if every range keeps its meaning, each tree of the text matches what the ranges match, with or without npm's rule about
-- pre-releases
abbrev pub MeansTheSame : List ℕ → List VersionRange → Type 0
MeansTheSame text ranges = list_all keeps_meaning ranges ≡ true → (f : Flavour) → IsCutting f
    → (tree : List (List Comparator)) → IsTree f text tree
    → (flag : PreRelease) (v : Version)
    → tree_means_with flag (tree_ranges tree) v ≡ tree_means_with flag (alternatives ranges) v

-- so do the ranges that either parser keeps of it
abbrev pub KeepsTheSame : List ℕ → List VersionRange → Type 0
KeepsTheSame text ranges = list_all keeps_meaning ranges ≡ true → (f : Flavour) → IsCutting f
    → (tree : List (List Comparator)) → IsTree f text tree
    → (flag : PreRelease) (v : Version)
    → tree_means_with flag (alternatives (retained f tree)) v ≡ tree_means_with flag (alternatives ranges) v

-- they are the ranges themselves if these are orderly too
abbrev pub KeepsEqual : List ℕ → List VersionRange → Type 0
KeepsEqual text ranges =
    list_all is_orderly ranges ≡ true → list_all keeps_meaning ranges ≡ true → (f : Flavour) → IsCutting f
    → (tree : List (List Comparator)) → IsTree f text tree → retained f tree ≡ ranges

-- ---- reaching a fixed point

-- the parser parses the set's canonical form to comparators, of which it keeps the set itself
pub record IsReadAsItself (f : Flavour) (ranges : List VersionRange) : Type 0 where
  pub tree : List (List Comparator)
  pub is_tree : IsTree f (set_text ranges) tree
  pub is_retained : retained f tree ≡ ranges

-- the set is stable: npm's and the normalized parser both do so
abbrev pub IsStableSet : List VersionRange → Type 0
IsStableSet ranges = (f : Flavour) → IsCutting f → IsReadAsItself f ranges

-- what either parser keeps of the text is stable
abbrev pub KeepsStable : List ℕ → List VersionRange → Type 0
KeepsStable text ranges =
    (f : Flavour) → IsCutting f → (tree : List (List Comparator)) → IsTree f text tree → IsStableSet (retained f tree)

-- what is said of a version that some text parses to
abbrev pub OfReadVersion : Version → Type 0 → Type 0
OfReadVersion v Says = (text : List ℕ) → IsVersionOutcome text (Ok v) → Says

-- ---- laws

-- the canonical form of a parsed set, parsed again by npm's or the normalized parser
pub record IsRereading (text : List ℕ) (ranges : List VersionRange) : Type 0 where
  pub forms : IsReadAsForms text ranges
  pub is_trimmed : trim text ≡ text
  pub means : MeansTheSame text ranges
  pub retained_means : KeepsTheSame text ranges
  pub equal : KeepsEqual text ranges

abbrev pub NormalTextsKeepTheirMeaning : Type 0
NormalTextsKeepTheirMeaning = (ranges : List VersionRange) → IsReadSet ranges → IsRereading (set_text ranges) ranges

-- a parsed set whose ranges keep their meaning is equivalent to what either parser makes of its canonical form
abbrev pub NormalTextsAreEquivalent : Type 0
NormalTextsAreEquivalent = (ranges : List VersionRange) → IsReadSet ranges → list_all keeps_meaning ranges ≡ true
    → (f : Flavour) → IsCutting f → (again : RangeSetOrTag) → IsReading f (set_text ranges) again
    → AreEquivalent (set_means ranges) (inner_means again)

-- what either parser keeps of the canonical form of a parsed set is stable
abbrev pub OneRereadingStabilizes : Type 0
OneRereadingStabilizes = (ranges : List VersionRange) → IsReadSet ranges → KeepsStable (set_text ranges) ranges

-- stable sets are the same exactly if their canonical forms are
abbrev pub StableSetsAreTheirTexts : Type 0
StableSetsAreTheirTexts = (some others : List VersionRange) → IsStableSet some → IsStableSet others
    → (some ≡ others) ↔ (set_text some ≡ set_text others)

-- the text is one piece without `||`, in npm's and in the normalized grammar of these one or two comparators, which fit
pub record IsOnePiece (text : List ℕ) (comparators : List Comparator) : Type 0 where
  pub no_bar : HasNoBar text
  pub piece : (f : Flavour) → IsCutting f → IsPiece f text comparators
  pub some : 0 < length comparators
  pub at_most_two : length comparators ≤ 2
  pub fit : list_all fits comparators ≡ true

-- so is the canonical form of each range of a parsed set, and that of the empty set, `<0.0.0`
pub record RangesAreWrittenAsPieces : Type 0 where
  pub ranges : (ranges : List VersionRange) → IsReadSet ranges
      → AllByRecursion (λ range. IsOnePiece (range_text range) (shortest range)) ranges
  pub none : IsOnePiece (set_text []) (ending kind.Exclusive (release 0 0 0) ∷ [])

-- the texts of the bounds parse back, for the range of a piece and for each range of a parsed set
pub record ReadRangesAreWritable : Type 0 where
  pub pieces : (f : Flavour) (followed : Bool) (piece : List ℕ) (range : VersionRange)
      → IsPieceRead f followed piece (read.Range range) → IsWritableRange range
  pub sets : (ranges : List VersionRange) → IsReadSet ranges → AreWritableRanges ranges

-- ---- tags

-- the normalized parser returns the same tag for a tag that some parser returned; if that was the normalized parser, of a
-- text that doesn't begin with whitespace
abbrev pub TagsReadBack : Type 0
TagsReadBack =
    (f : Flavour) (text t : List ℕ) → IsUtf8 text → StartsFit f text → IsOutcome f text (Tag t)
    → IsOutcome Normal t (Tag t)

-- ---- in texts of packages

-- no `@` and no `/`, which delimit a requirement in the text of a package
pub record HoldsNoSeparator (text : List ℕ) : Type 0 where
  pub no_at : list_all (λ b. not (b == at_sign)) text ≡ true
  pub no_slash : list_all (λ b. not (b == slash)) text ≡ true

-- neither the canonical form of a parsed set nor a tag that some parser returns contains one
abbrev pub NormalTextsHoldNoSeparator : Type 0
NormalTextsHoldNoSeparator = (ranges : List VersionRange) → IsReadSet ranges → HoldsNoSeparator (set_text ranges)

abbrev pub TagsHoldNoSeparator : Type 0
TagsHoldNoSeparator = (f : Flavour) (text t : List ℕ) → IsUtf8 text → StartsFit f text
    → IsOutcome f text (Tag t) → HoldsNoSeparator t

-- each parser parses `*` to any version
abbrev pub StarIsAnyVersion : Type 0
StarIsAnyVersion = (f : Flavour) → IsReadFrom f (codes "*") wildcard

-- ---- requirements

-- what is said of the text of a requirement whose ranges some parser returned
abbrev pub OfReadRanges : (List ℕ → List VersionRange → Type 0) → RangeSetOrTag → List ℕ → Type 0
OfReadRanges Says (inner.RangeSet set) text = IsReadSet set.0 → Says text set.0
OfReadRanges Says (inner.Tag tag) text = Unit {0}
