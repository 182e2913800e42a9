-- The lowest version of requirements whose ranges a parser returned has a text that parses back.
use Rattle.std.proofs.Common.{◌≡◌, ◌&&◌, Bool, List, [], ◌∷◌, map, Option, Result, Ok, Err, refl, sym, ap₂, subst, ◌∙◌, IfOk, IfSome}
use Rattle.std.proofs.Math.Path.{fun_ext}
use Rattle.std.specs.List.{list_all, AllByRecursion}
use Rattle.semver_base.specs.LowestVersion.{all_mean_with, IsLowestPassing}
use Rattle.semver_base.specs.Meaning.{set_means_with}
use Rattle.semver_base.specs.NormalText.{AreWritableRanges}
use Rattle.semver_base.specs.VersionText.{ReadsBack}
use Rattle.semver_base.specs.declared.range.PreRelease.{PreRelease}
use Rattle.semver_base.specs.declared.range.VersionRangeSet.{VersionRangeSet}
use Rattle.semver_base.specs.declared.version.Version.{Version}
use Rattle.semver_req.specs.Parsers.{IsReadOrTag}
use Rattle.semver_req.specs.Requirement.{all_inners_mean_with, inner_means_with, ranges_of, Requirement}
use Rattle.semver_req.specs.declared.range_set_or_tag.RangeSetOrTag.{RangeSetOrTag}
use Rattle.semver_req.specs.declared.range_set_or_tag.RangeSetOrTag.TheVariants as inner
use Rattle.semver_req.proofs.ReadSets.{read_writable}

writable : (one : RangeSetOrTag) (set : VersionRangeSet) → one ≡ inner.RangeSet set → IsReadOrTag one → AreWritableRanges set.0
writable one set is read = read_writable set.0 (subst IsReadOrTag is read)

-- what is said of the result for two sets whose bounds have texts that parse back
pub common_back : {X E : Type 0} (P : X → Type 0) (one other : RangeSetOrTag) (set others : VersionRangeSet) (r : Result X E) → one ≡ inner.RangeSet set → other ≡ inner.RangeSet others
    → IfOk r (λ x. AreWritableRanges set.0 → AreWritableRanges others.0 → P x) → IfOk r (λ x. IsReadOrTag one → IsReadOrTag other → P x)
common_back P one other set others (Ok x) is are h = λ own rest. h (writable one set is own) (writable other others are rest)
common_back P one other set others (Err e) is are h = tt

pub own_back : {T E : Type 0} (P : T → Type 0) (one : RangeSetOrTag) (set : VersionRangeSet) (r : Result T E) → one ≡ inner.RangeSet set → IfOk r (λ x. AreWritableRanges set.0 → P x) → IfOk r (λ x. IsReadOrTag one → P x)
own_back P one set (Ok x) is h = λ own. h (writable one set is own)
own_back P one set (Err e) is h = tt

-- ---- all requirements

ranges_mean : (flag : PreRelease) (one : RangeSetOrTag) (v : Version) → set_means_with flag (ranges_of one).0 v ≡ inner_means_with flag one v
ranges_mean flag (inner.RangeSet set) v = refl
ranges_mean flag (inner.Tag text) v = refl

all_mean_same : (flag : PreRelease) (others : List Requirement) (v : Version)
    → list_all (λ (set : VersionRangeSet). set_means_with flag set.0 v) (map (λ (req : Requirement). ranges_of req.inner) others) ≡ list_all (λ (req : Requirement). inner_means_with flag req.inner v) others
all_mean_same flag [] v = refl
all_mean_same flag (req ∷ reqs) v = ap₂ (λ (a b : Bool). a && b) (ranges_mean flag req.inner v) (all_mean_same flag reqs v)

pub all_lowest : {E : Type 0} (flag : PreRelease) (own : RangeSetOrTag) (others : List Requirement) (set : VersionRangeSet) (sets : List VersionRangeSet) (r : Result (Option Version) E)
    → set ≡ ranges_of own → sets ≡ map (λ (req : Requirement). ranges_of req.inner) others → IfOk r (IsLowestPassing (all_mean_with flag set.0 sets)) → IfOk r (IsLowestPassing (all_inners_mean_with flag own others))
all_lowest flag own others set sets (Ok lowest) is are h =
    subst (λ (test : Version → Bool). IsLowestPassing test lowest)
    (fun_ext (λ v. ap₂ (λ (s : VersionRangeSet) (ss : List VersionRangeSet). all_mean_with flag s.0 ss v) is are ∙ ap₂ (λ (a b : Bool). a && b) (ranges_mean flag own v) (all_mean_same flag others v))) h
all_lowest flag own others set sets (Err e) is are h = tt

ranges_writable : (one : RangeSetOrTag) → IsReadOrTag one → AreWritableRanges (ranges_of one).0
ranges_writable (inner.RangeSet set) read = read_writable set.0 read
ranges_writable (inner.Tag text) read = tt

all_writable : (others : List Requirement) → AllByRecursion (λ (req : Requirement). IsReadOrTag req.inner) others
    → AllByRecursion (λ (set : VersionRangeSet). AreWritableRanges set.0) (map (λ (req : Requirement). ranges_of req.inner) others)
all_writable [] h = tt
all_writable (req ∷ reqs) h = (ranges_writable req.inner h.0, all_writable reqs h.1)

pub all_back : {E : Type 0} (own : RangeSetOrTag) (others : List Requirement) (set : VersionRangeSet) (sets : List VersionRangeSet) (r : Result (Option Version) E)
    → set ≡ ranges_of own → sets ≡ map (λ (req : Requirement). ranges_of req.inner) others
    → IfOk r (λ lowest. AreWritableRanges set.0 → AllByRecursion (λ (s : VersionRangeSet). AreWritableRanges s.0) sets → IfSome lowest ReadsBack)
    → IfOk r (λ lowest. IsReadOrTag own → AllByRecursion (λ (req : Requirement). IsReadOrTag req.inner) others → IfSome lowest ReadsBack)
all_back own others set sets (Ok lowest) is are h = λ read reads.
    h (subst (λ (s : VersionRangeSet). AreWritableRanges s.0) (sym is) (ranges_writable own read))
    (subst (λ (ss : List VersionRangeSet). AllByRecursion (λ (s : VersionRangeSet). AreWritableRanges s.0) ss) (sym are) (all_writable others reads))
all_back own others set sets (Err e) is are h = tt
