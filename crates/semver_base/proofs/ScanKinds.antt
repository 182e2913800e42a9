-- The scans of releases and those of pre-releases, and the group of versions that each kind is about.
use Rattle.std.proofs.Common.{◌≡◌, ◌&&◌, ◌||◌, Bool, true, false, List, [], ◌∷◌, ◌++◌, refl, sym, ap₂, ◌∙◌, not}
use Rattle.std.proofs.lemmas.List.Elements.{All-head, All-tail}
use Rattle.std.proofs.Math.Bool.{and-false, or-false}
use Rattle.std.proofs.lemmas.List.Folds.{list_any-append}
use Rattle.std.specs.List.{list_any, All}
use Rattle.std.specs.String.{string_bytes}
use Rattle.semver_base.specs.Intervals.{flag_of, is_of}
use Rattle.semver_base.specs.Meaning.{is_release}
use Rattle.semver_base.specs.Scans.{finds, group_of, lies, is_of_kind, ScansAreSorted, IsBeforeFirst}
use Rattle.semver_base.specs.SortKey.{sort_key}
use Rattle.semver_base.specs.declared.range.PreRelease.{PreRelease}
use Rattle.semver_base.specs.declared.range.PreRelease.TheVariants.{Restricted, Admitted}
use Rattle.semver_base.specs.declared.version.Version.{Version}
use Rattle.semver_base.specs.declared.range.scans.Scan.{Scan}
use Rattle.semver_base.proofs.MergedSpans.{IsOfKind}

module _ (v : Version) where
  abbrev pub lies_for : Scan → Bool
  lies_for s = lies (string_bytes s.low) (string_bytes s.high) (sort_key v)

  kind_finds : (is_pre : Bool) (scans : List Scan) → All (IsOfKind is_pre) scans → list_any (finds v) scans ≡ (is_of_kind is_pre v && list_any lies_for scans)
  kind_finds is_pre [] kind = sym (and-false (is_of_kind is_pre v))
  kind_finds is_pre (s ∷ ss) kind =
      ap₂ (λ (p b : Bool). (is_of_kind p v && lies_for s) || b) (All-head (IsOfKind is_pre) s ss kind) (kind_finds is_pre ss (All-tail (IsOfKind is_pre) s ss kind))
      ∙ shared (is_of_kind is_pre v) (lies_for s) (list_any lies_for ss)
    where
      shared : (k a b : Bool) → ((k && a) || (k && b)) ≡ (k && (a || b))
      shared true a b = refl
      shared false a b = refl

  pub both_find : (releases pre : List Scan) (m : Bool) → All (IsOfKind false) releases → All (IsOfKind true) pre
      → (is_of_kind false v ≡ true → list_any lies_for releases ≡ m) → (is_of_kind true v ≡ true → list_any lies_for pre ≡ m) → list_any (finds v) (releases ++ pre) ≡ m
  both_find releases pre m h k own other =
      list_any-append (finds v) releases pre ∙ ap₂ (λ (a b : Bool). a || b) (kind_finds false releases h) (kind_finds true pre k)
      ∙ go (is_release v) (list_any lies_for releases) (list_any lies_for pre) own other
    where
      go : (r a b : Bool) → (r ≡ true → a ≡ m) → (not r ≡ true → b ≡ m) → ((r && a) || (not r && b)) ≡ m
      go true a b own other = or-false a ∙ own refl
      go false a b own other = other refl

releases_first : (s : Scan) (pre : List Scan) → s.is_pre ≡ false → All (IsOfKind true) pre → IsBeforeFirst s pre
releases_first s [] e k = tt
releases_first s (t ∷ ts) e k = rw (e, All-head (IsOfKind true) t ts k) refl

pub both_sorted : (releases pre : List Scan) → All (IsOfKind false) releases → All (IsOfKind true) pre → ScansAreSorted releases → ScansAreSorted pre → ScansAreSorted (releases ++ pre)
both_sorted [] pre h k up rises = rises
both_sorted (s ∷ []) pre h k up rises = (up.0, (releases_first s pre (All-head (IsOfKind false) s [] h) k, rises))
both_sorted (s ∷ (t ∷ ts)) pre h k up rises = (up.0, (up.1.0, both_sorted (t ∷ ts) pre (All-tail (IsOfKind false) s (t ∷ ts) h) k up.1.1 rises))

-- ---- the group of a kind

pub of_group : (flag : PreRelease) (is_pre : Bool) (v : Version) → is_of_kind is_pre v ≡ true → is_of (group_of flag is_pre) v ≡ true
of_group Restricted true v h = h
of_group Restricted false v h = h
of_group Admitted is_pre v h = refl

pub flag_of_group : (flag : PreRelease) (is_pre : Bool) → flag_of (group_of flag is_pre) ≡ flag
flag_of_group Restricted true = refl
flag_of_group Restricted false = refl
flag_of_group Admitted is_pre = refl
