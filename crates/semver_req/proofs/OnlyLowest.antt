-- The lowest version without a build that passes a test is unique.
use Rattle.std.proofs.Common.{◌≡◌, Bool, true, Option, Some, None, refl, sym, ap, ◌∙◌, is_le, IfSome, Ordering, Less, Equal, Greater}
use Rattle.std.specs.Str.{trim}
use Rattle.semver_base.specs.LowestVersion.{HasNoBuild, IsLowestPassing, IsOnlyLowest, ReadVersionsAreReadable}
use Rattle.semver_base.specs.Precedence.{precedence_cmp}
use Rattle.semver_base.specs.PrecedenceLaws.{precedence-anti, precedence_total, version_with, turned}
use Rattle.semver_base.specs.VersionText.{ReadsBack, version_text}
use Rattle.semver_base.specs.declared.version.Version.{Version}

-- two versions without builds, neither above the other, are the same
same_version : (v w : Version) → HasNoBuild v → HasNoBuild w → is_le (precedence_cmp v w) ≡ true → is_le (precedence_cmp w v) ≡ true → w ≡ v
same_version v w plain others h k = go (precedence_cmp v w) refl h
  where
    go : (r : Ordering) → precedence_cmp v w ≡ r → is_le r ≡ true → w ≡ v
    go Less e le = absurd (cc (sym k ∙ ap is_le (turned precedence_total v w Less e)))
    go Greater e le = cc le
    go Equal e le =
        let same = precedence-anti v w e in
        let is : version_with w.major w.minor w.patch w.pre w.build ≡ version_with v.major v.minor v.patch v.pre v.build =
        rw (same.major, same.minor, same.patch, same.pre, plain, others) refl in
        is

module _ (readable : ReadVersionsAreReadable) where
  pub only_lowest : (test : Version → Bool) (lowest : Option Version) → IsLowestPassing test lowest → IfSome lowest HasNoBuild → IfSome lowest ReadsBack → IsOnlyLowest test lowest
  only_lowest test None h plain back None k others read = refl
  only_lowest test None h plain back (Some w) k others read = absurd (cc (sym k.0 ∙ h w (readable (trim (version_text w)) w read)))
  only_lowest test (Some v) h plain back None k others read = absurd (cc (sym h.0 ∙ k v (readable (trim (version_text v)) v back)))
  only_lowest test (Some v) h plain back (Some w) k others read =
      ap Some (same_version v w plain others (h.1 w (readable (trim (version_text w)) w read) k.0) (k.1 v (readable (trim (version_text v)) v back) h.0))
