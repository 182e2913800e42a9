-- The table of canonical forms as text, which the definition by comparators follows. s and e are the versions of the start
-- and the end.
use Rattle.std.specs.Prelude.{◌≡◌, ◌<◌, ◌+◌, ℕ, ◌∷◌, ◌++◌, codes, decimal}
use Rattle.semver_base.specs.Characters.{dot}
use Rattle.semver_base.specs.Meaning.{bound_at, everything, from, release, to_below}
use Rattle.semver_base.specs.NormalText.{range_text}
use Rattle.semver_base.specs.PartialTable.{up_to, between}
use Rattle.semver_base.specs.VersionText.{version_text}
use Rattle.semver_base.specs.declared.range.RangeBound.{RangeBound}
use Rattle.semver_base.specs.declared.range.RangeBound.TheVariants as bound
use Rattle.semver_base.specs.declared.range.VersionBoundKind.TheVariants as kind
use Rattle.semver_base.specs.declared.version.Version.{Version}

-- above v
abbrev pub above : Version → RangeBound
above v = bound_at kind.Exclusive v

abbrev pub zero_version : Version
zero_version = release 0 0 0

-- a field for each row; a row's condition also says that no row above it fits
pub record IsNormalTable : Type 0 where
  pub no_bounds : range_text everything ≡ codes "*"
  pub end_alone : (e : Version) → range_text (between bound.Unbounded (up_to e)) ≡ codes "<=" ++ version_text e
  pub below_alone : (e : Version) → range_text (between bound.Unbounded (to_below e)) ≡ codes "<" ++ version_text e
  pub start_alone : (s : Version) → range_text (between (from s) bound.Unbounded) ≡ codes ">=" ++ version_text s
  pub above_alone : (s : Version) → range_text (between (above s) bound.Unbounded) ≡ codes ">" ++ version_text s
  pub one_version : (s : Version) → range_text (between (from s) (up_to s)) ≡ version_text s
  pub from_zero_up_to : (e : Version) → ¬ (zero_version ≡ e)
      → range_text (between (from zero_version) (up_to e)) ≡ codes "<=" ++ version_text e
  pub closed : (s e : Version) → ¬ (s ≡ e) → ¬ (s ≡ zero_version)
      → range_text (between (from s) (up_to e)) ≡ (codes ">=" ++ version_text s) ++ (codes " <=" ++ version_text e)
  pub one_major : (major : ℕ)
      → range_text (between (from (release major 0 0)) (to_below (release (major + 1) 0 0))) ≡ decimal major
  pub one_minor : (major minor : ℕ)
      → range_text (between (from (release major minor 0)) (to_below (release major (minor + 1) 0)))
      ≡ decimal major ++ (dot ∷ decimal minor)
  pub tilde : (s : Version) → ¬ (s ≡ release s.major s.minor 0)
      → range_text (between (from s) (to_below (release s.major (s.minor + 1) 0))) ≡ codes "~" ++ version_text s
  pub caret_patch : (s : Version) → s.major ≡ 0 → s.minor ≡ 0
      → range_text (between (from s) (to_below (release 0 0 (s.patch + 1)))) ≡ codes "^" ++ version_text s
  pub caret_major : (s : Version) → 0 < s.major → ¬ (s ≡ release s.major 0 0)
      → range_text (between (from s) (to_below (release (s.major + 1) 0 0))) ≡ codes "^" ++ version_text s
  pub below : (e : Version) → ¬ (e ≡ release 1 0 0) → ¬ (e ≡ release 0 1 0) → ¬ (e ≡ release 0 0 1)
      → range_text (between (from zero_version) (to_below e)) ≡ codes "<" ++ version_text e
  pub half_open : (s e : Version) → ¬ (s ≡ zero_version) → ¬ (e ≡ release s.major (s.minor + 1) 0)
      → (s.major ≡ 0 → s.minor ≡ 0 → ¬ (e ≡ release 0 0 (s.patch + 1)))
      → (0 < s.major → ¬ (e ≡ release (s.major + 1) 0 0))
      → range_text (between (from s) (to_below e)) ≡ (codes ">=" ++ version_text s) ++ (codes " <" ++ version_text e)
  pub above_at_most : (s e : Version)
      → range_text (between (above s) (up_to e)) ≡ (codes ">" ++ version_text s) ++ (codes " <=" ++ version_text e)
  pub above_below : (s e : Version)
      → range_text (between (above s) (to_below e)) ≡ (codes ">" ++ version_text s) ++ (codes " <" ++ version_text e)
