use Rattle.std.proofs.Common.{◌≡◌, [], true, Result, Ok, Err, IfOk, refl}
use Rattle.semver_base.specs.LowestVersion.{IsReadable}
use Rattle.semver_base.specs.Precedence.{precedence_cmp}
use Rattle.semver_base.specs.VersionText.{ReadsBack}
use Rattle.semver_base.specs.declared.version.Version.{Version}
use Rattle.std.specs.declared.cmp.Ordering.TheVariants.{Greater}
use Rattle.node_semver.specs.Increment.{incremented}
use Rattle.node_semver.specs.NextVersions.{IncrementsAreAbove, IncrementsReadBack, keeps}
use Rattle.node_semver.specs.declared.increment.Base.{Base}
use Rattle.node_semver.specs.declared.increment.Base.TheVariants as base
use Rattle.node_semver.specs.declared.release_type.ReleaseType.{ReleaseType}
use Rattle.node_semver.specs.declared.release_type.ReleaseType.TheVariants as type
use Rattle.callers.proofs.releasing.published_next.Goals as goal

-- without other identifiers a pre-release keeps its own
keeps_own : (kind : ReleaseType) (v : Version) → keeps kind [] v ≡ true
keeps_own type.Major v = refl
keeps_own type.Minor v = refl
keeps_own type.Patch v = refl
keeps_own type.PreMajor v = refl
keeps_own type.PreMinor v = refl
keeps_own type.PrePatch v = refl
keeps_own type.PreRelease v = refl
keeps_own type.Release v = refl

above : {E : Type 0} → IncrementsAreAbove → (kind : ReleaseType) (b : Base) (v : Version) (r : Result Version E) → IfOk r (λ next. incremented kind [] b v ≡ Ok next) → IfOk r (λ next. precedence_cmp next v ≡ Greater)
above law kind b v (Ok next) h = law kind [] b v next (keeps_own kind v) h
above law kind b v (Err e) h = tt

reads_back : {E : Type 0} → IncrementsReadBack → (kind : ReleaseType) (b : Base) (v : Version) (r : Result Version E) → IsReadable v → IfOk r (λ next. incremented kind [] b v ≡ Ok next) → IfOk r ReadsBack
reads_back law kind b v (Ok next) readable h = law kind [] b v next readable tt h
reads_back law kind b v (Err e) readable h = tt

pub returns-clause-above : goal.returns-clause-above
returns-clause-above c = above c.increments_are_above.ensures c.args.kind base.Zero c.args.version.now c.increment.result (rw (c.new-no_identifiers.ensures) at c.increment.ensures.value)

pub returns-clause-reads_back : goal.returns-clause-reads_back
returns-clause-reads_back c readable = reads_back c.increments_read_back.ensures c.args.kind base.Zero c.args.version.now c.increment.result readable (rw (c.new-no_identifiers.ensures) at c.increment.ensures.value)
