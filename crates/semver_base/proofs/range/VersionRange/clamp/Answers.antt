use Rattle.std.proofs.Common.{◌≡◌, rules, subst, sym, ◌⊎◌}
use Rattle.semver_base.specs.Clamp.{clamped, AdmitsBoth, HaveCrossed, HoldsBoth, HoldsNothing, MatchesBoth, MeansBoth}
use Rattle.semver_base.specs.declared.range.VersionRange.{VersionRange}
use Rattle.semver_base.specs.ClampLaws.{clamped_bounds, clamped_crossed, clamped_empty, clamped_admits, clamped_matches, clamped_means}
use Rattle.semver_base.proofs.range.VersionRange.clamp.Goals as goal

pub returns-clause-bounds : goal.returns-clause-bounds
returns-clause-bounds c =
    let range : VersionRange = record { start = c.in_ok-start-2.start; end = c.in_ok-end.end } in
    let is : range ≡ clamped c.args.self.now c.args.other.now = search rules in
    subst (HoldsBoth c.args.self.now c.args.other.now) (sym is) (clamped_bounds c.args.self.now c.args.other.now)

pub returns-clause-means : goal.returns-clause-means
returns-clause-means c =
    let range : VersionRange = record { start = c.in_ok-start-2.start; end = c.in_ok-end.end } in
    let is : range ≡ clamped c.args.self.now c.args.other.now = search rules in
    subst (MeansBoth c.args.self.now c.args.other.now) (sym is) (clamped_means c.args.self.now c.args.other.now)

pub returns-clause-admits : goal.returns-clause-admits
returns-clause-admits c =
    let range : VersionRange = record { start = c.in_ok-start-2.start; end = c.in_ok-end.end } in
    let is : range ≡ clamped c.args.self.now c.args.other.now = search rules in
    subst (AdmitsBoth c.args.self.now c.args.other.now) (sym is) (clamped_admits c.args.self.now c.args.other.now)

pub returns-clause-releases : goal.returns-clause-releases
returns-clause-releases c =
    let range : VersionRange = record { start = c.in_ok-start-2.start; end = c.in_ok-end.end } in
    let is : range ≡ clamped c.args.self.now c.args.other.now = search rules in
    subst (MatchesBoth c.args.self.now c.args.other.now) (sym is) (clamped_matches c.args.self.now c.args.other.now)

pub returns-clause-crossed : goal.returns-clause-crossed
returns-clause-crossed c =
    let range : VersionRange = record { start = c.in_ok-start-2.start; end = c.in_ok-end.end } in
    let is : range ≡ clamped c.args.self.now c.args.other.now = search rules in
    subst (λ (r : VersionRange). HaveCrossed c.args.self.now c.args.other.now → HoldsNothing r) (sym is) (clamped_crossed c.args.self.now c.args.other.now)

pub returns-clause-stays_empty : goal.returns-clause-stays_empty
returns-clause-stays_empty c =
    let range : VersionRange = record { start = c.in_ok-start-2.start; end = c.in_ok-end.end } in
    let is : range ≡ clamped c.args.self.now c.args.other.now = search rules in
    subst (λ (r : VersionRange). HoldsNothing c.args.self.now ⊎ HoldsNothing c.args.other.now → HoldsNothing r) (sym is) (clamped_empty c.args.self.now c.args.other.now)
