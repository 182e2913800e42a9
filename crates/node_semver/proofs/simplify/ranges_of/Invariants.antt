use Rattle.std.proofs.Common.{◌≡◌, ◌++◌, drop, map}
use Rattle.semver_base.specs.Meaning.{set_means_with}
use Rattle.node_semver.specs.Simplify.{range_of, ranges_of, stretches}
use Rattle.node_semver.proofs.simplify.ranges_of.Given as goal

-- with the ranges of the rest, those that are made are all
abbrev pub invariant-loop-place : goal.invariant-loop-place
invariant-loop-place l =
    let test = set_means_with l.pre_release l.set.0 in
    l.ranges ++ map (range_of l.versions) (stretches l.place l.begun (map test (drop l.place l.versions))) ≡ ranges_of test l.versions
