use Rattle.semver_base.specs.ClampLaws.{clamped_bounds, clamped_crossed, clamped_empty, clamped_admits, clamped_matches, clamped_means}
use Rattle.semver_base.proofs.laws.clamped_ranges_mean_both.Goals as goal

pub returns : goal.returns
returns c a b = record {
  bounds = clamped_bounds a b;
  means = clamped_means a b;
  admits = clamped_admits a b;
  releases = clamped_matches a b;
  crossed = clamped_crossed a b;
  stays_empty = clamped_empty a b;
}
