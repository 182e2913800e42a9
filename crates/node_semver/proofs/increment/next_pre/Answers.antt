use Rattle.std.proofs.Common.{◌≡◌, Some, rules}
use Rattle.node_semver.specs.Increment.{counted}
use Rattle.node_semver.proofs.Numbers.{counted_inside}
use Rattle.node_semver.proofs.increment.next_pre.Goals as goal

pub with_number-requires : goal.with_number-requires
with_number-requires c =
    let found : counted c.as_slice.result.now c.as_slice-listed.result.now ≡ Some (c.in-Some.place, c.in-Some.number) = search rules in
    counted_inside c.as_slice.result.now c.as_slice-listed.result.now c.in-Some.place c.in-Some.number found
