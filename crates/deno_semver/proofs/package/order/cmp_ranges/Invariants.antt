use Rattle.std.proofs.Common.{◌≡◌, drop, length}
use Rattle.std.specs.Cmp.Lexicographic.{slice_cmp}
use Rattle.deno_semver.specs.ReqOrder.{cmp_by}
use Rattle.deno_semver.proofs.package.order.cmp_ranges.Given as goal

-- the lists compare as the rest of them
abbrev pub invariant-loop-x : goal.invariant-loop-x
invariant-loop-x l = slice_cmp (cmp_by l.by) l.a l.b ≡ slice_cmp (cmp_by l.by) (drop (length l.yielded) l.a) (drop (length l.yielded) l.b)
