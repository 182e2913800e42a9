use Rattle.std.proofs.Common.{◌-◌, arith, length-set}
use Rattle.std.proofs.lemmas.Fmt.{length-decimal-le}
use Rattle.semver_base.proofs.version.put_before.Goals as goal

pub write_digits-requires : goal.write_digits-requires
write_digits-requires c =
    let digits = length-decimal-le 20 c.args.number (omega arith) (omega arith) c.ranges.number.fits in
    (omega arith, omega (arith, length-set c.args.bytes.now (c.args.end - 1) 46))

pub returns-clause-start : goal.returns-clause-start
returns-clause-start c =
    let digits = length-decimal-le 20 c.args.number (omega arith) (omega arith) c.ranges.number.fits in
    omega arith
