use Rattle.std.proofs.Common.{None, Some, ap, arith, length, length-append}
use Rattle.semver_req.proofs.Separators.{operator_comma, operator_or_none, separator_whitespace, separator_prefixed, separator_none}
use Rattle.semver_req.proofs.common.after_separator.Goals as goal

pub returns-in-Some : goal.returns-in-Some
returns-in-Some c = rw c.in-Npm.is (separator_prefixed c.after_whitespace-rest.ensures (operator_comma c.in-Some.ensures) c.after_whitespace.ensures)

pub returns-in-Some-after_twice : goal.returns-in-Some-after_twice
returns-in-Some-after_twice c =
    rw c.in-Npm.is (separator_prefixed c.after_whitespace-rest.ensures (operator_or_none c.in_default.ensures (Some (tt, c.in-Some-after_twice.more.now)) c.in-Some-after_twice.ensures) c.after_whitespace-in-Some-after_twice.ensures)

pub returns-then-rest-text : goal.returns-then-rest-text
returns-then-rest-text c = rw c.in-Npm.is (separator_none c.after_whitespace-rest.ensures (operator_or_none c.in_default.ensures None c.in_default-after_twice.ensures) (omega arith))

pub returns-else-rest-text : goal.returns-else-rest-text
returns-else-rest-text c =
    let p = c.after_whitespace-rest.ensures in
    rw c.in-Npm.is (separator_whitespace p (operator_or_none c.in_default.ensures None c.in_default-after_twice.ensures) (omega (arith, ap length p.text_is, length-append p.front c.after_whitespace-rest.result.now)))
