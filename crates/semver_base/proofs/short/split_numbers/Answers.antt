use Rattle.std.proofs.Common.{◌∙◌}
use Rattle.semver_base.proofs.ShortTexts.{no_number, numbers_boundary, numbers_rest, one_number, two_numbers}
use Rattle.semver_base.proofs.short.split_numbers.Goals as goal

pub returns-in_err-numbers-clause-none : goal.returns-in_err-numbers-clause-none
returns-in_err-numbers-clause-none c = rw c.from_residual.ensures (no_number (rw c.as_bytes.ensures.value at c.in_err-numbers.ensures.none))

pub returns-in-One : goal.returns-in-One
returns-in-One c = record { numbers = tt; none = one_number (rw (c.as_bytes.ensures.value, c.in-One.is) at c.in_ok-numbers.ensures.numbers) (rw c.in-One.is at c.in_ok-numbers.ensures.all) }

pub returns-in-Two : goal.returns-in-Two
returns-in-Two c = record { numbers = tt; none = two_numbers (rw (c.as_bytes.ensures.value, c.in-Two.is) at c.in_ok-numbers.ensures.numbers) (rw c.in-Two.is at c.in_ok-numbers.ensures.all) }

pub split_at-requires : goal.split_at-requires
split_at-requires c = numbers_boundary (rw (c.as_bytes.ensures.value, c.in-Three.is) at c.in_ok-numbers.ensures.numbers) c.utf8.text

pub returns-in-Three-clause-numbers : goal.returns-in-Three-clause-numbers
returns-in-Three-clause-numbers c =
    let front = rw (c.as_bytes.ensures.value, c.in-Three.is) at c.in_ok-numbers.ensures.numbers in
    rw (c.split_at.ensures.back ∙ numbers_rest front) front
