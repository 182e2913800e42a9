use Rattle.package_answers.specs.Packages.{no_range, of_range}
use Rattle.package_answers.proofs.packages.range_errors.Goals as goal

pub returns-in_default : goal.returns-in_default
returns-in_default c = rw c.new.ensures.items (no_range c.in_default.ensures.none)

pub returns : goal.returns
returns c = of_range c.in-Some.ensures.requirement c.in_ok-errors.ensures
