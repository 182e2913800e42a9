use Rattle.npmver.specs.Question.{npm, normal, strict}
use Rattle.npmver.proofs.flavour_of.Goals as goal

pub returns-in-npm : goal.returns-in-npm
returns-in-npm c = npm c.in-npm.is

pub returns-in-normal : goal.returns-in-normal
returns-in-normal c = normal c.in-normal.is

pub returns-in-strict : goal.returns-in-strict
returns-in-strict c = strict c.in-strict.is
