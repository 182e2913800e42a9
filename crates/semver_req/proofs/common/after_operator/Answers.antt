use Rattle.semver_req.proofs.Separators.{operator_none, operator_read}
use Rattle.semver_req.proofs.common.after_operator.Goals as goal

pub returns-in-Some : goal.returns-in-Some
returns-in-Some c = operator_read c.args.operator c.requires.ascii c.requires.not_whitespace c.after_whitespace.ensures c.in-Some.ensures c.after_whitespace-in-Some.ensures

pub returns-in-None : goal.returns-in-None
returns-in-None c = operator_none c.args.operator c.requires.ascii c.requires.not_whitespace c.after_whitespace.ensures c.in-None.ensures
