use Rattle.std.proofs.Common.{inl, inr, map, rules, string_bytes}
use Rattle.npmver.proofs.Reporting.{answer_status, problem_status}
use Rattle.npmver.proofs.run.Goals as goal

pub returns-in-Ok-written : goal.returns-in-Ok-written
returns-in-Ok-written g c = answer_status (map string_bytes c.args.arguments.now) c.in-Ok.line _ c.in-Ok.ensures (inr (search rules))

pub returns : goal.returns
returns g c = answer_status (map string_bytes c.args.arguments.now) c.in-Ok.line _ c.in-Ok.ensures (inl (search rules))

pub returns-in-Err : goal.returns-in-Err
returns-in-Err g c = problem_status (map string_bytes c.args.arguments.now) c.in-Err.problem c.report.result c.in-Err.ensures c.report.ensures
