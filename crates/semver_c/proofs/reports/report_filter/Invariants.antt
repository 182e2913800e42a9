use Rattle.std.proofs.Common.{◌≡◌, map, take}
use Rattle.semver_c.specs.Codes.{line_code, number_of}
use Rattle.semver_c.proofs.reports.report_filter.Given as goal

abbrev pub invariant-loop-answer : goal.invariant-loop-answer
invariant-loop-answer l = record {
  numbers : l.numbers.items ≡ map (λ answer. number_of (line_code answer)) (take l.answer-index l.answer-items);
  out : l.out ≡ l.initial.out;
}
