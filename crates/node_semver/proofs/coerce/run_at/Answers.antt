use Rattle.std.proofs.Common.{◌≡◌, false, drop, get_or, rules, tests, ◌+◌}
use Rattle.std.specs.Char.{is_ascii_digit}
use Rattle.std.proofs.lemmas.List.{drop_more}
use Rattle.node_semver.proofs.Runs.{none_after_digit, none_at_other, runs_at}
use Rattle.node_semver.proofs.coerce.run_at.Goals as goal
use Rattle.node_semver.proofs.coerce.run_at.Goals.{then-after_digit-via-then-after_digit, then-after_digit-via-else-after_digit+then-not-is_ascii_digit}

pub returns-then-after_digit : goal.returns-then-after_digit
returns-then-after_digit c = elim c.then-after_digit.branch [
  | then-after_digit-via-then-after_digit w ↦ rw w.if-after_digit.true (none_after_digit c.args.parts (drop c.args.place c.args.text.now))
  | then-after_digit-via-else-after_digit+then-not-is_ascii_digit w ↦
      let byte = get_or c.args.text.now c.args.place 0 in
      let other : is_ascii_digit byte ≡ false = search (rules, tests) in
      rw (drop_more c.args.text.now c.args.place 0 c.requires) (none_at_other c.args.parts c.args.after_digit byte (drop (c.args.place + 1) c.args.text.now) other)
]

pub returns : goal.returns
returns c = runs_at c.args.parts c.args.after_digit (drop c.args.place c.args.text.now) c.if-after_digit.false c.leading_run.result (rw c.range_from.ensures.value at c.leading_run.ensures)
