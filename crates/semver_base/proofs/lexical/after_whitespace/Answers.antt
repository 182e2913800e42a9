use Rattle.semver_base.specs.WhitespaceLaws.{whitespace_longest}
use Rattle.semver_base.proofs.lexical.after_whitespace.Goals as goal

pub returns : goal.returns
returns c = whitespace_longest c.args.text.now c.trim_start.result.now c.trim_start.ensures.value
