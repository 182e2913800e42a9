use Rattle.semver_base.specs.WhitespaceLaws.{whitespace_whole}
use Rattle.semver_base.proofs.lexical.is_all_whitespace.Goals as goal

pub returns : goal.returns
returns c = whitespace_whole c.args.text.now c.after_whitespace.result.now c.is_empty.result c.is_empty.ensures c.after_whitespace.ensures
