use Rattle.std.proofs.lemmas.Str.Pattern.{strip_prefix_char}
use Rattle.semver_base.proofs.lexical.after.Goals as goal

pub returns : goal.returns
returns c = strip_prefix_char c.args.character c.args.text.now c.strip_prefix.result c.strip_prefix.ensures.cases c.requires
