use Rattle.std.proofs.Common.{ap, arith, length, length-append}
use Rattle.semver_base.specs.WhitespaceLaws.{no_whitespace, some_whitespace}
use Rattle.semver_req.proofs.common.after_some_whitespace.Goals as goal

pub returns-then-rest-text : goal.returns-then-rest-text
returns-then-rest-text c = no_whitespace c.args.text.now c.after_whitespace-rest.result.now c.after_whitespace-rest.ensures (omega arith)

pub returns : goal.returns
returns c =
    let front = c.after_whitespace-rest.ensures.front in
    some_whitespace c.args.text.now c.after_whitespace-rest.result.now c.after_whitespace-rest.ensures
    (omega (arith, ap length c.after_whitespace-rest.ensures.text_is, length-append front c.after_whitespace-rest.result.now))
