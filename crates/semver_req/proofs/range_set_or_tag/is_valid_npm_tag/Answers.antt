use Rattle.std.proofs.Common.{rules}
use Rattle.std.proofs.lemmas.Iterator.{YieldsList-from_chars}
use Rattle.std.proofs.lemmas.Iterator.Search.{all_from_yields_List}
use borrow.Author.Tests.{tests}
use Rattle.semver_base.specs.WhitespaceLaws.{whitespace_test}
use Rattle.semver_req.specs.Tag.{is_tag_character}
use Rattle.semver_req.proofs.range_set_or_tag.is_valid_npm_tag.Goals as goal

pub returns-then-not-is_all_whitespace : goal.returns-then-not-is_all_whitespace
returns-then-not-is_all_whitespace c =
    let all = all_from_yields_List is_tag_character _ _ _ c.all.ensures.ran (YieldsList-from_chars c.args.value.now c.utf8.value cc) (λ x b q k. search (rules, tests)) in
    rw (all, ← whitespace_test c.args.value.now c.is_all_whitespace.result c.utf8.value c.is_all_whitespace.ensures) (search rules)

pub returns-else-not-is_all_whitespace : goal.returns-else-not-is_all_whitespace
returns-else-not-is_all_whitespace c = rw (← whitespace_test c.args.value.now c.is_all_whitespace.result c.utf8.value c.is_all_whitespace.ensures) (search rules)
