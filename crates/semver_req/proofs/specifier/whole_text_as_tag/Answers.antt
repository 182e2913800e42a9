use Rattle.std.proofs.Common.{refl, sym}
use Rattle.semver_req.specs.SpecifierRejections.{no_memory_left}
use Rattle.semver_req.proofs.SpecifierRanges.{whitespace_of, memory_err, no_tag_of}
use Rattle.semver_req.proofs.specifier.whole_text_as_tag.Goals as goal

pub returns-in_err-from_str-clause-no_tag : goal.returns-in_err-from_str-clause-no_tag
returns-in_err-from_str-clause-no_tag c = memory_err c.from_residual.result _ c.from_residual.ensures.1 no_memory_left

pub returns-then-is_all_whitespace-clause-no_tag : goal.returns-then-is_all_whitespace-clause-no_tag
returns-then-is_all_whitespace-clause-no_tag c = whitespace_of c.args.text.now c.args.rejection c.of_rejection.result c.of_rejection.ensures (sym c.if-is_valid_npm_tag.ensures) (c.if-is_all_whitespace.ensures.0 refl)

pub returns-clause-no_tag : goal.returns-clause-no_tag
returns-clause-no_tag c = no_tag_of c.args.text.now c.args.rejection c.of_rejection-2.result c.of_rejection-2.ensures (sym c.if-is_valid_npm_tag.ensures) (λ b. cc (c.if-is_all_whitespace.ensures.1 b))
