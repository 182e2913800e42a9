use Rattle.std.proofs.Common.{◌≡◌, length, rules, tests}
use Rattle.std.specs.List.{take_while}
use Rattle.std.proofs.lemmas.Iterator.{YieldsList-from_slice}
use Rattle.std.proofs.lemmas.Iterator.Consumers.{count_from_yields_List}
use Rattle.std.proofs.lemmas.Iterator.Search.{YieldsList-from_take_while}
use Rattle.semver_base.specs.Lexical.{is_identifier_byte}
use Rattle.semver_base.proofs.Numbers.{cuts_run, identifier_ascii, run_boundary}
use Rattle.semver_base.proofs.lexical.identifier_front.Goals as goal

pub split_at-requires : goal.split_at-requires
split_at-requires c =
    let len : c.count-len.result ≡ length (take_while is_identifier_byte c.as_bytes-bytes.result.now) =
    count_from_yields_List c.take_while.result _ c.count-len.ensures.ran
    (YieldsList-from_take_while _ is_identifier_byte (YieldsList-from_slice c.as_bytes-bytes.result.now cc) c.take_while.ensures.closure c.take_while.ensures.done (λ x b q k. search (rules, tests))) in
    run_boundary is_identifier_byte identifier_ascii c.args.text.now c.count-len.result c.utf8.text (rw c.as_bytes-bytes.ensures.value at len)

pub returns : goal.returns
returns c =
    let len : c.count-len.result ≡ length (take_while is_identifier_byte c.as_bytes-bytes.result.now) =
    count_from_yields_List c.take_while.result _ c.count-len.ensures.ran
    (YieldsList-from_take_while _ is_identifier_byte (YieldsList-from_slice c.as_bytes-bytes.result.now cc) c.take_while.ensures.closure c.take_while.ensures.done (λ x b q k. search (rules, tests))) in
    cuts_run is_identifier_byte c.args.text.now c.split_at.result.0.now c.split_at.result.1.now c.count-len.result (rw c.as_bytes-bytes.ensures.value at len) c.split_at.ensures.front c.split_at.ensures.back
