use Rattle.std.proofs.Common.{◌≡◌, ◌∙◌, ap, length, sym, rules, tests}
use Rattle.std.specs.Char.{is_ascii_digit}
use Rattle.std.specs.List.{take_while}
use Rattle.std.specs.Result.{result_ok}
use Rattle.std.proofs.lemmas.Iterator.{YieldsList-from_slice}
use Rattle.std.proofs.lemmas.Iterator.Consumers.{count_from_yields_List}
use Rattle.std.proofs.lemmas.Iterator.Search.{YieldsList-from_take_while}
use Rattle.semver_base.specs.Lexical.{measured_of}
use Rattle.semver_base.specs.GrammarLaws.{mapped, mapped_none}
use Rattle.semver_base.proofs.Numbers.{cuts_run, digit_ascii, parsed, run_boundary, run_seen, run_unseen}
use Rattle.semver_base.proofs.lexical.loose_number.Goals as goal

pub split_at-requires : goal.split_at-requires
split_at-requires c =
    let len : c.count-len.result ≡ length (take_while is_ascii_digit c.as_bytes-bytes.result.now) =
    count_from_yields_List c.take_while.result _ c.count-len.ensures.ran
    (YieldsList-from_take_while _ is_ascii_digit (YieldsList-from_slice c.as_bytes-bytes.result.now cc) c.take_while.ensures.closure c.take_while.ensures.done (λ x b q k. search (rules, tests))) in
    run_boundary is_ascii_digit digit_ascii c.args.text.now c.count-len.result c.utf8.text (rw c.as_bytes-bytes.ensures.value at len)

pub returns-then-is_empty : goal.returns-then-is_empty
returns-then-is_empty c =
    let len : c.count-len.result ≡ length (take_while is_ascii_digit c.as_bytes-bytes.result.now) =
    count_from_yields_List c.take_while.result _ c.count-len.ensures.ran
    (YieldsList-from_take_while _ is_ascii_digit (YieldsList-from_slice c.as_bytes-bytes.result.now cc) c.take_while.ensures.closure c.take_while.ensures.done (λ x b q k. search (rules, tests))) in
    let cut = cuts_run is_ascii_digit c.args.text.now c.split_at.result.0.now c.split_at.result.1.now c.count-len.result (rw c.as_bytes-bytes.ensures.value at len) c.split_at.ensures.front c.split_at.ensures.back in
    mapped_none (run_unseen cut (search rules))

pub returns-in-Ok : goal.returns-in-Ok
returns-in-Ok c =
    let len : c.count-len.result ≡ length (take_while is_ascii_digit c.as_bytes-bytes.result.now) =
    count_from_yields_List c.take_while.result _ c.count-len.ensures.ran
    (YieldsList-from_take_while _ is_ascii_digit (YieldsList-from_slice c.as_bytes-bytes.result.now cc) c.take_while.ensures.closure c.take_while.ensures.done (λ x b q k. search (rules, tests))) in
    let cut = cuts_run is_ascii_digit c.args.text.now c.split_at.result.0.now c.split_at.result.1.now c.count-len.result (rw c.as_bytes-bytes.ensures.value at len) c.split_at.ensures.front c.split_at.ensures.back in
    record {
      value = _;
      longest = mapped (run_seen cut (search rules));
      seen = sym (ap (λ r. measured_of (result_ok r)) c.in-Ok.is) ∙ parsed c.split_at.result.0.now c.parse.result c.parse.ensures.value.0 cut.pass (search rules);
    }

pub returns-in-Err : goal.returns-in-Err
returns-in-Err c =
    let len : c.count-len.result ≡ length (take_while is_ascii_digit c.as_bytes-bytes.result.now) =
    count_from_yields_List c.take_while.result _ c.count-len.ensures.ran
    (YieldsList-from_take_while _ is_ascii_digit (YieldsList-from_slice c.as_bytes-bytes.result.now cc) c.take_while.ensures.closure c.take_while.ensures.done (λ x b q k. search (rules, tests))) in
    let cut = cuts_run is_ascii_digit c.args.text.now c.split_at.result.0.now c.split_at.result.1.now c.count-len.result (rw c.as_bytes-bytes.ensures.value at len) c.split_at.ensures.front c.split_at.ensures.back in
    record {
      value = _;
      longest = mapped (run_seen cut (search rules));
      seen = sym (ap (λ r. measured_of (result_ok r)) c.in-Err.is) ∙ parsed c.split_at.result.0.now c.parse.result c.parse.ensures.value.0 cut.pass (search rules);
    }
