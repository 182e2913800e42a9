use Rattle.std.proofs.Common.{IfOk, rules}
use Rattle.std.proofs.lemmas.Result.{IfOk-weaker}
use Rattle.semver_base.specs.ByteLaws.{prefixed_some_text}
use Rattle.semver_base.specs.Grammar.{Reads, answer_of}
use Rattle.semver_base.specs.Lexical.{IsBuild, IsPre}
use Rattle.semver_base.proofs.Qualifiers.{build_prefixed, optional_read, pre_bare, pre_prefixed}
use Rattle.semver_base.specs.TokenLaws.{pre_some, qualifier_read}
use Rattle.semver_base.proofs.lexical.qualifier.Goals as goal
use Rattle.semver_base.proofs.lexical.qualifier.Goals.{in-Some-default, in-None-Loose, in-None-Strict, in-Some, in-None}

pub returns : goal.returns
returns c =
    let strictness = c.args.strictness in
    let pre : IfOk c.match-after.pre (λ r. Reads (IsPre strictness) c.args.text.now (answer_of r)) = elim c.match-after.branch [
      | in-Some-default w ↦
          let dashed = rw w.in-Some-default.is-0 at c.after.ensures in
          rw w.pre-is (IfOk-weaker w.identifiers-pre.result _ _ (λ r h. pre_prefixed strictness c.args.text.now w.in-Some-default.rest.now (answer_of r) dashed h) w.identifiers-pre.ensures)
      | in-None-Loose w ↦
          let bare = rw w.in-None-Loose.is-0 at c.after.ensures in
          rw w.pre-is (IfOk-weaker w.identifiers-pre-in-None-Loose.result _ _ (λ r h. pre_bare strictness c.args.text.now (answer_of r) bare (λ e. cc (w.in-None-Loose.is-1, e)) h) w.identifiers-pre-in-None-Loose.ensures)
      | in-None-Strict w ↦ rw w.pre-is (search rules)
    ] in
    let build : IfOk c.match-after-2.build (λ r. Reads IsBuild c.unwrap_or-pre.result.1.now (answer_of r)) = elim c.match-after-2.branch [
      | in-Some w ↦ rw w.build-is (IfOk-weaker w.identifiers-build.result _ _ (λ r h. build_prefixed c.unwrap_or-pre.result.1.now w.in-Some.more.now (answer_of r) w.in-Some.ensures h) w.identifiers-build.ensures)
      | in-None w ↦ rw w.build-is (search rules)
    ] in
    qualifier_read strictness
    (optional_read c.args.text c.in_ok-pre.field-0 c.unwrap_or-pre.result (pre_some strictness) (rw c.in_ok-pre.was at pre) (rw c.new.ensures at c.unwrap_or-pre.ensures))
    (optional_read c.unwrap_or-pre.result.1 c.in_ok-build.field-0 c.unwrap_or-build.result (prefixed_some_text 43) (rw c.in_ok-build.was at build) (rw c.new-2.ensures at c.unwrap_or-build.ensures))
