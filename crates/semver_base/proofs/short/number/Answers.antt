use Rattle.std.proofs.Common.{◌≡◌, ◌<◌, length, arith, rules, sym, ◌∙◌, true, false, inl, inr, slice_index}
use Rattle.std.specs.Char.{is_ascii_digit}
use Rattle.std.proofs.lemmas.List.{take_rest}
use Rattle.semver_base.proofs.ShortTexts.{more_pass, more_value, no_digit, number_read, small_digit, too_long, zero_led}
use Rattle.semver_base.proofs.short.number.Goals as goal
use Rattle.semver_base.proofs.short.number.Goals.{then-loop-len-test+else-is_ascii_digit, else-loop-len-test, then-len-eq0-via-then-len-eq0, then-len-eq0-via-else-len-eq0+then-len-ne1}

pub loop-len-preserved : goal.loop-len-preserved
loop-len-preserved c =
    let digit : is_ascii_digit (slice_index c.args.bytes.now c.loop-len.len) ≡ true = search rules in
    record {
      in_range = omega arith;
      pass = more_pass c.args.bytes.now c.loop-len.len (omega arith) c.loop-len.invariant.pass digit;
      is = rw c.from.ensures (more_value c.args.bytes.now c.loop-len.len c.loop-len.number (omega arith) digit c.loop-len.invariant.is);
      short = rw c.from.ensures (omega (arith, small_digit c.args.bytes.now c.loop-len.len digit));
    }

pub returns-then-number-ge-LIMIT-clause-none : goal.returns-then-number-ge-LIMIT-clause-none
returns-then-number-ge-LIMIT-clause-none c =
    let digit : is_ascii_digit (slice_index c.args.bytes.now c.loop-len.len) ≡ true = search rules in
    too_long c.args.bytes.now c.loop-len.len c.loop-len.number (omega arith) c.loop-len.invariant.pass digit c.loop-len.invariant.is (omega arith)

pub returns-then-len-eq0-clause-none : goal.returns-then-len-eq0-clause-none
returns-then-len-eq0-clause-none c =
    let stops : c.loop-len.len < length c.args.bytes.now → is_ascii_digit (slice_index c.args.bytes.now c.loop-len.len) ≡ false = elim c.loop-len-test.branch [
      | then-loop-len-test+else-is_ascii_digit w ↦ λ inside. sym w.is_ascii_digit.ensures.value ∙ search rules
      | else-loop-len-test w ↦ λ inside. absurd (omega arith)
    ] in
    elim c.then-len-eq0.branch [
      | then-len-eq0-via-then-len-eq0 w ↦ let none : c.loop-len.len ≡ 0 = search rules in no_digit c.args.bytes.now (rw none at stops)
      | then-len-eq0-via-else-len-eq0+then-len-ne1 w ↦ zero_led c.args.bytes.now c.loop-len.len (omega (arith, w.if-len-eq0.false, w.if-len-ne1.true.1)) c.loop-len.invariant.in_range c.loop-len.invariant.pass w.if-len-ne1.true.0
    ]

pub returns-clause-number : goal.returns-clause-number
returns-clause-number c =
    let stops : c.loop-len.len < length c.args.bytes.now → is_ascii_digit (slice_index c.args.bytes.now c.loop-len.len) ≡ false = elim c.loop-len-test.branch [
      | then-loop-len-test+else-is_ascii_digit w ↦ λ inside. sym w.is_ascii_digit.ensures.value ∙ search rules
      | else-loop-len-test w ↦ λ inside. absurd (omega arith)
    ] in
    rw (take_rest c.args.bytes.now c.loop-len.len) (number_read c.args.bytes.now c.loop-len.len c.loop-len.number (omega arith) (λ z. elim c.if-len-ne1.either [ inl h ↦ h.1 | inr other ↦ absurd (other z) ]) c.loop-len.invariant.in_range c.loop-len.invariant.pass stops c.loop-len.invariant.is (omega arith))
