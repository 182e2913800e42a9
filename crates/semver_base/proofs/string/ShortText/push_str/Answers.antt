use Rattle.std.proofs.Common.{◌≡◌, ◌≤◌, ◌<◌, ◌+◌, ◌++◌, ◌∙◌, ◌==◌, arith, length, length-append, string_bytes, rules}
use Rattle.semver_base.specs.Texts.{zeros_in_front}
use Rattle.semver_base.proofs.Zeros.{front_splits, front_stays, rest_whole}
use Rattle.semver_base.proofs.string.ShortText.push_str.Goals as goal

pub invariant_of-self-in-Heap : goal.invariant_of-self-in-Heap
invariant_of-self-in-Heap g c =
    let old = string_bytes c.in-Heap.long in
    let new = string_bytes c.push_str-in-Heap.new.self in
    let was : (g.row.LIMIT < length old) × (c.in-Heap.zeros ≡ zeros_in_front old) = rw c.in-Heap.is at c.self.invariant in
    let is : new ≡ old ++ c.args.text.now = search rules in
    let known : c.in-Heap.zeros ≤ zeros_in_front new = rw (is, was.1) (front_stays (λ b. b == 48) old c.args.text.now) in
    let bytes : c.as_bytes-in-Heap.result.now ≡ new = c.as_bytes-in-Heap.ensures.value ∙ c.as_str-in-Heap.ensures.value in
    let longer : length new ≡ length old + length c.args.text.now = rw is (length-append old c.args.text.now) in (
      omega (arith, was.0, longer),
      rw (c.leading_zeros.ensures, bytes, rest_whole new c.in-Heap.zeros) (front_splits (λ b. b == 48) new c.in-Heap.zeros known),
    )
