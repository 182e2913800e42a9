-- Parsers at a position in a text.
use Rattle.std.proofs.Common.{◌≡◌, ◌≤◌, ◌+◌, ◌-◌, ℕ, List, length, drop, sym, ap, ◌∙◌, refl, arith, length-append, length-drop, drop-drop, drop_at, IsCharBoundary, IsUtf8}
use Rattle.std.proofs.lemmas.Str.{IsCharBoundary-from_drop}
use Rattle.semver_base.specs.Grammar.{IsLongest, IsSeen}

module _ {V : Type 0} {R : List ℕ → V → Type 0} {value : V} (text rest : List ℕ) (place : ℕ) (le : place ≤ length text) (h : IsLongest R (drop place text) value rest) where
  -- what follows the position reached is just what the parser left
  reached : rest ≡ drop (length text - length rest) text
  reached =
      let size = ap length h.text_is ∙ length-append h.front rest in
      let sum : place + length h.front ≡ length text - length rest = omega (arith, size, length-drop place text) in
      sym (ap (λ n. drop n text) (sym sum) ∙ (sym (drop-drop (length h.front) place text) ∙ (ap (drop (length h.front)) h.text_is ∙ drop_at h.front rest (length h.front) refl)))

  pub longest_at : IsLongest R (drop place text) value (drop (length text - length rest) text)
  longest_at = rw (← reached) h

  -- the position reached is the start of a character
  pub longest_reaches : IsUtf8 rest → IsCharBoundary text (length text - length rest)
  longest_reaches is_text = IsCharBoundary-from_drop text (length text - length rest) (omega arith) (rw (← reached) is_text)

module _ {V X : Type 0} {see : V → X} {R : List ℕ → V → Type 0} {answer : X} (text rest : List ℕ) (place : ℕ) (le : place ≤ length text) (h : IsSeen see R (drop place text) answer rest) where
  pub seen_at : IsSeen see R (drop place text) answer (drop (length text - length rest) text)
  seen_at = record { value = h.value; longest = longest_at text rest place le h.longest; seen = h.seen }

  pub seen_reaches : IsUtf8 rest → IsCharBoundary text (length text - length rest)
  seen_reaches is_text = longest_reaches text rest place le h.longest is_text
