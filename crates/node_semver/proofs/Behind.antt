-- What comes behind the numbers that a text begins with.
use Rattle.std.proofs.Common.{append_assoc, length-append, ◌≡◌, ◌∙◌, ◌<◌, ◌≤◌, ◌-◌, ◌++◌, ◌∷◌, ◌==◌, ℕ, List, [], IsUtf8, Option, Some, None, drop, length, refl, ap, sym, subst, inl, inr, arith}
use Rattle.std.specs.Char.{is_ascii_digit}
use Rattle.std.specs.Option.{option_map}
use Rattle.std.specs.Str.{IsCharBoundary}
use Rattle.std.proofs.lemmas.Bool.{cases_Bool}
use Rattle.std.proofs.lemmas.Bool.Decides.{nat_tests}
use Rattle.std.proofs.lemmas.List.Sums.{take_while-cons}
use Rattle.std.proofs.Math.Seq.{drop-append_seam}
use Rattle.std.proofs.lemmas.Str.{IsCharBoundary-after_ascii, IsCharBoundary-at_seam, IsUtf8-drop}
use Rattle.semver_base.specs.Characters.{dot}
use Rattle.semver_base.specs.Precedence.{number_of}
use Rattle.semver_base.specs.declared.version.Version.{Version}
use Rattle.node_semver.specs.Coerce.{leading_digits, leading_number, leading_release, next_number, or_zero, release_of}
use Rattle.node_semver.proofs.Digits.{digit_ascii}

-- the rest is behind a front, and is a text if the whole is one
record Cut (text rest : List ℕ) : Type 0 where
  front : List ℕ
  split : text ≡ front ++ rest
  utf8 : IsUtf8 text → IsUtf8 rest

whole : (text : List ℕ) → Cut text text
whole text = record { front = []; split = refl; utf8 = λ u. u }

behind_byte : (c : ℕ) (text rest : List ℕ) → c < 128 → Cut text rest → Cut (c ∷ text) rest
behind_byte c text rest ascii h = record {
  front = c ∷ h.front;
  split = ap (λ (xs : List ℕ). c ∷ xs) h.split;
  utf8 = λ u. h.utf8 (IsUtf8-drop (c ∷ text) 1 u (IsCharBoundary-after_ascii (c ∷ text) 0 u (omega arith) ascii));
}

further : (text middle rest : List ℕ) → Cut text middle → Cut middle rest → Cut text rest
further text middle rest h k = record {
  front = h.front ++ k.front;
  split = h.split ∙ (ap (λ xs. h.front ++ xs) k.split ∙ sym (append_assoc h.front k.front rest));
  utf8 = λ u. k.utf8 (h.utf8 u);
}

behind_digits : (text : List ℕ) → Cut text (drop (length (leading_digits text)) text)
behind_digits [] = whole []
behind_digits (c ∷ text) = elim (cases_Bool (is_ascii_digit c)) [
  | inl digit ↦ rw (take_while-cons is_ascii_digit c text, digit) (behind_byte c text (drop (length (leading_digits text)) text) (digit_ascii c digit) (behind_digits text))
  | inr other ↦ rw (take_while-cons is_ascii_digit c text, other) (whole (c ∷ text))
]

abbrev with_rest : List ℕ → ℕ → ℕ × List ℕ
with_rest at n = (n, at)

rest_found : (found : Option ℕ) (at : List ℕ) (n : ℕ) (rest : List ℕ) → option_map (with_rest at) found ≡ Some (n, rest) → at ≡ rest
rest_found None at n rest e = absurd (cc e)
rest_found (Some m) at n rest e = let found : with_rest at m ≡ (n, rest) = cc e in ap (λ (p : ℕ × List ℕ). p.1) found

behind_number : (text : List ℕ) (n : ℕ) (rest : List ℕ) → leading_number text ≡ Some (n, rest) → Cut text rest
behind_number text n rest e =
    subst (λ at. Cut text at) (rest_found (number_of (leading_digits text)) (drop (length (leading_digits text)) text) n rest e) (behind_digits text)

behind_found : (c : ℕ) (text : List ℕ) → c < 128 → (found : Option (ℕ × List ℕ)) → leading_number text ≡ found → Cut (c ∷ text) (or_zero (c ∷ text) found).1
behind_found c text ascii None e = whole (c ∷ text)
behind_found c text ascii (Some found) e = behind_byte c text found.1 ascii (behind_number text found.0 found.1 e)

behind_next : (text : List ℕ) → Cut text (next_number text).1
behind_next [] = whole []
behind_next (c ∷ text) = elim (cases_Bool (c == dot)) [
  | inl is_dot ↦ rw is_dot (behind_found c text (grind (arith, nat_tests, is_dot)) (leading_number text) refl)
  | inr other ↦ rw other (whole (c ∷ text))
]

abbrev as_release : ℕ × List ℕ → Version × List ℕ
as_release found = release_of found.0 (next_number found.1)

release_found : (text : List ℕ) (found : Option (ℕ × List ℕ)) (v : Version) (rest : List ℕ) → leading_number text ≡ found
    → option_map as_release found ≡ Some (v, rest) → Cut text rest
release_found text None v rest is e = absurd (cc e)
release_found text (Some f) v rest is e =
    let found : as_release f ≡ (v, rest) = cc e in
    subst (λ at. Cut text at) (ap (λ (p : Version × List ℕ). p.1) found)
    (further text f.1 _ (behind_number text f.0 f.1 is) (further f.1 _ _ (behind_next f.1) (behind_next (next_number f.1).1)))

behind_release : (text : List ℕ) (v : Version) (rest : List ℕ) → leading_release text ≡ Some (v, rest) → Cut text rest
behind_release text v rest e = release_found text (leading_number text) v rest refl e

module _ (text : List ℕ) (v : Version) (rest : List ℕ) (leads : leading_release text ≡ Some (v, rest)) where
  pub fits : length rest ≤ length text
  fits = let cut = behind_release text v rest leads in rw cut.split (omega (arith, length-append cut.front rest))

  place_is : (cut : Cut text rest) → length text - length rest ≡ length cut.front
  place_is cut = omega (arith, ap length cut.split, length-append cut.front rest)

  pub at_place : drop (length text - length rest) text ≡ rest
  at_place = let cut = behind_release text v rest leads in rw (place_is cut) (ap (drop (length cut.front)) cut.split ∙ drop-append_seam cut.front rest)

  pub boundary : IsUtf8 text → IsCharBoundary text (length text - length rest)
  boundary u = let cut = behind_release text v rest leads in rw (place_is cut) (IsCharBoundary-at_seam text cut.front rest cut.split (cut.utf8 u))
