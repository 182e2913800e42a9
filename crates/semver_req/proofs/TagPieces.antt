-- What trimming leaves of a piece at the start of a text that doesn't begin with whitespace.
use Rattle.std.proofs.Common.{◌≡◌, ◌≤◌, ◌<◌, ◌⊎◌, ◌-◌, ℕ, Bool, true, false, List, [], ◌∷◌, ◌++◌, length, get_or, refl, sym, ap, subst, ◌∙◌, inl, inr, arith, length-append, ◌==◌, ◌&&◌, IsUtf8, encode_utf8_all}
use Rattle.std.specs.Char.{is_not_whitespace, is_whitespace}
use Rattle.std.specs.Str.{NonePass, all_scalars, chars, drop_trailing_whitespace, skip_leading_whitespace, trim, trim_end, trim_start}
use Rattle.std.proofs.lemmas.Bool.{and_from, and_parts, cases_Bool, eqb-true}
use Rattle.std.proofs.lemmas.Str.{IsCharBoundary-before_ascii, IsUtf8-take, chars-append, encodes-append, encodes-chars, encodes_same, scalars-chars}
use Rattle.std.proofs.Math.Seq.{take-append_seam}
use Rattle.std.proofs.lemmas.List.{get_or-append_right, nil_from_length}
use Rattle.semver_base.specs.Lexical.{IsWhitespace}
use Rattle.semver_req.specs.Pieces.{ArePieces, first_cut, one_piece}

-- ---- at the start

shorter : (cs : List ℕ) → length (skip_leading_whitespace cs) ≤ length cs
shorter [] = omega arith
shorter (c ∷ cs) = elim (cases_Bool (is_whitespace c)) [
  | inl white ↦ rw white (omega (arith, shorter cs))
  | inr other ↦ rw other (omega arith)
]

-- what a text that doesn't begin with whitespace begins with
front_starts : (cs ds : List ℕ) → skip_leading_whitespace (cs ++ ds) ≡ cs ++ ds → skip_leading_whitespace cs ≡ cs
front_starts [] ds e = refl
front_starts (c ∷ cs) ds e = elim (cases_Bool (is_whitespace c)) [
  | inl white ↦ let skipped : skip_leading_whitespace (cs ++ ds) ≡ c ∷ (cs ++ ds) = rw white at e in absurd (omega (arith, shorter (cs ++ ds), ap length skipped))
  | inr other ↦ rw other refl
]

module _ (text : List ℕ) (utf8 : IsUtf8 text) where
  pub none_skipped : trim_start text ≡ text → skip_leading_whitespace (chars text) ≡ chars text
  unfolding trim_start
  none_skipped e = encodes_same _ _ (e ∙ sym (encodes-chars text utf8))

  pub start_same : skip_leading_whitespace (chars text) ≡ chars text → trim_start text ≡ text
  unfolding trim_start
  start_same e = ap encode_utf8_all e ∙ encodes-chars text utf8

pub front_start : (piece rest : List ℕ) → IsUtf8 piece → IsUtf8 (piece ++ rest) → trim_start (piece ++ rest) ≡ piece ++ rest → trim_start piece ≡ piece
front_start piece rest u v e = start_same piece u (front_starts (chars piece) (chars rest) (rw (chars-append piece rest u) at (none_skipped (piece ++ rest) v e)))

-- ---- at the end

record EndsWhitespace (cs : List ℕ) : Type 0 where
  whitespace : List ℕ
  text_is : cs ≡ drop_trailing_whitespace cs ++ whitespace
  white : NonePass is_not_whitespace whitespace

-- a character before characters of which this is known
one_more : (c : ℕ) (cs : List ℕ) → EndsWhitespace cs → EndsWhitespace (c ∷ cs)
one_more c cs rest = go (cases_Bool (is_whitespace c)) (cases_Bool (length (drop_trailing_whitespace cs) == 0))
  where
    retained : is_whitespace c && (length (drop_trailing_whitespace cs) == 0) ≡ false → EndsWhitespace (c ∷ cs)
    retained e = record { whitespace = rest.whitespace; text_is = rw e (ap (λ t. c ∷ t) rest.text_is); white = rest.white }

    go : (is_whitespace c ≡ true) ⊎ (is_whitespace c ≡ false) → ((length (drop_trailing_whitespace cs) == 0) ≡ true) ⊎ ((length (drop_trailing_whitespace cs) == 0) ≡ false) → EndsWhitespace (c ∷ cs)
    go (inl w) (inl none) =
        let gone : drop_trailing_whitespace cs ≡ [] = nil_from_length _ (eqb-true _ _ none) in
        record { whitespace = c ∷ rest.whitespace; text_is = rw (w, none) (ap (λ t. c ∷ t) (rest.text_is ∙ ap (λ t. t ++ rest.whitespace) gone)); white = (rw w refl, rest.white) }
    go (inl w) (inr some) = retained (rw (w, some) refl)
    go (inr o) n = retained (rw o refl)

ends_whitespace : (cs : List ℕ) → EndsWhitespace cs
ends_whitespace [] = record { whitespace = []; text_is = refl; white = tt }
ends_whitespace (c ∷ cs) = one_more c cs (ends_whitespace cs)

front_scalars : (cs ds : List ℕ) → all_scalars (cs ++ ds) ≡ true → all_scalars cs ≡ true
front_scalars [] ds h = refl
front_scalars (c ∷ cs) ds h = let both = and_parts _ _ h in and_from _ _ both.0 (front_scalars cs ds both.1)

-- what is left of a piece that doesn't begin with whitespace, and the whitespace after it
pub record IsLeft (piece left : List ℕ) : Type 0 where
  pub behind : List ℕ
  pub text_is : piece ≡ left ++ behind
  pub whitespace : IsWhitespace behind tt
  pub utf8 : IsUtf8 left

end_left : (piece : List ℕ) → IsUtf8 piece → IsLeft piece (trim_end piece)
unfolding trim_end
end_left piece u =
    let ends = ends_whitespace (chars piece) in
    record {
      behind = encode_utf8_all ends.whitespace;
      text_is = sym (encodes-chars piece u) ∙ (ap encode_utf8_all ends.text_is ∙ encodes-append (drop_trailing_whitespace (chars piece)) ends.whitespace);
      whitespace = (ends.whitespace, refl, ends.white);
      utf8 = (drop_trailing_whitespace (chars piece), (front_scalars (drop_trailing_whitespace (chars piece)) ends.whitespace (ap all_scalars (sym ends.text_is) ∙ scalars-chars piece u), refl));
    }

pub piece_left : (piece : List ℕ) → IsUtf8 piece → trim_start piece ≡ piece → IsLeft piece (trim piece)
piece_left piece u start = rw start (end_left piece u)

-- ---- a text without the whitespace at both ends

pub skipped_twice : (cs : List ℕ) → skip_leading_whitespace (skip_leading_whitespace cs) ≡ skip_leading_whitespace cs
skipped_twice [] = refl
skipped_twice (c ∷ cs) = elim (cases_Bool (is_whitespace c)) [
  | inl white ↦ rw white (skipped_twice cs)
  | inr other ↦ rw (other, other) refl
]

skipped_scalars : (cs : List ℕ) → all_scalars cs ≡ true → all_scalars (skip_leading_whitespace cs) ≡ true
skipped_scalars [] h = refl
skipped_scalars (c ∷ cs) h = elim (cases_Bool (is_whitespace c)) [
  | inl white ↦ rw white (skipped_scalars cs (and_parts _ _ h).1)
  | inr other ↦ rw other h
]

module _ (text : List ℕ) (utf8 : IsUtf8 text) where
  started : IsUtf8 (trim_start text)
  unfolding trim_start
  started = (skip_leading_whitespace (chars text), (skipped_scalars (chars text) (scalars-chars text utf8), refl))

  started_same : trim_start (trim_start text) ≡ trim_start text
  unfolding trim_start
  started_same =
      let are : chars (trim_start text) ≡ skip_leading_whitespace (chars text) = encodes_same _ _ (encodes-chars (trim_start text) started) in
      ap encode_utf8_all (ap skip_leading_whitespace are ∙ skipped_twice (chars text))

-- ---- the only piece of a text

-- it is some text, and doesn't begin with whitespace if the text doesn't
pub record IsFirst (piece : List ℕ) : Type 0 where
  pub utf8 : IsUtf8 piece
  pub start : trim_start piece ≡ piece

-- so is what trimming leaves of a text
pub trimmed : (text : List ℕ) → IsUtf8 text → IsFirst (trim text)
trimmed text u =
    let left = piece_left (trim_start text) (started text u) (started_same text u) in
    let same : trim (trim_start text) ≡ trim text = ap trim_end (started_same text u) in
    let some : IsUtf8 (trim text) = subst IsUtf8 same left.utf8 in
    let whole : trim_start text ≡ trim text ++ left.behind = left.text_is ∙ ap (λ t. t ++ left.behind) same in
    record { utf8 = some; start = front_start (trim text) left.behind some (rw whole at (started text u)) (rw whole at (started_same text u)) }

pub only_piece : (text piece : List ℕ) (b : Bool) → IsUtf8 text → trim_start text ≡ text → ArePieces text b (piece ∷ []) → IsFirst piece
only_piece text piece b u start (one_piece n) = record { utf8 = u; start = start }
only_piece text piece b u start (first_cut {rest = rest} cut more) = record { utf8 = some; start = front_start piece (124 ∷ 124 ∷ rest) some (rw cut.text_is at u) (rw cut.text_is at start) }
  where
    bar : get_or text (length piece) 0 ≡ 124
    bar =
        let here : length piece - length piece ≡ 0 = omega arith in
        rw cut.text_is (get_or-append_right piece (124 ∷ 124 ∷ rest) (length piece) (length piece) 0 refl (omega arith) ∙ ap (λ k. get_or (124 ∷ 124 ∷ rest) k 0) here)

    some : IsUtf8 piece
    some =
        let inside : length piece < length text = omega (arith, ap length cut.text_is, length-append piece (124 ∷ 124 ∷ rest)) in
        let front = IsUtf8-take text (length piece) u (IsCharBoundary-before_ascii text (length piece) inside (omega (arith, bar))) in
        rw (cut.text_is, take-append_seam piece (124 ∷ 124 ∷ rest)) at front
