-- A valid tag is a text without `||` and with nothing to trim; and what trimming leaves of a text that doesn't begin with
-- whitespace.
use Rattle.std.proofs.Common.{◌≡◌, ◌<◌, ◌==◌, ℕ, Bool, true, false, List, [], ◌∷◌, length, get_or, refl, sym, ap, ◌∙◌, inl, inr, arith, append-nil, not, IsUtf8, encode_utf8, encode_utf8_all}
use Rattle.std.specs.Char.{is_whitespace}
use Rattle.std.specs.List.{list_all}
use Rattle.std.specs.Str.{chars, drop_trailing_whitespace, skip_leading_whitespace, trim, trim_end, trim_start}
use Rattle.std.proofs.lemmas.Bool.{and_parts, cases_lt, false_from_ne_true}
use Rattle.std.proofs.lemmas.Bool.Decides.{nat_tests}
use Rattle.std.proofs.lemmas.List.Elements.{All-from_get_or}
use Rattle.std.proofs.lemmas.List.Sums.{list_all-from_AllPass}
use Rattle.std.proofs.lemmas.Str.{encodes-chars, inside_one}
use Rattle.semver_base.specs.ByteLaws.{list_all-append}
use Rattle.semver_req.specs.Pieces.{HasNoBar}
use Rattle.semver_req.specs.Tag.{is_tag_character, is_valid_tag}
use Rattle.semver_req.proofs.PrimitiveKindsNoTag.{are_tag_characters}
use Rattle.semver_req.proofs.TagCharacters.{bar_no_tag, white_no_tag}
use Rattle.semver_req.proofs.WrittenSets.{no_bar}

-- ---- the bytes of a tag

-- an ASCII character that no tag has isn't one of its bytes
module _ (b : ℕ) (low : b < 128) (none : is_tag_character b ≡ false) where
  abbrev pub is_other_byte : ℕ → Bool
  is_other_byte d = not (d == b)

  character_bytes : (c : ℕ) → is_tag_character c ≡ true → list_all is_other_byte (encode_utf8 c) ≡ true
  character_bytes c tag = list_all-from_AllPass is_other_byte (encode_utf8 c) (All-from_get_or (λ d. is_other_byte d ≡ true) (encode_utf8 c) 0 each)
    where
      there : c ≡ b → ⊥
      there e = let same : true ≡ false = sym tag ∙ (ap is_tag_character e ∙ none) in cc same

      each : (k : ℕ) → k < length (encode_utf8 c) → is_other_byte (get_or (encode_utf8 c) k 0) ≡ true
      each k h = elim (cases_lt (get_or (encode_utf8 c) k 0) b) [
        | inl less ↦ grind (arith, nat_tests)
        | inr high ↦ elim (cases_lt b (get_or (encode_utf8 c) k 0)) [
          | inl above ↦ grind (arith, nat_tests)
          | inr at_most ↦
              let byte : get_or (encode_utf8 c) k 0 ≡ b = omega (arith, high, at_most) in
              absurd (there (inside_one c [] (encode_utf8 c) k (sym (append-nil (encode_utf8 c))) h (omega (arith, byte, low)) ∙ byte))
        ]
      ]

  tag_bytes : (cs : List ℕ) → list_all is_tag_character cs ≡ true → list_all is_other_byte (encode_utf8_all cs) ≡ true
  tag_bytes [] h = refl
  tag_bytes (c ∷ cs) h =
      let both = and_parts (is_tag_character c) _ h in
      list_all-append is_other_byte (encode_utf8 c) (encode_utf8_all cs) (character_bytes c both.0) (tag_bytes cs both.1)

-- ---- a tag has no whitespace

none_skipped : (cs : List ℕ) → list_all is_tag_character cs ≡ true → skip_leading_whitespace cs ≡ cs
none_skipped [] h = refl
none_skipped (c ∷ cs) h =
    let both = and_parts (is_tag_character c) _ h in
    rw (false_from_ne_true (is_whitespace c) (λ white. white_no_tag c white both.0)) refl

none_dropped : (cs : List ℕ) → list_all is_tag_character cs ≡ true → drop_trailing_whitespace cs ≡ cs
none_dropped [] h = refl
none_dropped (c ∷ cs) h =
    let both = and_parts (is_tag_character c) _ h in
    rw (false_from_ne_true (is_whitespace c) (λ white. white_no_tag c white both.0)) (ap (λ t. c ∷ t) (none_dropped cs both.1))

module _ (text : List ℕ) (utf8 : IsUtf8 text) (valid : is_valid_tag text ≡ true) where
  characters : list_all is_tag_character (chars text) ≡ true
  characters = (and_parts (not (list_all is_whitespace (chars text))) (are_tag_characters text) valid).1

  -- no byte of a tag is an ASCII character that no tag has
  pub tag_without : (b : ℕ) → b < 128 → is_tag_character b ≡ false → list_all (λ d. not (d == b)) text ≡ true
  tag_without b low none = rw (encodes-chars text utf8) at (tag_bytes b low none (chars text) characters)

  pub tag_no_bar : HasNoBar text
  tag_no_bar = no_bar text (tag_without 124 (omega arith) bar_no_tag)

  start_same : trim_start text ≡ text
  unfolding trim_start
  start_same = ap encode_utf8_all (none_skipped (chars text) characters) ∙ encodes-chars text utf8

  end_same : trim_end text ≡ text
  unfolding trim_end
  end_same = ap encode_utf8_all (none_dropped (chars text) characters) ∙ encodes-chars text utf8

  pub tag_trimmed : trim text ≡ text
  tag_trimmed = ap trim_end start_same ∙ end_same
