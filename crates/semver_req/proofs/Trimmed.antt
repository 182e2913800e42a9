-- What trimming leaves of a text, and the whitespace around it.
use Rattle.std.proofs.Common.{◌≡◌, ◌<◌, ℕ, false, List, [], ◌∷◌, ◌++◌, length, get_or, refl, sym, ap, ◌∙◌, inl, inr, arith, append_assoc, length-append, IsUtf8, encode_utf8, encode_utf8_all, drop_at, take_at}
use Rattle.std.specs.Char.{is_not_whitespace, is_whitespace}
use Rattle.std.specs.Str.{IsCharBoundary, NonePass, chars, drop_trailing_whitespace, skip_leading_whitespace, trim, trim_end, trim_start}
use Rattle.std.proofs.lemmas.Bool.{cases_Bool, not-false}
use Rattle.std.proofs.lemmas.Bool.Decides.{nat_tests}
use Rattle.std.proofs.lemmas.Str.{IsCharBoundary-before_ascii, IsUtf8-drop, IsUtf8-past_char, IsUtf8-take, chars-append, chars_from_encodes, chars_past_char, encode_ascii, encodes-append, encodes-chars, encodes_same}
use Rattle.semver_base.specs.Lexical.{IsWhitespace}
use Rattle.semver_base.specs.SolidLaws.{EndsSolid, StartsSolid, solid_no_white, solid_small, stays}
use Rattle.semver_req.proofs.TagPieces.{IsLeft, piece_left, skipped_twice}

get_or-append-here : (p : List ℕ) (x : ℕ) (m : List ℕ) → get_or (p ++ (x ∷ m)) (length p) 0 ≡ x
get_or-append-here [] x m = refl
get_or-append-here (y ∷ p) x m = get_or-append-here p x m

-- ---- lists of characters

skip_white : (cs ds : List ℕ) → NonePass is_not_whitespace cs → skip_leading_whitespace (cs ++ ds) ≡ skip_leading_whitespace ds
skip_white [] ds h = refl
skip_white (c ∷ cs) ds h = rw (not-false (is_whitespace c) h.0) (skip_white cs ds h.1)

drop_white : (cs : List ℕ) → NonePass is_not_whitespace cs → drop_trailing_whitespace cs ≡ []
drop_white [] h = refl
drop_white (c ∷ cs) h = rw (drop_white cs h.1, not-false (is_whitespace c) h.0) refl

drop_last : (cs : List ℕ) (last : ℕ) (ds : List ℕ) → is_whitespace last ≡ false → NonePass is_not_whitespace ds → drop_trailing_whitespace (cs ++ (last ∷ ds)) ≡ cs ++ (last ∷ [])
drop_last [] last ds h k = rw (drop_white ds k, h) refl
drop_last (c ∷ cs) last ds h k =
    let size = length-append cs (last ∷ []) in
    rw (drop_last cs last ds h k) (stays (is_whitespace c) _ c _ (grind (arith, nat_tests, size)))

-- ---- whitespace at the start

-- what follows some characters of a text
rest_text : (cs rest : List ℕ) → IsUtf8 (encode_utf8_all cs ++ rest) → IsUtf8 rest
rest_text [] rest u = u
rest_text (c ∷ cs) rest u = rest_text cs rest (IsUtf8-past_char _ (encode_utf8_all cs ++ rest) c u (append_assoc (encode_utf8 c) (encode_utf8_all cs) rest))

rest_chars : (cs rest : List ℕ) → IsUtf8 (encode_utf8_all cs ++ rest) → chars (encode_utf8_all cs ++ rest) ≡ cs ++ chars rest
rest_chars [] rest u = refl
rest_chars (c ∷ cs) rest u =
    let e = append_assoc (encode_utf8 c) (encode_utf8_all cs) rest in
    chars_past_char _ (encode_utf8_all cs ++ rest) c u e ∙ ap (λ t. c ∷ t) (rest_chars cs rest (IsUtf8-past_char _ (encode_utf8_all cs ++ rest) c u e))

pub behind_whitespace : (a rest : List ℕ) → IsUtf8 (a ++ rest) → IsWhitespace a tt → IsUtf8 rest
behind_whitespace a rest u h = rest_text h.0 rest (rw (← h.1) at u)

pub start_skipped : (a rest : List ℕ) → IsUtf8 (a ++ rest) → IsWhitespace a tt → trim_start (a ++ rest) ≡ trim_start rest
unfolding trim_start
start_skipped a rest u h =
    let some : IsUtf8 (encode_utf8_all h.0 ++ rest) = rw (← h.1) at u in
    ap encode_utf8_all (ap (λ t. skip_leading_whitespace (chars (t ++ rest))) (sym h.1) ∙ (ap skip_leading_whitespace (rest_chars h.0 rest some) ∙ skip_white h.0 (chars rest) h.2))

-- a text that begins with a byte that isn't whitespace
start_same : (x : ℕ) (text : List ℕ) → IsUtf8 (x ∷ text) → x < 128 → is_whitespace x ≡ false → trim_start (x ∷ text) ≡ x ∷ text
unfolding trim_start
start_same x text u low other =
    let are : chars (x ∷ text) ≡ x ∷ chars text = chars_past_char (x ∷ text) text x u (ap (λ t. t ++ text) (sym (encode_ascii x low))) in
    let same : skip_leading_whitespace (chars (x ∷ text)) ≡ chars (x ∷ text) = rw (are, other) refl in
    ap encode_utf8_all same ∙ encodes-chars (x ∷ text) u

-- ---- whitespace at the end

-- a text that ends with a byte that isn't whitespace, and then whitespace
module _ (front : List ℕ) (last : ℕ) (b : List ℕ) (u : IsUtf8 (front ++ (last ∷ b))) (low : last < 128) where
  here : IsCharBoundary (front ++ (last ∷ b)) (length front)
  here = IsCharBoundary-before_ascii _ (length front) (omega (arith, length-append front (last ∷ b))) (omega (arith, low, get_or-append-here front last b))

  front_text : IsUtf8 front
  front_text = rw (take_at front (last ∷ b) (length front) refl) at (IsUtf8-take _ (length front) u here)

  last_text : IsUtf8 (last ∷ b)
  last_text = rw (drop_at front (last ∷ b) (length front) refl) at (IsUtf8-drop _ (length front) u here)

  last_is : last ∷ b ≡ encode_utf8 last ++ b
  last_is = ap (λ t. t ++ b) (sym (encode_ascii last low))

  end_chars : (h : IsWhitespace b tt) → chars (front ++ (last ∷ b)) ≡ chars front ++ (last ∷ h.0)
  end_chars h = chars-append front (last ∷ b) front_text ∙ ap (λ t. chars front ++ t) (chars_past_char (last ∷ b) b last last_text last_is ∙ ap (λ t. last ∷ t) (sym (chars_from_encodes h.0 b (IsUtf8-past_char (last ∷ b) b last last_text last_is) h.1)))

  pub end_dropped : is_whitespace last ≡ false → IsWhitespace b tt → trim_end (front ++ (last ∷ b)) ≡ front ++ (last ∷ [])
  unfolding trim_end
  end_dropped other h =
      ap encode_utf8_all (ap drop_trailing_whitespace (end_chars h) ∙ drop_last (chars front) last h.0 other h.2)
      ∙ (encodes-append (chars front) (last ∷ []) ∙ ap (λ t. t ++ encode_utf8_all (last ∷ [])) (encodes-chars front front_text) ∙ ap (λ t. front ++ (t ++ [])) (encode_ascii last low))

-- whitespace before a text of which something is left
dropped_behind : (cs ds es : List ℕ) (e : ℕ) → drop_trailing_whitespace ds ≡ e ∷ es → drop_trailing_whitespace (cs ++ ds) ≡ cs ++ (e ∷ es)
dropped_behind [] ds es e h = h
dropped_behind (c ∷ cs) ds es e h =
    let size = length-append cs (e ∷ es) in
    rw (dropped_behind cs ds es e h) (stays (is_whitespace c) _ c _ (grind (arith, nat_tests, size)))

pub end_behind : (a rest : List ℕ) → IsUtf8 (a ++ rest) → IsWhitespace a tt → 0 < length (trim_end rest) → trim_end (a ++ rest) ≡ a ++ trim_end rest
unfolding trim_end
end_behind a rest u h some = go (drop_trailing_whitespace (chars rest)) refl some
  where
    go : (ds : List ℕ) → drop_trailing_whitespace (chars rest) ≡ ds → 0 < length (trim_end rest) → trim_end (a ++ rest) ≡ a ++ trim_end rest
    go [] is some = absurd (omega (arith, some, ap (λ l. length (encode_utf8_all l)) is))
    go (d ∷ ds) is some =
        let white : IsUtf8 (encode_utf8_all h.0 ++ rest) = rw (← h.1) at u in
        ap encode_utf8_all (ap (λ t. drop_trailing_whitespace (chars (t ++ rest))) (sym h.1) ∙ (ap drop_trailing_whitespace (rest_chars h.0 rest white) ∙ dropped_behind h.0 (chars rest) ds d is))
        ∙ (encodes-append h.0 (d ∷ ds) ∙ (ap (λ t. t ++ encode_utf8_all (d ∷ ds)) h.1 ∙ ap (λ t. a ++ encode_utf8_all t) (sym is)))

-- ---- the text within

-- a text, and the whitespace around what trimming leaves
pub record IsAround (text : List ℕ) : Type 0 where
  pub ahead : List ℕ
  pub behind : List ℕ
  pub text_is : text ≡ ahead ++ (trim text ++ behind)
  pub is_ahead : IsWhitespace ahead tt
  pub is_behind : IsWhitespace behind tt

record IsSkipped (cs : List ℕ) : Type 0 where
  white : List ℕ
  list_is : cs ≡ white ++ skip_leading_whitespace cs
  are_white : NonePass is_not_whitespace white

skipped : (cs : List ℕ) → IsSkipped cs
skipped [] = record { white = []; list_is = refl; are_white = tt }
skipped (c ∷ cs) = elim (cases_Bool (is_whitespace c)) [
  | inl white ↦ let k = skipped cs in record { white = c ∷ k.white; list_is = rw white (ap (λ t. c ∷ t) k.list_is); are_white = (rw white refl, k.are_white) }
  | inr other ↦ record { white = []; list_is = rw other refl; are_white = tt }
]

-- the whitespace with which a text begins
pub begun_white : (text : List ℕ) → IsUtf8 text → (ahead : List ℕ) × (text ≡ ahead ++ trim_start text) × IsWhitespace ahead tt
unfolding trim_start
begun_white text u =
    let k = skipped (chars text) in
    (encode_utf8_all k.white, sym (encodes-chars text u) ∙ (ap encode_utf8_all k.list_is ∙ encodes-append k.white (skip_leading_whitespace (chars text))), (k.white, refl, k.are_white))

pub around : (text : List ℕ) → IsUtf8 text → IsAround text
unfolding trim_start
around text u =
    let k = begun_white text u in
    let ahead = k.0 in
    let whole : text ≡ ahead ++ trim_start text = k.1 in
    let white : IsWhitespace ahead tt = k.2 in
    let some : IsUtf8 (trim_start text) = behind_whitespace ahead (trim_start text) (rw whole at u) white in
    let are : chars (trim_start text) ≡ skip_leading_whitespace (chars text) = encodes_same _ _ (encodes-chars (trim_start text) some) in
    let again : trim_start (trim_start text) ≡ trim_start text = ap encode_utf8_all (ap skip_leading_whitespace are ∙ skipped_twice (chars text)) in
    let left : IsLeft (trim_start text) (trim (trim_start text)) = piece_left (trim_start text) some again in
    record {
      ahead = ahead;
      behind = left.behind;
      text_is = whole ∙ ap (λ t. ahead ++ t) (left.text_is ∙ ap (λ t. trim_end t ++ left.behind) again);
      is_ahead = white;
      is_behind = left.whitespace;
    }

-- between whitespace, a text that neither begins nor ends with it is what trimming leaves
pub trim_within : (a text b : List ℕ) → IsUtf8 (a ++ (text ++ b)) → IsWhitespace a tt → StartsSolid text → EndsSolid text → IsWhitespace b tt → trim (a ++ (text ++ b)) ≡ text
trim_within a text b u h starts ends k =
    let some : IsUtf8 (text ++ b) = behind_whitespace a (text ++ b) u h in
    let first : trim_start (text ++ b) ≡ text ++ b = rw starts.text_is (start_same starts.first (starts.rest ++ b) (rw starts.text_is at some) (solid_small starts.first starts.solid) (solid_no_white starts.first starts.solid)) in
    let second : text ++ b ≡ ends.front ++ (ends.last ∷ b) = ap (λ t. t ++ b) ends.text_is ∙ append_assoc ends.front (ends.last ∷ []) b in
    ap trim_end (start_skipped a (text ++ b) u h ∙ (first ∙ second)) ∙ (end_dropped ends.front ends.last b (rw second at some) (solid_small ends.last ends.solid) (solid_no_white ends.last ends.solid) k ∙ sym ends.text_is)
