-- Leading whitespace, and texts of only whitespace.
use Rattle.std.proofs.Common.{◌≡◌, ◌≤◌, ◌<◌, ℕ, Bool, true, List, [], ◌∷◌, ◌++◌, length, take, get_or, refl, sym, ap, ◌∙◌, inl, inr, append_assoc, append-nil, ◌↔◌, ◌==◌, ◌||◌, nat_le, IsTrue, IsUtf8, encode_utf8}
use Rattle.std.specs.Char.{is_not_whitespace, is_whitespace}
use Rattle.std.specs.List.{list_all}
use Rattle.std.specs.Str.{EmptyOrStartsWithPassing, IsTrimStart, NonePass, NoCharPasses, chars, encode_utf8_all}
use Rattle.std.proofs.lemmas.Bool.Decides.{same_from_decides}
use Rattle.std.proofs.lemmas.Str.{chars_from_encodes, encode_same, encodes-chars, inside_one, len_utf8_bounds, length-encode}
use Rattle.std.proofs.lemmas.List.Sums.{list_all-from_AllPass}
use Rattle.std.proofs.lemmas.List.Elements.{All-from_get_or}
use Rattle.std.proofs.lemmas.List.{nil_from_length, take-append-drop}
use Rattle.std.proofs.lemmas.Bool.{and_parts, both_ways, cases_lt, eqb-true, le-leb, not-false, or_left, or_right}
use Prim.Native.Nat.{zero-le}
use native.Mathlib.Nat.{le_trans, not-suc-le-zero}
use Rattle.semver_base.specs.Grammar.{HasNone, IsLongest}
use Rattle.semver_base.specs.Lexical.{IsWhitespace, IsSomeWhitespace}
use Rattle.semver_base.specs.LengthLaws.{front_le, join_le, some_front, no_front, no_rest}
use Rattle.semver_base.specs.GrammarLaws.{narrowed}
use Rattle.semver_base.specs.ByteLaws.{MadeOf, list_all-append}

-- leading whitespace is no longer than that after which no more whitespace follows
no_longer : (cs ds rest b after : List ℕ) → NonePass is_not_whitespace cs → NonePass is_not_whitespace ds → EmptyOrStartsWithPassing is_not_whitespace rest after
    → encode_utf8_all cs ++ b ≡ encode_utf8_all ds ++ rest → length (encode_utf8_all cs) ≤ length (encode_utf8_all ds)
no_longer [] ds rest b after pa pf stop e = zero-le
no_longer (c ∷ cs) [] rest b after pa pf stop e =
    let split : encode_utf8 c ++ (encode_utf8_all cs ++ b) ≡ rest = sym (append_assoc (encode_utf8 c) (encode_utf8_all cs) b) ∙ e in
    let some : 0 < length (encode_utf8 c) = rw (length-encode c) (len_utf8_bounds c).0 in
    let size : 0 < length rest = rw (← split) (le_trans some (front_le (encode_utf8 c) (encode_utf8_all cs ++ b))) in
    let next = stop size in
    let same_char : c ≡ next.0 = (encode_same c next.0 (encode_utf8_all cs ++ b) after (split ∙ next.2)).0 in
    absurd (both_ways (is_not_whitespace c) pa.0 (rw same_char next.1))
no_longer (c ∷ cs) (d ∷ ds) rest b after pa pf stop e =
    let split : encode_utf8 c ++ (encode_utf8_all cs ++ b) ≡ encode_utf8 d ++ (encode_utf8_all ds ++ rest) = sym (append_assoc (encode_utf8 c) (encode_utf8_all cs) b) ∙ (e ∙ append_assoc (encode_utf8 d) (encode_utf8_all ds) rest) in
    let both = encode_same c d (encode_utf8_all cs ++ b) (encode_utf8_all ds ++ rest) split in
    let tail = no_longer cs ds rest b after pa.1 pf.1 stop both.1 in
    rw both.0 (join_le (encode_utf8 d) (encode_utf8_all cs) (encode_utf8_all ds) tail)

pub whitespace_longest : (text rest : List ℕ) → IsTrimStart text rest → IsLongest IsWhitespace text tt rest
whitespace_longest text rest h = record {
  front = take h.0 text;
  text_is = sym (take-append-drop h.0 text) ∙ ap (λ t. take h.0 text ++ t) (sym h.1);
  stands = h.2;
  longest = λ a b w e k.
      (go a b e k, λ _. refl);
}
  where
    go : (a b : List ℕ) → text ≡ a ++ b → NoCharPasses is_not_whitespace a → length a ≤ length (take h.0 text)
    go a b e k =
        let split : a ++ b ≡ take h.0 text ++ rest = sym e ∙ (sym (take-append-drop h.0 text) ∙ ap (λ t. take h.0 text ++ t) (sym h.1)) in
        let chars_split : encode_utf8_all k.0 ++ b ≡ encode_utf8_all h.2.0 ++ rest = ap (λ t. t ++ b) k.1 ∙ (split ∙ ap (λ t. t ++ rest) (sym h.2.1)) in
        rw (k.1, h.2.1) at (no_longer k.0 h.2.0 rest b h.3.0 k.2 h.2.2 h.3.1 chars_split)

-- ---- the bytes of whitespace

abbrev pub is_whitespace_byte : ℕ → Bool
is_whitespace_byte b = is_whitespace b || nat_le 128 b

whitespace_bytes : (c : ℕ) → is_whitespace c ≡ true → list_all is_whitespace_byte (encode_utf8 c) ≡ true
whitespace_bytes c white = list_all-from_AllPass is_whitespace_byte (encode_utf8 c) (All-from_get_or (λ b. is_whitespace_byte b ≡ true) (encode_utf8 c) 0 each)
  where
    each : (k : ℕ) → k < length (encode_utf8 c) → is_whitespace_byte (get_or (encode_utf8 c) k 0) ≡ true
    each k h = elim (cases_lt (get_or (encode_utf8 c) k 0) 128) [
      | inl low ↦ let same_char : get_or (encode_utf8 c) k 0 ≡ c = sym (inside_one c [] (encode_utf8 c) k (sym (append-nil (encode_utf8 c))) h low) in
          or_left (is_whitespace (get_or (encode_utf8 c) k 0)) (nat_le 128 (get_or (encode_utf8 c) k 0)) (rw same_char white)
      | inr high ↦ or_right (is_whitespace (get_or (encode_utf8 c) k 0)) (nat_le 128 (get_or (encode_utf8 c) k 0)) (le-leb 128 (get_or (encode_utf8 c) k 0) high)
    ]

all_whitespace : (cs : List ℕ) → NonePass is_not_whitespace cs → list_all is_whitespace_byte (encode_utf8_all cs) ≡ true
all_whitespace [] h = refl
all_whitespace (c ∷ cs) h = list_all-append is_whitespace_byte (encode_utf8 c) (encode_utf8_all cs) (whitespace_bytes c (not-false (is_whitespace c) h.0)) (all_whitespace cs h.1)

pub whitespace_made : MadeOf IsWhitespace is_whitespace_byte
whitespace_made = record { made = λ text v h. rw (← h.1) (all_whitespace h.0 h.2) }

-- ---- one or more whitespace characters

pub some_whitespace : (text rest : List ℕ) → IsLongest IsWhitespace text tt rest → length rest < length text → IsLongest IsSomeWhitespace text tt rest
some_whitespace text rest p less = narrowed IsSomeWhitespace (λ a w h. h.1) p (some_front p.front rest (rw p.text_is at less), p.stands)

pub no_whitespace : (text rest : List ℕ) → IsLongest IsWhitespace text tt rest → length text ≤ length rest → HasNone IsSomeWhitespace text
no_whitespace text rest p same_size =
    let nil : p.front ≡ [] = no_front p.front rest (rw p.text_is at same_size) in
    record { none = λ a b w e h. not-suc-le-zero (le_trans h.0 (rw nil at (p.longest a b tt e h.1).0)) }

-- ---- texts of only whitespace

-- a text is only whitespace exactly if nothing follows its leading whitespace
pub whitespace_whole : (text rest : List ℕ) (b : Bool) → b ≡ (length rest == 0) → IsLongest IsWhitespace text tt rest → IsTrue b ↔ IsWhitespace text tt
whitespace_whole text rest b e p = (forward, backward)
  where
    forward : IsTrue b → IsWhitespace text tt
    forward h =
        let nil : rest ≡ [] = nil_from_length rest (eqb-true (length rest) 0 (sym e ∙ h)) in
        let whole : text ≡ p.front = p.text_is ∙ (ap (λ t. p.front ++ t) nil ∙ append-nil p.front) in
        rw whole p.stands

    backward : IsWhitespace text tt → IsTrue b
    backward h =
        let best : length text ≤ length p.front = (p.longest text [] tt (sym (append-nil text)) h).0 in
        let nil : rest ≡ [] = no_rest p.front rest (rw p.text_is at best) in
        rw (e, nil) refl

all_white : (cs : List ℕ) → NonePass is_not_whitespace cs → list_all is_whitespace cs ≡ true
all_white [] h = refl
all_white (c ∷ cs) h = rw (not-false (is_whitespace c) h.0) (all_white cs h.1)

none_other : (cs : List ℕ) → list_all is_whitespace cs ≡ true → NonePass is_not_whitespace cs
none_other [] h = tt
none_other (c ∷ cs) h = (rw (and_parts (is_whitespace c) (list_all is_whitespace cs) h).0 refl, none_other cs (and_parts (is_whitespace c) (list_all is_whitespace cs) h).1)

-- a text is only whitespace exactly if each of its characters is
pub whitespace_characters : (text : List ℕ) → IsUtf8 text → IsTrue (list_all is_whitespace (chars text)) ↔ IsWhitespace text tt
whitespace_characters text utf8 = (forward, backward)
  where
    forward : IsTrue (list_all is_whitespace (chars text)) → IsWhitespace text tt
    forward h = (chars text, encodes-chars text utf8, none_other (chars text) h)

    backward : IsWhitespace text tt → IsTrue (list_all is_whitespace (chars text))
    backward h = rw (← chars_from_encodes h.0 text utf8 h.1) (all_white h.0 h.2)

-- so that test decides whether a text is only whitespace
pub whitespace_test : (text : List ℕ) (b : Bool) → IsUtf8 text → IsTrue b ↔ IsWhitespace text tt → b ≡ list_all is_whitespace (chars text)
whitespace_test text b utf8 reported = same_from_decides b (list_all is_whitespace (chars text)) reported (whitespace_characters text utf8)
