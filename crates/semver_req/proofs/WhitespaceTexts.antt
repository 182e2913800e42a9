-- The rule of whitespace has the texts that are whitespace.
use Rattle.std.proofs.Common.{◌≡◌, ◌<◌, ℕ, Bool, true, false, not, ◌&&◌, ◌+◌, List, [], ◌∷◌, ◌++◌, inl, inr, leb, ltb, eqb, length, refl, sym, ap, ◌∙◌, arith, encode_utf8, encode_utf8_all, length-append}
use Rattle.std.specs.Char.{is_not_whitespace, is_whitespace}
use Rattle.std.specs.Str.{NonePass, NoCharPasses}
use Rattle.std.proofs.lemmas.Bool.{agree_below, agree_below_at, and_parts, both_ways, or_cases, eqb-true, ltb-true, not-false}
use Rattle.std.proofs.lemmas.Bool.Decides.{nat_tests}
use Rattle.semver_base.specs.Lexical.{IsSomeWhitespace, IsWhitespace}
use Rattle.semver_req.proofs.Grammars as rule
use Rattle.semver_req.proofs.Rules.{Bytes, has, byte, seq, Many, no_more, one_more, Holds, nullable, minus, is_void, letter}
use Rattle.semver_req.proofs.RuleLaws.{within, nullable_into}
use Rattle.semver_req.proofs.RuleTexts.{Any, Describes, bytes, ground_described, letter_then}
use Rattle.semver_req.proofs.States.{matches, matches_from}

same_list : List ℕ → List ℕ → Bool
same_list [] [] = true
same_list (x ∷ a) (y ∷ b) = eqb x y && same_list a b
same_list _ _ = false

same_list_is : (a b : List ℕ) → same_list a b ≡ true → a ≡ b
unfolding same_list
same_list_is [] [] h = refl
same_list_is (x ∷ a) (y ∷ b) h =
    let both = and_parts (eqb x y) (same_list a b) h in
    let first : x ≡ y = eqb-true x y both.0 in
    let rest : a ≡ b = same_list_is a b both.1 in
    cc (first, rest)
same_list_is _ _ h = absurd (both_ways false refl h)

abbrev is_white_text : ℕ → Bool
is_white_text c = matches rule.whitespace_character (encode_utf8 c)

white_agrees : agree_below is_whitespace is_white_text 12289 ≡ true
unfolding lib.Utf8.encode
white_agrees = refl

white_below : (c : ℕ) → is_whitespace c ≡ true → c < 12289
white_below c h = grind (arith, nat_tests)

white_into : (c : ℕ) → is_whitespace c ≡ true → Holds rule.whitespace_character (encode_utf8 c)
white_into c h = matches_from rule.whitespace_character (encode_utf8 c) (sym (agree_below_at is_whitespace is_white_text 12289 c white_agrees (white_below c h)) ∙ h)

-- a character of whitespace with this text
abbrev HasWhite : List ℕ → Type 0
HasWhite t = (c : ℕ) × (encode_utf8 c ≡ t) × (is_whitespace c ≡ true)

-- the bytes of a set, behind two others, are those of white characters
abbrev is_white_behind : ℕ → List ℕ → Bytes → ℕ → Bool
is_white_behind base front s y = has s y && (same_list (encode_utf8 (base + y)) (front ++ (y ∷ [])) && is_whitespace (base + y))

white_behind : (base : ℕ) (front : List ℕ) (s : Bytes) (y : ℕ) → agree_below (has s) (is_white_behind base front s) 256 ≡ true → y < 256 → has s y ≡ true → HasWhite (front ++ (y ∷ []))
white_behind base front s y e small h =
    let all : is_white_behind base front s y ≡ true = sym (agree_below_at (has s) (is_white_behind base front s) 256 y e small) ∙ h in
    let more = and_parts (same_list (encode_utf8 (base + y)) (front ++ (y ∷ []))) (is_whitespace (base + y)) (and_parts (has s y) _ all).1 in
    (base + y, same_list_is (encode_utf8 (base + y)) (front ++ (y ∷ [])) more.0, more.1)

ascii_white : agree_below (has ((9, 14) ∷ ((32, 33) ∷ []))) (is_white_behind 0 [] ((9, 14) ∷ ((32, 33) ∷ []))) 256 ≡ true
unfolding lib.Utf8.encode same_list
ascii_white = refl

latin_white : agree_below (has ((133, 134) ∷ ((160, 161) ∷ []))) (is_white_behind 0 (194 ∷ []) ((133, 134) ∷ ((160, 161) ∷ []))) 256 ≡ true
unfolding lib.Utf8.encode same_list
latin_white = refl

ogham_white : agree_below (has ((128, 129) ∷ [])) (is_white_behind 5632 (225 ∷ (154 ∷ [])) ((128, 129) ∷ [])) 256 ≡ true
unfolding lib.Utf8.encode same_list
ogham_white = refl

general_white : agree_below (has ((128, 139) ∷ ((168, 170) ∷ ((175, 176) ∷ [])))) (is_white_behind 8064 (226 ∷ (128 ∷ [])) ((128, 139) ∷ ((168, 170) ∷ ((175, 176) ∷ [])))) 256 ≡ true
unfolding lib.Utf8.encode same_list
general_white = refl

mathematical_white : agree_below (has ((159, 160) ∷ [])) (is_white_behind 8128 (226 ∷ (129 ∷ [])) ((159, 160) ∷ [])) 256 ≡ true
unfolding lib.Utf8.encode same_list
mathematical_white = refl

ideographic_white : agree_below (has ((128, 129) ∷ [])) (is_white_behind 12160 (227 ∷ (128 ∷ [])) ((128, 129) ∷ [])) 256 ≡ true
unfolding lib.Utf8.encode same_list
ideographic_white = refl

set_small : (s : Bytes) (y : ℕ) → is_void (minus s bytes) ≡ true → has s y ≡ true → y < 256
set_small s y v h = elim (or_cases (leb 0 y && ltb y 256) false (within s bytes v y h)) [
  | inl k ↦ ltb-true y 256 (and_parts (leb 0 y) (ltb y 256) k).1
  | inr k ↦ absurd (both_ways false refl k)
]

white_at : (base : ℕ) (front : List ℕ) (s : Bytes) → agree_below (has s) (is_white_behind base front s) 256 ≡ true → is_void (minus s bytes) ≡ true → (t : List ℕ) → Holds (byte s) t → HasWhite (front ++ t)
white_at base front s e v t h = let is = h.1 in rw is (white_behind base front s h.0 e (set_small s h.0 v h.2) h.2)

white_from : (t : List ℕ) → Holds rule.whitespace_character t → HasWhite t
white_from t (inl h) = white_at 0 [] ((9, 14) ∷ ((32, 33) ∷ [])) ascii_white refl t h
white_from t (inr (inl h)) = let k = letter_then 194 (byte ((133, 134) ∷ ((160, 161) ∷ []))) t h in rw k.1 (white_at 0 (194 ∷ []) ((133, 134) ∷ ((160, 161) ∷ [])) latin_white refl k.0 k.2)
white_from t (inr (inr (inl h))) =
    let k = letter_then 225 (seq (letter 154) (letter 128)) t h in
    let l = letter_then 154 (letter 128) k.0 k.2 in
    rw (k.1, l.1) (white_at 5632 (225 ∷ (154 ∷ [])) ((128, 129) ∷ []) ogham_white refl l.0 l.2)
white_from t (inr (inr (inr (inl h)))) = let k = letter_then 226 rule.general_whitespace t h in rw k.1 (two k.0 k.2)
  where
    two : (s : List ℕ) → Holds rule.general_whitespace s → HasWhite (226 ∷ s)
    two s (inl h) = let l = letter_then 128 (byte ((128, 139) ∷ ((168, 170) ∷ ((175, 176) ∷ [])))) s h in rw l.1 (white_at 8064 (226 ∷ (128 ∷ [])) ((128, 139) ∷ ((168, 170) ∷ ((175, 176) ∷ []))) general_white refl l.0 l.2)
    two s (inr h) = let l = letter_then 129 (letter 159) s h in rw l.1 (white_at 8128 (226 ∷ (129 ∷ [])) ((159, 160) ∷ []) mathematical_white refl l.0 l.2)
white_from t (inr (inr (inr (inr h)))) =
    let k = letter_then 227 (seq (letter 128) (letter 128)) t h in
    let l = letter_then 128 (letter 128) k.0 k.2 in
    rw (k.1, l.1) (white_at 12160 (227 ∷ (128 ∷ [])) ((128, 129) ∷ []) ideographic_white refl l.0 l.2)

spaces_into : (cs : List ℕ) → NonePass is_not_whitespace cs → Many (Holds rule.whitespace_character) (encode_utf8_all cs)
spaces_into [] h = no_more refl
spaces_into (c ∷ cs) h = one_more (encode_utf8 c) (encode_utf8_all cs) refl (white_into c (not-false (is_whitespace c) h.0)) (spaces_into cs h.1)

spaces_from : {t : List ℕ} → Many (Holds rule.whitespace_character) t → NoCharPasses is_not_whitespace t
spaces_from (no_more e) = ([], sym e, tt)
spaces_from (one_more a b e h k) =
    let c = white_from a h in
    let rest = spaces_from k in
    (c.0 ∷ rest.0, ap (λ l. l ++ encode_utf8_all rest.0) c.1 ∙ (ap (λ l. a ++ l) rest.1 ∙ sym e), (ap not c.2, rest.2))

into : (t : List ℕ) → IsWhitespace t tt → Holds rule.whitespace t
into t h = rw (← h.1) (spaces_into h.0 h.2)

white_some : (t : List ℕ) → Holds rule.whitespace_character t → 0 < length t
white_some [] h = absurd (both_ways (nullable rule.whitespace_character) refl (nullable_into rule.whitespace_character h))
white_some (x ∷ t) h = omega arith

some_into : (t : List ℕ) → IsSomeWhitespace t tt → Holds rule.some_whitespace t
some_into t h = go t h.0 (into t h.1)
  where
    go : (t : List ℕ) → 0 < length t → Many (Holds rule.whitespace_character) t → Holds rule.some_whitespace t
    go t n (no_more e) = absurd (omega (arith, ap length e))
    go t n (one_more a b e h k) = (a, b, e, h, k)

some_from : (t : List ℕ) → Holds rule.some_whitespace t → IsSomeWhitespace t tt
some_from t h = (size t h.0 h.1 h.2 (white_some h.0 h.3), spaces_from (one_more h.0 h.1 h.2 h.3 h.4))
  where
    size : (t a b : List ℕ) → t ≡ a ++ b → 0 < length a → 0 < length t
    size t a b e h = rw e (omega (arith, length-append a b))

module _ {T : List ℕ → Type 0} where
  pub whitespace_described : Describes T IsWhitespace Any rule.whitespace
  whitespace_described = ground_described rule.whitespace refl (λ t v h. into t h) (λ t h. (tt, spaces_from h))

  pub some_whitespace_described : Describes T IsSomeWhitespace Any rule.some_whitespace
  some_whitespace_described = ground_described rule.some_whitespace refl (λ t v h. some_into t h) (λ t h. (tt, some_from t h))
