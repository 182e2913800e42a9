-- Texts that neither begin nor end with whitespace, and the bytes of the tokens of versions.
use Rattle.std.proofs.Common.{◌≡◌, ◌<◌, ℕ, zero, suc, Bool, true, false, cond, List, [], ◌∷◌, ◌++◌, length, refl, sym, ap, ◌∙◌, append_assoc, ◌==◌, ◌&&◌, ◌||◌, not, leb, inl, inr, encode_utf8_all}
use Rattle.std.specs.Char.{is_ascii, is_ascii_alphanumeric, is_ascii_digit, is_ascii_graphic, is_whitespace}
use Rattle.std.specs.Int.{is_in_range}
use Rattle.std.specs.List.{list_all}
use Rattle.std.specs.Str.{IsAscii, drop_trailing_whitespace, skip_leading_whitespace, trim, trim_end, trim_start}
use Rattle.std.proofs.lemmas.Bool.{and_parts, both_ways, eqb-true, leb-true, ltb-true, not-true, or_cases}
use lib.Dec.{eqb-suc-zero}
use Prim.Native.Nat.{suc-le-suc}
use native.Mathlib.Nat.{eq-or-lt_of_le, le_of_suc-le-suc, le_trans, not-suc-le-zero, zero-lt-suc}
use Rattle.std.proofs.lemmas.List.Sums.{AllPass-from_list_all}
use Rattle.std.proofs.lemmas.Str.{chars-IsAscii, encodes-IsAscii}
use Rattle.std.proofs.lemmas.Str.Ascii.{IsAscii-from_all}
use Rattle.semver_base.specs.Lexical.{IsIdentifiers, IsLooseNumber, IsQualifier, is_identifier_byte}
use Rattle.semver_base.specs.declared.lexical.values.Strictness.TheVariants.{Loose}
use Rattle.semver_base.specs.WhitespaceLaws.{is_whitespace_byte}
use Rattle.semver_base.specs.ByteLaws.{MadeOf, joined_made, list_all-wider, made_wider, mapped_made, prefixed_made, optional_made, run_made}
use Rattle.semver_base.specs.GrammarLaws.{NonEmpty}
use Rattle.semver_base.specs.TokenLaws.{identifiers_made, is_identifiers_byte, pre_made}

-- a graphic byte of ASCII, so not whitespace, and not `|`, `@` or `/`
abbrev pub is_solid_byte : ℕ → Bool
is_solid_byte b = is_ascii_graphic b && (not (b == 124) && (not (b == 64) && not (b == 47)))

-- what passes p on each of the first n numbers passes q
abbrev implied_below : ℕ → (ℕ → Bool) → (ℕ → Bool) → Bool
implied_below zero p q = true
implied_below (suc n) p q = (not (p n) || q n) && implied_below n p q

passes : (b c : Bool) → b ≡ true → (not b || c) ≡ true → c ≡ true
passes true c h k = k
passes false c h k = cc h

implied : (n : ℕ) (p q : ℕ → Bool) → implied_below n p q ≡ true → (b : ℕ) → b < n → p b ≡ true → q b ≡ true
implied zero p q e b small h = absurd (not-suc-le-zero small)
implied (suc n) p q e b small h = elim (eq-or-lt_of_le (le_of_suc-le-suc small)) [
  | inl same ↦ let at_n : p n ≡ true = rw same at h in rw same (passes (p n) (q n) at_n (and_parts (not (p n) || q n) (implied_below n p q) e).0)
  | inr less ↦ implied n p q (and_parts (not (p n) || q n) (implied_below n p q) e).1 b less h
]

below : (high x : ℕ) → leb x high ≡ true → leb high 127 ≡ true → x < 128
below high x h k = suc-le-suc (le_trans (leb-true x high h) (leb-true high 127 k))

in_range : (low high x : ℕ) → is_in_range low high x ≡ true → leb high 127 ≡ true → x < 128
in_range low high x h k = below high x (and_parts (leb low x) (leb x high) h).1 k

digit_solid : (b : ℕ) → is_ascii_digit b ≡ true → is_solid_byte b ≡ true
digit_solid b h = implied 128 is_ascii_digit is_solid_byte refl b (in_range 48 57 b h refl) h

identifiers_small : (b : ℕ) → is_identifiers_byte b ≡ true → b < 128
identifiers_small b h = elim (or_cases (is_identifier_byte b) (b == 46) h) [
  | inl identifier ↦ elim (or_cases (is_ascii_alphanumeric b) (b == 45) identifier) [
    | inl alphanumeric ↦ elim (or_cases (is_in_range 48 57 b || is_in_range 65 90 b) (is_in_range 97 122 b) alphanumeric) [
      | inl other ↦ elim (or_cases (is_in_range 48 57 b) (is_in_range 65 90 b) other) [
        | inl digit ↦ in_range 48 57 b digit refl
        | inr upper ↦ in_range 65 90 b upper refl
      ]
      | inr lower ↦ in_range 97 122 b lower refl
    ]
    | inr hyphen ↦ rw (eqb-true b 45 hyphen) (ltb-true 45 128 refl)
  ]
  | inr dot ↦ rw (eqb-true b 46 dot) (ltb-true 46 128 refl)
]

identifiers_solid : (b : ℕ) → is_identifiers_byte b ≡ true → is_solid_byte b ≡ true
identifiers_solid b h = implied 128 is_identifiers_byte is_solid_byte refl b (identifiers_small b h) h

pub solid_small : (b : ℕ) → is_solid_byte b ≡ true → b < 128
solid_small b h = in_range 33 126 b (and_parts (is_ascii_graphic b) _ h).0 refl

pub solid_ascii : (b : ℕ) → is_solid_byte b ≡ true → is_ascii b ≡ true
solid_ascii b h = implied 128 is_solid_byte is_ascii refl b (solid_small b h) h

pub solid_no_white : (b : ℕ) → is_solid_byte b ≡ true → is_whitespace b ≡ false
solid_no_white b h = not-true (is_whitespace b) (implied 128 is_solid_byte (λ x. not (is_whitespace x)) refl b (solid_small b h) h)

pub solid_no_whitespace : (b : ℕ) → is_solid_byte b ≡ true → is_whitespace_byte b ≡ true → ⊥
solid_no_whitespace b h k = both_ways (is_whitespace_byte b) (not-true (is_whitespace_byte b) (implied 128 is_solid_byte (λ x. not (is_whitespace_byte x)) refl b (solid_small b h) h)) k

-- ---- what is made of such bytes

pub number_made : MadeOf IsLooseNumber is_solid_byte
number_made = mapped_made (made_wider is_ascii_digit is_solid_byte digit_solid (run_made is_ascii_digit))

solid_identifiers : MadeOf IsIdentifiers is_solid_byte
solid_identifiers = made_wider is_identifiers_byte is_solid_byte identifiers_solid identifiers_made

pub qualifier_made : MadeOf (IsQualifier Loose) is_solid_byte
qualifier_made = mapped_made (joined_made (optional_made (made_wider is_identifiers_byte is_solid_byte identifiers_solid (pre_made Loose))) (optional_made (prefixed_made solid_identifiers 43 refl)))

pub some_text : {V : Type 0} {A : List ℕ → V → Type 0} {v : V} → NonEmpty A → (text : List ℕ) → A text v → 0 < length text
some_text {v = v} never [] h = absurd (never.some v h)
some_text never (x ∷ text) h = zero-lt-suc (length text)

-- ---- how a text begins and ends

-- the first byte is solid
pub record StartsSolid (text : List ℕ) : Type 0 where
  pub first : ℕ
  pub rest : List ℕ
  pub text_is : text ≡ first ∷ rest
  pub solid : is_solid_byte first ≡ true

-- the last byte is solid
pub record EndsSolid (text : List ℕ) : Type 0 where
  pub front : List ℕ
  pub last : ℕ
  pub text_is : text ≡ front ++ (last ∷ [])
  pub solid : is_solid_byte last ≡ true

pub starts_before : (a b : List ℕ) → StartsSolid a → StartsSolid (a ++ b)
starts_before a b h = record { first = h.first; rest = h.rest ++ b; text_is = ap (λ t. t ++ b) h.text_is; solid = h.solid }

pub ends_after : (a b : List ℕ) → EndsSolid b → EndsSolid (a ++ b)
ends_after a b h = record { front = a ++ h.front; last = h.last; text_is = ap (λ t. a ++ t) h.text_is ∙ sym (append_assoc a h.front _); solid = h.solid }

pub starts_solid : (text : List ℕ) → 0 < length text → list_all is_solid_byte text ≡ true → StartsSolid text
starts_solid [] some h = absurd (not-suc-le-zero some)
starts_solid (x ∷ text) some h = record { first = x; rest = text; text_is = refl; solid = (and_parts _ _ h).0 }

pub ends_solid : (text : List ℕ) → 0 < length text → list_all is_solid_byte text ≡ true → EndsSolid text
ends_solid [] some h = absurd (not-suc-le-zero some)
ends_solid (x ∷ []) some h = record { front = []; last = x; text_is = refl; solid = (and_parts _ _ h).0 }
ends_solid (x ∷ y ∷ text) some h = ends_after (x ∷ []) (y ∷ text) (ends_solid (y ∷ text) (zero-lt-suc (length text)) (and_parts _ _ h).1)

-- ---- trimming

pub all_ascii : (text : List ℕ) → list_all is_ascii text ≡ true → IsAscii text
all_ascii text h = IsAscii-from_all text (λ k d l. low _ (AllPass-from_list_all is_ascii text h k d l))
  where
    low : (b : ℕ) → is_ascii b ≡ true → b < 128
    low b e = ltb-true b 128 e

skip_same : (text : List ℕ) → StartsSolid text → skip_leading_whitespace text ≡ text
skip_same text s = rw (s.text_is, solid_no_white s.first s.solid) refl

pub stays : (b c : Bool) (x : ℕ) (text : List ℕ) → c ≡ false → cond (b && c) [] (x ∷ text) ≡ x ∷ text
stays true c x text e = rw e refl
stays false c x text e = refl

some_length : (front : List ℕ) (last : ℕ) → (length (front ++ (last ∷ [])) == 0) ≡ false
some_length [] last = refl
some_length (x ∷ front) last = eqb-suc-zero (length (front ++ (last ∷ [])))

drop_same : (front : List ℕ) (last : ℕ) → is_whitespace last ≡ false → drop_trailing_whitespace (front ++ (last ∷ [])) ≡ front ++ (last ∷ [])
drop_same [] last h = rw h refl
drop_same (x ∷ front) last h =
    rw (drop_same front last h) (stays (is_whitespace x) _ x _ (some_length front last))

start_same : (text : List ℕ) → IsAscii text → StartsSolid text → trim_start text ≡ text
unfolding trim_start
start_same text a s = ap encode_utf8_all (ap skip_leading_whitespace (chars-IsAscii text a) ∙ skip_same text s) ∙ encodes-IsAscii text a

end_same : (text : List ℕ) → IsAscii text → EndsSolid text → trim_end text ≡ text
unfolding trim_end
end_same text a e =
    let whole : drop_trailing_whitespace text ≡ text = rw e.text_is (drop_same e.front e.last (solid_no_white e.last e.solid)) in
    ap encode_utf8_all (ap drop_trailing_whitespace (chars-IsAscii text a) ∙ whole) ∙ encodes-IsAscii text a

pub solid_all_ascii : (text : List ℕ) → list_all is_solid_byte text ≡ true → list_all is_ascii text ≡ true
solid_all_ascii text h = list_all-wider is_solid_byte is_ascii solid_ascii text h

-- such a text has nothing to trim
pub trim_same : (text : List ℕ) → list_all is_ascii text ≡ true → StartsSolid text → EndsSolid text → trim text ≡ text
trim_same text h s e = ap trim_end (start_same text (all_ascii text h) s) ∙ end_same text (all_ascii text h) e
