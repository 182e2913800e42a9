-- Numbers, identifiers and qualifiers: with which bytes they begin and continue, and that a text of them has one value.
use Rattle.std.proofs.Common.{◌≡◌, ◌≤◌, ℕ, Bool, true, false, List, [], ◌∷◌, ◌++◌, length, refl, sym, ap, ◌∙◌, inl, inr, ◌==◌, Bor, Option, Some, None, is_some, ◌||◌, append_assoc, leb}
use Rattle.std.specs.Char.{is_ascii_digit}
use Rattle.std.specs.List.{list_all}
use Rattle.std.specs.Str.Parse.{digits_value}
use Rattle.std.proofs.lemmas.Bool.{and_from, and_parts, eq-eqb, eqb-true, le-leb, leb-true, or_cases, or_left, or_right}
use Rattle.std.proofs.lemmas.Str.Parse.{IsNumeralModel, IsDigitsTest, numerals_by_value}
use native.Mathlib.Nat.{le_of_eq, le_of_suc-le-suc, le_refl, not-suc-le-zero, zero-lt-suc}
use Rattle.semver_base.specs.Grammar.{HasNone, IsAfter, IsLongest, IsSeen, Optional}
use Rattle.semver_base.specs.Lexical.{IsBuild, IsByte, IsIdentifier, IsIdentifiers, IsLooseNumber, IsLoosePre, IsNumber, IsPre, IsQualifier, IsStrictNumber, is_identifier_byte, or_none, qualifier_of}
use Rattle.semver_base.specs.declared.lexical.values.Qualifier.{Qualifier}
use Rattle.semver_base.specs.declared.lexical.values.Strictness.{Strictness}
use Rattle.semver_base.specs.declared.lexical.values.Strictness.TheVariants.{Loose, Strict}
use Rattle.semver_base.specs.LengthLaws.{goes_on, rest_le}
use Rattle.semver_base.specs.GrammarLaws.{Apart, NonEmpty, followed, mapped, optional_none}
use Rattle.semver_base.specs.ByteLaws.{BeginsBy, Disjoint, GoesBy, MadeOf, apart_by, begins_from_made, begins_wider, goes_from_made, joined_begins_either, joined_made, list_all-append, listed_made, made_wider, mapped_begins, mapped_goes, mapped_made, mapped_some_text, optional_begins, optional_goes, optional_made, prefixed_begins, prefixed_made, prefixed_some_text, run_made}
use Rattle.semver_base.specs.ListLaws.{IsListing, listed_some, run_begins, run_goes, run_some}
use Rattle.semver_base.specs.ValueLaws.{Unambiguous, followed_one, listed_one, mapped_one, prefixed_one, narrowed_one, optional_one, run_one}

-- ---- numbers

digits_test : IsDigitsTest (λ ds. list_all is_ascii_digit ds ≡ true)
digits_test = record {
  empty = refl;
  parts = λ c cs e. let both = and_parts (is_ascii_digit c) (list_all is_ascii_digit cs) e in let range = and_parts (leb 48 c) (leb c 57) both.0 in ((leb-true 48 c range.0, leb-true c 57 range.1), both.1);
  more = λ c cs range e. and_from (is_ascii_digit c) (list_all is_ascii_digit cs) (and_from (leb 48 c) (leb c 57) (le-leb 48 c range.0) (le-leb c 57 range.1)) e;
}

pub own : IsNumeralModel (λ ds. list_all is_ascii_digit ds ≡ true) (digits_value 10)
own = numerals_by_value (λ ds. list_all is_ascii_digit ds ≡ true) digits_test

pub strict_zero : (text rest : List ℕ) → text ≡ 48 ∷ rest → IsLongest IsStrictNumber text 0 rest
strict_zero text rest e = record {
  front = 48 ∷ [];
  text_is = e;
  stands = record { digits = record { value = 48 ∷ []; stands = record { some = zero-lt-suc 0; pass = refl; is = refl }; is = refl }; no_leading_zero = λ _. refl };
  longest = go;
}
  where
    go : (a b : List ℕ) (w : ℕ) → text ≡ a ++ b → IsStrictNumber a w → (length a ≤ 1) × (length a ≡ 1 → w ≡ 0)
    go [] b w f h = absurd (not-suc-le-zero h.digits.stands.some)
    go (y ∷ []) b w f h = (le_refl 1, λ _. let zero_byte : y ≡ 48 = cc in let v : h.digits.value ≡ 48 ∷ [] = h.digits.stands.is ∙ ap (λ z. z ∷ []) zero_byte in h.digits.is ∙ ap (digits_value 10) v)
    go (y ∷ z ∷ a) b w f h = absurd (let zero_byte : y ≡ 48 = cc in not-suc-le-zero (le_of_suc-le-suc (le_of_eq (h.no_leading_zero zero_byte))))

pub loose_begins : BeginsBy IsLooseNumber is_ascii_digit
loose_begins = mapped_begins (run_begins is_ascii_digit)

pub loose_goes : GoesBy IsLooseNumber is_ascii_digit
loose_goes = mapped_goes (run_goes is_ascii_digit)

pub loose_some : NonEmpty IsLooseNumber
loose_some = mapped_some_text (run_some is_ascii_digit)

pub number_is_loose : (s : Strictness) (a : List ℕ) (n : ℕ) → IsNumber s a n → IsLooseNumber a n
number_is_loose Loose a n h = h
number_is_loose Strict a n h = h.digits

-- no digit follows a longest loose number
pub loose_end : {text middle : List ℕ} {n : ℕ} (p : IsLongest IsLooseNumber text n middle) (y : ℕ) (rest : List ℕ) → middle ≡ y ∷ rest → is_ascii_digit y ≡ true → ⊥
loose_end {text} p y rest e k =
    let pass : list_all is_ascii_digit (p.front ++ (y ∷ [])) ≡ true = list_all-append is_ascii_digit p.front (y ∷ []) p.stands.stands.pass (rw k refl) in
    let longer : IsLooseNumber (p.front ++ (y ∷ [])) (digits_value 10 (p.front ++ (y ∷ []))) = record { value = p.front ++ (y ∷ []); stands = record { some = rest_le p.front (y ∷ []); pass = pass; is = refl }; is = refl } in
    let split : text ≡ (p.front ++ (y ∷ [])) ++ rest = p.text_is ∙ (ap (λ t. p.front ++ t) e ∙ sym (append_assoc p.front (y ∷ []) rest)) in
    goes_on p.front y [] refl (p.longest (p.front ++ (y ∷ [])) rest (digits_value 10 (p.front ++ (y ∷ []))) split longer).0

-- ---- identifiers

pub byte_longest : (m : ℕ) (text rest : List ℕ) → text ≡ m ∷ rest → IsLongest (IsByte m) text tt rest
byte_longest m text rest e = record { front = m ∷ []; text_is = e; stands = refl; longest = λ a b w f h. (le_of_eq (ap length h), λ _. refl) }

pub byte_none : (m : ℕ) (text : List ℕ) (r : Option (Bor (List ℕ))) → is_some r ≡ false → IsAfter m text r → HasNone (IsByte m) text
byte_none m text None e n = record { none = λ a b w t h. n b (cc (t, h)) }
byte_none m text (Some x) e n = absurd (cc e)

pub byte_begins : (m : ℕ) → BeginsBy (IsByte m) (λ x. x == m)
byte_begins m = record { begins = λ x b. eq-eqb x m (cc b.stands) }

pub byte_goes : (m : ℕ) → GoesBy (IsByte m) (λ x. false)
byte_goes m = record { goes = λ x b. go x b.front b.more b.short b.long }
  where
    go : (x : ℕ) (a more : List ℕ) → a ≡ m ∷ [] → a ++ (x ∷ more) ≡ m ∷ [] → false ≡ true
    go x [] more h k = cc h
    go x (y ∷ []) more h k = cc k
    go x (y ∷ z ∷ a) more h k = cc h

pub byte_some : (m : ℕ) → NonEmpty (IsByte m)
byte_some m = record { some = λ v h. cc h }

identifier_no_dot : (x : ℕ) → is_identifier_byte x ≡ true → (x == 46) ≡ true → ⊥
identifier_no_dot x h k = let dot : is_identifier_byte 46 ≡ true = rw (eqb-true x 46 k) at h in cc dot

pub identifiers_listing : IsListing IsIdentifier (IsByte 46) is_identifier_byte is_identifier_byte (λ x. x == 46) (λ x. false)
identifiers_listing = record {
  item_some = run_some is_identifier_byte;
  separator_some = byte_some 46;
  item_begins = run_begins is_identifier_byte;
  item_goes = run_goes is_identifier_byte;
  separator_begins = byte_begins 46;
  separator_goes = byte_goes 46;
  after_item = identifier_no_dot;
  after_separator = λ x h k. cc h;
}

-- ---- the bytes with which identifiers begin and continue

abbrev pub is_identifiers_byte : ℕ → Bool
is_identifiers_byte x = is_identifier_byte x || (x == 46)

pub identifiers_some : NonEmpty IsIdentifiers
identifiers_some = listed_some (run_some is_identifier_byte)

pub identifiers_made : MadeOf IsIdentifiers is_identifiers_byte
identifiers_made = listed_made (made_wider is_identifier_byte is_identifiers_byte (λ x h. or_left (is_identifier_byte x) (x == 46) h) (run_made is_identifier_byte)) (record { made = λ text v h. rw h refl })

-- ---- pre-releases, builds and qualifiers

loose_made : MadeOf IsLoosePre is_identifiers_byte
loose_made = record { made = go }
  where
    go : (text : List ℕ) (v : List (List ℕ)) → IsLoosePre text v → list_all is_identifiers_byte text ≡ true
    go [] v h = refl
    go (x ∷ rest) v h = elim h [
      | inl k ↦ and_from (is_identifiers_byte x) (list_all is_identifiers_byte rest) (rw k.0 refl) (identifiers_made.made rest v k.1)
      | inr k ↦ identifiers_made.made (x ∷ rest) v k.1
    ]

pub pre_made : (s : Strictness) → MadeOf (IsPre s) is_identifiers_byte
pre_made Loose = loose_made
pre_made Strict = prefixed_made identifiers_made 45 refl

pub pre_some : (s : Strictness) → NonEmpty (IsPre s)
pre_some Loose = record { some = λ v h. h }
pre_some Strict = record { some = λ v h. h }

plus_apart : Disjoint is_identifiers_byte (λ x. x == 43)
plus_apart x h k = let plus : is_identifiers_byte 43 ≡ true = rw (eqb-true x 43 k) at h in cc plus

pub pre_build_apart : (s : Strictness) → Apart (Optional (IsPre s)) (Optional IsBuild)
pre_build_apart s = apart_by is_identifiers_byte (λ x. x == 43) plus_apart (optional_goes (begins_from_made (pre_made s)) (goes_from_made (pre_made s))) (optional_begins (prefixed_begins 43))

pub qualifier_read : (s : Strictness) {text middle rest : List ℕ} {pre build : List (List ℕ)} → IsSeen or_none (Optional (IsPre s)) text pre middle → IsSeen or_none (Optional IsBuild) middle build rest → IsLongest (IsQualifier s) text (record { pre = pre; build = build }) rest
qualifier_read s p q =
    let both = mapped {f = qualifier_of} (followed (pre_build_apart s) p.longest q.longest) in
    rw (p.seen, q.seen) both

-- the empty text has no qualifier
no_pre : (s : Strictness) → HasNone (IsPre s) []
no_pre s = record { none = go s }
  where
    go : (s : Strictness) (a b : List ℕ) (w : List (List ℕ)) → [] ≡ a ++ b → IsPre s a w → ⊥
    go Loose [] b w e h = h
    go Strict [] b w e h = h
    go s (x ∷ a) b w e h = cc e

no_build : HasNone IsBuild []
no_build = record { none = go }
  where
    go : (a b : List ℕ) (w : List (List ℕ)) → [] ≡ a ++ b → IsBuild a w → ⊥
    go [] b w e h = h
    go (x ∷ a) b w e h = cc e

pub no_qualifier : (s : Strictness) → IsLongest (IsQualifier s) [] (record { pre = []; build = [] }) []
no_qualifier s = qualifier_read s (record { value = None; longest = optional_none (no_pre s); seen = refl }) (record { value = None; longest = optional_none no_build; seen = refl })

-- a strict qualifier doesn't begin with a digit
strict_begins : BeginsBy (IsQualifier Strict) (λ x. (x == 45) || (x == 43))
strict_begins = mapped_begins (joined_begins_either
    (optional_begins (begins_wider (λ x. x == 45) (λ x. (x == 45) || (x == 43)) (λ x h. or_left (x == 45) (x == 43) h) (prefixed_begins 45)))
    (optional_begins (begins_wider (λ x. x == 43) (λ x. (x == 45) || (x == 43)) (λ x h. or_right (x == 45) (x == 43) h) (prefixed_begins 43))))

no_strict_digit : Disjoint (λ x. (x == 45) || (x == 43)) is_ascii_digit
no_strict_digit x h k = elim (or_cases (x == 45) (x == 43) h) [
  | inl hyphen ↦ let digit : is_ascii_digit 45 ≡ true = rw (eqb-true x 45 hyphen) at k in cc digit
  | inr plus ↦ let digit : is_ascii_digit 43 ≡ true = rw (eqb-true x 43 plus) at k in cc digit
]

pub strict_no_digit : (x : ℕ) (more : List ℕ) (w : Qualifier) → IsQualifier Strict (x ∷ more) w → is_ascii_digit x ≡ true → ⊥
strict_no_digit x more w h = no_strict_digit x (strict_begins.begins x (record { more = more; value = w; stands = h }))

-- ---- each text has one value

pub loose_one : Unambiguous IsLooseNumber
loose_one = mapped_one (run_one is_ascii_digit)

pub number_one : (s : Strictness) → Unambiguous (IsNumber s)
number_one s = narrowed_one (IsNumber s) (number_is_loose s) loose_one

pub number_made : (s : Strictness) → MadeOf (IsNumber s) is_ascii_digit
number_made s = record { made = λ text n h. (mapped_made (run_made is_ascii_digit)).made text n (number_is_loose s text n h) }

pub identifiers_one : Unambiguous IsIdentifiers
identifiers_one = listed_one identifiers_listing (run_one is_identifier_byte)

pub pre_one : (s : Strictness) → Unambiguous (IsPre s)
pre_one Loose = record { one = go }
  where
    go : (text : List ℕ) (v w : List (List ℕ)) → IsLoosePre text v → IsLoosePre text w → v ≡ w
    go [] v w h k = absurd h
    go (b ∷ rest) v w (inl h) (inl k) = identifiers_one.one rest v w h.1 k.1
    go (b ∷ rest) v w (inl h) (inr k) = absurd (k.0 h.0)
    go (b ∷ rest) v w (inr h) (inl k) = absurd (h.0 k.0)
    go (b ∷ rest) v w (inr h) (inr k) = identifiers_one.one (b ∷ rest) v w h.1 k.1
pre_one Strict = prefixed_one 45 identifiers_one

pub build_one : Unambiguous IsBuild
build_one = prefixed_one 43 identifiers_one

pub qualifier_one : (s : Strictness) → Unambiguous (IsQualifier s)
qualifier_one s = mapped_one (followed_one (pre_build_apart s) (optional_one (pre_some s) (pre_one s)) (optional_one (prefixed_some_text 43) build_one))

abbrev pub is_qualifier_byte : ℕ → Bool
is_qualifier_byte x = is_identifiers_byte x || (x == 43)

pub qualifier_made : (s : Strictness) → MadeOf (IsQualifier s) is_qualifier_byte
qualifier_made s = mapped_made (joined_made
    (made_wider is_identifiers_byte is_qualifier_byte (λ x h. or_left (is_identifiers_byte x) (x == 43) h) (optional_made (pre_made s)))
    (optional_made (prefixed_made (made_wider is_identifiers_byte is_qualifier_byte (λ x h. or_left (is_identifiers_byte x) (x == 43) h) identifiers_made) 43 refl)))
