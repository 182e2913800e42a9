-- Numbers that are parsed digit by digit, and texts of three of them with dots between.
use Rattle.std.proofs.Common.{◌≡◌, ◌≤◌, ◌<◌, ◌+◌, ◌*◌, ◌-◌, ◌^◌, ℕ, zero, suc, true, false, List, [], ◌∷◌, ◌++◌, length, take, drop, get_or, Option, Some, None, refl, sym, ap, subst, ◌∙◌, arith, inl, inr, append-nil, length-append, length-drop, length-take-le, take-append-drop, slice_index, Bor, IfNone, IsUtf8}
use Rattle.std.specs.Int.{IsInRange}
use Rattle.std.specs.Char.{digit_value, is_ascii_digit}
use Rattle.std.specs.List.{list_all}
use Rattle.std.specs.Str.{IsAscii, IsCharBoundary, trim}
use Rattle.std.proofs.lemmas.Str.{IsCharBoundary-from_take, IsUtf8-from_ascii, digit_value_digit}
use Rattle.std.specs.Str.Parse.{digits_value}
use Rattle.std.proofs.lemmas.Bool.{cases_lt}
use Rattle.std.proofs.lemmas.Bool.Decides.{nat_tests}
use Rattle.std.proofs.lemmas.Int.Digits.{digits_value_more}
use Rattle.std.proofs.Math.Seq.{drop-append_seam, take-append_seam, take-length}
use Rattle.std.proofs.lemmas.List.{drop_more, get_or_append_left, nil_from_length, take_more}
use Rattle.semver_base.specs.Characters.{dot}
use Rattle.semver_base.specs.Grammar.{IsLongest, Stops}
use Rattle.semver_base.specs.Lexical.{IsLooseNumber, IsQualifier, IsStrictNumber}
use Rattle.semver_base.specs.Meaning.{release}
use Rattle.semver_base.specs.ShortTexts.{IsBareNumber, IsBareTriple, IsPairFront, IsTripleFront, LacksDottedNumber, LacksShortNumber, LacksShortTriple}
use Rattle.semver_base.specs.VersionGrammar.{version_of}
use Rattle.semver_base.specs.VersionParserSteps.{IsFittingNumber, IsReadVersion}
use Rattle.semver_base.specs.declared.lexical.values.Qualifier.{Qualifier}
use Rattle.semver_base.specs.declared.lexical.values.Strictness.TheVariants.{Loose}
use Rattle.semver_base.specs.declared.short.Numbers.{Numbers}
use Rattle.semver_base.specs.declared.version.Version.{Version}
use Rattle.semver_base.specs.ByteLaws.{joined_some_text, list_all-append}
use Rattle.semver_base.specs.GrammarLaws.{mapped, narrowed, one_front}
use Rattle.semver_base.specs.ListLaws.{run_longest, run_none}
use Rattle.semver_base.proofs.VersionReading.{IsFittingTriple, all_read, no_lead, triple_read}
use Rattle.semver_base.specs.SolidLaws.{all_ascii, ends_solid, is_solid_byte, qualifier_made, solid_all_ascii, some_text, starts_solid, trim_same}
use Rattle.semver_base.proofs.WrittenVersions.{triple_made}
use Rattle.semver_base.specs.TokenLaws.{loose_some, no_qualifier}
use Rattle.semver_base.specs.ShortLaws.{IsSolid, solid_joined}

-- ---- a number, digit by digit

digit_range : (b : ℕ) → is_ascii_digit b ≡ true → IsInRange 48 57 b
digit_range b h = grind (arith, nat_tests)

pub digit_says : (b : ℕ) → is_ascii_digit b ≡ true → digit_value b ≡ b - 48
digit_says b h = let range = digit_range b h in omega (arith, digit_value_digit b range)

pub small_digit : (bytes : List ℕ) (n : ℕ) → is_ascii_digit (get_or bytes n 0) ≡ true → get_or bytes n 0 - 48 < 10
small_digit bytes n digit = let range = digit_range (get_or bytes n 0) digit in omega (arith, range)

pub more_pass : (bytes : List ℕ) (n : ℕ) → n < length bytes → list_all is_ascii_digit (take n bytes) ≡ true → is_ascii_digit (get_or bytes n 0) ≡ true → list_all is_ascii_digit (take (n + 1) bytes) ≡ true
more_pass bytes n inside pass digit = rw (take_more bytes n 0 inside) (list_all-append is_ascii_digit (take n bytes) (get_or bytes n 0 ∷ []) pass (rw digit refl))

pub more_value : (bytes : List ℕ) (n number : ℕ) → n < length bytes → is_ascii_digit (get_or bytes n 0) ≡ true → number ≡ digits_value 10 (take n bytes) → number * 10 + (get_or bytes n 0 - 48) ≡ digits_value 10 (take (n + 1) bytes)
more_value bytes n number inside digit is = omega (arith, digits_value_more 10 bytes n inside, digit_says (get_or bytes n 0) digit, is)

stops_past : (bytes : List ℕ) (n : ℕ) → (n < length bytes → is_ascii_digit (get_or bytes n 0) ≡ false) → Stops is_ascii_digit (drop n bytes)
stops_past bytes n stops = elim (cases_lt n (length bytes)) [
  | inl inside ↦ rw (drop_more bytes n 0 inside) (stops inside)
  | inr past ↦ let nil = nil_from_length (drop n bytes) (omega (arith, length-drop n bytes)) in rw nil tt
]

-- a number without a leading zero is a strict one
strict_too : {text rest : List ℕ} {n : ℕ} → (slice_index text 0 ≡ 48 → length text ≡ length rest + 1) → IsLongest IsLooseNumber text n rest → IsLongest IsStrictNumber text n rest
strict_too {text} {rest} no_zero p = narrowed IsStrictNumber (λ a w h. h.digits) p (record { digits = p.stands; no_leading_zero = alone })
  where
    first : slice_index text 0 ≡ slice_index p.front 0
    first = ap (λ t. slice_index t 0) p.text_is ∙ get_or_append_left p.front rest 0 0 p.stands.stands.some

    alone : slice_index p.front 0 ≡ 48 → length p.front ≡ 1
    alone z = omega (arith, no_zero (first ∙ z), ap length p.text_is, length-append p.front rest)

-- the first n digits, which no digit follows, are the longest number
pub number_read : (bytes : List ℕ) (n number : ℕ) → 0 < n → (slice_index bytes 0 ≡ 48 → n ≡ 1) → n ≤ length bytes → list_all is_ascii_digit (take n bytes) ≡ true
    → (n < length bytes → is_ascii_digit (slice_index bytes n) ≡ false) → number ≡ digits_value 10 (take n bytes) → number < 2 ^ 64 → IsBareNumber bytes number (drop n bytes)
number_read bytes n number some no_zero inside pass stops is fits = record { loose = loose; strict = strict_too (λ z. omega (arith, no_zero z, length-drop n bytes)) loose; fits = fits }
  where
    loose : IsLongest IsLooseNumber bytes number (drop n bytes)
    loose = rw is (rw (take-append-drop n bytes) at (mapped {f = digits_value 10} (run_longest is_ascii_digit (take n bytes) (drop n bytes) (omega (arith, length-take-le n bytes inside)) pass (stops_past bytes n stops))))

-- ---- where the text doesn't begin with a short number

-- leading digits belong to the longest number
reaches : (bytes : List ℕ) (k : ℕ) {n : ℕ} {rest : List ℕ} → 0 < k → k ≤ length bytes → list_all is_ascii_digit (take k bytes) ≡ true → (p : IsLongest IsLooseNumber bytes n rest) → k ≤ length p.front
reaches bytes k some inside pass p =
    let size = length-take-le k bytes inside in
    let number : IsLooseNumber (take k bytes) (digits_value 10 (take k bytes)) = record { value = take k bytes; stands = record { some = omega (arith, size, some); pass = pass; is = refl }; is = refl } in
    omega (arith, size, (p.longest (take k bytes) (drop k bytes) (digits_value 10 (take k bytes)) (sym (take-append-drop k bytes)) number).0)

-- more digits don't have a lower value
grows : (bytes : List ℕ) (k m : ℕ) → m ≤ length bytes → k ≤ m → digits_value 10 (take k bytes) ≤ digits_value 10 (take m bytes)
grows bytes k zero inside within = let none : k ≡ 0 = omega arith in rw none (omega arith)
grows bytes k (suc m) inside within = elim (cases_lt k (suc m)) [
  | inl less ↦ let next : suc m ≡ m + 1 = omega arith in rw next (omega (arith, grows bytes k m (omega arith) (omega arith), digits_value_more 10 bytes m (omega arith)))
  | inr same ↦ let whole : k ≡ suc m = omega arith in rw whole (omega arith)
]

-- the value of the longest number
value_of : {bytes rest : List ℕ} {n : ℕ} (p : IsLongest IsLooseNumber bytes n rest) → n ≡ digits_value 10 (take (length p.front) bytes)
value_of {bytes} {rest} p = p.stands.is ∙ (ap (digits_value 10) p.stands.stands.is ∙ ap (digits_value 10) front_is)
  where
    front_is : p.front ≡ take (length p.front) bytes
    front_is = sym (ap (take (length p.front)) p.text_is ∙ take-append_seam p.front rest)

-- nineteen digits, and another
pub too_long : (bytes : List ℕ) (n number : ℕ) → n < length bytes → list_all is_ascii_digit (take n bytes) ≡ true → is_ascii_digit (slice_index bytes n) ≡ true → number ≡ digits_value 10 (take n bytes) → 10 ^ 18 ≤ number → LacksShortNumber bytes
too_long bytes n number inside pass digit is large m rest p short =
    let far = reaches bytes (n + 1) (omega arith) (omega arith) (more_pass bytes n inside pass digit) p.loose in
    let grown = grows bytes (n + 1) (length p.loose.front) (omega (arith, ap length p.loose.text_is, length-append p.loose.front rest)) far in
    omega (arith, more_value bytes n number inside digit is, grown, value_of p.loose, large, short)

pub no_digit : (bytes : List ℕ) → (0 < length bytes → is_ascii_digit (slice_index bytes 0) ≡ false) → LacksShortNumber bytes
no_digit bytes stops m rest p short = (run_none is_ascii_digit bytes (stops_past bytes 0 stops)).none p.loose.front rest p.loose.stands.value p.loose.text_is p.loose.stands.stands

pub zero_led : (bytes : List ℕ) (n : ℕ) → 1 < n → n ≤ length bytes → list_all is_ascii_digit (take n bytes) ≡ true → slice_index bytes 0 ≡ 48 → LacksShortNumber bytes
zero_led bytes n more inside pass zero_first m rest p short =
    let far = reaches bytes n (omega arith) inside pass p.loose in
    let same : length p.strict.front ≡ length p.loose.front = omega (arith, ap length p.strict.text_is, ap length p.loose.text_is, length-append p.strict.front rest, length-append p.loose.front rest) in
    let first : slice_index p.strict.front 0 ≡ 48 = sym (ap (λ t. slice_index t 0) p.strict.text_is ∙ get_or_append_left p.strict.front rest 0 0 p.strict.stands.digits.stands.some) ∙ zero_first in
    omega (arith, far, more, same, p.strict.stands.no_leading_zero first)

-- ---- three numbers

-- a text may be split after its ASCII prefix
cut_after : (front rest : List ℕ) → IsAscii front → IsUtf8 (front ++ rest) → IsCharBoundary (front ++ rest) (length (front ++ rest) - length rest)
cut_after front rest low utf8 =
    let place : length (front ++ rest) - length rest ≡ length front = omega (arith, length-append front rest) in
    rw place (IsCharBoundary-from_take (front ++ rest) (length front) utf8 (omega (arith, length-append front rest)) (rw (take-append_seam front rest) (IsUtf8-from_ascii front low)))

drop_after : (front rest : List ℕ) → drop (length (front ++ rest) - length rest) (front ++ rest) ≡ rest
drop_after front rest =
    let place : length (front ++ rest) - length rest ≡ length front = omega (arith, length-append front rest) in
    rw place (drop-append_seam front rest)

fits : {text rest : List ℕ} {n : ℕ} → IsBareNumber text n rest → IsFittingNumber text n rest
fits p = record { number = p.loose; fits = p.fits }

front_fits : {text rest : List ℕ} {major minor patch : ℕ} → IsTripleFront text major minor patch rest → IsFittingTriple text (major, (minor, patch)) rest
front_fits p = triple_read (fits p.major) refl (fits p.minor) refl (fits p.patch)

-- solid bytes leave nothing to trim
pub solid_trimmed : (text : List ℕ) → IsSolid text → trim text ≡ text
solid_trimmed text h = trim_same text (solid_all_ascii text h.0) (starts_solid text h.1 h.0) (ends_solid text h.1 h.0)

numbers_front : {text rest : List ℕ} {numbers : ℕ × (ℕ × ℕ)} (p : IsFittingTriple text numbers rest) → IsSolid p.triple.front
numbers_front {numbers = numbers} p = (triple_made.made p.triple.front numbers p.triple.stands, some_text (joined_some_text loose_some) p.triple.front p.triple.stands)

-- ---- versions with nothing around them

-- the version of these numbers and the qualifier that is the whole text
pub record IsQualified (numbers : Numbers) (text : List ℕ) (v : Version) : Type 0 where
  pub qualifier : Qualifier
  pub longest : IsLongest (IsQualifier Loose) text qualifier []
  pub version_is : v ≡ version_of ((numbers.major, (numbers.minor, numbers.patch)), qualifier)

-- the whole text parses to the version, and trimming leaves it unchanged
pub record IsBareVersion (text : List ℕ) (v : Version) : Type 0 where
  pub version : IsReadVersion text v
  pub trimmed : trim text ≡ text

-- three numbers and a qualifier
pub qualified_version : {text rest : List ℕ} {numbers : Numbers} {v : Version} → IsTripleFront text numbers.major numbers.minor numbers.patch rest → IsQualified numbers rest v → IsBareVersion text v
qualified_version {text} {rest} {numbers} front q =
    let triple = front_fits front in
    let qualifier = q.longest in
    let front_is : rest ≡ qualifier.front = qualifier.text_is ∙ append-nil qualifier.front in
    let behind : list_all is_solid_byte rest ≡ true = rw front_is (qualifier_made.made qualifier.front q.qualifier qualifier.stands) in
    let solid : IsSolid text = rw triple.triple.text_is (solid_joined triple.triple.front rest (numbers_front triple) behind) in
    record {
      version = rw q.version_is (all_read (no_lead triple.triple) triple qualifier refl);
      trimmed = solid_trimmed text solid;
    }

-- three numbers alone
pub short_version : {text : List ℕ} {numbers : Numbers} → IsBareTriple text numbers.major numbers.minor numbers.patch → IsBareVersion text (release numbers.major numbers.minor numbers.patch)
short_version plain = qualified_version plain (record {
  qualifier = record { pre = []; build = [] };
  longest = no_qualifier Loose;
  version_is = refl;
})

-- a text may be split where the numbers end
pub numbers_boundary : {text rest : List ℕ} {major minor patch : ℕ} → IsTripleFront text major minor patch rest → IsUtf8 text → IsCharBoundary text (length text - length rest)
numbers_boundary {text} {rest} front utf8 =
    let p = front_fits front in
    let solid = numbers_front p in
    rw p.triple.text_is (cut_after p.triple.front rest (all_ascii p.triple.front (solid_all_ascii p.triple.front solid.0)) (rw p.triple.text_is at utf8))

-- and continues with the rest
pub numbers_rest : {text rest : List ℕ} {major minor patch : ℕ} → IsTripleFront text major minor patch rest → drop (length text - length rest) text ≡ rest
numbers_rest {text} {rest} front =
    let p = (front_fits front).triple in
    rw p.text_is (drop_after p.front rest)

-- ---- one to three numbers

-- ---- fewer than three leading numbers

pub no_number : {text : List ℕ} → LacksShortNumber text → LacksShortTriple text
no_number none m n p rest t short = none m (dot ∷ t.from_minor) t.major short.0

pub one_number : {text rest : List ℕ} {k : ℕ} → IsBareNumber text k rest → LacksDottedNumber rest → LacksShortTriple text
one_number read none m n p rest t short = none t.from_minor (one_front read.loose t.major.loose).1 n (dot ∷ t.from_patch) t.minor short.1

pub two_numbers : {text rest : List ℕ} {j k : ℕ} → IsPairFront text j k rest → LacksDottedNumber rest → LacksShortTriple text
two_numbers read none m n p rest t short =
    let from_minor : t.from_minor ≡ read.from_minor = ap (drop 1) (one_front t.major.loose read.major.loose).1 in
    none t.from_patch (one_front read.minor.loose (rw from_minor at t.minor.loose)).1 p rest t.patch short.2

-- ---- a dot and a number

pub no_number_behind : (text : List ℕ) (read : Option (ℕ × Bor (List ℕ))) → IfNone read (LacksShortNumber (take (length text - 1) (drop 1 text)))
    → IfNone read (LacksDottedNumber text)
no_number_behind text None none = λ more e.
    let size : length text - 1 ≡ length more = omega (arith, ap length e) in
    subst LacksShortNumber (ap (λ n. take n (drop 1 text)) size ∙ ap (λ t. take (length more) (drop 1 t)) e ∙ take-length more) none
no_number_behind text (Some r) none = tt
