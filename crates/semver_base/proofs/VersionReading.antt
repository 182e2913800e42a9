-- How the version parser's steps give the outcome of a text, and why it is the only one.
use Rattle.std.proofs.Common.{◌≡◌, ◌≤◌, ◌<◌, ◌^◌, ℕ, Bool, true, List, [], ◌∷◌, ◌++◌, length, Option, Some, None, Result, Ok, Err, refl, sym, ap, ◌∙◌, arith, inl, inr, ◌==◌, append_assoc, append-nil, length-append, Bor, ◌||◌, ◌⊎◌, slice_index, unwrap_or, MatchResult, IsErrAnd, IfErr, MatchOption}
use Rattle.std.specs.Char.{is_ascii_digit}
use Rattle.std.specs.Str.Parse.{digits_value}
use Rattle.std.proofs.lemmas.Bool.{false_from_ne_true, or_left, or_right}
use Rattle.std.proofs.lemmas.Bool.Decides.{nat_tests}
use Rattle.std.proofs.lemmas.List.{nil_from_length}
use Rattle.semver_base.specs.Grammar.{After, Followed, HasNone, IsAfter, IsLongest, IsSeen, Joined, Mapped, Prefixed, Optional, Run, Stops}
use Rattle.semver_base.specs.Lexical.{IsWhitespace, IsByte, IsLooseNumber, IsQualifier, NoDigitFollows}
use Rattle.semver_base.specs.VersionGrammar.{AllNumbersFit, IsFirstFault, IsLead, IsNumberFault, too_large, no_dot, later, IsTriple, IsVersion, IsVersionAnswer, IsVersionOutcome, is_version, is_fault, is_outside, IsVersionRejection, LacksDot, ignored, version_failure, version_of}
use Rattle.semver_base.specs.VersionParserSteps.{IsFittingNumber, IsNumberRejection, IsReadVersion}
use Rattle.semver_base.specs.declared.failure.Rejection.{Rejection}
use Rattle.semver_base.specs.declared.failure.Rejection.TheVariants.{UnexpectedCharacter, MissingMinor, MissingPatch}
use Rattle.semver_base.specs.declared.lexical.values.Qualifier.{Qualifier}
use Rattle.semver_base.specs.declared.lexical.values.Strictness.TheVariants.{Loose}
use Rattle.semver_base.specs.declared.version.Version.{Version}
use Rattle.semver_base.specs.ValueLaws.{Unambiguous, after_one, followed_one, joined_one, mapped_one, prefixed_one}
use Rattle.semver_base.specs.GrammarLaws.{Apart, NoClash, NonEmpty, followed, followed_none_second, joined, joined_none_first, mapped, mapped_none, optional_none, optional_some, prefixed_none, prefixed_other, prefixed_some, no_clash, one_front, rest_is}
use Rattle.semver_base.specs.ByteLaws.{BeginsBy, Disjoint, GoesBy, MadeOf, apart_by, begins_from_made, begins_wider, goes_from_made, goes_wider, joined_begins, joined_begins_either, joined_goes_second, joined_made, joined_some_text, made_wider, mapped_begins, mapped_made, prefixed_begins, prefixed_goes, prefixed_made, prefixed_some_text, optional_begins, optional_goes, optional_made}
use Rattle.semver_base.specs.ListLaws.{run_longest}
use Rattle.semver_base.specs.TokenLaws.{byte_begins, byte_goes, byte_longest, byte_none, byte_some, loose_one, qualifier_one, loose_begins, loose_end, loose_goes, loose_some}
use Rattle.semver_base.specs.WhitespaceLaws.{whitespace_made, is_whitespace_byte}

-- ---- the lead

abbrev is_v : ℕ → Bool
is_v x = x == 118

whitespace_no_v : Disjoint is_whitespace_byte is_v
whitespace_no_v x h k = grind (arith, nat_tests)

whitespace_apart : Apart IsWhitespace (Optional (Prefixed 118 IsWhitespace))
whitespace_apart = apart_by is_whitespace_byte is_v whitespace_no_v (goes_from_made whitespace_made) (optional_begins (prefixed_begins 118))

abbrev is_after_equals : ℕ → Bool
is_after_equals x = is_whitespace_byte x || is_v x

equals_no_whitespace : Disjoint (λ x. x == 61) is_after_equals
equals_no_whitespace x h k = grind (arith, nat_tests)

equals_goes : GoesBy (Optional (IsByte 61)) (λ x. x == 61)
equals_goes = optional_goes (byte_begins 61) (goes_wider _ (λ x. x == 61) (λ x h. cc h) (byte_goes 61))

after_equals_begins : BeginsBy (After IsWhitespace (Optional (Prefixed 118 IsWhitespace))) is_after_equals
after_equals_begins = mapped_begins (joined_begins_either
    (begins_wider is_whitespace_byte is_after_equals (λ x h. or_left (is_whitespace_byte x) (is_v x) h) (begins_from_made whitespace_made))
    (optional_begins (begins_wider is_v is_after_equals (λ x h. or_right (is_whitespace_byte x) (is_v x) h) (prefixed_begins 118))))

equals_apart : Apart (Optional (IsByte 61)) (After IsWhitespace (Optional (Prefixed 118 IsWhitespace)))
equals_apart = apart_by (λ x. x == 61) is_after_equals equals_no_whitespace equals_goes after_equals_begins

-- an optional `=`, by the rest after one
optional_equals : (text rest : Bor (List ℕ)) (after : Option (Bor (List ℕ))) → IsAfter 61 text.now after → rest ≡ unwrap_or after text → IsSeen ignored (Optional (IsByte 61)) text.now tt rest.now
optional_equals text rest None other is = rw is (record { value = None; longest = optional_none (byte_none 61 text.now None refl other); seen = refl })
optional_equals text rest (Some more) e is = rw is (record { value = Some tt; longest = optional_some (byte_some 61) (byte_longest 61 text.now more.now e); seen = refl })

-- an optional `v` and whitespace, by the rest after one
optional_v : (text rest : Bor (List ℕ)) (after : Option (Bor (List ℕ))) → IsAfter 118 text.now after → MatchOption after (rest ≡ text) (λ more. IsLongest IsWhitespace more.now tt rest.now) → IsSeen ignored (Optional (Prefixed 118 IsWhitespace)) text.now tt rest.now
optional_v text rest None other is = rw is (record { value = None; longest = optional_none (prefixed_other other); seen = refl })
optional_v text rest (Some more) e whitespace = record { value = Some tt; longest = optional_some (prefixed_some_text 118) (prefixed_some e whitespace); seen = refl }

-- the lead, by what follows an `=` and what follows a `v`
pub lead_of : (text plain unsigned bare : Bor (List ℕ)) (equals v : Option (Bor (List ℕ))) → IsAfter 61 text.now equals → plain ≡ unwrap_or equals text → IsLongest IsWhitespace plain.now tt unsigned.now → IsAfter 118 unsigned.now v → MatchOption v (bare ≡ unsigned) (λ more. IsLongest IsWhitespace more.now tt bare.now) → IsLongest IsLead text.now tt bare.now
lead_of text plain unsigned bare equals v after_equals is whitespace after_v rest =
    let first = optional_equals text plain equals after_equals is in
    let last = optional_v unsigned bare v after_v rest in
    mapped (mapped (followed equals_apart first.longest (mapped (followed whitespace_apart whitespace last.longest))))

abbrev is_lead_byte : ℕ → Bool
is_lead_byte x = (x == 61) || is_after_equals x

lead_no_digit : Disjoint is_lead_byte is_ascii_digit
lead_no_digit x h k = grind (arith, nat_tests)

lead_made : MadeOf IsLead is_lead_byte
lead_made =
    let whitespace : MadeOf IsWhitespace is_lead_byte = made_wider is_whitespace_byte is_lead_byte (λ x h. or_right (x == 61) (is_after_equals x) (or_left (is_whitespace_byte x) (is_v x) h)) whitespace_made in
    let equals : MadeOf (IsByte 61) is_lead_byte = record { made = λ text v h. rw h refl } in
    mapped_made (mapped_made (joined_made (optional_made equals) (mapped_made (joined_made whitespace (optional_made (prefixed_made whitespace 118 refl))))))

-- ---- three numbers

digit_no_dot : Disjoint is_ascii_digit (λ x. x == 46)
digit_no_dot x h k = grind (arith, nat_tests)

number_apart : {V : Type 0} {B : List ℕ → V → Type 0} → Apart IsLooseNumber (Prefixed 46 B)
number_apart = apart_by is_ascii_digit (λ x. x == 46) digit_no_dot loose_goes (prefixed_begins 46)

triple_goes : GoesBy IsTriple is_ascii_digit
triple_goes = joined_goes_second (no_clash number_apart) (prefixed_some_text 46) (prefixed_goes 46 (joined_goes_second (no_clash number_apart) (prefixed_some_text 46) (prefixed_goes 46 loose_goes)))

triple_begins : BeginsBy IsTriple is_ascii_digit
triple_begins = joined_begins loose_some loose_begins

triple_some : NonEmpty IsTriple
triple_some = joined_some_text loose_some

abbrev IsCore : List ℕ → (ℕ × (ℕ × ℕ)) × Qualifier → Type 0
IsCore = Joined NoDigitFollows IsTriple (IsQualifier Loose)

lead_apart : Apart IsLead IsCore
lead_apart = apart_by is_lead_byte is_ascii_digit lead_no_digit (goes_from_made lead_made) (joined_begins triple_some triple_begins)

core_clash : NoClash NoDigitFollows IsTriple (IsQualifier Loose)
core_clash = record { apart = λ a m b x v u w short long h seam. seam (triple_goes.goes x (record { front = a; more = m; short_value = v; long_value = u; short = short; long = long })) }

-- no digit follows a longest number
number_stop : {text : List ℕ} {n : ℕ} (rest : List ℕ) → IsLongest IsLooseNumber text n rest → is_ascii_digit (slice_index rest 0) ≡ true → ⊥
number_stop [] p d = cc d
number_stop (y ∷ rest) p d = loose_end p y rest refl d

-- the longest three leading numbers, which fit
pub record IsFittingTriple (text : List ℕ) (v : ℕ × (ℕ × ℕ)) (rest : List ℕ) : Type 0 where
  pub triple : IsLongest IsTriple text v rest
  pub major_fits : v.0 < 2 ^ 64
  pub minor_fits : v.1.0 < 2 ^ 64
  pub patch_fits : v.1.1 < 2 ^ 64
  pub no_digit : is_ascii_digit (slice_index rest 0) ≡ true → ⊥

-- the first fault that a version's numbers may have
abbrev pub IsFaultOfNumbers : List ℕ → Rejection → Type 0
IsFaultOfNumbers = IsNumberFault (MissingMinor ∷ MissingPatch ∷ [])

-- the text doesn't begin with three numbers, and none of them has a fault of its own
pub record IsOutsideTriple (text : List ℕ) : Type 0 where
  pub no_triple : HasNone IsTriple text
  pub no_fault : (fault : Rejection) → IsFaultOfNumbers text fault → ⊥

-- why the text doesn't begin with three numbers that fit
abbrev pub IsTripleRejection : List ℕ → Rejection → Type 0
IsTripleRejection text rejection = IsFaultOfNumbers text rejection ⊎ ((rejection ≡ UnexpectedCharacter) × IsOutsideTriple text)

pub triple_read : {text first second third fourth rest : List ℕ} {m n p : ℕ} → IsFittingNumber text m first → first ≡ 46 ∷ second → IsFittingNumber second n third → third ≡ 46 ∷ fourth → IsFittingNumber fourth p rest → IsFittingTriple text (m, (n, p)) rest
triple_read {rest = rest} a dot b point c = record {
  triple = followed number_apart a.number (prefixed_some dot (followed number_apart b.number (prefixed_some point c.number)));
  major_fits = a.fits;
  minor_fits = b.fits;
  patch_fits = c.fits;
  no_digit = number_stop rest c.number;
}

-- ---- no lead

lead_of_nothing : IsLead [] tt
lead_of_nothing = record {
  value = None;
  stands = record {
    value = (None, None);
    stands = record {
      first = [];
      second = [];
      text_is = refl;
      in_first = refl;
      in_second = record {
        value = (tt, None);
        stands = record { first = []; second = []; text_is = refl; in_first = ([], refl, tt); in_second = refl; seam = tt };
        is = refl;
      };
      seam = tt;
    };
    is = refl;
  };
  is = refl;
}

-- three numbers have no lead before them
pub no_lead : {text rest : List ℕ} {numbers : ℕ × (ℕ × ℕ)} → IsLongest IsTriple text numbers rest → IsLongest IsLead text tt text
no_lead {text} {rest} {numbers} p = record { front = []; text_is = refl; stands = lead_of_nothing; longest = go }
  where
    digit : (front : List ℕ) (x : ℕ) (more : List ℕ) → x ∷ more ≡ front ++ rest → IsTriple front numbers → is_ascii_digit x ≡ true
    digit [] x more e h = absurd (triple_some.some numbers h)
    digit (y ∷ front) x more e h = let same_byte : x ≡ y = cc e in rw same_byte (triple_begins.begins y (record { more = front; value = numbers; stands = h }))

    go : (a b : List ℕ) (w : Unit {0}) → text ≡ a ++ b → IsLead a w → (length a ≤ 0) × (length a ≡ 0 → w ≡ tt)
    go [] b w e h = (omega arith, λ _. refl)
    go (x ∷ a) b w e h =
        let lead_byte = (begins_from_made lead_made).begins x (record { more = a; value = w; stands = h }) in
        absurd (lead_no_digit x lead_byte (digit p.front x (a ++ b) (sym e ∙ p.text_is) p.stands))

-- ---- faults

-- without a number there is no fault of numbers
none_no_fault : {missing : List Rejection} {text : List ℕ} {fault : Rejection} → HasNone IsLooseNumber text → IsNumberFault missing text fault → ⊥
none_no_fault none (too_large {rest = rest} {n = n} p h) = none.none p.front rest n p.text_is p.stands
none_no_fault none (no_dot {rest = rest} {n = n} p h k) = none.none p.front rest n p.text_is p.stands
none_no_fault none (later {rest = rest} {n = n} p h k) = none.none p.front (46 ∷ rest) n p.text_is p.stands

-- if a number fits and has its dot, the fault is in what follows
next_fault : {rejection fault : Rejection} {missing : List Rejection} {text rest : List ℕ} {n : ℕ} → IsLongest IsLooseNumber text n (46 ∷ rest) → n < 2 ^ 64 → IsNumberFault (rejection ∷ missing) text fault → IsNumberFault missing rest fault
next_fault p fits (too_large q large) = let same = one_front p q in absurd (omega (arith, same.0))
next_fault {rest = rest} p fits (no_dot q small lacks) = absurd (lacks rest (sym (one_front p q).1))
next_fault {fault = fault} {missing = missing} p fits (later {rest = other} q small f) =
    let same = (one_front p q).1 in
    let rests : other ≡ _ = cc same in
    rw rests at f

-- a last number that fits has no fault
last_no_fault : {fault : Rejection} {text rest : List ℕ} {n : ℕ} → IsLongest IsLooseNumber text n rest → n < 2 ^ 64 → IsNumberFault [] text fault → ⊥
last_no_fault p fits (too_large q large) = let same = one_front p q in omega (arith, same.0)

-- a number's fault is the first of all
number_fault : {missing : List Rejection} {text : List ℕ} {rejection : Rejection} → IsNumberRejection text rejection → IsNumberFault missing text rejection ⊎ ((rejection ≡ UnexpectedCharacter) × HasNone IsLooseNumber text)
number_fault (inl h) = inl (rw h.0 (too_large h.1.number h.1.large))
number_fault (inr h) = inr h

pub major_rejected : {text : List ℕ} {rejection : Rejection} → IsNumberRejection text rejection → IsTripleRejection text rejection
major_rejected {text} {rejection} h = elim (number_fault {missing = MissingMinor ∷ MissingPatch ∷ []} h) [
  | inl fault ↦ inl fault
  | inr outside ↦ inr (outside.0, record { no_triple = joined_none_first outside.1; no_fault = λ f k. none_no_fault outside.1 k })
]

pub minor_missing : {text first : List ℕ} {m : ℕ} → IsFittingNumber text m first → LacksDot first → IsTripleRejection text MissingMinor
minor_missing a lacks = inl (no_dot a.number a.fits lacks)

module _ {text second : List ℕ} {m : ℕ} (a : IsLongest IsLooseNumber text m (46 ∷ second)) (fits : m < 2 ^ 64) where
  minor_later : {rejection : Rejection} → IsNumberFault (MissingPatch ∷ []) second rejection → IsTripleRejection text rejection
  minor_later f = inl (later a fits f)

  second_outside : HasNone (Followed IsLooseNumber (Prefixed 46 IsLooseNumber)) second → ((fault : Rejection) → IsNumberFault (MissingPatch ∷ []) second fault → ⊥) → IsOutsideTriple text
  second_outside none no_fault = record {
    no_triple = followed_none_second number_apart a (prefixed_none refl none);
    no_fault = λ fault k. no_fault fault (next_fault a fits k);
  }

  minor_rejected_at : {rejection : Rejection} → IsNumberRejection second rejection → IsTripleRejection text rejection
  minor_rejected_at h = elim (number_fault {missing = MissingPatch ∷ []} h) [
    | inl fault ↦ minor_later fault
    | inr outside ↦ inr (outside.0, second_outside (joined_none_first outside.1) (λ f k. none_no_fault outside.1 k))
  ]

  module _ {fourth : List ℕ} {n : ℕ} (b : IsLongest IsLooseNumber second n (46 ∷ fourth)) (small : n < 2 ^ 64) where
    patch_rejected_at : {rejection : Rejection} → IsNumberRejection fourth rejection → IsTripleRejection text rejection
    patch_rejected_at h = elim (number_fault {missing = []} h) [
      | inl fault ↦ minor_later (later b small fault)
      | inr outside ↦ inr (outside.0, second_outside (followed_none_second number_apart b (prefixed_none refl outside.1)) (λ f k. none_no_fault outside.1 (next_fault b small k)))
    ]

pub minor_rejected : {text first second : List ℕ} {m : ℕ} {rejection : Rejection} → IsFittingNumber text m first → first ≡ 46 ∷ second → IsNumberRejection second rejection → IsTripleRejection text rejection
minor_rejected a dot h = minor_rejected_at (rw dot at a.number) a.fits h

pub patch_missing : {text first second third : List ℕ} {m n : ℕ} → IsFittingNumber text m first → first ≡ 46 ∷ second → IsFittingNumber second n third → LacksDot third → IsTripleRejection text MissingPatch
patch_missing a dot b lacks = inl (later (rw dot at a.number) a.fits (no_dot b.number b.fits lacks))

pub patch_rejected : {text first second third fourth : List ℕ} {m n : ℕ} {rejection : Rejection} → IsFittingNumber text m first → first ≡ 46 ∷ second → IsFittingNumber second n third → third ≡ 46 ∷ fourth → IsNumberRejection fourth rejection → IsTripleRejection text rejection
patch_rejected a dot b point h = patch_rejected_at (rw dot at a.number) a.fits (rw point at b.number) b.fits h

-- ---- no version has a fault

-- digits that no digit follows are the longest number
digits_longest : {text d rest : List ℕ} {n : ℕ} → IsLooseNumber d n → text ≡ d ++ rest → Stops is_ascii_digit rest → IsLongest IsLooseNumber text n rest
digits_longest {text} {d} {rest} {n} h e stops =
    let whole : IsLongest (Mapped (digits_value 10) (Run is_ascii_digit)) (d ++ rest) (digits_value 10 d) rest = mapped (run_longest is_ascii_digit d rest h.stands.some h.stands.pass stops) in
    let value : n ≡ digits_value 10 d = h.is ∙ ap (digits_value 10) h.stands.is in
    rw (e, value) whole

stops_at : (rest : List ℕ) → (is_ascii_digit (slice_index rest 0) ≡ true → ⊥) → Stops is_ascii_digit rest
stops_at [] no_digit = tt
stops_at (y ∷ rest) no_digit = false_from_ne_true (is_ascii_digit y) no_digit

-- three numbers that fit, each as long as possible, have no fault
triple_no_fault : (front rest : List ℕ) (v : ℕ × (ℕ × ℕ)) {text : List ℕ} {fault : Rejection} → IsTriple front v → text ≡ front ++ rest → v.0 < 2 ^ 64 → v.1.0 < 2 ^ 64 → v.1.1 < 2 ^ 64 → (is_ascii_digit (slice_index rest 0) ≡ true → ⊥) → IsFaultOfNumbers text fault → ⊥
triple_no_fault front rest v {text} {fault} h e major minor patch no_digit f = at_second h.second h.in_second (e ∙ ap (λ t. t ++ rest) h.text_is ∙ append_assoc h.first h.second rest)
  where
    at_fourth : (fourth : List ℕ) (second : List ℕ) (j : Followed IsLooseNumber (Prefixed 46 IsLooseNumber) second v.1) → Prefixed 46 IsLooseNumber fourth v.1.1 → text ≡ h.first ++ (46 ∷ (j.first ++ (fourth ++ rest))) → ⊥
    at_fourth [] second j k split = k
    at_fourth (x ∷ fourth) second j k split =
        let dot : text ≡ h.first ++ (46 ∷ (j.first ++ (46 ∷ (fourth ++ rest)))) = rw k.0 at split in
        let one = digits_longest h.in_first dot refl in
        let two = digits_longest {text = j.first ++ (46 ∷ (fourth ++ rest))} j.in_first refl refl in
        let three = digits_longest {text = fourth ++ rest} k.1 refl (stops_at rest no_digit) in
        last_no_fault three patch (next_fault two minor (next_fault one major f))

    at_second : (second : List ℕ) → Prefixed 46 (Followed IsLooseNumber (Prefixed 46 IsLooseNumber)) second v.1 → text ≡ h.first ++ (second ++ rest) → ⊥
    at_second [] k split = k
    at_second (x ∷ second) k split =
        let j = k.1 in
        let dot : text ≡ h.first ++ (46 ∷ (second ++ rest)) = rw k.0 at split in
        let inner : second ++ rest ≡ j.first ++ (j.second ++ rest) = ap (λ t. t ++ rest) j.text_is ∙ append_assoc j.first j.second rest in
        at_fourth j.second second j j.in_second (rw inner at dot)

pub fitting_no_fault : {text rest : List ℕ} {v : ℕ × (ℕ × ℕ)} {fault : Rejection} → IsFittingTriple text v rest → IsFaultOfNumbers text fault → ⊥
fitting_no_fault {rest = rest} {v = v} h f = triple_no_fault h.triple.front rest v h.triple.stands h.triple.text_is h.major_fits h.minor_fits h.patch_fits h.no_digit f

core_some : NonEmpty IsCore
core_some = joined_some_text triple_some

version_no_fault : {text : List ℕ} {v : Version} {fault : Rejection} → IsVersion text v → AllNumbersFit v → IsFirstFault text fault → ⊥
version_no_fault {text} {v} {fault} h all_fit f =
    let lead = h.stands.stands in
    let core = lead.in_second in
    let value : v ≡ version_of h.stands.value.1 = h.is ∙ ap version_of h.stands.is in
    let fit : AllNumbersFit (version_of h.stands.value.1) = rw (← value) all_fit in
    let rests : lead.second ≡ f.rest = rest_is lead_apart core_some f.lead lead.first lead.second h.stands.value.0 h.stands.value.1 lead.text_is lead.in_first core in
    triple_no_fault core.first core.second h.stands.value.1.0 core.in_first (sym rests ∙ core.text_is) fit.major fit.minor fit.patch core.seam f.fault_of_rest

-- ---- outcomes

whole : (text : List ℕ) → text ≡ text ++ []
whole text = sym (append-nil text)

-- a version is the value of the longest prefix
one_version : {text : List ℕ} {v w : Version} → IsLongest IsVersion text v [] → IsVersion text w → w ≡ v
one_version {text} {v} {w} p h =
    let size = ap length p.text_is ∙ ap length (append-nil p.front) in
    (p.longest text [] w (whole text) h).1 size

-- two first faults of one text are the same
one_number_fault : {missing : List Rejection} {text : List ℕ} {a b : Rejection} → IsNumberFault missing text a → IsNumberFault missing text b → a ≡ b
one_number_fault (too_large p h) (too_large q k) = refl
one_number_fault (too_large p h) (no_dot q k l) = let same = one_front p q in absurd (omega (arith, same.0))
one_number_fault (too_large p h) (later q k f) = let same = one_front p q in absurd (omega (arith, same.0))
one_number_fault (no_dot p h l) (too_large q k) = let same = one_front p q in absurd (omega (arith, same.0))
one_number_fault (no_dot p h l) (no_dot q k m) = refl
one_number_fault (no_dot p h l) (later {rest = rest} q k f) = absurd (l rest (one_front p q).1)
one_number_fault (later p h f) (too_large q k) = let same = one_front p q in absurd (omega (arith, same.0))
one_number_fault (later {rest = rest} p h f) (no_dot q k m) = absurd (m rest (sym (one_front p q).1))
one_number_fault (later {rest = rest} p h f) (later {rest = other} q k g) =
    let same = (one_front p q).1 in
    let rests : rest ≡ other = cc same in
    one_number_fault (rw rests at f) g

one_fault : {text : List ℕ} {a b : Rejection} → IsFirstFault text a → IsFirstFault text b → a ≡ b
one_fault f g = let same = (one_front f.lead g.lead).1 in one_number_fault (rw same at f.fault_of_rest) g.fault_of_rest

-- a text whose outcome is an error has no other outcome
one_rejection : {text : List ℕ} {fault : Rejection} {o : Result Version Rejection} → IsVersionOutcome text (Err fault) → IsVersionOutcome text o → o ≡ Err fault
one_rejection (is_fault f) (is_version k small) = absurd (version_no_fault k small f)
one_rejection (is_fault f) (is_fault g) = ap Err (one_fault g f)
one_rejection (is_fault {fault} f) (is_outside none no_fault) = absurd (no_fault fault f)
one_rejection (is_outside none no_fault) (is_version {v} k small) = absurd (none v k)
one_rejection (is_outside none no_fault) (is_fault {fault} g) = absurd (no_fault fault g)
one_rejection (is_outside none no_fault) (is_outside other no_other) = refl

-- a text is at most one version
version_one : Unambiguous IsVersion
version_one = mapped_one (after_one lead_apart (joined_one core_clash (followed_one number_apart loose_one (prefixed_one 46 (followed_one number_apart loose_one (prefixed_one 46 loose_one)))) (qualifier_one Loose)))

pub one_outcome : (text : List ℕ) (o p : Result Version Rejection) → IsVersionOutcome text o → IsVersionOutcome text p → o ≡ p
one_outcome text (Ok v) (Ok w) (is_version h small) (is_version k _) = ap Ok (version_one.one text v w h k)
one_outcome text (Err fault) (Ok w) h k = sym (one_rejection h k)
one_outcome text o (Err fault) h k = one_rejection k h

-- ---- results

pub read_outcome : {text : List ℕ} {v : Version} → IsReadVersion text v → IsVersionOutcome text (Ok v)
read_outcome {text} {v} h =
    let all : h.longest.front ≡ text = sym (h.longest.text_is ∙ append-nil h.longest.front) in
    is_version (rw all at h.longest.stands) h.fits

pub read_answer : {E : Type 0} (source : E → Option (List ℕ × Option (List ℕ))) (text : List ℕ) (v : Version) → IsReadVersion text v → (o : Result Version Rejection) → IsVersionOutcome text o → IsVersionAnswer source text o (Ok v)
read_answer source text v h (Ok w) (is_version k small) = sym (one_version h.longest k)
read_answer source text v h (Err fault) (is_fault f) = absurd (no_fault_read (read_outcome h) f)
  where
    no_fault_read : IsVersionOutcome text (Ok v) → IsFirstFault text fault → ⊥
    no_fault_read (is_version k small) f = version_no_fault k small f
read_answer source text v h (Err fault) (is_outside none no_fault) = absurd (no_version_read (read_outcome h))
  where
    no_version_read : IsVersionOutcome text (Ok v) → ⊥
    no_version_read (is_version k small) = none v k

pub rejected_answer : {E : Type 0} (source : E → Option (List ℕ × Option (List ℕ))) (text : List ℕ) (e : E) → IsVersionRejection text (source e) → (o : Result Version Rejection) → IsVersionOutcome text o → IsVersionAnswer source text o (Err e)
rejected_answer source text e (inl memory) (Ok w) k = memory
rejected_answer source text e (inl memory) (Err fault) k = inl memory
rejected_answer source text e (inr h) (Ok w) k = let same = one_rejection h.1 k in cc same
rejected_answer source text e (inr h) (Err fault) k = let same : fault ≡ h.0 = cc (one_rejection h.1 k) in inr (rw same h.2)

-- ---- what the steps return

-- what `map_err` made an error from
pub mapped_error : {T E D : Type 0} (P : E → D → Type 0) (Q : E → Type 0) {made : D} (r : Result T E) (s : Result T D) → MatchResult r (λ x. s ≡ Ok x) (λ e. IsErrAnd s (P e)) → s ≡ Err made → IfErr r Q → (e : E) × Q e × P e made
mapped_error P Q (Ok x) s cases is h = cc (cases, is)
mapped_error P Q (Err e) s cases is h = (e, h, rw is at cases)

-- a failure of a text with this outcome
pub shown_rejection : {text : List ℕ} {fault : Rejection} {failure : Option (List ℕ × Option (List ℕ))} → IsVersionOutcome text (Err fault) → (failure ≡ None) ⊎ (failure ≡ version_failure fault text) → IsVersionRejection text failure
shown_rejection h (inl memory) = inl memory
shown_rejection {fault = fault} h (inr shown) = inr (fault, h, shown)

pub triple_outcome : {text rest : List ℕ} {fault : Rejection} → IsLongest IsLead text tt rest → IsTripleRejection rest fault → IsVersionOutcome text (Err fault)
triple_outcome {rest = rest} lead (inl f) = is_fault (record { rest = rest; lead = lead; fault_of_rest = f })
triple_outcome {text} {rest} lead (inr outside) = rw outside.0 (is_outside no_version no_fault)
  where
    none : HasNone IsVersion text
    none = mapped_none (mapped_none (followed_none_second lead_apart lead (joined_none_first outside.1.no_triple)))

    no_version : (v : Version) → IsVersion text v → ⊥
    no_version v h = none.none text [] v (whole text) h

    no_fault : (fault : Rejection) → IsFirstFault text fault → ⊥
    no_fault fault f = let same = (one_front f.lead lead).1 in outside.1.no_fault fault (rw same at f.fault_of_rest)

-- what the lead, the numbers and the qualifier are of the whole
pub version_read : {text first second rest : List ℕ} {numbers : ℕ × (ℕ × ℕ)} {q : Qualifier} → IsLongest IsLead text tt first → IsFittingTriple first numbers second → IsLongest (IsQualifier Loose) second q rest → IsLongest IsVersion text (version_of (numbers, q)) rest
version_read {second = second} {rest = rest} lead triple q = mapped (mapped (followed lead_apart lead (joined core_clash triple.triple q (seam q.front q.text_is))))
  where
    seam : (front : List ℕ) → second ≡ front ++ rest → is_ascii_digit (slice_index front 0) ≡ true → ⊥
    seam [] e d = cc d
    seam (y ∷ front) e d = triple.no_digit (rw e d)

pub left_over : {text first second rest : List ℕ} {numbers : ℕ × (ℕ × ℕ)} {q : Qualifier} → IsLongest IsLead text tt first → IsFittingTriple first numbers second → IsLongest (IsQualifier Loose) second q rest → 0 < length rest → IsVersionOutcome text (Err UnexpectedCharacter)
left_over {text} {rest = rest} lead triple q more = is_outside no_version no_fault
  where
    no_version : (v : Version) → IsVersion text v → ⊥
    no_version v h =
        let p = version_read lead triple q in
        omega (arith, (p.longest text [] v (whole text) h).0, ap length p.text_is, length-append p.front rest, more)

    no_fault : (fault : Rejection) → IsFirstFault text fault → ⊥
    no_fault fault f = let same = (one_front f.lead lead).1 in fitting_no_fault triple (rw same at f.fault_of_rest)

pub all_read : {text first second rest : List ℕ} {numbers : ℕ × (ℕ × ℕ)} {q : Qualifier} → IsLongest IsLead text tt first → IsFittingTriple first numbers second → IsLongest (IsQualifier Loose) second q rest → length rest ≡ 0 → IsReadVersion text (version_of (numbers, q))
all_read {rest = rest} lead triple q empty = record {
  longest = let nil = nil_from_length rest empty in rw nil at (version_read lead triple q);
  fits = record { major = triple.major_fits; minor = triple.minor_fits; patch = triple.patch_fits };
}
