-- With which bytes the texts of requirements begin and go on, what can't follow them, and which have none in common: computed of each grammar's rule.
use Rattle.std.proofs.Common.{◌≡◌, ℕ, Bool, true, false, not, ◌||◌, ◌==◌, List, [], ◌∷◌, ◌++◌, refl, arith}
use Rattle.std.specs.Char.{is_ascii_digit}
use Rattle.std.specs.List.{list_all}
use Rattle.std.proofs.lemmas.Bool.{and_parts, both_ways, not_from_true}
use Rattle.std.proofs.lemmas.Bool.Decides.{nat_tests}
use Rattle.semver_base.specs.Comparators.{Bare, Caret, Comparator, Hyphen, OfPrimitive, Tilde}
use Rattle.semver_base.specs.Grammar.{After, Either, that, Listed, Optional, Prefixed}
use Rattle.semver_base.specs.GrammarLaws.{Apart, NonEmpty}
use Rattle.semver_base.specs.ByteLaws.{BeginsBy, Disjoint, GoesBy, MadeOf, goes_from_made}
use Rattle.semver_base.specs.Lexical.{IsByte, IsSomeWhitespace, IsWhitespace}
use Rattle.semver_base.specs.ListLaws.{IsListing}
use Rattle.semver_base.specs.ValueLaws.{Never, all_second, never_by}
use Rattle.semver_base.specs.declared.lexical.values.Strictness.TheVariants.{Loose}
use Rattle.semver_base.specs.declared.partial.Partial.{Partial}
use Rattle.semver_base.specs.declared.partial.XRange.{XRange}
use Rattle.semver_base.specs.declared.partial.XRange.TheVariants.{Wildcard, Val}
use Rattle.semver_req.specs.Comparators.{IsBare, IsComparator, IsEquals, IsIgnored, IsLed, IsOfPrimitive, IsPrimitiveKind}
use Rattle.semver_req.specs.Partials.{IsBarePartial, IsComponent, IsPartial, strictness_of}
use Rattle.semver_req.specs.Pieces.{IsCutting, IsFilled, IsHyphen, IsHyphened, IsListOperator, IsNpmSeparator, IsSeparator, IsUpper, npm, normal}
use Rattle.semver_req.specs.Written.{IsTildes}
use Rattle.semver_req.specs.declared.common.values.Flavour.{Flavour}
use Rattle.semver_req.specs.declared.common.values.Flavour.TheVariants.{Npm, Normal, Specifier}
use Rattle.semver_req.proofs.Grammars as rule
use Rattle.semver_req.proofs.GrammarTexts.{InComparator, InComponent, InPartial, IsCaretOf, IsTildeOf, bare_described, bare_partial_described, caret_described, comparator_described, component_described, equals_described, filled_described, hyphen_described, hyphened_described, ignored_described, kind_described, led_described, list_operator_described, loose_digits, operators_described, partial_described, primitive_described, separator_described, tilde_described, tildes_described, v_described}
use Rattle.semver_req.proofs.RuleFacts.{IsUnder, apart_from, begins_in, goes_in, begins_first, is_apart, is_going, goes_without, made_in, made_of_all, marked, never_both, no_common, one_mark, plain, some_by, under}
use Rattle.semver_req.proofs.RuleLaws.{made, overlap_there}
use Rattle.semver_req.proofs.RuleTexts.{Any, Describes, Each, after_described, before_described, bytes, either_described, listed_described, prefixed_described}
use Rattle.semver_req.proofs.Rules.{Bytes, Rule, all_bytes, alt, byte, firsts, has, Holds, is_void, letter, many, Many, minus, no_more, nullable, one_more, optional, overlap, seq, steps}
use Rattle.semver_req.proofs.States.{failing}
use Rattle.semver_req.proofs.WhitespaceTexts.{some_whitespace_described, whitespace_described}

-- no byte is in both
pub disjoint : (s t : Bytes) → overlap s t ≡ false → Disjoint (has s) (has t)
disjoint s t e x h k = both_ways (overlap s t) e (overlap_there s t x h k)

-- what is so for each of the three grammars
flavours : (P : Flavour → Type 0) → P Npm → P Normal → P Specifier → (f : Flavour) → P f
flavours P a b c Npm = a
flavours P a b c Normal = b
flavours P a b c Specifier = c

-- ---- rules that hold the texts of each grammar

abbrev none : List ℕ → Type 0
none t = ⊥

-- of a grammar without numbers
pub wordy : {A : List ℕ → Unit {0} → Type 0} {r : Rule} → Describes none A Any r → IsUnder A (plain r)
wordy d = under (λ t h. absurd h) d (λ v. tt)

abbrev pub Free : ℕ → Type 0
Free n = Unit {0}

free_component : (x : XRange) → InComponent Free x
free_component Wildcard = tt
free_component (Val n) = tt

pub free_partial : (p : Partial) → InPartial Free p
free_partial p = (free_component p.major, (free_component p.minor, free_component p.patch))

free_comparator : (c : Comparator) → InComparator Free c
free_comparator (Tilde p) = free_partial p
free_comparator (Caret p) = free_partial p
free_comparator (OfPrimitive kind p) = free_partial p
free_comparator (Bare p) = free_partial p
free_comparator (Hyphen p q) = (free_partial p, free_partial q)

pub free_list : (cs : List Comparator) → Each (InComparator Free) cs
free_list [] = tt
free_list (c ∷ cs) = (free_comparator c, free_list cs)

pub kind_under : IsUnder IsPrimitiveKind (plain rule.kind)
kind_under = under (λ t h. absurd h) (kind_described {T = none}) (λ v. tt)

pub ignored_under : IsUnder IsIgnored (plain rule.ignored)
ignored_under = under (λ t h. absurd h) (ignored_described {T = none}) (λ v. tt)

pub equals_under : IsUnder IsEquals (plain (many (letter 61)))
equals_under = wordy equals_described

pub whitespace_under : IsUnder IsWhitespace (plain rule.whitespace)
whitespace_under = wordy whitespace_described

some_whitespace_under : IsUnder IsSomeWhitespace (plain rule.some_whitespace)
some_whitespace_under = wordy some_whitespace_described

pub tildes_under : IsUnder IsTildes (plain rule.tildes)
tildes_under = wordy tildes_described

operator_under : IsUnder IsListOperator (plain rule.list_operator)
operator_under = wordy list_operator_described

component_under : (f : Flavour) → IsUnder (IsComponent f) (plain (rule.component f))
component_under f = under (loose_digits (strictness_of f)) (component_described Free f) free_component

pub bare_partial_under : (f : Flavour) → IsUnder (IsBarePartial f) (plain (rule.bare_partial f))
bare_partial_under f = under (loose_digits (strictness_of f)) (bare_partial_described Free f) free_partial

v_bare_under : IsUnder (Prefixed 118 (IsBarePartial Npm)) (plain (seq (letter 118) (rule.bare_partial Npm)))
v_bare_under = under (loose_digits Loose) (prefixed_described 118 (omega arith) (bare_partial_described Free Npm)) free_partial

partial_under : (f : Flavour) → IsUnder (IsPartial f) (plain (rule.partial f))
partial_under f = under (loose_digits (strictness_of f)) (partial_described Free f) free_partial

pub comparator_under : (f : Flavour) → IsUnder (IsComparator f) (plain (rule.comparator f))
comparator_under f = under (loose_digits (strictness_of f)) (comparator_described Free f) free_comparator

pub v_under : IsUnder (Optional (IsByte 118)) (plain (optional (letter 118)))
v_under = under (λ t h. absurd h) (v_described {T = none}) (λ v. tt)

led_under : IsUnder IsLed (plain rule.led)
led_under = under (loose_digits Loose) (led_described Free) free_partial

tildes_led_under : IsUnder (After IsTildes IsLed) (plain (seq rule.tildes rule.led))
tildes_led_under = under (loose_digits Loose) (after_described tildes_described (led_described Free)) free_partial

caret_led_under : IsUnder (Prefixed 94 IsLed) (plain (seq (letter 94) rule.led))
caret_led_under = under (loose_digits Loose) (prefixed_described 94 (omega arith) (led_described Free)) free_partial

spaced_under : (f : Flavour) → IsUnder (After IsWhitespace (IsPartial f)) (plain (seq rule.whitespace (rule.partial f)))
spaced_under f = under (loose_digits (strictness_of f)) (after_described whitespace_described (partial_described Free f)) free_partial

tilde_under : (f : Flavour) → IsUnder (IsTildeOf f) (plain (rule.tilde f))
tilde_under f = under (loose_digits (strictness_of f)) (tilde_described Free f) free_comparator

caret_under : (f : Flavour) → IsUnder (IsCaretOf f) (plain (rule.caret f))
caret_under f = under (loose_digits (strictness_of f)) (caret_described Free f) free_comparator

pub operators_under : (f : Flavour) → IsUnder (Either (IsTildeOf f) (IsCaretOf f)) (plain (alt (rule.tilde f) (rule.caret f)))
operators_under f = under (loose_digits (strictness_of f)) (operators_described Free f) free_comparator

primitive_under : (f : Flavour) → IsUnder (IsOfPrimitive f) (plain (rule.primitive f))
primitive_under f = under (loose_digits (strictness_of f)) (primitive_described Free f) free_comparator

bare_under : (f : Flavour) → IsUnder (IsBare f) (plain (rule.partial f))
bare_under f = under (loose_digits (strictness_of f)) (bare_described Free f) free_comparator

others_under : (f : Flavour) → IsUnder (Either (IsOfPrimitive f) (IsBare f)) (plain (alt (rule.primitive f) (rule.partial f)))
others_under f = under (loose_digits (strictness_of f)) (either_described (primitive_described Free f) (bare_described Free f)) free_comparator

operator_behind_under : IsUnder (After IsListOperator IsWhitespace) (plain (seq rule.list_operator rule.whitespace))
operator_behind_under = wordy (after_described list_operator_described whitespace_described)

separators_under : (f : Flavour) → IsUnder (IsSeparator f) (plain (rule.separator f))
separators_under Npm = wordy separator_described
separators_under Normal = some_whitespace_under
separators_under Specifier = record { into = λ t v h. absurd h }

upper_under : IsUnder IsUpper (plain rule.upper)
upper_under = under (loose_digits Loose) (before_described (partial_described Free Npm) whitespace_described) free_partial

behind_hyphen_under : IsUnder (Prefixed 45 (After IsSomeWhitespace IsUpper)) (plain (seq (letter 45) (seq rule.some_whitespace rule.upper)))
behind_hyphen_under = under (loose_digits Loose) (prefixed_described 45 (omega arith) (after_described some_whitespace_described (before_described (partial_described Free Npm) whitespace_described))) free_partial

hyphened_under : IsUnder IsHyphened (plain rule.hyphened)
hyphened_under = under (loose_digits Loose) (hyphened_described Free) free_partial

hyphen_under : IsUnder IsHyphen (plain rule.hyphen)
hyphen_under = under (loose_digits Loose) (hyphen_described Free) free_list

list_under : IsUnder (Listed (IsComparator Npm) IsNpmSeparator) (plain (rule.list Npm))
list_under = under (loose_digits Loose) (listed_described (comparator_described Free Npm) separator_described) free_list

filled_under : (f : Flavour) → IsCutting f → IsUnder (IsFilled f) (plain (rule.filled f))
filled_under f cuts = under (loose_digits (strictness_of f)) (filled_described Free f cuts) free_list

-- ---- partial versions

-- what begins a component: a digit or a wildcard
abbrev pub is_component_byte : ℕ → Bool
is_component_byte x = is_ascii_digit x || ((x == 42) || (x == 120) || (x == 88))

abbrev component_bytes : Bytes
component_bytes = (42, 43) ∷ ((48, 58) ∷ ((88, 89) ∷ ((120, 121) ∷ [])))

component_passes : (x : ℕ) → has component_bytes x ≡ true → is_component_byte x ≡ true
component_passes x h = grind (arith, nat_tests)

pub component_goes : (f : Flavour) → GoesBy (IsComponent f) is_ascii_digit
component_goes f = goes_in (component_under f) is_ascii_digit rule.digits pass (flavours (λ f. failing (is_going rule.digits) (plain (rule.component f)) ≡ []) refl refl refl f)
  where
    pass : (x : ℕ) → has rule.digits x ≡ true → is_ascii_digit x ≡ true
    pass x h = grind (arith, nat_tests)

-- those without a `v` in front
pub partial_some : (f : Flavour) → NonEmpty (IsBarePartial f)
partial_some f = some_by (bare_partial_under f) (flavours (λ f. nullable (plain (rule.bare_partial f)) ≡ false) refl refl refl f)

pub partial_begins : (f : Flavour) → BeginsBy (IsBarePartial f) is_component_byte
partial_begins f = begins_in (bare_partial_under f) is_component_byte component_bytes component_passes (flavours (λ f. is_void (minus (firsts (steps (plain (rule.bare_partial f)))) component_bytes) ≡ true) refl refl refl f)

abbrev pub is_partial_byte : ℕ → Bool
is_partial_byte x = is_component_byte x || (x == 118)

abbrev partial_bytes : Bytes
partial_bytes = (118, 119) ∷ component_bytes

partial_passes : (x : ℕ) → has partial_bytes x ≡ true → is_partial_byte x ≡ true
partial_passes x h = grind (arith, nat_tests)

pub any_begins : (f : Flavour) → BeginsBy (IsPartial f) is_partial_byte
any_begins f = begins_in (partial_under f) is_partial_byte partial_bytes partial_passes (flavours (λ f. is_void (minus (firsts (steps (plain (rule.partial f)))) partial_bytes) ≡ true) refl refl refl f)

-- with which bytes they begin
abbrev pub bare_starts : Flavour → Bytes
bare_starts f = firsts (steps (plain (rule.bare_partial f)))

abbrev v_starts : Bytes
v_starts = firsts (steps (plain (seq (letter 118) (rule.bare_partial Npm))))

-- a text with a `v` in front isn't one without
pub v_bare : Never (Prefixed 118 (IsBarePartial Npm)) (IsBarePartial Npm)
v_bare = never_by (has v_starts) (has (bare_starts Npm)) (disjoint v_starts (bare_starts Npm) refl) (some_by v_bare_under refl) (begins_first v_bare_under) (begins_first (bare_partial_under Npm))

-- ---- comparison operators

abbrev pub is_primitive_kind_byte : ℕ → Bool
is_primitive_kind_byte x = (x == 60) || (x == 61) || (x == 62)

kind_passes : (x : ℕ) → has ((60, 63) ∷ []) x ≡ true → is_primitive_kind_byte x ≡ true
kind_passes x h = grind (arith, nat_tests)

pub primitive_kind_begins : BeginsBy IsPrimitiveKind is_primitive_kind_byte
primitive_kind_begins = begins_in kind_under is_primitive_kind_byte ((60, 63) ∷ []) kind_passes refl

pub primitive_kind_some : NonEmpty IsPrimitiveKind
primitive_kind_some = some_by kind_under refl

pub primitive_kind_whitespace : Apart IsPrimitiveKind IsSomeWhitespace
primitive_kind_whitespace = apart_from kind_under some_whitespace_under refl

pub primitive_kind_apart : (f : Flavour) → Apart IsPrimitiveKind (After IsWhitespace (IsPartial f))
primitive_kind_apart f = apart_from kind_under (spaced_under f) (flavours (λ f. failing (is_apart (firsts (steps (plain (seq rule.whitespace (rule.partial f)))))) (plain rule.kind) ≡ []) refl refl refl f)

pub whitespace_apart : (f : Flavour) → Apart IsWhitespace (IsPartial f)
whitespace_apart f = apart_from whitespace_under (partial_under f) (flavours (λ f. failing (is_apart (firsts (steps (plain (rule.partial f))))) (plain rule.whitespace) ≡ []) refl refl refl f)

-- ---- comparators

pub comparator_some : (f : Flavour) → NonEmpty (IsComparator f)
comparator_some f = some_by (comparator_under f) (flavours (λ f. nullable (plain (rule.comparator f)) ≡ false) refl refl refl f)

pub any_some : (f : Flavour) → NonEmpty (IsPartial f)
any_some f = some_by (partial_under f) (flavours (λ f. nullable (plain (rule.partial f)) ≡ false) refl refl refl f)

pub tilde_caret : (f : Flavour) → Never (IsTildeOf f) (IsCaretOf f)
tilde_caret f = never_both (tilde_under f) (caret_under f) (flavours (λ f. failing one_mark (marked (plain (rule.tilde f)) (plain (rule.caret f))) ≡ []) refl refl refl f)

pub primitive_bare : (f : Flavour) → Never (IsOfPrimitive f) (IsBare f)
primitive_bare f = never_both (primitive_under f) (bare_under f) (flavours (λ f. failing one_mark (marked (plain (rule.primitive f)) (plain (rule.partial f))) ≡ []) refl refl refl f)

pub operators_others : (f : Flavour) → Never (Either (IsTildeOf f) (IsCaretOf f)) (Either (IsOfPrimitive f) (IsBare f))
operators_others f = never_both (operators_under f) (others_under f) (flavours (λ f. failing one_mark (marked (plain (alt (rule.tilde f) (rule.caret f))) (plain (alt (rule.primitive f) (rule.partial f)))) ≡ []) refl refl refl f)

pub operators_bare : (f : Flavour) → Never (Either (IsTildeOf f) (IsCaretOf f)) (IsBare f)
operators_bare f = record { both = λ t v w h k. (operators_others f).both t v w h (that k) }

pub ignored_tildes : Apart IsIgnored (After IsTildes IsLed)
ignored_tildes = apart_from ignored_under tildes_led_under refl

pub ignored_caret : Apart IsIgnored (Prefixed 94 IsLed)
ignored_caret = apart_from ignored_under caret_led_under refl

pub tildes_led : Apart IsTildes IsLed
tildes_led = apart_from tildes_under led_under refl

-- ---- lists

pub operator_some : NonEmpty IsListOperator
operator_some = some_by operator_under refl

pub operator_apart : Apart IsListOperator IsWhitespace
operator_apart = apart_from operator_under whitespace_under refl

pub whitespace_operator : Apart IsWhitespace (After IsListOperator IsWhitespace)
whitespace_operator = apart_from whitespace_under operator_behind_under refl

-- the bytes with which comparators begin, and those of separators
abbrev pub starts : Flavour → Bytes
starts f = firsts (steps (plain (rule.comparator f)))

abbrev between : Flavour → Bytes
between f = all_bytes (plain (rule.separator f))

-- those with which separators begin
abbrev separating : Flavour → Bytes
separating f = firsts (steps (plain (rule.separator f)))

-- the lists of each grammar: no comparator goes on as a separator begins
pub listing : (f : Flavour) → IsListing (IsComparator f) (IsSeparator f) (has (starts f)) (λ x. not (has (separating f) x)) (has (separating f)) (has (between f))
listing f = record {
  item_some = comparator_some f;
  separator_some = some_by (separators_under f) (flavours (λ f. nullable (plain (rule.separator f)) ≡ false) refl refl refl f);
  item_begins = begins_first (comparator_under f);
  item_goes = goes_without (comparator_under f) (separating f) (flavours (λ f. failing (is_apart (separating f)) (plain (rule.comparator f)) ≡ []) refl refl refl f);
  separator_begins = begins_first (separators_under f);
  separator_goes = goes_from_made (made_of_all (separators_under f));
  after_item = λ x h k. both_ways (not (has (separating f) x)) (not_from_true (has (separating f) x) k) h;
  after_separator = disjoint (between f) (starts f) (flavours (λ f. overlap (between f) (starts f) ≡ false) refl refl refl f);
}

-- ---- hyphen ranges

pub partial_whitespace : Apart (IsPartial Npm) IsWhitespace
partial_whitespace = apart_from (partial_under Npm) whitespace_under refl

pub whitespace_upper : Apart IsSomeWhitespace IsUpper
whitespace_upper = apart_from some_whitespace_under upper_under refl

pub whitespace_hyphen : Apart IsSomeWhitespace (Prefixed 45 (After IsSomeWhitespace IsUpper))
whitespace_hyphen = apart_from some_whitespace_under behind_hyphen_under refl

pub partial_hyphened : Apart (IsPartial Npm) IsHyphened
partial_hyphened = apart_from (partial_under Npm) hyphened_under refl

abbrev pub IsList : List ℕ → List Comparator → Type 0
IsList = Listed (IsComparator Npm) IsNpmSeparator

-- no list is a hyphen range
pub no_both : Never IsHyphen IsList
no_both = never_both hyphen_under list_under refl

abbrev second : Rule
second = seq (plain (rule.comparator Npm)) (seq (plain (rule.separator Npm)) (seq (plain (rule.comparator Npm)) (many (byte bytes))))

any_text : (t : List ℕ) → list_all (has bytes) t ≡ true → Many (Holds (byte bytes)) t
any_text [] h = no_more refl
any_text (x ∷ t) h = let both = and_parts (has bytes x) (list_all (has bytes) t) h in one_more (x ∷ []) t refl (x, refl, both.0) (any_text t both.1)

-- a hyphen range doesn't begin with two comparators
pub no_second : (a s b more : List ℕ) (c d : Comparator) (cs : List Comparator) → IsHyphen (a ++ (s ++ (b ++ more))) cs → IsComparator Npm a c → IsNpmSeparator s tt → IsComparator Npm b d → ⊥
no_second a s b more c d cs h k l m =
    let text = a ++ (s ++ (b ++ more)) in
    let it = hyphen_under.into text cs h in
    let last = all_second (has bytes) b more (all_second (has bytes) s (b ++ more) (all_second (has bytes) a (s ++ (b ++ more)) (made (plain rule.hyphen) bytes refl text it))) in
    no_common (plain rule.hyphen) second refl text it (a, s ++ (b ++ more), refl, (comparator_under Npm).into a c k, (s, b ++ more, refl, (separators_under Npm).into s tt l, (b, more, refl, (comparator_under Npm).into b d m, any_text more last)))

-- ---- alternatives

pub filled_some : (f : Flavour) → NonEmpty (IsFilled f)
filled_some Npm = some_by (filled_under Npm npm) refl
filled_some Normal = some_by (filled_under Normal normal) refl
filled_some Specifier = record { some = λ cs h. h }

pub filled_no_whitespace : (f : Flavour) → Never (IsFilled f) IsWhitespace
filled_no_whitespace Npm = never_both (filled_under Npm npm) whitespace_under refl
filled_no_whitespace Normal = never_both (filled_under Normal normal) whitespace_under refl
filled_no_whitespace Specifier = record { both = λ t cs v h k. h }

-- no alternative has a bar
abbrev pub is_no_bar : ℕ → Bool
is_no_bar b = not (b == 124)

abbrev bar_free : Bytes
bar_free = (0, 124) ∷ ((125, 256) ∷ [])

bar_free_passes : (x : ℕ) → has bar_free x ≡ true → is_no_bar x ≡ true
bar_free_passes x h = grind (arith, nat_tests)

pub whitespace_no_bar : MadeOf IsWhitespace is_no_bar
whitespace_no_bar = made_in whitespace_under is_no_bar bar_free bar_free_passes refl

pub filled_no_bar : (f : Flavour) → IsCutting f → MadeOf (IsFilled f) is_no_bar
filled_no_bar Npm npm = made_in (filled_under Npm npm) is_no_bar bar_free bar_free_passes refl
filled_no_bar Normal normal = made_in (filled_under Normal normal) is_no_bar bar_free bar_free_passes refl
filled_no_bar Specifier cuts = elim cuts [ ]

-- no whitespace goes on as an alternative begins
pub whitespace_filled : (f : Flavour) → IsCutting f → Apart IsWhitespace (IsFilled f)
whitespace_filled Npm npm = apart_from whitespace_under (filled_under Npm npm) refl
whitespace_filled Normal normal = apart_from whitespace_under (filled_under Normal normal) refl
whitespace_filled Specifier cuts = elim cuts [ ]
