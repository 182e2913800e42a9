-- What the grammars make of plain texts.
use Rattle.std.proofs.Common.{◌≡◌, ◌≢◌, ◌<◌, ◌^◌, ◌==◌, ℕ, zero, suc, Bool, true, false, List, [], ◌∷◌, ◌++◌, length, Option, Some, None, refl, sym, subst, ap, ◌∙◌, arith, inl, inr, append-nil, append_assoc, length-append, lt-ltb, Bor, ◌+◌, ◌||◌, IfSome, MatchOption, if◌then◌else◌, nat_lt, unwrap_or, nat_cmp, Greater, Less}
use Rattle.std.specs.Char.{is_ascii_digit}
use Rattle.std.specs.List.{list_all}
use Rattle.std.specs.Str.{trim}
use Rattle.std.proofs.lemmas.Bool.Decides.{nat_tests}
use Rattle.std.proofs.lemmas.List.{nil_from_length}
use Rattle.std.proofs.lemmas.Str.Pattern.{IsSplitOnceResult, split_parts}
use Rattle.std.specs.Cmp.{nat_cmp_is}
use Rattle.semver_base.specs.Clamp.{clamped, clamped_start}
use Rattle.semver_base.specs.Comparators.{Comparator, Hyphen, OfPrimitive, comparator_line, comparator_range, greater, less, primitive_kind_text, primitive_line}
use Rattle.semver_base.specs.Grammar.{this, that, HasNone, IsLongest, IsSeen, closed_item, last_item, more_items}
use Rattle.semver_base.specs.Meaning.{bound_at, everything, from, release}
use Rattle.semver_base.specs.Overlap.{ends_at_zero}
use Rattle.semver_base.specs.Lexical.{IsWhitespace, IsLooseNumber, IsNumber, IsQualifier}
use Rattle.semver_base.specs.PartialTable.{IsLineRange, Line, all_fit, between, greater_than, less_than, lower_to_below, number_fits, of_numbers, of_short, qualified_range, release_bound, release_of, release_range, with_qualifier}
use Rattle.semver_base.specs.Precedence.{precedence_cmp}
use Rattle.semver_base.specs.ShortTexts.{IsShortFront, IsBareNumber, IsTripleFront}
use Rattle.semver_base.specs.declared.lexical.values.Measured.TheVariants.{Fits}
use Rattle.semver_base.specs.declared.lexical.values.Qualifier.{Qualifier}
use Rattle.semver_base.specs.declared.partial.XRange.TheVariants.{Val, Wildcard}
use Rattle.semver_base.specs.declared.partial.Partial.{Partial}
use Rattle.semver_base.specs.declared.partial.numbers.ReleaseBound.{ReleaseBound}
use Rattle.semver_base.specs.declared.partial.PrimitiveKind.{PrimitiveKind}
use Rattle.semver_base.specs.declared.partial.PrimitiveKind.TheVariants.{GreaterThan, LessThan, GreaterThanOrEqual, LessThanOrEqual, Equal}
use Rattle.semver_base.specs.declared.short.ShortNumbers.{ShortNumbers}
use Rattle.semver_base.specs.declared.short.ShortNumbers.TheVariants as short_numbers
use Rattle.semver_base.specs.declared.short.Numbers.{Numbers}
use Rattle.semver_base.specs.declared.range.RangeBound.{RangeBound}
use Rattle.semver_base.specs.declared.range.RangeBound.TheVariants as bound
use Rattle.semver_base.specs.declared.range.VersionBoundKind.{VersionBoundKind}
use Rattle.semver_base.specs.declared.range.VersionBoundKind.TheVariants as kind
use Rattle.semver_base.specs.declared.range.VersionRange.{VersionRange}
use Rattle.semver_base.specs.declared.version.Version.{Version}
use Rattle.semver_base.specs.ByteLaws.{list_all-append, list_all-wider}
use Rattle.semver_base.specs.SolidLaws.{ends_solid, is_solid_byte, qualifier_made, solid_all_ascii, starts_solid, trim_same}
use Rattle.semver_base.specs.TokenLaws.{loose_begins, loose_some, no_qualifier}
use Rattle.semver_base.specs.WrittenLaws.{after}
use Rattle.semver_base.specs.ShortLaws.{short_solid, IsSolid}
use Rattle.semver_req.specs.Comparators.{IsComparator, numbers}
use Rattle.semver_req.specs.RetainedSet.{retained, retained_range, without_none}
use Rattle.semver_req.specs.Outcome.{one_good, Ranges}
use Rattle.semver_req.specs.Partials.{IsComponent, IsPartial, IsBarePartial, is_wildcard, partial_fits, sized_component, sized_partial, strictness_of}
use Rattle.semver_req.specs.Pieces.{HasNoBar, IsCutting, IsFilled, IsHyphenPair, IsUpper, normal, npm, one_piece}
use Rattle.semver_req.specs.PieceReading.{as_retained, numbers_fit, sums_fit}
use Rattle.semver_req.specs.PieceSteps.{IsAdded, IsWholeRead}
use Rattle.semver_req.specs.ShortComparators.{IsAfterGap, AreWildcards, IsFewer, IsGap, IsQualifiedComparator, IsShortEnd, IsShortHyphen, IsShortPartial, IsShortPiece, IsShortComparator, IsShortStart, IsStarOrQualified, IsUnclosed, IsWildcardFront, is_qualified, is_star, no_wildcard, one_wildcard, two_wildcards}
use Rattle.semver_req.specs.Single.{IsSingle, is_range}
use Rattle.semver_req.specs.Written.{IsFront, IsOperatorCut, IsNonPrimitive, comparator_of}
use Rattle.semver_req.specs.declared.common.comparator.Operator.{Operator}
use Rattle.semver_req.specs.declared.common.comparator.Operator.TheVariants as operator
use Rattle.semver_req.specs.declared.specifier.Single.TheVariants.{Range}
use Rattle.semver_req.specs.declared.common.values.Flavour.{Flavour}
use Rattle.semver_req.specs.declared.common.values.Flavour.TheVariants.{Npm, Normal, Specifier}
use Rattle.semver_req.specs.declared.range_set_or_tag.pieces.Alternatives.{Alternatives}
use Rattle.semver_req.specs.declared.range_set_or_tag.pieces.RangeOrInvalid.{RangeOrInvalid}
use Rattle.semver_req.specs.declared.range_set_or_tag.pieces.RangeOrInvalid.TheVariants as read
use Rattle.semver_req.specs.declared.range_set_or_tag.RangeSetOrTag.{RangeSetOrTag}
use Rattle.semver_req.specs.declared.range_set_or_tag.RangeSetOrTag.TheVariants as inner
use Rattle.semver_req.specs.Parsers.{IsCutReading, IsReading}
use Rattle.semver_req.proofs.GrammarFacts.{is_no_bar}
use Rattle.semver_req.proofs.Components.{component_read, component_wildcard, wildcard_no_digit}
use Rattle.semver_req.proofs.Fitting.{comparator_all, fitting, numbers_all, whole_front}
use Rattle.semver_req.proofs.Folding.{upper_ends}
use Rattle.semver_req.proofs.Joining.{fitting_partial}
use Rattle.semver_req.proofs.Operators.{non_primitive_some}
use Rattle.semver_req.proofs.GrammarParts.{IsDotted, at_dot, no_whitespace, non_primitive, plain_dot, with_primitive}
use Rattle.semver_req.proofs.Partials.{not_led, one_read, three_read, two_read}
use Rattle.semver_req.proofs.PiecesRead.{filled_read, reported_same}
use Rattle.semver_req.proofs.SpecifierRetained.{kind_non_primitive, non_primitive_ends, non_primitive_retained}
use Rattle.semver_req.proofs.Stabilizing.{less_stays}
use Rattle.semver_req.proofs.SpecifierRanges.{range_reading}
use Rattle.semver_req.proofs.Star.{star_alternatives, star_any}
use Rattle.semver_req.proofs.Wider.{pieces_wider}
use Rattle.semver_req.proofs.WrittenSets.{no_bar, one_whitespace}

-- ---- numbers

first_digit : {text rest : List ℕ} {n : ℕ} → IsLongest IsLooseNumber text n rest → (b : ℕ) (more : List ℕ) → text ≡ b ∷ more → is_ascii_digit b ≡ true
first_digit {text} {rest} {n} p b more e = go p.front (sym e ∙ p.text_is) p.stands
  where
    go : (front : List ℕ) → b ∷ more ≡ front ++ rest → IsLooseNumber front n → is_ascii_digit b ≡ true
    go [] split h = absurd (loose_some.some n h)
    go (x ∷ front) split h = let same_byte : b ≡ x = cc split in rw same_byte (loose_begins.begins x (record { more = front; value = n; stands = h }))

by_flavour : (f : Flavour) {text rest : List ℕ} {n : ℕ} → IsBareNumber text n rest → IsLongest (IsNumber (strictness_of f)) text n rest
by_flavour Npm p = p.loose
by_flavour Normal p = p.loose
by_flavour Specifier p = p.strict

pub number_seen : (f : Flavour) {text rest : List ℕ} {n : ℕ} → IsBareNumber text n rest → IsSeen sized_component (IsComponent f) text (Fits (Val n)) rest
number_seen f {text} {rest} {n} p = component_read f text (λ b more wild e. wildcard_no_digit f b wild (first_digit p.loose b more e)) rest (Fits n) (record {
  value = n;
  longest = by_flavour f p;
  seen = rw (lt-ltb n (2 ^ 64) p.fits) refl;
})

-- ---- partial versions

-- three numbers, and a qualifier
pub numbers_seen : (f : Flavour) {text rest end : List ℕ} {m n p : ℕ} {q : Qualifier} → IsTripleFront text m n p rest → IsLongest (IsQualifier (strictness_of f)) rest q end
    → IsSeen sized_partial (IsBarePartial f) text (Fits (record { major = Val m; minor = Val n; patch = Val p; pre = q.pre; build = q.build })) end
numbers_seen f t qualifier = three_read f (number_seen f t.major) (plain_dot f) refl (number_seen f t.minor) (plain_dot f) refl (number_seen f t.patch) qualifier

-- nothing continues with a dot
nothing_more : {V : Type 0} (A : List ℕ → V → Type 0) (f : Flavour) → HasNone (IsDotted f A) []
nothing_more A f = record { none = λ a b w e h. cc (e ∙ ap (λ t. t ++ b) (at_dot A f a w h).text_is) }

-- a wildcard
wild_seen : (f : Flavour) (b : ℕ) (rest : List ℕ) → is_wildcard f b ≡ true → IsSeen sized_component (IsComponent f) (b ∷ rest) (Fits Wildcard) rest
wild_seen f b rest wild = record { value = Wildcard; longest = component_wildcard f b (b ∷ rest) rest wild refl; seen = refl }

nothing : (rest : List ℕ) → true ≡ (length rest == 0) → rest ≡ []
nothing rest is = nil_from_length rest (grind (arith, nat_tests))

pub none_behind : {f : Flavour} {n : ShortNumbers} (rest : List ℕ) → true ≡ (length rest == 0) → AreWildcards f n rest
none_behind rest is = rw (nothing rest is) no_wildcard

pub one_behind : {f : Flavour} {n : ShortNumbers} {text : List ℕ} (rest : List ℕ) → IsWildcardFront f text rest → true ≡ (length rest == 0) → IsFewer n → AreWildcards f n text
one_behind rest first is fewer = rw (first.text_is, nothing rest is) (one_wildcard first.wildcard fewer first.is_wildcard)

pub two_behind : {f : Flavour} {m : ℕ} {text : List ℕ} (more rest : List ℕ) → IsWildcardFront f text more → IsWildcardFront f more rest → true ≡ (length rest == 0) → AreWildcards f (short_numbers.One m) text
two_behind more rest first second is = rw (first.text_is, second.text_is, nothing rest is) (two_wildcards first.wildcard second.wildcard first.is_wildcard second.is_wildcard)

-- numbers, and wildcards behind them
front_seen : (f : Flavour) {text rest : List ℕ} (n : ShortNumbers) → IsShortFront text n rest → AreWildcards f n rest → IsSeen sized_partial (IsBarePartial f) text (Fits (of_short n)) []
front_seen f (short_numbers.One m) p no_wildcard = one_read f (number_seen f p) (nothing_more _ f)
front_seen f (short_numbers.Two m n) p no_wildcard = two_read f (number_seen f p.major) (plain_dot f) refl (number_seen f p.minor) (nothing_more _ f)
front_seen f (short_numbers.Three n) t no_wildcard = numbers_seen f t (no_qualifier (strictness_of f))
front_seen f (short_numbers.One m) p (one_wildcard b fewer wild) = two_read f (number_seen f p) (plain_dot f) refl (wild_seen f b [] wild) (nothing_more _ f)
front_seen f (short_numbers.Two m n) p (one_wildcard b fewer wild) = three_read f (number_seen f p.major) (plain_dot f) refl (number_seen f p.minor) (plain_dot f) refl (wild_seen f b [] wild) (no_qualifier (strictness_of f))
front_seen f (short_numbers.Three n) t (one_wildcard b fewer wild) = absurd fewer
front_seen f (short_numbers.One m) p (two_wildcards b c wild last) =
    three_read f (number_seen f p) (plain_dot f) refl (wild_seen f b (46 ∷ c ∷ []) wild) (plain_dot f) refl (wild_seen f c [] last) (no_qualifier (strictness_of f))

partial_seen : (f : Flavour) {text : List ℕ} (n : ShortNumbers) → IsShortPartial f text n → IsSeen sized_partial (IsBarePartial f) text (Fits (of_short n)) []
partial_seen f n p = front_seen f n p.front p.wildcards

-- it begins with a digit, so not with a `v`
short_begins : {text : List ℕ} (n : ShortNumbers) (rest : List ℕ) → IsShortFront text n rest → (b : ℕ) (more : List ℕ) → text ≡ b ∷ more → is_ascii_digit b ≡ true
short_begins (short_numbers.One m) rest p = first_digit p.loose
short_begins (short_numbers.Two m n) rest p = first_digit p.major.loose
short_begins (short_numbers.Three n) rest t = first_digit t.major.loose

as_partial : (f : Flavour) {text : List ℕ} {p : Partial} → ((b : ℕ) (more : List ℕ) → text ≡ b ∷ more → is_ascii_digit b ≡ true) → IsSeen sized_partial (IsBarePartial f) text (Fits p) []
    → IsSeen sized_partial (IsPartial f) text (Fits p) []
as_partial Npm {text} {p} begins seen = not_led text (Some (Fits p, [])) (λ rest e. cc (begins 118 rest e)) seen
as_partial Normal begins seen = seen
as_partial Specifier begins seen = seen

short_seen : (f : Flavour) {text : List ℕ} (n : ShortNumbers) → IsShortPartial f text n → IsSeen sized_partial (IsPartial f) text (Fits (of_short n)) []
short_seen f n p = as_partial f (short_begins n p.rest p.front) (partial_seen f n p)

-- ---- comparators

pub short_front : (f : Flavour) {text : List ℕ} {range : VersionRange} (p : IsShortComparator f text range) → IsFront (IsNonPrimitive f) text (record { operator = p.operator; partial = Fits (of_short p.numbers) }) []
short_front f p = non_primitive_some f p.operator p.cut (short_seen f p.numbers p.short_partial)

pub short_single : (f : Flavour) {text : List ℕ} {range : VersionRange} → IsShortComparator f text range → IsSingle f text (Range range)
short_single f p = let front = fitting (short_front f p) in rw p.line.is (is_range front.longest front.numbers_fit p.line.fits)

-- ---- three numbers with a qualifier

-- the range from a version to below a release
lower_qualified : (q : Qualifier) (n : Numbers) (end : Version) (sums : List ℕ) {range : VersionRange} → IsLineRange (lower_to_below (of_numbers n) end sums) range
    → IsLineRange (lower_to_below (with_qualifier q n) end sums) (qualified_range q range)
lower_qualified q n end sums h = record { is = ap (qualified_range q) h.is; fits = h.fits }

-- `^`, by whether the first two numbers are above 0
caret_qualified : (b c : Bool) (q : Qualifier) (n : Numbers) (x y z : Version) (sx sy sz : List ℕ) {range : VersionRange}
    → IsLineRange (if b then lower_to_below (of_numbers n) x sx else if c then lower_to_below (of_numbers n) y sy else lower_to_below (of_numbers n) z sz) range
    → IsLineRange (if b then lower_to_below (with_qualifier q n) x sx else if c then lower_to_below (with_qualifier q n) y sy else lower_to_below (with_qualifier q n) z sz) (qualified_range q range)
caret_qualified true c q n x y z sx sy sz h = lower_qualified q n x sx h
caret_qualified false true q n x y z sx sy sz h = lower_qualified q n y sy h
caret_qualified false false q n x y z sx sy sz h = lower_qualified q n z sz h

pub qualified_line : (m : Operator) (q : Qualifier) (n : Numbers) (text rest : List ℕ) {range : VersionRange} → IsOperatorCut text m rest → IsLineRange (comparator_line (comparator_of m (of_numbers n))) range
    → IsLineRange (comparator_line (comparator_of m (with_qualifier q n))) (qualified_range q range)
qualified_line operator.Tilde q n text rest cut h = lower_qualified q n (release n.major (n.minor + 1) 0) ((n.minor + 1) ∷ []) h
qualified_line operator.Caret q n text rest cut h =
    caret_qualified (nat_lt 0 n.major) (nat_lt 0 n.minor) q n (release (n.major + 1) 0 0) (release 0 (n.minor + 1) 0) (release 0 0 (n.patch + 1)) ((n.major + 1) ∷ []) ((n.minor + 1) ∷ []) ((n.patch + 1) ∷ []) h
qualified_line (operator.Primitive kind) q n text rest cut h = absurd cut
qualified_line operator.Absent q n text rest cut h = record { is = ap (qualified_range q) h.is; fits = h.fits }

module _ (f : Flavour) {text : List ℕ} {range : VersionRange} (p : IsQualifiedComparator f text range) where
  qualified_seen : IsSeen sized_partial (IsPartial f) p.rest (Fits (with_qualifier p.qualifier p.numbers)) []
  qualified_seen = as_partial f (short_begins (short_numbers.Three p.numbers) p.behind p.front) (numbers_seen f p.front p.longest)

  qualified_single : IsSingle f text (Range range)
  qualified_single = let front = fitting (non_primitive_some f p.operator p.cut qualified_seen) in rw p.line.is (is_range front.longest front.numbers_fit p.line.fits)

-- ---- pieces

space_alone : IsWhitespace (32 ∷ []) tt
space_alone = one_whitespace.1

alone : (f : Flavour) → IsCutting f → (text : List ℕ) (c : Comparator) → IsComparator f text c → IsFilled f text (c ∷ [])
alone f npm text c h = that (last_item h)
alone f normal text c h = last_item h

alone_closed : (f : Flavour) → IsCutting f → (text : List ℕ) (c : Comparator) → IsComparator f text c → IsFilled f (text ++ 32 ∷ []) (c ∷ [])
alone_closed f npm text c h = that (closed_item h (that one_whitespace))
alone_closed f normal text c h = closed_item h one_whitespace

wild_solid : (f : Flavour) (b : ℕ) → is_wildcard f b ≡ true → is_solid_byte b ≡ true
wild_solid Npm b h = grind (arith, nat_tests)
wild_solid Normal b h = grind (arith, nat_tests)
wild_solid Specifier b h = grind (arith, nat_tests)

wildcards_solid : (f : Flavour) {n : ShortNumbers} {rest : List ℕ} → AreWildcards f n rest → list_all is_solid_byte rest ≡ true
wildcards_solid f no_wildcard = refl
wildcards_solid f (one_wildcard b fewer wild) = rw (wild_solid f b wild) refl
wildcards_solid f (two_wildcards b c wild last) = rw (wild_solid f b wild, wild_solid f c last) refl

partial_solid : (f : Flavour) (text : List ℕ) (n : ShortNumbers) → IsShortPartial f text n → IsSolid text
partial_solid f text n p = short_solid text n p.rest p.front (wildcards_solid f p.wildcards)

qualifier_solid : {f : Flavour} → IsCutting f → {text : List ℕ} {q : Qualifier} → IsQualifier (strictness_of f) text q → list_all is_solid_byte text ≡ true
qualifier_solid npm {text} {q} h = qualifier_made.made text q h
qualifier_solid normal {text} {q} h = qualifier_made.made text q h

solid_by : (m : Operator) (text rest : List ℕ) → IsOperatorCut text m rest → IsSolid rest → IsSolid text
solid_by operator.Tilde text rest e h = rw e (h.0, omega arith)
solid_by operator.Caret text rest e h = rw e (h.0, omega arith)
solid_by (operator.Primitive kind) text rest e h = absurd e
solid_by operator.Absent text rest e h = rw e.0 at h

text_solid : (f : Flavour) {text : List ℕ} {range : VersionRange} → IsShortComparator f text range → IsSolid text
text_solid f {text} p = solid_by p.operator text p.rest p.cut (partial_solid f p.rest p.numbers p.short_partial)

-- such a text has no whitespace to trim
pub untrimmed : (f : Flavour) {text : List ℕ} {range : VersionRange} → IsShortComparator f text range → trim text ≡ text
untrimmed f {text} p =
    let solid = text_solid f p in
    trim_same text (solid_all_ascii text solid.0) (starts_solid text solid.1 solid.0) (ends_solid text solid.1 solid.0)

qualified_solid : (f : Flavour) → IsCutting f → {text : List ℕ} {range : VersionRange} → IsQualifiedComparator f text range → IsSolid text
qualified_solid f cuts {text} p = solid_by p.operator text p.rest p.cut (short_solid p.rest (short_numbers.Three p.numbers) p.behind p.front (qualifier_solid cuts (whole_front p.longest)))

-- ---- what is kept

-- comparators that fit, with their range
all_retained : (cs : List Comparator) (range : VersionRange) → list_all numbers_fit cs ≡ true → list_all sums_fit cs ≡ true → range ≡ retained_range cs → read.Range range ≡ as_retained cs
all_retained cs range numbers sums is = rw (numbers, sums, is) refl

-- ---- texts with spaces inside

abbrev is_plain_byte : ℕ → Bool
is_plain_byte b = is_solid_byte b || (b == 32)

solid_plain : (b : ℕ) → is_solid_byte b ≡ true → is_plain_byte b ≡ true
solid_plain b h = rw h refl

plain_no_bar : (b : ℕ) → is_plain_byte b ≡ true → is_no_bar b ≡ true
plain_no_bar b h = grind (arith, nat_tests)

record IsSpaced (text : List ℕ) : Type 0 where
  bytes : list_all is_plain_byte text ≡ true

unspaced : {text : List ℕ} → IsSolid text → IsSpaced text
unspaced {text} h = record { bytes = list_all-wider is_solid_byte is_plain_byte solid_plain text h.0 }

spaced : {front back : List ℕ} → IsSpaced front → IsSpaced back → IsSpaced (front ++ 32 ∷ back)
spaced {front} {back} h k = record { bytes = list_all-append is_plain_byte front (32 ∷ back) h.bytes k.bytes }

without_bar : {text : List ℕ} → IsSpaced text → HasNoBar text
without_bar {text} h = no_bar text (list_all-wider is_plain_byte is_no_bar plain_no_bar text h.bytes)

-- ---- comparators without a comparison operator, as pieces

single_piece : (f : Flavour) → IsCutting f → (text : List ℕ) {range : VersionRange} → IsSolid text → IsSingle f text (Range range) → IsShortPiece f text range
single_piece f cuts text solid (is_range {c} longest numbers sums) =
    let stands = whole_front longest in
    let kind = kind_non_primitive f text c stands in
    record {
      first = c;
      others = [];
      filled = alone f cuts text c (non_primitive f cuts text c stands);
      closed = alone_closed f cuts text c (non_primitive f cuts text c stands);
      is = all_retained (c ∷ []) (comparator_range c) (rw numbers refl) (rw sums refl) (sym (non_primitive_retained c kind));
      is_kept = non_primitive_ends c kind;
      no_bar = without_bar (unspaced solid);
    }

pub comparator_piece : (f : Flavour) → IsCutting f → {text : List ℕ} {range : VersionRange} → IsShortComparator f text range → IsShortPiece f text range
comparator_piece f cuts {text} p = single_piece f cuts text (text_solid f p) (short_single f p)

qualified_piece : (f : Flavour) → IsCutting f → {text : List ℕ} {range : VersionRange} → IsQualifiedComparator f text range → IsShortPiece f text range
qualified_piece f cuts {text} p = single_piece f cuts text (qualified_solid f cuts p) (qualified_single f p)

-- ---- comparisons, as pieces

-- numbers as a partial version, whose components fit
short_whole : (f : Flavour) {text : List ℕ} (n : ShortNumbers) → IsShortPartial f text n → IsPartial f text (of_short n) × (partial_fits (of_short n) ≡ true)
short_whole f {text} n h =
    let seen = short_seen f n h in
    let both = fitting_partial seen.value seen.seen in
    (subst (IsPartial f text) both.0 (whole_front seen.longest), ap partial_fits (sym both.0) ∙ both.1)

abbrev comparison : PrimitiveKind → ShortNumbers → Comparator
comparison kind n = OfPrimitive kind (of_short n)

-- a comparison of the normalized grammar
record IsComparison (text : List ℕ) (kind : PrimitiveKind) (n : ShortNumbers) : Type 0 where
  stands : IsComparator Normal text (comparison kind n)
  numbers : numbers_fit (comparison kind n) ≡ true
  spaced : IsSpaced text

kind_solid : (kind : PrimitiveKind) → IsSolid (primitive_kind_text kind)
kind_solid GreaterThan = (refl, omega arith)
kind_solid LessThan = (refl, omega arith)
kind_solid GreaterThanOrEqual = (refl, omega arith)
kind_solid LessThanOrEqual = (refl, omega arith)
kind_solid Equal = (refl, omega arith)

joined_solid : (front back : List ℕ) → IsSolid front → IsSolid back → IsSolid (front ++ back)
joined_solid front back h k = (list_all-append is_solid_byte front back h.0 k.0, omega (arith, h.1, length-append front back))

-- an operator and a partial version with an optional space between them
gap_spaced : (front gap back : List ℕ) → IsGap gap → IsSolid front → IsSolid back → IsSpaced (front ++ (gap ++ back))
gap_spaced front gap back (inl e) h k = rw e (unspaced (joined_solid front back h k))
gap_spaced front gap back (inr e) h k = rw e (spaced (unspaced h) (unspaced k))

gap_whitespace : (gap : List ℕ) → IsGap gap → IsWhitespace gap tt
gap_whitespace gap (inl e) = rw e no_whitespace
gap_whitespace gap (inr e) = rw e space_alone

compares : (kind : PrimitiveKind) {text : List ℕ} (gap rest : List ℕ) (n : ShortNumbers) → IsGap gap → text ≡ primitive_kind_text kind ++ (gap ++ rest) → IsShortPartial Normal rest n → IsComparison text kind n
compares kind {text} gap rest n is_gap e h = record {
  stands = rw e (with_primitive Normal normal kind gap rest (of_short n) (gap_whitespace gap is_gap) whole.0);
  numbers = comparator_all (operator.Primitive kind) (of_short n) ∙ whole.1;
  spaced = rw e (gap_spaced (primitive_kind_text kind) gap rest is_gap (kind_solid kind) (partial_solid Normal rest n h));
}
  where
    whole : IsPartial Normal rest (of_short n) × (partial_fits (of_short n) ≡ true)
    whole = short_whole Normal n h

starts : {text : List ℕ} {start : RangeBound} (p : IsShortStart text start) → IsComparison text (greater p.kind) p.numbers
starts p = compares (greater p.kind) p.gap p.rest p.numbers p.is_gap p.text_is p.short_partial

ends : {text : List ℕ} {end : RangeBound} (p : IsShortEnd text end) → IsComparison text (less p.kind) p.numbers
ends p = compares (less p.kind) p.gap p.rest p.numbers p.is_gap p.text_is p.short_partial

greater_line : (k : VersionBoundKind) (p : Partial) → primitive_line (greater k) p ≡ greater_than k p
greater_line kind.Inclusive p = refl
greater_line kind.Exclusive p = refl

less_line : (k : VersionBoundKind) (p : Partial) → primitive_line (less k) p ≡ less_than k p
less_line kind.Inclusive p = refl
less_line kind.Exclusive p = refl

abbrev start_comparator : {text : List ℕ} {start : RangeBound} → IsShortStart text start → Comparator
start_comparator p = comparison (greater p.kind) p.numbers

abbrev end_comparator : {text : List ℕ} {end : RangeBound} → IsShortEnd text end → Comparator
end_comparator p = comparison (less p.kind) p.numbers

module _ {text : List ℕ} {start : RangeBound} (p : IsShortStart text start) where
  start_is : comparator_range (start_comparator p) ≡ between start bound.Unbounded
  start_is = ap (λ (l : Line). l.range) (greater_line p.kind (of_short p.numbers)) ∙ sym p.line.is

  start_fits : sums_fit (start_comparator p) ≡ true
  start_fits = ap (λ (l : Line). all_fit l.sums) (greater_line p.kind (of_short p.numbers)) ∙ p.line.fits

module _ {text : List ℕ} {end : RangeBound} (p : IsShortEnd text end) where
  end_is : comparator_range (end_comparator p) ≡ between (from (release 0 0 0)) end
  end_is = ap (λ (l : Line). l.range) (less_line p.kind (of_short p.numbers)) ∙ sym p.line.is

  end_fits : sums_fit (end_comparator p) ≡ true
  end_fits = ap (λ (l : Line). all_fit l.sums) (less_line p.kind (of_short p.numbers)) ∙ p.line.fits

number_above : (n : ℕ) → nat_cmp (suc n) 0 ≡ Greater
number_above n = sym (nat_cmp_is (suc n) 0 Greater (omega arith))

-- a start at a release is at least 0.0.0
from_lowest : (k : VersionBoundKind) (m n p : ℕ) → clamped_start (bound_at k (release m n p)) (from (release 0 0 0)) ≡ bound_at k (release m n p)
from_lowest k (suc m) n p = rw (number_above m) refl
from_lowest k zero (suc n) p = rw (number_above n) refl
from_lowest k zero zero (suc p) = rw (number_above p) refl
from_lowest kind.Inclusive zero zero zero = refl
from_lowest kind.Exclusive zero zero zero = refl

not_zero : (n : ℕ) → (suc n == 0) ≡ false
not_zero n = grind (arith, nat_tests)

-- an end above a release isn't 0.0.0
above_zero : (k : VersionBoundKind) (a b c m n p : ℕ) → precedence_cmp (release a b c) (release m n p) ≡ Less → ends_at_zero (bound_at k (release m n p)) ≡ false
above_zero kind.Inclusive a b c m n p h = refl
above_zero kind.Exclusive a b c (suc m) n p h = rw (not_zero m) refl
above_zero kind.Exclusive a b c zero (suc n) p h = rw (not_zero n) refl
above_zero kind.Exclusive a b c zero zero (suc p) h = rw (not_zero p) refl
above_zero kind.Exclusive (suc a) b c zero zero zero h = cc (rw (number_above a) at h)
above_zero kind.Exclusive zero (suc b) c zero zero zero h = cc (rw (number_above b) at h)
above_zero kind.Exclusive zero zero (suc c) zero zero zero h = cc (rw (number_above c) at h)
above_zero kind.Exclusive zero zero zero zero zero zero h = cc h

-- the range of a start and an end above it
bounded : (k l : VersionBoundKind) (s e : Numbers) → precedence_cmp (release_of s) (release_of e) ≡ Less
    → clamped (clamped everything (between (bound_at k (release_of s)) bound.Unbounded)) (between (from (release 0 0 0)) (bound_at l (release_of e))) ≡ between (bound_at k (release_of s)) (bound_at l (release_of e))
bounded k l s e below = rw (from_lowest k s.major s.minor s.patch, below) refl

-- one start
pub start_piece : {text : List ℕ} {start : ReleaseBound} → IsShortStart text (release_bound start) → IsShortPiece Normal text (release_range (record { start = start; end = None }))
start_piece {text} {start} p =
    let c = starts p in
    record {
      first = start_comparator p;
      others = [];
      filled = last_item c.stands;
      closed = closed_item c.stands one_whitespace;
      is = all_retained (start_comparator p ∷ []) (between (release_bound start) bound.Unbounded) (rw c.numbers refl) (rw (start_fits p) refl) (rw (start_is p) refl);
      is_kept = refl;
      no_bar = without_bar c.spaced;
    }

-- a `<` or `<=`, maybe a space, and numbers
pub short_end : (k : VersionBoundKind) {text behind rest : List ℕ} {numbers : ShortNumbers} {end : RangeBound} → text ≡ primitive_kind_text (less k) ++ behind → IsAfterGap behind rest
    → IsShortPartial Normal rest numbers → IsLineRange (less_than k (of_short numbers)) (between (from (release 0 0 0)) end) → IsShortEnd text end
short_end k {text} {behind} {rest} {numbers} text_is gap partial line = record {
  kind = k;
  rest = rest;
  numbers = numbers;
  gap = gap.0;
  is_gap = gap.1;
  text_is = text_is ∙ ap (λ t. primitive_kind_text (less k) ++ t) gap.2;
  short_partial = partial;
  line = line;
}

-- one end
pub end_piece : {text : List ℕ} {zero end : ReleaseBound} → IsShortEnd text (release_bound end) → from (release 0 0 0) ≡ release_bound zero → precedence_cmp (release_of zero.numbers) (release_of end.numbers) ≡ Less
    → IsShortPiece Normal text (release_range (record { start = zero; end = Some end }))
end_piece {text} {zero} {end} p at_zero below =
    let c = ends p in
    record {
      first = end_comparator p;
      others = [];
      filled = last_item c.stands;
      closed = closed_item c.stands one_whitespace;
      is = all_retained (end_comparator p ∷ []) (between (release_bound zero) (release_bound end)) (rw c.numbers refl) (rw (end_fits p) refl)
          (sym (less_stays zero.kind end.kind (release_of zero.numbers) (release_of end.numbers) below)
          ∙ (ap (λ (b : RangeBound). clamped everything (between b (release_bound end))) (sym at_zero) ∙ ap (clamped everything) (sym (end_is p))));
      is_kept = above_zero end.kind zero.numbers.major zero.numbers.minor zero.numbers.patch end.numbers.major end.numbers.minor end.numbers.patch below;
      no_bar = without_bar c.spaced;
    }

-- a start and an end
pub pair_piece : {text front back : List ℕ} {start end : ReleaseBound} → text ≡ front ++ 32 ∷ back → IsShortStart front (release_bound start) → IsShortEnd back (release_bound end)
    → precedence_cmp (release_of start.numbers) (release_of end.numbers) ≡ Less → IsShortPiece Normal text (release_range (record { start = start; end = Some end }))
pair_piece {text} {front} {back} {start} {end} e p q below =
    let c = starts p in
    let d = ends q in
    record {
      first = start_comparator p;
      others = end_comparator q ∷ [];
      filled = rw e (more_items c.stands one_whitespace (last_item d.stands));
      closed = rw (e, append_assoc front (32 ∷ back) (32 ∷ [])) (more_items c.stands one_whitespace (closed_item d.stands one_whitespace));
      is = all_retained (start_comparator p ∷ end_comparator q ∷ []) (between (release_bound start) (release_bound end)) (rw (c.numbers, d.numbers) refl) (rw (start_fits p, end_fits q) refl)
          (rw (start_is p, end_is q) (sym (bounded start.kind end.kind start.numbers end.numbers below)));
      is_kept = above_zero end.kind start.numbers.major start.numbers.minor start.numbers.patch end.numbers.major end.numbers.minor end.numbers.patch below;
      no_bar = rw e (without_bar (spaced c.spaced d.spaced));
    }

pub behind_nothing : (front : List ℕ) {back : List ℕ} {range : VersionRange} → true ≡ (length front == 0) → IsShortPiece Normal (60 ∷ back) range → IsShortPiece Normal (front ++ 60 ∷ back) range
behind_nothing front is h = rw (nothing front is) h

-- a piece of the normalized grammar is one of npm's
pub piece_wider : (f : Flavour) → IsCutting f → {text : List ℕ} {range : VersionRange} → IsShortPiece Normal text range → IsShortPiece f text range
piece_wider f npm {text} p = record {
  first = p.first;
  others = p.others;
  filled = pieces_wider text (p.first ∷ p.others) p.filled;
  closed = pieces_wider (text ++ 32 ∷ []) (p.first ∷ p.others) p.closed;
  is = p.is;
  is_kept = p.is_kept;
  no_bar = p.no_bar;
}
piece_wider f normal p = p

-- a text at its first byte of one kind
pub parts_at : (b : ℕ) → b < 128 → (text : List ℕ) (r : Option (Bor (List ℕ) × Bor (List ℕ))) → IsSplitOnceResult b text r → IfSome r (λ p. text ≡ p.0.now ++ b ∷ p.1.now)
parts_at b ascii text None h = tt
parts_at b ascii text (Some p) h = (split_parts b text (Some p) h ascii).0

-- ---- hyphen ranges of few numbers

upper_text : {back end : List ℕ} {p : Partial} → IsPartial Npm back p → IsWhitespace end tt → IsUpper (back ++ end) p
upper_text {back} {end} {p} h blank = record { value = (p, tt); stands = record { first = back; second = end; text_is = refl; in_first = h; in_second = blank; seam = tt }; is = refl }

hyphen_pair : {front back end : List ℕ} {p q : Partial} → IsPartial Npm front p → IsPartial Npm back q → IsWhitespace end tt → IsHyphenPair (front ++ (32 ∷ 45 ∷ 32 ∷ (back ++ end))) (p, q)
hyphen_pair {front} {back} {end} h k blank = record {
  first = front;
  second = 32 ∷ 45 ∷ 32 ∷ (back ++ end);
  text_is = refl;
  in_first = h;
  in_second = after (32 ∷ []) (45 ∷ 32 ∷ (back ++ end)) tt one_whitespace (refl, after (32 ∷ []) (back ++ end) tt one_whitespace (upper_text k blank));
  seam = tt;
}

both_fit : (p q : Partial) → partial_fits p ≡ true → partial_fits q ≡ true → numbers_fit (Hyphen p q) ≡ true
both_fit p q h k = list_all-append number_fits (numbers p) (numbers q) (numbers_all p ∙ h) (numbers_all q ∙ k)

-- as a piece
pub hyphen_piece : {text front back : List ℕ} {range : VersionRange} → text ≡ front ++ (32 ∷ 45 ∷ 32 ∷ back) → IsShortHyphen front back range → IsShortPiece Npm text range
hyphen_piece {text} {front} {back} {range} e p = record {
  first = c;
  others = [];
  filled = rw e (this (record { value = pair; stands = rw (append-nil back) at (hyphen_pair a.0 b.0 no_whitespace); is = refl }));
  closed = rw (e, append_assoc front (32 ∷ 45 ∷ 32 ∷ back) (32 ∷ [])) (this (record { value = pair; stands = hyphen_pair a.0 b.0 space_alone; is = refl }));
  is = all_retained (c ∷ []) range (rw (both_fit (of_short p.lower) (of_short p.upper) a.1 b.1) refl) (rw p.line.fits refl) p.line.is;
  is_kept = rw p.line.is (upper_ends q q.major q.minor q.patch);
  no_bar = rw e (without_bar whole);
}
  where
    q : Partial
    q = of_short p.upper

    pair : Partial × Partial
    pair = (of_short p.lower, q)

    c : Comparator
    c = Hyphen (of_short p.lower) q

    a : IsPartial Npm front (of_short p.lower) × (partial_fits (of_short p.lower) ≡ true)
    a = short_whole Npm p.lower p.in_front

    whole : IsSpaced (front ++ 32 ∷ 45 ∷ 32 ∷ back)
    whole = spaced (unspaced (partial_solid Npm front p.lower p.in_front)) (spaced {front = 45 ∷ []} (unspaced (refl, omega arith)) (unspaced (partial_solid Npm back p.upper p.in_back)))

    b : IsPartial Npm back q × (partial_fits q ≡ true)
    b = short_whole Npm p.upper p.in_back

-- ---- what a short piece parses to

-- alone, or with a space behind it
pub unclosed : (piece shorter : Bor (List ℕ)) (r : Option (Bor (List ℕ))) → MatchOption r ((front : List ℕ) → piece.now ≢ front ++ (32 ∷ [])) (λ x. piece.now ≡ x.now ++ (32 ∷ [])) → shorter ≡ unwrap_or r piece → IsUnclosed piece.now shorter.now
unclosed piece shorter None h is = inl (ap (λ (t : Bor (List ℕ)). t.now) (sym is))
unclosed piece shorter (Some front) h is = inr (rw is h)

pub piece_filled : {f : Flavour} {piece shorter : List ℕ} {range : VersionRange} {answer : RangeOrInvalid} → IsUnclosed piece shorter → IsShortPiece f shorter range → answer ≡ read.Range range → IsWholeRead (IsFilled f) piece (Some answer)
piece_filled (inl e) p answered = (p.first ∷ p.others, rw e p.filled, answered ∙ p.is)
piece_filled (inr e) p answered = (p.first ∷ p.others, rw e p.closed, answered ∙ p.is)

-- what is added for it
pub piece_added : {f : Flavour} {followed : Bool} {piece shorter : List ℕ} {found range : VersionRange} {old new : Alternatives} → IsUnclosed piece shorter → IsShortPiece f shorter range → found ≡ range
    → new.ranges ≡ old.ranges ++ found ∷ [] → new.rejected ≡ old.rejected → new.is_only ≡ old.is_only → IsAdded f followed piece old new
piece_added {f} {followed} {piece} {range = range} {old = old} u p is ranges rejected only = record {
  answer = read.Range range;
  read = filled_read f followed piece (piece_filled u p refl);
  more = record { ranges = ranges ∙ rw (is, p.is_kept) refl; rejected = rejected ∙ sym (reported_same old.rejected range); is_only = only };
}

only_retained : (found range : VersionRange) → range ≡ found → ends_at_zero range.end ≡ false → without_none (found ∷ []) ≡ range ∷ []
only_retained found range e ends = rw (sym e, ends) refl

retained_cut : (f : Flavour) → IsCutting f → (cs : List Comparator) → retained f (cs ∷ []) ≡ without_none (retained_range cs ∷ [])
retained_cut f npm cs = refl
retained_cut f normal cs = refl

-- the whole text
pub piece_reading : (f : Flavour) → IsCutting f → {text : List ℕ} {range : VersionRange} (answer : RangeSetOrTag) → IsShortPiece f text range → answer ≡ inner.RangeSet (record { 0 = range ∷ [] }) → IsCutReading f text answer
piece_reading f cuts {text} {range} answer p answered =
    let good = filled_read f false text (p.first ∷ p.others, p.filled, p.is) in
    let only = retained_cut f cuts good.0 ∙ only_retained (retained_range good.0) range good.2 p.is_kept in
    record {
      outcome = Ranges (good.0 ∷ []);
      is_outcome = one_good (one_piece p.no_bar) good.1;
      is_read = answered ∙ ap (λ (r : List VersionRange). inner.RangeSet (record { 0 = r })) (sym only);
    }

-- `*`, or three numbers with a qualifier
pub whole_cut : (f : Flavour) → IsCutting f → {text : List ℕ} {ranges : List VersionRange} (answer : RangeSetOrTag) → IsStarOrQualified f text ranges → answer ≡ inner.RangeSet (record { 0 = ranges }) → IsCutReading f text answer
whole_cut f cuts answer (is_star e) answered = rw (e, answered) (star_alternatives f cuts)
whole_cut f cuts answer (is_qualified p) answered = piece_reading f cuts answer (qualified_piece f cuts p) answered

pub whole_strict : {text : List ℕ} {ranges : List VersionRange} (answer : RangeSetOrTag) → IsStarOrQualified Specifier text ranges → answer ≡ inner.RangeSet (record { 0 = ranges }) → IsReading Specifier text answer
whole_strict answer (is_star e) answered = rw (e, answered) (star_any Specifier).reading
whole_strict answer (is_qualified p) answered = range_reading (qualified_single Specifier p) answer answered
