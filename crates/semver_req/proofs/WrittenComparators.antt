-- The text of a range: comparators that parse back unchanged in npm's and the normalized grammar.
use Rattle.std.proofs.Common.{◌≡◌, ◌<◌, ◌^◌, ◌+◌, ℕ, Bool, true, false, List, [], ◌∷◌, ◌++◌, length, Option, Some, None, refl, sym, ap, ◌∙◌, arith, append-nil, length-append, ◌&&◌, if◌then◌else◌, nat_lt, decimal}
use Rattle.std.specs.List.{list_all}
use Rattle.std.proofs.lemmas.Bool.{and_from, and_parts, eqb-true, lt-ltb}
use Rattle.std.proofs.lemmas.Bool.Decides.{nat_tests}
use Rattle.semver_base.specs.Comparators.{Caret, Comparator, OfPrimitive, Bare, Tilde, comparator_line, primitive_kind_text}
use Rattle.semver_base.specs.Grammar.{Followed, Joined, Optional, this, that}
use Rattle.semver_base.specs.Lexical.{IsNumberEnd, IsQualifier}
use Rattle.semver_base.specs.Meaning.{release}
use Rattle.semver_base.specs.NormalText.{IsWritableBound, IsWritableRange, comparator_text, partial_text}
use Rattle.semver_base.specs.PartialTable.{Line, all_fit, caret, caret_by, lower_to_below, equal, number_fits, tilde}
use Rattle.semver_base.specs.PrecedenceLaws.{version_eq}
use Rattle.semver_base.specs.Shortest.{ending, is_caret_major, is_caret_patch, is_release_of, numbered, shortest, shortest_between, shortest_of, starting, whole}
use Rattle.semver_base.specs.VersionText.{IsWritable, prefixed, version_text}
use Rattle.semver_base.specs.declared.partial.Partial.{Partial}
use Rattle.semver_base.specs.declared.partial.PrimitiveKind.{PrimitiveKind}
use Rattle.semver_base.specs.declared.partial.PrimitiveKind.TheVariants.{GreaterThan, LessThan, GreaterThanOrEqual, LessThanOrEqual}
use Rattle.semver_base.specs.declared.lexical.values.Qualifier.{Qualifier}
use Rattle.semver_base.specs.declared.partial.XRange.{XRange}
use Rattle.semver_base.specs.declared.partial.XRange.TheVariants.{Wildcard, Val}
use Rattle.semver_base.specs.declared.range.RangeBound.{RangeBound}
use Rattle.semver_base.specs.declared.range.RangeBound.TheVariants as bound
use Rattle.semver_base.specs.declared.range.VersionBoundKind.{VersionBoundKind}
use Rattle.semver_base.specs.declared.range.VersionBoundKind.TheVariants as kind
use Rattle.semver_base.specs.declared.range.VersionRange.{VersionRange}
use Rattle.semver_base.specs.declared.version.Version.{Version}
use Rattle.semver_base.specs.ByteLaws.{MadeOf, list_all-append}
use Rattle.semver_base.specs.SolidLaws.{is_solid_byte, some_text}
use Rattle.semver_base.specs.ShortLaws.{short_is}
use Rattle.semver_base.specs.WrittenLaws.{follow, no_digit_written, number_written, qualifier_written}
use Rattle.semver_req.specs.Comparators.{IsComparator, fits, numbers}
use Rattle.semver_req.specs.Partials.{IsComponent, IsPartial, IsBarePartial, IsSecond, IsThird, is_wildcard, strictness_of}
use Rattle.semver_req.specs.Pieces.{npm, normal}
use Rattle.semver_req.specs.declared.common.values.Flavour.{Flavour}
use Rattle.semver_req.specs.declared.common.values.Flavour.TheVariants.{Npm, Normal, Specifier}
use Rattle.semver_req.proofs.GrammarParts.{no_whitespace, non_primitive, dotted_of, plain_caret, plain_dot, plain_tilde, with_caret, with_primitive, with_tilde}
use Rattle.semver_req.proofs.GrammarFacts.{bare_partial_under, partial_some}
use Rattle.semver_req.proofs.RuleFacts.{made_in}
use Rattle.semver_req.proofs.Rules.{Bytes, has}

-- ---- partial versions

-- the text of the partial version is one in each grammar and parses to it, and its numbers fit
pub record IsWrittenPartial (p : Partial) : Type 0 where
  pub reads : (f : Flavour) → IsBarePartial f (partial_text p) p
  pub fit : all_fit (numbers p) ≡ true

component_written : (f : Flavour) (n : ℕ) → n < 2 ^ 64 → IsComponent f (decimal n) (Val n)
component_written f n small = number_written (strictness_of f) n small

-- a text of A where a text of B may follow, and none does
alone : {V W : Type 0} {A : List ℕ → V → Type 0} {B : List ℕ → W → Type 0} (a : List ℕ) {v : V} → A a v → Followed A (Optional B) a (v, None)
alone a h = record { first = a; second = []; text_is = sym (append-nil a); in_first = h; in_second = refl; seam = tt }

number_small : (n : ℕ) → n < 2 ^ 64 → number_fits n ≡ true
number_small n small = lt-ltb n (2 ^ 64) small

one_small : (n : ℕ) → n < 2 ^ 64 → all_fit (n ∷ []) ≡ true
one_small n small = and_from (number_fits n) true (number_small n small) refl

is_star : (f : Flavour) → is_wildcard f 42 ≡ true
is_star Npm = refl
is_star Normal = refl
is_star Specifier = refl

star_written : IsWrittenPartial (numbered Wildcard Wildcard)
star_written = record {
  reads = λ f. record { value = (Wildcard, None); stands = alone (42 ∷ []) (42, record { text_is = refl; passes = is_star f }); is = refl };
  fit = refl;
}

-- what follows the first dot
abbrev BehindDot : Flavour → List ℕ → XRange × Option (XRange × Qualifier) → Type 0
BehindDot f = Followed (IsComponent f) (Optional (IsThird f))

module _ (v : Version) (h : IsWritable v) where
  major_written : IsWrittenPartial (numbered (Val v.major) Wildcard)
  major_written = record {
    reads = λ f. record { value = (Val v.major, None); stands = alone _ (component_written f v.major h.numbers.major); is = refl };
    fit = one_small v.major h.numbers.major;
  }

  minor_written : IsWrittenPartial (numbered (Val v.major) (Val v.minor))
  minor_written = record {
    reads = λ f. record {
      value = (Val v.major, Some (Val v.minor, None));
      stands = follow _ _ (component_written f v.major h.numbers.major) (dotted_of (BehindDot f) f 46 _ (Val v.minor, None) (plain_dot f) (alone _ (component_written f v.minor h.numbers.minor)));
      is = refl;
    };
    fit = and_from (number_fits v.major) _ (number_small v.major h.numbers.major) (one_small v.minor h.numbers.minor);
  }

  abbrev behind_patch : List ℕ
  behind_patch = prefixed 45 v.pre ++ prefixed 43 v.build

  abbrev third : XRange × Qualifier
  third = (Val v.patch, record { pre = v.pre; build = v.build })

  third_written : (f : Flavour) → IsThird f (46 ∷ (decimal v.patch ++ behind_patch)) third
  third_written f = dotted_of (Joined IsNumberEnd (IsComponent f) (IsQualifier (strictness_of f))) f 46 (decimal v.patch ++ behind_patch) third (plain_dot f) (record {
    first = decimal v.patch;
    second = behind_patch;
    text_is = refl;
    in_first = component_written f v.patch h.numbers.patch;
    in_second = qualifier_written (strictness_of f) v.pre v.build h.pre h.build;
    seam = λ digit. no_digit_written v.pre v.build;
  })

  second_written : (f : Flavour) → IsSecond f (46 ∷ (decimal v.minor ++ (46 ∷ (decimal v.patch ++ behind_patch)))) (Val v.minor, Some third)
  second_written f = dotted_of (BehindDot f) f 46 (decimal v.minor ++ (46 ∷ (decimal v.patch ++ behind_patch))) (Val v.minor, Some third) (plain_dot f) (record {
    first = decimal v.minor;
    second = 46 ∷ (decimal v.patch ++ behind_patch);
    text_is = refl;
    in_first = component_written f v.minor h.numbers.minor;
    in_second = third_written f;
    seam = tt;
  })

  -- the text of a version is a partial version of each grammar
  pub whole_reads : (f : Flavour) → IsBarePartial f (version_text v) (whole v)
  whole_reads f = record {
    value = (Val v.major, Some (Val v.minor, Some third));
    stands = follow _ _ (component_written f v.major h.numbers.major) (second_written f);
    is = refl;
  }

  pub whole_written : IsWrittenPartial (whole v)
  whole_written = record {
    reads = whole_reads;
    fit = and_from (number_fits v.major) _ (number_small v.major h.numbers.major) (and_from (number_fits v.minor) _ (number_small v.minor h.numbers.minor) (one_small v.patch h.numbers.patch));
  }

-- ---- their bytes

abbrev solid_bytes : Bytes
solid_bytes = (33, 47) ∷ ((48, 64) ∷ ((65, 124) ∷ ((125, 127) ∷ [])))

partial_made : MadeOf (IsBarePartial Normal) is_solid_byte
partial_made = made_in (bare_partial_under Normal) is_solid_byte solid_bytes solid refl
  where
    solid : (x : ℕ) → has solid_bytes x ≡ true → is_solid_byte x ≡ true
    solid x h = grind (arith, nat_tests)

-- ---- comparators

-- the text of the comparator is one in both grammars and parses to it, contains no whitespace, and it fits
pub record IsWritten (c : Comparator) : Type 0 where
  pub npm : IsComparator Npm (comparator_text c) c
  pub normal : IsComparator Normal (comparator_text c) c
  pub solid : list_all is_solid_byte (comparator_text c) ≡ true
  pub some : 0 < length (comparator_text c)
  pub fit : fits c ≡ true

module _ {p : Partial} (w : IsWrittenPartial p) where
  npm_partial : IsPartial Npm (partial_text p) p
  npm_partial = that (w.reads Npm)

  solid_partial : list_all is_solid_byte (partial_text p) ≡ true
  solid_partial = partial_made.made (partial_text p) p (w.reads Normal)

  some_partial : 0 < length (partial_text p)
  some_partial = some_text (partial_some Normal) (partial_text p) (w.reads Normal)

  fit_with : (sums : List ℕ) → all_fit sums ≡ true → (all_fit (numbers p) && all_fit sums) ≡ true
  fit_with sums fit = and_from (all_fit (numbers p)) (all_fit sums) w.fit fit

  tilde_written : all_fit (tilde p).sums ≡ true → IsWritten (Tilde p)
  tilde_written fit = record {
    npm = non_primitive Npm npm _ (Tilde p) (this (with_tilde Npm 126 _ p (plain_tilde Npm) npm_partial));
    normal = non_primitive Normal normal _ (Tilde p) (this (with_tilde Normal 126 _ p (plain_tilde Normal) (w.reads Normal)));
    solid = and_from (is_solid_byte 126) _ refl solid_partial;
    some = omega arith;
    fit = fit_with (tilde p).sums fit;
  }

  caret_written : all_fit (caret p).sums ≡ true → IsWritten (Caret p)
  caret_written fit = record {
    npm = non_primitive Npm npm _ (Caret p) (this (with_caret Npm 94 _ p (plain_caret Npm) npm_partial));
    normal = non_primitive Normal normal _ (Caret p) (this (with_caret Normal 94 _ p (plain_caret Normal) (w.reads Normal)));
    solid = and_from (is_solid_byte 94) _ refl solid_partial;
    some = omega arith;
    fit = fit_with (caret p).sums fit;
  }

  bare_written : all_fit (equal p).sums ≡ true → IsWritten (Bare p)
  bare_written fit = record {
    npm = non_primitive Npm npm _ (Bare p) (that (record { value = p; stands = npm_partial; is = refl }));
    normal = non_primitive Normal normal _ (Bare p) (that (record { value = p; stands = w.reads Normal; is = refl }));
    solid = solid_partial;
    some = some_partial;
    fit = fit_with (equal p).sums fit;
  }

  primitive_written : (primitive_kind : PrimitiveKind) → list_all is_solid_byte (primitive_kind_text primitive_kind) ≡ true → all_fit (comparator_line (OfPrimitive primitive_kind p)).sums ≡ true → IsWritten (OfPrimitive primitive_kind p)
  primitive_written primitive_kind solid fit = record {
    npm = with_primitive Npm npm primitive_kind [] _ p no_whitespace npm_partial;
    normal = with_primitive Normal normal primitive_kind [] _ p no_whitespace (w.reads Normal);
    solid = list_all-append is_solid_byte (primitive_kind_text primitive_kind) (partial_text p) solid solid_partial;
    some = omega (arith, some_partial, length-append (primitive_kind_text primitive_kind) (partial_text p));
    fit = fit_with (comparator_line (OfPrimitive primitive_kind p)).sums fit;
  }

-- ---- the rows of the table

-- one or more comparators, each with such a text
pub data AreWritten : List Comparator → Type 0 where
  one : {c : Comparator} → IsWritten c → AreWritten (c ∷ [])
  more : {c d : Comparator} {cs : List Comparator} → IsWritten c → AreWritten (d ∷ cs) → AreWritten (c ∷ d ∷ cs)

either_row : (b : Bool) (x y : List Comparator) → (b ≡ true → AreWritten x) → AreWritten y → AreWritten (if b then x else y)
either_row true x y h k = h refl
either_row false x y h k = k

-- a sum that is a number of the end fits
next_fits : (n m : ℕ) → m ≡ n + 1 → m < 2 ^ 64 → all_fit ((n + 1) ∷ []) ≡ true
next_fits n m e small = one_small (n + 1) (omega (arith, e, small))

pub caret_patch : (p : Partial) (major minor patch : ℕ) → major ≡ 0 → minor ≡ 0 → caret_by p (Val major) (Val minor) (Val patch) ≡ lower_to_below p (release 0 0 (patch + 1)) ((patch + 1) ∷ [])
caret_patch p major minor patch e f = rw (e, f) refl

pub caret_major : (p : Partial) (major minor patch : ℕ) → nat_lt 0 major ≡ true → caret_by p (Val major) (Val minor) (Val patch) ≡ lower_to_below p (release (major + 1) 0 0) ((major + 1) ∷ [])
caret_major p major minor patch some = rw some refl

starting_written : (k : VersionBoundKind) (v : Version) → IsWritable v → IsWritten (starting k v)
starting_written kind.Inclusive v h = primitive_written (whole_written v h) GreaterThanOrEqual refl refl
starting_written kind.Exclusive v h = primitive_written (whole_written v h) GreaterThan refl refl

pub ending_written : (k : VersionBoundKind) (v : Version) → IsWritable v → IsWritten (ending k v)
ending_written kind.Inclusive v h = primitive_written (whole_written v h) LessThanOrEqual refl refl
ending_written kind.Exclusive v h = primitive_written (whole_written v h) LessThan refl refl

module _ (s e : Version) (h : IsWritable s) (k : IsWritable e) where
  both_written : (i j : VersionBoundKind) → AreWritten (starting i s ∷ ending j e ∷ [])
  both_written i j = more (starting_written i s h) (one (ending_written j e k))

  closed_written : AreWritten (shortest_between kind.Inclusive kind.Inclusive s e)
  closed_written =
      either_row (version_eq s e) _ _ (λ _. one (bare_written (whole_written s h) refl))
      (either_row (is_release_of s 0 0 0) _ _ (λ _. one (ending_written kind.Inclusive e k))
      (both_written kind.Inclusive kind.Inclusive))

  below_written : AreWritten (shortest_between kind.Inclusive kind.Exclusive s e)
  below_written =
      either_row _ _ _ (λ c. one (bare_written (major_written s h) (next_fits s.major e.major (ap (λ (v : Version). v.major) (short_is e (s.major + 1) 0 0 (and_parts _ _ c).1)) k.numbers.major)))
      (either_row _ _ _ (λ c. one (bare_written (minor_written s h) (next_fits s.minor e.minor (ap (λ (v : Version). v.minor) (short_is e s.major (s.minor + 1) 0 (and_parts _ _ c).1)) k.numbers.minor)))
      (either_row _ _ _ (λ c. one (tilde_written (whole_written s h) (next_fits s.minor e.minor (ap (λ (v : Version). v.minor) (short_is e s.major (s.minor + 1) 0 c)) k.numbers.minor)))
      (either_row _ _ _ (λ c. one (caret_written (whole_written s h) (patch_fits c)))
      (either_row _ _ _ (λ c. one (caret_written (whole_written s h) (major_fits c)))
      (either_row _ _ _ (λ _. one (ending_written kind.Exclusive e k))
      (both_written kind.Inclusive kind.Exclusive))))))
    where
      patch_fits : is_caret_patch s e ≡ true → all_fit (caret (whole s)).sums ≡ true
      patch_fits c =
          let a = and_parts _ _ c in
          let b = and_parts _ _ a.1 in
          ap (λ (line : Line). all_fit line.sums) (caret_patch (whole s) s.major s.minor s.patch (eqb-true s.major 0 a.0) (eqb-true s.minor 0 b.0))
          ∙ next_fits s.patch e.patch (ap (λ (v : Version). v.patch) (short_is e 0 0 (s.patch + 1) b.1)) k.numbers.patch

      major_fits : is_caret_major s e ≡ true → all_fit (caret (whole s)).sums ≡ true
      major_fits c =
          let a = and_parts _ _ c in
          ap (λ (line : Line). all_fit line.sums) (caret_major (whole s) s.major s.minor s.patch a.0)
          ∙ next_fits s.major e.major (ap (λ (v : Version). v.major) (short_is e (s.major + 1) 0 0 a.1)) k.numbers.major

  between_written : (i j : VersionBoundKind) → AreWritten (shortest_between i j s e)
  between_written kind.Inclusive kind.Inclusive = closed_written
  between_written kind.Inclusive kind.Exclusive = below_written
  between_written kind.Exclusive j = both_written kind.Exclusive j

by_written : (start end : RangeBound) → IsWritableBound start → IsWritableBound end → AreWritten (shortest_of start end)
by_written bound.Unbounded bound.Unbounded h k = one (bare_written star_written refl)
by_written bound.Unbounded (bound.Version e) h k = one (ending_written e.kind e.version k)
by_written (bound.Version s) bound.Unbounded h k = one (starting_written s.kind s.version h)
by_written (bound.Version s) (bound.Version e) h k = between_written s.version e.version h k s.kind e.kind

pub shortest_written : (r : VersionRange) → IsWritableRange r → AreWritten (shortest r)
shortest_written r h = by_written r.start r.end h.start h.end
