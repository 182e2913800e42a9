-- A grammar rejects a text for one reason.
use Rattle.std.proofs.Common.{◌≡◌, ◌∙◌, ℕ, Bool, true, false, List, None, refl, sym, ap}
use Rattle.std.specs.List.{list_all}
use Rattle.std.specs.Str.{trim}
use Rattle.semver_base.specs.Comparators.{Comparator, comparator_line}
use Rattle.semver_base.specs.Grammar.{IsLongest}
use Rattle.semver_base.specs.GrammarLaws.{one_front}
use Rattle.semver_base.specs.PartialTable.{all_fit}
use Rattle.semver_base.specs.declared.failure.Rejection.{Rejection}
use Rattle.semver_req.specs.Comparators.{comparator_numbers, fits}
use Rattle.semver_req.specs.Outcome.{IsSpecifierRange}
use Rattle.semver_req.specs.Parsers.{Failure}
use Rattle.semver_req.specs.PieceReading.{IsCutRejection, IsFirstBad, IsPieceRead, IsPieceRejection, bad_piece, is_out_of_memory, large_bound, large_number, later_bad, numbers_fit, outside, rejection_failure, this_bad}
use Rattle.semver_req.specs.RetainedSet.{retained_range}
use Rattle.semver_req.specs.SpecifierRejections as strict
use Rattle.semver_req.specs.SpecifierRejections.{IsSpecifierRejection}
use Rattle.semver_req.specs.TextRejection.{TextsAreRejectedForOneReason}
use Rattle.semver_req.specs.declared.common.values.Flavour.{Flavour}
use Rattle.semver_req.specs.declared.common.values.Flavour.TheVariants.{Npm, Normal, Specifier}
use Rattle.semver_req.specs.declared.range_set_or_tag.pieces.RangeOrInvalid.{RangeOrInvalid}
use Rattle.semver_req.specs.declared.range_set_or_tag.pieces.RangeOrInvalid.TheVariants as read
use Rattle.semver_req.proofs.OneOutcome.{fits_or_not, good_one, pieces_one, some_or_none}
use Rattle.semver_req.proofs.PieceReadings.{piece_one}

-- ---- npm's and the normalized grammar

fit_or_not : {T : Type 0} (cs ds : List Comparator) (test : List Comparator → Bool) → cs ≡ ds → test cs ≡ false → test ds ≡ true → T
fit_or_not cs ds test e lacks every = absurd (let never : false ≡ true = sym lacks ∙ (ap test e ∙ every) in cc never)

pub piece_reason : (f : Flavour) (piece : List ℕ) (why other : Rejection) → IsPieceRejection f piece why → IsPieceRejection f piece other → why ≡ other
piece_reason f piece why other (outside n) (outside m) = refl
piece_reason f piece why other (outside n) (large_number cs h lacks) = absurd (n cs h)
piece_reason f piece why other (outside n) (large_bound cs h every lacks) = absurd (n cs h)
piece_reason f piece why other (large_number cs h lacks) (outside n) = absurd (n cs h)
piece_reason f piece why other (large_number cs h lacks) (large_number ds k not) = refl
piece_reason f piece why other (large_number cs h lacks) (large_bound ds k every not) = fit_or_not cs ds (λ xs. list_all numbers_fit xs) ((piece_one f).one piece cs ds h k) lacks every
piece_reason f piece why other (large_bound cs h every lacks) (outside n) = absurd (n cs h)
piece_reason f piece why other (large_bound cs h every lacks) (large_number ds k not) = fit_or_not ds cs (λ xs. list_all numbers_fit xs) ((piece_one f).one piece ds cs k h) not every
piece_reason f piece why other (large_bound cs h every lacks) (large_bound ds k fit not) = refl

-- what a piece parses to
pub read_one : (f : Flavour) (b : Bool) (piece : List ℕ) (one other : RangeOrInvalid) → IsPieceRead f b piece one → IsPieceRead f b piece other → one ≡ other
read_one f b piece (read.Range r) (read.Range s) (cs, g, e) (ds, i, k) = ap read.Range (e ∙ (ap retained_range (good_one f b piece cs ds g i) ∙ sym k))
read_one f b piece (read.Range r) (read.Invalid why) (cs, g, e) (bad, h) = absurd (bad cs g)
read_one f b piece (read.Invalid why) (read.Range r) (bad, h) (cs, g, e) = absurd (bad cs g)
read_one f b piece (read.Invalid why) (read.Invalid other) h k = ap read.Invalid (piece_reason f piece why other h.1 k.1)

first_reason : (f : Flavour) (b : Bool) (pieces : List (List ℕ)) (why other : Rejection) → IsFirstBad f b pieces why → IsFirstBad f b pieces other → why ≡ other
first_reason f b pieces why other (this_bad {piece = piece} n h) (this_bad m k) = piece_reason f piece why other h k
first_reason f b pieces why other (this_bad n h) (later_bad cs g k) = absurd (n cs g)
first_reason f b pieces why other (later_bad cs g h) (this_bad n k) = absurd (n cs g)
first_reason f b pieces why other (later_bad {pieces = more} cs g h) (later_bad ds i k) = first_reason f false more why other h k

cut_reason : (f : Flavour) (text : List ℕ) (failure other : Failure) → IsCutRejection f text failure → IsCutRejection f text other → (failure ≡ None → ⊥) → (other ≡ None → ⊥) → failure ≡ other
cut_reason f text failure other is_out_of_memory k some more = absurd (some refl)
cut_reason f text failure other (bad_piece h i) is_out_of_memory some more = absurd (more refl)
cut_reason f text failure other (bad_piece {rejection = why} h i) (bad_piece {b = c} {pieces = parts} {rejection = reason} k j) some more =
    let both = pieces_one h k in
    ap rejection_failure (first_reason f c parts why reason (rw (both.0, both.1) at i) j)

-- ---- the strict grammar

-- the longest comparator at the front is the same
pub front_fits : {T : Type 0} {text rest more : List ℕ} {c d : Comparator} (test : Comparator → Bool) → IsLongest IsSpecifierRange text c rest → IsLongest IsSpecifierRange text d more → test c ≡ true → test d ≡ false → T
front_fits test p q every lacks = absurd (let never : true ≡ false = sym every ∙ (ap test (one_front p q).0 ∙ lacks) in cc never)

pub number_no_fit : (c : Comparator) → all_fit (comparator_numbers c) ≡ false → fits c ≡ false
number_no_fit c lacks = rw lacks refl

pub bound_no_fit : (c : Comparator) → all_fit (comparator_numbers c) ≡ true → all_fit (comparator_line c).sums ≡ false → fits c ≡ false
bound_no_fit c every lacks = rw (every, lacks) refl

strict_reason : (text : List ℕ) (failure other : Failure) → IsSpecifierRejection text failure → IsSpecifierRejection text other → (failure ≡ None → ⊥) → (other ≡ None → ⊥) → failure ≡ other
strict_reason text failure other strict.is_out_of_memory k some more = absurd (some refl)
strict_reason text failure other (strict.something_follows p f l) strict.is_out_of_memory some more = absurd (more refl)
strict_reason text failure other (strict.something_follows p f l) (strict.something_follows q g m) some more = refl
strict_reason text failure other (strict.something_follows p f l) (strict.whitespace_text n t w) some more = some_or_none p n
strict_reason text failure other (strict.something_follows p f l) (strict.no_range n t w) some more = refl
strict_reason text failure other (strict.something_follows p f l) (strict.large_number {c = d} q lacks t) some more = fits_or_not p q f (number_no_fit d lacks)
strict_reason text failure other (strict.something_follows p f l) (strict.large_bound {c = d} q every lacks t) some more = fits_or_not p q f (bound_no_fit d every lacks)
strict_reason text failure other (strict.whitespace_text n t w) strict.is_out_of_memory some more = absurd (more refl)
strict_reason text failure other (strict.whitespace_text n t w) (strict.something_follows q g m) some more = some_or_none q n
strict_reason text failure other (strict.whitespace_text n t w) (strict.whitespace_text m u x) some more = refl
strict_reason text failure other (strict.whitespace_text n t w) (strict.no_range m u never) some more = absurd (never w)
strict_reason text failure other (strict.whitespace_text n t w) (strict.large_number q lacks u) some more = some_or_none q n
strict_reason text failure other (strict.whitespace_text n t w) (strict.large_bound q every lacks u) some more = some_or_none q n
strict_reason text failure other (strict.no_range n t never) strict.is_out_of_memory some more = absurd (more refl)
strict_reason text failure other (strict.no_range n t never) (strict.something_follows q g m) some more = refl
strict_reason text failure other (strict.no_range n t never) (strict.whitespace_text m u w) some more = absurd (never w)
strict_reason text failure other (strict.no_range n t never) (strict.no_range m u w) some more = refl
strict_reason text failure other (strict.no_range n t never) (strict.large_number q lacks u) some more = some_or_none q n
strict_reason text failure other (strict.no_range n t never) (strict.large_bound q every lacks u) some more = some_or_none q n
strict_reason text failure other (strict.large_number p lacks t) strict.is_out_of_memory some more = absurd (more refl)
strict_reason text failure other (strict.large_number {c} p lacks t) (strict.something_follows q g m) some more = fits_or_not q p g (number_no_fit c lacks)
strict_reason text failure other (strict.large_number p lacks t) (strict.whitespace_text n u w) some more = some_or_none p n
strict_reason text failure other (strict.large_number p lacks t) (strict.no_range n u w) some more = some_or_none p n
strict_reason text failure other (strict.large_number p lacks t) (strict.large_number q not u) some more = refl
strict_reason text failure other (strict.large_number p lacks t) (strict.large_bound q every not u) some more = front_fits (λ c. all_fit (comparator_numbers c)) q p every lacks
strict_reason text failure other (strict.large_bound p every lacks t) strict.is_out_of_memory some more = absurd (more refl)
strict_reason text failure other (strict.large_bound {c} p every lacks t) (strict.something_follows q g m) some more = fits_or_not q p g (bound_no_fit c every lacks)
strict_reason text failure other (strict.large_bound p every lacks t) (strict.whitespace_text n u w) some more = some_or_none p n
strict_reason text failure other (strict.large_bound p every lacks t) (strict.no_range n u w) some more = some_or_none p n
strict_reason text failure other (strict.large_bound p every lacks t) (strict.large_number q not u) some more = front_fits (λ c. all_fit (comparator_numbers c)) p q every not
strict_reason text failure other (strict.large_bound p every lacks t) (strict.large_bound q fit not u) some more = refl

pub one_reason : TextsAreRejectedForOneReason
one_reason Npm text failure other h k some more = cut_reason Npm (trim text) failure other h k some more
one_reason Normal text failure other h k some more = cut_reason Normal text failure other h k some more
one_reason Specifier text failure other h k some more = strict_reason text failure other h k some more
