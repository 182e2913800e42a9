-- The text of a set of ranges is split into the texts of its ranges, each of which npm's and the normalized parser parse to
-- its shortest form.
use Rattle.std.proofs.Common.{◌≡◌, ◌≤◌, ◌<◌, ℕ, suc, Bool, true, false, List, [], ◌∷◌, ◌++◌, length, map, refl, sym, ap, ◌∙◌, arith, inl, append-nil, append_assoc, length-append, codes, if◌then◌else◌}
use Rattle.std.specs.Char.{is_ascii}
use Rattle.std.specs.List.{AllByRecursion, list_all}
use Rattle.std.specs.Str.{trim}
use Rattle.std.proofs.lemmas.Bool.{and_from, and_parts}
use Rattle.std.proofs.lemmas.Bool.Decides.{nat_tests}
use Rattle.std.proofs.lemmas.Fmt.{decimal_digit}
use Rattle.std.proofs.lemmas.Str.{encode_ascii}
use Rattle.semver_base.specs.Comparators.{Comparator}
use Rattle.semver_base.specs.Grammar.{Listed, last_item, closed_item, more_items, that}
use Rattle.semver_base.specs.Lexical.{IsWhitespace, IsSomeWhitespace}
use Rattle.semver_base.specs.Meaning.{release}
use Rattle.semver_base.specs.NormalText.{AreWritableRanges, IsWritableRange, comparator_text, comparators_text, range_text, set_text}
use Rattle.semver_base.specs.PrecedenceLaws.{version_eq}
use Rattle.semver_base.specs.Shortest.{ending, is_caret_major, is_caret_patch, is_major, is_minor, is_release_of, is_tilde, shortest, shortest_between, shortest_of, shortest_tree}
use Rattle.semver_base.specs.declared.range.RangeBound.{RangeBound}
use Rattle.semver_base.specs.declared.range.RangeBound.TheVariants as bound
use Rattle.semver_base.specs.declared.range.VersionBoundKind.{VersionBoundKind}
use Rattle.semver_base.specs.declared.range.VersionBoundKind.TheVariants as kind
use Rattle.semver_base.specs.declared.range.VersionRange.{VersionRange}
use Rattle.semver_base.specs.declared.version.Version.{Version}
use Rattle.semver_base.specs.WhitespaceLaws.{whitespace_made, is_whitespace_byte}
use Rattle.semver_base.specs.ByteLaws.{list_all-append, list_all-wider}
use Rattle.semver_base.specs.GrammarLaws.{fronts, same, shorter, longer}
use Rattle.semver_base.specs.SolidLaws.{EndsSolid, StartsSolid, ends_after, ends_solid, is_solid_byte, solid_ascii, solid_no_whitespace, starts_before, starts_solid, trim_same}
use Rattle.semver_req.specs.Comparators.{fits}
use Rattle.semver_req.specs.Outcome.{AreGoodOnes, none_left, good, IsCutOutcome, IsOutcome, one_good, npm_many, normal_many, Ranges}
use Rattle.semver_req.specs.Pieces.{IsCutting, npm, normal, AreMorePieces, last_piece, cut_piece, one_piece, first_cut, HasNoBar, IsCutAt, IsFilled, IsPiece, IsTrimmed}
use Rattle.semver_req.specs.Rereading.{IsOnePiece}
use Rattle.semver_req.specs.declared.common.values.Flavour.{Flavour}
use Rattle.semver_req.specs.declared.common.values.Flavour.TheVariants.{Npm, Normal}
use Rattle.semver_req.proofs.GrammarFacts.{is_no_bar}
use Rattle.semver_req.proofs.WrittenComparators.{AreWritten, one, more, IsWritten, ending_written, shortest_written}

-- ---- pieces

pub one_whitespace : IsSomeWhitespace (codes " ") tt
one_whitespace = (omega arith, (codes " ", ap (λ t. t ++ []) (encode_ascii 32 (omega arith)), (refl, tt)))

-- comparators with a space between them, where end follows the last
module _ {A : List ℕ → Comparator → Type 0} {S : List ℕ → Unit {0} → Type 0} (whitespace : S (codes " ") tt) (item : (c : Comparator) → IsWritten c → A (comparator_text c) c) where
  listed_with : (end : List ℕ) → ((c : Comparator) → IsWritten c → Listed A S (comparator_text c ++ end) (c ∷ [])) → (cs : List Comparator) → AreWritten cs → Listed A S (comparators_text cs ++ end) cs
  listed_with end last cs (one {c} h) = rw append-nil (last c h)
  listed_with end last cs (more {c} {d} {cs = ds} h t) = rw (append_assoc (comparator_text c) _ end) (more_items (item c h) whitespace (listed_with end last (d ∷ ds) t))

  listed_written : (cs : List Comparator) → AreWritten cs → Listed A S (comparators_text cs) cs
  listed_written cs h = rw append-nil at (listed_with [] (λ c w. rw append-nil (last_item (item c w))) cs h)

  -- the same with one space after them
  listed_closed : (cs : List Comparator) → AreWritten cs → Listed A S (comparators_text cs ++ codes " ") cs
  listed_closed cs h = listed_with (codes " ") (λ c w. closed_item (item c w) whitespace) cs h

filled : (f : Flavour) → IsCutting f → (cs : List Comparator) → AreWritten cs → IsFilled f (comparators_text cs) cs
filled f npm cs h = that (listed_written (that one_whitespace) (λ c w. w.npm) cs h)
filled f normal cs h = listed_written one_whitespace (λ c w. w.normal) cs h

filled_closed : (f : Flavour) → IsCutting f → (cs : List Comparator) → AreWritten cs → IsFilled f (comparators_text cs ++ codes " ") cs
filled_closed f npm cs h = that (listed_closed (that one_whitespace) (λ c w. w.npm) cs h)
filled_closed f normal cs h = listed_closed one_whitespace (λ c w. w.normal) cs h

piece_of : (f : Flavour) (text : List ℕ) (cs : List Comparator) → AreWritten cs → IsFilled f text cs → IsPiece f text cs
piece_of f text cs (one h) k = k
piece_of f text cs (more h t) k = k

module _ (f : Flavour) (cut : IsCutting f) (r : VersionRange) (h : IsWritableRange r) where
  -- the text of a range is one piece, which parses to its shortest form
  pub range_piece : IsPiece f (range_text r) (shortest r)
  range_piece = piece_of f _ (shortest r) (shortest_written r h) (filled f cut (shortest r) (shortest_written r h))

  -- the same with one space after it
  pub range_piece_closed : IsPiece f (range_text r ++ codes " ") (shortest r)
  range_piece_closed = piece_of f _ (shortest r) (shortest_written r h) (filled_closed f cut (shortest r) (shortest_written r h))

-- ---- their bytes

solid_no_bar : (b : ℕ) → is_solid_byte b ≡ true → is_no_bar b ≡ true
solid_no_bar b h = grind (arith, nat_tests)

-- a test that passes each such byte and the space passes each byte of these comparators
comparators_pass : (p : ℕ → Bool) → ((b : ℕ) → is_solid_byte b ≡ true → p b ≡ true) → p 32 ≡ true → (cs : List Comparator) → AreWritten cs → list_all p (comparators_text cs) ≡ true
comparators_pass p wider whitespace cs (one {c} h) = rw append-nil (list_all-wider is_solid_byte p wider (comparator_text c) h.solid)
comparators_pass p wider whitespace cs (more {c} {d} {cs = ds} h t) = list_all-append p (comparator_text c) _ (list_all-wider is_solid_byte p wider (comparator_text c) h.solid) (and_from (p 32) _ whitespace (comparators_pass p wider whitespace (d ∷ ds) t))

comparators_start : (cs : List Comparator) → AreWritten cs → StartsSolid (comparators_text cs)
comparators_start cs (one {c} h) = starts_before (comparator_text c) _ (starts_solid (comparator_text c) h.some h.solid)
comparators_start cs (more {c} h t) = starts_before (comparator_text c) _ (starts_solid (comparator_text c) h.some h.solid)

comparators_end : (cs : List Comparator) → AreWritten cs → EndsSolid (comparators_text cs)
comparators_end cs (one {c} h) = rw append-nil (ends_solid (comparator_text c) h.some h.solid)
comparators_end cs (more {c} {d} {cs = ds} h t) = ends_after (comparator_text c) _ (ends_after (codes " ") _ (comparators_end (d ∷ ds) t))

all_comparators_fit : (cs : List Comparator) → AreWritten cs → list_all fits cs ≡ true
all_comparators_fit cs (one {c} h) = and_from (fits c) true h.fit refl
all_comparators_fit cs (more {c} {d} {cs = ds} h t) = and_from (fits c) _ h.fit (all_comparators_fit (d ∷ ds) t)

module _ (r : VersionRange) (h : IsWritableRange r) where
  pub range_no_bar : list_all is_no_bar (range_text r) ≡ true
  range_no_bar = comparators_pass is_no_bar solid_no_bar refl (shortest r) (shortest_written r h)

  pub range_starts : StartsSolid (range_text r)
  range_starts = comparators_start (shortest r) (shortest_written r h)

  pub range_ends : EndsSolid (range_text r)
  range_ends = comparators_end (shortest r) (shortest_written r h)

  pub range_fits : list_all fits (shortest r) ≡ true
  range_fits = all_comparators_fit (shortest r) (shortest_written r h)

-- ---- splits

pub bar_there : (a b : List ℕ) → list_all is_no_bar (a ++ (124 ∷ b)) ≡ true → ⊥
bar_there [] b h = let same_bits : false ≡ true = (and_parts false (list_all is_no_bar b) h).0 in cc same_bits
bar_there (x ∷ a) b h = bar_there a b (and_parts _ _ h).1

pub no_bar : (text : List ℕ) → list_all is_no_bar text ≡ true → HasNoBar text
no_bar text h = λ a b e. bar_there a (124 ∷ b) (rw e at h)

pub cut_at : (piece rest : List ℕ) → list_all is_no_bar piece ≡ true → IsCutAt (piece ++ (124 ∷ 124 ∷ rest)) piece rest
cut_at piece rest h = record { text_is = refl; leftmost = go }
  where
    go : (a b : List ℕ) → piece ++ (124 ∷ 124 ∷ rest) ≡ a ++ (124 ∷ 124 ∷ b) → length piece ≤ length a
    go a b e = elim (fronts piece a (124 ∷ 124 ∷ rest) (124 ∷ 124 ∷ b) e) [
      | same p q ↦ omega (arith, ap length p)
      | shorter x m p q ↦ omega (arith, ap length p, length-append piece (x ∷ m))
      | longer x m p q ↦ let bar : x ≡ 124 = cc in absurd (bar_there a m (rw (p, bar) at h))
    ]

one_trimmed : (text : List ℕ) → StartsSolid text → IsTrimmed (32 ∷ text) text
one_trimmed text s = record { longest = record { front = codes " "; text_is = refl; stands = one_whitespace.1; longest = go } }
  where
    short : (a b : List ℕ) → 32 ∷ text ≡ a ++ b → list_all is_whitespace_byte a ≡ true → length a ≤ 1
    short [] b e h = omega arith
    short (x ∷ []) b e h = omega arith
    short (x ∷ y ∷ a) b e h =
        let tail : text ≡ y ∷ (a ++ b) = cc in
        let byte : s.first ≡ y = cc (sym s.text_is ∙ tail) in
        absurd (solid_no_whitespace y (rw byte at s.solid) (and_parts _ _ (and_parts _ _ h).1).0)

    go : (a b : List ℕ) (w : Unit {0}) → 32 ∷ text ≡ a ++ b → IsWhitespace a w → (length a ≤ 1) × (length a ≡ 1 → w ≡ tt)
    go a b w e h = (short a b e (whitespace_made.made a w h), λ _. refl)

-- ---- sets

-- the text, with a space after it if more ranges follow
abbrev pub closed_before : List VersionRange → List ℕ → List ℕ
closed_before [] text = text
closed_before (r ∷ others) text = text ++ codes " "

-- the pieces of the text of these ranges
abbrev pub pieces_of : List VersionRange → List (List ℕ)
pieces_of [] = []
pieces_of (r ∷ others) = closed_before others (range_text r) ∷ pieces_of others

ranges_start : (r : VersionRange) (others : List VersionRange) → IsWritableRange r → StartsSolid (set_text (r ∷ others))
ranges_start r others h = starts_before (range_text r) _ (range_starts r h)

range_cut : (r q : VersionRange) (others : List VersionRange) → IsWritableRange r → IsCutAt (set_text (r ∷ q ∷ others)) (range_text r ++ codes " ") (32 ∷ set_text (q ∷ others))
range_cut r q others h =
    let clean : list_all is_no_bar (range_text r ++ codes " ") ≡ true = list_all-append is_no_bar (range_text r) (codes " ") (range_no_bar r h) refl in
    rw append_assoc at (cut_at (range_text r ++ codes " ") (32 ∷ set_text (q ∷ others)) clean)

more_pieces : (r : VersionRange) (others : List VersionRange) → AreWritableRanges (r ∷ others) → AreMorePieces (32 ∷ set_text (r ∷ others)) (pieces_of (r ∷ others))
more_pieces r [] h = rw append-nil (last_piece (one_trimmed (range_text r) (range_starts r h.0)) (some (range_starts r h.0)) (no_bar (range_text r) (range_no_bar r h.0)))
  where
    some : StartsSolid (range_text r) → 0 < length (range_text r)
    some s = omega (arith, ap length s.text_is)
more_pieces r (q ∷ others) h = cut_piece (one_trimmed (set_text (r ∷ q ∷ others)) (ranges_start r (q ∷ others) h.0)) (range_cut r q others h.0) (more_pieces q others h.1)

good_ones : (f : Flavour) (cut : IsCutting f) (b : Bool) (ranges : List VersionRange) → AreWritableRanges ranges → AreGoodOnes f b (pieces_of ranges) (map shortest ranges)
good_ones f cut b [] h = none_left
good_ones f cut b (r ∷ []) h = good (inl (range_piece f cut r h.0, range_fits r h.0)) none_left
good_ones f cut b (r ∷ q ∷ others) h = good (inl (range_piece_closed f cut r h.0, range_fits r h.0)) (good_ones f cut false (q ∷ others) h.1)

-- `<0.0.0`
none_written : IsWritten (ending kind.Exclusive (release 0 0 0))
none_written = ending_written kind.Exclusive (release 0 0 0) (record { numbers = record { major = omega arith; minor = omega arith; patch = omega arith }; pre = tt; build = tt })

none_text : comparator_text (ending kind.Exclusive (release 0 0 0)) ≡ codes "<0.0.0"
none_text = rw (decimal_digit 0 (omega arith)) refl

none_piece : (f : Flavour) → IsCutting f → IsPiece f (codes "<0.0.0") (ending kind.Exclusive (release 0 0 0) ∷ [])
none_piece f cut = rw (append-nil (comparator_text (ending kind.Exclusive (release 0 0 0))), none_text) at (filled f cut (ending kind.Exclusive (release 0 0 0) ∷ []) (one none_written))

as_many : (ranges : List VersionRange) → length (map shortest ranges) ≡ length (pieces_of ranges)
as_many [] = refl
as_many (r ∷ others) = ap suc (as_many others)

-- two ranges or more
many_outcome : (f : Flavour) → IsCutting f → (r q : VersionRange) (others : List VersionRange) → AreWritableRanges (r ∷ q ∷ others) → IsCutOutcome f (set_text (r ∷ q ∷ others)) (Ranges (map shortest (r ∷ q ∷ others)))
many_outcome f npm r q others h = npm_many (first_cut (range_cut r q others h.0) (more_pieces q others h.1)) (good_ones Npm npm true (r ∷ q ∷ others) h)
many_outcome f normal r q others h = normal_many (first_cut (range_cut r q others h.0) (more_pieces q others h.1)) (good_ones Normal normal true (r ∷ q ∷ others) h) (as_many (r ∷ q ∷ others))

-- the text of a set is split into the shortest forms of its ranges
pub cut_outcome : (f : Flavour) → IsCutting f → (ranges : List VersionRange) → AreWritableRanges ranges → IsCutOutcome f (set_text ranges) (Ranges (shortest_tree ranges))
cut_outcome f cut [] h = one_good (one_piece (no_bar (codes "<0.0.0") refl)) (inl (none_piece f cut, all_comparators_fit _ (one none_written)))
cut_outcome f cut (r ∷ []) h = rw append-nil (one_good (one_piece (no_bar (range_text r) (range_no_bar r h.0))) (inl (range_piece f cut r h.0, range_fits r h.0)))
cut_outcome f cut (r ∷ q ∷ others) h = many_outcome f cut r q others h

-- ---- nothing of a set's text is trimmed

-- a test that passes each byte of comparators, the space and the bars passes each byte of the text of a set
pub set_passes : (p : ℕ → Bool) → ((b : ℕ) → is_solid_byte b ≡ true → p b ≡ true) → p 32 ≡ true → list_all p (codes " || ") ≡ true → (ranges : List VersionRange) → AreWritableRanges ranges → list_all p (set_text ranges) ≡ true
set_passes p wider whitespace bars [] h = list_all-wider is_solid_byte p wider (codes "<0.0.0") refl
set_passes p wider whitespace bars (r ∷ []) h = rw append-nil (comparators_pass p wider whitespace (shortest r) (shortest_written r h.0))
set_passes p wider whitespace bars (r ∷ q ∷ others) h =
    list_all-append p (range_text r) _ (comparators_pass p wider whitespace (shortest r) (shortest_written r h.0)) (list_all-append p (codes " || ") (set_text (q ∷ others)) bars (set_passes p wider whitespace bars (q ∷ others) h.1))

set_starts : (ranges : List VersionRange) → AreWritableRanges ranges → StartsSolid (set_text ranges)
set_starts [] h = record { first = 60; rest = codes "0.0.0"; text_is = refl; solid = refl }
set_starts (r ∷ others) h = ranges_start r others h.0

set_ends : (ranges : List VersionRange) → AreWritableRanges ranges → EndsSolid (set_text ranges)
set_ends [] h = record { front = codes "<0.0."; last = 48; text_is = refl; solid = refl }
set_ends (r ∷ []) h = rw append-nil (range_ends r h.0)
set_ends (r ∷ q ∷ others) h = ends_after (range_text r) _ (ends_after (codes " || ") _ (set_ends (q ∷ others) h.1))

pub set_trimmed : (ranges : List VersionRange) → AreWritableRanges ranges → trim (set_text ranges) ≡ set_text ranges
set_trimmed ranges h = trim_same (set_text ranges) (set_passes is_ascii solid_ascii refl refl ranges h) (set_starts ranges h) (set_ends ranges h)

-- npm's and the normalized parser parse the text of a set to the shortest forms of its ranges
pub set_outcome : (f : Flavour) → IsCutting f → (ranges : List VersionRange) → AreWritableRanges ranges → IsOutcome f (set_text ranges) (Ranges (shortest_tree ranges))
set_outcome f npm ranges h = rw (set_trimmed ranges h) (cut_outcome Npm npm ranges h)
set_outcome f normal ranges h = cut_outcome Normal normal ranges h

-- ---- how many comparators a form has

record AreOneOrTwo (cs : List Comparator) : Type 0 where
  pub some : 0 < length cs
  pub at_most_two : length cs ≤ 2

either : (b : Bool) (cs ds : List Comparator) → AreOneOrTwo cs → AreOneOrTwo ds → AreOneOrTwo (if b then cs else ds)
either true cs ds h k = h
either false cs ds h k = k

one_is : (c : Comparator) → AreOneOrTwo (c ∷ [])
one_is c = record { some = omega arith; at_most_two = omega arith }

two_are : (c d : Comparator) → AreOneOrTwo (c ∷ d ∷ [])
two_are c d = record { some = omega arith; at_most_two = omega arith }

between_short : (i j : VersionBoundKind) (s e : Version) → AreOneOrTwo (shortest_between i j s e)
between_short kind.Inclusive kind.Inclusive s e = either (version_eq s e) _ _ (one_is _) (either (is_release_of s 0 0 0) _ _ (one_is _) (two_are _ _))
between_short kind.Inclusive kind.Exclusive s e =
    either (is_major s e) _ _ (one_is _)
    (either (is_minor s e) _ _ (one_is _)
    (either (is_tilde s e) _ _ (one_is _)
    (either (is_caret_patch s e) _ _ (one_is _)
    (either (is_caret_major s e) _ _ (one_is _)
    (either (is_release_of s 0 0 0) _ _ (one_is _) (two_are _ _))))))
between_short kind.Exclusive j s e = two_are _ _

bounds_short : (s e : RangeBound) → AreOneOrTwo (shortest_of s e)
bounds_short bound.Unbounded bound.Unbounded = one_is _
bounds_short bound.Unbounded (bound.Version e) = one_is _
bounds_short (bound.Version s) bound.Unbounded = one_is _
bounds_short (bound.Version s) (bound.Version e) = between_short s.kind e.kind s.version e.version

pub written_pieces : (ranges : List VersionRange) → AreWritableRanges ranges → AllByRecursion (λ range. IsOnePiece (range_text range) (shortest range)) ranges
written_pieces [] h = tt
written_pieces (r ∷ rs) h =
    let at_most_two = bounds_short r.start r.end in (
      record {
        no_bar = no_bar (range_text r) (range_no_bar r h.0);
        piece = λ f cut. range_piece f cut r h.0;
        some = at_most_two.some;
        at_most_two = at_most_two.at_most_two;
        fit = range_fits r h.0;
      },
      written_pieces rs h.1,
    )

pub none_written_as_piece : IsOnePiece (set_text []) (ending kind.Exclusive (release 0 0 0) ∷ [])
none_written_as_piece = record {
  no_bar = no_bar (codes "<0.0.0") refl;
  piece = none_piece;
  some = omega arith;
  at_most_two = omega arith;
  fit = all_comparators_fit _ (one none_written);
}
