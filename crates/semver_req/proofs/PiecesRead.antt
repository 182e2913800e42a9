-- What a piece parses to, and the pieces of a text.
use Rattle.std.proofs.Common.{◌≡◌, ◌≤◌, ◌<◌, ◌==◌, ℕ, Bool, true, false, List, [], ◌∷◌, ◌++◌, length, map, not, Option, Some, None, refl, sym, subst, ap, ap₂, ◌∙◌, inl, inr, arith, append-nil, length-append, option_to_list, ◌⊎◌, ◌↔◌, IsTrue, if◌then◌else◌}
use Rattle.std.proofs.lemmas.Bool.Decides.{nat_tests}
use Rattle.std.proofs.lemmas.List.{map-append, nil_from_length}
use Rattle.std.specs.List.{list_all}
use Rattle.std.specs.Option.{unwrap_or}
use Rattle.std.specs.Char.{is_not_whitespace}
use Rattle.std.proofs.lemmas.Str.{NoCharPasses-nil}
use Rattle.std.specs.Str.{trim}
use Rattle.std.proofs.lemmas.Bool.{and_from, and_parts}
use Rattle.std.proofs.lemmas.List.Elements.{filter-append}
use Rattle.semver_base.specs.Comparators.{Caret, Comparator, Hyphen, OfPrimitive, Bare, Tilde, comparator_range}
use Rattle.semver_base.specs.Grammar.{this, that, HasNone, IsLongest, Listed, last_item, closed_item, more_items}
use Rattle.semver_base.specs.Lexical.{IsWhitespace}
use Rattle.semver_base.specs.Overlap.{ends_at_zero}
use Rattle.semver_base.specs.declared.failure.Rejection.{Rejection}
use Rattle.semver_base.specs.declared.failure.Rejection.TheVariants.{BoundTooLarge, NumberTooLarge, UnexpectedCharacter}
use Rattle.semver_base.specs.declared.partial.Partial.{Partial}
use Rattle.semver_base.specs.declared.range.VersionRange.{VersionRange}
use Rattle.semver_base.specs.WhitespaceLaws.{whitespace_whole}
use Rattle.semver_req.specs.Comparators.{IsComparator, fits}
use Rattle.semver_req.specs.RetainedSet.{folded, retained, retained_range, without_none}
use Rattle.semver_req.specs.Outcome.{AreGoodOnes, none_left, good, bad, IsBad, IsGood, IsCutOutcome, one_good, one_bad, npm_many, normal_many, normal_rejected, IsTagOr, tag, no_tag, Outcome, Ranges, Tag, Rejected}
use Rattle.semver_req.specs.PieceReading.{IsFirstBad, this_bad, later_bad, IsCutRejection, is_out_of_memory, bad_piece, IsPieceRead, IsPieceRejection, outside, large_number, large_bound, as_retained, joined, retained_of, read_as, numbers_fit, sums_fit, rejection_failure}
use Rattle.semver_req.specs.PieceSteps.{AreAllRead, AreRead, IsEverything, IsFirstPiece, IsRejectionOf, IsWholeRead, first_rejection}
use Rattle.semver_req.specs.Pieces.{AreMorePieces, ArePieces, IsComparators, IsCutting, npm, normal, IsFilled, IsHyphen, IsPiece, IsTrimmed, no_piece}
use Rattle.semver_req.specs.Parsers.{Failure, IsCutReading, IsReading}
use Rattle.semver_req.specs.Tag.{is_valid_tag}
use Rattle.semver_req.specs.declared.common.values.Flavour.{Flavour}
use Rattle.semver_req.specs.declared.common.values.Flavour.TheVariants.{Npm, Normal, Specifier}
use Rattle.semver_req.specs.declared.range_set_or_tag.pieces.Alternatives.{Alternatives}
use Rattle.semver_req.specs.declared.range_set_or_tag.pieces.RangeOrInvalid.{RangeOrInvalid}
use Rattle.semver_req.specs.declared.range_set_or_tag.pieces.RangeOrInvalid.TheVariants as read
use Rattle.semver_req.specs.declared.range_set_or_tag.RangeSetOrTag.{RangeSetOrTag}
use Rattle.semver_req.specs.declared.range_set_or_tag.RangeSetOrTag.TheVariants as inner
use Rattle.semver_req.specs.Written.{IsFront, comparator_of}
use Rattle.semver_req.specs.declared.common.comparator.Written.{Written}
use Rattle.semver_req.proofs.GrammarParts.{comparator_partial}
use Rattle.semver_req.proofs.PieceReadings.{whitespace_piece, piece_one}

-- ---- one piece

pub followed_whitespace : (followed : Bool) (piece rest : List ℕ) (b : Bool) → followed ≡ true → b ≡ (length rest == 0) → IsLongest IsWhitespace piece tt rest → IsTrue b ↔ IsEverything followed piece
followed_whitespace followed piece rest b is e p = let whitespace = whitespace_whole piece rest b e p in (
  λ h. inr (is, whitespace.0 h),
  λ h. elim h [
    | inl nil ↦ whitespace.1 (rw nil (NoCharPasses-nil is_not_whitespace))
    | inr k ↦ whitespace.1 k.1
  ],
)

pub nothing_more : (followed : Bool) (piece : List ℕ) (b : Bool) → followed ≡ false → b ≡ (length piece == 0) → IsTrue b ↔ IsEverything followed piece
nothing_more followed piece b is e = (
  λ h. inl (nil_from_length piece (grind (arith, nat_tests))),
  λ h. elim h [
    | inl nil ↦ rw (e, nil) refl
    | inr k ↦ let both : false ≡ true = sym is ∙ k.0 in cc both
  ],
)

-- ---- whole texts

module _ {V : Type 0} {R : List ℕ → V → Type 0} {text : List ℕ} where
  pub none_whole : HasNone R text → (v : V) → R text v → ⊥
  none_whole n v h = n.none text [] v (sym (append-nil text)) h

  module _ {rest : List ℕ} {v : V} (p : IsLongest R text v rest) where
    pub whole_of : (length rest == 0) ≡ true → R text v
    whole_of empty =
        let nil : rest ≡ [] = nil_from_length rest (grind (arith, nat_tests)) in
        let whole : text ≡ p.front = p.text_is ∙ (ap (λ t. p.front ++ t) nil ∙ append-nil p.front) in
        rw whole p.stands

    pub more_follows : (length rest == 0) ≡ false → (w : V) → R text w → ⊥
    more_follows full w h =
        let some : 0 < length rest = grind (arith, nat_tests) in
        omega (arith, some, (p.longest text [] w (sym (append-nil text)) h).0, ap length p.text_is, length-append p.front rest)

-- ---- lists

-- no comparator of a list is a hyphen range
no_hyphen : (f : Flavour) (text : List ℕ) (p q : Partial) → IsComparator f text (Hyphen p q) → ⊥
no_hyphen f text p q h = elim (comparator_partial f text (Hyphen p q) h) [ ]

module _ (f : Flavour) where
  one_retained : (text : List ℕ) (c : Comparator) → IsComparator f text c → retained_range (c ∷ []) ≡ folded (map comparator_range (c ∷ []))
  one_retained text (Tilde p) h = refl
  one_retained text (Caret p) h = refl
  one_retained text (OfPrimitive kind p) h = refl
  one_retained text (Bare p) h = refl
  one_retained text (Hyphen p q) h = absurd (no_hyphen f text p q h)

  many_retained : (text : List ℕ) (c : Comparator) (cs : List Comparator) → IsComparators f text cs → retained_range (c ∷ cs) ≡ folded (map comparator_range (c ∷ cs))
  many_retained text (Tilde p) cs h = refl
  many_retained text (Caret p) cs h = refl
  many_retained text (OfPrimitive kind p) cs h = refl
  many_retained text (Bare p) cs h = refl
  many_retained text (Hyphen p q) cs (last_item a) = refl
  many_retained text (Hyphen p q) cs (closed_item a s) = refl
  many_retained text (Hyphen p q) cs (more_items a s more) = refl

  pub list_retained : {text : List ℕ} {cs : List Comparator} → IsComparators f text cs → retained_range cs ≡ folded (map comparator_range cs)
  list_retained (last_item {a} {v} h) = one_retained a v h
  list_retained (closed_item {a} {v} h s) = one_retained a v h
  list_retained (more_items {b} {v} {vs} h s more) = many_retained b v vs more

  -- one comparator and nothing more
  pub only_read : {piece rest : List ℕ} {written : Written} {answer : RangeOrInvalid} (front : IsFront (IsComparator f) piece written rest) → (length rest == 0) ≡ true
      → answer ≡ joined (comparator_of written.operator front.partial ∷ []) → IsWholeRead (IsComparators f) piece (Some answer)
  only_read {written = written} front empty seen =
      let cs = comparator_of written.operator front.partial ∷ [] in
      let whole : IsComparators f _ cs = last_item (whole_of front.longest empty) in
      (cs, whole, seen ∙ ap (read_as cs) (sym (list_retained whole)))

  -- comparators and nothing more
  pub list_read : {piece rest : List ℕ} {cs : List Comparator} {answer : RangeOrInvalid} → IsLongest (IsComparators f) piece cs rest → answer ≡ joined cs → (length rest == 0) ≡ true → IsWholeRead (IsComparators f) piece (Some answer)
  list_read {cs = cs} p seen empty = let whole = whole_of p empty in (cs, whole, seen ∙ ap (read_as cs) (sym (list_retained whole)))

-- ---- pieces that aren't empty

pub npm_list : {piece : List ℕ} {answer : RangeOrInvalid} → IsWholeRead (IsComparators Npm) piece (Some answer) → IsWholeRead (IsFilled Npm) piece (Some answer)
npm_list h = (h.0, that h.1, h.2)

pub npm_hyphen : {piece : List ℕ} {answer : RangeOrInvalid} → IsWholeRead IsHyphen piece (Some answer) → IsWholeRead (IsFilled Npm) piece (Some answer)
npm_hyphen h = (h.0, this h.1, h.2)

pub npm_hyphen_or_none : {piece : List ℕ} (r : Option RangeOrInvalid) → IsWholeRead (IsComparators Npm) piece None → IsWholeRead IsHyphen piece r → IsWholeRead (IsFilled Npm) piece r
npm_hyphen_or_none {piece} None no_list no_pair = go
  where
    go : (cs : List Comparator) → IsFilled Npm piece cs → ⊥
    go cs (this h) = no_pair cs h
    go cs (that h) = no_list cs h
npm_hyphen_or_none (Some answer) no_list h = npm_hyphen h

some_items : {V : Type 0} {A : List ℕ → V → Type 0} {S : List ℕ → Unit {0} → Type 0} {text : List ℕ} {vs : List V} → Listed A S text vs → [] ≡ vs → ⊥
some_items (last_item a) e = cc e
some_items (closed_item a s) e = cc e
some_items (more_items a s more) e = cc e

filled_piece : (f : Flavour) (text : List ℕ) (cs : List Comparator) → IsFilled f text cs → IsPiece f text cs
filled_piece f text (c ∷ cs) h = h
filled_piece Npm text [] (this h) = let is = h.is in cc is
filled_piece Npm text [] (that h) = absurd (some_items h refl)
filled_piece Normal text [] h = absurd (some_items h refl)
filled_piece Specifier text [] h = absurd h

fits_split : (cs : List Comparator) → list_all numbers_fit cs ≡ true → list_all sums_fit cs ≡ true → list_all fits cs ≡ true
fits_split [] h k = refl
fits_split (c ∷ cs) h k = and_from _ _
    (and_from _ _ (and_parts (numbers_fit c) _ h).0 (and_parts (sums_fit c) _ k).0)
    (fits_split cs (and_parts (numbers_fit c) _ h).1 (and_parts (sums_fit c) _ k).1)

pub numbers_of : (cs : List Comparator) → list_all fits cs ≡ true → list_all numbers_fit cs ≡ true
numbers_of [] h = refl
numbers_of (c ∷ cs) h = and_from _ _ (and_parts (numbers_fit c) _ (and_parts (fits c) _ h).0).0 (numbers_of cs (and_parts (fits c) _ h).1)

sums_of : (cs : List Comparator) → list_all fits cs ≡ true → list_all sums_fit cs ≡ true
sums_of [] h = refl
sums_of (c ∷ cs) h = and_from _ _ (and_parts (numbers_fit c) _ (and_parts (fits c) _ h).0).1 (sums_of cs (and_parts (fits c) _ h).1)

module _ (f : Flavour) (b : Bool) (piece : List ℕ) where
  -- a piece of comparators that fail a test which those that fit pass
  never_good : (cs : List Comparator) → IsPiece f piece cs → (p : List Comparator → Bool) → p cs ≡ false → p [] ≡ true → ((ds : List Comparator) → list_all fits ds ≡ true → p ds ≡ true) → IsBad f b piece
  never_good cs h p fails none passes = go
    where
      go : (ds : List Comparator) → IsGood f b piece ds → ⊥
      go ds (inl k) = let same = (piece_one f).one piece ds cs k.0 h in let wrong : true ≡ false = sym (passes ds k.1) ∙ (ap p same ∙ fails) in cc wrong
      go ds (inr k) = let same = whitespace_piece f piece cs h k.1 in let wrong : true ≡ false = sym none ∙ (ap p (sym same) ∙ fails) in cc wrong

  retained_read : (cs : List Comparator) → IsPiece f piece cs → IsPieceRead f b piece (as_retained cs)
  retained_read cs h = go (list_all numbers_fit cs) refl (list_all sums_fit cs) refl
    where
      go : (x : Bool) → list_all numbers_fit cs ≡ x → (y : Bool) → list_all sums_fit cs ≡ y
          → IsPieceRead f b piece (if x then (if y then read.Range (retained_range cs) else read.Invalid BoundTooLarge) else read.Invalid NumberTooLarge)
      go true numbers true sums = (cs, inl (h, fits_split cs numbers sums), refl)
      go true numbers false sums = (never_good cs h (list_all sums_fit) sums refl sums_of, large_bound cs h numbers sums)
      go false numbers y sums = (never_good cs h (list_all numbers_fit) numbers refl numbers_of, large_number cs h numbers)

  -- comparators that are the whole piece
  pub filled_read : {answer : RangeOrInvalid} → IsWholeRead (IsFilled f) piece (Some answer) → IsPieceRead f b piece answer
  filled_read h = subst (IsPieceRead f b piece) (sym h.2) (retained_read h.0 (filled_piece f piece h.0 h.1))

  -- no comparators, nor empty, nor whitespace followed by `||`
  outside_read : IsWholeRead (IsFilled f) piece None → (IsEverything b piece → ⊥) → IsPieceRead f b piece (read.Invalid UnexpectedCharacter)
  outside_read no_list other = (λ ds k. no_good ds k, outside no_piece)
    where
      no_piece : (cs : List Comparator) → IsPiece f piece cs → ⊥
      no_piece [] h = other (inl h)
      no_piece (c ∷ cs) h = no_list (c ∷ cs) h

      no_good : (ds : List Comparator) → IsGood f b piece ds → ⊥
      no_good ds (inl k) = no_piece ds k.0
      no_good ds (inr k) = other (inr (k.0, k.1))

  -- one or the other
  pub filled_or_outside : (r : Option RangeOrInvalid) → IsWholeRead (IsFilled f) piece r → (IsEverything b piece → ⊥) → IsPieceRead f b piece (unwrap_or r (read.Invalid UnexpectedCharacter))
  filled_or_outside None h other = outside_read h other
  filled_or_outside (Some answer) h other = filled_read h

-- ---- the pieces of a text

module _ {f : Flavour} where
  goods_more : {ps ms : List (List ℕ)} {t u : List (List Comparator)} → AreGoodOnes f false ps t → AreGoodOnes f false ms u → AreGoodOnes f false (ps ++ ms) (t ++ u)
  goods_more none_left n = n
  goods_more (good g m) n = good g (goods_more m n)
  goods_more (bad g m) n = bad g (goods_more m n)

  goods_after : {b : Bool} {p : List ℕ} {ps ms : List (List ℕ)} {t u : List (List Comparator)} → AreGoodOnes f b (p ∷ ps) t → AreGoodOnes f false ms u → AreGoodOnes f b ((p ∷ ps) ++ ms) (t ++ u)
  goods_after (good g m) n = good g (goods_more m n)
  goods_after (bad g m) n = bad g (goods_more m n)

  goods_short : {b : Bool} {ps : List (List ℕ)} {t : List (List Comparator)} → AreGoodOnes f b ps t → length t ≤ length ps
  goods_short none_left = omega arith
  goods_short (good g m) = let fewer = goods_short m in omega arith
  goods_short (bad g m) = let fewer = goods_short m in omega arith

  first_stays : {b : Bool} {ps : List (List ℕ)} {rejection : Rejection} (ms : List (List ℕ)) → IsFirstBad f b ps rejection → IsFirstBad f b (ps ++ ms) rejection
  first_stays ms (this_bad g r) = this_bad g r
  first_stays ms (later_bad cs g m) = later_bad cs g (first_stays ms m)

  -- all pieces so far are valid, and the next one isn't
  first_more : {ps : List (List ℕ)} {t : List (List Comparator)} {piece : List ℕ} {rejection : Rejection} → AreGoodOnes f false ps t → length t ≡ length ps → IsBad f false piece → IsPieceRejection f piece rejection → IsFirstBad f false (ps ++ piece ∷ []) rejection
  first_more none_left e g r = this_bad g r
  first_more (good {cs = cs} h m) e g r = later_bad cs h (first_more m (omega (arith, e)) g r)
  first_more (bad h m) e g r = absurd (let fewer = goods_short m in omega (arith, e, fewer))

  first_after : {b : Bool} {p : List ℕ} {ps : List (List ℕ)} {t : List (List Comparator)} {piece : List ℕ} {rejection : Rejection} → AreGoodOnes f b (p ∷ ps) t → length t ≡ length (p ∷ ps) → IsBad f false piece → IsPieceRejection f piece rejection → IsFirstBad f b ((p ∷ ps) ++ piece ∷ []) rejection
  first_after (good {cs = cs} h m) e g r = later_bad cs h (first_more m (omega (arith, e)) g r)
  first_after (bad h m) e g r = absurd (let fewer = goods_short m in omega (arith, e, fewer))

-- ---- one piece more

without_one : (range : VersionRange) → without_none (range ∷ []) ≡ option_to_list (retained_of (read.Range range))
without_one range = go (ends_at_zero range.end)
  where
    go : (b : Bool) → (if not b then range ∷ [] else []) ≡ option_to_list (if b then None else Some range)
    go true = refl
    go false = refl

-- the two parsers that split a text keep the same of a tree
retained_without : (f : Flavour) → IsCutting f → (tree : List (List Comparator)) → retained f tree ≡ without_none (map retained_range tree)
retained_without Npm npm tree = refl
retained_without Normal normal tree = refl
retained_without Specifier cutting tree = elim cutting [ ]

retained_added : (tree : List (List Comparator)) (cs : List Comparator) → without_none (map retained_range (tree ++ cs ∷ [])) ≡ without_none (map retained_range tree) ++ option_to_list (retained_of (read.Range (retained_range cs)))
retained_added tree cs =
    ap without_none (map-append retained_range tree (cs ∷ []))
    ∙ filter-append (λ range. not (ends_at_zero range.end)) (map retained_range tree) (retained_range cs ∷ [])
    ∙ ap (λ (rest : List VersionRange). without_none (map retained_range tree) ++ rest) (without_one (retained_range cs))

retained_more : (f : Flavour) → IsCutting f → (tree : List (List Comparator)) (cs : List Comparator) → retained f (tree ++ cs ∷ []) ≡ retained f tree ++ option_to_list (retained_of (read.Range (retained_range cs)))
retained_more f cutting tree cs =
    retained_without f cutting (tree ++ cs ∷ [])
    ∙ retained_added tree cs
    ∙ ap (λ (rest : List VersionRange). rest ++ option_to_list (retained_of (read.Range (retained_range cs)))) (sym (retained_without f cutting tree))

module _ (f : Flavour) (b : Bool) (p : List ℕ) (ps : List (List ℕ)) (piece : List ℕ) (tree : List (List Comparator)) where
  reported_good : (o : Option Rejection) → IsRejectionOf f b (p ∷ ps) tree o → (cs : List Comparator) → IsRejectionOf f b ((p ∷ ps) ++ piece ∷ []) (tree ++ cs ∷ []) o
  reported_good None reported cs = omega (arith, reported, length-append tree (cs ∷ []), length-append ps (piece ∷ []))
  reported_good (Some rejection) reported cs = (omega (arith, reported.0, length-append tree (cs ∷ []), length-append ps (piece ∷ [])), first_stays (piece ∷ []) reported.1)

  reported_bad : AreGoodOnes f b (p ∷ ps) tree → (o : Option Rejection) → IsRejectionOf f b (p ∷ ps) tree o → (rejection : Rejection) → IsBad f false piece → IsPieceRejection f piece rejection
      → IsRejectionOf f b ((p ∷ ps) ++ piece ∷ []) tree (first_rejection o (read.Invalid rejection))
  reported_bad goods None reported rejection g r = (omega (arith, reported, length-append ps (piece ∷ [])), first_after goods reported g r)
  reported_bad goods (Some first) reported rejection g r = (omega (arith, reported.0, length-append ps (piece ∷ [])), first_stays (piece ∷ []) reported.1)

pub reported_same : (o : Option Rejection) (range : VersionRange) → first_rejection o (read.Range range) ≡ o
reported_same None range = refl
reported_same (Some rejection) range = refl

none_only : (p : List ℕ) (ps : List (List ℕ)) (piece : List ℕ) → false ≡ (length ((p ∷ ps) ++ piece ∷ []) == 1)
none_only p ps piece = let more : 0 < length (ps ++ piece ∷ []) = omega (arith, length-append ps (piece ∷ [])) in grind (arith, nat_tests)

-- a further piece is parsed
pub read_more : {f : Flavour} → IsCutting f → (b : Bool) (p : List ℕ) (ps : List (List ℕ)) (old new : Alternatives) (piece : List ℕ) (answer : RangeOrInvalid)
    → AreRead f b (p ∷ ps) old → IsPieceRead f false piece answer
    → new.ranges ≡ old.ranges ++ option_to_list (retained_of answer) → new.rejected ≡ first_rejection old.rejected answer → new.is_only ≡ false → AreRead f b ((p ∷ ps) ++ piece ∷ []) new
read_more {f} cutting b p ps old new piece (read.Range range) all h ranges rejected only = record {
  tree = all.tree ++ h.0 ∷ [];
  good_ones = goods_after all.good_ones (good h.1 none_left);
  retained = ranges ∙ (ap₂ (λ (xs : List VersionRange) (r : VersionRange). xs ++ option_to_list (retained_of (read.Range r))) all.retained h.2 ∙ sym (retained_more f cutting all.tree h.0));
  reported = subst (IsRejectionOf f b ((p ∷ ps) ++ piece ∷ []) (all.tree ++ h.0 ∷ [])) (sym (rejected ∙ reported_same old.rejected range)) (reported_good f b p ps piece all.tree old.rejected all.reported h.0);
  is_only = only ∙ none_only p ps piece;
}
read_more {f} cutting b p ps old new piece (read.Invalid rejection) all h ranges rejected only = record {
  tree = all.tree;
  good_ones = rw append-nil at (goods_after all.good_ones (bad h.0 none_left));
  retained = ranges ∙ (append-nil old.ranges ∙ all.retained);
  reported = subst (IsRejectionOf f b ((p ∷ ps) ++ piece ∷ []) all.tree) (sym rejected) (reported_bad f b p ps piece all.tree all.good_ones old.rejected all.reported rejection h.0 h.1);
  is_only = only ∙ none_only p ps piece;
}

-- the first piece is parsed
pub read_first : {f : Flavour} → IsCutting f → (b : Bool) (new : Alternatives) (piece : List ℕ) (answer : RangeOrInvalid) → IsPieceRead f b piece answer
    → new.ranges ≡ option_to_list (retained_of answer) → new.rejected ≡ first_rejection None answer → new.is_only ≡ true → AreRead f b (piece ∷ []) new
read_first {f} cutting b new piece (read.Range range) h ranges rejected only = record {
  tree = h.0 ∷ [];
  good_ones = good h.1 none_left;
  retained = ranges ∙ (ap (λ (r : VersionRange). option_to_list (retained_of (read.Range r))) h.2 ∙ (sym (without_one (retained_range h.0)) ∙ sym (retained_without f cutting (h.0 ∷ []))));
  reported = subst (IsRejectionOf f b (piece ∷ []) (h.0 ∷ [])) (sym rejected) refl;
  is_only = only;
}
read_first {f} cutting b new piece (read.Invalid rejection) h ranges rejected only =
    let none_good : IsRejectionOf f b (piece ∷ []) [] (Some rejection) = (omega arith, this_bad h.0 h.1) in
    record {
      tree = [];
      good_ones = bad h.0 none_left;
      retained = ranges ∙ sym (retained_without f cutting []);
      reported = subst (IsRejectionOf f b (piece ∷ []) []) (sym rejected) none_good;
      is_only = only;
    }

-- ---- the text

one_tree : {f : Flavour} {text p : List ℕ} {b : Bool} {t : List (List Comparator)} → AreGoodOnes f b (p ∷ []) t → length t ≡ 1 → ArePieces text b (p ∷ []) → IsCutOutcome f text (Ranges t)
one_tree (good g none_left) size k = one_good k g
one_tree (bad g none_left) size k = absurd (omega (arith, size))

one_rejected : {f : Flavour} {text p : List ℕ} {b : Bool} {t : List (List Comparator)} → AreGoodOnes f b (p ∷ []) t → length t < 1 → ArePieces text b (p ∷ []) → (o : Outcome) → IsTagOr (trim p) o → IsCutOutcome f text o
one_rejected (good g none_left) fewer k o t = absurd (omega (arith, fewer))
one_rejected (bad g none_left) fewer k o t = one_bad k g t

only_one : (p : List ℕ) (others : List (List ℕ)) → (length (p ∷ others) == 1) ≡ true → others ≡ []
only_one p others e = nil_from_length others (grind (arith, nat_tests))

module _ {f : Flavour} {text piece rest : List ℕ} {b : Bool} {all : Alternatives} (first : IsFirstPiece text piece b rest) (h : AreAllRead f piece b rest all) where
  pieces : ArePieces text b (piece ∷ h.others)
  pieces = first h.others h.more

  -- no piece is invalid
  good_outcome : ((q : List ℕ) (more : List (List ℕ)) → ArePieces text b (piece ∷ q ∷ more) → AreGoodOnes f b (piece ∷ q ∷ more) h.read.tree → length h.read.tree ≡ length (piece ∷ q ∷ more) → IsCutOutcome f text (Ranges h.read.tree))
      → all.rejected ≡ None → IsCutOutcome f text (Ranges h.read.tree)
  good_outcome many none = go h.others pieces h.read.good_ones (rw none at h.read.reported)
    where
      go : (others : List (List ℕ)) → ArePieces text b (piece ∷ others) → AreGoodOnes f b (piece ∷ others) h.read.tree → length h.read.tree ≡ length (piece ∷ others) → IsCutOutcome f text (Ranges h.read.tree)
      go [] k m size = one_tree m size k
      go (q ∷ more) k m size = many q more k m size

  -- two or more pieces
  many_outcome : {o : Outcome} → ((q : List ℕ) (more : List (List ℕ)) → ArePieces text b (piece ∷ q ∷ more) → AreGoodOnes f b (piece ∷ q ∷ more) h.read.tree → h.others ≡ q ∷ more → IsCutOutcome f text o) → all.is_only ≡ false → IsCutOutcome f text o
  many_outcome {o} many more = go h.others refl pieces h.read.good_ones (sym h.read.is_only ∙ more)
    where
      go : (others : List (List ℕ)) → h.others ≡ others → ArePieces text b (piece ∷ others) → AreGoodOnes f b (piece ∷ others) h.read.tree → (length (piece ∷ others) == 1) ≡ false → IsCutOutcome f text o
      go [] is k m e = cc e
      go (q ∷ more) is k m e = many q more k m is

  module _ {rejection : Rejection} (some : all.rejected ≡ Some rejection) where
    reported : (length h.read.tree < length (piece ∷ h.others)) × IsFirstBad f b (piece ∷ h.others) rejection
    reported = rw some at h.read.reported

    pub first_rejected : {failure : Failure} → (failure ≡ None) ⊎ (failure ≡ rejection_failure rejection) → IsCutRejection f text failure
    first_rejected (inl e) = rw e is_out_of_memory
    first_rejected (inr e) = rw e (bad_piece pieces reported.1)

    tag_outcome : all.is_only ≡ true → (o : Outcome) → IsTagOr (trim piece) o → IsCutOutcome f text o
    tag_outcome only o t =
        let nil = only_one piece h.others (sym h.read.is_only ∙ only) in
        one_rejected (rw nil at h.read.good_ones) (rw nil at reported.0) (rw nil at pieces) o t

-- ---- the result for a text

-- no piece is left
pub all_read : {f : Flavour} {piece rest left : List ℕ} {b : Bool} {others : List (List ℕ)} {all : Alternatives} → ((more : List (List ℕ)) → AreMorePieces left more → AreMorePieces rest (others ++ more)) → AreRead f b (piece ∷ others) all
    → IsTrimmed left [] → AreAllRead f piece b rest all
all_read {others = others} joins read none = record { others = others; more = subst (AreMorePieces _) (append-nil others) (joins [] (no_piece none)); read = read }

module _ {f : Flavour} {text piece rest : List ℕ} {b : Bool} {all : Alternatives} (first : IsFirstPiece text piece b rest) (h : AreAllRead f piece b rest all) where
  ranges_reading : {answer : RangeSetOrTag} → IsCutOutcome f text (Ranges h.read.tree) → answer ≡ inner.RangeSet (record { 0 = all.ranges }) → IsCutReading f text answer
  ranges_reading o is = record {
    outcome = Ranges h.read.tree;
    is_outcome = o;
    is_read = is ∙ ap (λ (ranges : List VersionRange). inner.RangeSet (record { 0 = ranges })) h.read.retained;
  }

  module _ {rejection : Rejection} (some : all.rejected ≡ Some rejection) (only : all.is_only ≡ true) where
    pub tag_read : (answer : RangeSetOrTag) → (answer ≡ inner.Tag (trim piece)) × (is_valid_tag (trim piece) ≡ true) → IsCutReading f text answer
    tag_read answer t = record { outcome = Tag (trim piece); is_outcome = tag_outcome first h some only (Tag (trim piece)) (tag t.1); is_read = t.0 }

    pub tag_rejected : is_valid_tag (trim piece) ≡ false → IsCutOutcome f text Rejected
    tag_rejected invalid = tag_outcome first h some only Rejected (no_tag invalid)

-- no piece is invalid
pub valid_ranges : {f : Flavour} (cutting : IsCutting f) {text piece rest : List ℕ} {b : Bool} {all : Alternatives} {answer : RangeSetOrTag} → IsFirstPiece text piece b rest → AreAllRead f piece b rest all
    → all.rejected ≡ None → answer ≡ inner.RangeSet (record { 0 = all.ranges }) → IsCutReading f text answer
valid_ranges npm first h none is = ranges_reading first h (good_outcome first h (λ q more k m size. npm_many k m) none) is
valid_ranges normal first h none is = ranges_reading first h (good_outcome first h (λ q more k m size. normal_many k m size) none) is

-- the normalized parser rejects a text of two or more pieces for an invalid one
pub many_rejected : {text piece rest : List ℕ} {b : Bool} {all : Alternatives} {rejection : Rejection} → IsFirstPiece text piece b rest → AreAllRead Normal piece b rest all
    → all.rejected ≡ Some rejection → all.is_only ≡ false → IsCutOutcome Normal text Rejected
many_rejected first h some more = many_outcome first h (λ q others k m is. normal_rejected k m (rw is at (reported first h some).0)) more

-- and npm's leaves it out
pub many_ranges : {text piece rest : List ℕ} {b : Bool} {all : Alternatives} {answer : RangeSetOrTag} → IsFirstPiece text piece b rest → AreAllRead Npm piece b rest all
    → all.is_only ≡ false → answer ≡ inner.RangeSet (record { 0 = all.ranges }) → IsCutReading Npm text answer
many_ranges first h more is = ranges_reading first h (many_outcome first h (λ q others k m e. npm_many k m) more) is

pub only_normal : (f : Flavour) → IsCutting f → (f ≡ Npm → ⊥) → f ≡ Normal
only_normal f npm other = absurd (other refl)
only_normal f normal other = refl

-- ---- the text of each grammar

pub normal_reading : {text : List ℕ} (answer : RangeSetOrTag) → IsCutReading Normal text answer → IsReading Normal text answer
normal_reading answer h = record { outcome = h.outcome; is_outcome = h.is_outcome; is_read = h.is_read }

pub npm_reading : {text : List ℕ} (answer : RangeSetOrTag) → IsCutReading Npm (trim text) answer → IsReading Npm text answer
npm_reading answer h = record { outcome = h.outcome; is_outcome = h.is_outcome; is_read = h.is_read }
