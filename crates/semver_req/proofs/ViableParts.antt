-- From what the parsers answer to which prefixes are viable.
use Rattle.std.proofs.Common.{◌≡◌, ◌≤◌, ◌<◌, ◌+◌, ◌-◌, ℕ, Bool, true, false, List, [], ◌∷◌, ◌++◌, length, take, drop, refl, sym, ap, subst, ◌∙◌, arith, inl, inr, append_assoc, append-nil, length-append, ◌↔◌, ◌==◌, ◌&&◌, IsTrue, IsUtf8, codes, IsCharBoundary}
use Rattle.std.specs.List.{list_all, slice_range}
use Rattle.std.specs.Str.Parse.{digits_value}
use Rattle.std.proofs.lemmas.Bool.{and_from, and_parts, both_ways, cases_Bool, cases_lt}
use Rattle.std.proofs.lemmas.Bool.Decides.{nat_tests}
use Rattle.std.proofs.lemmas.List.{drop-take, length-take-le, nil_from_length, take-append-drop, take-append-le, take_all}
use Rattle.std.proofs.lemmas.List.Folds.{list_all-append}
use Rattle.std.proofs.lemmas.Str.{IsCharBoundary-start, IsUtf8-append, IsUtf8-between, IsUtf8-nil}
use Rattle.semver_base.specs.Comparators.{Bare, Caret, Comparator, Hyphen, OfPrimitive, Tilde}
use Rattle.semver_base.specs.Grammar.{HasNone}
use Rattle.semver_base.specs.PartialTable.{all_fit, number_fits}
use Rattle.semver_base.specs.declared.failure.Rejection.{Rejection}
use Rattle.semver_base.specs.declared.failure.Rejection.TheVariants.{UnexpectedCharacter}
use Rattle.semver_base.specs.declared.lexical.values.Measured.{Measured}
use Rattle.semver_base.specs.declared.lexical.values.Measured.TheVariants.{Fits, TooLarge}
use Rattle.semver_base.specs.declared.partial.Partial.{Partial}
use Rattle.semver_base.specs.declared.partial.XRange.{XRange}
use Rattle.semver_base.specs.declared.partial.XRange.TheVariants.{Wildcard, Val}
use Rattle.semver_base.specs.declared.range.VersionRange.{VersionRange}
use Rattle.semver_base.specs.GrammarLaws.{fronts, same, shorter, longer, same_fronts}
use Rattle.semver_req.specs.Comparators.{fits, numbers}
use Rattle.semver_req.specs.Outcome.{IsBad, IsGood, IsSpecifierRange}
use Rattle.semver_req.specs.Partials.{component_fits, partial_fits, sized_partial}
use Rattle.semver_req.specs.PieceReading.{IsPieceRead, IsPieceRejection, outside, large_number, large_bound, numbers_fit}
use Rattle.semver_req.specs.Pieces.{IsCutting, IsFilled, IsPiece}
use Rattle.semver_req.specs.Written.{IsFront, comparator_of}
use Rattle.semver_req.specs.declared.common.comparator.Written.{Written}
use Rattle.semver_req.specs.declared.common.values.Flavour.{Flavour}
use Rattle.semver_req.specs.declared.common.values.Flavour.TheVariants.{Npm, Normal, Specifier}
use Rattle.semver_req.specs.declared.range_set_or_tag.pieces.RangeOrInvalid.TheVariants as read
use Rattle.semver_req.specs.Sizes.{Sized, admits, is_in_grammar}
use Rattle.semver_req.specs.Viable.{HasPiece, HasRange, IsAnyPiece, IsPart, IsPieceOrCut, alone, cut, IsViablePrefix}
use Rattle.semver_req.specs.declared.error_places.Sizes.{Sizes}
use Rattle.semver_req.specs.declared.error_places.Sizes.TheVariants.{Any, Fitting}
use Rattle.semver_req.proofs.Endings.{ascii_text, filled_ended, piece_endings, range_begun, range_ended, range_endings, viable_by, whitespace_front}
use Rattle.semver_req.proofs.GrammarFacts.{free_list}
use Rattle.semver_req.proofs.GrammarTexts.{AreSizes, InComparator, InComponent, InPartial, filled_piece, front_below}
use Rattle.semver_req.proofs.RuleTexts.{Each, EndsBy}
use Rattle.semver_req.proofs.States.{Starts}
use Rattle.semver_req.proofs.PiecesRead.{numbers_of}
use Rattle.semver_req.proofs.Fitting.{comparator_all, numbers_all}
use Rattle.semver_req.proofs.PieceReadings.{piece_one}

-- ---- texts

abbrev pub one_digit : List ℕ
one_digit = codes "1"

pub starts_text : (m : List ℕ) → IsUtf8 m → Starts m
starts_text [] u = tt
starts_text (x ∷ m) u = (IsCharBoundary-start (x ∷ m) u).1 (omega arith)

-- ---- sizes of numbers

abbrev pub NumberIs : Sizes → ℕ → Type 0
NumberIs Any n = Unit {0}
NumberIs Fitting n = number_fits n ≡ true

fits_below : (n m : ℕ) → n ≤ m → number_fits m ≡ true → number_fits n ≡ true
fits_below n m le h = grind (arith, nat_tests)

pub sizes_are : (sizes : Sizes) → AreSizes (NumberIs sizes)
sizes_are Any = record { one = tt; shorter = λ x p u h. tt }
sizes_are Fitting = record { one = grind (arith, nat_tests); shorter = λ x p u h. fits_below (digits_value 10 (x ∷ p)) (digits_value 10 ((x ∷ p) ++ u)) (front_below x p u) h }

-- the numbers of each comparator are of these sizes
abbrev pub AreOf : Sizes → List Comparator → Type 0
AreOf sizes cs = Each (InComparator (NumberIs sizes)) cs

component_in : (x : XRange) → component_fits x ≡ true → InComponent (NumberIs Fitting) x
component_in Wildcard h = tt
component_in (Val n) h = h

in_component : (x : XRange) → InComponent (NumberIs Fitting) x → component_fits x ≡ true
in_component Wildcard h = refl
in_component (Val n) h = h

partial_in : (p : Partial) → all_fit (numbers p) ≡ true → InPartial (NumberIs Fitting) p
partial_in p h =
    let all = and_parts (component_fits p.major && component_fits p.minor) (component_fits p.patch) (sym (numbers_all p) ∙ h) in
    let two = and_parts (component_fits p.major) (component_fits p.minor) all.0 in
    (component_in p.major two.0, (component_in p.minor two.1, component_in p.patch all.1))

in_partial : (p : Partial) → InPartial (NumberIs Fitting) p → all_fit (numbers p) ≡ true
in_partial p h =
    numbers_all p ∙ and_from (component_fits p.major && component_fits p.minor) (component_fits p.patch) (and_from (component_fits p.major) (component_fits p.minor) (in_component p.major h.0) (in_component p.minor h.1.0)) (in_component p.patch h.1.1)

comparator_in : (c : Comparator) → numbers_fit c ≡ true → InComparator (NumberIs Fitting) c
comparator_in (Tilde p) h = partial_in p h
comparator_in (Caret p) h = partial_in p h
comparator_in (OfPrimitive kind p) h = partial_in p h
comparator_in (Bare p) h = partial_in p h
comparator_in (Hyphen p q) h = let both = and_parts (all_fit (numbers p)) (all_fit (numbers q)) (sym (list_all-append number_fits (numbers p) (numbers q)) ∙ h) in (partial_in p both.0, partial_in q both.1)

in_comparator : (c : Comparator) → InComparator (NumberIs Fitting) c → numbers_fit c ≡ true
in_comparator (Tilde p) h = in_partial p h
in_comparator (Caret p) h = in_partial p h
in_comparator (OfPrimitive kind p) h = in_partial p h
in_comparator (Bare p) h = in_partial p h
in_comparator (Hyphen p q) h = list_all-append number_fits (numbers p) (numbers q) ∙ and_from (all_fit (numbers p)) (all_fit (numbers q)) (in_partial p h.0) (in_partial q h.1)

list_in : (cs : List Comparator) → list_all numbers_fit cs ≡ true → AreOf Fitting cs
list_in [] h = tt
list_in (c ∷ cs) h = let both = and_parts (numbers_fit c) (list_all numbers_fit cs) h in (comparator_in c both.0, list_in cs both.1)

in_list : (cs : List Comparator) → AreOf Fitting cs → list_all numbers_fit cs ≡ true
in_list [] h = refl
in_list (c ∷ cs) h = and_from (numbers_fit c) (list_all numbers_fit cs) (in_comparator c h.0) (in_list cs h.1)

module _ (R : List ℕ → List Comparator → Type 0) {text : List ℕ} (cs : List Comparator) where
  pub unsized : (sizes : Sizes) → Sized sizes R text cs → R text cs × AreOf sizes cs
  unsized Any h = (h, free_list cs)
  unsized Fitting h = (h.0, list_in cs h.1)

  pub sized : (sizes : Sizes) → R text cs → AreOf sizes cs → Sized sizes R text cs
  sized Any h i = h
  sized Fitting h i = (h, in_list cs i)

-- ---- shorter prefixes of viable prefixes

pub two_parts : (text : List ℕ) (m n : ℕ) → m ≤ n → n ≤ length text → take m text ++ take (n - m) (drop m text) ≡ take n text
two_parts text m n le fits =
    let k : m + (n - m) ≡ n = omega arith in
    let first : take m text ≡ take m (take n text) = ap (take m) (sym (take-append-drop n text)) ∙ take-append-le m (take n text) (drop n text) (omega (arith, length-take-le n text fits)) in
    let second : drop m (take n text) ≡ take (n - m) (drop m text) = rw k at (drop-take m (n - m) text) in
    ap (λ t. t ++ take (n - m) (drop m text)) first ∙ (ap (λ t. take m (take n text) ++ t) (sym second) ∙ take-append-drop m (take n text))

module _ {V : Type 0} {R : List ℕ → V → Type 0} where
  pub shorter_viable : (text : List ℕ) (m n : ℕ) → IsUtf8 text → IsCharBoundary text m → IsCharBoundary text n → m ≤ n → IsViablePrefix R (take n text) → IsViablePrefix R (take m text)
  shorter_viable text m n u bm bn le v =
      record {
        more = take (n - m) (drop m text) ++ v.more;
        value = v.value;
        is_text = IsUtf8-append (take (n - m) (drop m text)) v.more (IsUtf8-between text m n u le bm bn) v.is_text;
        stands = subst (λ t. R t v.value) (ap (λ t. t ++ v.more) (sym (two_parts text m n le bn.0)) ∙ append_assoc (take m text) (take (n - m) (drop m text)) v.more) v.stands;
      }

  pub whole_viable : (text : List ℕ) (n : ℕ) → length text ≤ n → IsViablePrefix R (take n text) → IsViablePrefix R text
  whole_viable text n le v = rw (take_all n text le) at v

  pub none_viable : (text : List ℕ) (n : ℕ) → n ≤ 0 → IsViablePrefix R [] → IsViablePrefix R (take n text)
  none_viable text n le v = let z : n ≡ 0 = omega arith in rw z v

pub slice_front : (text : List ℕ) (n : ℕ) → slice_range text 0 n ≡ take n text
slice_front text n = let same_size : n - 0 ≡ n = omega arith in ap (λ k. take k text) same_size

-- the last boundary before middle
pub up_to : (text : List ℕ) (n front middle : ℕ) → ((i : ℕ) → front < i → i ≤ middle → IsCharBoundary text i → ⊥) → IsCharBoundary text n → n ≤ middle → n ≤ front
up_to text n front middle nearest b le = elim (cases_lt front n) [
  | inl less ↦ absurd (nearest n less le b)
  | inr there ↦ there
]

none_left : (rest : List ℕ) {b : Bool} → b ≡ (length rest == 0) → b ≡ true → length rest ≡ 0
none_left rest e h = grind (arith, nat_tests)

-- whether a partial version that was measured fits
admitted_fits : (p : Partial) (m : Measured Partial) → m ≡ sized_partial p → admits Fitting m ≡ true → partial_fits p ≡ true
admitted_fits p m e h = elim (cases_Bool (partial_fits p)) [
  | inl fit ↦ fit
  | inr over ↦ let large : m ≡ TooLarge = e ∙ rw over refl in cc (rw large at h)
]

fits_admitted : (p : Partial) (m : Measured Partial) → m ≡ sized_partial p → partial_fits p ≡ true → admits Fitting m ≡ true
fits_admitted p m e fit = let small : m ≡ Fits p = e ∙ rw fit refl in rw small refl

-- of a comparator whose partial version is admitted
pub admitted : (sizes : Sizes) (written : Written) (p : Partial) → written.partial ≡ sized_partial p → admits sizes written.partial ≡ true → AreOf sizes (comparator_of written.operator p ∷ [])
admitted Any written p seen h = free_list (comparator_of written.operator p ∷ [])
admitted Fitting written p seen h = (comparator_in (comparator_of written.operator p) (comparator_all written.operator p ∙ admitted_fits p written.partial seen h), tt)

-- ---- ranges of specifiers

pub none_range : (sizes : Sizes) {text : List ℕ} → HasNone IsSpecifierRange text → IsTrue false ↔ HasRange sizes text
none_range sizes {text} n = (λ t. cc t, λ h. let k = unsized (IsPart Specifier) h.0 sizes h.1 in absurd (n.none text [] k.0.value (sym (append-nil text)) k.0.stands))

-- of the range in front, if its numbers are admitted
pub front_range : (sizes : Sizes) {text rest : List ℕ} {written : Written} {b c : Bool} → b ≡ (length rest == 0) → c ≡ admits sizes written.partial → IsFront IsSpecifierRange text written rest → IsTrue (b && c) ↔ HasRange sizes text
front_range sizes {text} {rest} {written} {b} {c} e g f = (forward, backward)
  where
    it : Comparator
    it = comparator_of written.operator f.partial

    admitting : (s : Sizes) → AreOf s (it ∷ []) → admits s written.partial ≡ true
    admitting Any h = refl
    admitting Fitting h = fits_admitted f.partial written.partial f.seen (sym (comparator_all written.operator f.partial) ∙ in_comparator it h.0)

    forward : IsTrue (b && c) → HasRange sizes text
    forward t =
        let both = and_parts b c t in
        let nil : rest ≡ [] = nil_from_length rest (none_left rest e both.0) in
        let whole : text ≡ f.longest.front = f.longest.text_is ∙ (ap (λ t. f.longest.front ++ t) nil ∙ append-nil f.longest.front) in
        (it ∷ [], sized (IsPart Specifier) (it ∷ []) sizes (record { value = it; stands = rw whole f.longest.stands; is = refl }) (admitted sizes written f.partial f.seen (sym g ∙ both.1)))

    backward : HasRange sizes text → IsTrue (b && c)
    backward h =
        let k = unsized (IsPart Specifier) h.0 sizes h.1 in
        let longest = f.longest.longest text [] k.0.value (sym (append-nil text)) k.0.stands in
        let size : length rest ≡ 0 = omega (arith, longest.0, ap length f.longest.text_is, length-append f.longest.front rest) in
        let even : length text ≡ length f.longest.front = omega (arith, size, ap length f.longest.text_is, length-append f.longest.front rest) in
        let same : h.0 ≡ it ∷ [] = k.0.is ∙ ap (λ c. c ∷ []) (longest.1 even) in
        and_from b c (e ∙ rw size refl) (g ∙ admitting sizes (subst (AreOf sizes) same k.1))

pub range_viable : (sizes : Sizes) (front : List ℕ) → HasRange sizes front → IsViablePrefix (Sized sizes (IsPart Specifier)) front
range_viable sizes front h = record { more = []; value = h.0; is_text = IsUtf8-nil; stands = subst (λ t. Sized sizes (IsPart Specifier) t h.0) (sym (append-nil front)) h.1 }

pub range_with_viable : (sizes : Sizes) (front text : List ℕ) → text ≡ front ++ one_digit → HasRange sizes text → IsViablePrefix (Sized sizes (IsPart Specifier)) front
range_with_viable sizes front text e h = record { more = one_digit; value = h.0; is_text = ascii_text one_digit refl; stands = subst (λ t. Sized sizes (IsPart Specifier) t h.0) e h.1 }

pub range_with : (sizes : Sizes) (front text : List ℕ) → text ≡ front ++ one_digit → (HasRange sizes front → ⊥) → IsViablePrefix (Sized sizes (IsPart Specifier)) front → HasRange sizes text
range_with sizes front text e never v = let k = unsized (IsPart Specifier) v.value sizes v.stands in by (range_ended (NumberIs sizes) (sizes_are sizes) front v.more (starts_text v.more v.is_text) v.value k.0 k.1)
  where
    by : EndsBy (IsPart Specifier) (AreOf sizes) front range_endings → HasRange sizes text
    by (inl h) = absurd (never (h.0, sized (IsPart Specifier) h.0 sizes (subst (λ t. IsPart Specifier t h.0) (append-nil front) h.1) h.2))
    by (inr (inl h)) = (h.0, sized (IsPart Specifier) h.0 sizes (rw e h.1) h.2)
    by (inr (inr h)) = absurd h

-- ---- pieces

of_sizes : (sizes : Sizes) (cs : List Comparator) → list_all numbers_fit cs ≡ true → AreOf sizes cs
of_sizes Any cs h = free_list cs
of_sizes Fitting cs h = list_in cs h

pub good_piece : (f : Flavour) (sizes : Sizes) (followed : Bool) (text : List ℕ) {range : VersionRange} → IsPieceRead f followed text (read.Range range) → IsTrue true ↔ HasPiece f sizes followed text
good_piece f sizes followed text h = (λ t. by h.0 h.1, λ p. refl)
  where
    by : (cs : List Comparator) → IsGood f followed text cs → HasPiece f sizes followed text
    by cs (inl k) = (cs, sized (IsAnyPiece f followed) cs sizes (inl k.0) (of_sizes sizes cs (numbers_of cs k.1)))
    by cs (inr k) = ([], sized (IsAnyPiece f followed) [] sizes (inr (k.0, k.1, refl)) tt)

pub rejected_piece : (f : Flavour) (sizes : Sizes) (followed : Bool) (text : List ℕ) (rejection : Rejection) → IsBad f followed text × IsPieceRejection f text rejection → IsTrue (is_in_grammar sizes rejection) ↔ HasPiece f sizes followed text
rejected_piece f sizes followed text rejection h = go sizes rejection h.1
  where
    go : (s : Sizes) (r : Rejection) → IsPieceRejection f text r → IsTrue (is_in_grammar s r) ↔ HasPiece f s followed text
    go s r (outside none) = (λ t. never s t, λ p. absurd (no_piece p.0 (unsized (IsAnyPiece f followed) p.0 s p.1).0))
      where
        never : (s : Sizes) → IsTrue (is_in_grammar s UnexpectedCharacter) → HasPiece f s followed text
        never Any t = cc t
        never Fitting t = cc t

        no_piece : (cs : List Comparator) → IsAnyPiece f followed text cs → ⊥
        no_piece cs (inl k) = none cs k
        no_piece cs (inr k) = h.0 cs (inr k)
    go Any r (large_number cs k fits) = (λ t. (cs, inl k), λ p. refl)
    go Fitting r (large_number cs k fits) = (λ t. cc t, λ p. absurd (small p.0 p.1.0 p.1.1))
      where
        small : (ds : List Comparator) → IsAnyPiece f followed text ds → list_all numbers_fit ds ≡ true → ⊥
        small ds (inl l) i = both_ways (list_all numbers_fit cs) fits (ap (list_all numbers_fit) ((piece_one f).one text cs ds k l) ∙ i)
        small ds (inr l) i = h.0 ds (inr l)
    go Any r (large_bound cs k fits some) = (λ t. (cs, inl k), λ p. refl)
    go Fitting r (large_bound cs k fits some) = (λ t. (cs, (inl k, fits)), λ p. refl)

pub before_piece : (f : Flavour) (sizes : Sizes) (front bars piece : List ℕ) → front ≡ piece ++ bars → (b : Bool) → IsTrue b ↔ HasPiece f sizes true piece → IsTrue b ↔ ((p : List ℕ) × (front ≡ p ++ bars) × HasPiece f sizes true p)
before_piece f sizes front bars piece e b h = (λ t. (piece, e, h.0 t), backward)
  where
    backward : ((p : List ℕ) × (front ≡ p ++ bars) × HasPiece f sizes true p) → IsTrue b
    backward (p, k, i) =
        let even : length p ≡ length piece = omega (arith, ap length k, ap length e, length-append p bars, length-append piece bars) in
        let one_piece = (same_fronts p piece bars bars (sym k ∙ e) even).0 in
        h.1 (rw one_piece at i)

module _ (f : Flavour) (sizes : Sizes) (front : List ℕ) where
  -- a text of the grammar that begins with it
  begun : (more text : List ℕ) (cs : List Comparator) → IsUtf8 more → text ≡ front ++ more → IsPieceOrCut f text cs → AreOf sizes cs → IsViablePrefix (Sized sizes (IsPieceOrCut f)) front
  begun more text cs u e h i = record { more = more; value = cs; is_text = u; stands = sized (IsPieceOrCut f) cs sizes (subst (λ t. IsPieceOrCut f t cs) e h) i }

  pub piece_viable : HasPiece f sizes true front → IsViablePrefix (Sized sizes (IsPieceOrCut f)) front
  piece_viable (cs, h) = let k = unsized (IsAnyPiece f true) cs sizes h in begun (codes "||") (front ++ codes "||") cs (ascii_text (codes "||") refl) refl (cut k.0) k.1

  pub with_viable : (e : List ℕ) → IsUtf8 e → HasPiece f sizes false (front ++ e) → IsViablePrefix (Sized sizes (IsPieceOrCut f)) front
  with_viable e u (cs, h) = let k = unsized (IsAnyPiece f false) cs sizes h in by k.0 k.1
    where
      by : IsAnyPiece f false (front ++ e) cs → AreOf sizes cs → IsViablePrefix (Sized sizes (IsPieceOrCut f)) front
      by (inl h) i = begun e (front ++ e) cs u refl (alone h) i
      by (inr h) i = let no : false ≡ true = h.0 in cc no

  pub bar_viable : ((p : List ℕ) × (front ≡ p ++ codes "|") × HasPiece f sizes true p) → IsViablePrefix (Sized sizes (IsPieceOrCut f)) front
  bar_viable (p, e, (cs, h)) = let k = unsized (IsAnyPiece f true) cs sizes h in begun (codes "|") (p ++ codes "||") cs (ascii_text (codes "|") refl) (sym (ap (λ t. t ++ codes "|") e ∙ append_assoc p (124 ∷ []) (124 ∷ []))) (cut k.0) k.1

  pub bars_viable : ((p : List ℕ) × (front ≡ p ++ codes "||") × HasPiece f sizes true p) → IsViablePrefix (Sized sizes (IsPieceOrCut f)) front
  bars_viable (p, e, (cs, h)) = let k = unsized (IsAnyPiece f true) cs sizes h in begun [] (p ++ codes "||") cs IsUtf8-nil (sym (append-nil front ∙ e)) (cut k.0) k.1

-- a viable prefix is none of the first five only where it is the sixth
module _ (f : Flavour) (sizes : Sizes) (cuts : IsCutting f) (front : List ℕ) (no_piece : HasPiece f sizes true front → ⊥) (no_digit : HasPiece f sizes false (front ++ codes "1") → ⊥)
    (no_whitespace_digit : HasPiece f sizes false (front ++ codes " 1") → ⊥) (no_and : HasPiece f sizes false (front ++ codes "&") → ⊥)
    (no_bar : ((p : List ℕ) × (front ≡ p ++ codes "|") × HasPiece f sizes true p) → ⊥) where
  no_ending : EndsBy (IsFilled f) (AreOf sizes) front piece_endings → ⊥
  no_ending (inl h) = no_piece (h.0, sized (IsAnyPiece f true) h.0 sizes (inl (subst (λ t. IsPiece f t h.0) (append-nil front) (filled_piece f cuts (front ++ []) h.0 h.1))) h.2)
  no_ending (inr (inl h)) = no_digit (h.0, sized (IsAnyPiece f false) h.0 sizes (inl (filled_piece f cuts (front ++ codes "1") h.0 h.1)) h.2)
  no_ending (inr (inr (inl h))) = no_and (h.0, sized (IsAnyPiece f false) h.0 sizes (inl (filled_piece f cuts (front ++ codes "&") h.0 h.1)) h.2)
  no_ending (inr (inr (inr (inl h)))) = no_whitespace_digit (h.0, sized (IsAnyPiece f false) h.0 sizes (inl (filled_piece f cuts (front ++ codes " 1") h.0 h.1)) h.2)
  no_ending (inr (inr (inr (inr h)))) = h

  empty_front : (p more : List ℕ) → p ++ more ≡ [] → p ≡ []
  empty_front [] more h = refl
  empty_front (x ∷ p) more h = cc h

  in_piece : (more : List ℕ) (cs : List Comparator) → Starts more → IsPiece f (front ++ more) cs → AreOf sizes cs → ⊥
  in_piece more [] s h i = no_piece ([], sized (IsAnyPiece f true) [] sizes (inl (empty_front front more h)) tt)
  in_piece more (c ∷ cs) s h i = no_ending (filled_ended (NumberIs sizes) (sizes_are sizes) f cuts front more s (c ∷ cs) h i)

  before_bars : (piece more : List ℕ) (cs : List Comparator) → Starts more → piece ++ codes "||" ≡ front ++ more → IsAnyPiece f true piece cs → AreOf sizes cs → (p : List ℕ) × (front ≡ p ++ codes "||") × HasPiece f sizes true p
  before_bars piece more cs s e h i = elim (fronts front piece more (codes "||") (sym e)) [
    | same one_text two ↦ absurd (no_piece (cs, sized (IsAnyPiece f true) cs sizes (rw one_text h) i))
    | shorter x m one_text two ↦ absurd (inside x m h one_text (rw two at s))
    | longer x m one_text two ↦ behind x m one_text two
  ]
    where
      inside : (x : ℕ) (m : List ℕ) → IsAnyPiece f true piece cs → piece ≡ front ++ (x ∷ m) → Starts ((x ∷ m) ++ codes "||") → ⊥
      inside x m (inl k) g t = in_piece (x ∷ m) cs t (rw g at k) i
      inside x m (inr k) g t = no_piece ([], sized (IsAnyPiece f true) [] sizes (inr (refl, whitespace_front front (x ∷ m) t (rw g at k.1), refl)) tt)

      behind : (x : ℕ) (m : List ℕ) → front ≡ piece ++ (x ∷ m) → codes "||" ≡ (x ∷ m) ++ more → (p : List ℕ) × (front ≡ p ++ codes "||") × HasPiece f sizes true p
      behind x [] g k = let byte : x ≡ 124 = cc k in absurd (no_bar (piece, rw byte at g, (cs, sized (IsAnyPiece f true) cs sizes h i)))
      behind x (y ∷ []) g k = let first : x ≡ 124 = cc k in let second : y ≡ 124 = cc k in (piece, rw (first, second) at g, (cs, sized (IsAnyPiece f true) cs sizes h i))
      behind x (y ∷ z ∷ m) g k = cc k

  pub sixth : IsViablePrefix (Sized sizes (IsPieceOrCut f)) front → (p : List ℕ) × (front ≡ p ++ codes "||") × HasPiece f sizes true p
  sixth v = let k = unsized (IsPieceOrCut f) v.value sizes v.stands in by (front ++ v.more) v.value k.0 k.1 refl
    where
      by : (text : List ℕ) (cs : List Comparator) → IsPieceOrCut f text cs → AreOf sizes cs → text ≡ front ++ v.more → (p : List ℕ) × (front ≡ p ++ codes "||") × HasPiece f sizes true p
      by text cs (alone h) i e = absurd (in_piece v.more cs (starts_text v.more v.is_text) (rw e at h) i)
      by text cs (cut {piece} h) i e = before_bars piece v.more cs (starts_text v.more v.is_text) e h i

-- ---- the empty prefix

pub empty_part : (f : Flavour) (sizes : Sizes) → IsViablePrefix (Sized sizes (IsPart f)) []
empty_part Npm sizes = record { more = []; value = []; is_text = IsUtf8-nil; stands = sized (IsPart Npm) [] sizes (alone refl) tt }
empty_part Normal sizes = record { more = []; value = []; is_text = IsUtf8-nil; stands = sized (IsPart Normal) [] sizes (alone refl) tt }
empty_part Specifier sizes = viable_by (IsPart Specifier) (AreOf sizes) (Sized sizes (IsPart Specifier)) (λ t cs h i. sized (IsPart Specifier) cs sizes h i) [] range_endings refl (range_begun (NumberIs sizes) (sizes_are sizes))

-- ---- what the definition says
