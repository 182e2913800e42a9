-- A text has one outcome in each grammar.
use Rattle.std.proofs.Common.{◌≡◌, ◌<◌, ℕ, Bool, true, false, List, [], ◌∷◌, length, refl, sym, ap, ◌∙◌, arith, inl, inr, length-append}
use Rattle.std.specs.Str.{trim}
use Rattle.semver_base.specs.Comparators.{Comparator}
use Rattle.semver_base.specs.Grammar.{HasNone, IsLongest}
use Rattle.semver_base.specs.GrammarLaws.{one_front, same_fronts}
use Rattle.semver_req.specs.Comparators.{fits}
use Rattle.semver_req.specs.Outcome.{AreGoodOnes, IsBad, IsCutOutcome, IsGood, IsSpecifierOutcome, IsSpecifierRange, IsTagOr, Outcome, Ranges, TextsHaveOneOutcome, bad, good, left_over, no_fit, no_front, no_tag, none_left, normal_many, normal_rejected, npm_many, one_bad, one_good, tag, whole}
use Rattle.semver_req.specs.Pieces.{AreMorePieces, no_piece, last_piece, cut_piece, ArePieces, one_piece, first_cut, HasNoBar, IsCutAt, IsTrimmed}
use Rattle.semver_req.specs.declared.common.values.Flavour.{Flavour}
use Rattle.semver_req.specs.declared.common.values.Flavour.TheVariants.{Npm, Normal, Specifier}
use Rattle.semver_req.proofs.PieceReadings.{whitespace_piece, piece_one}

-- ---- how a text is split

pub cut_one : {text piece more rest end : List ℕ} → IsCutAt text piece rest → IsCutAt text more end → (piece ≡ more) × (rest ≡ end)
cut_one {text} {piece} {more} {rest} {end} p q =
    let even : length piece ≡ length more = omega (arith, p.leftmost more end q.text_is, q.leftmost piece rest p.text_is) in
    let both = same_fronts piece more (124 ∷ 124 ∷ rest) (124 ∷ 124 ∷ end) (sym p.text_is ∙ q.text_is) even in
    (both.0, cc (both.1))

pub no_cut : {T : Type 0} {text piece rest : List ℕ} → HasNoBar text → IsCutAt text piece rest → T
no_cut {piece = piece} {rest = rest} n c = absurd (n piece rest c.text_is)

pub trimmed_one : {text rest end : List ℕ} → IsTrimmed text rest → IsTrimmed text end → rest ≡ end
trimmed_one p q = (one_front p.longest q.longest).1

pub cut_some : {text piece rest : List ℕ} → IsCutAt text piece rest → 0 < length text
cut_some {piece = piece} {rest = rest} c = omega (arith, ap length c.text_is, length-append piece (124 ∷ 124 ∷ rest))

pub none_some : {T : Type 0} (text : List ℕ) → [] ≡ text → 0 < length text → T
none_some text e some = absurd (omega (arith, ap length e))

pub more_pieces_one : (x y : List ℕ) (ps qs : List (List ℕ)) → x ≡ y → AreMorePieces x ps → AreMorePieces y qs → ps ≡ qs
more_pieces_one x y ps qs e (no_piece t) (no_piece u) = refl
more_pieces_one x y ps qs e (no_piece t) (last_piece {piece = q} u some n) = none_some q (trimmed_one (rw e at t) u) some
more_pieces_one x y ps qs e (no_piece t) (cut_piece {start = r} u c m) = none_some r (trimmed_one (rw e at t) u) (cut_some c)
more_pieces_one x y ps qs e (last_piece {piece = p} t some n) (no_piece u) = none_some p (sym (trimmed_one (rw e at t) u)) some
more_pieces_one x y ps qs e (last_piece {piece = p} t some n) (last_piece {piece = q} u more o) = ap (λ z. z ∷ []) (trimmed_one (rw e at t) u)
more_pieces_one x y ps qs e (last_piece {piece = p} t some n) (cut_piece {start = r} u c m) = no_cut (rw (trimmed_one (rw e at t) u) at n) c
more_pieces_one x y ps qs e (cut_piece {start = r} t c m) (no_piece u) = none_some r (sym (trimmed_one (rw e at t) u)) (cut_some c)
more_pieces_one x y ps qs e (cut_piece {start = r} t c m) (last_piece {piece = q} u some n) = no_cut n (rw (trimmed_one (rw e at t) u) at c)
more_pieces_one x y ps qs e (cut_piece {start = r} {piece = p} {rest = a} {pieces = vs} t c m) (cut_piece {start = s} {piece = q} {rest = b} {pieces = ws} u d n) =
    let both = cut_one (rw (trimmed_one (rw e at t) u) at c) d in
    let others = more_pieces_one a b vs ws both.1 m n in
    cc (both.0, others)

pub pieces_one : {text : List ℕ} {b c : Bool} {ps qs : List (List ℕ)} → ArePieces text b ps → ArePieces text c qs → (b ≡ c) × (ps ≡ qs)
pieces_one (one_piece n) (one_piece m) = (refl, refl)
pieces_one (one_piece n) (first_cut d m) = no_cut n d
pieces_one (first_cut c m) (one_piece n) = no_cut n c
pieces_one (first_cut {piece = p} {rest = a} {pieces = vs} c m) (first_cut {piece = q} {rest = b} {pieces = ws} d n) =
    let both = cut_one c d in
    let others = more_pieces_one a b vs ws both.1 m n in
    (refl, cc (both.0, others))

-- ---- which pieces are valid

pub good_one : (f : Flavour) (b : Bool) (piece : List ℕ) (cs ds : List Comparator) → IsGood f b piece cs → IsGood f b piece ds → cs ≡ ds
good_one f b piece cs ds (inl h) (inl k) = (piece_one f).one piece cs ds h.0 k.0
good_one f b piece cs ds (inl h) (inr k) = whitespace_piece f piece cs h.0 k.1 ∙ sym k.2
good_one f b piece cs ds (inr h) (inl k) = h.2 ∙ sym (whitespace_piece f piece ds k.0 h.1)
good_one f b piece cs ds (inr h) (inr k) = h.2 ∙ sym k.2

good_ones_one : {f : Flavour} {b : Bool} {ps : List (List ℕ)} {t u : List (List Comparator)} → AreGoodOnes f b ps t → AreGoodOnes f b ps u → t ≡ u
good_ones_one none_left none_left = refl
good_ones_one {f = f} (good {b} {piece} {cs = cs} h m) (good {cs = ds} k n) =
    let heads = good_one f b piece cs ds h k in
    let tails = good_ones_one m n in
    cc (heads, tails)
good_ones_one (good {cs = cs} h m) (bad k n) = absurd (k cs h)
good_ones_one (bad h m) (good {cs = cs} k n) = absurd (h cs k)
good_ones_one (bad h m) (bad k n) = good_ones_one m n

-- ---- outcomes of a text that is split

one_tag : {text : List ℕ} {o u : Outcome} → IsTagOr text o → IsTagOr text u → o ≡ u
one_tag (tag f) (tag g) = refl
one_tag (tag f) (no_tag g) = cc
one_tag (no_tag f) (tag g) = cc
one_tag (no_tag f) (no_tag g) = refl

-- one text is split in one way
single : {text p q : List ℕ} {b c : Bool} → ArePieces text b (p ∷ []) → ArePieces text c (q ∷ []) → (b ≡ c) × (p ≡ q)
single h k = let both = pieces_one h k in (both.0, cc (both.1))

one_or_many : {T : Type 0} {text p q r : List ℕ} {more : List (List ℕ)} {b c : Bool} → ArePieces text b (p ∷ []) → ArePieces text c (q ∷ r ∷ more) → T
one_or_many h k = absurd (omega (arith, ap length (pieces_one h k).1))

good_or_bad : {T : Type 0} (f : Flavour) {text p q : List ℕ} {b c : Bool} {cs : List Comparator} → ArePieces text b (p ∷ []) → ArePieces text c (q ∷ []) → IsGood f b p cs → IsBad f c q → T
good_or_bad f {cs = cs} h k g n = let both = single h k in absurd (n cs (rw (both.0, both.1) at g))

many_one : {f : Flavour} {text : List ℕ} {b c : Bool} {ps qs : List (List ℕ)} {t u : List (List Comparator)} → ArePieces text b ps → ArePieces text c qs → AreGoodOnes f b ps t → AreGoodOnes f c qs u → (t ≡ u) × (ps ≡ qs)
many_one h k m n = let both = pieces_one h k in (good_ones_one (rw (both.0, both.1) at m) n, both.1)

tag_one : {p q : List ℕ} {o u : Outcome} → p ≡ q → IsTagOr (trim p) o → IsTagOr (trim q) u → o ≡ u
tag_one e i j = one_tag (rw e at i) j

-- all are valid or not
all_or_not : {T : Type 0} {f : Flavour} {text : List ℕ} {b c : Bool} {ps qs : List (List ℕ)} {t u : List (List Comparator)} → ArePieces text b ps → ArePieces text c qs → AreGoodOnes f b ps t → AreGoodOnes f c qs u → length t ≡ length ps → length u < length qs → T
all_or_not h k m n all less = let both = many_one h k m n in absurd (omega (arith, all, less, ap length both.0, ap length both.1))

cut_one_outcome : {f : Flavour} {text : List ℕ} {o u : Outcome} → IsCutOutcome f text o → IsCutOutcome f text u → o ≡ u
cut_one_outcome (one_good {f} {piece = p} {b} {cs} h g) (one_good {piece = q} {b = c} {cs = ds} k i) = let both = single h k in ap (λ z. Ranges (z ∷ [])) (good_one f c q cs ds (rw (both.0, both.1) at g) i)
cut_one_outcome (one_good {f} h g) (one_bad k n t) = good_or_bad f h k g n
cut_one_outcome (one_good h g) (npm_many k m) = one_or_many h k
cut_one_outcome (one_good h g) (normal_many k m all) = one_or_many h k
cut_one_outcome (one_good h g) (normal_rejected k m less) = one_or_many h k
cut_one_outcome (one_bad {f} h n t) (one_good k g) = good_or_bad f k h g n
cut_one_outcome (one_bad h n t) (one_bad k m u) = tag_one (single h k).1 t u
cut_one_outcome (one_bad h n t) (npm_many k m) = one_or_many h k
cut_one_outcome (one_bad h n t) (normal_many k m all) = one_or_many h k
cut_one_outcome (one_bad h n t) (normal_rejected k m less) = one_or_many h k
cut_one_outcome (npm_many h m) (one_good k g) = one_or_many k h
cut_one_outcome (npm_many h m) (one_bad k n t) = one_or_many k h
cut_one_outcome (npm_many h m) (npm_many k n) = ap Ranges (many_one h k m n).0
cut_one_outcome (normal_many h m all) (one_good k g) = one_or_many k h
cut_one_outcome (normal_many h m all) (one_bad k n t) = one_or_many k h
cut_one_outcome (normal_many h m all) (normal_many k n every) = ap Ranges (many_one h k m n).0
cut_one_outcome (normal_many h m all) (normal_rejected k n less) = all_or_not h k m n all less
cut_one_outcome (normal_rejected h m less) (one_good k g) = one_or_many k h
cut_one_outcome (normal_rejected h m less) (one_bad k n t) = one_or_many k h
cut_one_outcome (normal_rejected h m less) (normal_many k n all) = all_or_not k h n m all less
cut_one_outcome (normal_rejected h m less) (normal_rejected k n fewer) = refl

-- ---- outcomes of the strict parser

pub some_or_none : {V T : Type 0} {R : List ℕ → V → Type 0} {text rest : List ℕ} {v : V} → IsLongest R text v rest → HasNone R text → T
some_or_none {rest = rest} p n = absurd (n.none p.front rest _ p.text_is p.stands)

pub fits_or_not : {T : Type 0} {text rest more : List ℕ} {c d : Comparator} → IsLongest IsSpecifierRange text c rest → IsLongest IsSpecifierRange text d more → fits c ≡ true → fits d ≡ false → T
fits_or_not p q f g = absurd (let same = (one_front p q).0 in let h : true ≡ false = sym f ∙ (ap fits same ∙ g) in cc h)

pub whole_or_not : {T : Type 0} {text rest : List ℕ} {c d : Comparator} → IsLongest IsSpecifierRange text c [] → IsLongest IsSpecifierRange text d rest → 0 < length rest → T
whole_or_not p q some = absurd (omega (arith, some, ap length (one_front p q).1))

specifier_one_outcome : {text : List ℕ} {o u : Outcome} → IsSpecifierOutcome text o → IsSpecifierOutcome text u → o ≡ u
specifier_one_outcome (whole p f) (whole q g) = ap (λ c. Ranges ((c ∷ []) ∷ [])) (one_front p q).0
specifier_one_outcome (whole p f) (left_over q g some) = whole_or_not p q some
specifier_one_outcome (whole p f) (no_front n t) = some_or_none p n
specifier_one_outcome (whole p f) (no_fit q g t) = fits_or_not p q f g
specifier_one_outcome (left_over p f some) (whole q g) = whole_or_not q p some
specifier_one_outcome (left_over p f some) (left_over q g more) = refl
specifier_one_outcome (left_over p f some) (no_front n t) = some_or_none p n
specifier_one_outcome (left_over p f some) (no_fit q g t) = fits_or_not p q f g
specifier_one_outcome (no_front n t) (whole q g) = some_or_none q n
specifier_one_outcome (no_front n t) (left_over q g some) = some_or_none q n
specifier_one_outcome (no_front n t) (no_front m s) = one_tag t s
specifier_one_outcome (no_front n t) (no_fit q g s) = some_or_none q n
specifier_one_outcome (no_fit p f t) (whole q g) = fits_or_not q p g f
specifier_one_outcome (no_fit p f t) (left_over q g some) = fits_or_not q p g f
specifier_one_outcome (no_fit p f t) (no_front n s) = some_or_none p n
specifier_one_outcome (no_fit p f t) (no_fit q g s) = one_tag t s

-- ---- the three parsers

pub one_outcome : TextsHaveOneOutcome
one_outcome Npm text o p h k = cut_one_outcome h k
one_outcome Normal text o p h k = cut_one_outcome h k
one_outcome Specifier text o p h k = specifier_one_outcome h k
