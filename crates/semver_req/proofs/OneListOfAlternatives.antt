-- A text has one list of alternatives, so one list of errors.
use Rattle.std.proofs.Common.{◌≡◌, ◌∙◌, ◌<◌, ◌+◌, ◌-◌, ◌↔◌, ℕ, Bool, true, false, IsTrue, List, [], ◌∷◌, ◌++◌, length, map, ◌⊎◌, Option, Some, None, IfSome, Ok, Err, refl, sym, ap, arith, inl, inr, append_assoc, append-nil, drop, take}
use Rattle.std.specs.Str.{NonePass, encode_utf8_all, trim}
use Rattle.std.specs.Str.Pattern.{HasCharAt}
use Rattle.std.specs.Char.{encode_utf8}
use Rattle.std.specs.Cmp.{both_ways as one_truth}
use Rattle.std.proofs.lemmas.Bool.{both_ways}
use Rattle.std.proofs.lemmas.List.{length-take-le, take-append-drop}
use Rattle.std.proofs.lemmas.Str.{cons_from_encodes, encode_same}
use Rattle.semver_base.specs.Comparators.{Comparator, comparator_range}
use Rattle.semver_base.specs.Grammar.{IsLongest}
use Rattle.semver_base.specs.GrammarLaws.{one_front}
use Rattle.semver_base.specs.ValueLaws.{in_place}
use Rattle.semver_base.specs.declared.failure.Rejection.{Rejection}
use Rattle.semver_req.specs.Causes.{IsBoundAt, IsCauseAt, IsFirstOutsideTag, IsFirstOverflow, IsRejected, IsStrictRejection, bound_too_large, comparator, empty, followed, front_bound, front_number, hyphen_range, is_outside_tag, later_overflows, no_range, no_tag, overflows, rejection_of, this_overflows, too_large, unexpected, whitespace}
use Rattle.semver_req.specs.Comparators.{fits}
use Rattle.semver_req.specs.Alternatives.{AreMoreAlternatives, AreSplit, AreTrimmed, IsAlternative, IsErrorOf, IsParsedPiece, IsStrictlyParsed, IsWhole, TextsHaveOneListOfAlternatives, TextsHaveOneListOfErrors, cut_piece, errors_of, expectation, first_cut, is_whole, last_piece, no_piece, one_piece, parsed_as, reported, told, with_error}
use Rattle.semver_req.specs.Kinds.{AreExpected, IsExpectation, IsExpected, itself, kind_text, may_follow, may_not, no_kind}
use Rattle.semver_req.specs.Outcome.{IsSpecifierRange}
use Rattle.semver_req.specs.PieceReading.{numbers_fit}
use Rattle.semver_req.specs.Pieces.{IsHyphen}
use Rattle.semver_req.specs.Viable.{IsErrorPlace}
use Rattle.semver_req.specs.declared.common.values.Flavour.{Flavour}
use Rattle.semver_req.specs.declared.common.values.Flavour.TheVariants.{Npm, Normal, Specifier}
use Rattle.semver_req.specs.declared.error_places.causes.Cause.{Cause}
use Rattle.semver_req.specs.declared.error_places.causes.Cause.TheVariants.{Unexpected}
use Rattle.semver_req.specs.declared.error_places.expected.Expected.{Expected}
use Rattle.semver_req.specs.declared.error_places.expected.Kind.{Kind}
use Rattle.semver_req.specs.declared.error_places.pieces.Alternative.{Alternative}
use Rattle.semver_req.specs.declared.error_places.pieces.InvalidPiece.{InvalidPiece}
use Rattle.semver_req.specs.declared.error_places.pieces.Parsed.{Parsed}
use Rattle.semver_req.specs.declared.error_places.pieces.Parsed.TheVariants.{Range, Invalid}
use Rattle.semver_req.specs.declared.range_set_or_tag.pieces.RangeOrInvalid.TheVariants as read
use Rattle.semver_req.proofs.ComparatorReadings.{comparator_one}
use Rattle.semver_req.proofs.GrammarFacts.{listing}
use Rattle.semver_req.proofs.OneOutcome.{cut_one, cut_some, fits_or_not, no_cut, none_some, some_or_none, trimmed_one, whole_or_not}
use Rattle.semver_req.proofs.OneReason.{bound_no_fit, front_fits, number_no_fit, piece_reason, read_one}
use Rattle.semver_req.proofs.PieceReadings.{hyphen_no_second}
use Rattle.semver_req.proofs.SpecifierRanges.{no_whitespace_none}

-- ---- places

-- a text leaves a grammar at one place
place_one : {V : Type 0} {R : List ℕ → V → Type 0} {text : List ℕ} {p q : ℕ} → IsErrorPlace R text p → IsErrorPlace R text q → p ≡ q
place_one {p = p} {q = q} h k = omega (arith, h.longest q k.boundary k.viable, k.longest p h.boundary h.viable)

-- ---- the first character that no tag has

-- the first character that passes comes behind those that don't
first_one : (test : ℕ → Bool) (cs ds : List ℕ) (c d : ℕ) (x y : List ℕ) → NonePass test cs → NonePass test ds → test c ≡ true → test d ≡ true
    → encode_utf8_all cs ++ (encode_utf8 c ++ x) ≡ encode_utf8_all ds ++ (encode_utf8 d ++ y) → encode_utf8_all cs ≡ encode_utf8_all ds
first_one test [] [] c d x y n m p q e = refl
first_one test [] (b ∷ ds) c d x y n m p q e =
    let both = encode_same c b x (encode_utf8_all ds ++ (encode_utf8 d ++ y)) (e ∙ append_assoc (encode_utf8 b) (encode_utf8_all ds) (encode_utf8 d ++ y)) in
    absurd (both_ways (test b) m.0 (ap test (sym both.0) ∙ p))
first_one test (a ∷ cs) [] c d x y n m p q e =
    let both = encode_same a d (encode_utf8_all cs ++ (encode_utf8 c ++ x)) y (sym (append_assoc (encode_utf8 a) (encode_utf8_all cs) (encode_utf8 c ++ x)) ∙ e) in
    absurd (both_ways (test a) n.0 (ap test both.0 ∙ q))
first_one test (a ∷ cs) (b ∷ ds) c d x y n m p q e =
    let both = encode_same a b (encode_utf8_all cs ++ (encode_utf8 c ++ x)) (encode_utf8_all ds ++ (encode_utf8 d ++ y)) (sym (append_assoc (encode_utf8 a) (encode_utf8_all cs) (encode_utf8 c ++ x)) ∙ (e ∙ append_assoc (encode_utf8 b) (encode_utf8_all ds) (encode_utf8 d ++ y))) in
    rw (both.0, first_one test cs ds c d x y n.1 m.1 p q both.1) refl

-- if none passes, there is no first
no_first : {T : Type 0} (test : ℕ → Bool) (cs ds : List ℕ) (d : ℕ) (y : List ℕ) → NonePass test cs → test d ≡ true → encode_utf8_all cs ≡ encode_utf8_all ds ++ (encode_utf8 d ++ y) → T
no_first test cs [] d y n q e =
    let first = cons_from_encodes cs y d e in
    absurd (none test cs d first.0 n first.1 q)
  where
    none : (test : ℕ → Bool) (cs : List ℕ) (d : ℕ) (more : List ℕ) → NonePass test cs → cs ≡ d ∷ more → test d ≡ true → ⊥
    none test cs d more n is q = both_ways (test d) (rw is at n).0 q
no_first test cs (b ∷ ds) d y n q e =
    let first = cons_from_encodes cs (encode_utf8_all ds ++ (encode_utf8 d ++ y)) b (e ∙ append_assoc (encode_utf8 b) (encode_utf8_all ds) (encode_utf8 d ++ y)) in
    no_first test first.0 ds d y (rw first.1 at n).1 q first.2

-- a text that has a character at a place, by the characters before it
with_character : (text : List ℕ) (place end : ℕ) (cs : List ℕ) (c : ℕ) → encode_utf8_all cs ≡ take place text → HasCharAt c text place end → text ≡ encode_utf8_all cs ++ (encode_utf8 c ++ drop end text)
with_character text place end cs c e at = sym (take-append-drop place text) ∙ (ap (λ t. t ++ drop place text) (sym e) ∙ ap (λ t. encode_utf8_all cs ++ t) at.split)

outside_one : (text : List ℕ) (o u : Option ℕ) → IsFirstOutsideTag text o → IsFirstOutsideTag text u → o ≡ u
outside_one text None None h k = refl
outside_one text None (Some q) (cs, e, none) ((ds, g, before), (end, (d, passes, at))) = no_first is_outside_tag cs ds d (drop end text) none passes (e ∙ with_character text q end ds d g at)
outside_one text (Some p) None ((cs, e, before), (end, (c, passes, at))) (ds, g, none) = no_first is_outside_tag ds cs c (drop end text) none passes (g ∙ with_character text p end cs c e at)
outside_one text (Some p) (Some q) ((cs, e, before), (end, (c, passes, at))) ((ds, g, earlier), (stop, (d, pass, there))) =
    let same = first_one is_outside_tag cs ds c d (drop end text) (drop stop text) before earlier passes pass (sym (with_character text p end cs c e at) ∙ with_character text q stop ds d g there) in
    let front : length (take p text) ≡ p = length-take-le p text (omega (arith, at.after.0)) in
    let other : length (take q text) ≡ q = length-take-le q text (omega (arith, there.after.0)) in
    ap Some (omega (arith, front, other, ap length e, ap length g, ap length same))

-- ---- what is expected

follows_or_not : {T : Type 0} {f : Flavour} {prefix : List ℕ} {kind : Kind} → IsExpected f prefix kind true → IsExpected f prefix kind false → T
follows_or_not {kind = kind} y n =
    let never : false ≡ true = n.none (kind_text kind) (itself kind) (y.each refl (kind_text kind) (itself kind)) in
    absurd (cc never)

kinds_one : {f : Flavour} {prefix : List ℕ} {kinds found other : List Kind} → AreExpected f prefix kinds found → AreExpected f prefix kinds other → found ≡ other
kinds_one no_kind no_kind = refl
kinds_one (may_follow {kind} h a) (may_follow k b) = ap (λ more. kind ∷ more) (kinds_one a b)
kinds_one (may_follow h a) (may_not k b) = follows_or_not h k
kinds_one (may_not h a) (may_follow k b) = follows_or_not k h
kinds_one (may_not h a) (may_not k b) = kinds_one a b

same_truth : {W : Type 0} (a b : Bool) → IsTrue a ↔ W → IsTrue b ↔ W → a ≡ b
same_truth a b h k = one_truth a b (λ yes. k.1 (h.0 yes)) (λ yes. h.1 (k.0 yes))

expectation_one : {f : Flavour} {prefix : List ℕ} {e d : Expected} → IsExpectation f prefix e → IsExpectation f prefix d → expectation (Unexpected e) ≡ expectation (Unexpected d)
expectation_one {e = e} {d = d} h k = rw (kinds_one h.kinds k.kinds, same_truth e.may_end d.may_end h.ends k.ends) refl

-- ---- where a bound is too large

overflow_one : {f : Flavour} (x y : List ℕ) (p q : ℕ) → x ≡ y → IsFirstOverflow f x p → IsFirstOverflow f y q → p ≡ q
overflow_one x y p q e (this_overflows l over) (this_overflows m also) = refl
overflow_one x y p q e (this_overflows {c} l over) (later_overflows m fit s k) = absurd (both_ways (overflows c) (ap overflows (one_front (rw e at l) m).0 ∙ fit) over)
overflow_one x y p q e (later_overflows {c} l fit s h) (this_overflows m over) = absurd (both_ways (overflows c) fit (ap overflows (one_front (rw e at l) m).0 ∙ over))
overflow_one x y p q e (later_overflows {next = a} {place = n} l fit s h) (later_overflows {next = b} {place = o} m small t k) =
    let rests = (one_front (rw e at l) m).1 in
    let nexts = (one_front (rw rests at s) t).1 in
    rw (e, nexts, overflow_one a b n o nexts h k) refl

-- the only comparator that a hyphen range begins with stands at its start
hyphen_first : {text : List ℕ} {cs : List Comparator} {p : ℕ} → IsHyphen text cs → IsFirstOverflow Npm text p → p ≡ 0
hyphen_first h (this_overflows l y) = refl
hyphen_first h (later_overflows l n s (this_overflows m y)) = absurd (hyphen_no_second h l s m)
hyphen_first h (later_overflows l n s (later_overflows m o t k)) = absurd (hyphen_no_second h l s m)

bound_one : {f : Flavour} {piece : List ℕ} {p q : ℕ} → IsBoundAt f piece p → IsBoundAt f piece q → p ≡ q
bound_one (comparator {piece = x} {place = p} h) (comparator {place = q} k) = overflow_one x x p q refl h k
bound_one (comparator h) (hyphen_range k) = hyphen_first k h
bound_one (hyphen_range h) (comparator k) = sym (hyphen_first h k)
bound_one (hyphen_range h) (hyphen_range k) = refl

-- ---- the cause of an error

-- a text leaves the grammar at its start, and tags begin like it, or not
tag_or_not : {T : Type 0} {outside : Option ℕ} {p q : ℕ} → p ≡ 0 → (0 < p) ⊎ IfSome outside (λ n. n ≡ 0) → outside ≡ Some q → 0 < q → T
tag_or_not e (inl some) is more = absurd (omega (arith, e, some))
tag_or_not e (inr zero) is more = let first = rw is at zero in absurd (omega (arith, first, more))

cause_one : (f : Flavour) (piece : List ℕ) (outside : Option ℕ) (c d : Cause) (p q : ℕ) → rejection_of c ≡ rejection_of d → IsCauseAt f piece outside c p → IsCauseAt f piece outside d q → (p ≡ q) × (expectation c ≡ expectation d)
cause_one f piece outside c d p q same (unexpected h a e) (unexpected k b g) =
    let place = place_one h k in
    (place, expectation_one (rw place at e) g)
cause_one f piece outside c d p q same (unexpected h a e) (no_tag k is some) = tag_or_not (place_one h k) a is some
cause_one f piece outside c d p q same (no_tag h is some) (unexpected k b g) = tag_or_not (place_one k h) b is some
cause_one f piece outside c d p q same (no_tag h is some) (no_tag k also more) = (cc (sym is ∙ also), refl)
cause_one f piece outside c d p q same empty empty = (refl, refl)
cause_one f piece outside c d p q same (too_large h) (too_large k) = (place_one h k, refl)
cause_one f piece outside c d p q same (bound_too_large h) (bound_too_large k) = (bound_one h k, refl)
cause_one f piece outside c d p q same h k = absurd (cc same)

-- ---- why the strict grammar rejects a text

strict_one : {text : List ℕ} {why other : Rejection} → IsStrictRejection text why → IsStrictRejection text other → why ≡ other
strict_one (whitespace w) (whitespace x) = refl
strict_one {text} (whitespace w) (no_range n never) = absurd (never w)
strict_one {text} (whitespace w) (followed q g some) = some_or_none q (no_whitespace_none text w)
strict_one {text} (whitespace w) (front_number q lacks) = some_or_none q (no_whitespace_none text w)
strict_one {text} (whitespace w) (front_bound q every lacks) = some_or_none q (no_whitespace_none text w)
strict_one (no_range n never) (whitespace w) = absurd (never w)
strict_one (no_range n never) (no_range m not) = refl
strict_one (no_range n never) (followed q g some) = refl
strict_one (no_range n never) (front_number q lacks) = some_or_none q n
strict_one (no_range n never) (front_bound q every lacks) = some_or_none q n
strict_one {text} (followed p f some) (whitespace w) = some_or_none p (no_whitespace_none text w)
strict_one (followed p f some) (no_range n never) = refl
strict_one (followed p f some) (followed q g more) = refl
strict_one (followed p f some) (front_number {c = d} q lacks) = fits_or_not p q f (number_no_fit d lacks)
strict_one (followed p f some) (front_bound {c = d} q every lacks) = fits_or_not p q f (bound_no_fit d every lacks)
strict_one {text} (front_number p lacks) (whitespace w) = some_or_none p (no_whitespace_none text w)
strict_one (front_number p lacks) (no_range n never) = some_or_none p n
strict_one (front_number {c} p lacks) (followed q g some) = fits_or_not q p g (number_no_fit c lacks)
strict_one (front_number p lacks) (front_number q not) = refl
strict_one (front_number p lacks) (front_bound q every not) = front_fits numbers_fit q p every lacks
strict_one {text} (front_bound p every lacks) (whitespace w) = some_or_none p (no_whitespace_none text w)
strict_one (front_bound p every lacks) (no_range n never) = some_or_none p n
strict_one (front_bound {c} p every lacks) (followed q g some) = fits_or_not q p g (bound_no_fit c every lacks)
strict_one (front_bound p every lacks) (front_number q not) = front_fits numbers_fit p q every not
strict_one (front_bound p every lacks) (front_bound q all not) = refl

-- a range that fits isn't rejected
range_or_rejected : {T : Type 0} {text : List ℕ} {c : Comparator} {why : Rejection} → IsLongest IsSpecifierRange text c [] → fits c ≡ true → IsStrictRejection text why → T
range_or_rejected {text = text} p f (whitespace w) = some_or_none p (no_whitespace_none text w)
range_or_rejected p f (no_range n never) = some_or_none p n
range_or_rejected p f (followed q g some) = whole_or_not p q some
range_or_rejected p f (front_number {c = d} q lacks) = fits_or_not p q f (number_no_fit d lacks)
range_or_rejected p f (front_bound {c = d} q every lacks) = fits_or_not p q f (bound_no_fit d every lacks)

pub whole_text : {text : List ℕ} {c : Comparator} → IsSpecifierRange text c → IsLongest IsSpecifierRange text c []
whole_text {text} h = rw append-nil at (in_place (comparator_one Specifier) (listing Specifier).item_goes text [] h tt)

-- ---- the error of an alternative

reason_one : (f : Flavour) (piece : List ℕ) (why other : Rejection) → IsRejected f piece why → IsRejected f piece other → why ≡ other
reason_one Npm piece why other h k = piece_reason Npm piece why other h k
reason_one Normal piece why other h k = piece_reason Normal piece why other h k
reason_one Specifier piece why other h k = strict_one h k

error_one : (f : Flavour) (start : ℕ) (piece : List ℕ) (e d : InvalidPiece) → IsErrorOf f start piece e → IsErrorOf f start piece d → reported e ≡ reported d
error_one f start piece e d h k =
    let reason = reason_one f piece (rejection_of e.cause) (rejection_of d.cause) h.rejected k.rejected in
    let outside = outside_one piece h.outside k.outside h.is_outside k.is_outside in
    let cause = cause_one f piece k.outside e.cause d.cause h.place k.place reason (rw outside at h.is_place) k.is_place in
    let place : e.place ≡ d.place = h.there ∙ (ap (λ n. start + n) cause.0 ∙ sym k.there) in
    rw (h.starts ∙ sym k.starts, h.ends ∙ sym k.ends, place, reason, cause.1) refl

-- ---- alternatives

parsed_one : (f : Flavour) (b : Bool) (start : ℕ) (piece : List ℕ) (p q : Parsed) → IsParsedPiece f b start piece p → IsParsedPiece f b start piece q → parsed_as p ≡ parsed_as q
parsed_one f b start piece (Range r) (Range s) h k =
    let same : read.Range r ≡ read.Range s = read_one f b piece (read.Range r) (read.Range s) h k in
    let range : r ≡ s = cc same in
    ap Ok range
parsed_one f b start piece (Range r) (Invalid d) (cs, good, is) (bad, k) = absurd (bad cs good)
parsed_one f b start piece (Invalid e) (Range s) (bad, h) (cs, good, is) = absurd (bad cs good)
parsed_one f b start piece (Invalid e) (Invalid d) h k = ap Err (error_one f start piece e d h.1 k.1)

alternative_one : (f : Flavour) (flag : Bool) (start : ℕ) (piece : List ℕ) (a b : Alternative) → IsAlternative f flag start piece a → IsAlternative f flag start piece b → told a ≡ told b
alternative_one f flag start piece a b h k = rw (h.is_text ∙ sym k.is_text, parsed_one f flag start piece a.parsed b.parsed h.parsed k.parsed) refl

next_one : (a b : Alternative) (others more : List Alternative) → told a ≡ told b → map told others ≡ map told more → map told (a ∷ others) ≡ map told (b ∷ more)
next_one a b others more e g = rw (e, g) refl

more_one : (f : Flavour) (m n : ℕ) (x y : List ℕ) (xs ys : List Alternative) → m ≡ n → x ≡ y → AreMoreAlternatives f m x xs → AreMoreAlternatives f n y ys → map told xs ≡ map told ys
more_one f m n x y xs ys s e (no_piece t) (no_piece u) = refl
more_one f m n x y xs ys s e (no_piece t) (last_piece {piece = q} u some o h) = none_some q (trimmed_one (rw e at t) u) some
more_one f m n x y xs ys s e (no_piece t) (cut_piece {start = r} u c h a) = none_some r (trimmed_one (rw e at t) u) (cut_some c)
more_one f m n x y xs ys s e (last_piece {piece = p} t some b h) (no_piece u) = none_some p (sym (trimmed_one (rw e at t) u)) some
more_one f m n x y xs ys s e (last_piece {piece = p} {a} t some o h) (last_piece {piece = q} {a = b} u more l k) =
    let same = trimmed_one (rw e at t) u in
    next_one a b [] [] (alternative_one f false (n + (length y - length q)) q a b (rw (s, e, same) at h) k) refl
more_one f m n x y xs ys s e (last_piece t some b h) (cut_piece u c k l) = no_cut (rw (trimmed_one (rw e at t) u) at b) c
more_one f m n x y xs ys s e (cut_piece {start = r} t c h l) (no_piece u) = none_some r (sym (trimmed_one (rw e at t) u)) (cut_some c)
more_one f m n x y xs ys s e (cut_piece t c h l) (last_piece u some b k) = no_cut b (rw (trimmed_one (rw e at t) u) at c)
more_one f m n x y xs ys s e (cut_piece {start = i} {piece = p} {rest = v} {a} {others} t c h l) (cut_piece {start = j} {piece = q} {rest = w} {a = b} {others = more} u d k r) =
    let start = trimmed_one (rw e at t) u in
    let both = cut_one (rw start at c) d in
    next_one a b others more (alternative_one f false (n + (length y - length j)) q a b (rw (s, e, start, both.0) at h) k)
    (more_one f (m + (length x - length v)) (n + (length y - length w)) v w others more (rw (s, e, both.1) refl) both.1 l r)

split_one : (f : Flavour) (before : ℕ) (text : List ℕ) (xs ys : List Alternative) → AreSplit f before text xs → AreSplit f before text ys → map told xs ≡ map told ys
split_one f before text xs ys (one_piece {a} n h) (one_piece {a = b} m k) = next_one a b [] [] (alternative_one f false before text a b h k) refl
split_one f before text xs ys (one_piece n h) (first_cut c k r) = no_cut n c
split_one f before text xs ys (first_cut c h l) (one_piece n k) = no_cut n c
split_one f before text xs ys (first_cut {piece = p} {rest = v} {a} {others} c h l) (first_cut {piece = q} {rest = w} {a = b} {others = more} d k r) =
    let both = cut_one c d in
    next_one a b others more (alternative_one f true before q a b (rw both.0 at h) k)
    (more_one f (before + (length text - length v)) (before + (length text - length w)) v w others more (rw both.1 refl) both.1 l r)

trimmed_text_one : (before : ℕ) (text : List ℕ) (xs ys : List Alternative) → AreTrimmed Npm before text xs → AreTrimmed Npm before text ys → map told xs ≡ map told ys
trimmed_text_one before text xs ys h k =
    let rest = (one_front h.whitespace k.whitespace).1 in
    split_one Npm (before + (length text - length k.rest)) (trim text) xs ys (rw rest at h.split) k.split

strictly_one : (before : ℕ) (text : List ℕ) (p q : Parsed) → IsStrictlyParsed before text p → IsStrictlyParsed before text q → parsed_as p ≡ parsed_as q
strictly_one before text (Range r) (Range s) (c, h, fit, e) (d, k, small, g) =
    let same : c ≡ d = (comparator_one Specifier).one text c d h k in
    ap Ok (e ∙ (ap comparator_range same ∙ sym g))
strictly_one before text (Range r) (Invalid d) (c, h, fit, e) k = range_or_rejected (whole_text h) fit k.rejected
strictly_one before text (Invalid e) (Range s) h (d, k, fit, g) = range_or_rejected (whole_text k) fit h.rejected
strictly_one before text (Invalid e) (Invalid d) h k = ap Err (error_one Specifier before text e d h k)

whole_one : (before : ℕ) (text : List ℕ) (xs ys : List Alternative) → IsWhole before text xs → IsWhole before text ys → map told xs ≡ map told ys
whole_one before text xs ys (is_whole {a} e h) (is_whole {a = b} g k) = next_one a b [] [] (rw (e ∙ sym g, strictly_one before text a.parsed b.parsed h k) refl) refl

pub one_list_of_alternatives : TextsHaveOneListOfAlternatives
one_list_of_alternatives Npm before text xs ys h k = trimmed_text_one before text xs ys h k
one_list_of_alternatives Normal before text xs ys h k = split_one Normal before text xs ys h k
one_list_of_alternatives Specifier before text xs ys h k = whole_one before text xs ys h k

-- ---- errors

with_same : (p q : Parsed) (es ds : List InvalidPiece) → parsed_as p ≡ parsed_as q → map reported es ≡ map reported ds → map reported (with_error p es) ≡ map reported (with_error q ds)
with_same (Range r) (Range s) es ds e g = g
with_same (Range r) (Invalid d) es ds e g = absurd (cc e)
with_same (Invalid d) (Range s) es ds e g = absurd (cc e)
with_same (Invalid x) (Invalid y) es ds e g =
    let head : reported x ≡ reported y = cc e in
    rw (head, g) refl

same_errors : (xs ys : List Alternative) → map told xs ≡ map told ys → map reported (errors_of xs) ≡ map reported (errors_of ys)
same_errors [] [] e = refl
same_errors [] (b ∷ ys) e = absurd (cc e)
same_errors (a ∷ xs) [] e = absurd (cc e)
same_errors (a ∷ xs) (b ∷ ys) e =
    let head : told a ≡ told b = cc e in
    let parsed : parsed_as a.parsed ≡ parsed_as b.parsed = ap (λ t. t.1) head in
    let tail : map told xs ≡ map told ys = cc e in
    with_same a.parsed b.parsed (errors_of xs) (errors_of ys) parsed (same_errors xs ys tail)

pub one_list_of_errors : TextsHaveOneListOfErrors
one_list_of_errors f before text errors others (xs, h, e) (ys, k, g) = rw (e, g) (same_errors xs ys (one_list_of_alternatives f before text xs ys h k))
