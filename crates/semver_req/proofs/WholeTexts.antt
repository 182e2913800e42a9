-- Where the first invalid alternative leaves the grammar, the whole text does: a text before it is split as it is, and alternatives have no `|`.
use Rattle.std.proofs.Common.{◌≡◌, ◌≤◌, ◌+◌, ◌-◌, ℕ, Bool, true, false, List, [], ◌∷◌, ◌++◌, length, take, drop, Option, Some, get_or, refl, sym, ap, subst, ◌∙◌, arith, inl, inr, ◌⊎◌, append_assoc, append-nil, length-append, IsUtf8, codes, IsCharBoundary, take_at, drop_at, encode_utf8}
use Rattle.std.specs.Char.{is_not_whitespace}
use Rattle.std.specs.List.{list_all}
use Rattle.std.proofs.lemmas.Bool.{both_ways}
use Rattle.std.proofs.lemmas.List.{length-take-le, take-append-drop}
use Rattle.std.proofs.lemmas.Str.{IsCharBoundary-at_seam, IsCharBoundary-before_ascii, IsUtf8-append, IsUtf8-drop, IsUtf8-nil, IsUtf8-past_char, IsUtf8-take, NoCharPasses-append, NoCharPasses-nil, encode_ascii}
use Rattle.semver_base.specs.Comparators.{Comparator}
use Rattle.semver_base.specs.GrammarLaws.{fronts, same, shorter, longer}
use Rattle.semver_base.specs.Lexical.{IsWhitespace}
use Rattle.semver_base.specs.declared.failure.Rejection.{Rejection}
use Rattle.semver_req.specs.Alternatives.{AreMoreAlternatives, AreSplit, IsParsedPiece, cut_piece, errors_of, first_cut, last_piece, left_by, no_piece, one_piece, with_error}
use Rattle.semver_req.specs.Causes.{IsCauseAt, IsRejected, bound_too_large, empty, no_tag, rejection_of, too_large, unexpected}
use Rattle.semver_req.specs.PieceReading.{IsPieceRejection}
use Rattle.semver_req.specs.Pieces as pieces
use Rattle.semver_req.specs.Pieces.{AreMorePieces, ArePieces, HasNoBar, IsCutAt, IsCutting, IsFilled, IsPiece, IsTrimmed, normal, npm}
use Rattle.semver_req.specs.Sizes.{Sized, is_in_grammar}
use Rattle.semver_req.specs.Viable.{AreInGrammar, HasPiece, IsAnyPiece, IsErrorPlace, IsPart, IsPieceOrCut, IsSplitText, IsViablePrefix, alone, cut, no_pieces, with_piece}
use Rattle.semver_req.specs.declared.common.values.Flavour.{Flavour}
use Rattle.semver_req.specs.declared.common.values.Flavour.TheVariants.{Npm, Normal, Specifier}
use Rattle.semver_req.specs.declared.error_places.Sizes.{Sizes}
use Rattle.semver_req.specs.declared.error_places.Sizes.TheVariants.{Any, Fitting}
use Rattle.semver_req.specs.declared.error_places.causes.Cause.{Cause}
use Rattle.semver_req.specs.declared.error_places.causes.Cause.TheVariants.{Unexpected, NoTag, Empty, NumberTooLarge, BoundTooLarge}
use Rattle.semver_req.specs.declared.error_places.pieces.Alternative.{Alternative}
use Rattle.semver_req.specs.declared.error_places.pieces.InvalidPiece.{InvalidPiece}
use Rattle.semver_req.specs.declared.error_places.pieces.Parsed.{Parsed}
use Rattle.semver_req.specs.declared.error_places.pieces.Parsed.TheVariants.{Range, Invalid}
use Rattle.semver_req.proofs.Cuts.{trimmed_within}
use Rattle.semver_req.proofs.Endings.{ascii_text, whitespace_front}
use Rattle.semver_req.proofs.GrammarFacts.{filled_no_bar, is_no_bar, whitespace_filled, whitespace_no_bar}
use Rattle.semver_req.proofs.OneOutcome.{cut_one}
use Rattle.semver_req.proofs.Trimmed.{behind_whitespace}
use Rattle.semver_req.proofs.ViableParts.{AreOf, bar_viable, good_piece, piece_viable, rejected_piece, sized, starts_text, unsized, with_viable}
use Rattle.semver_req.proofs.WrittenSets.{bar_there, cut_at, no_bar}

-- ---- places, by the parts of a text

-- with some text behind it, the prefix is a text
pub record IsBegun (R : List ℕ → Type 0) (prefix : List ℕ) : Type 0 where
  pub more : List ℕ
  pub is_text : IsUtf8 more
  pub stands : R (prefix ++ more)

-- the longest prefix of the text that is one
pub record IsLeft (R : List ℕ → Type 0) (text : List ℕ) (place : ℕ) : Type 0 where
  pub front : List ℕ
  pub rest : List ℕ
  pub text_is : text ≡ front ++ rest
  pub size : length front ≡ place
  pub is_text : IsUtf8 rest
  pub begun : IsBegun R front
  pub longest : (a b : List ℕ) → text ≡ a ++ b → IsUtf8 b → IsBegun R a → length a ≤ length front

module _ {V : Type 0} (R : List ℕ → V → Type 0) where
  abbrev pub HasValue : List ℕ → Type 0
  HasValue t = (v : V) × R t v

  begun_of : (p : List ℕ) → IsViablePrefix R p → IsBegun HasValue p
  begun_of p v = record { more = v.more; is_text = v.is_text; stands = (v.value, v.stands) }

  viable_of : (p : List ℕ) → IsBegun HasValue p → IsViablePrefix R p
  viable_of p b = record { more = b.more; value = b.stands.0; is_text = b.is_text; stands = b.stands.1 }

  left_of : (text : List ℕ) (place : ℕ) → IsUtf8 text → IsErrorPlace R text place → IsLeft HasValue text place
  left_of text place u h = record {
    front = take place text;
    rest = drop place text;
    text_is = sym (take-append-drop place text);
    size = length-take-le place text h.boundary.0;
    is_text = IsUtf8-drop text place u h.boundary;
    begun = begun_of (take place text) h.viable;
    longest = go;
  }
    where
      go : (a b : List ℕ) → text ≡ a ++ b → IsUtf8 b → IsBegun HasValue a → length a ≤ length (take place text)
      go a b e w k =
          let front : take (length a) text ≡ a = ap (take (length a)) e ∙ take_at a b (length a) refl in
          let le = h.longest (length a) (IsCharBoundary-at_seam text a b e w) (subst (IsViablePrefix R) (sym front) (viable_of a k)) in
          omega (arith, le, length-take-le place text h.boundary.0)

  -- the other way, for a grammar with the same texts
  pub place_of : {S : List ℕ → Type 0} (text : List ℕ) (place : ℕ) → IsUtf8 text → ((t : List ℕ) → S t → HasValue t) → ((t : List ℕ) → HasValue t → S t) → IsLeft S text place → IsErrorPlace R text place
  place_of {S} text place u into from h = record { boundary = bound; viable = begins; longest = go }
    where
      bound : IsCharBoundary text place
      bound = subst (IsCharBoundary text) h.size (IsCharBoundary-at_seam text h.front h.rest h.text_is h.is_text)

      front_is : take place text ≡ h.front
      front_is = ap (take place) h.text_is ∙ take_at h.front h.rest place h.size

      begins : IsViablePrefix R (take place text)
      begins = subst (IsViablePrefix R) (sym front_is) (viable_of h.front (record { more = h.begun.more; is_text = h.begun.is_text; stands = into (h.front ++ h.begun.more) h.begun.stands }))

      go : (n : ℕ) → IsCharBoundary text n → IsViablePrefix R (take n text) → n ≤ place
      go n b v =
          let le = h.longest (take n text) (drop n text) (sym (take-append-drop n text)) (IsUtf8-drop text n u b) (record { more = v.more; is_text = v.is_text; stands = from (take n text ++ v.more) (v.value, v.stands) }) in
          omega (arith, le, h.size, length-take-le n text b.0)

-- ---- texts cut before a bar

get_or-here : (p : List ℕ) (x : ℕ) (m : List ℕ) → get_or (p ++ (x ∷ m)) (length p) 0 ≡ x
get_or-here [] x m = refl
get_or-here (y ∷ p) x m = get_or-here p x m

before_bar : (p m : List ℕ) → IsCharBoundary (p ++ (124 ∷ m)) (length p)
before_bar p m = IsCharBoundary-before_ascii (p ++ (124 ∷ m)) (length p) (omega (arith, length-append p (124 ∷ m))) (omega (arith, get_or-here p 124 m))

front_text : (p m : List ℕ) → IsUtf8 (p ++ (124 ∷ m)) → IsUtf8 p
front_text p m u = rw (take_at p (124 ∷ m) (length p) refl) at (IsUtf8-take (p ++ (124 ∷ m)) (length p) u (before_bar p m))

bar_text : (p m : List ℕ) → IsUtf8 (p ++ (124 ∷ m)) → IsUtf8 (124 ∷ m)
bar_text p m u = rw (drop_at p (124 ∷ m) (length p) refl) at (IsUtf8-drop (p ++ (124 ∷ m)) (length p) u (before_bar p m))

rest_text : (p m : List ℕ) → IsUtf8 (p ++ (124 ∷ 124 ∷ m)) → IsUtf8 m
rest_text p m u =
    let bar : (r : List ℕ) → 124 ∷ r ≡ encode_utf8 124 ++ r = λ r. ap (λ t. t ++ r) (sym (encode_ascii 124 (omega arith))) in
    IsUtf8-past_char (124 ∷ m) m 124 (IsUtf8-past_char (124 ∷ 124 ∷ m) (124 ∷ m) 124 (bar_text p (124 ∷ m) u) (bar (124 ∷ m))) (bar m)

-- what follows a piece: nothing, or `||` and the rest
data IsTail : List ℕ → Type 0 where
  at_end : {t : List ℕ} → t ≡ [] → IsTail t
  at_bars : {t : List ℕ} (rest : List ℕ) → t ≡ 124 ∷ 124 ∷ rest → IsTail t

tail_front : (p t : List ℕ) → IsTail t → IsUtf8 (p ++ t) → IsUtf8 p
tail_front p t (at_end e) u = rw (e, append-nil) at u
tail_front p t (at_bars rest e) u = front_text p (124 ∷ rest) (rw e at u)

tail_text : (p t : List ℕ) → IsTail t → IsUtf8 (p ++ t) → IsUtf8 t
tail_text p t (at_end e) u = rw e IsUtf8-nil
tail_text p t (at_bars rest e) u = rw e (bar_text p (124 ∷ rest) (rw e at u))

-- ---- texts without a trimming

pub none_white : IsWhitespace [] tt
none_white = NoCharPasses-nil is_not_whitespace

-- no longer whitespace begins the text
too_long : {T : Type 0} {rest start : List ℕ} (t : IsTrimmed rest start) (x : ℕ) (q r : List ℕ) → rest ≡ (t.longest.front ++ (x ∷ q)) ++ r → IsWhitespace (t.longest.front ++ (x ∷ q)) tt → T
too_long t x q r e h = absurd (omega (arith, (t.longest.longest (t.longest.front ++ (x ∷ q)) r tt e h).0, length-append t.longest.front (x ∷ q)))

-- nothing but the empty text
pub none_there : {text start : List ℕ} (t : IsTrimmed text start) (q r : List ℕ) → start ≡ q ++ r → IsWhitespace q tt → q ≡ []
none_there t [] r e h = refl
none_there t (x ∷ q) r e h = too_long t x q r (t.longest.text_is ∙ (ap (λ l. t.longest.front ++ l) e ∙ sym (append_assoc t.longest.front (x ∷ q) r))) (NoCharPasses-append is_not_whitespace t.longest.front (x ∷ q) t.longest.stands h)

skipped_text : {text start : List ℕ} → IsTrimmed text start → IsUtf8 text → IsUtf8 start
skipped_text {start = start} t u = behind_whitespace t.longest.front start (rw t.longest.text_is at u) t.longest.stands

-- ---- what a cause says

of_piece : (f : Flavour) {piece : List ℕ} {why : Rejection} → IsCutting f → IsRejected f piece why → IsPieceRejection f piece why
of_piece Npm cuts h = h
of_piece Normal cuts h = h
of_piece Specifier cuts h = elim cuts [ ]

of_pieces : (f : Flavour) (sizes : Sizes) {piece : List ℕ} {p : ℕ} → IsCutting f → IsErrorPlace (Sized sizes (IsPart f)) piece p → IsErrorPlace (Sized sizes (IsPieceOrCut f)) piece p
of_pieces Npm sizes cuts h = h
of_pieces Normal sizes cuts h = h
of_pieces Specifier sizes cuts h = elim cuts [ ]

not_in_grammar : (c : Cause) (sizes : Sizes) → left_by c ≡ Some sizes → is_in_grammar sizes (rejection_of c) ≡ false
not_in_grammar (Unexpected e) sizes h = refl
not_in_grammar NoTag sizes h = refl
not_in_grammar Empty sizes h = cc h
not_in_grammar NumberTooLarge Any h = cc h
not_in_grammar NumberTooLarge Fitting h = refl
not_in_grammar BoundTooLarge sizes h = cc h

pub place_left : {f : Flavour} {sizes : Sizes} {piece : List ℕ} {outside : Option ℕ} {c : Cause} {p : ℕ} → IsCauseAt f piece outside c p → left_by c ≡ Some sizes → IsErrorPlace (Sized sizes (IsPart f)) piece p
place_left {sizes = Any} (unexpected h a e) l = h
place_left {sizes = Fitting} (unexpected h a e) l = cc l
place_left (no_tag h is some) l = cc l
place_left empty l = cc l
place_left {sizes = Any} (too_large h) l = cc l
place_left {sizes = Fitting} (too_large h) l = h
place_left (bound_too_large h) l = cc l

module _ (f : Flavour) (sizes : Sizes) (cuts : IsCutting f) where
  abbrev pub Has : Bool → List ℕ → Type 0
  Has b t = HasPiece f sizes b t

  pub empty_has : (b : Bool) → Has b []
  empty_has b = ([], sized (IsAnyPiece f b) [] sizes (inl refl) tt)

  filled_clean : (t : List ℕ) (cs : List Comparator) → IsPiece f t cs → list_all is_no_bar t ≡ true
  filled_clean t [] h = rw h refl
  filled_clean t (c ∷ cs) h = (filled_no_bar f cuts).made t (c ∷ cs) h

  clean : (b : Bool) (t : List ℕ) → Has b t → list_all is_no_bar t ≡ true
  clean b t h = go (unsized (IsAnyPiece f b) h.0 sizes h.1).0
    where
      go : IsAnyPiece f b t h.0 → list_all is_no_bar t ≡ true
      go (inl k) = filled_clean t h.0 k
      go (inr k) = whitespace_no_bar.made t tt k.1

  as_followed : (b : Bool) (t : List ℕ) → Has b t → Has true t
  as_followed b t h = let k = unsized (IsAnyPiece f b) h.0 sizes h.1 in (h.0, sized (IsAnyPiece f true) h.0 sizes (go k.0) k.1)
    where
      go : IsAnyPiece f b t h.0 → IsAnyPiece f true t h.0
      go (inl k) = inl k
      go (inr k) = inr (refl, k.1, k.2)

  -- ---- whole texts, piece by piece

  -- true if whitespace alone may stand before the first `||`
  pub data IsWhole : Bool → List ℕ → Type 0 where
    only_one : {b : Bool} {text : List ℕ} → Has false text → IsWhole b text
    and_more : {b : Bool} {text : List ℕ} (piece white start : List ℕ) → text ≡ piece ++ (124 ∷ 124 ∷ (white ++ start)) → Has b piece → IsWhitespace white tt → IsWhole false start → IsWhole b text

  -- no whitespace goes on with such a text
  no_whitespace : (white m text after : List ℕ) (x : ℕ) → IsWhitespace white tt → IsWhitespace (white ++ (x ∷ m)) tt → text ≡ x ∷ after → IsWhole false text → ⊥
  no_whitespace white m text after x h k e (only_one p) = go (unsized (IsAnyPiece f false) p.0 sizes p.1).0
    where
      filled : (cs : List Comparator) → IsPiece f text cs → ⊥
      filled [] i = cc (e, i)
      filled (c ∷ cs) i = (whitespace_filled f cuts).apart x (record { front = white; more = m; short_value = tt; long_value = tt; short = h; long = k }) (record { more = after; value = c ∷ cs; stands = rw e at i })

      go : IsAnyPiece f false text p.0 → ⊥
      go (inl i) = filled p.0 i
      go (inr i) = let no : false ≡ true = i.0 in cc no
  no_whitespace white m text after x h k e (and_more [] w start g p i more) =
      let bar : x ≡ 124 = cc (sym e ∙ g) in
      bar_there white m (rw bar at (whitespace_no_bar.made (white ++ (x ∷ m)) tt k))
  no_whitespace white m text after x h k e (and_more (y ∷ piece) w start g p i more) = go (unsized (IsAnyPiece f false) p.0 sizes p.1).0
    where
      byte : y ≡ x
      byte = cc (sym g ∙ e)

      filled : (cs : List Comparator) → IsPiece f (y ∷ piece) cs → ⊥
      filled [] j = cc j
      filled (c ∷ cs) j = (whitespace_filled f cuts).apart x (record { front = white; more = m; short_value = tt; long_value = tt; short = h; long = k }) (record { more = piece; value = c ∷ cs; stands = rw byte at j })

      go : IsAnyPiece f false (y ∷ piece) p.0 → ⊥
      go (inl j) = filled p.0 j
      go (inr j) = let no : false ≡ true = j.0 in cc no

  no_longer : (white text a b : List ℕ) → IsWhitespace white tt → IsWhole false text → white ++ text ≡ a ++ b → IsWhitespace a tt → length a ≤ length white
  no_longer white text a b h k e i = elim (fronts a white b text (sym e)) [
    | same p q ↦ omega (arith, ap length p)
    | shorter x m p q ↦ omega (arith, ap length p, length-append a (x ∷ m))
    | longer x m p q ↦ absurd (no_whitespace white m text (m ++ b) x h (rw p at i) q k)
  ]

  whole_trimmed : (white text : List ℕ) → IsWhitespace white tt → IsWhole false text → IsTrimmed (white ++ text) text
  whole_trimmed white text h k = record { longest = record { front = white; text_is = refl; stands = h; longest = λ a b v e i. (no_longer white text a b h k e i, λ _. refl) } }

  -- ---- as the definition has them

  abbrev AllHave : Bool → List (List ℕ) → Type 0
  AllHave b [] = Unit {0}
  AllHave b (p ∷ ps) = Has b p × AllHave false ps

  have_all : (b : Bool) (ps : List (List ℕ)) → AllHave b ps → (cs : List Comparator) × AreInGrammar f b ps cs × AreOf sizes cs
  have_all b [] h = ([], no_pieces, tt)
  have_all b (p ∷ ps) h =
      let k = unsized (IsAnyPiece f b) h.0.0 sizes h.0.1 in
      let m = have_all false ps h.1 in
      (h.0.0 ++ m.0, with_piece k.0 m.1, both h.0.0 m.0 k.1 m.2)
    where
      both : (cs ds : List Comparator) → AreOf sizes cs → AreOf sizes ds → AreOf sizes (cs ++ ds)
      both [] ds i j = j
      both (c ∷ cs) ds i j = (i.0, both cs ds i.1 j)

  all_have : (b : Bool) (ps : List (List ℕ)) (cs : List Comparator) → AreInGrammar f b ps cs → AreOf sizes cs → AllHave b ps
  all_have b ps cs no_pieces i = tt
  all_have b ps cs (with_piece {piece} {pieces = others} {cs = ds} {others = es} h m) i =
      let k = parts ds es i in
      ((ds, sized (IsAnyPiece f b) ds sizes h k.0), all_have false others es m k.1)
    where
      parts : (ds es : List Comparator) → AreOf sizes (ds ++ es) → AreOf sizes ds × AreOf sizes es
      parts [] es i = (tt, i)
      parts (d ∷ ds) es i = let k = parts ds es i.1 in ((i.0, k.0), k.1)

  -- what follows a `||`
  record IsMore (text : List ℕ) : Type 0 where
    white : List ℕ
    start : List ℕ
    text_is : text ≡ white ++ start
    is_white : IsWhitespace white tt
    stands : IsWhole false start

  more_whole : {text : List ℕ} {ps : List (List ℕ)} → AreMorePieces text ps → AllHave false ps → IsMore text
  more_whole (pieces.no_piece t) h = record { white = t.longest.front; start = []; text_is = t.longest.text_is; is_white = t.longest.stands; stands = only_one (empty_has false) }
  more_whole (pieces.last_piece {piece = p} t some n) h = record { white = t.longest.front; start = p; text_is = t.longest.text_is; is_white = t.longest.stands; stands = only_one h.0 }
  more_whole (pieces.cut_piece {start = s} {piece = p} t c m) h =
      let k = more_whole m h.1 in
      record { white = t.longest.front; start = s; text_is = t.longest.text_is; is_white = t.longest.stands; stands = and_more p k.white k.start (c.text_is ∙ ap (λ r. p ++ (124 ∷ 124 ∷ r)) k.text_is) h.0 k.is_white k.stands }

  split_whole : {text : List ℕ} {b : Bool} {ps : List (List ℕ)} → ArePieces text b ps → AllHave b ps → IsWhole true text
  split_whole (pieces.one_piece n) h = only_one h.0
  split_whole (pieces.first_cut {piece = p} c m) h =
      let k = more_whole m h.1 in
      and_more p k.white k.start (c.text_is ∙ ap (λ r. p ++ (124 ∷ 124 ∷ r)) k.text_is) h.0 k.is_white k.stands

  cut_there : (b : Bool) {text piece rest : List ℕ} → text ≡ piece ++ (124 ∷ 124 ∷ rest) → Has b piece → IsCutAt text piece rest
  cut_there b {text} {piece} {rest} e h = subst (λ t. IsCutAt t piece rest) (sym e) (cut_at piece rest (clean b piece h))

  whole_more : (white start : List ℕ) → IsWhitespace white tt → IsWhole false start → (ps : List (List ℕ)) × AreMorePieces (white ++ start) ps × AllHave false ps
  whole_more white [] w (only_one h) = ([], pieces.no_piece (whole_trimmed white [] w (only_one h)), tt)
  whole_more white (x ∷ start) w (only_one h) = ((x ∷ start) ∷ [], pieces.last_piece (whole_trimmed white (x ∷ start) w (only_one h)) (omega arith) (no_bar (x ∷ start) (clean false (x ∷ start) h)), (h, tt))
  whole_more white start w (and_more p v s e h i m) =
      let k = whole_more v s i m in
      (p ∷ k.0, pieces.cut_piece (whole_trimmed white start w (and_more p v s e h i m)) (cut_there false e h) k.1, (h, k.2))

  whole_split : {text : List ℕ} → IsWhole true text → (b : Bool) × (ps : List (List ℕ)) × ArePieces text b ps × AllHave b ps
  whole_split {text} (only_one h) = (false, text ∷ [], pieces.one_piece (no_bar text (clean false text h)), (h, tt))
  whole_split (and_more p v s e h i m) =
      let k = whole_more v s i m in
      (true, p ∷ k.0, pieces.first_cut (cut_there true e h) k.1, (h, k.2))

  pub whole_text : (t : List ℕ) → IsWhole true t → (cs : List Comparator) × Sized sizes (IsSplitText f) t cs
  whole_text t h =
      let k = whole_split h in
      let m = have_all k.0 k.1 k.3 in
      (m.0, sized (IsSplitText f) m.0 sizes (record { followed = k.0; pieces = k.1; split = k.2; are = m.1 }) m.2)

  pub text_whole : (t : List ℕ) → (cs : List Comparator) × Sized sizes (IsSplitText f) t cs → IsWhole true t
  text_whole t h =
      let k = unsized (IsSplitText f) h.0 sizes h.1 in
      split_whole k.0.split (all_have k.0.followed k.0.pieces h.0 k.0.are k.1)

  -- ---- behind valid alternatives

  -- what stands behind a valid piece is as whole as the text
  rest_whole : (b : Bool) (piece white start text : List ℕ) → text ≡ piece ++ (124 ∷ 124 ∷ (white ++ start)) → Has b piece → IsWhole b text
      → ((w s : List ℕ) → IsWhitespace w tt → IsWhole false s → w ++ s ≡ white ++ start → IsWhole false start) → IsWhole false start
  rest_whole b piece white start text e h (only_one k) more = absurd (bar_there piece (124 ∷ (white ++ start)) (rw e at (clean false text k)))
  rest_whole b piece white start text e h (and_more p w s g k i m) more = more w s i m (cut_one (cut_there b g k) (cut_there b e h)).1

  module _ {rest start : List ℕ} (t : IsTrimmed rest start) where
    abbrev ahead : List ℕ
    ahead = t.longest.front

    further : (b : Bool) (piece text : List ℕ) (p : ℕ) → text ≡ piece ++ (124 ∷ 124 ∷ rest) → Has b piece → IsLeft (IsWhole false) start p → IsLeft (IsWhole b) text ((length text - length start) + p)
    further b piece text p e h k = record {
      front = head ++ k.front;
      rest = k.rest;
      text_is = whole ∙ (ap (λ l. head ++ l) k.text_is ∙ sym (append_assoc head k.front k.rest));
      size = omega (arith, length-append head k.front, k.size, ap length whole, length-append head start);
      is_text = k.is_text;
      begun = record { more = k.begun.more; is_text = k.begun.is_text; stands = and_more piece ahead (k.front ++ k.begun.more) (joined (k.front ++ k.begun.more) _ (append_assoc head k.front k.begun.more)) h t.longest.stands k.begun.stands };
      longest = go;
    }
      where
        head : List ℕ
        head = piece ++ (124 ∷ 124 ∷ ahead)

        joined : (s u : List ℕ) → u ≡ head ++ s → u ≡ piece ++ (124 ∷ 124 ∷ (ahead ++ s))
        joined s u g = g ∙ append_assoc piece (124 ∷ 124 ∷ ahead) s

        whole : text ≡ head ++ start
        whole = e ∙ (ap (λ r. piece ++ (124 ∷ 124 ∷ r)) t.longest.text_is ∙ sym (append_assoc piece (124 ∷ 124 ∷ ahead) start))

        -- the text goes on behind the whitespace, so that is skipped here, too
        begins : (x : ℕ) (m c more : List ℕ) → start ≡ (x ∷ m) ++ c → IsUtf8 more → (w s : List ℕ) → IsWhitespace w tt → IsWhole false s → w ++ s ≡ ahead ++ ((x ∷ m) ++ more) → IsWhole false ((x ∷ m) ++ more)
        begins x m c more i u w s j l g = elim (fronts w ahead s ((x ∷ m) ++ more) g) [
          | same p q ↦ subst (IsWhole false) q l
          | shorter y n p q ↦ absurd (omega (arith, ap length p, length-append w (y ∷ n), no_longer w s ahead ((x ∷ m) ++ more) j l g t.longest.stands))
          | longer y n p q ↦ elim (fronts (x ∷ m) (y ∷ n) more s q) [
            | same v z ↦ too_long t x m c (there x m c i) (rw (p, sym v) at j)
            | shorter y2 n2 v z ↦ too_long t x m c (there x m c i) (whitespace_front (ahead ++ (x ∷ m)) (y2 ∷ n2) (rw z at (starts_text more u)) (subst (λ l. IsWhitespace l tt) (p ∙ (ap (λ l. ahead ++ l) v ∙ sym (append_assoc ahead (x ∷ m) (y2 ∷ n2)))) j))
            | longer y2 n2 v z ↦ too_long t y n ((y2 ∷ n2) ++ c) (there y n ((y2 ∷ n2) ++ c) (i ∙ (ap (λ l. l ++ c) v ∙ append_assoc (y ∷ n) (y2 ∷ n2) c))) (rw p at j)
          ]
        ]
          where
            there : (y : ℕ) (n d : List ℕ) → start ≡ (y ∷ n) ++ d → rest ≡ (ahead ++ (y ∷ n)) ++ d
            there y n d i = t.longest.text_is ∙ (ap (λ l. ahead ++ l) i ∙ sym (append_assoc ahead (y ∷ n) d))

        go : (a c : List ℕ) → text ≡ a ++ c → IsUtf8 c → IsBegun (IsWhole b) a → length a ≤ length (head ++ k.front)
        go a c g u n = elim (fronts a head c start (sym g ∙ whole)) [
          | same p q ↦ omega (arith, ap length p, length-append head k.front)
          | shorter x m p q ↦ omega (arith, ap length p, length-append a (x ∷ m), length-append head k.front)
          | longer x m p q ↦
              let more = n.more in
              let text_here : a ++ more ≡ piece ++ (124 ∷ 124 ∷ (ahead ++ ((x ∷ m) ++ more))) = joined ((x ∷ m) ++ more) (a ++ more) (ap (λ l. l ++ more) p ∙ append_assoc head (x ∷ m) more) in
              let inner = rest_whole b piece ahead ((x ∷ m) ++ more) (a ++ more) text_here h n.stands (begins x m c more q n.is_text) in
              let le = k.longest (x ∷ m) c q u (record { more = more; is_text = n.is_text; stands = inner }) in
              omega (arith, le, ap length p, length-append head (x ∷ m), length-append head k.front)
        ]

  -- ---- at an alternative that isn't of the grammar

  module _ (b : Bool) (text piece tail : List ℕ) (p : ℕ) (is : text ≡ piece ++ tail) (is_tail : IsTail tail) (first : (a c : List ℕ) → text ≡ a ++ (124 ∷ 124 ∷ c) → length piece ≤ length a)
      (solid : b ≡ false → (q r : List ℕ) → piece ≡ q ++ r → IsWhitespace q tt → q ≡ []) (bad : (rest : List ℕ) → tail ≡ 124 ∷ 124 ∷ rest → Has b piece → ⊥) (u : IsUtf8 text) (k : IsLeft (HasValue (Sized sizes (IsPieceOrCut f))) piece p) where
    -- what begins with a part of the piece begins a piece
    local : (a r : List ℕ) → piece ≡ a ++ r → IsBegun (IsWhole b) a → IsViablePrefix (Sized sizes (IsPieceOrCut f)) a
    local a r e n = go n.stands
      where
        go : IsWhole b (a ++ n.more) → IsViablePrefix (Sized sizes (IsPieceOrCut f)) a
        go (only_one h) = with_viable f sizes a n.more n.is_text h
        go (and_more q w s g h i m) = elim (fronts a q n.more (124 ∷ 124 ∷ (w ++ s)) g) [
          | same x y ↦ piece_viable f sizes a (rw (sym x) at (as_followed b q h))
          | shorter x o y z ↦
              let j = as_followed b q h in
              let l = unsized (IsAnyPiece f true) j.0 sizes j.1 in
              record {
                more = (x ∷ o) ++ codes "||";
                value = j.0;
                is_text = IsUtf8-append (x ∷ o) (codes "||") (front_text (x ∷ o) (124 ∷ (w ++ s)) (rw z at n.is_text)) (ascii_text (codes "||") refl);
                stands = sized (IsPieceOrCut f) j.0 sizes (subst (λ t. IsPieceOrCut f t j.0) (ap (λ t. t ++ codes "||") y ∙ append_assoc a (x ∷ o) (codes "||")) (cut l.0)) l.1;
              }
          | longer x o y z ↦ behind x o y z
        ]
          where
            behind : (x : ℕ) (o : List ℕ) → a ≡ q ++ (x ∷ o) → 124 ∷ 124 ∷ (w ++ s) ≡ (x ∷ o) ++ n.more → IsViablePrefix (Sized sizes (IsPieceOrCut f)) a
            behind x [] y z = let byte : x ≡ 124 = cc z in bar_viable f sizes a (q, rw byte at y, as_followed b q h)
            behind x (x2 ∷ o) y z =
                let one : x ≡ 124 = cc z in
                let two : x2 ≡ 124 = cc z in
                let there : text ≡ q ++ (124 ∷ 124 ∷ (o ++ (r ++ tail))) = is ∙ (ap (λ l. l ++ tail) (e ∙ ap (λ l. l ++ r) (rw (one, two) at y)) ∙ (append_assoc (q ++ (124 ∷ 124 ∷ o)) r tail ∙ append_assoc q (124 ∷ 124 ∷ o) (r ++ tail))) in
                absurd (omega (arith, first q (o ++ (r ++ tail)) there, ap length e, length-append a r, ap length y, length-append q (x ∷ x2 ∷ o)))

    -- nothing goes on with the bar behind the piece
    never : (m rest t : List ℕ) → tail ≡ 124 ∷ 124 ∷ rest → t ≡ piece ++ (124 ∷ m) → IsWhole b t → ⊥
    never m rest t ends g (only_one h) = bar_there piece m (rw g at (clean false t h))
    never m rest t ends g (and_more q w s i h j n) = elim (fronts q piece (124 ∷ 124 ∷ (w ++ s)) (124 ∷ m) (sym i ∙ g)) [
      | same x y ↦ bad rest ends (rw x at h)
      | shorter x o y z ↦ before x o y z
      | longer x o y z ↦ let byte : x ≡ 124 = cc z in bar_there piece o (rw (y, byte) at (clean b q h))
    ]
      where
        e : text ≡ piece ++ (124 ∷ 124 ∷ rest)
        e = is ∙ ap (λ l. piece ++ l) ends

        before : (x : ℕ) (o : List ℕ) → piece ≡ q ++ (x ∷ o) → 124 ∷ 124 ∷ (w ++ s) ≡ (x ∷ o) ++ (124 ∷ m) → ⊥
        before x [] y z =
            let byte : x ≡ 124 = cc z in
            let there : text ≡ q ++ (124 ∷ 124 ∷ (124 ∷ rest)) = e ∙ (ap (λ l. l ++ (124 ∷ 124 ∷ rest)) (rw byte at y) ∙ append_assoc q (124 ∷ []) (124 ∷ 124 ∷ rest)) in
            omega (arith, first q (124 ∷ rest) there, ap length y, length-append q (x ∷ []))
        before x (x2 ∷ o) y z =
            let one : x ≡ 124 = cc z in
            let two : x2 ≡ 124 = cc z in
            let there : text ≡ q ++ (124 ∷ 124 ∷ (o ++ (124 ∷ 124 ∷ rest))) = e ∙ (ap (λ l. l ++ (124 ∷ 124 ∷ rest)) (rw (one, two) at y) ∙ append_assoc q (124 ∷ 124 ∷ o) (124 ∷ 124 ∷ rest)) in
            omega (arith, first q (o ++ (124 ∷ 124 ∷ rest)) there, ap length y, length-append q (x ∷ x2 ∷ o))

    -- what begins a piece begins a text
    part_begun : IsBegun (IsWhole b) k.front
    part_begun = let v = k.begun in let l = unsized (IsPieceOrCut f) v.stands.0 sizes v.stands.1 in go b solid (k.front ++ v.more) v.stands.0 refl l.0 l.1
      where
        closed : (c : Bool) (q : List ℕ) → q ++ codes "||" ≡ k.front ++ k.begun.more → Has c q → IsBegun (IsWhole c) k.front
        closed c q e h = record { more = k.begun.more; is_text = k.begun.is_text; stands = and_more q [] [] (sym e) h none_white (only_one (empty_has false)) }

        -- a later piece doesn't begin with whitespace
        blank : ((q r : List ℕ) → piece ≡ q ++ r → IsWhitespace q tt → q ≡ []) → (q : List ℕ) → q ++ codes "||" ≡ k.front ++ k.begun.more → IsWhitespace q tt → IsBegun (IsWhole false) k.front
        blank s q e h = elim (fronts k.front q k.begun.more (codes "||") (sym e)) [
          | same x y ↦ empty_begun (s k.front k.rest k.text_is (rw (sym x) at h))
          | shorter x o y z ↦ empty_begun (s k.front k.rest k.text_is (whitespace_front k.front (x ∷ o) (rw z at (starts_text k.begun.more k.begun.is_text)) (rw y at h)))
          | longer x o y z ↦
              let nil = s q ((x ∷ o) ++ k.rest) (k.text_is ∙ (ap (λ l. l ++ k.rest) y ∙ append_assoc q (x ∷ o) k.rest)) h in
              closed false q e (rw nil (empty_has false))
        ]
          where
            empty_begun : k.front ≡ [] → IsBegun (IsWhole false) k.front
            empty_begun e = record { more = []; is_text = IsUtf8-nil; stands = subst (IsWhole false) (sym (append-nil k.front ∙ e)) (only_one (empty_has false)) }

        go : (c : Bool) → (c ≡ false → (q r : List ℕ) → piece ≡ q ++ r → IsWhitespace q tt → q ≡ []) → (t : List ℕ) (cs : List Comparator) → t ≡ k.front ++ k.begun.more → IsPieceOrCut f t cs → AreOf sizes cs → IsBegun (IsWhole c) k.front
        go c s t cs e (alone h) i = record { more = k.begun.more; is_text = k.begun.is_text; stands = only_one (cs, sized (IsAnyPiece f false) cs sizes (inl (rw e at h)) i) }
        go true s t cs e (cut {piece = q} h) i = closed true q e (cs, sized (IsAnyPiece f true) cs sizes h i)
        go false s t cs e (cut {piece = q} (inl h)) i = closed false q e (cs, sized (IsAnyPiece f false) cs sizes (inl h) i)
        go false s t cs e (cut {piece = q} (inr h)) i = blank (s refl) q e h.1

    here : IsLeft (IsWhole b) text p
    here = record {
      front = k.front;
      rest = k.rest ++ tail;
      text_is = is ∙ (ap (λ l. l ++ tail) k.text_is ∙ append_assoc k.front k.rest tail);
      size = k.size;
      is_text = IsUtf8-append k.rest tail k.is_text (tail_text piece tail is_tail (rw is at u));
      begun = part_begun;
      longest = go;
    }
      where
        go : (a c : List ℕ) → text ≡ a ++ c → IsUtf8 c → IsBegun (IsWhole b) a → length a ≤ length k.front
        go a c e w n = elim (fronts a piece c tail (sym e ∙ is)) [
          | same x y ↦ k.longest a [] (sym x ∙ sym (append-nil a)) IsUtf8-nil (begun_of (Sized sizes (IsPieceOrCut f)) a (local a [] (sym x ∙ sym (append-nil a)) n))
          | shorter x m y z ↦ k.longest a (x ∷ m) y (tail_front (x ∷ m) tail is_tail (rw z at w)) (begun_of (Sized sizes (IsPieceOrCut f)) a (local a (x ∷ m) y n))
          | longer x m y z ↦ absurd (past x m y z is_tail)
        ]
          where
            past : (x : ℕ) (m : List ℕ) → a ≡ piece ++ (x ∷ m) → tail ≡ (x ∷ m) ++ c → IsTail tail → ⊥
            past x m y z (at_end g) = cc (g, z)
            past x m y z (at_bars rest g) =
                let byte : x ≡ 124 = cc (sym z ∙ g) in
                never (m ++ n.more) rest (a ++ n.more) g (ap (λ l. l ++ n.more) (rw byte at y) ∙ append_assoc piece (124 ∷ m) n.more) n.stands

  -- ---- the first error

  -- a piece is wrong at this place
  pub record IsWrong (b : Bool) (piece : List ℕ) (p : ℕ) : Type 0 where
    pub bad : Has b piece → ⊥
    pub place : IsErrorPlace (Sized sizes (IsPieceOrCut f)) piece p

  wrong : (b : Bool) (start : ℕ) (piece : List ℕ) (e : InvalidPiece) → IsParsedPiece f b start piece (Invalid e) → left_by e.cause ≡ Some sizes → (p : ℕ) × (e.place ≡ start + p) × IsWrong b piece p
  wrong b start piece e (bad, h) l = (
    h.place,
    h.there,
    record {
      bad = λ k. both_ways (is_in_grammar sizes (rejection_of e.cause)) (not_in_grammar e.cause sizes l) ((rejected_piece f sizes b piece (rejection_of e.cause) (bad, of_piece f cuts h.rejected)).1 k);
      place = of_pieces f sizes cuts (place_left h.is_place l);
    },
  )

  -- the first error of what stands here and behind, or nothing is wrong here
  pub first_error : (b : Bool) (start : ℕ) (piece : List ℕ) (parsed : Parsed) (e : InvalidPiece) (more others : List InvalidPiece) → IsParsedPiece f b start piece parsed → with_error parsed more ≡ e ∷ others → left_by e.cause ≡ Some sizes
      → ((p : ℕ) × (e.place ≡ start + p) × IsWrong b piece p) ⊎ (Has b piece × (more ≡ e ∷ others))
  first_error b start piece (Range r) e more others h g l = inr ((good_piece f sizes b piece h).0 refl, g)
  first_error b start piece (Invalid d) e more others h g l = let is : d ≡ e = cc g in inl (wrong b start piece e (subst (λ (d : InvalidPiece). IsParsedPiece f b start piece (Invalid d)) is h) l)

  -- where what follows a `||` is left
  record IsMoreLeft (n : ℕ) (text : List ℕ) (e : InvalidPiece) : Type 0 where
    start : List ℕ
    skips : IsTrimmed text start
    place : ℕ
    there : e.place ≡ (n + (length text - length start)) + place
    left : IsLeft (IsWhole false) start place

  more_left : {n : ℕ} {text : List ℕ} {all : List Alternative} (e : InvalidPiece) (others : List InvalidPiece) → IsUtf8 text → AreMoreAlternatives f n text all → errors_of all ≡ e ∷ others → left_by e.cause ≡ Some sizes → IsMoreLeft n text e
  more_left e others u (no_piece t) g l = cc g
  more_left {n} {text} e others u (last_piece {piece} {a} t some none h) g l = elim (first_error false (n + (length text - length piece)) piece a.parsed e [] others h.parsed g l) [
    | inl w ↦
        let is_text = skipped_text t u in
        record {
          start = piece;
          skips = t;
          place = w.0;
          there = w.1;
          left = here false piece piece [] w.0 (sym (append-nil piece)) (at_end refl) (λ b c i. absurd (none b c i)) (λ _ q r i k. none_there t q r i k) (λ rest i. cc i) is_text (left_of (Sized sizes (IsPieceOrCut f)) piece w.0 is_text w.2.place);
        }
    | inr more ↦ let no : [] ≡ e ∷ others = more.1 in cc no
  ]
  more_left {n} {text} e others u (cut_piece {start} {piece} {rest} {a} {others = all} t c h m) g l = elim (first_error false (n + (length text - length start)) piece a.parsed e (errors_of all) others h.parsed g l) [
    | inl w ↦ record {
      start = start;
      skips = t;
      place = w.0;
      there = w.1;
      left = here false start piece (124 ∷ 124 ∷ rest) w.0 c.text_is (at_bars rest refl) c.leftmost (λ _ q r i k. none_there t q (r ++ (124 ∷ 124 ∷ rest)) (c.text_is ∙ (ap (λ l. l ++ (124 ∷ 124 ∷ rest)) i ∙ append_assoc q r (124 ∷ 124 ∷ rest))) k) (λ _ i. w.2.bad) is_text (left_of (Sized sizes (IsPieceOrCut f)) piece w.0 (front_text piece (124 ∷ rest) (rw c.text_is at is_text)) w.2.place);
    }
    | inr more ↦
        let k = more_left e others (rest_text piece rest (rw c.text_is at is_text)) m more.1 l in
        record {
          start = start;
          skips = t;
          place = (length start - length k.start) + k.place;
          there = omega (arith, k.there, trimmed_within t, trimmed_within k.skips, ap length c.text_is, length-append piece (124 ∷ 124 ∷ rest));
          left = further k.skips false piece start k.place c.text_is more.0 k.left;
        }
  ]
    where
      is_text : IsUtf8 start
      is_text = skipped_text t u

  pub split_left : {n : ℕ} {text : List ℕ} {all : List Alternative} (e : InvalidPiece) (others : List InvalidPiece) → IsUtf8 text → AreSplit f n text all → errors_of all ≡ e ∷ others → left_by e.cause ≡ Some sizes → (p : ℕ) × (e.place ≡ n + p) × IsLeft (IsWhole true) text p
  split_left {n} {text} e others u (one_piece {a} none h) g l = elim (first_error false n text a.parsed e [] others h.parsed g l) [
    | inl w ↦ (w.0, w.1, here true text text [] w.0 (sym (append-nil text)) (at_end refl) (λ b c i. absurd (none b c i)) (λ i. cc i) (λ rest i. cc i) u (left_of (Sized sizes (IsPieceOrCut f)) text w.0 u w.2.place))
    | inr more ↦ let no : [] ≡ e ∷ others = more.1 in cc no
  ]
  split_left {n} {text} e others u (first_cut {piece} {rest} {a} {others = all} c h m) g l = elim (first_error true n piece a.parsed e (errors_of all) others h.parsed g l) [
    | inl w ↦ (w.0, w.1, here true text piece (124 ∷ 124 ∷ rest) w.0 c.text_is (at_bars rest refl) c.leftmost (λ i. cc i) (λ _ i. w.2.bad) u (left_of (Sized sizes (IsPieceOrCut f)) piece w.0 (front_text piece (124 ∷ rest) (rw c.text_is at u)) w.2.place))
    | inr more ↦
        let k = more_left e others (rest_text piece rest (rw c.text_is at u)) m more.1 l in
        ((length text - length k.start) + k.place, omega (arith, k.there, trimmed_within k.skips, ap length c.text_is, length-append piece (124 ∷ 124 ∷ rest)), further k.skips true piece text k.place c.text_is more.0 k.left)
  ]
