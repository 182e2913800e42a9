-- npm's parser trims a text first. That changes no place: with a `||` behind it a text that is trimmed stays as it is, and whitespace may follow any text.
use Rattle.std.proofs.Common.{◌≡◌, ◌+◌, ◌≤◌, ◌<◌, ℕ, Bool, true, false, List, [], ◌∷◌, ◌++◌, length, take, drop, Some, refl, sym, ap, subst, ◌∙◌, arith, inl, inr, append_assoc, append-nil, length-append, IsUtf8, codes, IsCharBoundary, encode_utf8_all, take_at, drop_at}
use Rattle.std.specs.Char.{is_not_whitespace, is_whitespace}
use Rattle.std.specs.Str.{chars, skip_leading_whitespace, trim, trim_end, trim_start}
use Rattle.std.proofs.lemmas.Bool.{cases_Bool}
use Rattle.std.proofs.lemmas.Str.{IsCharBoundary-at_seam, IsCharBoundary-from_take, IsUtf8-append, IsUtf8-drop, IsUtf8-nil, IsUtf8-take, NoCharPasses-append, chars-append, encodes-chars}
use Rattle.semver_base.specs.Comparators.{Comparator}
use Rattle.semver_base.specs.Grammar.{Either, this, that, Followed, Listed, last_item, closed_item, more_items, Mapped, Prefixed}
use Rattle.semver_base.specs.GrammarLaws.{fronts, same, shorter, longer}
use Rattle.semver_base.specs.Lexical.{IsSomeWhitespace, IsWhitespace}
use Rattle.semver_req.specs.Alternatives.{AreSplit, AreTrimmed, IsErrorOf, IsStrictlyParsed, TextsLeaveTheirGrammarAtTheFirstError, counted, errors_of, first_cut, is_whole, left_by, one_piece, with_error}
use Rattle.semver_req.specs.Comparators.{IsComparator}
use Rattle.semver_req.specs.Pieces.{IsFilled, IsHyphen, IsNpmSeparator, normal, npm}
use Rattle.semver_req.specs.Sizes.{Sized}
use Rattle.semver_req.specs.Viable.{IsAnyPiece, IsErrorPlace, IsSplitText, IsWholeText}
use Rattle.semver_req.specs.declared.common.values.Flavour.{Flavour}
use Rattle.semver_req.specs.declared.common.values.Flavour.TheVariants.{Npm, Normal, Specifier}
use Rattle.semver_req.specs.declared.error_places.Sizes.{Sizes}
use Rattle.semver_req.specs.declared.error_places.Sizes.TheVariants.{Any, Fitting}
use Rattle.semver_req.specs.declared.error_places.pieces.Alternative.{Alternative}
use Rattle.semver_req.specs.declared.error_places.pieces.InvalidPiece.{InvalidPiece}
use Rattle.semver_req.specs.declared.error_places.pieces.Parsed.{Parsed}
use Rattle.semver_req.specs.declared.error_places.pieces.Parsed.TheVariants.{Range, Invalid}
use Rattle.semver_req.proofs.Endings.{ascii_text, whitespace_front}
use Rattle.semver_req.proofs.TagPieces.{front_start, none_skipped, piece_left, start_same, trimmed}
use Rattle.semver_req.proofs.Trimmed.{begun_white, behind_whitespace, end_behind, end_dropped, start_skipped}
use Rattle.semver_req.proofs.ViableParts.{sized, starts_text, unsized}
use Rattle.semver_req.proofs.WholeTexts.{Has, IsBegun, IsLeft, IsWhole, and_more, empty_has, first_error, none_there, none_white, only_one, place_left, place_of, split_left, text_whole, whole_text}

abbrev bars : List ℕ
bars = codes "||"

-- ---- whitespace behind a piece

-- the whitespace may follow each text of A
record GoesOn {V : Type 0} (w : List ℕ) (A : List ℕ → V → Type 0) : Type 0 where
  goes : (t : List ℕ) (v : V) → A t v → A (t ++ w) v

mapped_goes : {V W : Type 0} {g : V → W} {w : List ℕ} {A : List ℕ → V → Type 0} → GoesOn w A → GoesOn w (Mapped g A)
mapped_goes a = record { goes = λ t v h. record { value = h.value; stands = a.goes t h.value h.stands; is = h.is } }

followed_goes : {V W : Type 0} {w : List ℕ} {A : List ℕ → V → Type 0} {B : List ℕ → W → Type 0} → GoesOn w B → GoesOn w (Followed A B)
followed_goes {w = w} b = record { goes = λ t v h. record { first = h.first; second = h.second ++ w; text_is = ap (λ l. l ++ w) h.text_is ∙ append_assoc h.first h.second w; in_first = h.in_first; in_second = b.goes h.second v.1 h.in_second; seam = tt } }

prefixed_goes : {V : Type 0} {w : List ℕ} {A : List ℕ → V → Type 0} (m : ℕ) → GoesOn w A → GoesOn w (Prefixed m A)
prefixed_goes {V} {w} {A} m a = record { goes = go }
  where
    go : (t : List ℕ) (v : V) → Prefixed m A t v → Prefixed m A (t ++ w) v
    go [] v h = absurd h
    go (x ∷ t) v h = (h.0, a.goes t v h.1)

either_goes : {V : Type 0} {w : List ℕ} {A B : List ℕ → V → Type 0} → GoesOn w A → GoesOn w B → GoesOn w (Either A B)
either_goes {V} {w} {A} {B} a b = record { goes = go }
  where
    go : (t : List ℕ) (v : V) → Either A B t v → Either A B (t ++ w) v
    go t v (this h) = this (a.goes t v h)
    go t v (that h) = that (b.goes t v h)

module _ {w : List ℕ} (white : IsWhitespace w tt) where
  white_goes : GoesOn w IsWhitespace
  white_goes = record { goes = λ t v h. NoCharPasses-append is_not_whitespace t w h white }

  some_goes : GoesOn w IsSomeWhitespace
  some_goes = record { goes = λ t v h. (omega (arith, h.0, length-append t w), NoCharPasses-append is_not_whitespace t w h.1 white) }

  separator_goes : GoesOn w IsNpmSeparator
  separator_goes = either_goes (mapped_goes (followed_goes (mapped_goes (followed_goes white_goes)))) some_goes

  hyphen_goes : GoesOn w IsHyphen
  hyphen_goes = mapped_goes (followed_goes (mapped_goes (followed_goes (prefixed_goes 45 (mapped_goes (followed_goes (mapped_goes (followed_goes white_goes))))))))

  list_goes : 0 < length w → {t : List ℕ} {cs : List Comparator} → Listed (IsComparator Npm) IsNpmSeparator t cs → Listed (IsComparator Npm) IsNpmSeparator (t ++ w) cs
  list_goes some (last_item h) = closed_item h (that (some, white))
  list_goes some (closed_item {a} {s} h k) = rw (append_assoc a s w) (closed_item h (separator_goes.goes s tt k))
  list_goes some (more_items {a} {s} {b} h k l) = rw (append_assoc a (s ++ b) w, append_assoc s b w) (more_items h k (list_goes some l))

  filled_goes : 0 < length w → GoesOn w (IsFilled Npm)
  filled_goes some = either_goes hyphen_goes (record { goes = λ t cs h. list_goes some h })

-- ---- what trimming leaves

skipped_less : (cs : List ℕ) → length (skip_leading_whitespace cs) ≤ length cs
skipped_less [] = omega arith
skipped_less (c ∷ cs) = elim (cases_Bool (is_whitespace c)) [
  | inl white ↦ rw white (let less = skipped_less cs in omega (arith, less))
  | inr other ↦ rw other (omega arith)
]

-- what doesn't begin with whitespace doesn't with more behind it
none_more : (c : ℕ) (cs ds : List ℕ) → skip_leading_whitespace (c ∷ cs) ≡ c ∷ cs → skip_leading_whitespace (c ∷ (cs ++ ds)) ≡ c ∷ (cs ++ ds)
none_more c cs ds e = elim (cases_Bool (is_whitespace c)) [
  | inl white ↦ let is : skip_leading_whitespace cs ≡ c ∷ cs = rw white at e in absurd (omega (arith, skipped_less cs, ap length is))
  | inr other ↦ rw other refl
]

start_kept : (x : ℕ) (front more : List ℕ) → IsUtf8 (x ∷ front) → IsUtf8 more → trim_start (x ∷ front) ≡ x ∷ front → trim_start ((x ∷ front) ++ more) ≡ (x ∷ front) ++ more
start_kept x front more u v e = start_same ((x ∷ front) ++ more) (IsUtf8-append (x ∷ front) more u v) (go (chars (x ∷ front)) refl)
  where
    go : (cs : List ℕ) → chars (x ∷ front) ≡ cs → skip_leading_whitespace (chars ((x ∷ front) ++ more)) ≡ chars ((x ∷ front) ++ more)
    go [] is = let none : x ∷ front ≡ [] = sym (encodes-chars (x ∷ front) u) ∙ ap encode_utf8_all is in cc none
    go (c ∷ cs) is =
        let are : chars ((x ∷ front) ++ more) ≡ c ∷ (cs ++ chars more) = chars-append (x ∷ front) more u ∙ ap (λ l. l ++ chars more) is in
        let kept : skip_leading_whitespace (c ∷ cs) ≡ c ∷ cs = rw is at (none_skipped (x ∷ front) u e) in
        ap skip_leading_whitespace are ∙ (none_more c cs (chars more) kept ∙ sym are)

end_kept : (t : List ℕ) → IsUtf8 (t ++ bars) → trim_end (t ++ bars) ≡ t ++ bars
end_kept t u =
    let is : t ++ bars ≡ (t ++ (124 ∷ [])) ++ (124 ∷ []) = sym (append_assoc t (124 ∷ []) (124 ∷ [])) in
    ap trim_end is ∙ (end_dropped (t ++ (124 ∷ [])) 124 [] (rw is at u) (omega arith) refl none_white ∙ sym is)

nothing_trimmed : trim [] ≡ []
unfolding trim_start trim_end chars
nothing_trimmed = refl

-- ---- whole texts

module _ (sizes : Sizes) where
  abbrev IsNpms : Bool → List ℕ → Type 0
  IsNpms b t = IsWhole Npm sizes npm b t

  abbrev IsTrimmedWhole : List ℕ → Type 0
  IsTrimmedWhole t = IsNpms true (trim t)

  at_first : (b : Bool) (t : List ℕ) → Has Npm sizes npm false t → Has Npm sizes npm b t
  at_first b t h = let k = unsized (IsAnyPiece Npm false) h.0 sizes h.1 in (h.0, sized (IsAnyPiece Npm b) h.0 sizes (go k.0) k.1)
    where
      go : IsAnyPiece Npm false t h.0 → IsAnyPiece Npm b t h.0
      go (inl k) = inl k
      go (inr k) = let no : false ≡ true = k.0 in cc no

  nothing : IsNpms false []
  nothing = only_one (empty_has Npm sizes npm false)

  -- `||` may follow
  closed : (b : Bool) (t : List ℕ) → IsNpms b t → IsNpms b (t ++ bars)
  closed b t (only_one h) = and_more t [] [] refl (at_first b t h) none_white nothing
  closed b t (and_more p w s e h i m) = and_more p w (s ++ bars) (ap (λ l. l ++ bars) e ∙ (append_assoc p (124 ∷ 124 ∷ (w ++ s)) bars ∙ ap (λ l. p ++ (124 ∷ 124 ∷ l)) (append_assoc w s bars))) h i (closed false s m)

  -- so may whitespace and then `||`
  module _ (v : List ℕ) (white : IsWhitespace v tt) (some : 0 < length v) where
    spaced_piece : (t : List ℕ) → Has Npm sizes npm false t → Has Npm sizes npm true (t ++ v)
    spaced_piece t h = let k = unsized (IsAnyPiece Npm false) h.0 sizes h.1 in (h.0, sized (IsAnyPiece Npm true) h.0 sizes (go h.0 k.0) k.1)
      where
        go : (cs : List Comparator) → IsAnyPiece Npm false t cs → IsAnyPiece Npm true (t ++ v) cs
        go [] (inl k) = inr (refl, rw k white, refl)
        go (c ∷ cs) (inl k) = inl ((filled_goes white some).goes t (c ∷ cs) k)
        go cs (inr k) = let no : false ≡ true = k.0 in cc no

    spaced_filled : (x : ℕ) (t : List ℕ) → Has Npm sizes npm false (x ∷ t) → Has Npm sizes npm false ((x ∷ t) ++ v)
    spaced_filled x t h = let k = unsized (IsAnyPiece Npm false) h.0 sizes h.1 in (h.0, sized (IsAnyPiece Npm false) h.0 sizes (go h.0 k.0) k.1)
      where
        go : (cs : List Comparator) → IsAnyPiece Npm false (x ∷ t) cs → IsAnyPiece Npm false ((x ∷ t) ++ v) cs
        go [] (inl k) = cc k
        go (c ∷ cs) (inl k) = inl ((filled_goes white some).goes (x ∷ t) (c ∷ cs) k)
        go cs (inr k) = let no : false ≡ true = k.0 in cc no

    record IsSpaced (text : List ℕ) : Type 0 where
      ahead : List ℕ
      start : List ℕ
      text_is : (text ++ v) ++ bars ≡ ahead ++ start
      is_ahead : IsWhitespace ahead tt
      stands : IsNpms false start

    spaced_more : (w s : List ℕ) → IsWhitespace w tt → IsNpms false s → IsSpaced (w ++ s)
    spaced_more w [] i (only_one h) = record { ahead = w ++ v; start = bars; text_is = ap (λ l. (l ++ v) ++ bars) (append-nil w); is_ahead = NoCharPasses-append is_not_whitespace w v i white; stands = closed false [] nothing }
    spaced_more w (x ∷ s) i (only_one h) = record {
      ahead = w;
      start = ((x ∷ s) ++ v) ++ bars;
      text_is = ap (λ l. l ++ bars) (append_assoc w (x ∷ s) v) ∙ append_assoc w ((x ∷ s) ++ v) bars;
      is_ahead = i;
      stands = closed false ((x ∷ s) ++ v) (only_one (spaced_filled x s h));
    }
    spaced_more w s i (and_more p u r e h j m) =
        let k = spaced_more u r j m in
        record {
          ahead = w;
          start = (s ++ v) ++ bars;
          text_is = ap (λ l. l ++ bars) (append_assoc w s v) ∙ append_assoc w (s ++ v) bars;
          is_ahead = i;
          stands = and_more p k.ahead k.start (behind p s (u ++ r) e ∙ ap (λ l. p ++ (124 ∷ 124 ∷ l)) k.text_is) h k.is_ahead k.stands;
        }
      where
        behind : (p s more : List ℕ) → s ≡ p ++ (124 ∷ 124 ∷ more) → (s ++ v) ++ bars ≡ p ++ (124 ∷ 124 ∷ ((more ++ v) ++ bars))
        behind p s more e = ap (λ l. (l ++ v) ++ bars) e ∙ (ap (λ l. l ++ bars) (append_assoc p (124 ∷ 124 ∷ more) v) ∙ append_assoc p (124 ∷ 124 ∷ (more ++ v)) bars)

    spaced : (t : List ℕ) → IsNpms true t → IsNpms true ((t ++ v) ++ bars)
    spaced t (only_one h) = and_more (t ++ v) [] [] refl (spaced_piece t h) none_white nothing
    spaced t (and_more p u r e h j m) =
        let k = spaced_more u r j m in
        and_more p k.ahead k.start (ap (λ l. (l ++ v) ++ bars) e ∙ (ap (λ l. l ++ bars) (append_assoc p (124 ∷ 124 ∷ (u ++ r)) v) ∙ (append_assoc p (124 ∷ 124 ∷ ((u ++ r) ++ v)) bars ∙ ap (λ l. p ++ (124 ∷ 124 ∷ l)) k.text_is))) h k.is_ahead k.stands

  bars_text : IsUtf8 bars
  bars_text = ascii_text bars refl

  front_utf8 : (text : List ℕ) → IsUtf8 text → (a c : List ℕ) → text ≡ a ++ c → IsUtf8 c → IsUtf8 a
  front_utf8 text u a c e v = rw (ap (take (length a)) e ∙ take_at a c (length a) refl) at (IsUtf8-take text (length a) u (IsCharBoundary-at_seam text a c e v))

  -- a text that is trimmed is left at the same place
  module _ (text : List ℕ) (p : ℕ) (u : IsUtf8 text) (start : trim_start text ≡ text) (k : IsLeft (IsNpms true) text p) where
    front_starts : (a c : List ℕ) → text ≡ a ++ c → IsUtf8 c → trim_start a ≡ a
    front_starts a c e v = front_start a c (front_utf8 text u a c e v) (rw e at u) (rw e at start)

    begun : (a c : List ℕ) → text ≡ a ++ c → IsUtf8 c → IsBegun (IsNpms true) a → IsBegun IsTrimmedWhole a
    begun [] c e v n = record { more = []; is_text = IsUtf8-nil; stands = rw nothing_trimmed (only_one (empty_has Npm sizes npm false)) }
    begun (x ∷ a) c e v n =
        let some : IsUtf8 (n.more ++ bars) = IsUtf8-append n.more bars n.is_text bars_text in
        let whole = (x ∷ a) ++ (n.more ++ bars) in
        let utf8 : IsUtf8 whole = IsUtf8-append (x ∷ a) (n.more ++ bars) (front_utf8 text u (x ∷ a) c e v) some in
        let first : trim_start whole ≡ whole = start_kept x a (n.more ++ bars) (front_utf8 text u (x ∷ a) c e v) some (front_starts (x ∷ a) c e v) in
        let is : whole ≡ ((x ∷ a) ++ n.more) ++ bars = sym (append_assoc (x ∷ a) n.more bars) in
        let last : trim_end whole ≡ whole = ap trim_end is ∙ (end_kept ((x ∷ a) ++ n.more) (rw is at utf8) ∙ sym is) in
        let kept : trim whole ≡ ((x ∷ a) ++ n.more) ++ bars = ap trim_end first ∙ (last ∙ is) in
        record { more = n.more ++ bars; is_text = some; stands = subst (IsNpms true) (sym kept) (closed true ((x ∷ a) ++ n.more) n.stands) }

    back : (x : ℕ) (a c : List ℕ) → text ≡ (x ∷ a) ++ c → IsUtf8 c → IsBegun IsTrimmedWhole (x ∷ a) → IsBegun (IsNpms true) (x ∷ a)
    back x a c e v n =
        let whole = (x ∷ a) ++ n.more in
        let one_utf8 = front_utf8 text u (x ∷ a) c e v in
        let left = piece_left whole (IsUtf8-append (x ∷ a) n.more one_utf8 n.is_text) (start_kept x a n.more one_utf8 n.is_text (front_starts (x ∷ a) c e v)) in
        elim (fronts (x ∷ a) (trim whole) n.more left.behind left.text_is) [
          | same y z ↦ record { more = []; is_text = IsUtf8-nil; stands = subst (IsNpms true) (sym y ∙ sym (append-nil (x ∷ a))) n.stands }
          | shorter b m y z ↦
              let size : length (x ∷ a) ≤ length (trim whole) = omega (arith, ap length y, length-append (x ∷ a) (b ∷ m)) in
              let front : take (length (x ∷ a)) (trim whole) ≡ x ∷ a = ap (take (length (x ∷ a))) y ∙ take_at (x ∷ a) (b ∷ m) (length (x ∷ a)) refl in
              let seam : IsCharBoundary (trim whole) (length (x ∷ a)) = IsCharBoundary-from_take (trim whole) (length (x ∷ a)) left.utf8 size (subst IsUtf8 (sym front) one_utf8) in
              let rest : drop (length (x ∷ a)) (trim whole) ≡ b ∷ m = ap (drop (length (x ∷ a))) y ∙ drop_at (x ∷ a) (b ∷ m) (length (x ∷ a)) refl in
              record { more = b ∷ m; is_text = subst IsUtf8 rest (IsUtf8-drop (trim whole) (length (x ∷ a)) left.utf8 seam); stands = subst (IsNpms true) y n.stands }
          | longer b m y z ↦
              let blank : IsWhitespace (b ∷ m) tt = whitespace_front (b ∷ m) n.more (starts_text n.more n.is_text) (subst (λ l. IsWhitespace l tt) z left.whitespace) in
              record { more = bars; is_text = bars_text; stands = subst (λ l. IsNpms true (l ++ bars)) (sym y) (spaced (b ∷ m) blank (omega arith) (trim whole) n.stands) }
        ]

    trimmed_left : IsLeft IsTrimmedWhole text p
    trimmed_left = record { front = k.front; rest = k.rest; text_is = k.text_is; size = k.size; is_text = k.is_text; begun = begun k.front k.rest k.text_is k.is_text k.begun; longest = go }
      where
        go : (a c : List ℕ) → text ≡ a ++ c → IsUtf8 c → IsBegun IsTrimmedWhole a → length a ≤ length k.front
        go [] c e v n = omega arith
        go (x ∷ a) c e v n = k.longest (x ∷ a) c e v (back x a c e v n)

  -- behind whitespace, too
  behind_white : (w text : List ℕ) (p : ℕ) → IsUtf8 w → IsUtf8 text → IsWhitespace w tt → IsLeft IsTrimmedWhole text p → IsLeft IsTrimmedWhole (w ++ text) (length w + p)
  behind_white w text p v u white k = record {
    front = w ++ k.front;
    rest = k.rest;
    text_is = ap (λ l. w ++ l) k.text_is ∙ sym (append_assoc w k.front k.rest);
    size = omega (arith, length-append w k.front, k.size);
    is_text = k.is_text;
    begun = record { more = k.begun.more; is_text = k.begun.is_text; stands = subst (IsNpms true) (sym (as_skipped k.front k.begun.more (front_utf8 text u k.front k.rest k.text_is k.is_text) k.begun.is_text)) k.begun.stands };
    longest = go;
  }
    where
      as_skipped : (a more : List ℕ) → IsUtf8 a → IsUtf8 more → trim ((w ++ a) ++ more) ≡ trim (a ++ more)
      as_skipped a more i j = ap trim (append_assoc w a more) ∙ ap trim_end (start_skipped w (a ++ more) (IsUtf8-append w (a ++ more) v (IsUtf8-append a more i j)) white)

      go : (a c : List ℕ) → w ++ text ≡ a ++ c → IsUtf8 c → IsBegun IsTrimmedWhole a → length a ≤ length (w ++ k.front)
      go a c e i n = elim (fronts a w c text (sym e)) [
        | same y z ↦ omega (arith, ap length y, length-append w k.front)
        | shorter x m y z ↦ omega (arith, ap length y, length-append a (x ∷ m), length-append w k.front)
        | longer x m y z ↦
            let is = ap (λ l. trim (l ++ n.more)) y ∙ as_skipped (x ∷ m) n.more (front_utf8 text u (x ∷ m) c z i) n.is_text in
            let le = k.longest (x ∷ m) c z i (record { more = n.more; is_text = n.is_text; stands = subst (IsNpms true) is n.stands }) in
            omega (arith, le, ap length y, length-append w (x ∷ m), length-append w k.front)
      ]

-- ---- the three grammars

sized_as : (sizes : Sizes) (t : List ℕ) (cs : List Comparator) → Sized sizes (IsSplitText Npm) (trim t) cs → Sized sizes (IsWholeText Npm) t cs
sized_as Any t cs h = h
sized_as Fitting t cs h = h

as_sized : (sizes : Sizes) (t : List ℕ) (cs : List Comparator) → Sized sizes (IsWholeText Npm) t cs → Sized sizes (IsSplitText Npm) (trim t) cs
as_sized Any t cs h = h
as_sized Fitting t cs h = h

abbrev IsLeftAt : Flavour → Sizes → ℕ → List ℕ → InvalidPiece → Type 0
IsLeftAt f sizes before text e = (place : ℕ) × (e.place ≡ before + place) × IsErrorPlace (Sized sizes (IsWholeText f)) (counted f text) place

strict_place : (sizes : Sizes) (before : ℕ) (text : List ℕ) (parsed : Parsed) (e : InvalidPiece) (errors : List InvalidPiece) → IsStrictlyParsed before text parsed → with_error parsed [] ≡ e ∷ errors → left_by e.cause ≡ Some sizes → IsLeftAt Specifier sizes before text e
strict_place sizes before text (Range r) e errors h g l = cc g
strict_place sizes before text (Invalid d) e errors h g l =
    let is : d ≡ e = cc g in
    let k = subst (λ (d : InvalidPiece). IsErrorOf Specifier before text d) is h in
    (k.place, k.there, place_left k.is_place l)

normal_place : (sizes : Sizes) (before : ℕ) (text : List ℕ) (all : List Alternative) (e : InvalidPiece) (errors : List InvalidPiece) → IsUtf8 text → AreSplit Normal before text all → errors_of all ≡ e ∷ errors → left_by e.cause ≡ Some sizes → IsLeftAt Normal sizes before text e
normal_place sizes before text all e errors u h g l =
    let k = split_left Normal sizes normal e errors u h g l in
    (k.0, k.1, place_of (Sized sizes (IsWholeText Normal)) text k.0 u (whole_text Normal sizes normal) (text_whole Normal sizes normal) k.2)

-- the empty text has no error
none_wrong : (sizes : Sizes) {n : ℕ} {text : List ℕ} {all : List Alternative} (e : InvalidPiece) (errors : List InvalidPiece) → text ≡ [] → AreSplit Npm n text all → errors_of all ≡ e ∷ errors → left_by e.cause ≡ Some sizes → ⊥
none_wrong sizes {n} {text} e errors is (one_piece {a} none h) g l = elim (first_error Npm sizes npm false n text a.parsed e [] errors h.parsed g l) [
  | inl w ↦ w.2.bad (subst (Has Npm sizes npm false) (sym is) (empty_has Npm sizes npm false))
  | inr more ↦ let no : [] ≡ e ∷ errors = more.1 in cc no
]
none_wrong sizes e errors is (first_cut {piece} {rest} c h m) g l = omega (arith, ap length is, ap length c.text_is, length-append piece (124 ∷ 124 ∷ rest))

npm_place : (sizes : Sizes) (before : ℕ) (text : List ℕ) (all : List Alternative) (e : InvalidPiece) (errors : List InvalidPiece) → IsUtf8 text → AreTrimmed Npm before text all → errors_of all ≡ e ∷ errors → left_by e.cause ≡ Some sizes → IsLeftAt Npm sizes before text e
npm_place sizes before text all e errors u h g l =
    let white = h.whitespace.front in
    let text_is : text ≡ white ++ h.rest = h.whitespace.text_is in
    let both : IsUtf8 (white ++ h.rest) = rw text_is at u in
    let rest_utf8 : IsUtf8 h.rest = behind_whitespace white h.rest both h.whitespace.stands in
    let white_utf8 : IsUtf8 white = front_utf8 sizes text u white h.rest text_is rest_utf8 in
    let ahead = begun_white h.rest rest_utf8 in
    let none : ahead.0 ≡ [] = none_there (record { longest = h.whitespace }) ahead.0 (trim_start h.rest) ahead.1 ahead.2 in
    let start_is : trim_start h.rest ≡ h.rest = sym (ahead.1 ∙ ap (λ l. l ++ trim_start h.rest) none) in
    let trim_is : trim text ≡ trim_end h.rest = ap trim text_is ∙ ap trim_end (start_skipped white h.rest both h.whitespace.stands ∙ start_is) in
    let it = trimmed text u in
    let k = split_left Npm sizes npm e errors it.utf8 h.split g l in
    let some : 0 < length (trim_end h.rest) = subst (λ t. 0 < length t) trim_is (not_nothing (trim text) (λ is. none_wrong sizes e errors is h.split g l)) in
    let counted_is : trim_end text ≡ white ++ trim text = ap trim_end text_is ∙ (end_behind white h.rest both h.whitespace.stands some ∙ ap (λ l. white ++ l) (sym trim_is)) in
    let left = behind_white sizes white (trim text) k.0 white_utf8 it.utf8 h.whitespace.stands (trimmed_left sizes (trim text) k.0 it.utf8 it.start k.2) in
    let place = place_of (Sized sizes (IsWholeText Npm)) (white ++ trim text) (length white + k.0) (IsUtf8-append white (trim text) white_utf8 it.utf8) (λ t i. let m = whole_text Npm sizes npm (trim t) i in (m.0, sized_as sizes t m.0 m.1)) (λ t i. text_whole Npm sizes npm (trim t) (i.0, as_sized sizes t i.0 i.1)) left in
    (length white + k.0, omega (arith, k.1, ap length text_is, length-append white h.rest), subst (λ t. IsErrorPlace (Sized sizes (IsWholeText Npm)) t (length white + k.0)) (sym counted_is) place)
  where
    not_nothing : (t : List ℕ) → (t ≡ [] → ⊥) → 0 < length t
    not_nothing [] n = absurd (n refl)
    not_nothing (x ∷ t) n = omega arith

pub place_of_text : TextsLeaveTheirGrammarAtTheFirstError
place_of_text Npm before text e errors sizes u (all, h, g) l = npm_place sizes before text all e errors u h (sym g) l
place_of_text Normal before text e errors sizes u (all, h, g) l = normal_place sizes before text all e errors u h (sym g) l
place_of_text Specifier before text e errors sizes u (all, is_whole {a} is h, g) l = strict_place sizes before text a.parsed e errors h (sym g) l
