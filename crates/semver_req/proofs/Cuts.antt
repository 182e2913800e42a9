-- Where a text is split, and what its pieces are then.
use Rattle.std.proofs.Common.{◌≡◌, ◌≤◌, ◌<◌, ◌+◌, ℕ, Bool, true, false, List, [], ◌∷◌, ◌++◌, length, take, drop, Option, Some, None, refl, sym, subst, ap, ◌∙◌, arith, length-append, inl, inr, MatchOption, Bor}
use Rattle.std.specs.Char.{is_not_whitespace}
use Rattle.std.specs.Str.Pattern.{FindsText}
use Rattle.std.proofs.lemmas.Bool.{cases_lt}
use Rattle.std.proofs.lemmas.List.{drop_at, take-append-drop}
use Rattle.std.proofs.lemmas.Str.{NoCharPasses-nil}
use Rattle.semver_base.specs.Lexical.{IsWhitespace}
use Rattle.semver_req.specs.Pieces.{AreMorePieces, no_piece, last_piece, cut_piece, ArePieces, one_piece, first_cut, HasNoBar, IsCutAt, IsTrimmed}
use Rattle.semver_req.specs.PieceSteps.{IsFirstPiece, IsNextPiece, IsPieceOf, IsSplitOff, is_cut, is_whole}
use Rattle.semver_req.specs.declared.range_set_or_tag.pieces.Piece.{Piece}
use Rattle.semver_req.proofs.OneOutcome.{more_pieces_one}

-- ---- the leftmost `||`

abbrev bars : List ℕ
bars = 124 ∷ 124 ∷ []

pub cut_at : (text : List ℕ) (r : Option (Bor (List ℕ) × Bor (List ℕ)))
    → MatchOption r (FindsText bars text None) (λ x. (i : ℕ) × (j : ℕ) × FindsText bars text (Some (i, j)) × (x.0.now ≡ take i text) × (x.1.now ≡ drop j text) × (i ≤ j) × (length x.0.now ≡ i) × (length x.1.now + j ≡ length text))
    → MatchOption r (HasNoBar text) (λ p. IsCutAt text p.0.now p.1.now)
cut_at text None h = λ a b e. h (length a) (omega (arith, ap length e, length-append a (124 ∷ 124 ∷ b))) b (ap (drop (length a)) e ∙ drop_at a (124 ∷ 124 ∷ b) (length a) refl)
cut_at text (Some p) h = record {
  text_is = sym (take-append-drop h.0 text) ∙ (ap (λ t. t ++ drop h.0 text) (sym h.3) ∙ ap (λ t. p.0.now ++ t) (h.2.1.split ∙ ap (λ t. 124 ∷ 124 ∷ t) (sym h.4)));
  leftmost = λ a b e. elim (cases_lt (length a) h.0) [
    | inl earlier ↦ absurd (h.2.0 (length a) earlier b (ap (drop (length a)) e ∙ drop_at a (124 ∷ 124 ∷ b) (length a) refl))
    | inr later ↦ omega (arith, later, h.6)
  ];
}

-- ---- pieces

nothing_trimmed : IsTrimmed [] []
nothing_trimmed = record { longest = record { front = []; text_is = refl; stands = NoCharPasses-nil is_not_whitespace; longest = go } }
  where
    go : (a b : List ℕ) (w : Unit {0}) → [] ≡ a ++ b → IsWhitespace a w → (length a ≤ 0) × (length a ≡ 0 → w ≡ tt)
    go a b w e h = (omega (arith, ap length e, length-append a b), λ _. refl)

-- nothing has no further piece
none_of_nothing : (pieces : List (List ℕ)) → AreMorePieces [] pieces → [] ≡ pieces
none_of_nothing pieces m = more_pieces_one [] [] [] pieces refl (no_piece nothing_trimmed) m

-- the first piece of a text
pub first_piece : {before : ℕ} {text : List ℕ} {p : Piece} → IsPieceOf true before text p → IsFirstPiece text p.text.now p.is_followed p.rest.now
first_piece {text = text} {p = p} h = first_of p.text.now p.is_followed p.rest.now h.split
  where
    first_of : (piece : List ℕ) (followed : Bool) (rest : List ℕ) → IsSplitOff true text piece followed rest → IsFirstPiece text piece followed rest
    first_of piece false rest (is_whole n is) = λ pieces m. rw is (subst (λ (others : List (List ℕ)). ArePieces text false (text ∷ others)) (none_of_nothing pieces m) (one_piece n))
    first_of piece true rest (is_cut c) = λ pieces m. first_cut c m

-- the next one
pub next_piece : (p next : Piece) → IsNextPiece p (Some next) → (pieces : List (List ℕ)) → AreMorePieces next.rest.now pieces → AreMorePieces p.rest.now (next.text.now ∷ pieces)
next_piece p next (text, trimmed, some, h) = next_of next.text.now next.is_followed next.rest.now h.split
  where
    next_of : (piece : List ℕ) (followed : Bool) (rest : List ℕ) → IsSplitOff false text piece followed rest → (pieces : List (List ℕ)) → AreMorePieces rest pieces → AreMorePieces p.rest.now (piece ∷ pieces)
    next_of piece followed rest (is_whole n is) pieces m = rw is (subst (λ (others : List (List ℕ)). AreMorePieces p.rest.now (text ∷ others)) (none_of_nothing pieces m) (last_piece trimmed some n))
    next_of piece followed rest (is_cut c) pieces m = cut_piece trimmed c m

pub trimmed_within : {text rest : List ℕ} → IsTrimmed text rest → length rest ≤ length text
trimmed_within {rest = rest} h = omega (arith, ap length h.longest.text_is, length-append h.longest.front rest)

-- less of the text is left
pub next_shorter : (p next : Piece) → IsNextPiece p (Some next) → length next.rest.now < length p.rest.now
next_shorter p next (text, trimmed, some, h) = shorter next.text.now next.is_followed next.rest.now h.split
  where
    shorter : (piece : List ℕ) (followed : Bool) (rest : List ℕ) → IsSplitOff false text piece followed rest → length rest < length p.rest.now
    shorter piece followed rest (is_whole n is) = omega (arith, some, trimmed_within trimmed)
    shorter piece followed rest (is_cut c) = omega (arith, trimmed_within trimmed, ap length c.text_is, length-append piece (124 ∷ 124 ∷ rest))

-- the text ends where it did
pub next_behind : (p next : Piece) → IsNextPiece p (Some next) → next.behind + length next.rest.now ≡ p.behind + length p.rest.now
next_behind p next (text, trimmed, some, h) = omega (arith, h.behind, trimmed_within trimmed)

-- a piece is a part of its text
pub piece_within : {first : Bool} {before : ℕ} {text : List ℕ} {p : Piece} → IsPieceOf first before text p → p.start + length p.text.now ≤ before + length text
piece_within {first} {before} {text} {p} h = within p.text.now p.is_followed p.rest.now h.split
  where
    within : (piece : List ℕ) (followed : Bool) (rest : List ℕ) → IsSplitOff first text piece followed rest → p.start + length piece ≤ before + length text
    within piece followed rest (is_whole n is) = omega (arith, ap length is, h.starts)
    within piece followed rest (is_cut c) = omega (arith, h.starts, ap length c.text_is, length-append piece (124 ∷ 124 ∷ rest))

pub next_within : (p next : Piece) → IsNextPiece p (Some next) → next.start + length next.text.now ≤ p.behind + length p.rest.now
next_within p next (text, trimmed, some, h) = omega (arith, piece_within h, trimmed_within trimmed)
