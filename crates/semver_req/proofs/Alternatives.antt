-- How the alternatives of a text add up.
use Rattle.std.proofs.Common.{◌≡◌, ◌+◌, ◌-◌, ℕ, Bool, true, false, List, [], ◌∷◌, ◌++◌, length, Some, None, refl, sym, ap, subst, ◌∙◌, arith, append_assoc, append-nil, length-append}
use Rattle.std.specs.Str.{IsTrimStart, trim_end, trim_start}
use Rattle.semver_base.specs.NormalText.{IsWritableRange}
use Rattle.semver_base.specs.WhitespaceLaws.{whitespace_longest}
use Rattle.semver_base.specs.declared.range.VersionRange.{VersionRange}
use Rattle.semver_req.specs.Outcome.{IsSpecifierRange}
use Rattle.semver_req.specs.Outcome as outcome
use Rattle.semver_req.specs.PieceSteps.{IsNextPiece, IsPieceOf, IsSplitOff, is_cut, is_whole}
use Rattle.semver_req.specs.declared.common.values.Flavour.{Flavour}
use Rattle.semver_req.specs.declared.common.values.Flavour.TheVariants.{Npm, Specifier}
use Rattle.semver_req.specs.declared.range_set_or_tag.pieces.Piece.{Piece}
use Rattle.semver_req.specs.Alternatives.{AreMoreAlternatives, AreSplit, AreTrimmed, AreWritable, IsAlternative, IsParsedPiece, IsStrictlyParsed, IsWritable, cut_piece, errors_of, first_cut, last_piece, no_piece, one_piece, with_error}
use Rattle.semver_req.specs.declared.error_places.pieces.Alternative.{Alternative}
use Rattle.semver_req.specs.declared.error_places.pieces.InvalidPiece.{InvalidPiece}
use Rattle.semver_req.specs.declared.error_places.pieces.Parsed.{Parsed}
use Rattle.semver_req.specs.declared.error_places.pieces.Parsed.TheVariants.{Range, Invalid}
use Rattle.semver_req.proofs.Cuts.{trimmed_within}
use Rattle.semver_req.proofs.OneListOfAlternatives.{whole_text}
use Rattle.semver_req.proofs.OutcomesHaveIdentifiers.{outcome_writable, piece_writable}
use Rattle.semver_req.proofs.SpecifierRetained.{specifier_retained}

-- ---- one after another

-- nothing has no further alternative
none_of_nothing : {f : Flavour} {n : ℕ} {others : List Alternative} → AreMoreAlternatives f n [] others → [] ≡ others
none_of_nothing (no_piece t) = refl
none_of_nothing (last_piece t some n h) = absurd (omega (arith, some, trimmed_within t))
none_of_nothing (cut_piece {piece} {rest} t c h m) = absurd (omega (arith, trimmed_within t, ap length c.text_is, length-append piece (124 ∷ 124 ∷ rest)))

module _ (f : Flavour) (before : ℕ) (text : List ℕ) where
  split_with : (piece : List ℕ) (followed : Bool) (rest : List ℕ) (start behind : ℕ) → IsSplitOff true text piece followed rest → start ≡ before → behind + length rest ≡ before + length text
      → (a : Alternative) (others : List Alternative) → IsAlternative f followed start piece a → AreMoreAlternatives f behind rest others → AreSplit f before text (a ∷ others)
  split_with piece followed rest start behind (is_whole n is) e ends a others h m = subst (λ (more : List Alternative). AreSplit f before text (a ∷ more)) (none_of_nothing m) (one_piece n (rw (is, e) at h))
  split_with piece followed rest start behind (is_cut c) e ends a others h m =
      let at : behind ≡ before + (length text - length rest) = omega (arith, ends, ap length c.text_is, length-append piece (124 ∷ 124 ∷ rest)) in
      first_cut c (rw e at h) (subst (λ (n : ℕ). AreMoreAlternatives f n rest others) at m)

  -- what is still to come behind a piece completes the alternatives so far
  abbrev pub Completes : Piece → List Alternative → Type 0
  Completes p so_far = (a : Alternative) (others : List Alternative) → IsAlternative f p.is_followed p.start p.text.now a → AreMoreAlternatives f p.behind p.rest.now others
      → AreSplit f before text (so_far ++ a ∷ others)

  pub first_completes : (p : Piece) → IsPieceOf true before text p → Completes p []
  first_completes p h = λ a others k m. split_with p.text.now p.is_followed p.rest.now p.start p.behind h.split h.starts h.behind a others k m

  module _ (p : Piece) (so_far : List Alternative) (completes : Completes p so_far) (a : Alternative) (h : IsAlternative f p.is_followed p.start p.text.now a) where
    pub none_left : IsNextPiece p None → AreSplit f before text (so_far ++ a ∷ [])
    none_left none = completes a [] h (no_piece none)

    pub next_completes : (next : Piece) → IsNextPiece p (Some next) → Completes next (so_far ++ a ∷ [])
    next_completes next (from, trimmed, some, n) = λ b others k m.
        subst (AreSplit f before text) (sym (append_assoc so_far (a ∷ []) (b ∷ others))) (completes a (b ∷ others) h (more next.text.now next.is_followed next.rest.now n.split n.behind b others k m))
      where
        more : (piece : List ℕ) (followed : Bool) (rest : List ℕ) → IsSplitOff false from piece followed rest → next.behind + length rest ≡ (p.behind + (length p.rest.now - length from)) + length from → (b : Alternative) (others : List Alternative) → IsAlternative f followed next.start piece b
            → AreMoreAlternatives f next.behind rest others → AreMoreAlternatives f p.behind p.rest.now (b ∷ others)
        more piece followed rest (is_whole none is) ends b others k m =
            subst (λ (more : List Alternative). AreMoreAlternatives f p.behind p.rest.now (b ∷ more)) (none_of_nothing m) (last_piece trimmed some none (rw (is, n.starts) at k))
        more piece followed rest (is_cut c) ends b others k m =
            let at : next.behind ≡ p.behind + (length p.rest.now - length rest) = omega (arith, ends, trimmed_within trimmed, ap length c.text_is, length-append piece (124 ∷ 124 ∷ rest)) in
            cut_piece trimmed c (rw n.starts at k) (subst (λ (place : ℕ). AreMoreAlternatives f place rest others) at m)

-- ---- npm's text, trimmed

pub trimmed_alternatives : {before : ℕ} {text rest trimmed : List ℕ} {all : List Alternative} → IsTrimStart text rest → rest ≡ trim_start text → trimmed ≡ trim_end rest
    → AreSplit Npm (before + (length text - length rest)) trimmed all → AreTrimmed Npm before text all
trimmed_alternatives {text = text} {rest} h start end split = record { rest = rest; whitespace = whitespace_longest text rest h; split = rw (end ∙ ap trim_end start) at split }

-- ---- texts that parse back

parsed_writable : (f : Flavour) (flag : Bool) (start : ℕ) (piece : List ℕ) (parsed : Parsed) → IsParsedPiece f flag start piece parsed → IsWritable parsed
parsed_writable f flag start piece (Range range) h = piece_writable f flag piece range h
parsed_writable f flag start piece (Invalid e) h = tt

alternative_writable : {f : Flavour} {flag : Bool} {start : ℕ} {piece : List ℕ} {a : Alternative} → IsAlternative f flag start piece a → IsWritable a.parsed
alternative_writable {f} {flag} {start} {piece} {a} h = parsed_writable f flag start piece a.parsed h.parsed

more_writable : {f : Flavour} {n : ℕ} {text : List ℕ} {all : List Alternative} → AreMoreAlternatives f n text all → AreWritable all
more_writable (no_piece t) = tt
more_writable (last_piece t some n h) = (alternative_writable h, tt)
more_writable (cut_piece t c h m) = (alternative_writable h, more_writable m)

pub split_writable : {f : Flavour} {before : ℕ} {text : List ℕ} {all : List Alternative} → AreSplit f before text all → AreWritable all
split_writable (one_piece n h) = (alternative_writable h, tt)
split_writable (first_cut c h m) = (alternative_writable h, more_writable m)

pub strict_writable : (before : ℕ) (text : List ℕ) (parsed : Parsed) → IsStrictlyParsed before text parsed → IsWritable parsed
strict_writable before text (Range range) (c, h, fit, is) =
    subst IsWritableRange (specifier_retained h ∙ sym is) (outcome_writable Specifier text ((c ∷ []) ∷ []) (outcome.whole (whole_text h) fit)).0
strict_writable before text (Invalid e) h = tt

-- ---- the errors of alternatives

with_more : (parsed : Parsed) (errors more : List InvalidPiece) → with_error parsed (errors ++ more) ≡ with_error parsed errors ++ more
with_more (Range range) errors more = refl
with_more (Invalid e) errors more = refl

one_more : (all : List Alternative) (a : Alternative) → errors_of (all ++ a ∷ []) ≡ errors_of all ++ with_error a.parsed []
one_more [] a = refl
one_more (b ∷ all) a = ap (with_error b.parsed) (one_more all a) ∙ with_more b.parsed (errors_of all) (with_error a.parsed [])

pub range_more : (all : List Alternative) (a : Alternative) (range : VersionRange) → a.parsed ≡ Range range → errors_of (all ++ a ∷ []) ≡ errors_of all
range_more all a range is = one_more all a ∙ (ap (λ p. errors_of all ++ with_error p []) is ∙ append-nil (errors_of all))

pub error_more : (all : List Alternative) (a : Alternative) (e : InvalidPiece) → a.parsed ≡ Invalid e → errors_of (all ++ a ∷ []) ≡ errors_of all ++ e ∷ []
error_more all a e is = one_more all a ∙ ap (λ p. errors_of all ++ with_error p []) is
