-- A piece with trailing whitespace: if the piece is valid, so is the longer one, in both grammars that split a text.
use Rattle.std.proofs.Common.{◌≡◌, ◌<◌, ℕ, Bool, true, false, List, [], ◌∷◌, ◌++◌, length, ap, inl, inr, arith, append_assoc, append-nil, length-append}
use Rattle.std.specs.Char.{is_not_whitespace}
use Rattle.std.proofs.lemmas.Str.{NoCharPasses-append}
use Rattle.semver_base.specs.Comparators.{Comparator}
use Rattle.semver_base.specs.Grammar.{Listed, last_item, closed_item, more_items}
use Rattle.semver_base.specs.Lexical.{IsWhitespace, IsSomeWhitespace}
use Rattle.semver_req.specs.Comparators.{IsComparator}
use Rattle.semver_req.specs.Outcome.{IsBad}
use Rattle.semver_req.specs.Pieces.{IsCutting, IsPiece, npm, normal}
use Rattle.semver_req.specs.declared.common.values.Flavour.{Flavour}
use Rattle.semver_req.specs.declared.common.values.Flavour.TheVariants.{Npm, Normal, Specifier}
use Rattle.semver_req.proofs.Wider.{pieces_wider}

-- trailing whitespace closes a list
closed : {V : Type 0} (A : List ℕ → V → Type 0) (text s : List ℕ) (vs : List V) → Listed A IsSomeWhitespace text vs → IsSomeWhitespace s tt → Listed A IsSomeWhitespace (text ++ s) vs
closed A text s vs (last_item h) b = closed_item h b
closed A text s vs (closed_item {a = a} {s = r} h k) b =
    let both : IsSomeWhitespace (r ++ s) tt = (omega (arith, length-append r s, k.0), NoCharPasses-append is_not_whitespace r s k.1 b.1) in
    rw (append_assoc a r s) (closed_item h both)
closed A text s vs (more_items {a = a} {s = r} {b = rest} {vs = others} h k t) b =
    rw (append_assoc a (r ++ rest) s, append_assoc r rest s) (more_items h k (closed A rest s others t b))

piece_closed : (text s : List ℕ) (cs : List Comparator) → 0 < length text → IsWhitespace s tt → IsPiece Normal text cs → IsPiece Normal (text ++ s) cs
piece_closed text s [] some b h = absurd (omega (arith, some, ap length h))
piece_closed text [] (c ∷ cs) some b h = rw append-nil h
piece_closed text (x ∷ s) (c ∷ cs) some b h = closed (IsComparator Normal) text (x ∷ s) (c ∷ cs) h (omega arith, b)

-- so if the longer piece is invalid, the shorter one isn't valid in the normalized grammar
pub bad_before : (f : Flavour) (followed : Bool) → IsCutting f → (text s : List ℕ) → 0 < length text → IsWhitespace s tt → IsBad f followed (text ++ s) → IsBad Normal false text
bad_before Npm followed npm text s some b h cs (inl k) = h cs (inl (pieces_wider (text ++ s) cs (piece_closed text s cs some b k.0), k.1))
bad_before Normal followed normal text s some b h cs (inl k) = h cs (inl (piece_closed text s cs some b k.0, k.1))
bad_before Specifier followed cuts text s some b h cs k = elim cuts [ ]
bad_before f followed cuts text s some b h cs (inr k) = let same : false ≡ true = k.0 in cc same
