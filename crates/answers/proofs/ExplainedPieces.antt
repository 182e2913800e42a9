-- Alternatives explained one after another.
use Rattle.std.proofs.Common.{◌≡◌, ◌<◌, ◌++◌, ℕ, suc, zero, List, [], ◌∷◌, arith, ap, get_or, length, refl, subst, sym}
use Rattle.semver_req.specs.Alternatives.{AreWritable, IsWritable}
use Rattle.answers.specs.Explained.{AreExplained, IsExplainedPiece, fitting, with_range}
use Rattle.answers.specs.declared.explained.Piece.{Piece}
use Rattle.semver_req.specs.declared.range_set_or_tag.pieces.RangeOrInvalid.{RangeOrInvalid}
use Rattle.semver_req.specs.declared.range_set_or_tag.pieces.RangeOrInvalid.TheVariants as read
use Rattle.semver_base.specs.declared.range.PreRelease.{PreRelease}
use Rattle.semver_base.specs.declared.range.VersionRange.{VersionRange}
use Rattle.semver_req.specs.declared.common.values.Flavour.{Flavour}
use Rattle.semver_req.specs.declared.error_places.pieces.Alternative.{Alternative}

-- one more
pub explained_more : (f : Flavour) (flag : PreRelease) (alternatives : List Alternative) (pieces : List Piece) (a : Alternative) (piece : Piece) → AreExplained f flag alternatives pieces → IsExplainedPiece f flag a piece
    → AreExplained f flag (alternatives ++ a ∷ []) (pieces ++ piece ∷ [])
explained_more f flag [] [] a piece h k = (k, tt)
explained_more f flag (b ∷ bs) (p ∷ ps) a piece h k = (h.0, explained_more f flag bs ps a piece h.1 k)
explained_more f flag [] (p ∷ ps) a piece h k = absurd h
explained_more f flag (b ∷ bs) [] a piece h k = absurd h

-- each of alternatives that are writable is
pub writable_at : (all : List Alternative) (i : ℕ) (a : Alternative) → i < length all → a ≡ get_or all i a → AreWritable all → IsWritable a.parsed
writable_at [] i a within is h = absurd (omega arith)
writable_at (b ∷ all) zero a within is h = subst (λ (c : Alternative). IsWritable c.parsed) (sym is) h.0
writable_at (b ∷ all) (suc i) a within is h = writable_at all i a (omega arith) is h.1

with_more : (text : List ℕ) (parsed : RangeOrInvalid) (xs ys zs : List (List ℕ × VersionRange)) → xs ≡ ys ++ zs → with_range text parsed xs ≡ with_range text parsed ys ++ zs
with_more text (read.Range range) xs ys zs e = ap (λ l. (text, range) ∷ l) e
with_more text (read.Invalid rejection) xs ys zs e = e

-- the comparators so far that fit, with one more
pub fitting_more : (items : List (List ℕ × RangeOrInvalid)) (text : List ℕ) (parsed : RangeOrInvalid) → fitting (items ++ (text, parsed) ∷ []) ≡ fitting items ++ with_range text parsed []
fitting_more [] text (read.Range range) = refl
fitting_more [] text (read.Invalid rejection) = refl
fitting_more (item ∷ items) text parsed = with_more item.0 item.1 _ _ _ (fitting_more items text parsed)
