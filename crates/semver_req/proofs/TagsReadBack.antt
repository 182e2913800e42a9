-- If a parser makes a tag of a text that doesn't begin with whitespace, the normalized parser returns the same tag for it.
use Rattle.std.proofs.Common.{◌≡◌, ◌<◌, ℕ, Bool, true, false, List, [], ◌∷◌, ◌++◌, length, sym, ◌∙◌, arith, IsUtf8}
use Rattle.std.specs.Str.{trim, trim_start}
use Rattle.semver_req.specs.Outcome.{IsBad, IsCutOutcome, IsOutcome, IsSpecifierOutcome, IsTagOr, Tag, no_fit, no_front, one_bad, tag}
use Rattle.semver_req.specs.Pieces.{IsCutting, npm, normal, one_piece}
use Rattle.semver_req.specs.Parsers.{StartsFit}
use Rattle.semver_req.specs.Rereading.{TagsReadBack}
use Rattle.semver_req.specs.Tag.{is_valid_tag}
use Rattle.semver_req.specs.declared.common.values.Flavour.{Flavour}
use Rattle.semver_req.specs.declared.common.values.Flavour.TheVariants.{Npm, Normal, Specifier}
use Rattle.semver_req.proofs.WhitespaceBehind.{bad_before}
use Rattle.semver_req.proofs.SpecifierTags.{nothing_no_tag, specifier_no_tag}
use Rattle.semver_req.proofs.TagPieces.{IsFirst, only_piece, piece_left, trimmed}
use Rattle.semver_req.proofs.TagTexts.{tag_no_bar, tag_trimmed}

-- what the normalized parser makes of a valid tag that is invalid as a piece
bad_tag : (text : List ℕ) → IsUtf8 text → is_valid_tag text ≡ true → IsBad Normal false text → IsCutOutcome Normal text (Tag text)
bad_tag text u valid bad =
    let is : IsTagOr (trim text) (Tag text) = rw (tag_trimmed text u valid) (tag valid) in
    one_bad (one_piece (tag_no_bar text u valid)) bad is

some_tag : (text : List ℕ) → is_valid_tag text ≡ true → 0 < length text
some_tag [] valid = let same : false ≡ true = sym nothing_no_tag ∙ valid in cc same
some_tag (x ∷ text) valid = omega arith

piece_back : (f : Flavour) (followed : Bool) → IsCutting f → (piece t : List ℕ) → IsFirst piece → IsBad f followed piece → IsTagOr (trim piece) (Tag t) → IsCutOutcome Normal t (Tag t)
piece_back f followed cuts piece t first bad (tag valid) =
    let left = piece_left piece first.utf8 first.start in
    let whole : IsBad f followed (trim piece ++ left.behind) = rw left.text_is at bad in
    bad_tag (trim piece) left.utf8 valid (bad_before f followed cuts (trim piece) left.behind (some_tag (trim piece) valid) left.whitespace whole)

cut_back : (f : Flavour) → IsCutting f → (text t : List ℕ) → IsUtf8 text → trim_start text ≡ text → IsCutOutcome f text (Tag t) → IsCutOutcome Normal t (Tag t)
cut_back f cuts text t u start (one_bad {piece = piece} {b = b} pieces bad is) = piece_back f b cuts piece t (only_piece text piece b u start pieces) bad is

specifier_back : (text t : List ℕ) → IsUtf8 text → IsSpecifierOutcome text (Tag t) → IsCutOutcome Normal t (Tag t)
specifier_back text t u (no_front n (tag valid)) = bad_tag text u valid (λ cs good. specifier_no_tag text text cs good (no_front n (tag valid)))
specifier_back text t u (no_fit l f (tag valid)) = bad_tag text u valid (λ cs good. specifier_no_tag text text cs good (no_fit l f (tag valid)))

pub tag_back : TagsReadBack
tag_back Npm text t u start o = let first = trimmed text u in cut_back Npm npm (trim text) t first.utf8 first.start o
tag_back Normal text t u start o = cut_back Normal normal text t u start o
tag_back Specifier text t u start o = specifier_back text t u o

-- such a tag is a valid one
of_tag : (text t : List ℕ) → IsUtf8 text → IsTagOr text (Tag t) → IsUtf8 t × (is_valid_tag t ≡ true)
of_tag text t u (tag valid) = (u, valid)

cut_valid : (f : Flavour) (text t : List ℕ) → IsUtf8 text → trim_start text ≡ text → IsCutOutcome f text (Tag t) → IsUtf8 t × (is_valid_tag t ≡ true)
cut_valid f text t u start (one_bad {piece = piece} {b = b} pieces bad is) =
    let first = only_piece text piece b u start pieces in
    of_tag (trim piece) t (piece_left piece first.utf8 first.start).utf8 is

specifier_valid : (text t : List ℕ) → IsUtf8 text → IsSpecifierOutcome text (Tag t) → IsUtf8 t × (is_valid_tag t ≡ true)
specifier_valid text t u (no_front n is) = of_tag text t u is
specifier_valid text t u (no_fit l f is) = of_tag text t u is

pub tag_valid : (f : Flavour) (text t : List ℕ) → IsUtf8 text → StartsFit f text → IsOutcome f text (Tag t) → IsUtf8 t × (is_valid_tag t ≡ true)
tag_valid Npm text t u start o = let first = trimmed text u in cut_valid Npm (trim text) t first.utf8 first.start o
tag_valid Normal text t u start o = cut_valid Normal text t u start o
tag_valid Specifier text t u start o = specifier_valid text t u o
