-- JSON without floats, whose text is the compact one.
use Rattle.std.proofs.Common.{◌≡◌, ◌∙◌, ◌||◌, ℕ, List, [], ◌∷◌, false, map, refl, ap, Option, Some, None, string_bytes}
use Rattle.std.specs.Str.{trim}
use Rattle.serde_json.specs.Data.{string}
use Rattle.serde_json.specs.View.{items_of}
use Rattle.serde_json.specs.Written.{has_float, items_have_float}
use Rattle.semver_base.specs.declared.range.RangeBound.{RangeBound}
use Rattle.semver_base.specs.declared.range.RangeBound.TheVariants as bound
use Rattle.semver_base.specs.declared.range.VersionRange.{VersionRange}
use Rattle.semver_base.specs.declared.version.Version.{Version}
use Rattle.semver_base.specs.declared.range.PreRelease.{PreRelease}
use Rattle.semver_base.specs.declared.range.PreRelease.TheVariants as pre_release
use Rattle.semver_req.specs.declared.error_places.pieces.InvalidPiece.{InvalidPiece}
use Rattle.answers.specs.Errors.{error_json, errors_json, expected_texts}
use Rattle.answers.specs.Explained.{shown}
use Rattle.answers.specs.ExplainedJson.{alternative_json, comparator_json, lowest_json, matches_json, meaning_json, numbers_text, pre_releases, pre_releases_json, ranges_explained}
use Rattle.answers.specs.declared.explained.Matches.{Matches}
use Rattle.answers.specs.declared.explained.Meaning.{Meaning}
use Rattle.answers.specs.declared.explained.Meaning.TheVariants as meaning
use Rattle.answers.specs.declared.explained.Piece.{Piece}
use Rattle.answers.specs.Parts.{bound_json, range_json, ranges_json, version_json}

texts_no_float : (texts : List (List ℕ)) → items_have_float (items_of (map string texts)) ≡ false
texts_no_float [] = refl
texts_no_float (t ∷ ts) = texts_no_float ts

pub version_no_float : (v : Version) → has_float (version_json v) ≡ false
version_no_float v = ap (λ b. b || (items_have_float (items_of (map string v.pre)) || false)) (texts_no_float v.build) ∙ ap (λ b. b || false) (texts_no_float v.pre)

bound_no_float : (b : RangeBound) → has_float (bound_json b) ≡ false
bound_no_float bound.Unbounded = refl
bound_no_float (bound.Version b) = refl

range_no_float : (range : VersionRange) → has_float (range_json range) ≡ false
range_no_float range = ap (λ b. b || (has_float (bound_json range.start) || false)) (bound_no_float range.end) ∙ ap (λ b. b || false) (bound_no_float range.start)

all_no_float : (ranges : List VersionRange) → items_have_float (items_of (map range_json ranges)) ≡ false
all_no_float [] = refl
all_no_float (r ∷ rs) = ap (λ b. b || items_have_float (items_of (map range_json rs))) (range_no_float r) ∙ all_no_float rs

pub ranges_no_float : (ranges : List VersionRange) → has_float (ranges_json ranges) ≡ false
ranges_no_float ranges = all_no_float ranges

-- ---- errors

error_no_float : (e : InvalidPiece) → has_float (error_json e) ≡ false
error_no_float e = ap (λ b. b || false) (texts_no_float (expected_texts e.cause))

each_no_float : (errors : List InvalidPiece) → items_have_float (items_of (map error_json errors)) ≡ false
each_no_float [] = refl
each_no_float (e ∷ es) = ap (λ b. b || items_have_float (items_of (map error_json es))) (error_no_float e) ∙ each_no_float es

pub errors_no_float : (errors : List InvalidPiece) → has_float (errors_json errors) ≡ false
errors_no_float errors = each_no_float errors

-- ---- explanations

lowest_no_float : (lowest : Option Version) → has_float (lowest_json lowest) ≡ false
lowest_no_float (Some v) = refl
lowest_no_float None = refl

pre_releases_no_float : (flag : PreRelease) (m : Matches) → has_float (pre_releases_json flag m) ≡ false
pre_releases_no_float pre_release.Restricted m = texts_no_float (map numbers_text (pre_releases m))
pre_releases_no_float pre_release.Admitted m = refl

each_comparator_no_float : (cs : List (List ℕ × VersionRange)) → items_have_float (items_of (map comparator_json cs)) ≡ false
each_comparator_no_float [] = refl
each_comparator_no_float (c ∷ cs) =
    ap (λ b. (b || (has_float (bound_json c.1.start) || false)) || items_have_float (items_of (map comparator_json cs))) (bound_no_float c.1.end)
    ∙ ap (λ b. (b || false) || items_have_float (items_of (map comparator_json cs))) (bound_no_float c.1.start)
    ∙ each_comparator_no_float cs

matches_no_float : (flag : PreRelease) (text : List ℕ) (cs : List (List ℕ × VersionRange)) (m : Matches) → has_float (matches_json flag text cs m) ≡ false
matches_no_float flag text cs m = ap (λ b. b || (has_float (bound_json m.range.end) || (has_float (lowest_json m.lowest) || (has_float (pre_releases_json flag m) || (has_float (bound_json m.range.start) || false))))) (each_comparator_no_float cs)
    ∙ ap (λ b. b || (has_float (lowest_json m.lowest) || (has_float (pre_releases_json flag m) || (has_float (bound_json m.range.start) || false)))) (bound_no_float m.range.end)
    ∙ ap (λ b. b || (has_float (pre_releases_json flag m) || (has_float (bound_json m.range.start) || false))) (lowest_no_float m.lowest)
    ∙ ap (λ b. b || (has_float (bound_json m.range.start) || false)) (pre_releases_no_float flag m)
    ∙ ap (λ b. b || false) (bound_no_float m.range.start)

meaning_no_float : (flag : PreRelease) (text : List ℕ) (cs : List (List ℕ × VersionRange)) (m : Meaning) → has_float (meaning_json flag text cs m) ≡ false
meaning_no_float flag text cs (meaning.Range m) = matches_no_float flag text cs m
meaning_no_float flag text cs (meaning.LeftOut e) = ap (λ b. b || false) (error_no_float e)

alternatives_no_float : (flag : PreRelease) (pieces : List Piece) → items_have_float (items_of (map (alternative_json flag) pieces)) ≡ false
alternatives_no_float flag [] = refl
alternatives_no_float flag (p ∷ ps) =
    ap (λ b. b || items_have_float (items_of (map (alternative_json flag) ps))) (meaning_no_float flag (trim (string_bytes p.text)) (map shown p.comparators.items) p.meaning) ∙ alternatives_no_float flag ps

pub explained_no_float : (flag : PreRelease) (pieces : List Piece) (normal : List ℕ) → has_float (ranges_explained flag pieces normal) ≡ false
explained_no_float flag pieces normal = ap (λ b. b || false) (alternatives_no_float flag pieces)
