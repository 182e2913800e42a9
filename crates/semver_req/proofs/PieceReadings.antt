-- Each piece has one list of comparators.
use Rattle.std.proofs.Common.{◌≡◌, ◌<◌, ℕ, List, [], ◌∷◌, ◌++◌, length, ap, ◌∙◌, arith, length-append, refl}
use Rattle.semver_base.specs.Comparators.{Comparator}
use Rattle.semver_base.specs.Grammar.{IsLongest}
use Rattle.semver_base.specs.Lexical.{IsWhitespace}
use Rattle.semver_base.specs.ValueLaws.{Unambiguous, after_one, before_one, either_one, followed_one, listed_one, mapped_one, prefixed_one}
use Rattle.semver_base.specs.SolidLaws.{some_text}
use Rattle.semver_req.specs.Comparators.{IsComparator}
use Rattle.semver_req.specs.Pieces.{IsFilled, IsHyphen, IsHyphened, IsNpmSeparator, IsPiece, IsSeparator, IsUpper}
use Rattle.semver_req.specs.declared.common.values.Flavour.{Flavour}
use Rattle.semver_req.specs.declared.common.values.Flavour.TheVariants.{Npm, Normal, Specifier}
use Rattle.semver_req.proofs.ComparatorReadings.{comparator_one}
use Rattle.semver_req.proofs.GrammarFacts.{filled_no_whitespace, filled_some, listing, no_both, no_second, partial_hyphened, partial_whitespace, whitespace_hyphen, whitespace_upper}
use Rattle.semver_req.proofs.PartialReadings.{partial_one}

-- ---- hyphen ranges

upper_one : Unambiguous IsUpper
upper_one = before_one partial_whitespace (partial_one Npm)

hyphened_one : Unambiguous IsHyphened
hyphened_one = after_one whitespace_hyphen (prefixed_one 45 (after_one whitespace_upper upper_one))

pub hyphen_one : Unambiguous IsHyphen
hyphen_one = mapped_one (followed_one partial_hyphened (partial_one Npm) hyphened_one)

-- ---- lists

-- a hyphen range has no second comparator
pub hyphen_no_second : {text rest next more : List ℕ} {c d : Comparator} {cs : List Comparator} → IsHyphen text cs → IsLongest (IsComparator Npm) text c rest → IsLongest IsNpmSeparator rest tt next → IsLongest (IsComparator Npm) next d more → ⊥
hyphen_no_second {text} {rest} {next} {more} {c} {d} {cs} h l s m =
    let whole : text ≡ l.front ++ (s.front ++ (m.front ++ more)) = l.text_is ∙ ap (λ t. l.front ++ t) (s.text_is ∙ ap (λ t. s.front ++ t) m.text_is) in
    no_second l.front s.front m.front more c d cs (rw whole at h) l.stands s.stands m.stands

-- less is left after a separator and an item
pub list_shorter : (f : Flavour) {V : Type 0} {A : List ℕ → V → Type 0} {rest next more : List ℕ} {v : V} → IsLongest (IsSeparator f) rest tt next → IsLongest A next v more → length more < length rest
list_shorter f {rest = rest} {next = next} {more = more} p q =
    omega (arith, some_text (listing f).separator_some p.front p.stands, ap length p.text_is, length-append p.front next, ap length q.text_is, length-append q.front more)

-- ---- pieces

pub filled_one : (f : Flavour) → Unambiguous (IsFilled f)
filled_one Npm = either_one no_both hyphen_one (listed_one (listing Npm) (comparator_one Npm))
filled_one Normal = listed_one (listing Normal) (comparator_one Normal)
filled_one Specifier = record { one = λ text v w h k. absurd h }

pub piece_one : (f : Flavour) → Unambiguous (IsPiece f)
piece_one f = record { one = go }
  where
    go : (text : List ℕ) (cs ds : List Comparator) → IsPiece f text cs → IsPiece f text ds → cs ≡ ds
    go text [] [] h k = refl
    go text [] (d ∷ ds) h k = absurd ((filled_some f).some (d ∷ ds) (rw h at k))
    go text (c ∷ cs) [] h k = absurd ((filled_some f).some (c ∷ cs) (rw k at h))
    go text (c ∷ cs) (d ∷ ds) h k = (filled_one f).one text (c ∷ cs) (d ∷ ds) h k

-- the only piece that is whitespace is the empty one
pub whitespace_piece : (f : Flavour) (text : List ℕ) (cs : List Comparator) → IsPiece f text cs → IsWhitespace text tt → cs ≡ []
whitespace_piece f text [] h k = refl
whitespace_piece f text (c ∷ cs) h k = absurd ((filled_no_whitespace f).both text (c ∷ cs) tt h k)
