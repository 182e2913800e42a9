-- With which endings a prefix of a text is a text: computed of each grammar's rule.
use Rattle.std.proofs.Common.{◌≡◌, ◌<◌, ℕ, Bool, true, List, [], ◌∷◌, ◌++◌, inl, inr, ltb, refl, subst, arith, append-nil, IsUtf8, codes}
use Rattle.std.specs.List.{list_all}
use Rattle.std.proofs.Math.Utf8.{low_scalar}
use Rattle.std.proofs.lemmas.Bool.{and_parts, ltb-true}
use Rattle.std.proofs.lemmas.Str.{IsUtf8-append, IsUtf8-encode, IsUtf8-nil, encode_ascii}
use Rattle.semver_base.specs.Comparators.{Comparator}
use Rattle.semver_base.specs.Lexical.{IsWhitespace}
use Rattle.semver_base.specs.VersionGrammar.{AllNumbersFit}
use Rattle.semver_base.specs.declared.lexical.values.Strictness.TheVariants.{Loose}
use Rattle.semver_base.specs.declared.version.Version.{Version}
use Rattle.semver_req.specs.Partials.{strictness_of}
use Rattle.semver_req.specs.Pieces.{IsCutting, IsFilled, npm, normal}
use Rattle.semver_req.specs.Viable.{IsPart, IsViablePrefix}
use Rattle.semver_req.specs.declared.common.values.Flavour.{Flavour}
use Rattle.semver_req.specs.declared.common.values.Flavour.TheVariants.{Npm, Normal, Specifier}
use Rattle.semver_req.proofs.Grammars as rule
use Rattle.semver_req.proofs.GrammarTexts.{AreSizes, InComparator, IsSurrounded, Numbers, are_numbers, below, filled_described, part_described, surrounded_described}
use Rattle.semver_req.proofs.RuleTexts.{Any, Describes, Each, EndsBy, ends_by}
use Rattle.semver_req.proofs.States.{Starts, failing, each}
use Rattle.semver_req.proofs.Symbols.{AreNumbers, SaidBy, begun, ended, is_ended}
use Rattle.semver_req.proofs.WhitespaceTexts.{whitespace_described}

-- ---- texts of ASCII

pub one_byte_text : (c : ℕ) → c < 128 → IsUtf8 (c ∷ [])
one_byte_text c h = subst IsUtf8 (encode_ascii c h) (IsUtf8-encode c (low_scalar c (omega (arith, h))))

abbrev pub is_ascii : List ℕ → Bool
is_ascii t = list_all (λ x. ltb x 128) t

pub ascii_text : (t : List ℕ) → is_ascii t ≡ true → IsUtf8 t
ascii_text [] h = IsUtf8-nil
ascii_text (x ∷ t) h = let both = and_parts (ltb x 128) (is_ascii t) h in IsUtf8-append (x ∷ []) t (one_byte_text x (ltb-true x 128 both.0)) (ascii_text t both.1)

-- a prefix is viable if it is a text with one of the endings, where texts of A whose values have F are texts of B
pub viable_by : {V : Type 0} (A : List ℕ → V → Type 0) (F : V → Type 0) (B : List ℕ → V → Type 0) → ((t : List ℕ) (v : V) → A t v → F v → B t v) → (p : List ℕ) (es : List (List ℕ)) → list_all is_ascii es ≡ true → EndsBy A F p es → IsViablePrefix B p
viable_by A F B w p [] k h = absurd h
viable_by A F B w p (e ∷ es) k (inl h) = record { more = e; value = h.0; is_text = ascii_text e (and_parts (is_ascii e) (list_all is_ascii es) k).0; stands = w (p ++ e) h.0 h.1 h.2 }
viable_by A F B w p (e ∷ es) k (inr h) = viable_by A F B w p es (and_parts (is_ascii e) (list_all is_ascii es) k).1 h

-- ---- whitespace

abbrev any_number : List ℕ → Type 0
any_number t = Unit {0}

any_numbers : AreNumbers any_number
any_numbers = record { shorter = λ x p u h. tt; one = tt }

-- a prefix of whitespace is whitespace
pub whitespace_front : (p u : List ℕ) → Starts u → IsWhitespace (p ++ u) tt → IsWhitespace p tt
whitespace_front p u s h = go (ends_by described p ([] ∷ []) (ended any_numbers ([] ∷ []) rule.whitespace (each (is_ended ([] ∷ [])) rule.whitespace refl) p u s (described.into (p ++ u) tt h tt)))
  where
    described : Describes any_number IsWhitespace Any rule.whitespace
    described = whitespace_described

    go : EndsBy IsWhitespace Any p ([] ∷ []) → IsWhitespace p tt
    go (inl h) = subst (λ t. IsWhitespace t tt) (append-nil p) h.1
    go (inr h) = absurd h

-- ---- alternatives

abbrev pub piece_endings : List (List ℕ)
piece_endings = [] ∷ codes "1" ∷ codes "&" ∷ codes " 1" ∷ []

filled_checked : (f : Flavour) → IsCutting f → failing (is_ended piece_endings) (rule.filled f) ≡ []
filled_checked Npm npm = refl
filled_checked Normal normal = refl
filled_checked Specifier cuts = elim cuts [ ]

module _ (N : ℕ → Type 0) (sizes : AreSizes N) where
  pub filled_ended : (f : Flavour) → IsCutting f → (p u : List ℕ) → Starts u → (cs : List Comparator) → IsFilled f (p ++ u) cs → Each (InComparator N) cs → EndsBy (IsFilled f) (Each (InComparator N)) p piece_endings
  filled_ended f cuts p u s cs h i = ends_by (filled_described N f cuts) p piece_endings (ended (are_numbers (strictness_of f) sizes) piece_endings (rule.filled f) (each (is_ended piece_endings) (rule.filled f) (filled_checked f cuts)) p u s ((filled_described N f cuts).into (p ++ u) cs h i))

-- ---- ranges of the strict grammar

abbrev pub range_endings : List (List ℕ)
range_endings = [] ∷ codes "1" ∷ []

range_checked : failing (is_ended range_endings) (rule.part Specifier) ≡ []
range_checked = refl

module _ (N : ℕ → Type 0) (sizes : AreSizes N) where
  range_said : (p : List ℕ) → SaidBy (Numbers N Specifier) (rule.part Specifier) p range_endings → EndsBy (IsPart Specifier) (Each (InComparator N)) p range_endings
  range_said p h = ends_by (part_described N Specifier) p range_endings h

  pub range_ended : (p u : List ℕ) → Starts u → (cs : List Comparator) → IsPart Specifier (p ++ u) cs → Each (InComparator N) cs → EndsBy (IsPart Specifier) (Each (InComparator N)) p range_endings
  range_ended p u s cs h i = range_said p (ended (are_numbers (strictness_of Specifier) sizes) range_endings (rule.part Specifier) (each (is_ended range_endings) (rule.part Specifier) range_checked) p u s ((part_described N Specifier).into (p ++ u) cs h i))

  pub range_begun : EndsBy (IsPart Specifier) (Each (InComparator N)) [] range_endings
  range_begun = range_said [] (begun (are_numbers (strictness_of Specifier) sizes) range_endings (rule.part Specifier) refl)

-- ---- versions

abbrev pub version_endings : List (List ℕ)
version_endings = [] ∷ codes "1" ∷ codes "1.1" ∷ codes "1.1.1" ∷ codes ".1" ∷ codes ".1.1" ∷ []

version_checked : failing (is_ended version_endings) rule.surrounded_version ≡ []
version_checked = refl

pub version_ended : (p u : List ℕ) → Starts u → (v : Version) → IsSurrounded (p ++ u) v → AllNumbersFit v → EndsBy IsSurrounded AllNumbersFit p version_endings
version_ended p u s v h i = ends_by surrounded_described p version_endings (ended (are_numbers Loose below) version_endings rule.surrounded_version (each (is_ended version_endings) rule.surrounded_version version_checked) p u s (surrounded_described.into (p ++ u) v h i))

pub version_begun : EndsBy IsSurrounded AllNumbersFit [] version_endings
version_begun = ends_by surrounded_described [] version_endings (begun (are_numbers Loose below) version_endings rule.surrounded_version refl)
