-- Which version a string holds. Source: node-semver's documentation of `coerce`: one to three numbers with a dot between neighbours, of which
-- those that are missing are 0, and with `includePrerelease` the pre-release and the build behind them; the first such version, or, from the
-- right, the one that ends last. What is ours: a number fits if it is at most 18446744073709551615, and may have leading zeros; one that
-- doesn't fit belongs to no version; a pre-release and a build are as long as the strict grammar of versions lets them be.
use Rattle.std.specs.Prelude.{◌≡◌, ◌++◌, ◌≤◌, ◌==◌, ◌∷◌, ℕ, Bool, false, List, [], Option, Some, None, drop, length, if◌then◌else◌}
use Rattle.std.specs.Char.{is_ascii_digit}
use Rattle.std.specs.List.{take_while}
use Rattle.std.specs.Option.{option_map}
use Rattle.semver_base.specs.Characters.{dot}
use Rattle.semver_base.specs.Grammar.{IsLongest}
use Rattle.semver_base.specs.Lexical.{IsQualifier}
use Rattle.semver_base.specs.Meaning.{release}
use Rattle.semver_base.specs.Precedence.{number_of}
use Rattle.semver_base.specs.declared.lexical.values.Qualifier.{Qualifier}
use Rattle.semver_base.specs.declared.lexical.values.Strictness.TheVariants.{Strict}
use Rattle.semver_base.specs.declared.version.Version.{Version}
use Rattle.node_semver.specs.declared.coerce.Direction.{Direction}
use Rattle.node_semver.specs.declared.coerce.Direction.TheVariants as direction
use Rattle.node_semver.specs.declared.coerce.Parts.{Parts}
use Rattle.node_semver.specs.declared.coerce.Parts.TheVariants as parts
use Rattle.node_semver.specs.declared.coerce.Run.{Run}

-- ---- numbers

-- all the digits that the text begins with
abbrev pub leading_digits : List ℕ → List ℕ
leading_digits text = take_while is_ascii_digit text

-- the number that they are, if it fits, and the text behind them
abbrev pub leading_number : List ℕ → Option (ℕ × List ℕ)
leading_number text = option_map (λ n. (n, drop (length (leading_digits text)) text)) (number_of (leading_digits text))

-- a dot and a number behind it
abbrev pub dotted_number : List ℕ → Option (ℕ × List ℕ)
dotted_number [] = None
dotted_number (c ∷ text) = if c == dot then leading_number text else None

-- the next number, which is 0 if it is missing
abbrev pub or_zero : List ℕ → Option (ℕ × List ℕ) → ℕ × List ℕ
or_zero text None = (0, text)
or_zero text (Some found) = found

abbrev pub next_number : List ℕ → ℕ × List ℕ
next_number text = or_zero text (dotted_number text)

-- the release of these numbers, and the text behind them
abbrev pub release_of : ℕ → ℕ × List ℕ → Version × List ℕ
release_of major minor = let patch = next_number minor.1 in (release major minor.0 patch.0, patch.1)

-- the release of the one to three numbers that the text begins with, as many as there are, and the text behind them
abbrev pub leading_release : List ℕ → Option (Version × List ℕ)
leading_release text = option_map (λ found. release_of found.0 (next_number found.1)) (leading_number text)

-- ---- a version with its pre-release and its build

abbrev pub with_qualifier : Version → Qualifier → Version
with_qualifier v q = record { major = v.major; minor = v.minor; patch = v.patch; pre = q.pre; build = q.build }

-- the text begins with numbers and with the longest pre-release and build behind them
pub record BeginsWithAll (text : List ℕ) (v : Version) (rest : List ℕ) : Type 0 where
  pub numbers : Version
  pub middle : List ℕ
  pub qualifier : Qualifier
  pub leads : leading_release text ≡ Some (numbers, middle)
  pub goes_on : IsLongest (IsQualifier Strict) middle qualifier rest
  pub version : v ≡ with_qualifier numbers qualifier

-- the text begins with these parts of the version, and the rest comes behind them
abbrev pub BeginsWith : Parts → List ℕ → Version → List ℕ → Type 0
BeginsWith parts.Numbers text v rest = leading_release text ≡ Some (v, rest)
BeginsWith parts.All text v rest = BeginsWithAll text v rest

-- ---- the versions of a text

-- whether the last of these bytes is a digit; if there are none, whether a digit came before them
abbrev pub ends_in_digit : Bool → List ℕ → Bool
ends_in_digit after [] = after
ends_in_digit after (c ∷ text) = ends_in_digit (is_ascii_digit c) text

-- behind these bytes, the last of which is no digit, the text goes on with a version and the bytes behind it
pub record IsRunBehind (kept : Parts) (after : Bool) (text before : List ℕ) (run : Run) : Type 0 where
  pub from : List ℕ
  pub rest : List ℕ
  pub split : before ++ from ≡ text
  pub apart : ends_in_digit after before ≡ false
  pub begins : BeginsWith kept from run.version rest
  pub behind : run.behind ≡ length rest

-- the text has none
abbrev pub HasNoRun : Parts → Bool → List ℕ → Type 0
HasNoRun kept after text = (before : List ℕ) (run : Run) → IsRunBehind kept after text before run → ⊥

-- none begins earlier
pub record IsFirstRun (kept : Parts) (after : Bool) (text : List ℕ) (run : Run) : Type 0 where
  pub before : List ℕ
  pub is_run : IsRunBehind kept after text before run
  pub first : (others : List ℕ) (other : Run) → IsRunBehind kept after text others other → length before ≤ length others

-- none ends later, and of those that end there none begins earlier
pub record IsLastRun (kept : Parts) (after : Bool) (text : List ℕ) (run : Run) : Type 0 where
  pub before : List ℕ
  pub is_run : IsRunBehind kept after text before run
  pub last : (others : List ℕ) (other : Run) → IsRunBehind kept after text others other → run.behind ≤ other.behind
  pub longest : (others : List ℕ) (other : Run) → IsRunBehind kept after text others other → other.behind ≡ run.behind
      → length before ≤ length others

-- the one that a direction picks, if there is one
abbrev pub IsPicked : Direction → Parts → Bool → List ℕ → Option Run → Type 0
IsPicked d kept after text None = HasNoRun kept after text
IsPicked direction.LeftToRight kept after text (Some run) = IsFirstRun kept after text run
IsPicked direction.RightToLeft kept after text (Some run) = IsLastRun kept after text run

-- ---- the version

-- the version that a text holds, if it holds one
pub record IsCoerced (d : Direction) (kept : Parts) (text : List ℕ) (found : Option Version) : Type 0 where
  pub run : Option Run
  pub picked : IsPicked d kept false text run
  pub version : found ≡ option_map (λ (r : Run). r.version) run
