-- Questions about values that handles hold.
use Rattle.std.specs.Prelude.{◌≡◌, ◌⊎◌, ◌↔◌, IsTrue, ℕ, ℤ, List, Bool, Option, Some, None, Result, Ok, Err, length, slice_get}
use Rattle.semver_base.specs.Scans.{ScansAreSorted, ScansFind}
use Rattle.semver_base.specs.declared.range.PreRelease.{PreRelease}
use Rattle.semver_base.specs.declared.range.scans.Scan.{Scan}
use Rattle.semver_base.specs.declared.version.Version.{Version}
use Rattle.semver_req.specs.Parsers.{IsReadOrTag}
use Rattle.semver_req.specs.Requirement.{Requirement, inner_means_with, tag_of}
use Rattle.semver_req.specs.declared.range_set_or_tag.RangeSetOrTag.{RangeSetOrTag}
use Rattle.semver_req.specs.declared.range_set_or_tag.RangeSetOrTag.TheVariants as inner
use Rattle.semver_req.specs.Resolve.{IsBestMatch, IsOnlyMatch}
use Rattle.answers.specs.Filtering.{better_line, line_passes}
use Rattle.answers.specs.declared.questions.End.{End}
use Rattle.semver_c.specs.declared.handles.Held.{Held}
use Rattle.semver_c.specs.declared.handles.Held.TheVariants as held
use Rattle.semver_c.specs.Arguments.{CallFault, NoValue, pre_release_by}
use Rattle.semver_c.specs.declared.codes.Code.{Code}
use Rattle.semver_c.specs.declared.codes.Code.TheVariants as code
use Rattle.semver_c.specs.Codes.{IsPlaced, bool_code, code_of, fault_code, no_memory, number_of, place_code, place_or, yes}

-- ---- what is held; none in an empty handle, or in one that holds another kind of value

abbrev pub range_in : Option Held → Option Requirement
range_in (Some (held.Range range)) = Some range
range_in (Some (held.Version version)) = None
range_in (Some (held.Versions versions)) = None
range_in (Some (held.Scans scans)) = None
range_in None = None

abbrev pub version_in : Option Held → Option Version
version_in (Some (held.Range range)) = None
version_in (Some (held.Version version)) = Some version
version_in (Some (held.Versions versions)) = None
version_in (Some (held.Scans scans)) = None
version_in None = None

abbrev pub versions_in : Option Held → Option (List (Option Version))
versions_in (Some (held.Range range)) = None
versions_in (Some (held.Version version)) = None
versions_in (Some (held.Versions versions)) = Some versions.items
versions_in (Some (held.Scans scans)) = None
versions_in None = None

abbrev pub scans_in : Option Held → Option (List Scan)
scans_in (Some (held.Range range)) = None
scans_in (Some (held.Version version)) = None
scans_in (Some (held.Versions versions)) = None
scans_in (Some (held.Scans scans)) = Some scans.items
scans_in None = None

-- ---- reading into a handle

-- what is found of the outcome's value is held, with the code 1; without one the handle stays as it was, and the code is that of the
-- problem
abbrev pub HoldsOutcome : {X V : Type 0} → (X → V) → (Option Held → Option V) → Result X CallFault → Option Held → Option Held → ℤ → Type 0
HoldsOutcome found value_in (Ok x) old new code = (value_in new ≡ Some (found x)) × (code ≡ yes)
HoldsOutcome found value_in (Err fault) old new code = (new ≡ old) × (code ≡ number_of (fault_code fault))

-- the value is held, and its text is placed, with the code 1; or memory ran out, and the handle stays as it was
pub data IsHeldReport (value : Held) (text : List ℕ) (old new : Option Held) (before after : List ℕ) (needed : ℕ) (code : ℤ) : Type 0 where
  is_held : new ≡ Some value → IsPlaced text before after needed → code ≡ yes → IsHeldReport value text old new before after needed code
  out_of_memory : (message : List ℕ) → new ≡ old → IsPlaced message before after needed → code ≡ no_memory
      → IsHeldReport value text old new before after needed code

-- what is held is the question's outcome, which has no other; or memory ran out, and the handle stays as it was
pub record IsHeld {X V : Type 0} (Asked : Result X CallFault → Type 0) (found : X → V) (value_in : Option Held → Option V)
    (old new : Option Held) (code : ℤ) : Type 0 where
  pub is : ((code ≡ no_memory) × (new ≡ old))
      ⊎ ((outcome : Result X CallFault) × Asked outcome × HoldsOutcome found value_in outcome old new code)
  pub only : (outcome : Result X CallFault) → Asked outcome
      → ((code ≡ no_memory) × (new ≡ old)) ⊎ HoldsOutcome found value_in outcome old new code

-- ---- questions about what handles hold

-- the outcome of a question about one value, or about two; without a value that is NO_VALUE
abbrev pub of_one : {V X : Type 0} → (V → X) → Option V → Result X CallFault
of_one answer (Some v) = Ok (answer v)
of_one answer None = Err NoValue

abbrev pub of_both : {V W X : Type 0} → (V → W → X) → Option V → Option W → Result X CallFault
of_both answer (Some v) w = of_one (answer v) w
of_both answer None w = Err NoValue

-- the outcomes of a question about one value
abbrev pub OfHeld : {V X : Type 0} → (V → Result X CallFault → Type 0) → Option V → Result X CallFault → Type 0
OfHeld Asked (Some v) outcome = Asked v outcome
OfHeld Asked None outcome = outcome ≡ Err NoValue

-- 1 is returned exactly if both ranges mean the same, else 0
abbrev pub IsHeldEqual : Option Requirement → Option Requirement → ℤ → Type 0
IsHeldEqual (Some req) (Some other) returned =
    (equal : Bool) × (IsTrue equal ↔ (req.inner ≡ other.inner)) × (returned ≡ number_of (bool_code equal))
IsHeldEqual (Some req) None returned = returned ≡ number_of code.NoValue
IsHeldEqual None other returned = returned ≡ number_of code.NoValue

-- at this end of the order, the best match among lines: YES and its place, or NO
pub record IsBestLine (end : End) (test : Version → Bool) (lines : List (Option Version)) (old new : ℕ) (returned : Code) : Type 0 where
  pub best : Option ℕ
  pub is : IsBestMatch (better_line end) (line_passes test) lines best
  pub only : IsOnlyMatch (better_line end) (line_passes test) lines best
  pub returned_is : returned ≡ place_code best
  pub new_is : new ≡ place_or best old

-- for a tag it is TAG, and the place is unchanged
abbrev pub IsListBest : End → PreRelease → RangeSetOrTag → List (Option Version) → ℕ → ℕ → Code → Type 0
IsListBest end flag (inner.RangeSet set) lines old new returned =
    IsBestLine end (inner_means_with flag (inner.RangeSet set)) lines old new returned
IsListBest end flag (inner.Tag tag) lines old new returned = (returned ≡ code.Tag) × (new ≡ old)

-- which of the versions is the best match; without a value it is NO_VALUE, and the place is unchanged
abbrev pub IsHeldBest : End → ℕ → Option (List (Option Version)) → Option Requirement → ℕ → ℕ → Code → Type 0
IsHeldBest end number (Some lines) (Some req) old new returned = IsListBest end (pre_release_by number) req.inner lines old new returned
IsHeldBest end number (Some lines) None old new returned = (returned ≡ code.NoValue) × (new ≡ old)
IsHeldBest end number None req old new returned = (returned ≡ code.NoValue) × (new ≡ old)

-- ---- what a range matches

-- the code of a range's scans, of which a tag has none
abbrev pub scans_code : Option (List ℕ) → Code
scans_code (Some tag) = code.Tag
scans_code None = code.Yes

-- the code of the scans of a range, or memory ran out
abbrev pub IsScansCode : Option Requirement → ℤ → Type 0
IsScansCode range returned =
    (returned ≡ no_memory) ⊎ (returned ≡ code_of scans_code (of_one (λ (req : Requirement). tag_of req.inner) range))

-- the scans find what a parsed range matches, and are sorted; this is their number
abbrev pub AreHeldScans : ℕ → Option Requirement → Option (List Scan) → ℕ → Type 0
AreHeldScans number (Some req) (Some scans) count =
    (IsReadOrTag req.inner → ScansFind scans (inner_means_with (pre_release_by number) req.inner)) × (ScansAreSorted scans × (count ≡ length scans))
AreHeldScans number range scans count = ⊥

-- the scan at this index; beyond the last one, and without scans, that is NO_VALUE
abbrev pub scan_at : ℕ → Option (List Scan) → Result Scan CallFault
scan_at index (Some scans) = of_one (λ scan. scan) (slice_get scans index)
scan_at index None = Err NoValue

-- whether a scan is about pre-releases
abbrev pub scan_code : Scan → Code
scan_code scan = bool_code scan.is_pre
