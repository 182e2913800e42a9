-- Whether every version that passes one test passes another, and whether both pass the same. Source: node-semver's `subset`,
-- here exactly, for all versions that a text parses to.
use Rattle.std.specs.Prelude.{◌≡◌, Bool, true, false, not}
use Rattle.semver_base.specs.LowestVersion.{IsReadable}
use Rattle.semver_base.specs.declared.version.Version.{Version}

-- the second test passes every readable version that the first one passes
abbrev pub IsWithin : (Version → Bool) → (Version → Bool) → Type 0
IsWithin test other = (v : Version) → IsReadable v → test v ≡ true → other v ≡ true

-- true says so, and false that some version passes the first test and not the second
abbrev pub ReportsWithin : (Version → Bool) → (Version → Bool) → Bool → Type 0
ReportsWithin test other true = IsWithin test other
ReportsWithin test other false = (v : Version) × (test v ≡ true) × (other v ≡ false)

-- the two tests pass the same readable versions
abbrev pub AreEquivalent : (Version → Bool) → (Version → Bool) → Type 0
AreEquivalent test other = (v : Version) → IsReadable v → test v ≡ other v

-- true says so, and false that some version passes one test and not the other
abbrev pub ReportsEquivalent : (Version → Bool) → (Version → Bool) → Bool → Type 0
ReportsEquivalent test other true = AreEquivalent test other
ReportsEquivalent test other false = (v : Version) × (test v ≡ not (other v))
