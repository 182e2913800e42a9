-- Lists of package requirements as JSON: what an array parses to, in which order, and what the JSON of a stored list parses
-- to. Source: the crate `deno_semver`, which keeps lists of requirements in the order of requirements.
use Rattle.std.specs.Prelude.{◌≡◌, ℕ, List, [], ◌∷◌, Ok, IsPermutation, IsSorted, IsUtf8, map}
use Rattle.serde_json.specs.Data.{Data, array, string, Items}
use Rattle.serde_json.specs.View.{items_of}
use Rattle.semver_req.specs.declared.common.values.Flavour.TheVariants.{Npm}
use Rattle.deno_semver.specs.Equal.{AreEqualReqs}
use Rattle.deno_semver.specs.Json.{AreItemsOf, IsStringOf, IsTextOfReq}
use Rattle.deno_semver.specs.PackageOutcome.{IsPackageOutcome}
use Rattle.deno_semver.specs.ReqOrder.{req_cmp}
use Rattle.deno_semver.specs.RequirementText.{normal_req_text}
use Rattle.deno_semver.specs.Stored.{IsSameWhenStored}
use Rattle.deno_semver.specs.declared.package.values.PackageReq.{PackageReq}

-- the array of the JSON of the package requirements, in their order
abbrev pub reqs_json : List PackageReq → Data
reqs_json reqs = array (items_of (map (λ req. string (normal_req_text req)) reqs))

-- an array whose items parse to the package requirements, one by one
pub record IsJsonOfReqs (json : Data) (reqs : List PackageReq) : Type 0 where
  pub items : Items
  pub is_array : json ≡ array items
  pub are_read : AreItemsOf (IsStringOf IsTextOfReq) items reqs

-- the same package requirements, each as often, in ascending order
pub record IsSortedFrom (reqs sorted : List PackageReq) : Type 0 where
  pub same : IsPermutation reqs sorted
  pub ascending : IsSorted req_cmp sorted

-- the package requirements of an array, sorted
pub record IsReadList (json : Data) (sorted : List PackageReq) : Type 0 where
  pub stored : List PackageReq
  pub parses_to : IsJsonOfReqs json stored
  pub is_sorted : IsSortedFrom stored sorted

-- ---- what a stored list parses to

-- the lists have the same length, and the items at the same place are so related
abbrev pub OneByOne : (PackageReq → PackageReq → Type 0) → List PackageReq → List PackageReq → Type 0
OneByOne R [] [] = Unit {0}
OneByOne R [] (y ∷ ys) = ⊥
OneByOne R (x ∷ xs) [] = ⊥
OneByOne R (x ∷ xs) (y ∷ ys) = R x y × OneByOne R xs ys

abbrev pub AreEqualLists : List PackageReq → List PackageReq → Type 0
AreEqualLists = OneByOne AreEqualReqs

-- npm's grammar parsed the package requirement from some text
pub record IsNpmReq (req : PackageReq) : Type 0 where
  pub text : List ℕ
  pub is_text : IsUtf8 text
  pub is_read : IsPackageOutcome Npm text (Ok req)

-- the JSON parses to a list that has, at each place, what is kept of the package requirement there
pub record IsStoredList (reqs : List PackageReq) (json : Data) : Type 0 where
  pub again : List PackageReq
  pub parses_to : IsJsonOfReqs json again
  pub are_stored : OneByOne IsSameWhenStored reqs again

-- the JSON parses to a list equal to this one
pub record ParsesToEqualList (json : Data) (reqs : List PackageReq) : Type 0 where
  pub again : List PackageReq
  pub parses_to : IsJsonOfReqs json again
  pub are_equal : AreEqualLists again reqs
