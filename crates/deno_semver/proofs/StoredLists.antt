-- What a stored list of package requirements parses to.
use Rattle.std.proofs.Common.{◌≡◌, List, [], ◌∷◌, All, IsSorted, Result, Ok, Err, map, refl, ◌∙◌, MatchResult, IsErrAnd}
use Rattle.std.proofs.lemmas.List.Elements.{All-head, All-tail}
use Rattle.serde_json.specs.Data.{string}
use Rattle.serde_json.specs.View.{items_of}
use Rattle.deno_semver.specs.Equal.{AreEqualReqs}
use Rattle.deno_semver.specs.Json.{AreItemsOf, IsStringOf, IsTextOfReq}
use Rattle.deno_semver.specs.ReqOrder.{req_cmp}
use Rattle.deno_semver.specs.ReqOrderLaws.{req_same, req_total, same_req}
use Rattle.deno_semver.specs.RequirementText.{normal_req_text}
use Rattle.deno_semver.specs.Stored.{IsSameWhenStored, IsStableReq, StoredRequirementsAreReadAgain}
use Rattle.deno_semver.specs.StoredList.{AreEqualLists, IsNpmReq, IsSortedFrom, IsStoredList, OneByOne, ParsesToEqualList, reqs_json}
use Rattle.deno_semver.specs.declared.json.JsonError.{JsonError}
use Rattle.deno_semver.specs.declared.json.JsonError.TheVariants as error
use Rattle.deno_semver.specs.declared.package.values.PackageReq.{PackageReq}
use Rattle.semver_req.specs.Ascending.{AscendingArrangementsTie, Tie}

-- the exit of a `?` when out of memory
pub exit_memory : {T : Type 0} (Says : T → Type 0) (r : Result T JsonError) (e : JsonError) → IsErrAnd r (λ f. f ≡ e) → e ≡ error.Memory → MatchResult r Says (λ f. f ≡ error.Memory)
exit_memory Says (Ok x) e is m = absurd is
exit_memory Says (Err f) e is m = is ∙ m

-- ---- what a stored list parses to

-- items that parse, one by one, to package requirements so related to these
record AreReadAs (R : PackageReq → PackageReq → Type 0) (reqs : List PackageReq) : Type 0 where
  again : List PackageReq
  read : AreItemsOf (IsStringOf IsTextOfReq) (items_of (map (λ req. string (normal_req_text req)) reqs)) again
  related : OneByOne R reqs again

record IsReadAs (R : PackageReq → PackageReq → Type 0) (req : PackageReq) : Type 0 where
  again : PackageReq
  read : IsStringOf IsTextOfReq (string (normal_req_text req)) again
  related : R req again

each_read : (R : PackageReq → PackageReq → Type 0) (Is : PackageReq → Type 0) → ((req : PackageReq) → Is req → IsReadAs R req) → (reqs : List PackageReq) → All Is reqs → AreReadAs R reqs
each_read R Is one [] h = record { again = []; read = tt; related = tt }
each_read R Is one (req ∷ reqs) h =
    let first = one req (All-head Is req reqs h) in
    let others = each_read R Is one reqs (All-tail Is req reqs h) in
    record { again = first.again ∷ others.again; read = (first.read, others.read); related = (first.related, others.related) }

npm_read : StoredRequirementsAreReadAgain → (req : PackageReq) → IsNpmReq req → IsReadAs IsSameWhenStored req
npm_read stored req h = let s = stored req h.text h.is_text h.is_read in record { again = s.again; read = s.parses_to; related = s.is_retained }

pub npm_reqs : StoredRequirementsAreReadAgain → (reqs : List PackageReq) → All IsNpmReq reqs → IsStoredList reqs (reqs_json reqs)
npm_reqs stored reqs h =
    let r = each_read IsSameWhenStored IsNpmReq (npm_read stored) reqs h in
    record { again = r.again; parses_to = record { items = items_of (map (λ req. string (normal_req_text req)) reqs); is_array = refl; are_read = r.read }; are_stored = r.related }

stable_read : (req : PackageReq) → IsStableReq req → IsReadAs (λ x y. AreEqualReqs y x) req
stable_read req h = record { again = h.again; read = h.parses_to; related = h.equal }

turned : (xs ys : List PackageReq) → OneByOne (λ x y. AreEqualReqs y x) xs ys → AreEqualLists ys xs
turned [] [] h = tt
turned [] (y ∷ ys) h = absurd h
turned (x ∷ xs) [] h = absurd h
turned (x ∷ xs) (y ∷ ys) h = (h.0, turned xs ys h.1)

pub stable_list : (reqs : List PackageReq) → All IsStableReq reqs → ParsesToEqualList (reqs_json reqs) reqs
stable_list reqs h =
    let r = each_read (λ x y. AreEqualReqs y x) IsStableReq stable_read reqs h in
    record { again = r.again; parses_to = record { items = items_of (map (λ req. string (normal_req_text req)) reqs); is_array = refl; are_read = r.read }; are_equal = turned reqs r.again r.related }

-- ---- the order

tie_of : (xs ys : List PackageReq) → AreEqualLists xs ys → Tie req_cmp xs ys
tie_of [] [] h = tt
tie_of [] (y ∷ ys) h = absurd h
tie_of (x ∷ xs) [] h = absurd h
tie_of (x ∷ xs) (y ∷ ys) h = (same_req x y h.0, tie_of xs ys h.1)

of_tie : (xs ys : List PackageReq) → Tie req_cmp xs ys → AreEqualLists xs ys
of_tie [] [] h = tt
of_tie [] (y ∷ ys) h = absurd h
of_tie (x ∷ xs) [] h = absurd h
of_tie (x ∷ xs) (y ∷ ys) h = (req_same x y h.0, of_tie xs ys h.1)

-- what is sorted from a list equal to an ascending one is equal to the ascending one
pub sorted_equal : AscendingArrangementsTie PackageReq → (reqs stored sorted : List PackageReq) → IsSorted req_cmp reqs → AreEqualLists stored reqs → IsSortedFrom stored sorted → AreEqualLists sorted reqs
sorted_equal ties reqs stored sorted h equal k = of_tie sorted reqs (ties req_cmp req_total reqs stored sorted h (tie_of stored reqs equal) k.same k.ascending)
