-- What the entry of a locked requirement parses to, from the contracts of its JSON.
use Rattle.std.proofs.Common.{◌≡◌, List, [], ◌∷◌, All, Result, Ok, Err, refl, sym, ap, subst, ◌∙◌, IsErrAnd}
use Rattle.std.proofs.lemmas.List.Elements.{All-cons, All-nil}
use Rattle.std.proofs.lemmas.List.Sorted.{All-permutation}
use Rattle.callers.specs.Allowance.{allowance_of, yes_or_no}
use Rattle.callers.specs.Lockfile.{IsLockedList, KeepsMeaning, Locks}
use Rattle.deno_semver.specs.JsonAnswers.{IsJsonAnswer}
use Rattle.deno_semver.specs.Stored.{IsSameWhenStored, IsReadFor, IsStableReq}
use Rattle.deno_semver.specs.StoredList.{IsSortedFrom, OneByOne}
use Rattle.deno_semver.specs.declared.json.JsonError.{JsonError}
use Rattle.deno_semver.specs.declared.json.JsonError.TheVariants as error
use Rattle.deno_semver.specs.declared.package.values.PackageReq.{PackageReq}
use Rattle.semver_base.specs.declared.range.PreRelease.TheVariants.{Restricted}
use Rattle.semver_base.specs.declared.version.Version.{Version}
use Rattle.semver_req.specs.declared.range_set_or_tag.RangeSetOrTag.{RangeSetOrTag}
use Rattle.semver_req.specs.declared.range_set_or_tag.RangeSetOrTag.TheVariants as inner

-- what holds for the returned value
pub answered : {T : Type 0} (Says : T → Type 0) (x : T) (r : Result T JsonError) → IsJsonAnswer x r → Says x → Locks Says r
answered Says x (Ok y) is h = subst Says (sym is) h
answered Says x (Err e) is h = is

-- what follows for the returned value
pub locks_more : {T : Type 0} (P Q : T → Type 0) → ((x : T) → P x → Q x) → (r : Result T JsonError) → Locks P r → Locks Q r
locks_more P Q more (Ok x) h = more x h
locks_more P Q more (Err e) h = h

-- the exit of a `?` when out of memory
pub exit_locks : {T : Type 0} (Says : T → Type 0) (r : Result T JsonError) (e : JsonError) → IsErrAnd r (λ f. f ≡ e) → e ≡ error.Memory → Locks Says r
exit_locks Says (Ok x) e is m = absurd is
exit_locks Says (Err f) e is m = is ∙ m

-- what is parsed in place of a requirement that keeps its meaning allows the same versions
pub allowed_as_stored : (stored again : RangeSetOrTag) (v : Version) → IsReadFor stored again → KeepsMeaning stored → allowance_of again v ≡ allowance_of stored v
allowed_as_stored (inner.RangeSet set) (inner.RangeSet other) v read keeps = ap yes_or_no (read.means keeps Restricted v)
allowed_as_stored (inner.RangeSet set) (inner.Tag other) v read keeps = absurd read
allowed_as_stored (inner.Tag tag) (inner.RangeSet other) v read keeps = absurd read
allowed_as_stored (inner.Tag tag) (inner.Tag other) v read keeps = refl

all_stable : (reqs stored : List PackageReq) → OneByOne IsSameWhenStored reqs stored → All IsStableReq stored
all_stable [] [] h = All-nil IsStableReq
all_stable [] (k ∷ ks) h = absurd h
all_stable (req ∷ reqs) [] h = absurd h
all_stable (req ∷ reqs) (k ∷ ks) h = All-cons IsStableReq k ks h.0.stable (all_stable reqs ks h.1)

-- what is kept of each requirement, sorted
pub locked_of : (reqs stored again : List PackageReq) → OneByOne IsSameWhenStored reqs stored → IsSortedFrom stored again → IsLockedList reqs again
locked_of reqs stored again h s = record { stored = stored; are_stored = h; is_sorted = s; stable = All-permutation IsStableReq stored again s.same (all_stable reqs stored h) }
