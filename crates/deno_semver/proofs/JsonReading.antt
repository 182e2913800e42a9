-- The result for JSON, from the results for its members and items.
use Rattle.std.proofs.Common.{◌≡◌, ◌<◌, ◌+◌, ℕ, List, [], ◌∷◌, ◌++◌, length, map, take, drop, get_or, Option, Some, None, option_map, Result, Ok, Err, Ordering, Less, Equal, Greater, string_bytes, nat_cmp, is_eq, codes, false, refl, sym, ap, subst, ◌∙◌, inl, inr, arith, MatchOption, IfErr, OnOk, IsErrAnd, is_err}
use Rattle.std.proofs.lemmas.Cmp.{nat_list_cmp_total, tied_itself}
use Rattle.std.proofs.lemmas.List.{drop_more, map-append, take-append-drop, take_more}
use Rattle.std.proofs.lemmas.Map.Text.{is_eq-slice_cmp}
use Rattle.std.proofs.lemmas.Slice.Eq.{bytes_eq-Decides}
use Rattle.std.specs.Cmp.Lexicographic.{slice_cmp}
use Rattle.std.specs.Ordering.{match_ordering}
use Rattle.serde_json.specs.Data.{Data, null, boolean, number, string, array, object, Items, Members, member, no_members}
use Rattle.serde_json.specs.Find.{as_array, as_object, get}
use Rattle.serde_json.specs.View.{items_of, members_view, view}
use Rattle.serde_json.proofs.Views.{Entry}
use Rattle.semver_base.specs.declared.range.RangeBound.{RangeBound}
use Rattle.semver_base.specs.declared.range.RangeBound.TheVariants as bound
use Rattle.semver_base.specs.declared.range.VersionBound.{VersionBound}
use Rattle.deno_semver.specs.Json.{AreItemsOf, IsJsonOfBound, IsJsonOfRangeBound, IsMemberOf}
use Rattle.deno_semver.specs.JsonAnswers.{IsJsonAnswer, IsJsonRejection}
use Rattle.deno_semver.specs.declared.json.JsonError.{JsonError}
use Rattle.deno_semver.specs.declared.json.JsonError.TheVariants as error

-- an error that is out of memory if the JSON parses to some value is a correct rejection
pub rejected_by : {T : Type 0} (ParsesTo : Data → T → Type 0) (json : Data) (e : JsonError) → ((x : T) → ParsesTo json x → e ≡ error.Memory) → IsJsonRejection ParsesTo json e
rejected_by ParsesTo json error.Memory h = inl refl
rejected_by ParsesTo json error.Json h = inr (λ x s. cc (h x s))

-- so is the exit of a `?`
pub exit_rejected : {T U : Type 0} (ParsesTo : Data → T → Type 0) (json : Data) (r : Result U JsonError) (e : JsonError) → IsErrAnd r (λ f. f ≡ e)
    → ((x : T) → ParsesTo json x → e ≡ error.Memory) → IfErr r (IsJsonRejection ParsesTo json)
exit_rejected ParsesTo json (Ok x) e is h = absurd is
exit_rejected ParsesTo json (Err f) e is h = rw is (rejected_by ParsesTo json e h)

pub exit_answer : {T : Type 0} (x : T) (r : Result T JsonError) (e : JsonError) → IsErrAnd r (λ f. f ≡ e) → e ≡ error.Memory → IsJsonAnswer x r
exit_answer x (Ok y) e is m = absurd is
exit_answer x (Err f) e is m = is ∙ m

-- ---- items

module _ {T : Type 0} (ParsesTo : Data → T → Type 0) where
  -- one more item
  pub one_more : (ds : List Data) (xs : List T) (d : Data) (x : T) → AreItemsOf ParsesTo (items_of ds) xs → ParsesTo d x
      → AreItemsOf ParsesTo (items_of (ds ++ d ∷ [])) (xs ++ x ∷ [])
  one_more [] [] d x h k = (k, tt)
  one_more [] (y ∷ ys) d x h k = absurd h
  one_more (e ∷ es) [] d x h k = absurd h
  one_more (e ∷ es) (y ∷ ys) d x h k = (h.0, one_more es ys d x h.1 k)

  -- no other values than these
  abbrev pub AreOnly : List Data → List T → Type 0
  AreOnly ds xs = (ys : List T) → AreItemsOf ParsesTo (items_of ds) ys → ys ≡ xs

  -- the value of the item after the first ones, which parse to these values
  pub last_of : (ds : List Data) (d : Data) (more : List Data) (ys : List T) → AreItemsOf ParsesTo (items_of (ds ++ d ∷ more)) ys → (y : T) × ParsesTo d y
  last_of [] d more [] h = absurd h
  last_of [] d more (y ∷ ys) h = (y, h.0)
  last_of (e ∷ es) d more [] h = absurd h
  last_of (e ∷ es) d more (y ∷ ys) h = last_of es d more ys h.1

  cut_last : (ds : List Data) (d : Data) (ys : List T) → AreItemsOf ParsesTo (items_of (ds ++ d ∷ [])) ys
      → (first : List T) × (last : T) × (ys ≡ first ++ last ∷ []) × AreItemsOf ParsesTo (items_of ds) first × ParsesTo d last
  cut_last [] d [] h = absurd h
  cut_last [] d (y ∷ []) h = ([], y, refl, tt, h.0)
  cut_last [] d (y ∷ z ∷ ys) h = absurd h.1
  cut_last (e ∷ es) d [] h = absurd h
  cut_last (e ∷ es) d (y ∷ ys) h = let rest = cut_last es d ys h.1 in (y ∷ rest.0, rest.1, ap (λ zs. y ∷ zs) rest.2, (h.0, rest.3), rest.4)

  pub only_more : (ds : List Data) (xs : List T) (d : Data) (x : T) → AreOnly ds xs → ((y : T) → ParsesTo d y → x ≡ y) → AreOnly (ds ++ d ∷ []) (xs ++ x ∷ [])
  only_more ds xs d x only is ys h =
      let cut = cut_last ds d ys h in
      cut.2 ∙ rw (only cut.0 cut.3, sym (is cut.1 cut.4)) refl

  pub only_none : AreOnly [] []
  only_none [] h = refl
  only_none (y ∷ ys) h = absurd h

  module _ {V : Type 0} (view : V → Data) where
    next_items : (vs : List V) (i : ℕ) (v : V) → i < length vs → v ≡ get_or vs i v → map view (take (i + 1) vs) ≡ map view (take i vs) ++ view v ∷ []
    next_items vs i v h is = ap (map view) (take_more vs i v h ∙ ap (λ w. take i vs ++ w ∷ []) (sym is)) ∙ map-append view (take i vs) (v ∷ [])

    whole_items : (vs : List V) (i : ℕ) (v : V) → i < length vs → v ≡ get_or vs i v → map view vs ≡ map view (take i vs) ++ view v ∷ map view (drop (i + 1) vs)
    whole_items vs i v h is =
        ap (map view) (sym (take-append-drop i vs) ∙ ap (λ ws. take i vs ++ ws) (drop_more vs i v h ∙ ap (λ w. w ∷ drop (i + 1) vs) (sym is))) ∙ map-append view (take i vs) (v ∷ drop (i + 1) vs)

    -- the next item is parsed, and its value is appended
    pub next_read : (vs : List V) (i : ℕ) (v : V) (xs new : List T) (x : T) → i < length vs → v ≡ get_or vs i v → AreItemsOf ParsesTo (items_of (map view (take i vs))) xs × AreOnly (map view (take i vs)) xs
        → ParsesTo (view v) x → ((y : T) → ParsesTo (view v) y → x ≡ y) → new ≡ xs ++ x ∷ []
        → AreItemsOf ParsesTo (items_of (map view (take (i + 1) vs))) new × AreOnly (map view (take (i + 1) vs)) new
    next_read vs i v xs new x h is before read only e =
        rw (next_items vs i v h is, e) (one_more (map view (take i vs)) xs (view v) x before.0 read, only_more (map view (take i vs)) xs (view v) x before.1 only)

    -- the next item parses to a value if they all do
    item_of : (vs : List V) (i : ℕ) (v : V) → i < length vs → v ≡ get_or vs i v → (ys : List T) → AreItemsOf ParsesTo (items_of (map view vs)) ys → (y : T) × ParsesTo (view v) y
    item_of vs i v h is ys read = last_of (map view (take i vs)) (view v) (map view (drop (i + 1) vs)) ys (rw (whole_items vs i v h is) at read)

    -- an array of the items parses to what they parse to
    pub array_items : (vs : List V) (d : Data) (items : Items) (ys : List T) → Some (items_of (map view vs)) ≡ as_array d → d ≡ array items → AreItemsOf ParsesTo items ys → AreItemsOf ParsesTo (items_of (map view vs)) ys
    array_items vs d items ys all array_is read =
        let both : Some (items_of (map view vs)) ≡ Some items = all ∙ ap as_array array_is in
        let same : items ≡ items_of (map view vs) = cc both in
        subst (λ ds. AreItemsOf ParsesTo ds ys) same read

    pub item_read : (vs : List V) (i : ℕ) (v : V) → i < length vs → v ≡ get_or vs i v → (d : Data) (items : Items) (ys : List T) → Some (items_of (map view vs)) ≡ as_array d → d ≡ array items → AreItemsOf ParsesTo items ys
        → (y : T) × ParsesTo (view v) y
    item_read vs i v h is d items ys all array_is read = item_of vs i v h is ys (array_items vs d items ys all array_is read)

-- ---- the only member

object_of : (d : Data) (ms : Members) → Some ms ≡ as_object d → d ≡ object ms
object_of null ms h = cc h
object_of (boolean b) ms h = cc h
object_of (number n) ms h = cc h
object_of (string s) ms h = cc h
object_of (array ds) ms h = cc h
object_of (object ns) ms h = let same : ms ≡ ns = cc h in rw same refl

-- an object with more or fewer members than one has no only member
no_single : (d : Data) (es : List Entry) → Some (members_view es) ≡ as_object d → (length es ≡ 1 → ⊥) → (key : List ℕ) (only : Data) → d ≡ object (member key only no_members) → ⊥
no_single d [] h other key only is = cc (object_of d _ h, is)
no_single d (e ∷ []) h other key only is = other refl
no_single d (e ∷ f ∷ es) h other key only is = cc (object_of d _ h, is)

found_at : (o : Ordering) (key k : List ℕ) (e v : Data) → slice_cmp nat_cmp key k ≡ o → Some v ≡ match_ordering o None (Some e) None → (key ≡ k) × (v ≡ e)
found_at Less key k e v is h = cc h
found_at Equal key k e v is h = ((bytes_eq-Decides key k).0 (sym (is_eq-slice_cmp key k) ∙ ap is_eq is), cc h)
found_at Greater key k e v is h = cc h

-- the member of an object with one member, or that it has another key
single : {V : Type 0} (seen : V → Data) (d : Data) (es : List Entry) → Some (members_view es) ≡ as_object d → length es ≡ 1 → (key : List ℕ) (r : Option V) → option_map seen r ≡ get key d
    → MatchOption r ((only : Data) → d ≡ object (member key only no_members) → ⊥) (λ v. d ≡ object (member key (seen v) no_members))
single seen d [] h one key r is = cc one
single seen d (e ∷ f ∷ es) h one key r is = absurd (omega (arith, one))
single seen d (e ∷ []) h one key None is = λ only k.
    let here : get key (object (member key only no_members)) ≡ Some only = rw (tied_itself nat_list_cmp_total key) refl in
    let found : None ≡ Some only = is ∙ (ap (get key) k ∙ here) in
    cc found
single seen d (e ∷ []) h one key (Some v) is =
    let whole : d ≡ object (members_view (e ∷ [])) = object_of d _ h in
    let found = found_at _ key (string_bytes e.0) (view e.1) (seen v) refl (is ∙ ap (get key) whole) in
    whole ∙ rw (found.0, found.1) refl

pub no_bound_of : (d : Data) (es : List Entry) → Some (members_view es) ≡ as_object d → (length es ≡ 1 → ⊥) → (x : RangeBound) → IsJsonOfRangeBound d x → ⊥
no_bound_of d es h other bound.Unbounded k = cc (object_of d _ h, k)
no_bound_of d es h other (bound.Version b) k = no_single d es h other (codes "Version") k.0 k.1

-- an object with one member, which parses to a version's bound, parses to that bound
pub bound_read : (d : Data) (es : List Entry) → Some (members_view es) ≡ as_object d → length es ≡ 1 → (b : VersionBound) → IsMemberOf IsJsonOfBound (codes "Version") d b → IsJsonOfRangeBound d (bound.Version b)
bound_read d es h one b k = (k.member_json, single (λ x. x) d es h one (codes "Version") (Some k.member_json) (sym k.is_member), k.reads)

-- a bound that an object parses to is a version's, to which the object's member parses
pub bound_of : (d : Data) (ms : Members) → Some ms ≡ as_object d → (x : RangeBound) → IsJsonOfRangeBound d x → (b : VersionBound) × (x ≡ bound.Version b) × IsMemberOf IsJsonOfBound (codes "Version") d b
bound_of d ms h bound.Unbounded k = cc (object_of d ms h, k)
bound_of d ms h (bound.Version b) k =
    (b, refl, record { member_json = k.0; is_member = ap (get (codes "Version")) k.1; reads = k.2 })

-- ---- a push that doesn't run out of memory

pub pushed : {T E P : Type 0} (r : Result T E) → false ≡ is_err r → OnOk r P → P
pushed (Ok x) e h = h
pushed (Err x) e h = cc e
