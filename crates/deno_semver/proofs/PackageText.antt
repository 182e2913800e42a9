-- How the text of a package splits, in one way.
use Rattle.std.proofs.Common.{◌≡◌, false, ◌<◌, ◌≤◌, ◌+◌, ◌==◌, ℕ, true, List, [], ◌∷◌, ◌++◌, length, take, drop, Option, Some, None, refl, sym, ap, ◌∙◌, arith, append_assoc, length-append, IsUtf8}
use Rattle.std.specs.List.{list_all}
use Rattle.std.specs.Str.{IsCharBoundary, NoCharPasses}
use Rattle.std.proofs.Math.Seq.{take-append_seam}
use Rattle.std.proofs.lemmas.Str.{IsCharBoundary-from_take, IsUtf8-append, IsUtf8-from_ascii}
use Rattle.std.specs.Str.Pattern.{FindsChar, MatchBeginsAt, RFindsChar, SplitsAroundMatch}
use Rattle.std.proofs.lemmas.Bool.{and_parts}
use Rattle.std.proofs.lemmas.List.{append-nil, nil_from_length, take-append-drop}
use Rattle.std.proofs.lemmas.Str.Pattern.{drop_at_char}
use Rattle.std.proofs.lemmas.Str.Ascii.{IsAscii-cons, IsAscii-nil}
use Rattle.semver_base.specs.Grammar.{CutsRun}
use Rattle.deno_semver.specs.CutLaws.{around, none_passes}
use Rattle.deno_semver.specs.Cuts.{is_not}
use Rattle.deno_semver.specs.PackageSteps.{IsCut}
use Rattle.deno_semver.specs.PackageText.{IsAfterScope, IsNamePart, IsPackageText, IsPathPart, IsScope, IsScopeAlone, LacksLast, LacksPart, PackageParts, starts_with_at, without_slash}
use Rattle.deno_semver.proofs.Runs.{run_one}

-- ---- at each `/`

pub no_slash : (text : List ℕ) → NoCharPasses (λ d. d == 47) text → CutsRun (is_not 47) text text []
no_slash text h = record { text_is = sym (append-nil text); pass = none_passes 47 text (omega arith) h; stops = tt }

pub at_slash : (text first rest : List ℕ) (at : ℕ) → MatchBeginsAt (FindsChar 47) text at → first ≡ take at text → rest ≡ drop at text → CutsRun (is_not 47) text first rest
at_slash text first rest at h f g = record {
  text_is = rw (f, g) (sym (take-append-drop at text));
  pass = rw f (none_passes 47 (take at text) (omega arith) h.1.0);
  stops = rw (g, drop_at_char 47 text at h.0 h.1.1 (omega arith)) refl;
}

-- ---- at the last `@`

pub no_at : (last : List ℕ) → NoCharPasses (λ d. d == 64) last → IsNamePart last last None
no_at last h = (refl, none_passes 64 last (omega arith) h)

pub at_last : (last name version : List ℕ) → SplitsAroundMatch (RFindsChar 64) last name version → IsNamePart last name (Some version)
at_last last name version h = (
  around 64 last name version h.0 h.1 (omega arith) h.2.1 h.3 h.4,
  none_passes 64 version (omega arith) (rw h.4 h.2.0),
)

pub holds_at : (a v : List ℕ) → list_all (is_not 64) (a ++ (64 ∷ v)) ≡ true → ⊥
holds_at [] v h = cc h
holds_at (x ∷ a) v h = holds_at a v (and_parts (is_not 64 x) (list_all (is_not 64) (a ++ (64 ∷ v))) h).1

-- the texts before and after the last `@` are unique
pub last_one : (a v b w : List ℕ) → a ++ (64 ∷ v) ≡ b ++ (64 ∷ w) → list_all (is_not 64) v ≡ true → list_all (is_not 64) w ≡ true → (a ≡ b) × (v ≡ w)
last_one [] v [] w e p q = (refl, cc e)
last_one [] v (y ∷ b) w e p q =
    let tail : v ≡ b ++ (64 ∷ w) = cc e in
    absurd (holds_at b w (rw tail at p))
last_one (x ∷ a) v [] w e p q =
    let tail : w ≡ a ++ (64 ∷ v) = cc e in
    absurd (holds_at a v (rw tail at q))
last_one (x ∷ a) v (y ∷ b) w e p q =
    let head : x ≡ y = cc e in
    let tail : a ++ (64 ∷ v) ≡ b ++ (64 ∷ w) = cc e in
    let more = last_one a v b w tail p q in
    let whole : x ∷ a ≡ y ∷ b = rw (head, more.0) refl in
    (whole, more.1)

named_one : (last n m : List ℕ) (v w : Option (List ℕ)) → IsNamePart last n v → IsNamePart last m w → (n ≡ m) × (v ≡ w)
named_one last n m None None h k = (sym h.0 ∙ k.0, refl)
named_one last n m None (Some w) h k = absurd (holds_at m w (rw (sym h.0 ∙ k.0) at h.1))
named_one last n m (Some v) None h k = absurd (holds_at n v (rw (sym k.0 ∙ h.0) at k.1))
named_one last n m (Some v) (Some w) h k = let same = last_one n v m w (sym h.0 ∙ k.0) h.1 k.1 in (same.0, ap Some same.1)

-- ---- one split

stops_tail : (tail path : List ℕ) → IsPathPart tail path → LacksPart tail
stops_tail [] path h = tt
stops_tail (b ∷ rest) path h = rw h.0 refl

path_one : (tail p q : List ℕ) → IsPathPart tail p → IsPathPart tail q → p ≡ q
path_one [] p q h k = h ∙ sym k
path_one (b ∷ rest) p q h k = h.1 ∙ sym k.1

scoped_at : (scope rest : List ℕ) → IsScope scope → starts_with_at (scope ++ rest) ≡ true
scoped_at [] rest h = cc h.at
scoped_at (b ∷ scope) rest h = h.at

after_one : (s t : Option (List ℕ)) (body r q : List ℕ) → IsAfterScope s body r → IsAfterScope t body q → (s ≡ t) × (r ≡ q)
after_one None None body r q h k = (refl, sym h.1 ∙ k.1)
after_one None (Some t) body r q h k = let at : starts_with_at body ≡ true = rw k.1 (scoped_at t (47 ∷ q) k.0) in absurd (cc (at, h.0))
after_one (Some s) None body r q h k = let at : starts_with_at body ≡ true = rw h.1 (scoped_at s (47 ∷ r) h.0) in absurd (cc (at, k.0))
after_one (Some s) (Some t) body r q h k =
    let same = run_one (is_not 47) s (47 ∷ r) t (47 ∷ q) (sym h.1 ∙ k.1) h.0.no_slash refl k.0.no_slash refl in
    (ap Some same.0, cc same.1)

abbrev parts_of : Option (List ℕ) → List ℕ → Option (List ℕ) → List ℕ → PackageParts
parts_of s n v p = record { scope = s; name = n; version = v; path = p }

parts_same : {s t : Option (List ℕ)} {n m : List ℕ} {v w : Option (List ℕ)} {p q : List ℕ} → s ≡ t → n ≡ m → v ≡ w → p ≡ q → parts_of s n v p ≡ parts_of t m w q
parts_same a b c d = rw (a, b, c, d) refl

-- the part with the name, and what follows it
lasts_one : {text : List ℕ} (x y : PackageParts) (h : IsPackageText text x) (k : IsPackageText text y) → (h.last ≡ k.last) × (h.tail ≡ k.tail)
lasts_one {text} x y h k =
    let rests = after_one x.scope y.scope (without_slash text) h.rest k.rest h.scope k.scope in
    run_one (is_not 47) h.last h.tail k.last k.tail (sym h.rest_is ∙ (rests.1 ∙ k.rest_is)) h.last_is (stops_tail h.tail x.path h.path) k.last_is (stops_tail k.tail y.path k.path)

pub tail_one : {text : List ℕ} (x y : PackageParts) (h : IsPackageText text x) (k : IsPackageText text y) → h.tail ≡ k.tail
tail_one x y h k = (lasts_one x y h k).1

pub package_one : {text : List ℕ} (x y : PackageParts) → IsPackageText text x → IsPackageText text y → x ≡ y
package_one {text} x y h k =
    let rests = after_one x.scope y.scope (without_slash text) h.rest k.rest h.scope k.scope in
    let lasts = lasts_one x y h k in
    let named = named_one h.last x.name y.name x.version y.version h.named (rw lasts.0 k.named) in
    let paths = path_one h.tail x.path y.path h.path (rw lasts.1 k.path) in
    parts_same rests.0 named.0 named.1 paths

-- ---- a name without a scope

bare_start : (first tail : List ℕ) → 0 < length first → starts_with_at first ≡ false → starts_with_at (first ++ tail) ≡ false
bare_start [] tail some h = absurd (omega (arith, some))
bare_start (b ∷ first) tail some h = h

pub bare_cut : {text body first tail name path : List ℕ} {version : Option (List ℕ)} → body ≡ without_slash text → CutsRun (is_not 47) body first tail → 0 < length first → starts_with_at first ≡ false
    → IsNamePart first name version → IsPathPart tail path → IsCut text name version tail path
bare_cut {body = body} {first} {tail} {name} body_is run some at named path = record {
  scope = None;
  last = name;
  parts = record {
    rest = body;
    scope = (rw (sym body_is, run.text_is) (bare_start first tail some at), sym body_is);
    last = first;
    tail = tail;
    rest_is = run.text_is;
    last_some = some;
    last_is = run.pass;
    named = named;
    path = path;
  };
  name_is = refl;
  path_is = path;
  tail_is = refl;
}

-- ---- a text that lacks a part has no split

starts_no : (xs ys : List ℕ) → 0 < length xs → list_all (is_not 47) xs ≡ true → LacksPart (xs ++ ys) → ⊥
starts_no [] ys some h stops = absurd (omega (arith, some))
starts_no (x ∷ xs) ys some h stops = cc ((and_parts (is_not 47 x) (list_all (is_not 47) xs) h).0, stops)

scope_some : (s : List ℕ) → IsScope s → 0 < length s
scope_some [] h = cc h.at
scope_some (b ∷ s) h = omega arith

pub no_part : {text : List ℕ} (x : PackageParts) → IsPackageText text x → LacksPart (without_slash text) → ⊥
no_part {text} x h stops = go x.scope h.scope
  where
    go : (s : Option (List ℕ)) → IsAfterScope s (without_slash text) h.rest → ⊥
    go None k = starts_no h.last h.tail h.last_some h.last_is (rw (k.1 ∙ h.rest_is) at stops)
    go (Some s) k = starts_no s (47 ∷ h.rest) (scope_some s k.0) k.0.no_slash (rw k.1 at stops)

stops_last : (tail : List ℕ) → LacksLast tail → LacksPart tail
stops_last [] h = tt
stops_last (b ∷ rest) h = rw h.0 refl

pub no_alone : {text : List ℕ} (x : PackageParts) → IsPackageText text x → IsScopeAlone (without_slash text) → ⊥
no_alone {text} x h alone = go x.scope h.scope
  where
    lacks : (tail : List ℕ) → tail ≡ 47 ∷ h.rest → LacksLast tail → ⊥
    lacks [] e l = cc e
    lacks (b ∷ rest) e l =
        let same : rest ≡ h.rest = cc e in
        starts_no h.last h.tail h.last_some h.last_is (rw (same ∙ h.rest_is) at l.1)

    go : (s : Option (List ℕ)) → IsAfterScope s (without_slash text) h.rest → ⊥
    go None k = let at : starts_with_at (without_slash text) ≡ true = rw alone.body_is (scoped_at alone.scope alone.tail alone.is_scope) in absurd (cc (at, k.0))
    go (Some s) k =
        let same = run_one (is_not 47) alone.scope alone.tail s (47 ∷ h.rest) (sym alone.body_is ∙ k.1) alone.is_scope.no_slash (stops_last alone.tail alone.lacks) k.0.no_slash refl in
        lacks alone.tail same.1 alone.lacks

pub part_or_alone : (text : List ℕ) → LacksPart (without_slash text) → IsScopeAlone (without_slash text) → ⊥
part_or_alone text stops alone = starts_no alone.scope alone.tail (scope_some alone.scope alone.is_scope) alone.is_scope.no_slash (rw alone.body_is at stops)

-- ---- a scope, and what follows it

module _ (text : List ℕ) {body first tail path last more : List ℕ} (is_body : body ≡ without_slash text) (run : CutsRun (is_not 47) body first tail) (at : starts_with_at first ≡ true)
    (goes_on : IsPathPart tail path) (part : CutsRun (is_not 47) path last more) where
  is_scope : IsScope first
  is_scope = record { at = at; no_slash = run.pass }

  tail_is : 0 < length last → tail ≡ 47 ∷ path
  tail_is some = go tail goes_on
    where
      go : (t : List ℕ) → IsPathPart t path → t ≡ 47 ∷ path
      go [] h = absurd (omega (arith, ap length (sym h ∙ part.text_is), length-append last more, some))
      go (b ∷ rest) h = rw (h.0, h.1) refl

  -- the name with its scope, and what follows it
  module _ (some : 0 < length last) (name : List ℕ) (version : Option (List ℕ)) (named : IsNamePart last name version) where
    abbrev front : List ℕ
    front = first ++ (47 ∷ name)

    abbrev name_ends : (version : Option (List ℕ)) → IsNamePart last name version → (after : List ℕ) × (last ≡ name ++ after)
    name_ends None h = ([], h.0 ∙ sym (append-nil name))
    name_ends (Some v) h = (64 ∷ v, h.0)

    body_is : body ≡ front ++ ((name_ends version named).0 ++ more)
    body_is =
        let end = name_ends version named in
        let behind : path ≡ name ++ (end.0 ++ more) = part.text_is ∙ (ap (λ t. t ++ more) end.1 ∙ append_assoc name end.0 more) in
        run.text_is ∙ (ap (λ t. first ++ t) (tail_is some ∙ ap (λ t. 47 ∷ t) behind) ∙ sym (append_assoc first (47 ∷ name) (end.0 ++ more)))

    size : length first + 1 + length name ≡ length front
    size = omega (arith, length-append first (47 ∷ name))

    front_is : take (length first + 1 + length name) body ≡ front
    front_is = rw (size, body_is) (take-append_seam front ((name_ends version named).0 ++ more))

    pub front_boundary : IsUtf8 body → IsUtf8 first → IsUtf8 name → IsCharBoundary body (length first + 1 + length name)
    front_boundary utf8 scope_utf8 name_utf8 =
        let inside : length front ≤ length body = omega (arith, ap length body_is, length-append front ((name_ends version named).0 ++ more)) in
        let slash_name : IsUtf8 (47 ∷ name) = IsUtf8-append (47 ∷ []) name (IsUtf8-from_ascii (47 ∷ []) (IsAscii-cons 47 [] (omega arith) IsAscii-nil)) name_utf8 in
        IsCharBoundary-from_take body (length first + 1 + length name) utf8 (omega (arith, size, inside)) (rw front_is (IsUtf8-append first (47 ∷ name) scope_utf8 slash_name))

    pub scoped_cut : {whole path' : List ℕ} → whole ≡ take (length first + 1 + length name) body → IsPathPart more path' → IsCut text whole version more path'
    scoped_cut whole_is is_path = record {
      scope = Some first;
      last = name;
      parts = record {
        rest = path;
        scope = (is_scope, sym is_body ∙ (run.text_is ∙ ap (λ t. first ++ t) (tail_is some)));
        last = last;
        tail = more;
        rest_is = part.text_is;
        last_some = some;
        last_is = part.pass;
        named = named;
        path = is_path;
      };
      name_is = whole_is ∙ front_is;
      path_is = is_path;
      tail_is = refl;
    }

  pub scope_alone : length last ≡ 0 → IsScopeAlone (without_slash text)
  scope_alone nil = record { scope = first; tail = tail; body_is = sym is_body ∙ run.text_is; is_scope = is_scope; lacks = go tail goes_on }
    where
      path_stops : LacksPart path
      path_stops = let none : last ≡ [] = nil_from_length last nil in let same : path ≡ more = part.text_is ∙ ap (λ t. t ++ more) none in rw same part.stops

      go : (t : List ℕ) → IsPathPart t path → LacksLast t
      go [] h = tt
      go (b ∷ rest) h = (h.0, rw (← h.1) path_stops)
