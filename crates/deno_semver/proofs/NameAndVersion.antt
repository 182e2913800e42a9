-- How a text splits into a name and version, in one way.
use Rattle.std.proofs.Common.{◌+◌, ◌≡◌, ◌<◌, ◌==◌, ℕ, true, false, List, [], ◌∷◌, ◌++◌, length, take, drop, Option, None, Result, Ok, Err, refl, sym, ap, ap₂, subst, ◌∙◌, arith, inl, inr, add-one, length-append, Bor, ◌⊎◌}
use Rattle.std.specs.List.{list_all, take_while}
use Rattle.std.specs.Str.{trim}
use Rattle.std.proofs.lemmas.Bool.Decides.{nat_tests}
use Rattle.std.proofs.lemmas.List.{nil_from_length}
use Rattle.semver_base.specs.Failure.{message_of}
use Rattle.semver_base.specs.Grammar.{CountedRunsAreCut, CutsRun, Stops}
use Rattle.semver_base.specs.VersionGrammar.{IsVersionAnswer, IsVersionOutcome, IsVersionRejection, version_failure}
use Rattle.semver_base.specs.VersionText.{VersionTextsHaveOneOutcome}
use Rattle.semver_base.specs.declared.failure.Rejection.{Rejection}
use Rattle.semver_base.specs.declared.failure.Rejection.TheVariants.{UnexpectedCharacter}
use Rattle.semver_base.specs.declared.version.Version.{Version}
use Rattle.deno_semver.specs.Cuts.{is_not}
use Rattle.deno_semver.specs.NameAndVersion.{IsNoNvText, IsNvAnswer, IsNvFront, IsNvMemory, IsNvName, IsNvOutcome, IsNvRejection, IsNvText, ReportsNvFault, is_bad, is_bad_version, is_followed, is_front, is_nv, is_uncut, is_version_byte}
use Rattle.deno_semver.specs.NameAndVersionSteps.{IsFrontAnswer, IsFrontRejection, ReportsFailure}
use Rattle.deno_semver.specs.declared.package.values.PackageNv.{PackageNv}
use Rattle.deno_semver.specs.declared.package.name_version.PackageNvParseError.{PackageNvParseError}
use Rattle.deno_semver.specs.Sameness.{same_nv as nv_same}
use Rattle.deno_semver.proofs.Runs.{run_one}

-- ---- where the parts end

-- the text is split before the first `@` after its first byte
pub record IsNameCut (text name rest : List ℕ) : Type 0 where
  pub text_is : text ≡ name ++ rest
  pub name_is : 0 < length text → IsNvName name
  pub ends : Stops (is_not 64) rest

module _ (runs : CountedRunsAreCut) where
  pub name_cut : {text : List ℕ} (x : ℕ) (xs name rest : List ℕ) (n : ℕ) → text ≡ x ∷ xs → n ≡ length (take_while (is_not 64) xs) → name ≡ take (n + 1) text → rest ≡ drop (n + 1) text → IsNameCut text name rest
  name_cut x xs name rest n is e f g =
      let run = runs (is_not 64) xs in
      rw (f, g, is, add-one n, e) (record { text_is = ap (λ t. x ∷ t) run.text_is; name_is = λ h. run.pass; ends = run.stops })

  pub version_cut : (xs version rest : List ℕ) (n : ℕ) → n ≡ length (take_while is_version_byte xs) → version ≡ take n xs → rest ≡ drop n xs → CutsRun is_version_byte xs version rest
  version_cut xs version rest n e f g = rw (f, g, e) (runs is_version_byte xs)

-- ---- one split

-- two names, each with a version and what follows it, in one text
parts_one : (n m : List ℕ) {v r w s : List ℕ} → IsNvName n → IsNvName m → n ++ (64 ∷ (v ++ r)) ≡ m ++ (64 ∷ (w ++ s))
    → list_all is_version_byte v ≡ true → Stops is_version_byte r → list_all is_version_byte w ≡ true → Stops is_version_byte s
    → (n ≡ m) × (v ≡ w) × (r ≡ s)
parts_one [] m a b e pv sr pw ss = absurd a
parts_one (x ∷ n) [] a b e pv sr pw ss = absurd b
parts_one (x ∷ n) (y ∷ m) {v} {r} {w} {s} a b e pv sr pw ss =
    let head : x ≡ y = cc e in
    let tail : n ++ (64 ∷ (v ++ r)) ≡ m ++ (64 ∷ (w ++ s)) = cc e in
    let names = run_one (is_not 64) n (64 ∷ (v ++ r)) m (64 ∷ (w ++ s)) tail a refl b refl in
    let after : v ++ r ≡ w ++ s = cc (names.1) in
    let others = run_one is_version_byte v r w s after pv sr pw ss in
    let whole : x ∷ n ≡ y ∷ m = rw (head, names.0) refl in
    (whole, others.0, others.1)

pub nv_one : {t n v r m w s : List ℕ} → IsNvText t n v r → IsNvText t m w s → (n ≡ m) × (v ≡ w) × (r ≡ s)
nv_one {n = n} {m = m} h k = parts_one n m h.name_is k.name_is (sym h.text_is ∙ k.text_is) h.version_is h.version_ends k.version_is k.version_ends

some_text : {t n v r : List ℕ} → IsNvText t n v r → 0 < length t
some_text {n = n} {v} {r} h = omega (arith, ap length h.text_is, length-append n (64 ∷ (v ++ r)))

pub no_version : {text name rest more v r : List ℕ} → IsNameCut text name rest → rest ≡ 64 ∷ more → CutsRun is_version_byte more v r → (length v == 0) ≡ true → IsNoNvText text
no_version {name = name} {v = v} {r} c is run empty n w s k =
    let cut_is = c.text_is ∙ ap (λ t. name ++ t) (is ∙ ap (λ t. 64 ∷ t) run.text_is) in
    let parts = parts_one name n {v = v} {r = r} {w = w} {s = s} (c.name_is (some_text k)) k.name_is (sym cut_is ∙ k.text_is) run.pass run.stops k.version_is k.version_ends in
    absurd (grind (arith, nat_tests, ap length parts.1, k.version_some))

some_version : (v : List ℕ) → (length v == 0) ≡ false → 0 < length v
some_version v h = grind (arith, nat_tests)

pub parts_of : {text name rest more v r : List ℕ} → IsNameCut text name rest → rest ≡ 64 ∷ more → CutsRun is_version_byte more v r → (length v == 0) ≡ false → IsNvText text name v r
parts_of {name = name} {v = v} {r} c is run some =
    let text_is = c.text_is ∙ ap (λ t. name ++ t) (is ∙ ap (λ t. 64 ∷ t) run.text_is) in
    let name_is = c.name_is (omega (arith, ap length text_is, length-append name (64 ∷ (v ++ r)))) in
    record { text_is = text_is; name_is = name_is; version_some = some_version v some; version_is = run.pass; version_ends = run.stops }

pub no_at : {text name rest : List ℕ} → IsNameCut text name rest → ((more : List ℕ) → rest ≡ 64 ∷ more → ⊥) → IsNoNvText text
no_at {name = name} {rest} c none n w s k = go name n (c.name_is (some_text k)) k.name_is (sym c.text_is ∙ k.text_is)
  where
    go : (a b : List ℕ) → IsNvName a → IsNvName b → a ++ rest ≡ b ++ (64 ∷ (w ++ s)) → ⊥
    go [] b h j e = absurd h
    go (x ∷ a) [] h j e = absurd j
    go (x ∷ a) (y ∷ b) h j e =
        let tail : a ++ rest ≡ b ++ (64 ∷ (w ++ s)) = cc e in
        none (w ++ s) (run_one (is_not 64) a rest b (64 ∷ (w ++ s)) tail h c.ends j refl).1

-- ---- the start of a text

pub reports_uncut : {text whole : List ℕ} {e : PackageNvParseError} → IsNoNvText text → IsNvMemory e ⊎ ReportsNvFault UnexpectedCharacter whole e → IsFrontRejection text whole e
reports_uncut none (inl memory) = inl memory
reports_uncut none (inr reported) = inr (UnexpectedCharacter, is_uncut none, reported)

pub reports_version : {text whole name version rest : List ℕ} {failure : Option (List ℕ × Option (List ℕ))} {e : PackageNvParseError} → IsNvText text name version rest
    → IsVersionRejection (trim version) failure → IsNvMemory e ⊎ ReportsFailure failure whole e → IsFrontRejection text whole e
reports_version h rejected (inl memory) = inl memory
reports_version h (inl none) (inr reported) = absurd (reported.no_memory none)
reports_version h (inr rejected) (inr reported) = inr (rejected.0, is_bad_version h rejected.1, record { message = reported.message ∙ ap message_of rejected.2; text_is = reported.text_is })

abbrev nv_of : List ℕ → Version → PackageNv
nv_of name version = record { name = name; version = version }

pub reads : {text name version rest n : List ℕ} {v : Version} → IsNvText text name version rest → n ≡ name → IsVersionOutcome (trim version) (Ok v) → IsNvFront text (Ok (nv_of n v, rest))
reads h is v = rw is (is_front h v)

-- the version parser's result for each outcome of the version
abbrev pub Answers : {E : Type 0} → (E → Option (List ℕ × Option (List ℕ))) → List ℕ → Result Version E → Type 0
Answers source version result = (o : Result Version Rejection) → IsVersionOutcome (trim version) o → IsVersionAnswer source (trim version) o result

moved : {v w : List ℕ} {o : Result Version Rejection} → v ≡ w → IsVersionOutcome (trim w) o → IsVersionOutcome (trim v) o
moved {o = o} e h = subst (λ (t : List ℕ). IsVersionOutcome (trim t) o) (sym e) h

pub uncut_answer : {text whole : List ℕ} {e : PackageNvParseError} → IsNoNvText text → IsNvMemory e ⊎ ReportsNvFault UnexpectedCharacter whole e
    → (o : Result (PackageNv × List ℕ) Rejection) → IsNvFront text o → IsFrontAnswer whole o (Err e)
uncut_answer none reported _ (is_front h v) = absurd (none _ _ _ h)
uncut_answer none reported _ (is_uncut k) = reported
uncut_answer none reported _ (is_bad_version h v) = absurd (none _ _ _ h)

module _ {E : Type 0} (source : E → Option (List ℕ × Option (List ℕ))) {text name version rest : List ℕ} (h : IsNvText text name version rest) where
  pub rejected_answer : {whole : List ℕ} (x : E) → Answers source version (Err x) → {e : PackageNvParseError} → IsNvMemory e ⊎ ReportsFailure (source x) whole e
      → (o : Result (PackageNv × List ℕ) Rejection) → IsNvFront text o → IsFrontAnswer whole o (Err e)
  rejected_answer {whole} x answer {e} reported _ (is_front k v) = forgot reported (answer (Ok _) (moved (nv_one h k).1 v))
    where
      forgot : IsNvMemory e ⊎ ReportsFailure (source x) whole e → source x ≡ None → IsNvMemory e
      forgot (inl memory) none = memory
      forgot (inr t) none = absurd (t.no_memory none)
  rejected_answer x answer reported _ (is_uncut none) = absurd (none _ _ _ h)
  rejected_answer {whole} x answer {e} reported _ (is_bad_version {fault} k v) = shows reported (answer (Err _) (moved (nv_one h k).1 v))
    where
      shows : IsNvMemory e ⊎ ReportsFailure (source x) whole e → (source x ≡ None) ⊎ (source x ≡ version_failure fault (trim version)) → IsNvMemory e ⊎ ReportsNvFault fault whole e
      shows (inl memory) is = inl memory
      shows (inr t) (inl none) = absurd (t.no_memory none)
      shows (inr t) (inr is) = inr (record { message = t.message ∙ ap message_of is; text_is = t.text_is })

  pub read_answer : (whole : List ℕ) (x : Version) → Answers source version (Ok x) → {n : List ℕ} → n ≡ name → (r : Bor (List ℕ)) → r.now ≡ rest
      → (o : Result (PackageNv × List ℕ) Rejection) → IsNvFront text o → IsFrontAnswer whole o (Ok (nv_of n x, r))
  read_answer whole x answer is_name r is_rest _ (is_front {name = m} {v = w} k v) =
      let same = is_name ∙ (nv_one h k).0 in
      let is : x ≡ w = answer (Ok w) (moved (nv_one h k).1 v) in
      (nv_same same is, is_rest ∙ (nv_one h k).2)
  read_answer whole x answer is_name r is_rest _ (is_uncut none) = absurd (none _ _ _ h)
  read_answer whole x answer is_name r is_rest _ (is_bad_version k v) = absurd (answer (Err _) (moved (nv_one h k).1 v))

-- ---- the whole text

-- the result of parsing the start of a text for each outcome
abbrev pub FrontAnswers : List ℕ → List ℕ → Result (PackageNv × Bor (List ℕ)) PackageNvParseError → Type 0
FrontAnswers text whole result = (o : Result (PackageNv × List ℕ) Rejection) → IsNvFront text o → IsFrontAnswer whole o result

pub bad_rejection : {text : List ℕ} {e : PackageNvParseError} → IsFrontRejection text text e → IsNvRejection text e
bad_rejection (inl memory) = inl memory
bad_rejection (inr h) = inr (h.0, is_bad h.1, h.2)

pub followed_rejection : {text rest : List ℕ} {nv : PackageNv} {e : PackageNvParseError} → IsNvFront text (Ok (nv, rest)) → 0 < length rest → IsNvMemory e ⊎ ReportsNvFault UnexpectedCharacter text e
    → IsNvRejection text e
followed_rejection h some (inl memory) = inl memory
followed_rejection h some (inr reported) = inr (UnexpectedCharacter, is_followed h some, reported)

pub bad_answer : {text : List ℕ} {e : PackageNvParseError} → FrontAnswers text text (Err e) → (o : Result PackageNv Rejection) → IsNvOutcome text o → IsNvAnswer text o (Err e)
bad_answer answer _ (is_nv k) = answer _ k
bad_answer answer _ (is_bad k) = answer _ k
bad_answer answer _ (is_followed k some) = inl (answer _ k)

module _ {text : List ℕ} {nv : PackageNv} {rest : Bor (List ℕ)} (answer : FrontAnswers text text (Ok (nv, rest))) where
  pub followed_answer : {e : PackageNvParseError} → 0 < length rest.now → IsNvMemory e ⊎ ReportsNvFault UnexpectedCharacter text e
      → (o : Result PackageNv Rejection) → IsNvOutcome text o → IsNvAnswer text o (Err e)
  followed_answer some reported _ (is_nv k) = absurd (omega (arith, some, ap length (answer _ k).1))
  followed_answer some reported _ (is_bad k) = absurd (answer _ k)
  followed_answer some reported _ (is_followed k more) = reported

  pub whole_answer : length rest.now ≡ 0 → (o : Result PackageNv Rejection) → IsNvOutcome text o → IsNvAnswer text o (Ok nv)
  whole_answer none _ (is_nv k) = (answer _ k).0
  whole_answer none _ (is_bad k) = absurd (answer _ k)
  whole_answer none _ (is_followed k more) = absurd (omega (arith, none, more, ap length (answer _ k).1))

pub whole_read : {text rest : List ℕ} {nv : PackageNv} → IsNvFront text (Ok (nv, rest)) → length rest ≡ 0 → IsNvOutcome text (Ok nv)
whole_read {text} {rest} {nv} h none = is_nv (subst (λ (r : List ℕ). IsNvFront text (Ok (nv, r))) (nil_from_length rest none) h)

-- ---- one outcome

-- a name and version at the start, with what follows
abbrev pub front_of : PackageNv → List ℕ → Result (PackageNv × List ℕ) Rejection
front_of nv rest = Ok (nv, rest)

abbrev front_pair : PackageNv × List ℕ → Result (PackageNv × List ℕ) Rejection
front_pair p = Ok p

same_pair : (a b : PackageNv × List ℕ) → front_pair a ≡ front_pair b → a ≡ b
same_pair a b e = cc e

pub same_nv : (x y : PackageNv) (r s : List ℕ) → front_of x r ≡ front_of y s → x ≡ y
same_nv x y r s e = ap (λ (p : PackageNv × List ℕ). p.0) (same_pair (x, r) (y, s) e)

pub same_rest : (x y : PackageNv) (r s : List ℕ) → front_of x r ≡ front_of y s → r ≡ s
same_rest x y r s e = ap (λ (p : PackageNv × List ℕ). p.1) (same_pair (x, r) (y, s) e)

-- nothing follows, or something does
ends_or_goes : (x y : PackageNv) (rest : List ℕ) → front_of x [] ≡ front_of y rest → 0 < length rest → ⊥
ends_or_goes x y rest e some = omega (arith, some, ap length (same_rest x y [] rest e))

pub no_front : (x : PackageNv) (rest : List ℕ) (fault : Rejection) → front_of x rest ≡ Err fault → ⊥
no_front x rest fault e = cc e

pub same_fault : (a b : Rejection) (o p : Result (PackageNv × List ℕ) Rejection) → o ≡ Err a → p ≡ Err b → o ≡ p → a ≡ b
same_fault a b o p e f g = cc (e, f, g)

module _ (versions : VersionTextsHaveOneOutcome) where
  -- two versions parsed from one text are the same
  version_same : {v w : List ℕ} (o p : Result Version Rejection) → v ≡ w → IsVersionOutcome (trim v) o → IsVersionOutcome (trim w) p → o ≡ p
  version_same {v = v} o p e h k = versions (trim v) o p h (moved e k)

  pub front_one : {text : List ℕ} (o p : Result (PackageNv × List ℕ) Rejection) → IsNvFront text o → IsNvFront text p → o ≡ p
  front_one _ _ (is_front {v = v} h a) (is_front {v = w} k b) =
      let same = nv_one h k in
      let same_versions : v ≡ w = cc (version_same (Ok v) (Ok w) same.1 a b) in
      ap₂ (λ (nv : PackageNv) (rest : List ℕ). Ok (nv, rest)) (nv_same same.0 same_versions) same.2
  front_one _ _ (is_front h a) (is_uncut none) = absurd (none _ _ _ h)
  front_one _ _ (is_front {v = v} h a) (is_bad_version {fault = fault} k b) = absurd (cc (version_same (Ok v) (Err fault) (nv_one h k).1 a b))
  front_one _ _ (is_uncut none) (is_front k b) = absurd (none _ _ _ k)
  front_one _ _ (is_uncut none) (is_uncut _) = refl
  front_one _ _ (is_uncut none) (is_bad_version k b) = absurd (none _ _ _ k)
  front_one _ _ (is_bad_version {fault = fault} h a) (is_front {v = w} k b) = absurd (cc (version_same (Err fault) (Ok w) (nv_one h k).1 a b))
  front_one _ _ (is_bad_version h a) (is_uncut none) = absurd (none _ _ _ h)
  front_one _ _ (is_bad_version {fault = x} h a) (is_bad_version {fault = y} k b) =
      let same : x ≡ y = cc (version_same (Err x) (Err y) (nv_one h k).1 a b) in
      ap Err same

  pub nv_outcome_one : {text : List ℕ} (o p : Result PackageNv Rejection) → IsNvOutcome text o → IsNvOutcome text p → o ≡ p
  nv_outcome_one _ _ (is_nv {nv = x} h) (is_nv {nv = y} k) = ap Ok (same_nv x y [] [] (front_one _ _ h k))
  nv_outcome_one _ _ (is_nv {nv = x} h) (is_bad {fault = y} k) = absurd (no_front x [] y (front_one _ _ h k))
  nv_outcome_one _ _ (is_nv {nv = x} h) (is_followed {nv = y} {rest = rest} k some) = absurd (ends_or_goes x y rest (front_one _ _ h k) some)
  nv_outcome_one _ _ (is_bad {fault = x} h) (is_nv {nv = y} k) = absurd (no_front y [] x (front_one _ _ k h))
  nv_outcome_one _ _ (is_bad {fault = x} h) (is_bad {fault = y} k) = ap Err (same_fault x y _ _ refl refl (front_one _ _ h k))
  nv_outcome_one _ _ (is_bad {fault = x} h) (is_followed {nv = y} {rest = rest} k some) = absurd (no_front y rest x (front_one _ _ k h))
  nv_outcome_one _ _ (is_followed {nv = x} {rest = rest} h some) (is_nv {nv = y} k) = absurd (ends_or_goes y x rest (front_one _ _ k h) some)
  nv_outcome_one _ _ (is_followed {nv = x} {rest = rest} h some) (is_bad {fault = y} k) = absurd (no_front x rest y (front_one _ _ h k))
  nv_outcome_one _ _ (is_followed h some) (is_followed k more) = refl
