-- Where the text of a package has a fault, by the error that reports it.
use Rattle.std.proofs.Common.{◌≡◌, ◌≢◌, ◌∙◌, ◌-◌, ◌==◌, ◌++◌, ℕ, Bool, true, false, List, [], ◌∷◌, length, Option, None, Some, Result, Ok, Err, IfOk, Bor, MatchOption, ap, arith, drop, inl, inr, refl, subst, sym, take, ◌⊎◌, unwrap_or}
use Rattle.std.specs.List.{list_all}
use Rattle.std.specs.Str.Pattern.{FindsChar, RFindsChar, SplitsAroundMatch}
use Rattle.std.proofs.lemmas.Bool.Decides.{nat_tests}
use Rattle.semver_base.specs.Failure.{snippet_of}
use Rattle.semver_base.specs.Grammar.{IsAfter}
use Rattle.semver_req.specs.Parsers.{Failure}
use Rattle.semver_req.specs.SpecifierRejections.{IsSpecifierRejection, is_out_of_memory, large_bound, large_number, no_range, something_follows, whitespace_text}
use Rattle.semver_req.specs.declared.common.values.Flavour.{Flavour}
use Rattle.semver_req.specs.declared.common.values.Flavour.TheVariants.{Npm, Normal, Specifier}
use Rattle.deno_semver.specs.CutLaws.{around, none_passes}
use Rattle.deno_semver.specs.Cuts.{is_not}
use Rattle.deno_semver.specs.PackageOutcome.{BadName, BadVersion, PackageFault, HasPath, IsPackageOutcome, IsPackageRejection, NoAt, NoName, Reports, rejected_by}
use Rattle.deno_semver.specs.PackageText.{without_slash}
use Rattle.deno_semver.specs.declared.package.errors.PackageReqParseError.{PackageReqParseError}
use Rattle.deno_semver.specs.declared.package.errors.PackageReqPartsParseError.{PackageReqPartsParseError}
use Rattle.deno_semver.specs.declared.package.errors.PackageReqPartsParseError.TheVariants as parts
use Rattle.package_answers.specs.Errors.{IsFaultAt, IsPartError, has_path}
use Rattle.package_answers.specs.Packages.{AreOfRange, ArePackageErrors, bad_version, other_fault, parts_failure}
use Rattle.package_answers.specs.declared.errors.PackageErrors.{PackageErrors}
use Rattle.package_answers.specs.declared.errors.PackageErrors.TheVariants as errors
use Rattle.package_answers.specs.declared.errors.Part.{Part}

-- ---- the text without one leading `/`

is_slash : (x : ℕ) (b : Bool) → b ≡ (x == 47) → b ≡ true → x ≡ 47
is_slash x b e f = grind (arith, nat_tests)

no_slash_first : (text : List ℕ) → ((rest : List ℕ) → text ≡ 47 ∷ rest → ⊥) → text ≡ without_slash text
no_slash_first [] h = refl
no_slash_first (x ∷ more) h = go (x == 47) refl
  where
    go : (b : Bool) → b ≡ (x == 47) → x ∷ more ≡ without_slash (x ∷ more)
    go true e = absurd (h more (ap (λ (y : ℕ). y ∷ more) (is_slash x true e refl)))
    go false e = rw (sym e) refl

pub body_is : (text : Bor (List ℕ)) (r : Option (Bor (List ℕ))) → IsAfter 47 text.now r → (unwrap_or r text).now ≡ without_slash text.now
body_is text None h = no_slash_first text.now h
body_is text (Some body) h = sym (ap without_slash h)

-- ---- the text around a character

pub at_first : (text front back : List ℕ) → SplitsAroundMatch (FindsChar 47) text front back → (text ≡ front ++ (47 ∷ back)) × (list_all (is_not 47) front ≡ true)
at_first text front back h = (around 47 text front back h.0 h.1 (omega arith) h.2.1 h.3 h.4, rw h.3 (none_passes 47 (take h.0 text) (omega arith) h.2.0))

pub at_last : (text front back : List ℕ) → SplitsAroundMatch (RFindsChar 64) text front back → (text ≡ front ++ (64 ∷ back)) × (list_all (is_not 64) back ≡ true)
at_last text front back h = (around 64 text front back h.0 h.1 (omega arith) h.2.1 h.3 h.4, rw h.4 (none_passes 64 (drop h.1 text) (omega arith) h.2.0))

-- ---- the fault that an error reports

-- the text that the error of a path shows
abbrev shown : PackageReqPartsParseError → Option (List ℕ)
shown (parts.SpecifierVersionReq error) = snippet_of error.source
shown (parts.NpmVersionReq error) = None
shown (parts.NormalizedVersionReq error) = None
shown parts.NoPackageName = None
shown parts.InvalidPackageName = None
shown parts.MissingAtSymbol = None
shown parts.Memory = None

abbrev is_of_range : PackageReqPartsParseError → Bool
is_of_range (parts.SpecifierVersionReq error) = true
is_of_range (parts.NpmVersionReq error) = true
is_of_range (parts.NormalizedVersionReq error) = true
is_of_range parts.NoPackageName = false
is_of_range parts.InvalidPackageName = false
is_of_range parts.MissingAtSymbol = false
is_of_range parts.Memory = false

of_range : (f : Flavour) (failure : Failure) → is_of_range (rejected_by f failure) ≡ true
of_range Specifier failure = refl
of_range Npm failure = refl
of_range Normal failure = refl

no_snippet : {text : List ℕ} (failure : Failure) → IsSpecifierRejection text failure → snippet_of failure ≡ None
no_snippet _ is_out_of_memory = refl
no_snippet _ (something_follows a b c) = refl
no_snippet _ (whitespace_text a b c) = refl
no_snippet _ (no_range a b c) = refl
no_snippet _ (large_number a b c) = refl
no_snippet _ (large_bound a b c d) = refl

module _ (f : Flavour) where
  no_version : (version : List ℕ) (e : PackageReqPartsParseError) → is_of_range e ≡ false → Reports f (BadVersion version) e → ⊥
  no_version version e is h = cc (ap is_of_range h.3, of_range f h.0, is)

  pub lacks_at_sign : (fault : PackageFault) → Reports f fault parts.MissingAtSymbol → fault ≡ NoAt
  lacks_at_sign NoName h = cc h
  lacks_at_sign BadName h = cc h
  lacks_at_sign (BadVersion version) h = absurd (no_version version parts.MissingAtSymbol refl h)
  lacks_at_sign (HasPath path) h = cc h
  lacks_at_sign NoAt h = refl

  pub lacks_name : (fault : PackageFault) → Reports f fault parts.NoPackageName → fault ≡ NoName
  lacks_name NoName h = refl
  lacks_name BadName h = cc h
  lacks_name (BadVersion version) h = absurd (no_version version parts.NoPackageName refl h)
  lacks_name (HasPath path) h = cc h
  lacks_name NoAt h = cc h

  pub is_scope_alone : (fault : PackageFault) → Reports f fault parts.InvalidPackageName → fault ≡ BadName
  is_scope_alone NoName h = cc h
  is_scope_alone BadName h = refl
  is_scope_alone (BadVersion version) h = absurd (no_version version parts.InvalidPackageName refl h)
  is_scope_alone (HasPath path) h = cc h
  is_scope_alone NoAt h = cc h

-- the error of a version's text shows none of it
shows_none : (f : Flavour) (version : List ℕ) (e : PackageReqPartsParseError) → Reports f (BadVersion version) e → shown e ≡ None
shows_none Specifier version e h = ap shown h.3 ∙ no_snippet h.0 h.2
shows_none Npm version e h = ap shown h.3
shows_none Normal version e h = ap shown h.3

pub at_path : (f : Flavour) (text : List ℕ) (fault : PackageFault) (e : PackageReqPartsParseError) {path : List ℕ} → Reports f fault e → shown e ≡ Some path → IsFaultAt text fault None (length text - length path)
at_path f text NoName e h is = cc (ap shown h, is)
at_path f text BadName e h is = cc (ap shown h, is)
at_path f text (BadVersion version) e h is = cc (shows_none f version e h, is)
at_path f text (HasPath path) e {path = snippet} h is =
    let same : Some (47 ∷ path) ≡ Some snippet = sym (ap shown h) ∙ is in
    let whole : 47 ∷ path ≡ snippet = cc same in
    let place : length text - length path - 1 ≡ length text - length snippet = omega (arith, ap length whole) in
    subst (IsFaultAt text (HasPath path) None) place has_path
at_path f text NoAt e h is = cc (ap shown h, is)

abbrev pub IsOfVersion : PackageFault → Type 0
IsOfVersion fault = (version : List ℕ) × (fault ≡ BadVersion version)

-- ---- the errors of a text whose parser reports an error

pub both : {X E : Type 0} (r : Result X E) (P Q R : X → Type 0) → IfOk r P → IfOk r Q → ((x : X) → P x → Q x → R x) → IfOk r R
both (Ok x) P Q R h k f = f x h k
both (Err e) P Q R h k f = tt

abbrev pub IsAt : ℕ × Option Part → Option Part → ℕ → Type 0
IsAt at missing place = (missing ≡ at.1) × (place ≡ at.0)

module _ {f : Flavour} {text : List ℕ} {e : PackageReqParseError} {failure : Failure} (rejected : IsPackageRejection f text e) (failure_is : (failure ≡ None) ⊎ (failure ≡ parts_failure e.source)) (some : failure ≢ None) where
  is_failure : failure ≡ parts_failure e.source
  is_failure = go failure_is
    where
      go : (failure ≡ None) ⊎ (failure ≡ parts_failure e.source) → failure ≡ parts_failure e.source
      go (inl none) = absurd (some none)
      go (inr is) = is

  pub reported : (place : Option (ℕ × Option Part)) (all : PackageErrors) → ((g : Flavour) (fault : PackageFault) → Reports g fault e.source → MatchOption place (IsOfVersion fault) (λ at. IsFaultAt text fault at.1 at.0))
      → MatchOption place (AreOfRange f 0 text all) (λ at. IsPartError (IsAt at) failure all) → ArePackageErrors f text all
  reported place all there are = go rejected
    where
      by_place : (fault : PackageFault) → IsPackageOutcome f text (Err fault) → Reports f fault e.source → (at : Option (ℕ × Option Part)) (all : PackageErrors) → MatchOption at (IsOfVersion fault) (λ at. IsFaultAt text fault at.1 at.0)
          → MatchOption at (AreOfRange f 0 text all) (λ at. IsPartError (IsAt at) failure all) → ArePackageErrors f text all
      by_place fault is reports None all of k = bad_version (subst (λ (x : PackageFault). IsPackageOutcome f text (Err x)) of.1 is) k
      by_place fault is reports (Some at) (errors.Range pieces) h k = absurd k
      by_place fault is reports (Some at) (errors.Part error) h k = other_fault e.source is reports (rw (k.0.0, k.0.1) h, k.1 ∙ is_failure)

      go : IsPackageRejection f text e → ArePackageErrors f text all
      go (inl memory) = absurd (some (is_failure ∙ ap parts_failure memory.source))
      go (inr found) = by_place found.0 found.1 found.2.source place all (there f found.0 found.2.source) are
