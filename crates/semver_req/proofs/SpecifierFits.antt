-- The longest strict prefix of a text that the normalized grammar matches fits if that does.
use Rattle.std.proofs.Common.{◌≡◌, ◌+◌, ℕ, true, List, [], ◌∷◌, ◌++◌, refl, ◌∙◌}
use Rattle.std.proofs.lemmas.Bool.{and_parts}
use Rattle.semver_base.specs.Comparators.{Comparator, Bare, Tilde, comparator_line}
use Rattle.semver_base.specs.PartialTable.{all_fit, number_fits}
use Rattle.semver_base.specs.declared.partial.Partial.{Partial}
use Rattle.semver_base.specs.declared.partial.XRange.{XRange}
use Rattle.semver_base.specs.declared.partial.XRange.TheVariants.{Val, Wildcard}
use Rattle.semver_req.specs.Comparators.{comparator_numbers, component_numbers, fits, numbers}
use Rattle.semver_req.proofs.SpecifierFronts.{IsCut, IsCutOf, all_same, major_cut, minor_cut, patch_cut}

abbrev partial : XRange → XRange → XRange → List (List ℕ) → List (List ℕ) → Partial
partial major minor patch pre build = record { major = major; minor = minor; patch = patch; pre = pre; build = build }

-- what fits doesn't depend on the pre-release and the build
bare_same : (m n p : XRange) (a b c d : List (List ℕ)) → fits (Bare (partial m n p a b)) ≡ fits (Bare (partial m n p c d))
bare_same Wildcard n p a b c d = refl
bare_same (Val m) Wildcard p a b c d = refl
bare_same (Val m) (Val n) Wildcard a b c d = refl
bare_same (Val m) (Val n) (Val p) a b c d = refl

tilde_same : (m n p : XRange) (a b c d : List (List ℕ)) → fits (Tilde (partial m n p a b)) ≡ fits (Tilde (partial m n p c d))
tilde_same Wildcard n p a b c d = refl
tilde_same (Val m) Wildcard p a b c d = refl
tilde_same (Val m) (Val n) p a b c d = refl

-- the first number of those that fit
first_fits : (m : ℕ) (ns : List ℕ) → all_fit (m ∷ ns) ≡ true → number_fits m ≡ true
first_fits m ns h = (and_parts (number_fits m) (all_fit ns) h).0

others_fit : (m : ℕ) (ns : List ℕ) → all_fit (m ∷ ns) ≡ true → all_fit ns ≡ true
others_fit m ns h = (and_parts (number_fits m) (all_fit ns) h).1

module _ (make : Partial → Comparator) (numbers_are : (p : Partial) → comparator_numbers (make p) ≡ numbers p) where
  numbers_fit : (p : Partial) → fits (make p) ≡ true → all_fit (numbers p) ≡ true
  numbers_fit p h = rw numbers_are at (and_parts (all_fit (comparator_numbers (make p))) _ h).0

  sums_fit : (p : Partial) → fits (make p) ≡ true → all_fit (comparator_line (make p)).sums ≡ true
  sums_fit p h = (and_parts (all_fit (comparator_numbers (make p))) _ h).1

-- cut after a `0`, a plain partial version fits if it did
bare_cut_fits : (m n p x y z : XRange) (a b c d : List (List ℕ)) → IsCutOf m n p x y z → fits (Bare (partial m n p a b)) ≡ true → fits (Bare (partial x y z c d)) ≡ true
bare_cut_fits m n p x y z a b c d all_same h = bare_same m n p c d a b ∙ h
bare_cut_fits m n p x y z a b c d major_cut h = refl
bare_cut_fits Wildcard n p x y z a b c d minor_cut h = refl
bare_cut_fits (Val m) n p x y z a b c d minor_cut h = rw (first_fits m (component_numbers n ++ component_numbers p) (numbers_fit Bare (λ q. refl) (partial (Val m) n p a b) h)) refl
bare_cut_fits Wildcard Wildcard p x y z a b c d patch_cut h = refl
bare_cut_fits Wildcard (Val n) p x y z a b c d patch_cut h = rw (first_fits n (component_numbers p) (numbers_fit Bare (λ q. refl) (partial Wildcard (Val n) p a b) h)) refl
bare_cut_fits (Val m) Wildcard p x y z a b c d patch_cut h =
    rw (first_fits m (component_numbers p) (numbers_fit Bare (λ q. refl) (partial (Val m) Wildcard p a b) h), first_fits (m + 1) [] (sums_fit Bare (λ q. refl) (partial (Val m) Wildcard p a b) h)) refl
bare_cut_fits (Val m) (Val n) p x y z a b c d patch_cut h =
    let all : all_fit (m ∷ n ∷ component_numbers p) ≡ true = numbers_fit Bare (λ q. refl) (partial (Val m) (Val n) p a b) h in
    rw (first_fits m (n ∷ component_numbers p) all, first_fits n (component_numbers p) (others_fit m (n ∷ component_numbers p) all)) refl

-- so does one after a tilde
tilde_cut_fits : (m n p x y z : XRange) (a b c d : List (List ℕ)) → IsCutOf m n p x y z → fits (Tilde (partial m n p a b)) ≡ true → fits (Tilde (partial x y z c d)) ≡ true
tilde_cut_fits m n p x y z a b c d all_same h = tilde_same m n p c d a b ∙ h
tilde_cut_fits m n p x y z a b c d major_cut h = refl
tilde_cut_fits Wildcard n p x y z a b c d minor_cut h = refl
tilde_cut_fits (Val m) n p x y z a b c d minor_cut h = rw (first_fits m (component_numbers n ++ component_numbers p) (numbers_fit Tilde (λ q. refl) (partial (Val m) n p a b) h)) refl
tilde_cut_fits Wildcard Wildcard p x y z a b c d patch_cut h = refl
tilde_cut_fits Wildcard (Val n) p x y z a b c d patch_cut h = rw (first_fits n (component_numbers p) (numbers_fit Tilde (λ q. refl) (partial Wildcard (Val n) p a b) h)) refl
tilde_cut_fits (Val m) Wildcard p x y z a b c d patch_cut h =
    rw (first_fits m (component_numbers p) (numbers_fit Tilde (λ q. refl) (partial (Val m) Wildcard p a b) h), first_fits (m + 1) [] (sums_fit Tilde (λ q. refl) (partial (Val m) Wildcard p a b) h)) refl
tilde_cut_fits (Val m) (Val n) p x y z a b c d patch_cut h =
    let all : all_fit (m ∷ n ∷ component_numbers p) ≡ true = numbers_fit Tilde (λ q. refl) (partial (Val m) (Val n) p a b) h in
    rw (first_fits m (n ∷ component_numbers p) all, first_fits n (component_numbers p) (others_fit m (n ∷ component_numbers p) all), first_fits (n + 1) [] (sums_fit Tilde (λ q. refl) (partial (Val m) (Val n) p a b) h)) refl

pub bare_fits : (p q : Partial) → IsCut p q → fits (Bare p) ≡ true → fits (Bare q) ≡ true
bare_fits p q cut h = bare_cut_fits p.major p.minor p.patch q.major q.minor q.patch p.pre p.build q.pre q.build cut h

pub tilde_fits : (p q : Partial) → IsCut p q → fits (Tilde p) ≡ true → fits (Tilde q) ≡ true
tilde_fits p q cut h = tilde_cut_fits p.major p.minor p.patch q.major q.minor q.patch p.pre p.build q.pre q.build cut h
