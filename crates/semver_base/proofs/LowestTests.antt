-- The lowest version that passes a test: of tests that pass the same versions, and of either of two.
use Rattle.std.proofs.Common.{◌≡◌, Bool, true, false, Option, Some, None, refl, sym, ap, ◌∙◌, inl, inr, if◌then◌else◌, IfSome, is_le, Ordering, Less, Equal, Greater}
use Rattle.std.proofs.lemmas.Bool.{cases_Bool}
use Rattle.std.proofs.lemmas.Cmp.{tied_itself}
use Rattle.semver_base.specs.LowestVersion.{IsLowestPassing, IsReadable}
use Rattle.semver_base.specs.Intervals.{filtered, lesser, lower_by}
use Rattle.semver_base.specs.Precedence.{precedence_cmp}
use Rattle.semver_base.specs.PrecedenceLaws.{precedence_total, turned, le_le}
use Rattle.semver_base.specs.declared.version.Version.{Version}

-- ---- lowest versions of tests

-- a lowest version of one test is that of another that passes the same readable versions
pub lowest_alike : (P Q : Version → Bool) (x : Option Version) → ((v : Version) → P v ≡ true → Q v ≡ true) → ((v : Version) → IsReadable v → Q v ≡ true → P v ≡ true) → IsLowestPassing P x → IsLowestPassing Q x
lowest_alike P Q (Some x) there back h = (there x h.0, λ v readable passes. h.1 v readable (back v readable passes))
lowest_alike P Q None there back h = λ v readable. elim (cases_Bool (Q v)) [
  | inl passes ↦ let none : true ≡ false = sym (back v readable passes) ∙ h v readable in cc none
  | inr fails ↦ fails
]

-- the same for an equal test
pub lowest_as : (P Q : Version → Bool) (x : Option Version) → ((v : Version) → P v ≡ Q v) → IsLowestPassing P x → IsLowestPassing Q x
lowest_as P Q x same h = lowest_alike P Q x (λ v passes. sym (same v) ∙ passes) (λ v readable passes. same v ∙ passes) h

-- the version is reached: something is found, and isn't above it
abbrev pub Reaches : Option Version → Version → Type 0
Reaches None v = ⊥
Reaches (Some w) v = is_le (precedence_cmp w v) ≡ true

-- what passes a test and reaches each readable version that passes it is the lowest
pub lowest_by : (test : Version → Bool) (x : Option Version) → IfSome x (λ w. test w ≡ true) → ((v : Version) → IsReadable v → test v ≡ true → Reaches x v) → IsLowestPassing test x
lowest_by test (Some w) passes reaches = (passes, reaches)
lowest_by test None passes reaches = λ v readable. elim (cases_Bool (test v)) [
  | inl own ↦ absurd (reaches v readable own)
  | inr fails ↦ fails
]

-- ---- the lower of two

module _ (P : Version → Type 0) where
  pub lesser_keeps : (x y : Option Version) → IfSome x P → IfSome y P → IfSome (lesser x y) P
  lesser_keeps None y h k = k
  lesser_keeps (Some x) None h k = h
  lesser_keeps (Some x) (Some y) h k = go (precedence_cmp x y)
    where
      go : (r : Ordering) → P (lower_by r x y)
      go Less = h
      go Equal = h
      go Greater = k

  pub retained_keeps : (test : Version → Bool) (x : Option Version) → IfSome x P → IfSome (filtered test x) P
  retained_keeps test None h = h
  retained_keeps test (Some x) h = go (test x)
    where
      go : (t : Bool) → IfSome (if t then Some x else None) P
      go true = h
      go false = tt

itself : (x : Version) → is_le (precedence_cmp x x) ≡ true
itself x = ap is_le (tied_itself precedence_total x)

lower_le : (x y : Version) (r : Ordering) → precedence_cmp x y ≡ r → (is_le (precedence_cmp (lower_by r x y) x) ≡ true) × (is_le (precedence_cmp (lower_by r x y) y) ≡ true)
lower_le x y Less e = (itself x, rw e refl)
lower_le x y Equal e = (itself x, rw e refl)
lower_le x y Greater e = (rw (turned precedence_total x y Greater e) refl, itself y)

pub lesser_reaches_first : (x y : Option Version) (v : Version) → Reaches x v → Reaches (lesser x y) v
lesser_reaches_first None y v h = absurd h
lesser_reaches_first (Some x) None v h = h
lesser_reaches_first (Some x) (Some y) v h = le_le precedence_total (lower_by (precedence_cmp x y) x y) x v (lower_le x y (precedence_cmp x y) refl).0 h

pub lesser_reaches_second : (x y : Option Version) (v : Version) → Reaches y v → Reaches (lesser x y) v
lesser_reaches_second x None v h = absurd h
lesser_reaches_second None (Some y) v h = h
lesser_reaches_second (Some x) (Some y) v h = le_le precedence_total (lower_by (precedence_cmp x y) x y) y v (lower_le x y (precedence_cmp x y) refl).1 h
