-- Which versions the requirement of one version matches, and that its canonical form parses to it again.
use Rattle.std.proofs.Common.{◌≡◌, ◌==◌, ℕ, Bool, true, false, List, [], ◌∷◌, length, Ok, refl, sym, ap, ◌∙◌, ◌&&◌, ◌||◌, not, is_ge, is_le, Ordering, Less, Equal, Greater}
use Rattle.std.proofs.lemmas.Bool.{and_from, and_parts, eq-eqb}
use Rattle.semver_base.specs.Meaning.{admits_pre, alternative_means, bounds_hold, from, has_pre_of, is_release}
use Rattle.semver_base.specs.PartialTable.{between, up_to}
use Rattle.semver_base.specs.Precedence.{precedence_cmp}
use Rattle.semver_base.specs.PrecedenceLaws.{SamePrecedence, precedence-anti, precedence-same}
use Rattle.semver_base.specs.NormalText.{set_text}
use Rattle.semver_base.specs.Shortest.{shortest_tree}
use Rattle.semver_base.specs.VersionGrammar.{IsVersionOutcome, is_version}
use Rattle.semver_base.specs.VersionText.{IsWritable}
use Rattle.semver_base.specs.declared.range.VersionRange.{VersionRange}
use Rattle.semver_base.specs.declared.version.Version.{Version}
use Rattle.std.proofs.Math.Bool.{or-false}
use Rattle.semver_base.specs.WrittenLaws.{read_writable}
use Rattle.semver_req.specs.RetainedSet.{IsReadSet}
use Rattle.semver_req.specs.Pieces.{normal}
use Rattle.semver_req.specs.Requirement.{PinsTo, inner_means, pinned}
use Rattle.semver_req.specs.Rereading.{IsStableSet}
use Rattle.semver_req.specs.Stable.{one_version, reread_set}
use Rattle.semver_req.specs.declared.common.values.Flavour.TheVariants.{Normal}
use Rattle.semver_req.proofs.Rereading.{retained_alike}
use Rattle.semver_req.proofs.StableSets.{set_reread}
use Rattle.semver_req.proofs.Stabilizing.{stable_reread}
use Rattle.semver_req.proofs.WrittenSets.{set_outcome}

tied : (r : Ordering) → is_ge r ≡ true → is_le r ≡ true → r ≡ Equal
tied Less h k = cc h
tied Equal h k = refl
tied Greater h k = cc k

turned : (v w : Version) → SamePrecedence v w → SamePrecedence w v
turned v w s = record { major = sym s.major; minor = sym s.minor; patch = sym s.patch; pre = sym s.pre }

-- a pre-release of the version's precedence has its numbers and is one if the version is
admitted : (v w : Version) → SamePrecedence v w → (is_release w || (admits_pre (between (from v) (up_to v)) w || false)) ≡ true
admitted v w s = go (is_release w) refl
  where
    go : (b : Bool) → is_release w ≡ b → (b || (admits_pre (between (from v) (up_to v)) w || false)) ≡ true
    go true e = refl
    go false e =
        let pre : not (length v.pre == 0) ≡ true = rw (s.pre, e) refl in
        let numbers = and_from _ _ (eq-eqb v.major w.major s.major) (and_from _ _ (eq-eqb v.minor w.minor s.minor) (eq-eqb v.patch w.patch s.patch)) in
        let has : has_pre_of (from v) w ≡ true = and_from _ _ pre numbers in
        rw has refl

-- the version's one range
abbrev one : Version → VersionRange
one v = between (from v) (up_to v)

same_order : (v w : Version) → bounds_hold (one v) w ≡ true → precedence_cmp w v ≡ Equal
same_order v w held = tied (precedence_cmp w v) (and_parts (is_ge (precedence_cmp w v)) _ held).0 (and_parts (is_ge (precedence_cmp w v)) _ held).1

only : (v w : Version) → inner_means (pinned v).inner w ≡ true → SamePrecedence v w
only v w h =
    let means : alternative_means (one v ∷ []) w ≡ true = sym (or-false (alternative_means (one v ∷ []) w)) ∙ h in
    let held : (bounds_hold (one v) w && true) ≡ true = (and_parts (bounds_hold (one v) w && true) _ means).0 in
    turned w v (precedence-anti w v (same_order v w (and_parts (bounds_hold (one v) w) true held).0))

also : (v w : Version) → SamePrecedence v w → inner_means (pinned v).inner w ≡ true
also v w s =
    let same : precedence_cmp w v ≡ Equal = precedence-same w v (turned v w s) in
    rw (same, admitted v w s) refl

pub pinned_means : (v : Version) → PinsTo v (pinned v).inner
pinned_means v w = (only v w, also v w)

-- ---- its canonical form

abbrev only_range : Version → List VersionRange
only_range v = one v ∷ []

one_retained : (v : Version) → reread_set (only_range v) ≡ only_range v
one_retained v = set_reread (only_range v) refl ∙ ap (λ (range : VersionRange). range ∷ []) (stable_reread (one v) one_version)

one_stable : (v : Version) → IsWritable v → IsStableSet (only_range v)
one_stable v w f cut = record {
  tree = shortest_tree (only_range v);
  is_tree = set_outcome f cut (only_range v) (record { start = w; end = w }, tt);
  is_retained = retained_alike f cut (shortest_tree (only_range v)) ∙ one_retained v;
}

pub pinned_stable : (v : Version) (text : List ℕ) → IsVersionOutcome text (Ok v) → IsStableSet (only_range v)
pinned_stable v text (is_version h fits) = one_stable v (read_writable text v h fits)

-- so it is a parsed set
pub pinned_read : (v : Version) (text : List ℕ) → IsVersionOutcome text (Ok v) → IsReadSet (only_range v)
pinned_read v text h =
    let s = pinned_stable v text h Normal normal in
    record { flavour = Normal; text = set_text (only_range v); tree = s.tree; is_outcome = s.is_tree; is_retained = sym s.is_retained }
