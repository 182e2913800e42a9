-- Whether one test passes what another does, by the lowest version that only the first one passes.
use Rattle.std.proofs.Common.{◌≡◌, ◌&&◌, Bool, true, false, not, Option, Some, None, refl, sym, inl, inr, ◌∙◌, ◌↔◌, ℕ, List, IfSome, IsTrue, Ok, is_some}
use Rattle.std.specs.Str.{trim}
use Rattle.std.proofs.lemmas.Bool.{and_parts, cases_Bool}
use Rattle.semver_base.specs.Containment.{IsWithin, ReportsWithin}
use Rattle.semver_base.specs.LowestVersion.{IsLowestPassing, IsReadable}
use Rattle.semver_base.specs.VersionGrammar.{IsVersionOutcome, is_version}
use Rattle.semver_base.specs.VersionText.{version_text, ReadsBack}
use Rattle.semver_base.specs.declared.version.Version.{Version}
use Rattle.semver_base.specs.OrderLaws.{not_true}
use Rattle.semver_base.specs.WrittenLaws.{read_writable}

-- the second test passes what the first one passes exactly if nothing is found
pub within_reported : (test other : Version → Bool) (x : Option Version) (reported : Bool) → is_some x ≡ not reported → IsLowestPassing (λ v. test v && not (other v)) x → ReportsWithin test other reported
within_reported test other None false e h = cc e
within_reported test other (Some v) true e h = cc e
within_reported test other None true e h = λ v readable own. elim (cases_Bool (other v)) [
  | inl passes ↦ passes
  | inr fails ↦ let alone : (test v && not (other v)) ≡ true = rw (own, fails) refl in let never : true ≡ false = sym alone ∙ h v readable in cc never
]
within_reported test other (Some v) false e h = (v, (and_parts (test v) _ h.0).0, not_true (other v) (and_parts (test v) _ h.0).1)

pub back_readable : (v : Version) → ReadsBack v → IsReadable v
back_readable v back = go (trim (version_text v)) back
  where
    go : (text : List ℕ) → IsVersionOutcome text (Ok v) → IsReadable v
    go text (is_version h fits) = record { numbers = fits; pre = (read_writable text v h fits).pre }

-- and it does so exactly, if what is found has a text that parses back
pub within_exact : (test other : Version → Bool) (x : Option Version) (reported : Bool) → is_some x ≡ not reported → IsLowestPassing (λ v. test v && not (other v)) x → IfSome x ReadsBack → IsTrue reported ↔ IsWithin test other
within_exact test other None false e h back = cc e
within_exact test other (Some v) true e h back = cc e
within_exact test other None true e h back = (λ _. within_reported test other None true e h, λ _. refl)
within_exact test other (Some v) false e h back = (
  λ yes. cc yes,
  λ within.
      let passes = within v (back_readable v back) (and_parts (test v) _ h.0).0 in
      let never : true ≡ false = sym passes ∙ not_true (other v) (and_parts (test v) _ h.0).1 in
      cc never,
)
