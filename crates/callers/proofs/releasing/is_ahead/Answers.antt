use Rattle.std.proofs.Common.{◌≡◌, ◌∙◌, Bool, Result, Ok, Err, IfOk, IsTrue, true, false, sym, ap, inl, inr}
use Rattle.std.proofs.lemmas.Bool.{cases_Bool}
use Rattle.std.proofs.lemmas.Cmp.{tied_itself}
use Rattle.std.specs.Ordering.{is_lt}
use Rattle.semver_base.specs.Containment.{ReportsWithin}
use Rattle.semver_base.specs.LowestVersion.{IsReadable}
use Rattle.semver_base.specs.PrecedenceLaws.{precedence_total}
use Rattle.semver_base.specs.declared.version.Version.{Version}
use Rattle.node_semver.specs.Outside.{lies}
use Rattle.node_semver.specs.declared.outside.Side.TheVariants as side
use Rattle.callers.proofs.releasing.is_ahead.Goals as goal

-- no version is above itself
not_itself : (v : Version) → lies side.Above v v ≡ false
not_itself v = ap is_lt (tied_itself precedence_total v)

unmatched : {E : Type 0} (test : Version → Bool) (v : Version) → IsReadable v → (r : Result Bool E) → IfOk r (ReportsWithin test (lies side.Above v)) → IfOk r (λ is_ahead. IsTrue is_ahead → test v ≡ false)
unmatched test v readable (Ok true) h = λ yes. elim (cases_Bool (test v)) [
  | inl matches ↦ let never : false ≡ true = sym (not_itself v) ∙ h v readable matches in cc never
  | inr isnt ↦ isnt
]
unmatched test v readable (Ok false) h = λ yes. cc yes
unmatched test v readable (Err e) h = tt

pub returns : goal.returns
returns c = unmatched _ c.args.version.now c.requires c.is_outside.result c.is_outside.ensures.value
