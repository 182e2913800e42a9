use Rattle.std.proofs.Common.{[], ◌∷◌, arith, inl, inr, refl}
use Rattle.std.proofs.lemmas.Grind.{common_steps}
use Rattle.semver_req.proofs.common.short.after_gap.Goals as goal

pub returns-in-32 : goal.returns-in-32
returns-in-32 c = (32 ∷ [], inr refl, grind (arith, common_steps))

pub returns-in_default : goal.returns-in_default
returns-in_default c = ([], inl refl, refl)

pub returns-in_default-2 : goal.returns-in_default-2
returns-in_default-2 c = ([], inl refl, refl)
