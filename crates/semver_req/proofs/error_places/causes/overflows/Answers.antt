use Rattle.std.proofs.Common.{refl}
use Rattle.semver_req.proofs.LargeBounds.{large_number_no, sums_no, sums_yes}
use Rattle.semver_req.proofs.error_places.causes.overflows.Goals as goal

pub returns-in_default : goal.returns-in_default
returns-in_default c = λ p seen. large_number_no c.args.written.operator p refl (rw c.in_default.is at seen)

pub returns-in-Ok : goal.returns-in-Ok
returns-in-Ok c = λ p seen. sums_no c.args.written.operator p (rw c.in-Fits.is at seen) refl c.in-Ok.ensures.fits

pub returns-in-Err-2 : goal.returns-in-Err-2
returns-in-Err-2 c = λ p seen. sums_yes c.args.written.operator p (rw c.in-Fits.is at seen) refl c.in-Err.failure c.in-Err.ensures.rejected (λ e. cc (c.if-is_memory.ensures.1 e))
