use Rattle.std.proofs.Common.{◌∙◌}
use Rattle.callers.proofs.Locking.{allowed_as_stored}
use Rattle.callers.proofs.lockfile.allows_when_locked.Goals as goal

pub returns : goal.returns
returns c text u h keeps =
    c.allowance_by.ensures ∙ allowed_as_stored c.args.req.now.version_req.inner c.in_ok-again.again.version_req.inner c.args.version.now (c.in_ok-again.ensures.npm text u h).stored keeps
