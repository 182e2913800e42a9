use Rattle.std.proofs.Common.{sym, subst}
use Rattle.deno_semver.specs.Json.{IsStringOf, IsTextOfReq}
use Rattle.deno_semver.specs.Equal.{AreEqualReqs}
use Rattle.deno_semver.specs.Stored.{IsSameWhenStored}
use Rattle.callers.proofs.Locking.{answered}
use Rattle.callers.proofs.lockfile.locked.Goals as goal

pub returns-clause-npm : goal.returns-clause-npm
returns-clause-npm c text u h =
    let s = c.in_ok-entry.ensures.read_again text u h in
    answered (IsSameWhenStored c.args.req.now) s.again c.from_json.result (c.from_json.ensures.answer s.again s.parses_to) s.is_retained

pub returns-clause-stable : goal.returns-clause-stable
returns-clause-stable c s =
    let stands = subst (λ d. IsStringOf IsTextOfReq d s.again) (sym c.in_ok-entry.ensures.value) s.parses_to in
    answered (λ again. AreEqualReqs again c.args.req.now) s.again c.from_json.result (c.from_json.ensures.answer s.again stands) s.equal
