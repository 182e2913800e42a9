use Rattle.std.proofs.Common.{◌≡◌, ℕ, List, [], None, false, sym, inl, inr, arith}
use Rattle.std.proofs.lemmas.Bool.Decides.{nat_tests}
use Rattle.std.proofs.lemmas.List.{nil_from_length}
use Rattle.semver_base.specs.Comparators.{comparator_line}
use Rattle.semver_base.specs.PartialTable.{IsBoundRejection, all_fit}
use Rattle.semver_req.specs.Parsers.{Failure}
use Rattle.semver_req.specs.Single.{absent, is_followed, is_range, over_bound, over_number}
use Rattle.semver_req.specs.Written.{comparator_of}
use Rattle.semver_req.proofs.Fitting.{fitting, too_large}
use Rattle.semver_req.proofs.specifier.parse_single.Goals as goal

-- a bound is too large, as it isn't out of memory
over : (sums : List ℕ) (failure : Failure) → IsBoundRejection sums failure → (failure ≡ None → ⊥) → all_fit sums ≡ false
over sums failure (inl none) other = absurd (other none)
over sums failure (inr h) other = h.1

pub returns-in_default : goal.returns-in_default
returns-in_default c = absent (rw c.in_default.is at c.in_ok-written.ensures)

pub returns-in_default-partial : goal.returns-in_default-partial
returns-in_default-partial c =
    let f = too_large c.in_default-partial.is (rw c.in-Some.is at c.in_ok-written.ensures) in
    over_number f.longest f.number_large

pub returns-in-Ok : goal.returns-in-Ok
returns-in-Ok c =
    let f = fitting (rw (c.in-Some.is, c.in-Fits.is) at c.in_ok-written.ensures) in
    let nil : c.in-Some.rest.now ≡ [] = nil_from_length c.in-Some.rest.now (grind (arith, nat_tests, sym c.if-is_empty.ensures)) in
    rw c.in-Ok.ensures.range (is_range (rw nil at f.longest) f.numbers_fit c.in-Ok.ensures.fits)

pub returns-in-Ok-2 : goal.returns-in-Ok-2
returns-in-Ok-2 c =
    let f = fitting (rw (c.in-Some.is, c.in-Fits.is) at c.in_ok-written.ensures) in
    is_followed f.longest f.numbers_fit c.in-Ok-2.ensures.fits (grind (arith, nat_tests, sym c.if-is_empty.ensures))

pub returns-in-Err-2 : goal.returns-in-Err-2
returns-in-Err-2 c =
    let f = fitting (rw (c.in-Some.is, c.in-Fits.is) at c.in_ok-written.ensures) in
    over_bound f.longest f.numbers_fit (over (comparator_line (comparator_of c.in-Some.written.operator c.in-Fits.partial)).sums c.in-Err.failure c.in-Err.ensures.rejected (λ e. cc (c.if-is_memory.ensures.1 e)))
