use Rattle.std.proofs.Common.{◌≡◌, ◌∙◌, ℕ, suc, zero, List, [], ◌∷◌, Ordering, Less, Greater, arith, drop, length, min, nat_cmp, refl, sym}
use Rattle.std.specs.Cmp.Lexicographic.{slice_cmp}
use Rattle.std.proofs.lemmas.Bool.Decides.{nat_tests}
use Rattle.std.specs.Cmp.{nat_cmp_is}
use Rattle.std.proofs.lemmas.Slice.Zip.{zip_end}
use Rattle.deno_semver.specs.ReqOrder.{cmp_by}
use Rattle.deno_semver.proofs.package.order.cmp_ranges.Goals as goal

one_more : (a b : ℕ) → nat_cmp a b ≡ nat_cmp (suc a) (suc b)
one_more a b = grind (arith, nat_tests)

-- where the shorter list ends, the lengths decide
at_end : {X : Type 0} (R : X → X → Ordering) (xs ys : List X) (i : ℕ) → i ≡ min (length xs) (length ys) → slice_cmp R (drop i xs) (drop i ys) ≡ nat_cmp (length xs) (length ys)
at_end R [] [] i e = let start : i ≡ 0 = omega arith in rw start refl
at_end R [] (y ∷ ys) i e = let start : i ≡ 0 = omega arith in rw start (nat_cmp_is 0 (suc (length ys)) Less (omega arith))
at_end R (x ∷ xs) [] i e = let start : i ≡ 0 = omega arith in rw start (nat_cmp_is (suc (length xs)) 0 Greater (omega arith))
at_end R (x ∷ xs) (y ∷ ys) zero e = absurd (omega arith)
at_end R (x ∷ xs) (y ∷ ys) (suc i) e = at_end R xs ys i (omega arith) ∙ one_more (length xs) (length ys)

pub returns : goal.returns
returns c =
    let yielded = length c.loop-x.yielded in
    let all : yielded ≡ min (length c.args.a.now) (length c.args.b.now) =
    zip_end c.args.a.now c.args.b.now c.loop-x.yielded _ _ c.next.new.self c.next.result (cc) (cc) c.loop-x.yielded_by c.in-None.is c.next.ensures.steps in
    c.cmp.ensures ∙ sym (c.loop-x.invariant ∙ at_end (cmp_by c.args.by) c.args.a.now c.args.b.now yielded all)
