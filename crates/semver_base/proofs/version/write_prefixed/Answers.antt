use Rattle.std.proofs.Common.{◌≡◌, ◌<◌, ◌+◌, ℕ, zero, suc, List, [], ◌∷◌, ◌++◌, length, take, get_or, refl, sym, append-nil, add-one, arith, true, ◌==◌, if◌then◌else◌}
use Rattle.std.proofs.Math.Dec.{eqb-suc-zero}
use Rattle.std.proofs.Math.Seq.{take-suc}
use Rattle.std.proofs.lemmas.Bool.Decides.{nat_tests}
use Rattle.std.proofs.lemmas.Grind.{put_three}
use Rattle.std.proofs.lemmas.List.{flat_map_more}
use Rattle.std.proofs.lemmas.Str.{encode_ascii}
use Rattle.semver_base.specs.VersionText.{prefixed}
use Rattle.semver_base.proofs.version.write_prefixed.Goals as goal

-- one more identifier with its separator
prefixed_step : (prefix separator : ℕ) (identifiers : List (List ℕ)) (i : ℕ) (x : List ℕ) → i < length identifiers → x ≡ get_or identifiers i x
    → separator ≡ (if i == 0 then prefix else 46)
    → prefixed prefix (take (i + 1) identifiers) ≡ prefixed prefix (take i identifiers) ++ (separator ∷ x)
prefixed_step prefix separator [] i x h e s = absurd (omega arith)
prefixed_step prefix separator (p ∷ ps) zero x h e s = rw (s, e, append-nil) refl
prefixed_step prefix separator (p ∷ ps) (suc i) x h e s =
    let shorter : i < length ps = omega arith in
    rw (add-one, take-suc ps i x shorter, ← e, s, eqb-suc-zero, ← flat_map_more) refl

pub loop-identifier-preserved : goal.loop-identifier-preserved
loop-identifier-preserved g c = (
  omega arith,
  grind (arith, nat_tests),
  λ p.
      let so_far = c.loop-identifier.invariant.2 p in
      let separator = c.in_ok-write_char.ensures.writes so_far.plain (refl {a = true}) in
      let identifier = c.in_ok-write_str.ensures.writes separator.plain (refl {a = true}) in
      put_three _ _ _ _ _ _ _ _ _ so_far separator identifier
      (rw (encode_ascii _ c.loop-identifier.invariant.0, c.as_str.ensures.value) (sym (prefixed_step c.args.prefix c.loop-identifier.separator c.args.identifiers.now c.loop-identifier.identifier-index c.identifier-item.result c.loop-identifier-test.true c.identifier-item.is c.loop-identifier.invariant.1))),
)
