use Rattle.std.proofs.Common.{◌-◌, ◌∷◌, ◌++◌, length, drop, arith, append-nil, take_all, length-drop, IsAscii, decimal, rules}
use Rattle.std.proofs.lemmas.Fmt.{IsAscii-decimal, length-decimal-le}
use Rattle.std.proofs.lemmas.Str.{IsAscii-append, IsUtf8-from_ascii}
use Rattle.std.proofs.lemmas.Str.Ascii.{IsAscii-cons}
use Rattle.semver_base.proofs.version.VersionDisplay.fmt.Goals as goal

pub write_digits-start-requires : goal.write_digits-start-requires
write_digits-start-requires g c =
    let digits = length-decimal-le 20 c.args.self.now.patch (omega arith) (omega arith) (search rules) in
    (omega arith, omega arith)

pub put_before-start-requires-clause-low : goal.put_before-start-requires-clause-low
put_before-start-requires-clause-low g c =
    let digits = length-decimal-le 20 c.args.self.now.patch (omega arith) (omega arith) (search rules) in
    omega arith

pub put_before-start-requires-2-clause-low : goal.put_before-start-requires-2-clause-low
put_before-start-requires-2-clause-low g c =
    let digits = length-decimal-le 20 c.args.self.now.patch (omega arith) (omega arith) (search rules) in
    omega arith

pub from_utf8_unchecked-requires : goal.from_utf8_unchecked-requires
from_utf8_unchecked-requires g c =
    let numbers = c.args.self.now in
    let last = c.put_before-start-2 in
    let patch : IsAscii (decimal numbers.patch) = IsAscii-decimal numbers.patch (search rules) in
    let minor : IsAscii (decimal numbers.minor ++ (46 ∷ decimal numbers.patch)) =
    IsAscii-append _ _ (IsAscii-decimal numbers.minor (search rules)) (IsAscii-cons 46 (decimal numbers.patch) (omega arith) patch) in
    let major : IsAscii (decimal numbers.major ++ (46 ∷ (decimal numbers.minor ++ (46 ∷ decimal numbers.patch)))) =
    IsAscii-append _ _ (IsAscii-decimal numbers.major (search rules)) (IsAscii-cons 46 (decimal numbers.minor ++ (46 ∷ decimal numbers.patch)) (omega arith) minor) in
    IsUtf8-from_ascii _ (rw (take_all (length last.new.bytes - last.result) (drop last.result last.new.bytes) (omega (arith, length-drop last.result last.new.bytes)), last.ensures.written, c.put_before-start.ensures.written, c.write_digits-start.ensures.written, append-nil (decimal numbers.patch)) major)
