-- Splitting a text at a byte: the split is unique, and at a character boundary.
use Rattle.std.proofs.Common.{◌≡◌, ◌<◌, ℕ, Bool, true, false, List, [], ◌∷◌, ◌++◌, length, refl, arith, ◌==◌}
use Rattle.std.specs.List.{list_all}
use Rattle.std.proofs.lemmas.Bool.{and_parts}
use Rattle.std.proofs.lemmas.Bool.Decides.{nat_tests}
use Rattle.semver_base.specs.Grammar.{Stops}

-- the leading bytes that pass, and what follows them, are unique
pub run_one : (p : ℕ → Bool) (a b c d : List ℕ) → a ++ b ≡ c ++ d → list_all p a ≡ true → Stops p b → list_all p c ≡ true → Stops p d → (a ≡ c) × (b ≡ d)
run_one p [] b [] d e pa sb pc sd = (refl, e)
run_one p [] [] (y ∷ c) d e pa sb pc sd = cc e
run_one p [] (x ∷ b) (y ∷ c) d e pa sb pc sd =
    let head : x ≡ y = cc e in
    let passes : p y ≡ true = (and_parts (p y) (list_all p c) pc).0 in
    let stops : p y ≡ false = rw (← head) sb in
    cc (passes, stops)
run_one p (x ∷ a) b [] [] e pa sb pc sd = cc e
run_one p (x ∷ a) b [] (y ∷ d) e pa sb pc sd =
    let head : x ≡ y = cc e in
    let passes : p x ≡ true = (and_parts (p x) (list_all p a) pa).0 in
    let stops : p x ≡ false = rw head sd in
    cc (passes, stops)
run_one p (x ∷ a) b (y ∷ c) d e pa sb pc sd =
    let head : x ≡ y = cc e in
    let tail : a ++ b ≡ c ++ d = cc e in
    let more = run_one p a b c d tail (and_parts (p x) (list_all p a) pa).1 sb (and_parts (p y) (list_all p c) pc).1 sd in
    let whole : x ∷ a ≡ y ∷ c = rw (head, more.0) refl in
    (whole, more.1)

-- ---- what is left

pub some_left : (xs : List ℕ) (b : Bool) → b ≡ (length xs == 0) → b ≡ false → 0 < length xs
some_left xs b e f = grind (arith, nat_tests)

pub none_left : (xs : List ℕ) (b : Bool) → b ≡ (length xs == 0) → b ≡ true → length xs ≡ 0
none_left xs b e f = grind (arith, nat_tests)
