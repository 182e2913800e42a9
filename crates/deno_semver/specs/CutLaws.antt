-- What a split at a character gives: the text around it, and a part without it.
use Rattle.std.proofs.Common.{◌≡◌, ◌≢◌, ◌<◌, ◌==◌, ◌∷◌, ◌++◌, ◌∙◌, ℕ, List, true, ap, arith, drop, get_or, sym, take, take-append-drop}
use Rattle.std.specs.List.{list_all}
use Rattle.std.specs.Str.{NoCharPasses}
use Rattle.std.specs.Str.Pattern.{HasCharAt}
use Rattle.std.proofs.lemmas.Bool.Decides.{nat_tests}
use Rattle.std.proofs.lemmas.List.Elements.{All-from_get_or}
use Rattle.std.proofs.lemmas.List.Sums.{list_all-from_AllPass}
use Rattle.std.proofs.lemmas.Str.Pattern.{NoCharPasses-char, drop_at_char}
use Rattle.deno_semver.specs.Cuts.{is_not}

is_other : (m b : ℕ) → b ≢ m → is_not m b ≡ true
is_other m b h = grind (arith, nat_tests)

-- a text in which the character isn't found lacks it
pub none_passes : (m : ℕ) (text : List ℕ) → m < 128 → NoCharPasses (λ d. d == m) text → list_all (is_not m) text ≡ true
none_passes m text low h = list_all-from_AllPass (is_not m) text (All-from_get_or (λ b. is_not m b ≡ true) text 0 (λ k l. is_other m (get_or text k 0) (NoCharPasses-char m text k h low l)))

-- a text is the part before the character, the character, and the part after it
pub around : (m : ℕ) (text front back : List ℕ) (i j : ℕ) → m < 128 → HasCharAt m text i j → front ≡ take i text → back ≡ drop j text → text ≡ front ++ (m ∷ back)
around m text front back i j low at f g =
    sym (take-append-drop i text) ∙ (ap (λ t. t ++ drop i text) (sym f) ∙ ap (λ t. front ++ t) (drop_at_char m text i j at low ∙ ap (λ t. m ∷ t) (sym g)))
