-- No character of a tag is whitespace, `|`, `@` or `/`.
use Rattle.std.proofs.Common.{◌≡◌, ℕ, Bool, true, false, List, [], ◌∷◌, refl, arith, inl, inr, ◌==◌, ◌⊎◌, ◌||◌, not}
use Rattle.std.specs.Char.{is_whitespace}
use Rattle.std.specs.List.{list_all}
use Rattle.std.proofs.lemmas.Bool.{and_parts, eqb-true}
use Rattle.std.proofs.lemmas.Bool.Decides.{nat_tests}
use Rattle.unicode.proofs.CategoryComputing.{ucd_category}
use Rattle.unicode.proofs.DerivedComputing.{ucd_derived}
use Rattle.semver_req.specs.Tag.{is_tag_character}

pub bar_no_tag : is_tag_character 124 ≡ false
unfolding ucd_derived ucd_category
bar_no_tag = refl

pub at_no_tag : is_tag_character 64 ≡ false
unfolding ucd_derived ucd_category
at_no_tag = refl

pub slash_no_tag : is_tag_character 47 ≡ false
unfolding ucd_derived ucd_category
slash_no_tag = refl

abbrev is_one_of : ℕ → List ℕ → Bool
is_one_of c [] = false
is_one_of c (b ∷ bs) = (c == b) || is_one_of c bs

-- the whitespace characters
abbrev whitespace : List ℕ
whitespace = 9 ∷ 10 ∷ 11 ∷ 12 ∷ 13 ∷ 32 ∷ 133 ∷ 160 ∷ 5760 ∷ 8192 ∷ 8193 ∷ 8194 ∷ 8195 ∷ 8196 ∷ 8197 ∷ 8198 ∷ 8199 ∷ 8200 ∷ 8201 ∷ 8202 ∷ 8232 ∷ 8233 ∷ 8239 ∷ 8287 ∷ 12288 ∷ []

white_one : (c : ℕ) → is_whitespace c ≡ true → is_one_of c whitespace ≡ true
white_one c h = grind (arith, nat_tests)

none_tags : list_all (λ b. not (is_tag_character b)) whitespace ≡ true
unfolding ucd_derived ucd_category
none_tags = refl

either_true : (x y : Bool) → (x || y) ≡ true → (x ≡ true) ⊎ (y ≡ true)
either_true true y h = inl refl
either_true false y h = inr h

other : (c : ℕ) (bs : List ℕ) → is_one_of c bs ≡ true → list_all (λ b. not (is_tag_character b)) bs ≡ true → is_tag_character c ≡ true → ⊥
other c [] h k t = let same : false ≡ true = h in cc same
other c (b ∷ bs) h k t = elim (either_true (c == b) (is_one_of c bs) h) [
  | inl e ↦ let same : not (is_tag_character c) ≡ true = rw (eqb-true c b e) (and_parts (not (is_tag_character b)) _ k).0 in
      let no : false ≡ true = rw t at same in cc no
  | inr m ↦ other c bs m (and_parts (not (is_tag_character b)) _ k).1 t
]

pub white_no_tag : (c : ℕ) → is_whitespace c ≡ true → is_tag_character c ≡ true → ⊥
white_no_tag c h t = other c whitespace (white_one c h) none_tags t
