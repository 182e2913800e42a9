-- What is replaced so far, while a text is scanned from its start.
use Rattle.std.proofs.Common.{◌≡◌, ◌≤◌, ◌<◌, ◌+◌, ◌-◌, ℕ, List, [], ◌++◌, length, take, drop, slice_get, Some, None, refl, sym, ap, ◌∙◌, subst, arith, inl, inr, length-append, encode_utf8}
use Rattle.std.proofs.lemmas.Bool.{cases_lt}
use Rattle.std.proofs.lemmas.List.{append_assoc, append_cancel_left, length-drop, nil_from_length}
use Rattle.std.proofs.lemmas.Str.{chars-nil}
use Rattle.std.specs.Str.Pattern.{FindsText, HasTextAt}
use Rattle.semver_base.specs.Texts.{IsFirstCharacter, IsReplaced, at_end, before_character, no_more, one_more}

-- nothing is found before what is found
first_found : (from s : List ℕ) (a b i j : ℕ) → FindsText from s (Some (a, b)) → HasTextAt from s i j → a ≤ i
first_found from s a b i j found at = elim (cases_lt i a) [
  | inl earlier ↦ absurd (found.0 i earlier (drop j s) at.split)
  | inr later ↦ omega (arith, later)
]

-- what is found lies inside the text
within : (from s : List ℕ) (i j : ℕ) → 0 < length from → HasTextAt from s i j → i ≤ length s
within from s i j some at =
    let same : length s - i ≡ length from + length (drop j s) = sym (length-drop i s) ∙ (ap length at.split ∙ length-append from (drop j s)) in
    omega (arith, same, some)

module _ (from to : List ℕ) where
  -- the text begins with what was replaced, whatever follows
  pub record IsBegun (s rest front r : List ℕ) : Type 0 where
    pub more : List ℕ
    pub is : r ≡ front ++ more
    pub replaced : IsReplaced from to rest more

  -- done is the replaced text, but for the rest of it
  pub record IsPartly (whole done rest : List ℕ) : Type 0 where
    pub goes_on : (r : List ℕ) → IsReplaced from to rest r → IsReplaced from to whole (done ++ r)
    pub comes_from : (r : List ℕ) → IsReplaced from to whole r → IsBegun whole rest done r

  pub start : (whole : List ℕ) → IsPartly whole [] whole
  start whole = record { goes_on = λ r h. h; comes_from = λ r h. record { more = r; is = refl; replaced = h } }

  -- a step: the replaced text of s begins with `front`, and continues with that of the rest
  pub record IsStep (s front rest : List ℕ) : Type 0 where
    pub goes_on : (r : List ℕ) → IsReplaced from to rest r → IsReplaced from to s (front ++ r)
    pub comes_from : (r : List ℕ) → IsReplaced from to s r → IsBegun s rest front r

  pub next : (whole done s front rest : List ℕ) → IsPartly whole done s → IsStep s front rest → IsPartly whole (done ++ front) rest
  next whole done s front rest h step = record {
    goes_on = λ r k. subst (IsReplaced from to whole) (sym (append_assoc done front r)) (h.goes_on (front ++ r) (step.goes_on r k));
    comes_from = λ r k.
        let before = h.comes_from r k in
        let after = step.comes_from before.more before.replaced in
        record { more = after.more; is = before.is ∙ (ap (λ t. done ++ t) after.is ∙ sym (append_assoc done front after.more)); replaced = after.replaced };
  }

  -- ---- of a non-empty text

  module _ (some : 0 < length from) where
    found_begins : (s r : List ℕ) (a b : ℕ) → FindsText from s (Some (a, b)) → IsReplaced from to s r → IsBegun s (drop b s) (take a s ++ to) r
    found_begins s r a b found (no_more none) = absurd (none a (within from s a b some found.1) (drop b s) found.1.split)
    found_begins s r a b found (one_more {replaced = replaced} {start = i} {end = j} other _ more) =
        let lowest = first_found from s a b i j found other.1 in
        let same : i ≡ a = omega (arith, lowest, first_found from s i j a b other found.1) in
        let ends : j ≡ b = omega (arith, same, other.1.ends, found.1.ends) in
        record {
          more = replaced;
          is = ap (λ n. take n s ++ (to ++ replaced)) same ∙ sym (append_assoc (take a s) to replaced);
          replaced = subst (λ n. IsReplaced from to (drop n s) replaced) ends more;
        }
    found_begins s r a b found (before_character c none _ _ _) = absurd (omega (arith, some, none))
    found_begins s r a b found (at_end none) = absurd (omega (arith, some, none))

    pub found_step : (s : List ℕ) (a b : ℕ) → FindsText from s (Some (a, b)) → IsStep s (take a s ++ to) (drop b s)
    found_step s a b found = record {
      goes_on = λ r h. subst (IsReplaced from to s) (sym (append_assoc (take a s) to r)) (one_more found some h);
      comes_from = λ r h. found_begins s r a b found h;
    }

    pub left_over : (s r : List ℕ) → FindsText from s None → IsReplaced from to s r → r ≡ s
    left_over s r none (no_more _) = refl
    left_over s r none (one_more {start = i} {end = j} found _ _) = absurd (none i (within from s i j some found.1) (drop j s) found.1.split)
    left_over s r none (before_character c empty _ _ _) = absurd (omega (arith, some, empty))
    left_over s r none (at_end empty) = absurd (omega (arith, some, empty))

  -- ---- of an empty one

  module _ (empty : length from ≡ 0) where
    always_found : (s : List ℕ) → FindsText from s None → ⊥
    always_found s none = none 0 (omega arith) s (ap (λ t. t ++ s) (sym (nil_from_length from empty)))

    no_first : (c : ℕ) → IsFirstCharacter c [] → ⊥
    no_first c first = cc (sym (ap (λ cs. slice_get cs 0) chars-nil) ∙ first)

    character_begins : (s r rest : List ℕ) (c : ℕ) → IsFirstCharacter c s → s ≡ encode_utf8 c ++ rest → IsReplaced from to s r → IsBegun s rest (to ++ encode_utf8 c) r
    character_begins s r rest c first split (no_more none) = absurd (always_found s none)
    character_begins s r rest c first split (one_more _ some _) = absurd (omega (arith, some, empty))
    character_begins s r rest c first split (before_character {rest = others} {replaced = replaced} d _ other same more) =
        let is_c : d ≡ c = some_is d c (sym other ∙ first) in
        let is_rest : others ≡ rest = append_cancel_left (encode_utf8 c) others rest (sym (ap (λ x. encode_utf8 x ++ others) is_c) ∙ (sym same ∙ split)) in
        record {
          more = replaced;
          is = ap (λ x. to ++ (encode_utf8 x ++ replaced)) is_c ∙ sym (append_assoc to (encode_utf8 c) replaced);
          replaced = subst (λ t. IsReplaced from to t replaced) is_rest more;
        }
      where
        some_is : (x y : ℕ) → Some x ≡ Some y → x ≡ y
        some_is x y e = cc e
    character_begins s r rest c first split (at_end _) = absurd (no_first c first)

    pub character_step : (s rest : List ℕ) (c : ℕ) → IsFirstCharacter c s → s ≡ encode_utf8 c ++ rest → IsStep s (to ++ encode_utf8 c) rest
    character_step s rest c first split = record {
      goes_on = λ r h. subst (IsReplaced from to s) (sym (append_assoc to (encode_utf8 c) r)) (before_character c empty first split h);
      comes_from = λ r h. character_begins s r rest c first split h;
    }

    pub last_one : (s r : List ℕ) → length s ≡ 0 → IsReplaced from to s r → r ≡ to
    last_one s r none (no_more found) = absurd (always_found s found)
    last_one s r none (one_more _ some _) = absurd (omega (arith, some, empty))
    last_one s r none (before_character c _ first same _) = absurd (no_first c (subst (IsFirstCharacter c) (nil_from_length s none) first))
    last_one s r none (at_end _) = refl

-- ---- its length

-- what is pushed next is no longer than the whole replaced text
pub no_longer : (from to whole done s front rest r : List ℕ) → IsPartly from to whole done s → IsStep from to s front rest → IsReplaced from to whole r → length done + length front ≤ length r
no_longer from to whole done s front rest r h step k =
    let all = (next from to whole done s front rest h step).comes_from r k in
    let long : length r ≡ (length done + length front) + length all.more = ap length all.is ∙ (length-append (done ++ front) all.more ∙ ap (λ n. n + length all.more) (length-append done front)) in
    omega (arith, long)

-- the parts of what is pushed fit if the whole of it does
pub first_fits : (done a b : List ℕ) (n : ℕ) → length done + length (a ++ b) ≤ n → length done + length a ≤ n
first_fits done a b n h = omega (arith, h, length-append a b)

pub second_fits : (done a b grown : List ℕ) (n : ℕ) → length done + length (a ++ b) ≤ n → grown ≡ done ++ a → length grown + length b ≤ n
second_fits done a b grown n h is = omega (arith, h, length-append a b, ap length is, length-append done a)
