-- Whatever follows two sort keys, their versions decide how the bytes compare, and then what follows.
use Rattle.std.proofs.Common.{◌≡◌, ◌<◌, ◌+◌, ◌*◌, ◌^◌, ℕ, true, List, [], ◌∷◌, ◌++◌, length, refl, sym, ap, ◌∙◌, arith, append_assoc, append-nil, decimal, Option, Some, None, Ordering, Less, Equal, Greater, is_some, unwrap_or, if◌then◌else◌, inl, inr}
use Rattle.std.proofs.Math.Dec.{eqb-suc-zero}
use Rattle.std.proofs.lemmas.Bool.{and_parts, cases_lt}
use Rattle.std.proofs.lemmas.Bool.Decides.{nat_tests}
use Rattle.std.proofs.lemmas.Cmp.{ranked, tied_itself}
use Rattle.std.proofs.lemmas.Fmt.{decimal_is_IsNumeral, decimal_nonempty, length-decimal-le}
use Rattle.std.proofs.lemmas.Int.Digits.{digits_value-lt}
use Rattle.std.proofs.lemmas.Str.{digit_value_digit}
use Rattle.std.proofs.lemmas.Str.Parse.{digit_from_value}
use Rattle.std.specs.Char.{digit_value}
use Rattle.std.specs.Cmp.{nat_cmp_is}
use Rattle.std.specs.Cmp.Derive.{then_next}
use Rattle.std.specs.Cmp.Lexicographic.{nat_list_cmp_total, slice_cmp}
use Rattle.std.specs.List.{list_all}
use Rattle.std.specs.Ordering.{nat_cmp, ordering_then, MatchOrdering}
use Rattle.std.specs.Str.Parse.{AllDigits, digits_value, digits_value_after}
use Rattle.semver_base.specs.Lexical.{is_identifier_byte}
use Rattle.semver_base.specs.LowestVersion.{IsReadable}
use Rattle.semver_base.specs.Precedence.{identifier_cmp, number_of, pre_cmp, precedence_cmp}
use Rattle.semver_base.specs.PrecedenceLaws.{then_second}
use Rattle.semver_base.specs.SortKey.{NoSortKeyBeginsAnother, SortKeysFollowPrecedence, exclamation_mark, identifier_key, identifier_key_of, identifiers_key, number_key, pre_key, sort_key}
use Rattle.semver_base.specs.VersionText.{AreIdentifiers}
use Rattle.semver_base.specs.declared.version.Version.{Version}
use Rattle.semver_base.proofs.SortKeyBytes.{number_fits}

abbrev bytes_cmp : List ℕ → List ℕ → Ordering
bytes_cmp = slice_cmp nat_cmp

-- whatever follows two keys, the ordering decides, and then what follows
pub record AreDecided (k l : List ℕ) (r : Ordering) : Type 0 where
  pub before : (x y : List ℕ) → bytes_cmp (k ++ x) (l ++ y) ≡ ordering_then r (bytes_cmp x y)

-- two keys, one after the other
pub joined : {k l m n : List ℕ} {r s : Ordering} → AreDecided k l r → AreDecided m n s → AreDecided (k ++ m) (l ++ n) (ordering_then r s)
joined {k} {l} {m} {n} {r} {s} c d =
    record { before = λ x y. then_next r s (bytes_cmp x y) refl (rw (append_assoc k m x, append_assoc l n y, c.before (m ++ x) (n ++ y), d.before x y) refl) }

-- nothing follows
alone : {k l : List ℕ} {r : Ordering} → AreDecided k l r → bytes_cmp k l ≡ r
alone {k} {l} {r} c = rw (append-nil k, append-nil l) at (c.before [] []) ∙ tied r
  where
    tied : (r : Ordering) → ordering_then r Equal ≡ r
    tied Less = refl
    tied Equal = refl
    tied Greater = refl

-- neither key begins the other
apart : {k l : List ℕ} {r : Ordering} (rest : List ℕ) → AreDecided k l r → k ++ rest ≡ l → rest ≡ []
apart {k} {l} {r} rest c is =
    let tied : bytes_cmp (k ++ rest) (l ++ []) ≡ Equal = rw (append-nil l, is) (tied_itself nat_list_cmp_total l) in
    nothing rest (then_second r (bytes_cmp rest []) (sym (c.before rest []) ∙ tied))
  where
    nothing : (x : List ℕ) → bytes_cmp x [] ≡ Equal → x ≡ []
    nothing [] e = refl
    nothing (b ∷ x) e = cc e

-- ---- numbers

-- one more digit at each end
step : (m n c d v w : ℕ) → v + 48 ≡ c → w + 48 ≡ d → v < 10 → w < 10 → nat_cmp (m * 10 + v) (n * 10 + w) ≡ ordering_then (nat_cmp m n) (nat_cmp c d)
step m n c d v w e f small little = sym (go (nat_cmp m n) (nat_cmp c d) (ranked m n (nat_cmp m n) refl) (ranked c d (nat_cmp c d) refl))
  where
    go : (r s : Ordering) → MatchOrdering r (m < n) (m ≡ n) (n < m) → MatchOrdering s (c < d) (c ≡ d) (d < c) → ordering_then r s ≡ nat_cmp (m * 10 + v) (n * 10 + w)
    go Less s h k = nat_cmp_is (m * 10 + v) (n * 10 + w) Less (omega (arith, h, small, little))
    go Equal Less h k = nat_cmp_is (m * 10 + v) (n * 10 + w) Less (omega (arith, h, k, e, f))
    go Equal Equal h k = nat_cmp_is (m * 10 + v) (n * 10 + w) Equal (omega (arith, h, k, e, f))
    go Equal Greater h k = nat_cmp_is (m * 10 + v) (n * 10 + w) Greater (omega (arith, h, k, e, f))
    go Greater s h k = nat_cmp_is (m * 10 + v) (n * 10 + w) Greater (omega (arith, h, small, little))

-- as many digits on each side compare as what they write, after the numbers before them
digits : (m n : ℕ) (cs ds x y : List ℕ) → AllDigits 10 cs → AllDigits 10 ds → length cs ≡ length ds
    → ordering_then (nat_cmp m n) (bytes_cmp (cs ++ x) (ds ++ y)) ≡ ordering_then (nat_cmp (digits_value_after 10 m cs) (digits_value_after 10 n ds)) (bytes_cmp x y)
digits m n [] [] x y p q e = refl
digits m n [] (d ∷ ds) x y p q e = absurd (omega (arith, e))
digits m n (c ∷ cs) [] x y p q e = absurd (omega (arith, e))
digits m n (c ∷ cs) (d ∷ ds) x y p q e =
    let left = digit_value_digit c (digit_from_value c p.0) in
    let right = digit_value_digit d (digit_from_value d q.0) in
    then_next (nat_cmp m n) (nat_cmp c d) (bytes_cmp (cs ++ x) (ds ++ y)) (step m n c d (digit_value c) (digit_value d) left right p.0 q.0) refl
    ∙ digits (m * 10 + digit_value c) (n * 10 + digit_value d) cs ds x y p.1 q.1 (omega (arith, e))

-- fewer digits, a smaller number
shorter : (a b : ℕ) → a < 2 ^ 64 → b < 2 ^ 64 → length (decimal a) < length (decimal b) → a < b
shorter a b h g less = elim (cases_lt a b) [
  | inl below ↦ below
  | inr above ↦
      let numeral = decimal_is_IsNumeral a h in
      let under : digits_value 10 (decimal a) < 10 ^ length (decimal a) = digits_value-lt 10 (decimal a) numeral.0.1 in
      absurd (omega (arith, less, length-decimal-le (length (decimal a)) b (decimal_nonempty a h) (omega (arith, under, numeral.1, above)) g))
]

pub number : (a b : ℕ) → a < 2 ^ 64 → b < 2 ^ 64 → AreDecided (number_key a) (number_key b) (nat_cmp a b)
number a b h g = record { before = λ x y. go x y (nat_cmp (64 + length (decimal a)) (64 + length (decimal b))) (ranked (64 + length (decimal a)) (64 + length (decimal b)) _ refl) }
  where
    go : (x y : List ℕ) (r : Ordering) → MatchOrdering r (64 + length (decimal a) < 64 + length (decimal b)) (64 + length (decimal a) ≡ 64 + length (decimal b)) (64 + length (decimal b) < 64 + length (decimal a))
        → ordering_then r (bytes_cmp (decimal a ++ x) (decimal b ++ y)) ≡ ordering_then (nat_cmp a b) (bytes_cmp x y)
    go x y Less k = rw (← nat_cmp_is a b Less (shorter a b h g (omega (arith, k)))) refl
    go x y Equal k =
        let left = decimal_is_IsNumeral a h in
        let right = decimal_is_IsNumeral b g in
        rw (left.1, right.1) at (digits 0 0 (decimal a) (decimal b) x y left.0.1 right.0.1 (omega (arith, k)))
    go x y Greater k = rw (← nat_cmp_is a b Greater (shorter b a g h (omega (arith, k)))) refl

-- ---- identifiers

above : (b : ℕ) → is_identifier_byte b ≡ true → exclamation_mark < b
above b h = grind (arith, nat_tests)

text : (s t : List ℕ) → list_all is_identifier_byte s ≡ true → list_all is_identifier_byte t ≡ true → AreDecided (s ++ (exclamation_mark ∷ [])) (t ++ (exclamation_mark ∷ [])) (bytes_cmp s t)
text [] [] h g = record { before = λ x y. refl }
text [] (b ∷ t) h g = record { before = λ x y. rw (← nat_cmp_is 33 b Less (above b (and_parts (is_identifier_byte b) _ g).0)) refl }
text (a ∷ s) [] h g = record { before = λ x y. rw (← nat_cmp_is a 33 Greater (above a (and_parts (is_identifier_byte a) _ h).0)) refl }
text (a ∷ s) (b ∷ t) h g =
    let others = text s t (and_parts (is_identifier_byte a) _ h).1 (and_parts (is_identifier_byte b) _ g).1 in
    record { before = λ x y. then_next (nat_cmp a b) (bytes_cmp s t) (bytes_cmp x y) refl (ap (ordering_then (nat_cmp a b)) (others.before x y)) }

identifier : (s t : List ℕ) → list_all is_identifier_byte s ≡ true → list_all is_identifier_byte t ≡ true → AreDecided (identifier_key s) (identifier_key t) (identifier_cmp s t)
identifier s t h g = go (number_of s) (number_of t) refl refl
  where
    go : (p q : Option ℕ) → number_of s ≡ p → number_of t ≡ q → AreDecided (identifier_key_of p s) (identifier_key_of q t)
        (ordering_then (nat_cmp (if is_some p then 0 else 1) (if is_some q then 0 else 1)) (ordering_then (nat_cmp (unwrap_or p 0) (unwrap_or q 0)) (bytes_cmp s t)))
    go None None e f = record { before = (text s t h g).before }
    go None (Some n) e f = record { before = λ x y. refl }
    go (Some m) None e f = record { before = λ x y. refl }
    go (Some m) (Some n) e f = record { before = (joined (number m n (number_fits s m e).0 (number_fits t n f).0) (text s t h g)).before }

-- ---- pre-releases

-- the end of a list is below an identifier
ends_below : (n : Option ℕ) (t more x y : List ℕ) → bytes_cmp (exclamation_mark ∷ x) ((identifier_key_of n t ++ more) ++ y) ≡ Less
ends_below None t more x y = refl
ends_below (Some n) t more x y = refl

ends_above : (n : Option ℕ) (t more x y : List ℕ) → bytes_cmp ((identifier_key_of n t ++ more) ++ x) (exclamation_mark ∷ y) ≡ Greater
ends_above None t more x y = refl
ends_above (Some n) t more x y = refl

identifiers : (p q : List (List ℕ)) → AreIdentifiers p → AreIdentifiers q → AreDecided (identifiers_key p) (identifiers_key q) (slice_cmp identifier_cmp p q)
identifiers [] [] h g = record { before = λ x y. refl }
identifiers [] (t ∷ q) h g = record { before = λ x y. ends_below (number_of t) t (identifiers_key q) x y }
identifiers (s ∷ p) [] h g = record { before = λ x y. ends_above (number_of s) s (identifiers_key p) x y }
identifiers (s ∷ p) (t ∷ q) h g = joined (identifier s t h.0.pass g.0.pass) (identifiers p q h.1 g.1)

pre : (p q : List (List ℕ)) → AreIdentifiers p → AreIdentifiers q → AreDecided (pre_key p) (pre_key q) (pre_cmp p q)
pre [] [] h g = record { before = λ x y. refl }
pre [] (t ∷ q) h g = record { before = λ x y. rw (eqb-suc-zero (length q)) refl }
pre (s ∷ p) [] h g = record { before = λ x y. rw (eqb-suc-zero (length p)) refl }
pre (s ∷ p) (t ∷ q) h g = record { before = λ x y. rw (eqb-suc-zero (length p), eqb-suc-zero (length q)) ((identifiers (s ∷ p) (t ∷ q) h g).before x y) }

-- ---- versions

pub version : (v w : Version) → IsReadable v → IsReadable w → AreDecided (sort_key v) (sort_key w) (precedence_cmp v w)
version v w h g =
    joined (number v.major w.major h.numbers.major g.numbers.major)
    (joined (number v.minor w.minor h.numbers.minor g.numbers.minor)
    (joined (number v.patch w.patch h.numbers.patch g.numbers.patch) (pre v.pre w.pre h.pre g.pre)))

pub keys_ordered : SortKeysFollowPrecedence
keys_ordered v w h g = alone (version v w h g)

pub keys_apart : NoSortKeyBeginsAnother
keys_apart v w rest h g is = apart rest (version v w h g) is
