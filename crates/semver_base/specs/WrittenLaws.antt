-- The texts of numbers and qualifiers match the grammar, and what a text parses to has such a text.
use Rattle.std.proofs.Common.{◌≡◌, ◌<◌, ◌^◌, ℕ, zero, suc, true, List, [], ◌∷◌, ◌++◌, length, Option, Some, None, refl, sym, ap, subst, inl, inr, append-nil, slice_index, decimal}
use Rattle.std.specs.Char.{is_ascii_digit}
use Rattle.std.specs.List.{flat_map}
use Rattle.std.proofs.lemmas.Fmt.{decimal_digit, decimal_is_IsNumeral, first_decimal}
use native.Mathlib.Nat.{lt_irrefl, zero-lt-suc}
use Rattle.semver_base.specs.Grammar.{After, Followed, last_item, closed_item, more_items, Mapped, Optional, Prefixed}
use Rattle.semver_base.specs.Lexical.{IsBuild, IsIdentifier, IsIdentifiers, IsLooseNumber, IsNumber, IsPre, IsQualifier, or_none}
use Rattle.semver_base.specs.VersionGrammar.{AllNumbersFit, IsVersion}
use Rattle.semver_base.specs.VersionText.{AreIdentifiers, IsWritable, prefixed}
use Rattle.semver_base.specs.declared.lexical.values.Qualifier.{Qualifier}
use Rattle.semver_base.specs.declared.lexical.values.Strictness.{Strictness}
use Rattle.semver_base.specs.declared.lexical.values.Strictness.TheVariants.{Loose, Strict}
use Rattle.semver_base.specs.declared.version.Version.{Version}
use Rattle.semver_base.specs.TokenLaws.{own}

-- two texts, one after the other
pub follow : {V W : Type 0} {A : List ℕ → V → Type 0} {B : List ℕ → W → Type 0} (a b : List ℕ) {v : V} {w : W} → A a v → B b w → Followed A B (a ++ b) (v, w)
follow a b h k = record { first = a; second = b; text_is = refl; in_first = h; in_second = k; seam = tt }

pub after : {V W : Type 0} {A : List ℕ → V → Type 0} {B : List ℕ → W → Type 0} (a b : List ℕ) (v : V) {w : W} → A a v → B b w → After A B (a ++ b) w
after a b v {w} h k = record { value = (v, w); stands = follow a b h k; is = refl }

pub loose_written : (n : ℕ) → n < 2 ^ 64 → IsLooseNumber (decimal n) n
loose_written n fits =
    let numeral = decimal_is_IsNumeral n fits in
    record { value = decimal n; stands = record { some = numeral.0.0; pass = own.from (decimal n) numeral.0.1; is = refl }; is = sym numeral.1 }

no_leading_zero : (n : ℕ) → n < 2 ^ 64 → slice_index (decimal n) 0 ≡ 48 → length (decimal n) ≡ 1
no_leading_zero zero fits h = ap length (decimal_digit 0 (zero-lt-suc 9))
no_leading_zero (suc n) fits h = absurd (lt_irrefl 48 (rw h at (first_decimal (suc n) (zero-lt-suc n) fits)))

pub number_written : (s : Strictness) (n : ℕ) → n < 2 ^ 64 → IsNumber s (decimal n) n
number_written Loose n fits = loose_written n fits
number_written Strict n fits = record { digits = loose_written n fits; no_leading_zero = no_leading_zero n fits }

identifiers_written : (id : List ℕ) (ids : List (List ℕ)) → AreIdentifiers (id ∷ ids) → IsIdentifiers (id ++ flat_map (λ other. 46 ∷ other) ids) (id ∷ ids)
identifiers_written id [] h = rw append-nil (last_item h.0)
identifiers_written id (other ∷ ids) h = more_items h.0 refl (identifiers_written other ids h.1)

-- the identifiers, if there are any
abbrev some_ids : List (List ℕ) → Option (List (List ℕ))
some_ids [] = None
some_ids (id ∷ ids) = Some (id ∷ ids)

pre_written : (s : Strictness) (ids : List (List ℕ)) → AreIdentifiers ids → Optional (IsPre s) (prefixed 45 ids) (some_ids ids)
pre_written s [] h = refl
pre_written Loose (id ∷ ids) h = inl (refl, identifiers_written id ids h)
pre_written Strict (id ∷ ids) h = (refl, identifiers_written id ids h)

build_written : (ids : List (List ℕ)) → AreIdentifiers ids → Optional IsBuild (prefixed 43 ids) (some_ids ids)
build_written [] h = refl
build_written (id ∷ ids) h = (refl, identifiers_written id ids h)

back : (ids : List (List ℕ)) → ids ≡ or_none (some_ids ids)
back [] = refl
back (id ∷ ids) = refl

pub qualifier_written : (s : Strictness) (pre build : List (List ℕ)) → AreIdentifiers pre → AreIdentifiers build → IsQualifier s (prefixed 45 pre ++ prefixed 43 build) (record { pre = pre; build = build })
qualifier_written s pre build h k = record {
  value = (some_ids pre, some_ids build);
  stands = follow _ _ (pre_written s pre h) (build_written build k);
  is = let p = back pre in let b = back build in cc;
}

-- a printed qualifier doesn't begin with a digit
pub no_digit_written : (pre build : List (List ℕ)) → is_ascii_digit (slice_index (prefixed 45 pre ++ prefixed 43 build) 0) ≡ true → ⊥
no_digit_written [] [] h = cc h
no_digit_written [] (id ∷ ids) h = cc h
no_digit_written (id ∷ ids) build h = cc h

-- ---- what is true of the values of the inner rule

pub by_mapped : {V W : Type 0} {f : V → W} {A : List ℕ → V → Type 0} (P : W → Type 0) → ((t : List ℕ) (v : V) → A t v → P (f v)) → {text : List ℕ} {w : W} → Mapped f A text w → P w
by_mapped P inner m = subst P (sym m.is) (inner _ m.value m.stands)

pub by_after : {V W : Type 0} {A : List ℕ → V → Type 0} {B : List ℕ → W → Type 0} (P : W → Type 0) → ((t : List ℕ) (w : W) → B t w → P w) → {text : List ℕ} {w : W} → After A B text w → P w
by_after P inner m = subst P (sym m.is) (inner m.stands.second m.value.1 m.stands.in_second)

pub by_prefixed : {V : Type 0} (m : ℕ) (A : List ℕ → V → Type 0) (P : V → Type 0) → ((t : List ℕ) (v : V) → A t v → P v) → (text : List ℕ) (v : V) → Prefixed m A text v → P v
by_prefixed m A P inner [] v h = absurd h
by_prefixed m A P inner (b ∷ rest) v h = inner rest v h.1

identifier_itself : (text v : List ℕ) → IsIdentifier text v → IsIdentifier v v
identifier_itself text v h = subst (λ (t : List ℕ). IsIdentifier t t) (sym h.is) (record { some = h.some; pass = h.pass; is = refl })

identifiers_are : {text : List ℕ} {ids : List (List ℕ)} → IsIdentifiers text ids → AreIdentifiers ids
identifiers_are (last_item a) = (identifier_itself _ _ a, tt)
identifiers_are (closed_item a s) = (identifier_itself _ _ a, tt)
identifiers_are (more_items a s more) = (identifier_itself _ _ a, identifiers_are more)

pre_are : (s : Strictness) (text : List ℕ) (ids : List (List ℕ)) → IsPre s text ids → AreIdentifiers ids
pre_are Loose [] ids h = absurd h
pre_are Loose (b ∷ rest) ids (inl h) = identifiers_are h.1
pre_are Loose (b ∷ rest) ids (inr h) = identifiers_are h.1
pre_are Strict text ids h = by_prefixed 45 IsIdentifiers AreIdentifiers (λ t v k. identifiers_are k) text ids h

maybe_pre : (s : Strictness) (text : List ℕ) (o : Option (List (List ℕ))) → Optional (IsPre s) text o → AreIdentifiers (or_none o)
maybe_pre s text None h = tt
maybe_pre s text (Some ids) h = pre_are s text ids h

maybe_build : (text : List ℕ) (o : Option (List (List ℕ))) → Optional IsBuild text o → AreIdentifiers (or_none o)
maybe_build text None h = tt
maybe_build text (Some ids) h = by_prefixed 43 IsIdentifiers AreIdentifiers (λ t v k. identifiers_are k) text ids h

abbrev pub QualifierHas : Qualifier → Type 0
QualifierHas q = AreIdentifiers q.pre × AreIdentifiers q.build

pub qualifier_has : (s : Strictness) (text : List ℕ) (q : Qualifier) → IsQualifier s text q → QualifierHas q
qualifier_has s text q h = by_mapped QualifierHas (λ t v k. (maybe_pre s k.first v.0 k.in_first, maybe_build k.second v.1 k.in_second)) h

version_has : (text : List ℕ) (v : Version) → IsVersion text v → AreIdentifiers v.pre × AreIdentifiers v.build
version_has text v h = by_mapped (λ (w : Version). AreIdentifiers w.pre × AreIdentifiers w.build) (λ t x k. by_after (λ y. AreIdentifiers y.1.pre × AreIdentifiers y.1.build) (λ u y j. qualifier_has Loose j.second y.1 j.in_second) k) h

pub read_writable : (text : List ℕ) (v : Version) → IsVersion text v → AllNumbersFit v → IsWritable v
read_writable text v h fits = let identifiers = version_has text v h in record { numbers = fits; pre = identifiers.0; build = identifiers.1 }
