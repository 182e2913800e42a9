-- Leading pre-releases, builds and qualifiers.
use Rattle.std.proofs.Common.{◌≡◌, ◌≤◌, ℕ, List, [], ◌∷◌, ◌++◌, length, Option, Some, None, refl, ap, ◌∙◌, arith, inl, inr, Bor, unwrap_or}
use Rattle.semver_base.specs.Grammar.{IsLongest, IsSeen, HasNone, Optional, Reads, answer_of}
use Rattle.semver_base.specs.Lexical.{IsBuild, IsIdentifiers, IsLoosePre, IsPre, or_none}
use Rattle.semver_base.specs.declared.lexical.values.Strictness.{Strictness}
use Rattle.semver_base.specs.declared.lexical.values.Strictness.TheVariants.{Loose, Strict}
use Rattle.semver_base.specs.GrammarLaws.{NonEmpty, prefixed_none, prefixed_some, optional_none, optional_some}
use Rattle.semver_base.specs.TokenLaws.{identifiers_some}

-- ---- loose pre-releases

module _ {text rest : List ℕ} (e : text ≡ 45 ∷ rest) where
  loose_some_prefixed : (v : List (List ℕ)) (end : List ℕ) → IsLongest IsIdentifiers rest v end → IsLongest IsLoosePre text v end
  loose_some_prefixed v end p = record { front = 45 ∷ p.front; text_is = e ∙ ap (λ t. 45 ∷ t) p.text_is; stands = inl (refl, p.stands); longest = go }
    where
      go : (a b : List ℕ) (w : List (List ℕ)) → text ≡ a ++ b → IsLoosePre a w → (length a ≤ length (45 ∷ p.front)) × (length a ≡ length (45 ∷ p.front) → w ≡ v)
      go [] b w f h = absurd h
      go (x ∷ a) b w f h = elim h [
        | inl k ↦ let tail : rest ≡ a ++ b = cc in let best = p.longest a b w tail k.1 in (omega (arith, best.0), λ s. best.1 (omega arith))
        | inr k ↦ absurd (k.0 (cc))
      ]

  loose_none_prefixed : HasNone IsIdentifiers rest → HasNone IsLoosePre text
  loose_none_prefixed p = record { none = go }
    where
      go : (a b : List ℕ) (w : List (List ℕ)) → text ≡ a ++ b → IsLoosePre a w → ⊥
      go [] b w f h = h
      go (x ∷ a) b w f h = elim h [
        | inl k ↦ let tail : rest ≡ a ++ b = cc in p.none a b w tail k.1
        | inr k ↦ k.0 (cc)
      ]

  loose_prefixed : (r : Option (List (List ℕ) × List ℕ)) → Reads IsIdentifiers rest r → Reads IsLoosePre text r
  loose_prefixed None h = loose_none_prefixed h
  loose_prefixed (Some p) h = loose_some_prefixed p.0 p.1 h

module _ {text : List ℕ} (other : (rest : List ℕ) → text ≡ 45 ∷ rest → ⊥) where
  loose_from_identifiers : (a b : List ℕ) (v : List (List ℕ)) → text ≡ a ++ b → IsIdentifiers a v → IsLoosePre a v
  loose_from_identifiers [] b v e h = absurd (identifiers_some.some v h)
  loose_from_identifiers (x ∷ a) b v e h = inr (λ same. other (a ++ b) (e ∙ ap (λ y. y ∷ (a ++ b)) same), h)

  identifiers_from_loose : (a b : List ℕ) (v : List (List ℕ)) → text ≡ a ++ b → IsLoosePre a v → IsIdentifiers a v
  identifiers_from_loose [] b v e h = absurd h
  identifiers_from_loose (x ∷ a) b v e h = elim h [
    | inl k ↦ absurd (other (a ++ b) (e ∙ ap (λ y. y ∷ (a ++ b)) k.0))
    | inr k ↦ k.1
  ]

  loose_bare : (r : Option (List (List ℕ) × List ℕ)) → Reads IsIdentifiers text r → Reads IsLoosePre text r
  loose_bare None h = record { none = λ a b w e k. h.none a b w e (identifiers_from_loose a b w e k) }
  loose_bare (Some p) h = record {
    front = h.front;
    text_is = h.text_is;
    stands = loose_from_identifiers h.front p.1 p.0 h.text_is h.stands;
    longest = λ a b w e k. h.longest a b w e (identifiers_from_loose a b w e k);
  }

-- ---- what the parsers return

pub pre_prefixed : (s : Strictness) (text rest : List ℕ) (r : Option (List (List ℕ) × List ℕ)) → text ≡ 45 ∷ rest → Reads IsIdentifiers rest r → Reads (IsPre s) text r
pre_prefixed Loose text rest r e h = loose_prefixed e r h
pre_prefixed Strict text rest None e h = prefixed_none e h
pre_prefixed Strict text rest (Some p) e h = prefixed_some e h

pub pre_bare : (s : Strictness) (text : List ℕ) (r : Option (List (List ℕ) × List ℕ)) → ((rest : List ℕ) → text ≡ 45 ∷ rest → ⊥) → (s ≡ Strict → ⊥) → Reads IsIdentifiers text r → Reads (IsPre s) text r
pre_bare Loose text r other not h = loose_bare other r h
pre_bare Strict text r other not h = absurd (not refl)

pub build_prefixed : (text rest : List ℕ) (r : Option (List (List ℕ) × List ℕ)) → text ≡ 43 ∷ rest → Reads IsIdentifiers rest r → Reads IsBuild text r
build_prefixed text rest None e h = prefixed_none e h
build_prefixed text rest (Some p) e h = prefixed_some e h

-- ---- the bytes with which they begin and continue

-- what was parsed, or no identifiers and the text
pub optional_read : {A : List ℕ → List (List ℕ) → Type 0} (text : Bor (List ℕ)) (read : Option (List (List ℕ) × Bor (List ℕ))) (v : List (List ℕ) × Bor (List ℕ)) → NonEmpty A → Reads A text.now (answer_of read) → v ≡ unwrap_or read ([], text) → IsSeen or_none (Optional A) text.now v.0 v.1.now
optional_read text None v some none is = rw is (record { value = None; longest = optional_none none; seen = refl })
optional_read text (Some p) v some longest is = rw is (record { value = Some p.0; longest = optional_some some longest; seen = refl })

-- ---- a number and a qualifier
