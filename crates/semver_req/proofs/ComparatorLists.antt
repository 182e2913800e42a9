-- The comparators of an alternative as written: what was proved of lists of comparators, for lists that keep their texts.
use Rattle.std.proofs.Common.{◌≡◌, ◌∙◌, ◌-◌, ℕ, Bool, List, [], ◌∷◌, ◌++◌, length, take, refl, sym, ap, ap₂, arith, length-append}
use Rattle.std.proofs.lemmas.List.{take_at}
use Rattle.semver_base.specs.Comparators.{Comparator}
use Rattle.semver_base.specs.Grammar.{HasNone, IsLongest, Listed, closed_item, last_item, more_items, that, this}
use Rattle.semver_base.specs.GrammarLaws.{same_fronts}
use Rattle.semver_base.specs.Lexical.{IsWhitespace}
use Rattle.semver_base.specs.ListLaws.{IsListing}
use Rattle.semver_base.specs.ValueLaws.{Unambiguous, listed_one}
use Rattle.semver_req.specs.ComparatorLists.{AlternativesHaveOneListOfComparators, AreComparators, IsItem, of_hyphen, of_list, of_whitespace}
use Rattle.semver_req.specs.Comparators.{IsComparator}
use Rattle.semver_req.specs.PieceReading.{as_retained, joined, read_as}
use Rattle.semver_req.specs.Pieces.{IsComparators, IsCutting, IsHyphen, IsSeparator, normal, npm}
use Rattle.semver_req.specs.Written.{IsFront, comparator_of}
use Rattle.semver_req.specs.declared.common.comparator.Written.{Written}
use Rattle.semver_req.specs.declared.common.values.Flavour.{Flavour}
use Rattle.semver_req.specs.declared.common.values.Flavour.TheVariants.{Npm, Normal}
use Rattle.semver_req.specs.declared.range_set_or_tag.pieces.RangeOrInvalid.{RangeOrInvalid}
use Rattle.semver_req.proofs.ComparatorReadings.{comparator_one}
use Rattle.semver_req.proofs.GrammarFacts.{filled_no_whitespace, listing, no_both}
use Rattle.semver_req.proofs.PieceReadings.{hyphen_one}
use Rattle.semver_req.proofs.PiecesRead.{list_retained}

-- what a parser took of a text
pub taken : {V : Type 0} {R : List ℕ → V → Type 0} {text rest : List ℕ} {v : V} (p : IsLongest R text v rest) → take (length text - length rest) text ≡ p.front
taken {text = text} {rest = rest} p =
    let size : length text - length rest ≡ length p.front = omega (arith, ap length p.text_is, length-append p.front rest) in
    rw (size, p.text_is) (take_at p.front rest (length p.front) refl)

module _ (f : Flavour) where
  -- ---- one comparator

  pub item_none : {text : List ℕ} → HasNone (IsComparator f) text → HasNone (IsItem f) text
  item_none p = record { none = λ a b w e h. p.none a b h.comparator e h.stands }

  pub item_longest : {text rest : List ℕ} {c : Comparator} (p : IsLongest (IsComparator f) text c rest) → IsLongest (IsItem f) text (p.front, as_retained (c ∷ [])) rest
  item_longest {text} {rest} {c} p = record {
    front = p.front;
    text_is = p.text_is;
    stands = record { comparator = c; stands = p.stands; is = refl };
    longest = λ a b w e h.
        let best = p.longest a b h.comparator e h.stands in
        (best.0, λ s. h.is ∙ ap₂ (λ (t : List ℕ) (d : Comparator). (t, as_retained (d ∷ []))) (same_fronts a p.front b rest (sym e ∙ p.text_is) s).0 (best.1 s));
  }

  -- what is parsed of a comparator, and its text, are the item
  pub item_read : {text rest t : List ℕ} {written : Written} {parsed : RangeOrInvalid} (front : IsFront (IsComparator f) text written rest)
      → parsed ≡ joined (comparator_of written.operator front.partial ∷ []) → t ≡ take (length text - length rest) text → IsLongest (IsItem f) text (t, parsed) rest
  item_read {t = t} {written = written} {parsed = parsed} front read cut =
      let cs = comparator_of written.operator front.partial ∷ [] in
      let whole : IsComparators f front.longest.front cs = last_item front.longest.stands in
      let alone : parsed ≡ as_retained cs = read ∙ ap (read_as cs) (sym (list_retained f whole)) in
      let text_is : t ≡ front.longest.front = cut ∙ taken front.longest in
      rw (alone, text_is) (item_longest front.longest)

  item_one : Unambiguous (IsItem f)
  item_one = record { one = λ text v w h k. h.is ∙ (ap (λ (d : Comparator). (text, as_retained (d ∷ []))) ((comparator_one f).one text h.comparator k.comparator h.stands k.stands) ∙ sym k.is) }

  -- ---- lists

  pub listing_items : {p q s t : ℕ → Bool} → IsListing (IsComparator f) (IsSeparator f) p q s t → IsListing (IsItem f) (IsSeparator f) p q s t
  listing_items all = record {
    item_some = record { some = λ v h. all.item_some.some h.comparator h.stands };
    separator_some = all.separator_some;
    item_begins = record { begins = λ x b. all.item_begins.begins x (record { more = b.more; value = b.stands.comparator; stands = b.stands.stands }) };
    item_goes = record { goes = λ x g. all.item_goes.goes x (record { front = g.front; more = g.more; short_value = g.short.comparator; long_value = g.long.comparator; short = g.short.stands; long = g.long.stands }) };
    separator_begins = all.separator_begins;
    separator_goes = all.separator_goes;
    after_item = all.after_item;
    after_separator = all.after_separator;
  }

  without_texts : {text : List ℕ} {items : List (List ℕ × RangeOrInvalid)} → Listed (IsItem f) (IsSeparator f) text items → (cs : List Comparator) × IsComparators f text cs
  without_texts (last_item h) = (h.comparator ∷ [], last_item h.stands)
  without_texts (closed_item h s) = (h.comparator ∷ [], closed_item h.stands s)
  without_texts (more_items h s more) = let rest = without_texts more in (h.comparator ∷ rest.0, more_items h.stands s rest.1)

-- ---- one list

no_whitespace : {T : Type 0} (f : Flavour) (text : List ℕ) (items : List (List ℕ × RangeOrInvalid)) → IsCutting f → IsWhitespace text tt → Listed (IsItem f) (IsSeparator f) text items → T
no_whitespace f text items npm h k = let list = without_texts Npm k in absurd ((filled_no_whitespace Npm).both text list.0 tt (that list.1) h)
no_whitespace f text items normal h k = let list = without_texts Normal k in absurd ((filled_no_whitespace Normal).both text list.0 tt list.1 h)

no_pair : {T : Type 0} (f : Flavour) (text : List ℕ) (items : List (List ℕ × RangeOrInvalid)) (cs : List Comparator) → f ≡ Npm → IsHyphen text cs → Listed (IsItem f) (IsSeparator f) text items → T
no_pair f text items cs is h k = let list = without_texts Npm (rw is at k) in absurd (no_both.both text cs list.0 h list.1)

-- what is none of the three has no comparators
pub none_listed : {f : Flavour} {text : List ℕ} → (IsCutting f → IsWhitespace text tt → ⊥) → ((cs : List Comparator) → f ≡ Npm → IsHyphen text cs → ⊥)
    → ((items : List (List ℕ × RangeOrInvalid)) → Listed (IsItem f) (IsSeparator f) text items → ⊥) → (items : List (List ℕ × RangeOrInvalid)) → AreComparators f text items → ⊥
none_listed space pair list items (of_whitespace i h) = space i h
none_listed space pair list items (of_hyphen {cs} is h) = pair cs is h
none_listed space pair list items (of_list h) = list items h

pub one_list : AlternativesHaveOneListOfComparators
one_list f text items others (of_whitespace i h) (of_whitespace j k) = refl
one_list f text items others (of_whitespace i h) (of_hyphen {cs} is k) = absurd ((filled_no_whitespace Npm).both text cs tt (this k) h)
one_list f text items others (of_whitespace i h) (of_list k) = no_whitespace f text others i h k
one_list f text items others (of_hyphen {cs} is h) (of_whitespace i k) = absurd ((filled_no_whitespace Npm).both text cs tt (this h) k)
one_list f text items others (of_hyphen {cs} is h) (of_hyphen {cs = ds} also k) = ap (λ (cs : List Comparator). (text, as_retained cs) ∷ []) (hyphen_one.one text cs ds h k)
one_list f text items others (of_hyphen {cs} is h) (of_list k) = no_pair f text others cs is h k
one_list f text items others (of_list h) (of_whitespace i k) = no_whitespace f text items i k h
one_list f text items others (of_list h) (of_hyphen {cs} is k) = no_pair f text items cs is k h
one_list f text items others (of_list h) (of_list k) = (listed_one (listing_items f (listing f)) (item_one f)).one text items others h k
