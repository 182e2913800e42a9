-- Comparators with a separator behind each: with them in front of it, a text is a list where it is one alone.
use Rattle.std.proofs.Common.{◌≡◌, ◌↔◌, ◌⊎◌, ◌==◌, ◌≤◌, ◌<◌, ◌-◌, ℕ, zero, suc, Bool, true, false, Option, Some, None, MatchOption, Bor, List, [], ◌∷◌, ◌++◌, take, drop, length, refl, sym, ap, subst, ◌∙◌, inl, inr, arith, append_assoc, append-nil, length-append, drop_at, codes, IsTrue, IsCharBoundary, IsUtf8}
use Rattle.std.specs.Char.{is_not_whitespace}
use Rattle.std.specs.List.{list_all}
use Rattle.std.proofs.lemmas.Bool.{and_parts, both_ways, cases_Bool}
use Rattle.std.proofs.lemmas.Bool.Decides.{nat_tests}
use Rattle.std.proofs.lemmas.List.{take_at}
use Rattle.std.proofs.lemmas.Str.{IsCharBoundary-from_drop, IsUtf8-nil, NoCharPasses-nil}
use Rattle.semver_base.specs.ByteLaws.{list_all_there}
use Rattle.semver_base.specs.Characters.{bar}
use Rattle.semver_base.specs.Comparators.{Comparator}
use Rattle.semver_base.specs.Grammar.{Listed, last_item, closed_item, more_items, Reads, rest_answer, this, that}
use Rattle.semver_base.specs.GrammarLaws.{Begins, NonEmpty, fronts, same, shorter, longer}
use Rattle.semver_base.specs.Lexical.{IsWhitespace}
use Rattle.semver_base.specs.ListLaws.{IsListing, listed_begins}
use Rattle.semver_base.specs.SolidLaws.{some_text}
use Rattle.semver_base.specs.ValueLaws.{Unambiguous, listed_one}
use Rattle.semver_base.specs.declared.failure.Rejection.{Rejection}
use Rattle.semver_base.specs.declared.failure.Rejection.TheVariants.{BoundTooLarge, NumberTooLarge}
use Rattle.semver_base.specs.declared.range.VersionRange.{VersionRange}
use Rattle.semver_req.specs.Comparators.{IsComparator}
use Rattle.semver_req.specs.Fronts.{AreBars, HasList, IsBehind, IsFrontAt, IsFrontOfLists, IsItemBefore, IsListedAt, Leads, StandsBehind}
use Rattle.semver_req.specs.Partials.{strictness_of}
use Rattle.semver_req.specs.PieceReading.{numbers_fit, sums_fit}
use Rattle.semver_req.specs.PieceSteps.{IsWholeRead}
use Rattle.semver_req.specs.Pieces.{IsComparators, IsCutting, IsFilled, IsHyphen, IsSeparator, npm, normal}
use Rattle.semver_req.specs.Sizes.{Sized, admits, is_in_grammar}
use Rattle.semver_req.specs.Viable.{HasPiece, IsAnyPiece, IsPieceOrCut, alone, IsTextOf, IsViablePrefix}
use Rattle.semver_req.specs.Written.{IsFront, comparator_of}
use Rattle.semver_req.specs.declared.common.comparator.Written.{Written}
use Rattle.semver_req.specs.declared.common.values.Flavour.{Flavour}
use Rattle.semver_req.specs.declared.common.values.Flavour.TheVariants.{Npm, Normal, Specifier}
use Rattle.semver_req.specs.declared.error_places.Grammar.{Grammar}
use Rattle.semver_req.specs.declared.error_places.Grammar.TheVariants.{Ranges, Versions}
use Rattle.semver_req.specs.declared.error_places.Sizes.{Sizes}
use Rattle.semver_req.specs.declared.error_places.Sizes.TheVariants.{Any, Fitting}
use Rattle.semver_req.specs.declared.range_set_or_tag.pieces.RangeOrInvalid.TheVariants as read
use Rattle.semver_req.proofs.ComparatorReadings.{comparator_one}
use Rattle.semver_req.proofs.Endings.{ascii_text}
use Rattle.semver_req.proofs.GrammarFacts.{listing, no_second, starts, whitespace_filled}
use Rattle.semver_req.proofs.GrammarTexts.{InComparator, are_numbers, comparator_described, filled_piece}
use Rattle.semver_req.proofs.Grammars as rule
use Rattle.semver_req.proofs.RuleTexts.{EndsBy, ends_by}
use Rattle.semver_req.proofs.Rules.{has}
use Rattle.semver_req.proofs.Symbols.{begun, ends_one}
use Rattle.semver_req.proofs.VersionTexts.{empty_viable}
use Rattle.semver_req.proofs.ViableParts.{AreOf, NumberIs, admitted, sized, sizes_are, two_parts, unsized, up_to, with_viable}

-- ---- lists of any grammar

begins_there : {V : Type 0} {R : List ℕ → V → Type 0} → NonEmpty R → (z w r : List ℕ) (x : ℕ) (v : V) → R z v → z ++ w ≡ x ∷ r → Begins R x
begins_there never [] w r x v h e = absurd (never.some v h)
begins_there never (y ∷ z) w r x v h e = let same_byte : y ≡ x = cc in record { more = z; value = v; stands = rw same_byte at h }

-- the list behind its first item
pub record IsRest {V : Type 0} (A : List ℕ → V → Type 0) (S : List ℕ → Unit {0} → Type 0) (v : V) (text : List ℕ) (vs : List V) : Type 0 where
  pub others : List V
  pub is : vs ≡ v ∷ others
  pub stands : Listed A S text others

module _ {V : Type 0} {A : List ℕ → V → Type 0} {S : List ℕ → Unit {0} → Type 0} {p q s t : ℕ → Bool} (is : IsListing A S p q s t) (one : Unambiguous A) where
  -- no item goes on with a byte with which separators begin, nor a separator with one with which items begin
  item_ends : {T : Type 0} (a more z w r : List ℕ) (x : ℕ) (v u : V) → A a v → A (a ++ (x ∷ more)) u → S z tt → z ++ w ≡ x ∷ r → T
  item_ends a more z w r x v u h k l e = absurd (is.after_item x (is.item_goes.goes x (record { front = a; more = more; short_value = v; long_value = u; short = h; long = k })) (is.separator_begins.begins x (begins_there is.separator_some z w r x tt l e)))

  separator_ends : {T : Type 0} (z more : List ℕ) (x : ℕ) → S z tt → S (z ++ (x ∷ more)) tt → p x ≡ true → T
  separator_ends z more x h k b = absurd (is.after_separator x (is.separator_goes.goes x (record { front = z; more = more; short_value = tt; long_value = tt; short = h; long = k })) b)

  item_then : {T : Type 0} (a z w : List ℕ) (v u : V) → A a v → A (a ++ (z ++ w)) u → S z tt → T
  item_then a [] w v u h k l = absurd (is.separator_some.some tt l)
  item_then a (x ∷ z) w v u h k l = item_ends a (z ++ w) (x ∷ z) w (z ++ w) x v u h k l refl

  -- the list that begins with this item and this separator, where the rest begins as an item does
  pub behind_item : (a z more : List ℕ) (x : ℕ) (v : V) (text : List ℕ) (vs : List V) → A a v → S z tt → p x ≡ true → text ≡ a ++ (z ++ (x ∷ more)) → Listed A S text vs → IsRest A S v (x ∷ more) vs
  behind_item a z more x v text vs h k b e (last_item {v = w} l) = item_then a z (x ∷ more) v w h (rw e at l) k
  behind_item a z more x v text vs h k b e (closed_item {a = c} {s = y} {v = w} l m) = elim (fronts c a y (z ++ (x ∷ more)) e) [
    | same i j ↦ separator_ends z more x k (rw j at m) b
    | shorter g r i j ↦ item_ends c r y [] (r ++ (z ++ (x ∷ more))) g w v l (rw i at h) m (append-nil y ∙ j)
    | longer g r i j ↦ item_ends a r z (x ∷ more) (r ++ y) g v w h (rw i at l) k j
  ]
  behind_item a z more x v text vs h k b e (more_items {a = c} {s = y} {b = d} {v = w} {vs = us} l m n) = elim (fronts c a (y ++ d) (z ++ (x ∷ more)) e) [
    | same i j ↦ elim (fronts y z d (x ∷ more) j) [
      | same i2 j2 ↦ record { others = us; is = ap (λ c. c ∷ us) (one.one a w v (rw i at l) h); stands = rw j2 at n }
      | shorter g r i2 j2 ↦ separator_ends y r g m (rw i2 at k) ((listed_begins is.item_some is.item_begins).begins g (record { more = r ++ (x ∷ more); value = us; stands = rw j2 at n }))
      | longer g r i2 j2 ↦ let same_byte : x ≡ g = cc in separator_ends z r g k (rw i2 at m) (rw same_byte at b)
    ]
    | shorter g r i j ↦ item_ends c r y d (r ++ (z ++ (x ∷ more))) g w v l (rw i at h) m j
    | longer g r i j ↦ item_ends a r z (x ∷ more) (r ++ (y ++ d)) g v w h (rw i at l) k j
  ]

-- ---- fronts of comparators

leads_on : (f : Flavour) (text more : List ℕ) → Leads f text → Leads f (text ++ more)
leads_on f [] more h = absurd h
leads_on f (x ∷ text) more h = h

leads_there : (f : Flavour) (a more : List ℕ) (c : Comparator) → IsComparator f a c → Leads f (a ++ more)
leads_there f [] more c h = absurd ((listing f).item_some.some c h)
leads_there f (x ∷ a) more c h = record { more = a; value = c; stands = h }

-- lists stay lists behind the front, and nothing else becomes one
record IsChain (f : Flavour) (sizes : Sizes) (front : List ℕ) : Type 0 where
  lists : (text : List ℕ) → Leads f text → HasList f sizes text ↔ HasList f sizes (front ++ text)

module _ (f : Flavour) (sizes : Sizes) where
  no_chain : IsChain f sizes []
  no_chain = record { lists = λ text l. (λ h. h, λ h. h) }

  module _ {text rest : List ℕ} (it : IsItemBefore f sizes text rest) where
    with_item : (more : List ℕ) → Leads f more → HasList f sizes more ↔ HasList f sizes (it.item ++ (it.separator ++ more))
    with_item [] l = absurd l
    with_item (x ∷ more) l = (forward, backward)
      where
        own : AreOf sizes (it.value ∷ [])
        own = (unsized (IsComparators f) (it.value ∷ []) sizes it.sized).1

        forward : HasList f sizes (x ∷ more) → HasList f sizes (it.item ++ (it.separator ++ (x ∷ more)))
        forward (cs, h) = let k = unsized (IsComparators f) cs sizes h in (it.value ∷ cs, sized (IsComparators f) (it.value ∷ cs) sizes (more_items it.is_item it.is_separator k.0) (own.0, k.1))

        backward : HasList f sizes (it.item ++ (it.separator ++ (x ∷ more))) → HasList f sizes (x ∷ more)
        backward (cs, h) =
            let k = unsized (IsComparators f) cs sizes h in
            let r = behind_item (listing f) (comparator_one f) it.item it.separator more x it.value (it.item ++ (it.separator ++ (x ∷ more))) cs it.is_item it.is_separator ((listing f).item_begins.begins x l) refl k.0 in
            (r.others, sized (IsComparators f) r.others sizes r.stands (subst (AreOf sizes) r.is k.1).1)

    chain_on : {front : List ℕ} → IsChain f sizes front → IsChain f sizes (front ++ (it.item ++ it.separator))
    chain_on {front} chain = record {
      lists = λ more l.
          let inner = with_item more l in
          let outer = chain.lists (it.item ++ (it.separator ++ more)) (leads_there f it.item (it.separator ++ more) it.value it.is_item) in
          let whole : (front ++ (it.item ++ it.separator)) ++ more ≡ front ++ (it.item ++ (it.separator ++ more)) = append_assoc front (it.item ++ it.separator) more ∙ ap (λ t. front ++ t) (append_assoc it.item it.separator more) in
          rw whole (λ h. outer.0 (inner.0 h), λ h. inner.1 (outer.1 h));
    }

-- a front that begins with two comparators
pub record IsLong (f : Flavour) (sizes : Sizes) (front : List ℕ) : Type 0 where
  chain : IsChain f sizes front
  leads : Leads f front
  no_hyphen : (text : List ℕ) (cs : List Comparator) → f ≡ Npm → IsHyphen (front ++ text) cs → ⊥

module _ (f : Flavour) (sizes : Sizes) where
  pub two_items : {text second third : List ℕ} (a : IsItemBefore f sizes text second) (b : IsItemBefore f sizes second third) → IsLong f sizes ((a.item ++ a.separator) ++ (b.item ++ b.separator))
  two_items a b = record {
    chain = chain_on f sizes b (chain_on f sizes a (no_chain f sizes));
    leads = leads_on f (a.item ++ a.separator) (b.item ++ b.separator) (leads_there f a.item a.separator a.value a.is_item);
    no_hyphen = λ more cs e h.
        let whole : ((a.item ++ a.separator) ++ (b.item ++ b.separator)) ++ more ≡ a.item ++ (a.separator ++ (b.item ++ (b.separator ++ more))) = append_assoc (a.item ++ a.separator) (b.item ++ b.separator) more ∙ (append_assoc a.item a.separator ((b.item ++ b.separator) ++ more) ∙ ap (λ t. a.item ++ (a.separator ++ t)) (append_assoc b.item b.separator more)) in
        no_second a.item a.separator b.item (b.separator ++ more) a.value b.value cs (rw whole at h) (rw e at a.is_item) (rw e at a.is_separator) (rw e at b.is_item);
  }

  pub longer_by : {front text rest : List ℕ} → IsLong f sizes front → (it : IsItemBefore f sizes text rest) → IsLong f sizes (front ++ (it.item ++ it.separator))
  longer_by {front} long it = record {
    chain = chain_on f sizes it long.chain;
    leads = leads_on f front (it.item ++ it.separator) long.leads;
    no_hyphen = λ more cs e h. long.no_hyphen ((it.item ++ it.separator) ++ more) cs e (rw (append_assoc front (it.item ++ it.separator) more) at h);
  }

  list_filled : IsCutting f → (text : List ℕ) (cs : List Comparator) → IsComparators f text cs → IsFilled f text cs
  list_filled cuts = go f cuts
    where
      go : (g : Flavour) → IsCutting g → (text : List ℕ) (cs : List Comparator) → IsComparators g text cs → IsFilled g text cs
      go Npm npm text cs h = that h
      go Normal normal text cs h = h
      go Specifier cuts text cs h = elim cuts [ ]

  -- what begins as comparators do isn't whitespace
  no_whitespace : IsCutting f → (text : List ℕ) → Leads f text → IsWhitespace text tt → ⊥
  no_whitespace cuts [] l h = l
  no_whitespace cuts (x ∷ text) l h =
      let begun_there = begins_filled l in
      (whitespace_filled f cuts).apart x (record { front = []; more = text; short_value = tt; long_value = tt; short = NoCharPasses-nil is_not_whitespace; long = h }) begun_there
    where
      begins_filled : Begins (IsComparator f) x → Begins (IsFilled f) x
      begins_filled b = record { more = b.more; value = b.value ∷ []; stands = list_filled cuts (x ∷ b.more) (b.value ∷ []) (last_item b.stands) }

  module _ (cuts : IsCutting f) {front : List ℕ} (long : IsLong f sizes front) where
    filled_list : (text : List ℕ) (cs : List Comparator) → IsFilled f (front ++ text) cs → IsComparators f (front ++ text) cs
    filled_list = go f cuts long.no_hyphen
      where
        go : (g : Flavour) → IsCutting g → ((text : List ℕ) (cs : List Comparator) → g ≡ Npm → IsHyphen (front ++ text) cs → ⊥) → (text : List ℕ) (cs : List Comparator) → IsFilled g (front ++ text) cs → IsComparators g (front ++ text) cs
        go Npm npm never text cs (this h) = absurd (never text cs refl h)
        go Npm npm never text cs (that h) = h
        go Normal normal never text cs h = h
        go Specifier other never text cs h = elim other [ ]

    piece_list : (followed : Bool) (text : List ℕ) (cs : List Comparator) → IsAnyPiece f followed (front ++ text) cs → AreOf sizes cs → HasList f sizes (front ++ text)
    piece_list followed text [] (inl h) i = absurd (no_whitespace cuts (front ++ text) (leads_on f front text long.leads) (rw h (NoCharPasses-nil is_not_whitespace)))
    piece_list followed text (c ∷ cs) (inl h) i = (c ∷ cs, sized (IsComparators f) (c ∷ cs) sizes (filled_list text (c ∷ cs) h) i)
    piece_list followed text cs (inr h) i = absurd (no_whitespace cuts (front ++ text) (leads_on f front text long.leads) h.1)

    list_piece : (followed : Bool) (text : List ℕ) → HasList f sizes text → HasPiece f sizes followed text
    list_piece followed text (cs, h) = let k = unsized (IsComparators f) cs sizes h in (cs, sized (IsAnyPiece f followed) cs sizes (inl (filled_piece f cuts text cs (list_filled cuts text cs k.0))) k.1)

    pub front_of_lists : IsFrontOfLists f sizes front
    front_of_lists = record {
      behind = λ followed text l.
          let both = long.chain.lists text l in
          (λ h. list_piece followed (front ++ text) (both.0 h), λ h. let k = unsized (IsAnyPiece f followed) h.0 sizes h.1 in both.1 (piece_list followed text h.0 k.0 k.1));
    }

-- ---- what the parser of lists returns

module _ (f : Flavour) where
  list_one : (text : List ℕ) (cs ds : List Comparator) → IsComparators f text cs → IsComparators f text ds → cs ≡ ds
  list_one text cs ds h k = (listed_one (listing f) (comparator_one f)).one text cs ds h k

  fitting_list : (sizes : Sizes) (text : List ℕ) (cs : List Comparator) → list_all numbers_fit cs ≡ true → IsComparators f text cs → HasList f sizes text
  fitting_list Any text cs fit h = (cs, h)
  fitting_list Fitting text cs fit h = (cs, (h, fit))

  pub good_list : (sizes : Sizes) (text : List ℕ) {range : VersionRange} → IsWholeRead (IsComparators f) text (Some (read.Range range)) → IsTrue true ↔ HasList f sizes text
  good_list sizes text h = (λ t. go (cases_Bool (list_all numbers_fit h.0)), λ k. refl)
    where
      go : (list_all numbers_fit h.0 ≡ true) ⊎ (list_all numbers_fit h.0 ≡ false) → HasList f sizes text
      go (inl fit) = fitting_list sizes text h.0 fit h.1
      go (inr over) = cc (rw over at h.2)

  pub rejected_list : (sizes : Sizes) (text : List ℕ) (rejection : Rejection) → IsWholeRead (IsComparators f) text (Some (read.Invalid rejection)) → IsTrue (is_in_grammar sizes rejection) ↔ HasList f sizes text
  rejected_list sizes text rejection (cs, h, e) = go (cases_Bool (list_all numbers_fit cs)) (cases_Bool (list_all sums_fit cs))
    where
      over_any : (s : Sizes) → list_all numbers_fit cs ≡ false → IsTrue (is_in_grammar s NumberTooLarge) ↔ HasList f s text
      over_any Any over = (λ t. (cs, h), λ k. refl)
      over_any Fitting over = (λ t. cc t, λ k. absurd (both_ways (list_all numbers_fit cs) over (ap (list_all numbers_fit) (list_one text cs k.0 h k.1.0) ∙ k.1.1)))

      large_any : (s : Sizes) → list_all numbers_fit cs ≡ true → IsTrue (is_in_grammar s BoundTooLarge) ↔ HasList f s text
      large_any Any fit = (λ t. (cs, h), λ k. refl)
      large_any Fitting fit = (λ t. (cs, (h, fit)), λ k. refl)

      go : (list_all numbers_fit cs ≡ true) ⊎ (list_all numbers_fit cs ≡ false) → (list_all sums_fit cs ≡ true) ⊎ (list_all sums_fit cs ≡ false) → IsTrue (is_in_grammar sizes rejection) ↔ HasList f sizes text
      go (inr over) sums = let is : rejection ≡ NumberTooLarge = cc (rw over at e) in rw is (over_any sizes over)
      go (inl fit) (inr large) = let is : rejection ≡ BoundTooLarge = cc (rw (fit, large) at e) in rw is (large_any sizes fit)
      go (inl fit) (inl small) = cc (rw (fit, small) at e)

  pub no_list : (sizes : Sizes) (text : List ℕ) → IsWholeRead (IsComparators f) text None → IsTrue false ↔ HasList f sizes text
  no_list sizes text none = (λ t. cc t, λ h. absurd (none h.0 (unsized (IsComparators f) h.0 sizes h.1).0))

-- ---- what the parsers of comparators and separators return

pub item_before : (f : Flavour) (sizes : Sizes) (text middle : List ℕ) (written : Written) (r : Option (Bor (List ℕ))) → IsFront (IsComparator f) text written middle → admits sizes written.partial ≡ true → Reads (IsSeparator f) middle (rest_answer r)
    → MatchOption r (Unit {0}) (λ rest. IsItemBefore f sizes text rest.now)
item_before f sizes text middle written None front fit h = tt
item_before f sizes text middle written (Some rest) front fit h = record {
  item = front.longest.front;
  separator = h.front;
  value = comparator_of written.operator front.partial;
  text_is = front.longest.text_is ∙ ap (λ t. front.longest.front ++ t) h.text_is;
  is_item = front.longest.stands;
  is_separator = h.stands;
  sized = sized (IsComparators f) (comparator_of written.operator front.partial ∷ []) sizes (last_item front.longest.stands) (admitted sizes written front.partial front.seen fit);
}

-- ---- texts behind a front

module _ (f : Flavour) (sizes : Sizes) where
  pub leading : {text rest : List ℕ} → IsItemBefore f sizes text rest → Leads f text
  leading it = rw it.text_is (leads_there f it.item (it.separator ++ _) it.value it.is_item)

  pub behind_on : (front text more : List ℕ) → IsBehind f sizes front text → IsBehind f sizes front (text ++ more)
  behind_on front text more (inl h) = inl h
  behind_on front text more (inr h) = inr (h.0, leads_on f text more h.1)

  bar_leads : (x : ℕ) → (x == 124) ≡ true → Begins (IsComparator f) x → ⊥
  bar_leads x e b =
      let is : x ≡ 124 = grind (arith, nat_tests) in
      both_ways (has (starts f) 124) (never f) (rw is at ((listing f).item_begins.begins x b))
    where
      never : (g : Flavour) → has (starts g) 124 ≡ false
      never Npm = refl
      never Normal = refl
      never Specifier = refl

  -- the text before bars at its end
  pub behind_before : (front text bars piece : List ℕ) → AreBars bars → text ≡ piece ++ bars → IsBehind f sizes front text → IsBehind f sizes front piece
  behind_before front text bars piece are e (inl h) = inl h
  behind_before front text bars piece are e (inr h) = inr (h.0, go piece bars are (rw e at h.1))
    where
      go : (piece bars : List ℕ) → AreBars bars → Leads f (piece ++ bars) → Leads f piece
      go (x ∷ piece) bars are l = l
      go [] [] are l = absurd l
      go [] (x ∷ bars) are l = absurd (bar_leads x (and_parts (x == 124) _ are.bars).0 l)

  -- and none is at the end of the whole if none is at the end of the text
  pub no_bars_before : (front text bars : List ℕ) → AreBars bars → ((piece : List ℕ) → text ≡ piece ++ bars → ⊥) → IsBehind f sizes front text → (piece : List ℕ) → front ++ text ≡ piece ++ bars → ⊥
  no_bars_before front text bars are none is piece e = elim (fronts front piece text bars e) [
    | same i j ↦ none [] j
    | shorter x m i j ↦ none (x ∷ m) j
    | longer x m i j ↦ inside x m i j is
  ]
    where
      nonempty : (a : List ℕ) (x : ℕ) (m : List ℕ) → a ++ (x ∷ m) ≡ [] → ⊥
      nonempty [] x m h = cc h
      nonempty (y ∷ a) x m h = cc h

      bar_there : (x : ℕ) (m rest : List ℕ) → bars ≡ (x ∷ m) ++ rest → Leads f rest → ⊥
      bar_there x m [] j l = l
      bar_there x m (y ∷ rest) j l = bar_leads y (list_all_there (λ z. z == bar) (x ∷ m) rest y (rw j at are.bars)) l

      inside : (x : ℕ) (m : List ℕ) → front ≡ piece ++ (x ∷ m) → bars ≡ (x ∷ m) ++ text → IsBehind f sizes front text → ⊥
      inside x m i j (inl h) = nonempty piece x m (sym i ∙ h)
      inside x m i j (inr h) = bar_there x m text j h.1

  pub digit_list : HasList f sizes (codes "1") × Leads f (codes "1")
  digit_list = go (ends_by (comparator_described (NumberIs sizes) f) [] (codes "1" ∷ []) (begun (are_numbers (strictness_of f) (sizes_are sizes)) (codes "1" ∷ []) (rule.comparator f) (there f)))
    where
      there : (g : Flavour) → ends_one (codes "1" ∷ []) (rule.comparator g ∷ []) ≡ true
      there Npm = refl
      there Normal = refl
      there Specifier = refl

      go : EndsBy (IsComparator f) (InComparator (NumberIs sizes)) [] (codes "1" ∷ []) → HasList f sizes (codes "1") × Leads f (codes "1")
      go (inl h) = ((h.0 ∷ [], sized (IsComparators f) (h.0 ∷ []) sizes (last_item h.1) (h.2, tt)), record { more = []; value = h.0; stands = h.1 })
      go (inr h) = absurd h

  -- the front of a text is viable
  pub front_viable : (front : List ℕ) → IsFrontOfLists f sizes front → IsViablePrefix (Sized sizes (IsPieceOrCut f)) front
  front_viable front is = let one = digit_list in with_viable f sizes front (codes "1") (ascii_text (codes "1") refl) ((is.behind false (codes "1") one.1).0 one.0)

  -- ---- the front of a text

  pub listed_start : (text : List ℕ) → IsUtf8 text → IsListedAt f sizes text 0
  listed_start text u = record { boundary = IsCharBoundary-from_drop text 0 (omega arith) u; behind = inl refl }

  pub item_shorter : {text rest : List ℕ} → IsItemBefore f sizes text rest → length rest < length text
  item_shorter {text} {rest} it = omega (arith, some_text (listing f).item_some it.item it.is_item, ap length it.text_is, length-append it.item (it.separator ++ rest), length-append it.separator rest)

  pub items_text : {text second third : List ℕ} (a : IsItemBefore f sizes text second) (b : IsItemBefore f sizes second third) → text ≡ ((a.item ++ a.separator) ++ (b.item ++ b.separator)) ++ third
  items_text {text} {second} {third} a b = a.text_is ∙ (sym (append_assoc a.item a.separator second) ∙ (ap (λ t. (a.item ++ a.separator) ++ t) (b.text_is ∙ sym (append_assoc b.item b.separator third)) ∙ sym (append_assoc (a.item ++ a.separator) (b.item ++ b.separator) third)))

  pub next_text : {text rest next : List ℕ} (done : List ℕ) → text ≡ done ++ rest → (it : IsItemBefore f sizes rest next) → text ≡ (done ++ (it.item ++ it.separator)) ++ next
  next_text {next = next} done e it = e ∙ (ap (λ t. done ++ t) (it.text_is ∙ sym (append_assoc it.item it.separator next)) ∙ sym (append_assoc done (it.item ++ it.separator) next))

  pub listed_here : {text rest next : List ℕ} (done : List ℕ) → text ≡ done ++ rest → IsCutting f → IsLong f sizes done → IsItemBefore f sizes rest next → IsUtf8 rest → IsListedAt f sizes text (length text - length rest)
  listed_here {text} {rest} done e cuts long it u =
      let size : length text - length rest ≡ length done = omega (arith, ap length e, length-append done rest) in
      let behind : drop (length done) text ≡ rest = ap (drop (length done)) e ∙ drop_at done rest (length done) refl in
      let before : take (length done) text ≡ done = ap (take (length done)) e ∙ take_at done rest (length done) refl in
      rw size (record { boundary = IsCharBoundary-from_drop text (length done) (omega (arith, ap length e, length-append done rest)) (rw behind u); behind = rw (before, behind) (inr (front_of_lists f sizes cuts long, leading it)) })

-- ---- the front in each grammar

pub front_boundary : (g : Grammar) (text : List ℕ) (n : ℕ) → IsUtf8 text → IsFrontAt g text n → IsCharBoundary text n
front_boundary (Ranges Npm sizes) text n u h = h.boundary
front_boundary (Ranges Normal sizes) text n u h = h.boundary
front_boundary (Ranges Specifier sizes) text n u h = rw h (IsCharBoundary-from_drop text 0 (omega arith) u)
front_boundary Versions text n u h = rw h (IsCharBoundary-from_drop text 0 (omega arith) u)

module _ (f : Flavour) (sizes : Sizes) where
  listed_viable : (text : List ℕ) (n : ℕ) → IsListedAt f sizes text n → IsViablePrefix (Sized sizes (IsPieceOrCut f)) (take n text)
  listed_viable text n h = go h.behind
    where
      go : IsBehind f sizes (take n text) (drop n text) → IsViablePrefix (Sized sizes (IsPieceOrCut f)) (take n text)
      go (inl none) = rw none (record { more = []; value = []; is_text = IsUtf8-nil; stands = sized (IsPieceOrCut f) [] sizes (alone refl) tt })
      go (inr k) = front_viable f sizes (take n text) k.0

pub viable_front : (g : Grammar) (text : List ℕ) (n : ℕ) → IsFrontAt g text n → IsViablePrefix (IsTextOf g) (take n text)
viable_front (Ranges Npm sizes) text n h = listed_viable Npm sizes text n h
viable_front (Ranges Normal sizes) text n h = listed_viable Normal sizes text n h
viable_front (Ranges Specifier sizes) text n h = rw h (empty_viable (Ranges Specifier sizes))
viable_front Versions text n h = rw h (empty_viable Versions)

-- what stands behind a front still does with more behind it
pub stands_on : (g : Grammar) (front text more : List ℕ) → StandsBehind g front text → StandsBehind g front (text ++ more)
stands_on (Ranges Npm sizes) front text more h = behind_on Npm sizes front text more h
stands_on (Ranges Normal sizes) front text more h = behind_on Normal sizes front text more h
stands_on (Ranges Specifier sizes) front text more h = h
stands_on Versions front text more h = h

-- the front, and the text behind it up to the last boundary before middle
pub front_and_rest : (g : Grammar) (text : List ℕ) (n end middle : ℕ) → IsUtf8 text → IsFrontAt g text n → ((i : ℕ) → end < i → i ≤ middle → IsCharBoundary text i → ⊥) → n ≤ middle → end ≤ length text → take n text ++ take (end - n) (drop n text) ≡ take end text
front_and_rest g text n end middle u h nearest le fits = two_parts text n end (up_to text n end middle nearest (front_boundary g text n u h) le) fits
