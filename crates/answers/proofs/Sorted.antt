-- Versions with their places: only one arrangement is ascending.
use Rattle.std.proofs.Common.{◌≡◌, ◌+◌, ◌<◌, ℕ, suc, Bool, List, [], ◌∷◌, ◌++◌, get_or, length, map, take, Option, None, Some, Equal, IsPermutation, IsSortedBy, Ok, refl, sym, ap, arith, inr, ◌∙◌, is_lt, nat_cmp}
use Rattle.std.proofs.lemmas.Cmp.{nat_cmp_total, tied_itself}
use Rattle.std.proofs.lemmas.List.{get_or-map, length-map, length-take-le, map-append, take_more}
use Rattle.std.proofs.lemmas.List.MinMax.{ranks_by}
use Rattle.std.proofs.lemmas.List.Sorted.{IsPermutation-map, IsPermutation-sym, IsPermutation-trans}
use Rattle.std.specs.Cmp.{IsStrictWeakOrder, IsTotalOrder, back_total, on_total, then_total}
use Rattle.std.specs.FinMap.{nat_cmp-IsAntisymmetric}
use Rattle.semver_req.specs.Ascending.{AscendingArrangementsTie, Tie}
use Rattle.semver_base.specs.PrecedenceLaws.{precedence_total, then_second}
use Rattle.answers.specs.Asking.{IsOutcomeOf}
use Rattle.answers.specs.AskingLaws.{as_value}
use Rattle.semver_base.specs.declared.version.Version.{Version}
use Rattle.answers.specs.Sorting.{AreOnlySortedPlaces, AreSortedPlaces, SortedPlaces, Standing, order_cmp, standing, standing_cmp, standing_from, standing_lines}
use Rattle.answers.specs.declared.sorting.Placed.{Placed}
use Rattle.answers.specs.declared.sorting.Order.{Order}
use Rattle.answers.specs.declared.sorting.Order.TheVariants.{Ascending, Descending}

-- ---- one more

one_standing : (n : ℕ) (vs : List Version) (v : Version) → standing_from n (vs ++ v ∷ []) ≡ standing_from n vs ++ (v, n + length vs) ∷ []
one_standing n [] v = ap (λ (k : ℕ). (v, k) ∷ []) (omega arith)
one_standing n (w ∷ vs) v =
    let same : n + 1 + length vs ≡ n + suc (length vs) = omega arith in
    ap (λ (rest : List Standing). (w, n) ∷ rest) (one_standing (n + 1) vs v ∙ ap (λ (k : ℕ). standing_from (n + 1) vs ++ (v, k) ∷ []) same)

one_line : (n : ℕ) (lines : List (Option Version)) (line : Option Version) → standing_lines n (lines ++ line ∷ []) ≡ standing_lines n lines ++ standing_lines (n + length lines) (line ∷ [])
one_line n [] line = ap (λ (k : ℕ). standing_lines k (line ∷ [])) (omega arith)
one_line n (Some w ∷ lines) line =
    let same : n + 1 + length lines ≡ n + suc (length lines) = omega arith in
    ap (λ (rest : List Standing). (w, n) ∷ rest) (one_line (n + 1) lines line ∙ ap (λ (k : ℕ). standing_lines (n + 1) lines ++ standing_lines k (line ∷ [])) same)
one_line n (None ∷ lines) line =
    let same : n + 1 + length lines ≡ n + suc (length lines) = omega arith in
    one_line (n + 1) lines line ∙ ap (λ (k : ℕ). standing_lines (n + 1) lines ++ standing_lines k (line ∷ [])) same

-- one more version is placed
pub next_standing : (all more : List Placed) (versions : List Version) (place : ℕ) (it : Placed) → more ≡ all ++ it ∷ [] → it.place ≡ place → it.version.now ≡ get_or versions place it.version.now → place < length versions
    → map standing all ≡ standing_from 0 (take place versions) → map standing more ≡ standing_from 0 (take (place + 1) versions)
next_standing all more versions place it e stands at within h =
    let seen = take place versions in
    let v = it.version.now in
    let behind : it.place ≡ 0 + length seen = stands ∙ sym (length-take-le place versions (omega (arith, within))) ∙ omega arith in
    ap (map standing) e ∙ map-append standing all (it ∷ []) ∙ ap (λ (rest : List Standing). rest ++ standing it ∷ []) h ∙ ap (λ (k : ℕ). standing_from 0 seen ++ (v, k) ∷ []) behind
    ∙ sym (one_standing 0 seen v) ∙ ap (λ (w : Version). standing_from 0 (seen ++ w ∷ [])) at ∙ ap (standing_from 0) (sym (take_more versions place v within))

module _ (lines : List (Option Version)) (place : ℕ) (line : Option Version) (at : line ≡ get_or lines place line) (within : place < length lines) where
  seen_more : standing_lines 0 (take place lines ++ line ∷ []) ≡ standing_lines 0 (take (place + 1) lines)
  seen_more = ap (λ (it : Option Version). standing_lines 0 (take place lines ++ it ∷ [])) at ∙ ap (standing_lines 0) (sym (take_more lines place line within))

  pub next_line : (all more : List Placed) (it : Placed) → more ≡ all ++ it ∷ [] → it.place ≡ place → line ≡ Some it.version.now
      → map standing all ≡ standing_lines 0 (take place lines) → map standing more ≡ standing_lines 0 (take (place + 1) lines)
  next_line all more it e stands is h =
      let seen = take place lines in
      let behind : it.place ≡ 0 + length seen = stands ∙ sym (length-take-le place lines (omega (arith, within))) ∙ omega arith in
      ap (map standing) e ∙ map-append standing all (it ∷ []) ∙ ap (λ (rest : List Standing). rest ++ standing it ∷ []) h ∙ ap (λ (k : ℕ). standing_lines 0 seen ++ (it.version.now, k) ∷ []) behind
      ∙ sym (one_line 0 seen (Some it.version.now)) ∙ ap (λ (other : Option Version). standing_lines 0 (seen ++ other ∷ [])) (sym is) ∙ seen_more

  -- a line without a version stands nowhere
  pub no_line : line ≡ None → standing_lines 0 (take place lines) ≡ standing_lines 0 (take (place + 1) lines)
  no_line is =
      let seen = take place lines in
      sym (append_none (standing_lines 0 seen)) ∙ sym (one_line 0 seen None) ∙ ap (λ (other : Option Version). standing_lines 0 (seen ++ other ∷ [])) (sym is) ∙ seen_more
    where
      append_none : (xs : List Standing) → xs ++ [] ≡ xs
      append_none [] = refl
      append_none (x ∷ xs) = ap (λ (rest : List Standing). x ∷ rest) (append_none xs)

-- ---- sorted by a function of the items

module _ {A B : Type 0} (f : A → B) (lt : B → B → Bool) where
  pub sorted_map : (xs : List A) → IsSortedBy (λ (a b : A). lt (f a) (f b)) xs → IsSortedBy lt (map f xs)
  sorted_map [] h k d low more = absurd (omega (arith, more))
  sorted_map (x ∷ xs) h k d low more =
      let within : k + 1 < length (x ∷ xs) = omega (arith, more, length-map (x ∷ xs) f) in
      rw (get_or-map f (x ∷ xs) (k + 1) x d within, get_or-map f (x ∷ xs) k x d (omega (arith, within))) (h k x low within)

-- ---- either order is total

order_total : (order : Order) → IsTotalOrder (order_cmp order)
order_total Ascending = precedence_total
order_total Descending = back_total precedence_total

module _ (order : Order) where
  standing_total : IsTotalOrder (standing_cmp order)
  standing_total = then_total (on_total (λ (s : Standing). s.0) (order_total order)) (on_total (λ (s : Standing). s.1) nat_cmp_total)

  -- the test that the items are sorted by
  abbrev pub comes_before : Placed → Placed → Bool
  comes_before a b = is_lt (standing_cmp order (standing a) (standing b))

  pub placed_ranks : IsStrictWeakOrder comes_before
  placed_ranks = ranks_by standing_total standing

  pub sorted_places : (all sorted : List Placed) → IsPermutation all sorted → IsSortedBy comes_before sorted → AreSortedPlaces order (map standing all) (map (λ (p : Placed). p.place) sorted)
  sorted_places all sorted same ascends = record {
    sorted = map standing sorted;
    same = IsPermutation-map standing all sorted same;
    ascends = sorted_map standing (λ (a b : Standing). is_lt (standing_cmp order a b)) sorted ascends;
    places_are = places sorted;
  }
    where
      places : (xs : List Placed) → map (λ (p : Placed). p.place) xs ≡ map (λ (s : Standing). s.1) (map standing xs)
      places [] = refl
      places (x ∷ xs) = ap (λ (rest : List ℕ). x.place ∷ rest) (places xs)

  -- versions that tie have the same place
  one_place : (a b : Standing) → standing_cmp order a b ≡ Equal → a.1 ≡ b.1
  one_place a b e = nat_cmp-IsAntisymmetric a.1 b.1 (then_second (order_cmp order a.0 b.0) (nat_cmp a.1 b.1) e)

  ties_places : (xs ys : List Standing) → Tie (standing_cmp order) xs ys → map (λ (s : Standing). s.1) xs ≡ map (λ (s : Standing). s.1) ys
  ties_places [] [] h = refl
  ties_places [] (y ∷ ys) h = absurd h
  ties_places (x ∷ xs) [] h = absurd h
  ties_places (x ∷ xs) (y ∷ ys) h = rw (one_place x y h.0, ties_places xs ys h.1) refl

  ties_self : (xs : List Standing) → Tie (standing_cmp order) xs xs
  ties_self [] = tt
  ties_self (x ∷ xs) = (tied_itself standing_total x, ties_self xs)

  -- two ascending arrangements of the same list have the same places
  pub only_places : AscendingArrangementsTie Standing → (versions : List Standing) (places : List ℕ) → AreSortedPlaces order versions places → AreOnlySortedPlaces order versions places
  only_places tie versions places h others k =
      let moved = IsPermutation-trans h.sorted versions k.sorted (IsPermutation-sym versions h.sorted h.same) k.same in
      let tied = tie (standing_cmp order) standing_total h.sorted h.sorted k.sorted h.ascends (ties_self h.sorted) moved k.ascends in
      k.places_are ∙ ties_places k.sorted h.sorted tied ∙ sym h.places_are

-- the places are the outcome
pub places_answer : {P : Type 0} (order : Order) (memory : P) (versions : List Standing) (places : List ℕ) → AreSortedPlaces order versions places → AreOnlySortedPlaces order versions places → IsOutcomeOf memory (SortedPlaces order versions) (Ok places)
places_answer order memory versions places h only = record { is = inr (places, h, refl); only = λ o a. inr (ap as_value (sym (only a.0 a.1)) ∙ sym a.2) }
