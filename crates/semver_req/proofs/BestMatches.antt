-- The best match, as more versions are seen, or more values that are ranked in some way.
use Rattle.std.proofs.Common.{◌≡◌, ◌&&◌, ◌++◌, [], ◌∷◌, ℕ, List, Bool, true, false, not, length, Option, Some, None, refl, sym, ap, ◌∙◌, append_assoc}
use Rattle.std.proofs.lemmas.List.Folds.{list_any-append}
use Rattle.std.proofs.lemmas.List.MinMax.{IsStrictWeakOrder-flip, ranks_by}
use Rattle.std.specs.Cmp.{IsStrictWeakOrder}
use Rattle.std.specs.List.{list_any}
use Rattle.std.proofs.lemmas.Bool.{and_parts, or_from, or_left, or_parts, or_right}
use Rattle.semver_base.specs.PrecedenceLaws.{precedence_total}
use Rattle.semver_base.specs.declared.version.Version.{Version}
use Rattle.semver_base.specs.OrderLaws.{never_both}
use Rattle.semver_req.specs.Resolve.{IsBestAt, IsBestMatch, lower}
use Rattle.semver_req.specs.ResolveSteps.{IsKnown, OneWalkFinds, exceeds, nearer}
use Rattle.semver_req.specs.declared.resolve.End.{End}
use Rattle.semver_req.specs.declared.resolve.End.TheVariants as end

-- if no element passes a test, none passes a stricter one
none_from : {X : Type 0} (p q : X → Bool) → ((x : X) → p x ≡ false → q x ≡ false) → (xs : List X) → list_any p xs ≡ false → list_any q xs ≡ false
none_from p q fails [] h = refl
none_from p q fails (x ∷ xs) h = or_from _ _ (fails x (or_parts _ _ h).0) (none_from p q fails xs (or_parts (p x) _ h).1)

-- nearness to either end is a strict weak order
lower_ranks : IsStrictWeakOrder lower
lower_ranks = ranks_by precedence_total (λ (v : Version). v)

pub nearer_ranks : (e : End) → IsStrictWeakOrder (nearer e)
nearer_ranks end.Highest = IsStrictWeakOrder-flip lower lower_ranks
nearer_ranks end.Lowest = lower_ranks

module _ {V : Type 0} (near : V → V → Bool) (ranks : IsStrictWeakOrder near) (means : V → Bool) where
  -- another version matches and is nearer; or it matches, and this one isn't nearer
  abbrev is_better_match : V → V → Bool
  is_better_match version other = means other && near other version

  abbrev is_as_good : V → V → Bool
  is_as_good version other = means other && not (near version other)

  never_itself : (v : V) → near v v ≡ false
  never_itself v = go (near v v) refl
    where
      go : (b : Bool) → near v v ≡ b → near v v ≡ false
      go true h = ranks.one_way v v h
      go false h = h

  -- a version nearer than a known one is nearer than any other that isn't nearer than the known one
  nearer_than_third : (v known other : V) → near v known ≡ true → near other known ≡ false → near v other ≡ true
  nearer_than_third v known other h k = go (near v other) refl
    where
      go : (b : Bool) → near v other ≡ b → near v other ≡ true
      go true h = h
      go false is = absurd (cc (h, ranks.chain v other known is k))

  no_match : (b c : Bool) → (b && c) ≡ false → b ≡ true → c ≡ false
  no_match true c h k = h
  no_match false c h k = cc k

  -- no match seen so far is as good as a version that is nearer than all of them
  pub none_as_good : (versions : List V) (known : Option (ℕ × V)) (v : V) → IsKnown near means versions known → exceeds near v known ≡ true
      → list_any (is_as_good v) versions ≡ false
  none_as_good versions None v h k = none_from means (is_as_good v) (λ other none. never_both (means other) _ (λ is. absurd (cc (none, is)))) versions h
  none_as_good versions (Some known) v h k = none_from (is_better_match known.1) (is_as_good v)
      (λ other none. never_both (means other) _ (λ is. ap not (nearer_than_third v known.1 other k (no_match (means other) _ none is)))) versions h.best

  -- a version that isn't better changes nothing
  pub stays : (versions : List V) (known : Option (ℕ × V)) (v : V) → IsKnown near means versions known
      → (means v && exceeds near v known) ≡ false → IsKnown near means (versions ++ v ∷ []) known
  stays versions None v h k = list_any-append means versions (v ∷ []) ∙ or_from _ _ h (or_from _ _ (unmatched (means v) k) refl)
    where
      unmatched : (b : Bool) → (b && true) ≡ false → b ≡ false
      unmatched true h = h
      unmatched false h = refl
  stays versions (Some known) v h k = record {
    before = h.before;
    after = h.after ++ v ∷ [];
    stands = ap (λ vs. vs ++ v ∷ []) h.stands ∙ append_assoc h.before (known.1 ∷ h.after) (v ∷ []);
    at_place = h.at_place;
    matches = h.matches;
    best = list_any-append (is_better_match known.1) versions (v ∷ []) ∙ or_from _ _ h.best (or_from _ _ k refl);
    first = h.first;
  }

  -- a better version becomes the best so far
  pub taken : (versions : List V) (known : Option (ℕ × V)) (place : ℕ) (v : V) → length versions ≡ place → IsKnown near means versions known
      → (means v && exceeds near v known) ≡ true → IsBestAt near means (versions ++ v ∷ []) place v
  taken versions known place v at h k =
      let none : list_any (is_as_good v) versions ≡ false = none_as_good versions known v h (and_parts (means v) _ k).1 in
      record {
        before = versions;
        after = [];
        stands = refl;
        at_place = at;
        matches = (and_parts _ _ k).0;
        best = list_any-append (is_better_match v) versions (v ∷ []) ∙ or_from _ _ (none_from (is_as_good v) (is_better_match v) no_better versions none)
            (or_from _ _ (never_both (means v) _ (λ _. never_itself v)) refl);
        first = none;
      }
    where
      no_better : (other : V) → is_as_good v other ≡ false → is_better_match v other ≡ false
      no_better other h = never_both (means other) _ (λ is. ranks.one_way v other (nearer_by (near v other) (no_match (means other) _ h is)))
        where
          nearer_by : (b : Bool) → not b ≡ false → b ≡ true
          nearer_by true h = refl
          nearer_by false h = cc h

  -- ---- one result

  -- no matching version of the list is better than the best
  none_better : (before after : List V) (x : V) (versions : List V) → versions ≡ before ++ x ∷ after → means x ≡ true
      → (y : V) → list_any (is_better_match y) versions ≡ false → near x y ≡ false
  none_better before after x versions is m y h =
      no_match (means x) _ (or_parts _ _ (or_parts (list_any (is_better_match y) before) _
      (sym (list_any-append (is_better_match y) before (x ∷ after)) ∙ (sym (ap (list_any (is_better_match y)) is) ∙ h))).1).0 m

  head_same : (x y : V) (xs ys : List V) → x ∷ xs ≡ y ∷ ys → x ≡ y
  head_same x y xs ys e = cc e

  tail_same : (x y : V) (xs ys : List V) → x ∷ xs ≡ y ∷ ys → xs ≡ ys
  tail_same x y xs ys e = cc e

  -- of two matches neither of which is better, neither comes first among those as good as the other
  never_first : (x y : V) → means x ≡ true → near y x ≡ false → is_as_good y x ≡ false → ⊥
  never_first x y m h k =
      let as_good : is_as_good y x ≡ true = rw (m, h) refl in
      absurd (cc (as_good, k))

  same_length : (us after : List V) (x : V) (bs later : List V) (y : V) → us ++ x ∷ after ≡ bs ++ y ∷ later
      → means x ≡ true → means y ≡ true → near x y ≡ false → near y x ≡ false
      → list_any (is_as_good x) us ≡ false → list_any (is_as_good y) bs ≡ false → length us ≡ length bs
  same_length [] after x [] later y e mx my xy yx hx hy = refl
  same_length [] after x (b ∷ bs) later y is mx my xy yx hx hy =
      absurd (never_first x y mx yx (ap (is_as_good y) (head_same x b after (bs ++ y ∷ later) is) ∙ (or_parts _ _ hy).0))
  same_length (a ∷ us) after x [] later y is mx my xy yx hx hy =
      absurd (never_first y x my xy (ap (is_as_good x) (sym (head_same a y (us ++ x ∷ after) later is)) ∙ (or_parts _ _ hx).0))
  same_length (a ∷ us) after x (b ∷ bs) later y is mx my xy yx hx hy =
      let rest : length us ≡ length bs = same_length us after x bs later y (tail_same a b (us ++ x ∷ after) (bs ++ y ∷ later) is) mx my xy yx
      (or_parts (is_as_good x a) _ hx).1 (or_parts (is_as_good y b) _ hy).1 in
      rw rest refl

  -- if one version matches, the result isn't none
  some_match : (versions : List V) (place : ℕ) (x : V) → IsBestAt near means versions place x → list_any means versions ≡ false → ⊥
  some_match versions place x h none =
      let found : list_any means versions ≡ true = ap (list_any means) h.stands ∙ list_any-append means h.before (x ∷ h.after) ∙ or_right (list_any means h.before) _ (or_left _ _ h.matches) in
      absurd (cc (found, none))

  -- no list has two results
  pub one_match : (versions : List V) (some other : Option ℕ) → IsBestMatch near means versions some → IsBestMatch near means versions other → other ≡ some
  one_match versions None None h k = refl
  one_match versions None (Some q) h k = absurd (some_match versions q k.0 k.1 h)
  one_match versions (Some p) None h k = absurd (some_match versions p h.0 h.1 k)
  one_match versions (Some p) (Some q) h k =
      let a = h.1 in
      let b = k.1 in
      ap Some (sym b.at_place ∙ (same_length b.before b.after k.0 a.before a.after h.0 (sym b.stands ∙ a.stands) b.matches a.matches
      (none_better b.before b.after k.0 versions b.stands b.matches h.0 a.best) (none_better a.before a.after h.0 versions a.stands a.matches k.0 b.best) b.first a.first ∙ a.at_place))

  pub one_walk_finds : OneWalkFinds near means
  one_walk_finds = record { stays = stays; taken = taken; only = one_match }
