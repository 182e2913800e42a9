-- npm's grammar matches what the normalized one matches, with the same comparators.
use Rattle.std.proofs.Common.{ℕ, List, [], ◌∷◌, Some, None, ◌==◌, ◌||◌}
use Rattle.std.proofs.lemmas.Bool.{or_left}
use Rattle.semver_base.specs.Grammar.{Joined, Listed, last_item, closed_item, more_items, Mapped, Optional, that, this}
use Rattle.semver_base.specs.declared.partial.XRange.TheVariants.{Wildcard, Val}
use Rattle.semver_base.specs.ValueLaws.{after_maps}
use Rattle.semver_req.specs.Comparators.{HasOperator, IsComparator}
use Rattle.semver_req.specs.Partials.{IsComponent, IsPartial, IsBarePartial, IsSecond, IsThird}
use Rattle.semver_req.specs.Pieces.{IsNpmSeparator, NormalPiecesAreNpms, npm}
use Rattle.semver_req.specs.declared.common.values.Flavour.TheVariants.{Npm, Normal}
use Rattle.semver_req.proofs.GrammarParts.{AtOperator, IsDotted, Wider, at_caret, at_dot, at_operator, at_tilde, dotted_of, non_primitive, normal_caret, normal_dot, normal_tilde, with_caret, with_tilde}

-- ---- each way to make a grammar of others

joined_wider : {V W : Type 0} {S : List ℕ → List ℕ → Type 0} {A C : List ℕ → V → Type 0} {B D : List ℕ → W → Type 0} → Wider A C → Wider B D → Wider (Joined S A B) (Joined S C D)
joined_wider a b text v h = record { first = h.first; second = h.second; text_is = h.text_is; in_first = a h.first v.0 h.in_first; in_second = b h.second v.1 h.in_second; seam = h.seam }

mapped_wider : {V W : Type 0} {f : V → W} {A C : List ℕ → V → Type 0} → Wider A C → Wider (Mapped f A) (Mapped f C)
mapped_wider a text w m = record { value = m.value; stands = a text m.value m.stands; is = m.is }

optional_wider : {V : Type 0} {A C : List ℕ → V → Type 0} → Wider A C → Wider (Optional A) (Optional C)
optional_wider a text None h = h
optional_wider a text (Some v) h = a text v h

dotted_wider : {V : Type 0} {A C : List ℕ → V → Type 0} → Wider A C → Wider (IsDotted Normal A) (IsDotted Npm C)
dotted_wider {A = A} {C = C} a text v h = let k = at_dot A Normal text v h in rw k.text_is (dotted_of C Npm k.byte k.rest v (normal_dot Npm k.byte k.is_dot) (a k.rest v k.stands))

listed_wider : {V : Type 0} {A C : List ℕ → V → Type 0} {S T : List ℕ → Unit {0} → Type 0} → Wider A C → Wider S T → Wider (Listed A S) (Listed C T)
listed_wider a s text vs (last_item {v} h) = last_item (a text v h)
listed_wider a s text vs (closed_item {a = b} {s = c} {v} h k) = closed_item (a b v h) (s c tt k)
listed_wider a s text vs (more_items {a = b} {s = c} {b = d} {v} {vs = us} h k t) = more_items (a b v h) (s c tt k) (listed_wider a s d us t)

operator_wider : Wider (IsPartial Normal) (IsPartial Npm) → Wider (HasOperator Normal) (HasOperator Npm)
operator_wider w text c h = go (at_operator Normal text c h)
  where
    go : AtOperator Normal text c → HasOperator Npm text c
    go (at_tilde b {rest} {p} e s k is) = rw (e, is) (with_tilde Npm b rest p (normal_tilde Npm b s) (w rest p k))
    go (at_caret b {rest} {p} e s k is) = rw (e, is) (with_caret Npm b rest p (normal_caret Npm b s) (w rest p k))

-- ---- the rules

component_wider : Wider (IsComponent Normal) (IsComponent Npm)
component_wider text Wildcard (b, h) = (b, record { text_is = h.text_is; passes = or_left ((b == 42) || (b == 120)) (b == 88) (or_left (b == 42) (b == 120) h.passes) })
component_wider text (Val n) h = h

third_wider : Wider (IsThird Normal) (IsThird Npm)
third_wider = dotted_wider (joined_wider component_wider (λ text v h. h))

second_wider : Wider (IsSecond Normal) (IsSecond Npm)
second_wider = dotted_wider (joined_wider component_wider (optional_wider third_wider))

bare_wider : Wider (IsBarePartial Normal) (IsBarePartial Npm)
bare_wider = mapped_wider (joined_wider component_wider (optional_wider second_wider))

partial_wider : Wider (IsPartial Normal) (IsPartial Npm)
partial_wider text p h = that (bare_wider text p h)

pub comparator_wider : Wider (IsComparator Normal) (IsComparator Npm)
comparator_wider text c (this h) = non_primitive Npm npm text c (this (operator_wider partial_wider text c h))
comparator_wider text c (that (this m)) = that (this (mapped_wider (joined_wider (λ t k h. h) (after_maps partial_wider)) text c m))
comparator_wider text c (that (that m)) = that (that (mapped_wider partial_wider text c m))

pub pieces_wider : NormalPiecesAreNpms
pieces_wider text [] h = h
pieces_wider text (c ∷ cs) h = that (listed_wider {T = IsNpmSeparator} comparator_wider (λ t u s. that s) text (c ∷ cs) h)
