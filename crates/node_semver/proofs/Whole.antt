-- A text that is identifiers as a whole.
use Rattle.std.proofs.Common.{◌≡◌, ◌+◌, ◌∙◌, ℕ, List, [], length, sym, ap, arith, append-nil, length-append}
use Rattle.std.proofs.lemmas.List.{nil_from_length}
use Rattle.semver_base.specs.Grammar.{IsLongest}
use Rattle.semver_base.specs.Lexical.{IsQualifier}
use Rattle.semver_base.specs.declared.lexical.values.Qualifier.{Qualifier}
use Rattle.semver_base.specs.declared.lexical.values.Strictness.TheVariants.{Loose}
use Rattle.node_semver.specs.Identifiers.{IsPre, IsNoPre}

abbrev pub as_pre : List (List ℕ) → Qualifier
as_pre identifiers = record { pre = identifiers; build = [] }

module _ (text rest : List ℕ) (q : Qualifier) (h : IsLongest (IsQualifier Loose) text q rest) where
  nothing_left : (identifiers : List (List ℕ)) → IsPre text identifiers → rest ≡ []
  nothing_left identifiers is =
      let most = (h.longest text [] (as_pre identifiers) (sym (append-nil text)) is).0 in
      let all : length text ≡ length h.front + length rest = ap length h.text_is ∙ length-append h.front rest in
      nil_from_length rest (omega (arith, most, all))

  pub same_pre : (identifiers : List (List ℕ)) → IsPre text identifiers → as_pre identifiers ≡ q
  same_pre identifiers is =
      let none = nothing_left identifiers is in
      let all : length text ≡ length h.front + length rest = ap length h.text_is ∙ length-append h.front rest in
      let empty : length rest ≡ 0 = ap length none in
      (h.longest text [] (as_pre identifiers) (sym (append-nil text)) is).1 (omega (arith, all, empty))

  pub left_over : (rest ≡ [] → ⊥) → IsNoPre text
  left_over some identifiers is = some (nothing_left identifiers is)

  pub with_build : (q.build ≡ [] → ⊥) → IsNoPre text
  with_build some identifiers is = some (ap (λ (p : Qualifier). p.build) (sym (same_pre identifiers is)))
