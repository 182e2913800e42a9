-- What may stand at a place of a text, by kinds whose texts may all follow the same prefixes.
use Rattle.std.specs.Prelude.{◌≡◌, ◌↔◌, ◌==◌, ◌||◌, ◌&&◌, ℕ, Bool, true, IsTrue, List, [], ◌∷◌, ◌++◌, codes, false, nat_le}
use Rattle.std.specs.Char.{is_ascii_digit}
use Rattle.semver_req.specs.declared.common.values.Flavour.{Flavour}
use Rattle.semver_req.specs.declared.common.values.Flavour.TheVariants.{Npm, Normal, Specifier}
use Rattle.semver_req.specs.Viable.{HasPiece, HasRange, IsPart, IsViablePrefix}
use Rattle.semver_req.specs.declared.error_places.Sizes.TheVariants.{Any}
use Rattle.semver_req.specs.declared.error_places.expected.Expected.{Expected}
use Rattle.semver_req.specs.declared.error_places.expected.Kind.{Kind}
use Rattle.semver_req.specs.declared.error_places.expected.Kind.TheVariants.{Digit, X, V, Letter, Star, Dot, Hyphen, Plus, Tilde, Caret, Less, Greater, Equals, Space, Comma, And, Bar}

-- letters but `v`, `x` and `X`
abbrev pub is_other_letter : ℕ → Bool
is_other_letter b = (nat_le 65 b && nat_le b 87) || (nat_le 89 b && nat_le b 90) || (nat_le 97 b && nat_le b 117) || (b == 119) || (nat_le 121 b && nat_le b 122)

-- one text of each kind
abbrev pub kind_text : Kind → List ℕ
kind_text Digit = codes "1"
kind_text X = codes "x"
kind_text V = codes "v"
kind_text Letter = codes "a"
kind_text Star = codes "*"
kind_text Dot = codes "."
kind_text Hyphen = codes "-"
kind_text Plus = codes "+"
kind_text Tilde = codes "~"
kind_text Caret = codes "^"
kind_text Less = codes "<"
kind_text Greater = codes ">"
kind_text Equals = codes "="
kind_text Space = codes " "
kind_text Comma = codes ","
kind_text And = codes "&"
kind_text Bar = codes "|"

-- the texts of each kind: any digit, either `x`, any other letter but `v`; else the one text
pub data IsOfKind : Kind → List ℕ → Type 0 where
  digit : (d : ℕ) → is_ascii_digit d ≡ true → IsOfKind Digit (d ∷ [])
  letter : (b : ℕ) → is_other_letter b ≡ true → IsOfKind Letter (b ∷ [])
  capital_x : IsOfKind X (codes "X")
  itself : (kind : Kind) → IsOfKind kind (kind_text kind)

-- true if each text of the kind may follow the prefix; false if none may
pub record IsExpected (f : Flavour) (prefix : List ℕ) (kind : Kind) (says : Bool) : Type 0 where
  pub each : IsTrue says → (next : List ℕ) → IsOfKind kind next → IsViablePrefix (IsPart f) (prefix ++ next)
  pub none : (next : List ℕ) → IsOfKind kind next → IsViablePrefix (IsPart f) (prefix ++ next) → IsTrue says

-- the prefix is itself an alternative, or a range of the strict grammar
abbrev pub IsWhole : Flavour → List ℕ → Type 0
IsWhole Npm text = HasPiece Npm Any false text
IsWhole Normal text = HasPiece Normal Any false text
IsWhole Specifier text = HasRange Any text

-- those of these kinds whose texts may follow, in their order
pub data AreExpected (f : Flavour) (prefix : List ℕ) : List Kind → List Kind → Type 0 where
  no_kind : AreExpected f prefix [] []
  may_follow : {kind : Kind} {kinds found : List Kind} → IsExpected f prefix kind true → AreExpected f prefix kinds found
      → AreExpected f prefix (kind ∷ kinds) (kind ∷ found)
  may_not : {kind : Kind} {kinds found : List Kind} → IsExpected f prefix kind false → AreExpected f prefix kinds found
      → AreExpected f prefix (kind ∷ kinds) found

abbrev pub all_kinds : List Kind
all_kinds = Digit ∷ X ∷ V ∷ Letter ∷ Star ∷ Dot ∷ Hyphen ∷ Plus ∷ Tilde ∷ Caret ∷ Less ∷ Greater ∷ Equals ∷ Space ∷ Comma ∷ And ∷ Bar ∷ []

-- what may stand behind a prefix: the kinds that may follow it, and whether a text may end there
pub record IsExpectation (f : Flavour) (prefix : List ℕ) (e : Expected) : Type 0 where
  pub kinds : AreExpected f prefix all_kinds e.kinds.items
  pub ends : IsTrue e.may_end ↔ IsWhole f prefix
