-- The arguments of several calls: a grammar with a text, or with two.
use Rattle.std.specs.Prelude.{ℕ, List, Result}
use Rattle.semver_req.specs.declared.common.values.Flavour.{Flavour}
use Rattle.answers.specs.Asking.{Given, Is}
use Rattle.semver_c.specs.Arguments.{CallFault, IsNumbered, IsUtf8Text, grammars}
use Rattle.semver_c.specs.declared.arguments.WithText.{WithText}
use Rattle.semver_c.specs.declared.arguments.WithTexts.{WithTexts}

-- a grammar and a text, which are looked up in this order
abbrev pub IsWithText : ℕ → List ℕ → Result (Flavour × List ℕ) CallFault → Type 0
IsWithText number bytes = Given (IsNumbered grammars number) (λ f. Given (IsUtf8Text bytes) (λ text. Is (f, text)))

abbrev pub text_given : WithText → Flavour × List ℕ
text_given given = (given.flavour, given.text.now)

-- a grammar and two texts
abbrev pub IsWithTexts : ℕ → List ℕ → List ℕ → Result (Flavour × (List ℕ × List ℕ)) CallFault → Type 0
IsWithTexts number one other =
    Given (IsNumbered grammars number) (λ f. Given (IsUtf8Text one) (λ text. Given (IsUtf8Text other) (λ more. Is (f, (text, more)))))

abbrev pub texts_given : WithTexts → Flavour × (List ℕ × List ℕ)
texts_given given = (given.flavour, (given.one.now, given.other.now))
