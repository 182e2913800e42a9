-- The grammars of requirements and of versions as rules, in which a number is one symbol.
use Rattle.std.proofs.Common.{[], ◌∷◌, codes}
use Rattle.semver_base.specs.declared.lexical.values.Strictness.{Strictness}
use Rattle.semver_base.specs.declared.lexical.values.Strictness.TheVariants.{Loose, Strict}
use Rattle.semver_req.specs.Partials.{strictness_of}
use Rattle.semver_req.specs.declared.common.values.Flavour.{Flavour}
use Rattle.semver_req.specs.declared.common.values.Flavour.TheVariants.{Npm, Normal, Specifier}
use Rattle.semver_req.proofs.Rules.{Bytes, Rule, empty, byte, seq, alt, many, unless, letter, word, optional, some, listed}
use Rattle.semver_req.proofs.Symbols.{sign}

-- ---- tokens

abbrev pub digits : Bytes
digits = (48, 58) ∷ []

abbrev pub identifier_bytes : Bytes
identifier_bytes = (48, 58) ∷ ((65, 91) ∷ ((97, 123) ∷ ((45, 46) ∷ [])))

-- U+2000 to U+200A, U+2028, U+2029 and U+202F, or U+205F, behind their first byte
abbrev pub general_whitespace : Rule
general_whitespace = alt (seq (letter 128) (byte ((128, 139) ∷ ((168, 170) ∷ ((175, 176) ∷ []))))) (seq (letter 129) (letter 159))

-- a character of whitespace, by the first byte of its UTF-8
abbrev pub whitespace_character : Rule
whitespace_character =
    alt (byte ((9, 14) ∷ ((32, 33) ∷ [])))
    (alt (seq (letter 194) (byte ((133, 134) ∷ ((160, 161) ∷ []))))
    (alt (seq (letter 225) (seq (letter 154) (letter 128)))
    (alt (seq (letter 226) general_whitespace)
    (seq (letter 227) (seq (letter 128) (letter 128))))))

abbrev pub whitespace : Rule
whitespace = many whitespace_character

abbrev pub some_whitespace : Rule
some_whitespace = some whitespace_character

abbrev pub number : Rule
number = letter sign

abbrev pub identifiers : Rule
identifiers = listed (some (byte identifier_bytes)) (letter 46)

abbrev pub pre : Strictness → Rule
pre Loose = alt (seq (letter 45) identifiers) (unless ((45, 46) ∷ []) identifiers)
pre Strict = seq (letter 45) identifiers

abbrev pub build : Rule
build = seq (letter 43) identifiers

abbrev pub qualifier : Strictness → Rule
qualifier s = seq (optional (pre s)) (optional build)

-- ---- partial versions

abbrev pub wildcards : Flavour → Bytes
wildcards Npm = (42, 43) ∷ ((88, 89) ∷ ((120, 121) ∷ []))
wildcards Normal = (42, 43) ∷ []
wildcards Specifier = (42, 43) ∷ ((88, 89) ∷ ((120, 121) ∷ []))

abbrev pub component : Flavour → Rule
component f = alt (byte (wildcards f)) number

-- no digit follows a number
abbrev pub numbered : Flavour → Rule
numbered f = seq number (unless digits (qualifier (strictness_of f)))

abbrev pub starred : Flavour → Rule
starred f = seq (byte (wildcards f)) (qualifier (strictness_of f))

abbrev pub third : Flavour → Rule
third f = seq (letter 46) (alt (numbered f) (starred f))

abbrev pub second : Flavour → Rule
second f = seq (letter 46) (seq (component f) (optional (third f)))

abbrev pub bare_partial : Flavour → Rule
bare_partial f = seq (component f) (optional (second f))

abbrev pub partial : Flavour → Rule
partial Npm = alt (seq (letter 118) (bare_partial Npm)) (bare_partial Npm)
partial Normal = bare_partial Normal
partial Specifier = bare_partial Specifier

-- ---- comparators

abbrev pub kind : Rule
kind = alt (seq (byte ((60, 61) ∷ ((62, 63) ∷ []))) (optional (letter 61))) (letter 61)

abbrev pub led : Rule
led = seq (many (letter 61)) (seq whitespace (seq (optional (letter 118)) (seq whitespace (partial Npm))))

abbrev pub ignored : Rule
ignored = optional (seq kind some_whitespace)

abbrev pub tildes : Rule
tildes = alt (word (codes "~>")) (word (codes "~"))

abbrev pub tilde : Flavour → Rule
tilde Npm = seq ignored (seq tildes led)
tilde Normal = seq (letter 126) (partial Normal)
tilde Specifier = seq (letter 126) (partial Specifier)

abbrev pub caret : Flavour → Rule
caret Npm = seq ignored (seq (letter 94) led)
caret Normal = seq (letter 94) (partial Normal)
caret Specifier = seq (letter 94) (partial Specifier)

abbrev pub primitive : Flavour → Rule
primitive f = seq kind (seq whitespace (partial f))

abbrev pub comparator : Flavour → Rule
comparator Npm = alt (alt (tilde Npm) (caret Npm)) (alt (primitive Npm) (partial Npm))
comparator Normal = alt (alt (tilde Normal) (caret Normal)) (alt (primitive Normal) (partial Normal))
comparator Specifier = alt (alt (tilde Specifier) (caret Specifier)) (partial Specifier)

-- ---- alternatives

abbrev pub list_operator : Rule
list_operator = alt (word (codes "&&")) (word (codes ","))

abbrev pub separator : Flavour → Rule
separator Npm = alt (seq whitespace (seq list_operator whitespace)) some_whitespace
separator Normal = some_whitespace
separator Specifier = byte []

abbrev pub upper : Rule
upper = seq (partial Npm) whitespace

abbrev pub hyphened : Rule
hyphened = seq some_whitespace (seq (letter 45) (seq some_whitespace upper))

abbrev pub hyphen : Rule
hyphen = seq (partial Npm) hyphened

abbrev pub list : Flavour → Rule
list f = listed (comparator f) (separator f)

abbrev pub filled : Flavour → Rule
filled Npm = alt hyphen (list Npm)
filled Normal = list Normal
filled Specifier = byte []

abbrev pub piece : Flavour → Rule
piece f = alt empty (filled f)

-- an alternative, alone or with the `||` that follows
abbrev pub piece_or_cut : Flavour → Rule
piece_or_cut f = alt (piece f) (seq (alt (piece f) whitespace) (word (codes "||")))

-- such texts, and ranges of the strict grammar
abbrev pub part : Flavour → Rule
part Npm = piece_or_cut Npm
part Normal = piece_or_cut Normal
part Specifier = comparator Specifier

-- ---- versions

abbrev pub lead : Rule
lead = seq (optional (letter 61)) (seq whitespace (optional (seq (letter 118) whitespace)))

abbrev pub triple : Rule
triple = seq number (seq (letter 46) (seq number (seq (letter 46) number)))

abbrev pub version : Rule
version = seq lead (seq triple (unless digits (qualifier Loose)))

abbrev pub surrounded_version : Rule
surrounded_version = seq whitespace (seq version whitespace)
