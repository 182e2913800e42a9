-- The characters that the grammars name, as bytes.
use Rattle.std.specs.Prelude.{ℕ}

abbrev pub space : ℕ
space = 32

abbrev pub ampersand : ℕ
ampersand = 38

abbrev pub asterisk : ℕ
asterisk = 42

abbrev pub plus_sign : ℕ
plus_sign = 43

abbrev pub hyphen_sign : ℕ
hyphen_sign = 45

abbrev pub dot : ℕ
dot = 46

abbrev pub slash : ℕ
slash = 47

abbrev pub zero_digit : ℕ
zero_digit = 48

abbrev pub colon : ℕ
colon = 58

abbrev pub equals_sign : ℕ
equals_sign = 61

abbrev pub at_sign : ℕ
at_sign = 64

abbrev pub capital_x : ℕ
capital_x = 88

abbrev pub caret_sign : ℕ
caret_sign = 94

abbrev pub underscore : ℕ
underscore = 95

abbrev pub letter_v : ℕ
letter_v = 118

abbrev pub letter_x : ℕ
letter_x = 120

abbrev pub bar : ℕ
bar = 124

abbrev pub tilde_sign : ℕ
tilde_sign = 126
