-- The characters that a part of a package's text can't contain.
use Rattle.std.specs.Prelude.{ℕ, Bool, not, ◌==◌}

-- any byte but this one
abbrev pub is_not : ℕ → ℕ → Bool
is_not stop b = not (b == stop)
