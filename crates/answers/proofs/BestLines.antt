-- The best match of lines, some of which have no version.
use Rattle.std.proofs.Common.{◌≡◌, ℕ, Bool, Option, Some, None, Bor, refl, is_lt}
use Rattle.std.proofs.lemmas.List.MinMax.{IsStrictWeakOrder-flip, ranks_by}
use Rattle.std.specs.Cmp.{IsStrictWeakOrder}
use Rattle.std.specs.Cmp.Lexicographic.{options_total}
use Rattle.std.specs.Option.{option_cmp}
use Rattle.semver_base.specs.Precedence.{precedence_cmp}
use Rattle.semver_base.specs.PrecedenceLaws.{precedence_total}
use Rattle.semver_base.specs.declared.version.Version.{Version}
use Rattle.semver_req.specs.ResolveSteps.{exceeds, known_of}
use Rattle.answers.specs.Filtering.{better_line}
use Rattle.answers.specs.Questions.{better}
use Rattle.answers.specs.declared.questions.End.{End}
use Rattle.answers.specs.declared.questions.End.TheVariants.{Highest, Lowest}

abbrev lower_line : Option Version → Option Version → Bool
lower_line one other = is_lt (option_cmp precedence_cmp one other)

lower_ranks : IsStrictWeakOrder lower_line
lower_ranks = ranks_by (options_total precedence_total) (λ (line : Option Version). line)

pub line_ranks : (end : End) → IsStrictWeakOrder (better_line end)
line_ranks Highest = IsStrictWeakOrder-flip lower_line lower_ranks
line_ranks Lowest = lower_ranks

-- the best match so far, as a line
abbrev pub known_line : Option (ℕ × Bor Version) → Option (ℕ × Option Version)
known_line None = None
known_line (Some known) = Some (known.0, Some known.1.now)

-- its line is better exactly if the version is
pub line_exceeds : (end : End) (v : Version) (known : Option (ℕ × Bor Version)) → exceeds (better end) v (known_of known) ≡ exceeds (better_line end) (Some v) (known_line known)
line_exceeds end v None = refl
line_exceeds Highest v (Some known) = refl
line_exceeds Lowest v (Some known) = refl
