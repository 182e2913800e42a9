use Rattle.std.proofs.Common.{[], length}
use denote.Text.{Utf8}
use denote.Shadow.{shadow}
use Rattle.semver_base.proofs.Replaced.{IsPartly}
use Rattle.semver_base.proofs.string.ShortText.replace.Given as goal

-- the replacement of the characters so far
abbrev pub invariant-loop-character : goal.invariant-loop-character
invariant-loop-character g l = IsPartly [] l.to l.self l.replaced l.character-iterator.rest.now

-- the replacement of the text so far
abbrev pub invariant-loop-before : goal.invariant-loop-before
invariant-loop-before g l = shadow (Utf8 l.rest) × IsPartly l.from l.to l.self l.replaced l.rest

abbrev pub decreases-loop-before : goal.decreases-loop-before
decreases-loop-before g l = length l.rest
