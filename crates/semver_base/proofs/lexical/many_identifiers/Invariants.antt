use Rattle.std.proofs.Common.{length}
use denote.Text.{Utf8}
use denote.Shadow.{shadow}
use Rattle.semver_base.specs.Lexical.{IsByte, IsIdentifier}
use Rattle.semver_base.specs.ListLaws.{SoFar}
use Rattle.semver_base.proofs.lexical.many_identifiers.Given as goal

abbrev pub invariant-loop-next : goal.invariant-loop-next
invariant-loop-next l = record { is_text : shadow (Utf8 l.rest); so_far : SoFar IsIdentifier (IsByte 46) l.text l.ids.items l.rest }

abbrev pub decreases-loop-next : goal.decreases-loop-next
decreases-loop-next l = length l.rest
