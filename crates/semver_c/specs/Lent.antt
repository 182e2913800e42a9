-- How a handle ends whose value was lent.
use Rattle.std.specs.Prelude.{◌≡◌, Some, ⊤}
use mathlib.Core.Option.{none}
use base.Fml.{Fml}
use denote.Ref.{MutBor}
use denote.Follow.{follows, follows_so}
use Rattle.semver_c.specs.declared.handles.Handle.{Handle}
use Rattle.semver_c.specs.declared.handles.Held.{Held}
use Rattle.semver_c.specs.contracts.handles.Handle.{the_row as handle_row}
use Rattle.semver_c.specs.contracts.handles.Held.{the_row as held_row}

-- the handle with this value
abbrev pub with_held : Handle → Held → Handle
with_held h x = record { at = h.at; value = Some x }

-- once the borrow r ends, the handle behind h has the last value written through r
abbrev pub handle_follows : MutBor Handle → MutBor Held → Fml
handle_follows h r = follows handle_row held_row h.ghost_name r.ghost_name (with_held h.now)

-- once a borrow ends that only reads, the handle behind h has the value that it had
abbrev pub handle_stays : MutBor Handle → Fml
handle_stays h = follows_so handle_row handle_row h.ghost_name none (λ _ _. ⊤) (λ handle. handle.value ≡ h.now.value)
