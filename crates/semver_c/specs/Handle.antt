-- What a handle owns: if it holds a value, that value on the heap, with the right to free it; else its pointer is null.
use Rattle.std.specs.Prelude.{◌≡◌, Option, None, Some}
use Rattle.std.specs.Box.Ownership.{box_owns}
use Rattle.std.specs.contracts.impls.GlobalAllocator.TheImpl.{ghosts}
use Rattle.semver_c.specs.contracts.handles.Held as row
use Rattle.semver_c.specs.declared.handles.Held.{Held}
use base.Fml.{Fml, ftrue, fex}
use mir.Syntax.{Ty}
use denote.RawPtr.{Ptr, null_ptr}

-- the right to free a block of the program's heap, which is the same through each handle to that heap
abbrev pub heap_token : Ty → Ptr → Fml
heap_token = ghosts.dealloc_token (record { memory = record { seal = tt } })

abbrev pub owns_held : Ptr → Option Held → Fml
owns_held p (Some x) = box_owns heap_token row.the_row p x
owns_held p None = fex (p ≡ null_ptr) (λ _. ftrue)

-- the handle holds a value
abbrev pub Holds : {V : Type 0} → Option V → Type 0
Holds {V} value = (x : V) × (value ≡ Some x)
