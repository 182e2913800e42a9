-- A `&` to a `Small` says the same of the type.
use denote.RattleType.{RattleType}
use denote.Param.Laws.{Laws}
use denote.Param.Shared.{copy_shared}
use denote.SharingLaws.{said_shr_laws}
use denote.Struct.Laws.{field_copy}
use denote.Struct.Lending.{Lends-said, of_Lends}
use Rattle.std.specs.contracts.marker.PhantomData as marker
use Rattle.semver_base.specs.Ownership.{fits_in_memory}
use Rattle.semver_base.specs.contracts.string.inline_items.Small as C
use Rattle.semver_base.proofs.string.inline_items.Small.TheLaw.Statement.{statement}

pub shares : (T : RattleType) (L : Laws T) → statement T L
shares T L = of_Lends (C.struct T) (C.the_codes T.Denot T.coded) (C.the_heap T) (C.the_lent T)
    (λ d p. said_shr_laws (fits_in_memory T) tt)
    (copy_shared (marker.the_field T) (field_copy (marker.the_type T) tt), tt)
    (λ M 𝓤 𝓛 d p. Lends-said 𝓛 (fits_in_memory T) tt (C.the_row T).lives)
