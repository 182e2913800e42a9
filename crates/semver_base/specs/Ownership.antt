-- What is recorded of a type beside its values.
use Rattle.std.specs.Prelude.{◌^◌}
use prog.Memory.{size}
use denote.RattleType.{RattleType}
use denote.Param.{layout}
use base.Fml.{Fml, flt}

-- each value of the type takes fewer than 2 ^ 63 bytes
abbrev pub fits_in_memory : RattleType → Fml
fits_in_memory R = flt (size (layout R)) (2 ^ 63)
