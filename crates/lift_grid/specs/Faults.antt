-- The refusals of a region, as they are told.
use Rattle.std.specs.Prelude.{ℕ, List, codes}
use Rattle.lift_grid.specs.declared.error.RegionError.{RegionError}
use Rattle.lift_grid.specs.declared.error.RegionError.TheVariants.{Syntax, UnknownName, Repeated, Missing, EmptyInterval, Wide, Memory}

-- the name of a refusal
abbrev pub error_name : RegionError → List ℕ
error_name Syntax = codes "Syntax"
error_name UnknownName = codes "UnknownName"
error_name Repeated = codes "Repeated"
error_name Missing = codes "Missing"
error_name EmptyInterval = codes "EmptyInterval"
error_name Wide = codes "Wide"
error_name Memory = codes "Memory"
