-- The code's values as the definition of a region sees them.
use Rattle.lift_frac.specs.Frac.{answer_of, ratio_of}
use Rattle.lift_grid.specs.Region.{Clause, Interval, Region}
use Rattle.lift_grid.specs.declared.clause.ClauseText.{ClauseText}
use Rattle.lift_grid.specs.Rectangle.{Spans}
use Rattle.lift_grid.specs.declared.rect.Grid.{Grid}
use Rattle.lift_grid.specs.declared.interval.Interval as code

-- a clause without where it lies in memory
abbrev pub clause_of : ClauseText → Clause
clause_of c = record { low = answer_of c.low; name = c.name.now; high = answer_of c.high }

-- an interval whose ends are ratios
abbrev pub ratios_of : code.Interval → Interval
ratios_of i = record { parameter = i.parameter; low = ratio_of i.low; high = ratio_of i.high }

-- a grid with a rectangle over it
abbrev pub region_of : Grid × Spans → Region
region_of p = record { d = p.0.d; depth = p.0.depth; spans = p.1 }
