-- What vectors are found on, and in which lanes.
use Rattle.std.specs.Prelude.{◌≡◌, ℕ, ◌*◌, length}
use Rattle.lift_grid.specs.Rectangle.{Spans}
use Rattle.lift_model.specs.Model.{ModelData, row_count}
use Rattle.lift_model.specs.Links.{AreLinks}
use Rattle.corner_lift.specs.Table.{IsTable}
use Rattle.lift_collapse.specs.declared.lanes.Lanes.{Lanes}
use Rattle.lift_collapse.specs.declared.lanes.Rows.{Rows}

-- the links are those of the case's model, and the weights are the table of the rectangle
pub record IsRead (r : Rows) (spans : Spans) : Type 0 where
  pub links : AreLinks r.case.now.model r.links.now
  pub table : IsTable r.case.now r.links.now spans r.weights.now

-- the lanes for so many states with so many rows
pub record AreLanesOf (states rows : ℕ) (l : Lanes) : Type 0 where
  pub values : length l.values.items ≡ states
  pub allowed : length l.allowed.items ≡ rows
  pub ranks : length l.ranks.items ≡ states
  pub picks : length l.picks.items ≡ states
  pub work : length l.work.items ≡ 2 * states

-- the lanes for a model
abbrev pub AreLanesFor : ModelData → Lanes → Type 0
AreLanesFor m l = AreLanesOf (length m.states) (row_count m) l
