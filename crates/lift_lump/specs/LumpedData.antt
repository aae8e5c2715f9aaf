-- What a lumped chain is seen as.
use Rattle.lift_model.specs.Model.{ModelData}
use Rattle.lift_lump.specs.Quotient.{Blocks}

-- the quotient, and the blocks of the chain's states
pub record LumpedData : Type 0 where
  pub model : ModelData
  pub blocks : Blocks
