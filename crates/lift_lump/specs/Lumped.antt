-- What lumping answers.
use Rattle.std.specs.Prelude.{◌≡◌, ◌<◌, length, unsigned_abs, All}
use Rattle.lift_model.specs.declared.entry.Entry.{Entry}
use Rattle.lift_model.specs.Model.{ModelData}
use Rattle.lift_model.specs.Valid.{coefficient_limit}
use Rattle.lift_lump.specs.Lumping.{IsCoarsest}
use Rattle.lift_lump.specs.Quotient.{Blocks, block, AreNumbered, quotient}
use Rattle.lift_lump.specs.LumpedData.{LumpedData}
use Rattle.lift_lump.specs.Laws.{HasSmallCoefficients}

-- the coefficients of an entry are small
abbrev pub IsSmallEntry : Entry → Type 0
IsSmallEntry entry = All (λ term. unsigned_abs term.1 < coefficient_limit) entry.poly

-- the quotient by the coarsest right partition, the blocks being numbered by their least states
pub record IsLumped (m : ModelData) (l : LumpedData) : Type 0 where
  pub coarsest : IsCoarsest m (block l.blocks)
  pub numbered : AreNumbered (length m.states) l.blocks
  pub model : l.model ≡ quotient m l.blocks

-- there is a coarsest right partition, numbered by least states, and the quotient by it has a coefficient that is too large
pub record IsWide (m : ModelData) : Type 0 where
  pub some : (p : Blocks) × (IsCoarsest m (block p) × AreNumbered (length m.states) p)
  pub wide : (p : Blocks) → IsCoarsest m (block p) → AreNumbered (length m.states) p → HasSmallCoefficients (quotient m p) → ⊥
