-- What the search works on, and what it finds.
use Rattle.std.specs.Prelude.{◌≡◌, length, map, All}
use Rattle.lift_poly.specs.Polynomial.{Valuation}
use Rattle.lift_model.specs.Model.{ModelData}
use Rattle.lift_model.specs.Valid.{IsModel}
use Rattle.lift_lump.specs.declared.coarsest.Work.{Work}
use Rattle.lift_lump.specs.declared.compared.Quotient as declared
use Rattle.lift_lump.specs.Lumping.{IsAboveRight, IsCoarsest}
use Rattle.lift_lump.specs.Quotient.{block, AreNumbered, quotient}
use Rattle.lift_lump.specs.Search.{IsArrow, AreArrows, arrows_into}
use Rattle.lift_lump.specs.Splitting.{AreInside, AreUsed, AreListed, AreClear, labelled}
use Rattle.lift_lump.specs.Comparing.{blocks_of}

-- The arrows are those of the chain, the lists and sizes are kept, no label but perhaps one is without states, nothing is written down, and every right partition refines the blocks so far.
pub record IsAtWork (m : ModelData) (w : Work) : Type 0 where
  pub valid : IsModel m
  pub count : length w.arrows ≡ length m.states
  pub arrows : All (All (IsArrow (length m.states))) w.arrows
  pub marks : (v : Valuation) × AreArrows m v (arrows_into w.arrows)
  pub inside : AreInside w.part.labels.items w.part.sizes.items w.part.members
  pub used : AreUsed w.part.labels.items (length w.part.members)
  pub listed : AreListed w.part.labels.items w.part.members
  pub size : length w.part.labels.items ≡ length m.states
  pub clear : AreClear (length m.states) w.room.numbers.items w.room.marks.items
  pub above : IsAboveRight m (labelled w.part.labels.items)

-- the coarsest right partition, numbered by least states, and the rows of its quotient
pub record IsFound (m : ModelData) (c : declared.Quotient) : Type 0 where
  pub coarsest : IsCoarsest m (block (blocks_of c.blocks))
  pub numbered : AreNumbered (length m.states) (blocks_of c.blocks)
  pub rows : map (λ v. v.items) c.rows.items ≡ (quotient m (blocks_of c.blocks)).states
