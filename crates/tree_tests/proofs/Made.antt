-- A room that is as made, is made for the same case.
use Rattle.std.proofs.Common.{◌∙◌}
use Rattle.lift_model.specs.Links.{LinksData}
use Rattle.corner_lift.specs.Case.{CaseData}
use Rattle.region_tree.specs.Rooms.{IsMadeFor, IsAsMade}
use Rattle.region_tree.specs.declared.room.Room.{Room}
use Rattle.region_tree.proofs.Goings.{lanes_kept}

pub still_made : (k : CaseData) (l : LinksData) (old new : Room) → IsMadeFor k l old → IsAsMade old new → IsMadeFor k l new
still_made k l old new made same = record {
  lanes = lanes_kept k.model l old.lanes new.lanes same.lanes made.lanes;
  sides = record {
    lane = same.sides.lanes ∙ made.sides.lane;
    words = rw same.sides.spare made.sides.words;
    depths = rw same.sides.spare_lanes made.sides.depths;
  };
}
