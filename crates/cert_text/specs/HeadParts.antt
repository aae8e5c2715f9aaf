-- How the parts of a head are read, and how they are seen.
use Rattle.std.specs.Prelude.{ℕ, ◌+◌, Bool, Ok, codes, map, pos}
use Rattle.lift_frac.specs.Limits.{size_limit}
use Rattle.lift_model.specs.Valid.{most_states, common_limit}
use Rattle.corner_lift.specs.Case.{case_of, most_halvings, most_precision}
use Rattle.line_text.specs.Reading.{◌>>=◌, Reader, line_at}
use Rattle.line_text.specs.Parts.{number_in}
use Rattle.cert_text.specs.declared.head_parts.Sizes.{Sizes}
use Rattle.cert_text.specs.declared.head_parts.Asked.{Asked}
use Rattle.cert_text.specs.declared.head_parts.Parts.{Parts}
use Rattle.cert_text.specs.Lines.{bound_of, box_of}
use Rattle.cert_text.specs.Head.{HeadData, from_at}

-- the common denominator, the number of states and the initial state, line by line
unfoldable pub sizes_at : Reader Sizes
sizes_at c = do
  common ← line_at (number_in (codes "common") 1 common_limit) c
  states ← line_at (number_in (codes "states") 1 (most_states + 1)) common.1
  init ← line_at (number_in (codes "init") 0 states.0) states.1
  Ok (record { common = common.0; states = states.0; init = init.0 }, init.1)

-- what is asked of a model with so many parameters, line by line
unfoldable pub asked_at : Bool → ℕ → Reader Asked
asked_at second parameters c = do
  bound ← line_at bound_of c
  w ← line_at (number_in (codes "precision") 1 (most_precision + 1)) bound.1
  from ← from_at second w.0 w.1
  depth ← line_at (number_in (codes "depth") 0 (most_halvings + 1)) from.1
  grid ← line_at (number_in (codes "grid") 1 size_limit) depth.1
  root ← line_at (box_of parameters depth.0) grid.1
  Ok (record { bound = bound.0; precisions = record { from = from.0; w = w.0 }; depth = depth.0; d = grid.0; root = root.0 }, root.1)

-- the head of these parts
abbrev pub head_of : Parts → HeadData
head_of p = record {
  asked = case_of
      (record { kind = p.kind; common = pos p.sizes.common; names = p.names; goal = p.goal.items; init = p.sizes.init; states = map (λ v. v.items) p.states.items })
      (record { d = pos p.asked.d; depth = p.asked.depth; spans = p.asked.root })
      p.asked.precisions.w;
  from = p.asked.precisions.from;
  bound = p.asked.bound;
}
