-- What links keep by themselves.
use Rattle.std.specs.Prelude.{◌≡◌, ℕ, ◌+◌, ◌<◌, ◌≤◌, length, slice_index_or}
use Rattle.lift_model.specs.declared.links.Links.TheInside.{Inside}
use Rattle.lift_model.specs.Links.{LinksData, state_count}
use Rattle.lift_model.specs.OnlyRow.{AreOnlyRowsIn}

-- the flat lists as they are kept
abbrev pub links_of : Inside → LinksData
links_of l = record {
  row_starts = l.row_starts.items;
  rows = l.rows.items;
  targets = l.targets.items;
  firsts = l.firsts.items;
  weights = l.weights;
  starts = l.starts.items;
  ends = l.ends.items;
  before = l.before.items;
  before_positions = l.before_positions.items;
  order = l.order.items;
  component_ends = l.component_ends.items;
  positions = l.positions.items;
  lone = l.lone.items;
}

-- what the lists keep by themselves: their parts lie inside them
pub record AreStored (l : LinksData) : Type 0 where
  pub row_starts : state_count l + 1 ≤ length l.row_starts
  pub rows : (s : ℕ) → s < state_count l → (slice_index_or l.row_starts s 0 ≤ slice_index_or l.row_starts (s + 1) 0) × (slice_index_or l.row_starts (s + 1) 0 ≤ length l.rows)
  pub lists : (state_count l ≤ length l.starts) × (state_count l ≤ length l.ends)
  pub parts : (s : ℕ) → s < state_count l → (slice_index_or l.starts s 0 ≤ slice_index_or l.ends s 0) × (slice_index_or l.ends s 0 ≤ length l.before)
  pub positions : length l.before_positions ≡ length l.before
  pub order : (length l.order ≡ state_count l) × (length l.component_ends ≡ state_count l)

-- what the only rows of states are told as, by the other lists
abbrev pub AreOnlyRows : Inside → Type 0
AreOnlyRows l = AreOnlyRowsIn l.row_starts.items l.rows.items l.targets.items l.only_rows.items
