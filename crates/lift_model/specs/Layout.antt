-- What the loops that lay out the rows of a model keep.
use Rattle.std.specs.Prelude.{◌≡◌, ℕ, ◌+◌, ◌<◌, ◌≤◌, ◌⊎◌, ◌++◌, List, length, take, sum_by, slice_index_or, slice_range, All}
use Rattle.lift_model.specs.declared.blocks.Blocks.{Blocks}
use Rattle.lift_model.specs.declared.layout.Layout.{Layout}
use Rattle.lift_model.specs.declared.entry.Entry.{Entry}
use Rattle.lift_model.specs.Model.{ModelData, choices, row_at}
use Rattle.lift_model.specs.Links.{HasChoice, HasBlock, Firsts, IsRowPlace, row_number, block_place, all_targets, no_first, no_place}

-- each is a row of the model
abbrev pub AreFirsts : ModelData → Firsts → Type 0
AreFirsts m firsts = (block : ℕ) → block < length firsts → HasChoice m (slice_index_or firsts block no_first).state (slice_index_or firsts block no_first).choice

-- blocks of rows of the model, one after another
pub record AreBlocks (m : ModelData) (blocks : Blocks) : Type 0 where
  pub rows : AreFirsts m blocks.firsts.items
  pub count : length blocks.places.items ≡ length blocks.firsts.items
  pub begins : (block : ℕ) → block < length blocks.firsts.items → slice_index_or blocks.places.items block 0 ≡ block_place m blocks.firsts.items block
  pub total : blocks.weights ≡ block_place m blocks.firsts.items (length blocks.firsts.items)

-- the row has a block that begins at the place, perhaps a new one
pub record IsPlaced (m : ModelData) (old new : Blocks) (row : List Entry) (place : ℕ) : Type 0 where
  pub blocks : AreBlocks m new
  pub grows : (more : Firsts) × (new.firsts.items ≡ old.firsts.items ++ more)
  pub has : HasBlock m new.firsts.items row place

-- the choice b of t comes before the choice a of s
abbrev pub Comes : ModelData → ℕ → ℕ → ℕ → ℕ → Type 0
Comes m t b s a = ((t < s) × (b < length (choices m t))) ⊎ ((t ≡ s) × (b < a))

-- the rows before the choice a of s were laid out
pub record IsLaid (m : ModelData) (layout : Layout) (s a : ℕ) : Type 0 where
  pub count : length layout.rows.items ≡ row_number m s a
  pub entries : length layout.targets.items ≡ sum_by (sum_by length) (take s m.states) + sum_by length (take a (choices m s))
  pub states : All (λ t. t < length m.states) layout.targets.items
  pub blocks : AreBlocks m layout.blocks
  pub places : (t b : ℕ) → Comes m t b s a → IsRowPlace m layout.targets.items layout.blocks.firsts.items (row_at m t b) (slice_index_or layout.rows.items (row_number m t b) no_place)

-- the numbers of the first rows of so many states, and of the row after them
pub record AreRowStarts (m : ModelData) (starts : List ℕ) (states : ℕ) : Type 0 where
  pub count : length starts ≡ states + 1
  pub numbers : (s : ℕ) → s ≤ states → slice_index_or starts s 0 ≡ row_number m s 0

-- the targets are cut into those of each state, of so many
pub record AreCut (m : ModelData) (starts targets : List ℕ) (states : ℕ) : Type 0 where
  pub count : length starts ≡ states + 1
  pub last : slice_index_or starts states 0 ≡ length targets
  pub parts : (s : ℕ) → s < states → (slice_index_or starts s 0 ≤ slice_index_or starts (s + 1) 0) × (slice_range targets (slice_index_or starts s 0) (slice_index_or starts (s + 1) 0) ≡ all_targets m s)
