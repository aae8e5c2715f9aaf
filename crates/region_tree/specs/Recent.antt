-- The rectangles of a walk that were decided last, and what they tell of another one. At a valuation that two rectangles share, an accepting certificate of the one and a rejecting certificate of the other would tell of the same process, so there aren't both.
use Rattle.std.specs.Prelude.{◌≡◌, true, ℕ, ◌*◌, ◌<◌, List, [], ◌∷◌, ℤ, ◌≤ℤ◌, ◌↔◌, slice_index_or, Option, Some, None, IsFalse}
use Rattle.lift_pool.specs.Lanes.{PoolData}
use Rattle.lift_pool.specs.Shapes.{HasLanes}
pub use Rattle.lift_pool.specs.Shapes.{IsSameShape}
use Rattle.lift_grid.specs.Rectangle.{Spans, spans_of}
use Rattle.lift_model.specs.Valid.{most_parameters}
use Rattle.region_tree.specs.declared.decided.Outlook.{Outlook}
use Rattle.region_tree.specs.declared.side.Side.{Side}
use Rattle.region_tree.specs.declared.side.Side.TheVariants.{Above, Below}

-- how many rectangles of a kind are noted at most
abbrev pub most_noted : ℕ
most_noted = 32

-- a pool with a lane for the sides of each rectangle that is noted, and how many of these lanes are in use, from the first one on
pub record RecentData : Type 0 where
  pub sides : PoolData ℤ
  pub count : ℕ

-- how many ends a rectangle has at most: two for each parameter that a model can have
abbrev pub most_ends : ℕ
most_ends = 2 * most_parameters

-- there are all places, each for so many ends
abbrev pub HasPlaces : ℕ → RecentData → Type 0
HasPlaces ends r = HasLanes r.sides most_noted ends

-- the sides of the rectangle at a place
abbrev pub sides_at : RecentData → ℕ → List ℤ
sides_at r i = slice_index_or r.sides.lanes i []

-- two rectangles share a valuation: of each parameter their spans share a value, be it an end of both
abbrev pub Meet : Spans → Spans → Type 0
Meet [] [] = Unit {0}
Meet (s ∷ ss) (t ∷ ts) = (s.0 ≤ℤ t.1) × (t.0 ≤ℤ s.1) × Meet ss ts
Meet _ _ = ⊥

-- a rectangle that is noted shares a valuation with this one
abbrev pub MeetsOne : Spans → RecentData → Type 0
MeetsOne spans r = (i : ℕ) × ((i < r.count) × Meet (spans_of (sides_at r i)) spans)

-- The rectangle with these sides is noted at a place. At the others in use stands what stood there.
pub record IsNotedAt (place : ℕ) (sides : List ℤ) (old new : RecentData) : Type 0 where
  pub used : place < new.count
  pub noted : sides_at new place ≡ sides
  pub others : (i : ℕ) → i < new.count → (i ≡ place → ⊥) → (i < old.count) × (sides_at new i ≡ sides_at old i)

-- it is noted at some place
abbrev pub IsNoted : List ℤ → RecentData → RecentData → Type 0
IsNoted sides old new = (place : ℕ) × IsNotedAt place sides old new

-- the rectangles that were accepted last, and those that were rejected last
pub record DecidedData : Type 0 where
  pub accepted : RecentData
  pub rejected : RecentData

-- there are all places for both kinds, each for so many ends
pub record HasAllPlaces (ends : ℕ) (d : DecidedData) : Type 0 where
  pub accepted : HasPlaces ends d.accepted
  pub rejected : HasPlaces ends d.rejected

-- Both have the shape that they had.
pub record KeepsPlaces (old new : DecidedData) : Type 0 where
  pub accepted : IsSameShape old.accepted.sides new.accepted.sides
  pub rejected : IsSameShape old.rejected.sides new.rejected.sides

-- none is noted any more
abbrev pub forgotten : DecidedData → DecidedData
forgotten d = record { accepted = record d.accepted { count = 0 }; rejected = record d.rejected { count = 0 } }

-- the rectangle with these sides is noted with those that were accepted
abbrev pub NotesAccepted : List ℤ → DecidedData → DecidedData → Type 0
NotesAccepted sides old new = IsNoted sides old.accepted new.accepted × (new.rejected ≡ old.rejected)

-- it is noted with those that were rejected
abbrev pub NotesRejected : List ℤ → DecidedData → DecidedData → Type 0
NotesRejected sides old new = IsNoted sides old.rejected new.rejected × (new.accepted ≡ old.accepted)

-- it is noted with its kind, if it is decided
abbrev pub Notes : List ℤ → Option Side → DecidedData → DecidedData → Type 0
Notes sides (Some Above) old new = NotesAccepted sides old new
Notes sides (Some (Below rate)) old new = NotesRejected sides old new
Notes sides None old new = new ≡ old

-- what rectangles that are noted tell of another one: it isn't to be accepted exactly where it shares a valuation with one that was rejected, and not to be rejected exactly where with one that was accepted
pub record IsInferred (d : DecidedData) (spans : Spans) (o : Outlook) : Type 0 where
  pub accepts : IsFalse o.may_accept ↔ MeetsOne spans d.rejected
  pub rejects : IsFalse o.may_reject ↔ MeetsOne spans d.accepted

-- certificates from that side are looked for
abbrev pub LooksFrom : Side → Outlook → Type 0
LooksFrom Above o = o.may_accept ≡ true
LooksFrom (Below rate) o = o.may_reject ≡ true
