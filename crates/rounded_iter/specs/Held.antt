-- Held states. While a state is held at a number, the others rise from a vector that is at most each bound that has as much there. A component has the positions from one on and before another.
use Rattle.std.specs.Prelude.{◌≡◌, ℕ, zero, suc, ◌-◌, ◌<◌, ◌≤◌, ◌^◌, false, List, [], ◌∷◌, ℤ, pos, ◌≤ℤ◌, length, slice_index_or}
use Rattle.lift_model.specs.Links.{position}
use Rattle.corner_lift.specs.Case.{CaseData, number}
use Rattle.corner_lift.specs.Certificate.{AtMost}
use Rattle.float_guess.specs.declared.rule.Rule.{Rule}
use Rattle.float_guess.specs.Rule.{is_given}
use Rattle.rounded_iter.specs.declared.steering.Component.{Component}
use Rattle.rounded_iter.specs.declared.held.Search.{Search}
use Rattle.rounded_iter.specs.Rising.{TableData, Run, IsBelow, IsEnoughEverywhere}
use Rattle.rounded_iter.specs.Watching.{count, CanClimb}

-- the vector with this number at a state; where it has none, it has 0
abbrev pub with_held : List ℤ → ℕ → ℤ → List ℤ
with_held [] zero c = c ∷ []
with_held [] (suc f) c = pos 0 ∷ with_held [] f c
with_held (n ∷ x) zero c = c ∷ x
with_held (n ∷ x) (suc f) c = n ∷ with_held x f c

-- the iteration in which a state is held at a number besides: only bounds count that have as much there
abbrev pub holding : Run → ℕ → ℤ → Run
holding run f c = record { spans = run.spans; from = with_held run.from f c }

-- the iteration in which the state of a component is held that it tells, at the number that it tells
abbrev pub beside : TableData → Run → Component → Run
beside t run p = holding run (slice_index_or t.links.order p.held 0) p.number

-- the state stands at one of the positions of a component
pub record IsInside (t : TableData) (low high s : ℕ) : Type 0 where
  pub state : s < count t
  pub from : low ≤ position t.links s
  pub to : position t.links s < high

-- it stands elsewhere
abbrev pub IsOutside : TableData → ℕ → ℕ → ℕ → Type 0
IsOutside t low high s = IsInside t low high s → ⊥

-- a state may be held that stands at that position of the component: its number isn't given
pub record CanHold (t : TableData) (low high at : ℕ) : Type 0 where
  pub from : low ≤ at
  pub to : at < high
  pub state : slice_index_or t.links.order at 0 < count t
  pub free : is_given t.case.model t.rule.ends (slice_index_or t.links.order at 0) ≡ false

-- numbers of a component were raised, and no others
pub record IsRaisedIn (t : TableData) (run : Run) (low high : ℕ) (old new : List ℤ) : Type 0 where
  pub below : IsBelow t.rule t.case run new
  pub outside : (s : ℕ) → IsOutside t low high s → number new s ≡ number old s

-- ---- numbers of a component that are kept

-- which of them is that of a state
abbrev pub kept_of : TableData → ℕ → List ℤ → ℕ → ℤ
kept_of t low kept s = number kept (position t.links s - low)

-- they are those of the vector
abbrev pub AreKept : TableData → ℕ → ℕ → List ℤ → List ℤ → Type 0
AreKept t low high x kept = (s : ℕ) → IsInside t low high s → kept_of t low kept s ≡ number x s

-- the vector has them in the component, and is as it was elsewhere
pub record IsRestored (t : TableData) (low high : ℕ) (kept old new : List ℤ) : Type 0 where
  pub inside : AreKept t low high new kept
  pub outside : (s : ℕ) → IsOutside t low high s → number new s ≡ number old s

-- a number from 0 to 2 ^ w is at most that of a state in every bound that counts
pub record IsUnder (r : Rule) (k : CaseData) (run : Run) (s : ℕ) (v : ℤ) : Type 0 where
  pub range : (pos 0 ≤ℤ v) × (v ≤ℤ pos (2 ^ k.w))
  pub least : (y : List ℤ) → IsEnoughEverywhere r k run.spans y → AtMost run.from y → v ≤ℤ number y s

-- so is each of them
abbrev pub AreUnder : TableData → Run → ℕ → ℕ → List ℤ → Type 0
AreUnder t run low high kept = (s : ℕ) → IsInside t low high s → IsUnder t.rule t.case run s (kept_of t low kept s)

-- each of them is at most each bound that has so much, or more, where the state of the component is held
pub record IsAbove (t : TableData) (run : Run) (p : Component) (kept : List ℤ) (high : ℤ) : Type 0 where
  pub range : (pos 0 ≤ℤ p.number) × (p.number ≤ℤ high) × (high ≤ℤ pos (2 ^ t.case.w))
  pub under : AreUnder t (holding run (slice_index_or t.links.order p.held 0) high) p.low p.high kept

-- What a search has: the numbers of the vector, from which it goes on, and others that are at most each bound that has so much, or more, where the state is held.
pub record IsSearch (t : TableData) (run : Run) (p : Component) (x : List ℤ) (search : Search) : Type 0 where
  pub base : AreKept t p.low p.high x search.base
  pub range : (pos 0 ≤ℤ search.high) × (search.high ≤ℤ pos (2 ^ t.case.w))
  pub under : AreUnder t (holding run (slice_index_or t.links.order p.held 0) search.high) p.low p.high search.settled

-- what it needs to go on
pub record CanLook (t : TableData) (run : Run) (p : Component) (x : List ℤ) (work : List ℕ) (search : Search) : Type 0 where
  pub climb : CanClimb t run x work
  pub can : CanHold t p.low p.high p.held
  pub inside : p.high ≤ count t
  pub places : (p.high - p.low ≤ length search.base) × (p.high - p.low ≤ length search.settled)
  pub is : IsSearch t run p x search
