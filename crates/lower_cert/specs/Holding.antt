-- Holding a state at a number while the others are lowered: what is known then of the lower vectors that have at most this number there.
use Rattle.std.specs.Prelude.{◌≡◌, ◌≢◌, ◌==◌, ℕ, ◌+◌, ◌-◌, ◌^◌, ◌<◌, ◌≤◌, true, false, List, ℤ, pos, ◌≤ℤ◌, int_le, length, if◌then◌else◌}
use Rattle.lift_grid.specs.Tree.{RejectData}
use Rattle.lift_model.specs.Model.{is_goal}
use Rattle.lift_model.specs.Links.{LinksData}
use Rattle.corner_lift.specs.Case.{CaseData, number}
use Rattle.corner_lift.specs.Certificate.{AreNumbers, IsLower}
use Rattle.float_guess.specs.Part.{StandsAt, is_open}
use Rattle.lower_cert.specs.Lowering.{Run}
use Rattle.lower_cert.specs.declared.held.Held.{Held}
use Rattle.lower_cert.specs.declared.held.Search.{Search}

-- the lesser of two numbers
abbrev pub lesser : ℤ → ℤ → ℤ
lesser a b = if int_le a b then a else b

-- f is held at c: of the lower vectors under the ceiling, those that have at most c there
abbrev pub holding : Run → ℕ → ℤ → Run
holding run f c = record { spans = run.spans; ceiling = λ s. if s == f then lesser c (run.ceiling s) else run.ceiling s }

-- every lower vector under the ceiling is at most v at the state
abbrev pub IsAboveAt : CaseData → Run → ℕ → ℤ → Type 0
IsAboveAt k run s v = (y : RejectData) → IsLower k run.spans y → ((t : ℕ) → number y.numbers t ≤ℤ run.ceiling t) → number y.numbers s ≤ℤ v

-- a vector whose numbers are at or above every lower vector under the ceiling but in a part, where nothing is known of them
pub record IsHighBeyond (k : CaseData) (l : LinksData) (run : Run) (low high : ℕ) (x : List ℤ) : Type 0 where
  pub numbers : AreNumbers k x
  pub goal : (s : ℕ) → is_goal k.model s ≡ true → number x s ≡ pos (2 ^ k.w)
  pub above : (s : ℕ) → is_open k l low high s ≡ false → IsAboveAt k run s (number x s)

-- numbers from 0 to 2 ^ w
abbrev pub AreInRange : CaseData → List ℤ → Type 0
AreInRange k saved = (i : ℕ) → (pos 0 ≤ℤ number saved i) × (number saved i ≤ℤ pos (2 ^ k.w))

-- the number that the state at a position has in a vector stands at a place, and all else is as it was
pub record IsSavedAt (k : CaseData) (l : LinksData) (x : List ℤ) (at place : ℕ) (old new : List ℤ) : Type 0 where
  pub others : (i : ℕ) → i ≢ place → number new i ≡ number old i
  pub here : (s : ℕ) → StandsAt k l at s → number new place ≡ number x s

-- the numbers that a part's states have in a vector, by their positions in the part
abbrev pub AreSaved : CaseData → LinksData → List ℤ → ℕ → ℕ → List ℤ → Type 0
AreSaved k l x low high saved = (at s : ℕ) → low ≤ at → at < high → StandsAt k l at s → number saved (at - low) ≡ number x s

-- every lower vector under the ceiling is at most these at the states of a part
abbrev pub AreAbove : CaseData → LinksData → Run → ℕ → ℕ → List ℤ → Type 0
AreAbove k l run low high saved = (at s : ℕ) → low ≤ at → at < high → StandsAt k l at s → IsAboveAt k run s (number saved (at - low))

-- the held state stands in the part
pub record IsPlace (k : CaseData) (l : LinksData) (h : Held) : Type 0 where
  pub part : h.part.high ≤ length l.order
  pub from : h.part.low ≤ h.position
  pub to : h.position < h.part.high
  pub stands : StandsAt k l h.position h.state

-- the same held state and the same numbers
pub record IsSameSearch (old new : Search) : Type 0 where
  pub held : new.held ≡ old.held
  pub base : new.base ≡ old.base
  pub low : new.low ≡ old.low
  pub settled : new.settled ≡ old.settled

-- the base is at or above every lower vector under the ceiling, and what settled is so under the ceiling with the held state at the low number
pub record IsSearch (k : CaseData) (l : LinksData) (run : Run) (q : Search) : Type 0 where
  pub place : IsPlace k l q.held
  pub low : pos 0 ≤ℤ q.low
  pub room : (q.held.part.high ≤ q.held.part.low + length q.base) × (q.held.part.high ≤ q.held.part.low + length q.settled)
  pub base_range : AreInRange k q.base
  pub settled_range : AreInRange k q.settled
  pub base : AreAbove k l run q.held.part.low q.held.part.high q.base
  pub settled : AreAbove k l (holding run q.held.state q.low) q.held.part.low q.held.part.high q.settled
