-- Where the lowering of a part of the states begins: from 1, from a guess, or from a vector that no choice lets rise. A part has the positions from one on and before another.
use Rattle.std.specs.Prelude.{◌≡◌, ◌≢◌, ℕ, ◌^◌, ◌<◌, ◌≤◌, ◌⊎◌, List, ℤ, pos, ◌*ℤ◌, ◌≤ℤ◌, length, slice_index_or}
use Rattle.lift_grid.specs.Rectangle.{Spans}
use Rattle.lift_model.specs.Model.{choices, row_at}
use Rattle.lift_model.specs.Links.{LinksData}
use Rattle.corner_lift.specs.Corner.{corner_sum, whole}
use Rattle.corner_lift.specs.Case.{CaseData, number}
use Rattle.float_guess.specs.Part.{StandsAt, KeepsOthers}
use Rattle.float_guess.specs.Notes.{low_word, noted_word}
use Rattle.lower_cert.specs.Capping.{AtSomeCorner}

-- the choice doesn't let its state rise: at some corner its weighted mean is at most the state's number
abbrev pub IsClosedChoice : CaseData → Spans → List ℤ → ℕ → ℕ → Type 0
IsClosedChoice k spans x s a = AtSomeCorner k spans s a (λ c. corner_sum k.d spans (row_at k.model s a) c (number x) ≤ℤ (number x s *ℤ whole k.model k.d spans (row_at k.model s a)))

-- no choice lets the state rise
abbrev pub IsClosedState : CaseData → Spans → List ℤ → ℕ → Type 0
IsClosedState k spans x s = (a : ℕ) → a < length (choices k.model s) → IsClosedChoice k spans x s a

-- no choice lets the state at a position rise
abbrev pub IsClosedPosition : CaseData → LinksData → Spans → List ℤ → ℕ → Type 0
IsClosedPosition k l spans x at = (s : ℕ) → StandsAt k l at s → IsClosedState k spans x s

-- no choice lets a state of a part rise
abbrev pub IsClosedPart : CaseData → LinksData → Spans → List ℤ → ℕ → ℕ → Type 0
IsClosedPart k l spans x low high = (at : ℕ) → low ≤ at → at < high → IsClosedPosition k l spans x at

-- the states of a part have that number
abbrev pub AreAll : CaseData → LinksData → List ℤ → ℤ → ℕ → ℕ → Type 0
AreAll k l x v low high = (at : ℕ) → low ≤ at → at < high → (s : ℕ) → StandsAt k l at s → number x s ≡ v

-- the state at a position of the part has that number, and all else is as it was
pub record IsFilledAt (k : CaseData) (l : LinksData) (low high at : ℕ) (v : ℤ) (old new : List ℤ) : Type 0 where
  pub kept : KeepsOthers k l low high old new
  pub each : (s : ℕ) → (number new s ≡ number old s) ⊎ (number new s ≡ v)
  pub here : (s : ℕ) → StandsAt k l at s → number new s ≡ v

-- the low bits of the number of the state at a position were noted, and all else is as it was or noted
pub record IsNotedAt (k : CaseData) (l : LinksData) (x : List ℤ) (at : ℕ) (old new : List ℕ) : Type 0 where
  pub each : (s : ℕ) → (slice_index_or new s 0 ≡ slice_index_or old s 0) ⊎ (noted_word (slice_index_or new s 0) ≡ low_word (number x s))
  pub here : (s : ℕ) → StandsAt k l at s → noted_word (slice_index_or new s 0) ≡ low_word (number x s)

-- those of the states of a part were noted
abbrev pub IsNotedPart : CaseData → LinksData → List ℤ → List ℕ → ℕ → ℕ → Type 0
IsNotedPart k l x noted low high = (at : ℕ) → low ≤ at → at < high → (s : ℕ) → StandsAt k l at s → noted_word (slice_index_or noted s 0) ≡ low_word (number x s)

-- the state at a position has another number than the one of which that was noted, or 2 ^ w, above which there is none
abbrev pub IsOtherAt : CaseData → LinksData → List ℤ → List ℕ → ℕ → Type 0
IsOtherAt k l x noted at = (s : ℕ) → StandsAt k l at s → (noted_word (slice_index_or noted s 0) ≢ low_word (number x s)) ⊎ (number x s ≡ pos (2 ^ k.w))

-- so has each state of a part
abbrev pub AreOther : CaseData → LinksData → List ℤ → List ℕ → ℕ → ℕ → Type 0
AreOther k l x noted low high = (at : ℕ) → low ≤ at → at < high → IsOtherAt k l x noted at
