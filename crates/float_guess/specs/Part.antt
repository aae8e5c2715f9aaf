-- Parts of the states, whose numbers are guessed. A part has the positions from one on and before another; of its states those are free whose number isn't given.
use Rattle.std.specs.Prelude.{◌≡◌, ℕ, ◌^◌, ◌<◌, ◌≤◌, ◌⊎◌, ◌&&◌, not, nat_lt, Bool, false, List, ℤ, pos, ◌≤ℤ◌, length}
use Rattle.lift_model.specs.Links.{LinksData, AreLinks, position}
use Rattle.corner_lift.specs.Case.{CaseData, number}
use Rattle.corner_lift.specs.Certificate.{AreNumbers}
use Rattle.float_guess.specs.declared.rule.Ends.{Ends}
use Rattle.float_guess.specs.declared.rule.Ends.TheVariants.{Goals}
use Rattle.float_guess.specs.Rule.{is_given}
pub use Rattle.corner_lift.specs.Lifted.{StandsAt}

-- the number of the state isn't given, and it stands at that position
pub record IsFreeAt (ends : Ends) (k : CaseData) (l : LinksData) (at s : ℕ) : Type 0 where
  pub state : s < length k.model.states
  pub free : is_given k.model ends s ≡ false
  pub is : position l s ≡ at

-- whether the number of the state isn't given, and it stands in the part
abbrev pub is_free : Ends → CaseData → LinksData → ℕ → ℕ → ℕ → Bool
is_free ends k l low high s = not (is_given k.model ends s) && (nat_lt s (length k.model.states) && (not (nat_lt (position l s) low) && nat_lt (position l s) high))

-- as many numbers, which are the old ones at all other states than the free ones of the part
pub record IsSameBeyond (ends : Ends) (k : CaseData) (l : LinksData) (low high : ℕ) (old new : List ℤ) : Type 0 where
  pub size : length new ≡ length old
  pub others : (s : ℕ) → is_free ends k l low high s ≡ false → number new s ≡ number old s

-- the state at a position of the part has that number, and all else is as it was
pub record IsWrittenAt (ends : Ends) (k : CaseData) (l : LinksData) (low high at : ℕ) (v : ℤ) (old new : List ℤ) : Type 0 where
  pub same : IsSameBeyond ends k l low high old new
  pub each : (s : ℕ) → (number new s ≡ number old s) ⊎ (number new s ≡ v)
  pub here : low ≤ at → at < high → (s : ℕ) → IsFreeAt ends k l at s → number new s ≡ v

-- numbers from 0 to 2 ^ w, which are the old ones at all other states than the free ones of the part
pub record KeepsBeyond (ends : Ends) (k : CaseData) (l : LinksData) (low high : ℕ) (old new : List ℤ) : Type 0 where
  pub numbers : AreNumbers k new
  pub others : (s : ℕ) → is_free ends k l low high s ≡ false → number new s ≡ number old s

-- the same where the numbers of goal states are given, and no others
abbrev pub is_open : CaseData → LinksData → ℕ → ℕ → ℕ → Bool
is_open k l low high s = is_free Goals k l low high s

-- numbers from 0 to 2 ^ w, which are the old ones at all other states than those of the part that are no goal states
abbrev pub KeepsOthers : CaseData → LinksData → ℕ → ℕ → List ℤ → List ℤ → Type 0
KeepsOthers k l low high old new = KeepsBeyond Goals k l low high old new

-- the free states that stand at positions from one on and before another have numbers from 0 to 2 ^ w
abbrev pub AreRounded : Ends → CaseData → LinksData → ℕ → ℕ → List ℤ → Type 0
AreRounded ends k l low high x = (at : ℕ) → low ≤ at → at < high → (s : ℕ) → IsFreeAt ends k l at s → (pos 0 ≤ℤ number x s) × (number x s ≤ℤ pos (2 ^ k.w))

-- what it needs to guess a part: the links of the case's model, and one number from 0 to 2 ^ w for each state
pub record CanGuess (k : CaseData) (l : LinksData) (x : List ℤ) : Type 0 where
  pub links : AreLinks k.model l
  pub numbers : AreNumbers k x
