-- What the loops that list the states before each state keep. The lists are parts of one flat list: each has its room there, as much as its state is a target.
use Rattle.std.specs.Prelude.{◌≡◌, ℕ, ◌+◌, ◌<◌, ◌≤◌, ◌==◌, ◌⊎◌, Bool, true, false, List, length, count_by, All, Contains, slice_index_or, slice_range}
use Rattle.std.specs.List.Sorted.{IsStrictlyIncreasing}

-- how often the number is in the list
abbrev pub count_of : ℕ → List ℕ → ℕ
count_of u list = count_by (λ t. t == u) list

-- the number at that place, 0 past the end
abbrev pub at : List ℕ → ℕ → ℕ
at list u = slice_index_or list u 0

-- the part of the flat list that belongs to u
abbrev pub part : List ℕ → List ℕ → List ℕ → ℕ → List ℕ
part starts ends states u = slice_range states (at starts u) (at ends u)

-- where a number has a flag, each number in its list is at or behind its position
abbrev pub AreFirst : List ℕ → (ℕ → List ℕ) → List Bool → Type 0
AreFirst positions lists flags = (s : ℕ) → slice_index_or flags s false ≡ true → All (λ p. at positions s ≤ p) (lists s)

-- each start is the sum of the counts before it
pub record AreSums (starts counts : List ℕ) (n : ℕ) : Type 0 where
  pub count : length starts ≡ n + 1
  pub sums : (u : ℕ) → u < n → at starts (u + 1) ≡ at starts u + at counts u

-- so many parts, one after another, each in its room
pub record ArePlaced (starts ends : List ℕ) (size n : ℕ) : Type 0 where
  pub counts : (n + 1 ≤ length starts) × (length ends ≡ n)
  pub rising : (u v : ℕ) → u ≤ v → v ≤ n → at starts u ≤ at starts v
  pub inside : at starts n ≤ size
  pub parts : (u : ℕ) → u < n → (at starts u ≤ at ends u) × (at ends u ≤ at starts (u + 1))

-- each part has room for the targets that it is to be entered at
abbrev pub HaveRoom : List ℕ → List ℕ → ℕ → List ℕ → Type 0
HaveRoom starts ends n targets = (u : ℕ) → u < n → at ends u + count_of u targets ≤ at starts (u + 1)

-- no part grew by more than it was a target
abbrev pub HaveGrown : List ℕ → List ℕ → ℕ → List ℕ → Type 0
HaveGrown old new n targets = (u : ℕ) → u < n → at new u ≤ at old u + count_of u targets

-- the part is not empty, and its last number is s
pub record HasLast (states : List ℕ) (start end s : ℕ) : Type 0 where
  pub some : start < end
  pub last : (i : ℕ) → i + 1 ≡ end → at states i ≡ s

-- ascending states up to s
abbrev pub IsUpTo : ℕ → List ℕ → Type 0
IsUpTo s list = IsStrictlyIncreasing list × All (λ t. t ≤ s) list

-- s is in the list now, at its end if it was not there
pub record IsListed (old new : List ℕ) (s : ℕ) : Type 0 where
  pub kept : (t : ℕ) → Contains old t → Contains new t
  pub listed : Contains new s
  pub only : (t : ℕ) → Contains new t → Contains old t ⊎ (t ≡ s)
  pub ascending : IsUpTo s old → IsUpTo s new

-- s is in the lists of these targets now
pub record IsNoted (n : ℕ) (old new : ℕ → List ℕ) (s : ℕ) (targets : List ℕ) : Type 0 where
  pub kept : (i t : ℕ) → i < n → Contains (old i) t → Contains (new i) t
  pub listed : (i : ℕ) → i < n → Contains targets i → Contains (new i) s
  pub only : (i t : ℕ) → i < n → Contains (new i) t → Contains (old i) t ⊎ ((t ≡ s) × Contains targets i)
  pub ascending : (i : ℕ) → i < n → IsUpTo s (old i) → IsUpTo s (new i)

-- s was entered at these targets
pub record AreEntered (starts old_ends old new_ends new : List ℕ) (n s : ℕ) (targets : List ℕ) : Type 0 where
  pub placed : ArePlaced starts new_ends (length new) n
  pub grown : HaveGrown old_ends new_ends n targets
  pub noted : IsNoted n (part starts old_ends old) (part starts new_ends new) s targets

-- the targets of a state, of those of all
abbrev pub targets_from : List ℕ → List ℕ → ℕ → List ℕ
targets_from targets cuts t = slice_range targets (at cuts t) (at cuts (t + 1))

-- the lists have the first states, so many, that have them as targets
pub record AreListed (n : ℕ) (targets cuts : List ℕ) (lists : ℕ → List ℕ) (s : ℕ) : Type 0 where
  pub ascending : (i : ℕ) → i < n → IsStrictlyIncreasing (lists i) × All (λ t. t < s) (lists i)
  pub only : (i t : ℕ) → i < n → Contains (lists i) t → (t < s) × Contains (targets_from targets cuts t) i
  pub all : (i t : ℕ) → i < n → t < s → Contains (targets_from targets cuts t) i → Contains (lists i) t

-- the cuts lie in the list, one after another
pub record AreCuts (cuts : List ℕ) (n size : ℕ) : Type 0 where
  pub count : length cuts ≡ n + 1
  pub rising : (s : ℕ) → s < n → (at cuts s ≤ at cuts (s + 1)) × (at cuts (s + 1) ≤ size)

-- the states before each of n states, listed
pub record AreSources (n : ℕ) (targets cuts starts ends states : List ℕ) : Type 0 where
  pub placed : ArePlaced starts ends (length states) n
  pub listed : AreListed n targets cuts (part starts ends states) n
