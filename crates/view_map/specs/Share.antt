-- Shares of the region's volume. A leaf below h splits has the share 1/2^h, since each of them halves a rectangle; shares are told in units of 1/2^20, which no leaf is below.
use Rattle.std.specs.Prelude.{ℕ, ◌-◌, ◌^◌, ◌==◌, ◌&&◌, Bool, true, false, List, sum_by, count_by, if◌then◌else◌}
use Rattle.view_map.specs.Parts.{PartData}
use Rattle.view_map.specs.declared.part.LeafKind.{LeafKind}
use Rattle.view_map.specs.declared.part.LeafKind.TheVariants.{Accept, Reject, Unknown}

-- the whole volume, in units
abbrev pub whole_volume : ℕ
whole_volume = 2 ^ 20

-- a leaf's share
abbrev pub share : PartData → ℕ
share p = 2 ^ (20 - p.depth)

-- whether a kind is that kind
abbrev pub is_kind : LeafKind → LeafKind → Bool
is_kind Accept Accept = true
is_kind Reject Reject = true
is_kind Unknown Unknown = true
is_kind _ _ = false

-- a leaf's share where it is of that kind, and else nothing
abbrev pub share_as : LeafKind → PartData → ℕ
share_as kind p = if is_kind kind p.kind then share p else 0

-- the share of the leaves of a kind
abbrev pub share_of : LeafKind → List PartData → ℕ
share_of kind ps = sum_by (share_as kind) ps

-- the share of all leaves
abbrev pub total_share : List PartData → ℕ
total_share ps = sum_by share ps

-- how many leaves there are of a kind
abbrev pub leaf_count : LeafKind → List PartData → ℕ
leaf_count kind ps = count_by (λ p. is_kind kind p.kind) ps

-- how many leaves there are of a kind at a depth
abbrev pub leaf_count_at : LeafKind → ℕ → List PartData → ℕ
leaf_count_at kind depth ps = count_by (λ p. is_kind kind p.kind && (p.depth == depth)) ps
