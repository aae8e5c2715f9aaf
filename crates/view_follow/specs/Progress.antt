-- How far a report has come, and what is told of it.
use Rattle.std.specs.Prelude.{◌≡◌, ℕ, ◌+◌, ◌-◌, ◌*◌, ◌/◌, ◌^◌, min, nat_lt, bit_and, List, [], ◌∷◌, ◌++◌, codes, if◌then◌else◌}
use Rattle.std.specs.declared.option.Option.{Option}
use Rattle.std.specs.Fmt.{decimal}
use Rattle.lift_base.specs.Outside.{Wrote}
use Rattle.lift_base.specs.Laws.{Written}
use Rattle.view_follow.specs.Nodes.{nodes_in, nodes_ended, line_after}
use Rattle.view_follow.specs.declared.line.NodeLine.{NodeLine}
use Rattle.view_follow.specs.declared.line.NodeLine.TheVariants.{Split, Accept, Reject, Unknown}
use Rattle.view_follow.specs.declared.progress.Lines.{Lines}
use Rattle.view_follow.specs.declared.progress.Lines.TheVariants.{Over, Apart}
use Rattle.view_follow.specs.declared.progress.Progress.{Progress}
use Rattle.view_follow.specs.declared.shares.Shares.{Shares}

-- the region's volume, in the units of shares
abbrev pub whole : ℕ
whole = 2 ^ 20

-- the shares of the leaves that have come, of each kind
pub record SharesData : Type 0 where
  pub accepted : ℕ
  pub rejected : ℕ
  pub unknown : ℕ

-- their sum
abbrev pub share_sum : SharesData → ℕ
share_sum s = s.accepted + s.rejected + s.unknown

-- how much of a share is counted: nothing goes beyond the whole
abbrev pub counted : SharesData → ℕ → ℕ
counted s share = min share (whole - share_sum s)

-- the shares with that of a leaf more
abbrev pub with_leaf : SharesData → NodeLine → ℕ → SharesData
with_leaf s Split share = s
with_leaf s Accept share = record s { accepted = s.accepted + counted s share }
with_leaf s Reject share = record s { rejected = s.rejected + counted s share }
with_leaf s Unknown share = record s { unknown = s.unknown + counted s share }

-- the greatest power of 2 that divides a number of units
abbrev pub greatest_power : ℕ → ℕ
greatest_power n = bit_and n (2 * whole - n)

-- how far a report has come: the shares of its leaves, the share of the node that comes next, how many leaves have come, and how many percent had come when it was told last
pub record ProgressData : Type 0 where
  pub shares : SharesData
  pub next : ℕ
  pub leaves : ℕ
  pub reported : ℕ

-- at first nothing has come
abbrev pub beginning : ProgressData
beginning = record { shares = record { accepted = 0; rejected = 0; unknown = 0 }; next = whole; leaves = 0; reported = 0 }

-- behind a leaf: what comes before a node is a multiple of its share, so that the next one's is the greatest power of 2 in all that has come
abbrev pub behind_leaf : ProgressData → NodeLine → ProgressData
behind_leaf p leaf = let shares = with_leaf p.shares leaf p.next in
    record p { shares = shares; next = greatest_power (share_sum shares); leaves = min (p.leaves + 1) (2 ^ 64 - 1) }

-- behind a node: both halves of a split have half of its share
abbrev pub behind_node : ProgressData → NodeLine → ProgressData
behind_node p Split = record p { next = p.next / 2 }
behind_node p Accept = behind_leaf p Accept
behind_node p Reject = behind_leaf p Reject
behind_node p Unknown = behind_leaf p Unknown

-- ---- what is told

-- a share in percent, rounded down
abbrev pub percent : ℕ → ℕ
percent share = share * 100 / whole

-- how a line of progress ends, by how the lines follow one another
abbrev pub line_end : Lines → List ℕ
line_end Over = codes "\r"
line_end Apart = codes "\n"

-- a line of progress
abbrev pub line_text : Lines → ProgressData → List ℕ
line_text lines p =
    codes "decided " ++ decimal (percent (p.shares.accepted + p.shares.rejected))
    ++ codes " %, accepted " ++ decimal (percent p.shares.accepted)
    ++ codes " %, rejected " ++ decimal (percent p.shares.rejected)
    ++ codes " %, unknown " ++ decimal (percent p.shares.unknown)
    ++ codes " %, leaves " ++ decimal p.leaves ++ line_end lines

-- a line is due where a percent more has come than was told
abbrev pub lines_due : Lines → ProgressData → List (List ℕ)
lines_due lines p = if nat_lt p.reported (percent (share_sum p.shares)) then line_text lines p ∷ [] else []

-- how far the report has come when that was told
abbrev pub when_reported : ProgressData → ProgressData
when_reported p = if nat_lt p.reported (percent (share_sum p.shares)) then record p { reported = percent (share_sum p.shares) } else p

-- the lines that are told while nodes come
unfoldable pub lines_behind : Lines → ProgressData → List NodeLine → List (List ℕ)
lines_behind lines p [] = []
lines_behind lines p (node ∷ nodes) = lines_due lines (behind_node p node) ++ lines_behind lines (when_reported (behind_node p node)) nodes

-- how far the report has come behind nodes
unfoldable pub progress_behind : ProgressData → List NodeLine → ProgressData
progress_behind p [] = p
progress_behind p (node ∷ nodes) = progress_behind (when_reported (behind_node p node)) nodes

-- all that is told of some bytes of a report: the lines that are due while its nodes come, and how far it has come at the end
abbrev pub progress_lines : Lines → List ℕ → List (List ℕ)
progress_lines lines bytes =
    lines_behind lines beginning (nodes_in bytes) ++ line_text Apart (progress_behind beginning (nodes_in bytes)) ∷ []

-- texts were written one behind the other, each whole or in part
abbrev pub WroteEach : {E : Type 0} → (E → Option (List ℕ)) → (E → ℕ) → E → E → List (List ℕ) → Type 0
WroteEach taken faults old new [] = new ≡ old
WroteEach {E} taken faults old new (text ∷ texts) = (mid : E) × (end : Written) × Wrote taken faults old mid end text × WroteEach taken faults mid new texts

-- ---- for the contracts of private functions

-- the shares that the code keeps
abbrev pub shares_data : Shares → SharesData
shares_data s = record { accepted = s.accept; rejected = s.reject; unknown = s.unknown }

-- how far a report has come, as the code keeps it
abbrev pub progress_data : Progress → ProgressData
progress_data p = record { shares = shares_data p.shares; next = p.next; leaves = p.leaves; reported = p.reported }

-- what some bytes change, and what was told while they came
pub record Passes {E : Type 0} (taken : E → Option (List ℕ)) (faults : E → ℕ) (old new : E) (p p' : Progress) (bytes : List ℕ) : Type 0 where
  pub state : progress_data p' ≡ progress_behind (progress_data p) (nodes_ended p.line bytes)
  pub line : p'.line ≡ line_after p.line bytes
  pub lines : p'.lines ≡ p.lines
  pub reported : WroteEach taken faults old new (lines_behind p.lines (progress_data p) (nodes_ended p.line bytes))
