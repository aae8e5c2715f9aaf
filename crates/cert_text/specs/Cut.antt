-- How the nodes of a report are cut off its text, one after another.
use Rattle.std.specs.Prelude.{◌≡◌, ⊤, ℕ, ◌+◌, ◌-◌, ◌^◌, ◌<◌, ◌≤◌, List, ◌++◌, drop, take, codes, length, min, nat_eq, if◌then◌else◌, Ok, Some}
use Rattle.std.specs.declared.option.Option.{Option}
use Rattle.std.specs.List.{concat, starts_with}
use Rattle.lift_base.specs.Lines.{LinesData, KeepsLimit, fresh}
use Rattle.line_text.specs.Follow.{Follows}
use Rattle.cert_text.specs.Head.{HeadData, head_at}
use Rattle.cert_text.specs.Forms.{IsHead, IsNode}
use Rattle.cert_text.specs.Laws.{reported_lines}
use Rattle.cert_text.specs.Migrated.{lines_of}
use Rattle.cert_text.specs.Report.{top_lines}
use Rattle.cert_text.specs.Nodes.{Node, split, accept, reject, unknown, node_lines}
use Rattle.cert_text.specs.declared.node_text.NodeText.{NodeText}
use Rattle.cert_text.specs.declared.node_text.NodeText.TheVariants as cut

-- the bytes of a node
abbrev pub node_bytes : HeadData → Node → List ℕ
node_bytes h node = concat (node_lines h.from h.asked.model.init node)

-- the node is a split on that parameter
abbrev pub IsSplitOn : Node → ℕ → Type 0
IsSplitOn (split axis) i = i ≡ axis
IsSplitOn _ i = ⊥

-- it accepts, and has these bytes
abbrev pub IsAcceptOf : HeadData → Node → List ℕ → Type 0
IsAcceptOf h (accept u x) bytes = bytes ≡ node_bytes h (accept u x)
IsAcceptOf h _ bytes = ⊥

-- it rejects, and has these bytes
abbrev pub IsRejectOf : HeadData → Node → List ℕ → Type 0
IsRejectOf h (reject u r) bytes = bytes ≡ node_bytes h (reject u r)
IsRejectOf h _ bytes = ⊥

-- it is an unknown leaf
abbrev pub IsOpenLeaf : Node → Type 0
IsOpenLeaf unknown = ⊤
IsOpenLeaf _ = ⊥

-- that node was cut off: of a split the parameter is told, and of a decided leaf the bytes
abbrev pub IsCut : HeadData → Node → NodeText → Type 0
IsCut h node (cut.Split i) = IsSplitOn node i
IsCut h node (cut.Accept bytes) = IsAcceptOf h node bytes.now
IsCut h node (cut.Reject bytes) = IsRejectOf h node bytes.now
IsCut h node cut.Unknown = IsOpenLeaf node

-- Whichever node of a report begins the text, it is cut off, and what follows it is left.
abbrev pub CutsNode : List ℕ → NodeText → List ℕ → Type 0
CutsNode text cut left = (h : HeadData) (node : Node) (rest : List ℕ) → IsHead h → IsNode h node → text ≡ node_bytes h node ++ rest → IsCut h node cut × (left ≡ rest)

-- what stands behind so many lines
abbrev pub IsBehind : ℕ → List ℕ → List ℕ → Type 0
IsBehind count text behind = lines_of behind ≡ drop count (lines_of text)

-- A head was read of the lines of a source, and so many of them had been given then; their number stays at the last value of its type.
pub record WasHeadRead {S : Type 0} (left : S → Option (List ℕ)) (faults : S → ℕ) (old : LinesData) (before : S) (head : HeadData) (count : ℕ) : Type 0 where
  pub lines : LinesData
  pub after : S
  pub read : Follows left faults (λ (h : HeadData). h) head_at old lines before after (Ok head)
  pub limit : KeepsLimit lines.failure lines.limit lines.taken
  pub counted : lines.given + length lines.held ≤ lines.taken
  pub given : count ≡ min lines.given (2 ^ 32 - 1)

-- the bytes of a head's lines above its last three
abbrev pub top_bytes : HeadData → List ℕ
top_bytes h = concat (top_lines h.asked h.from h.bound)

-- Whichever head begins the text, it is read, its lines above the last three are cut off, and what follows it is left.
abbrev pub CutsHead : List ℕ → HeadData → List ℕ → List ℕ → Type 0
CutsHead text head top left = (h : HeadData) (rest : List ℕ) → IsHead h → text ≡ concat (reported_lines h) ++ rest → (head ≡ h) × (top ≡ top_bytes h) × (left ≡ rest)

-- Where a head was read of a text in memory, what stands behind the lines that had been given then is what follows the head; the last three of them stand behind the others.
abbrev pub HeadsAreCut : Type 0
HeadsAreCut = (text window : List ℕ) (head : HeadData) (count : ℕ) (top region left : List ℕ) → length text < 2 ^ 32 → WasHeadRead {S = List ℕ} (λ s. Some s) (λ _. 0) (fresh (length text) window) text head count
    → top ≡ concat (take (count - 3) (lines_of text)) → IsBehind (count - 3) text region → IsBehind 3 region left → CutsHead text head top left

-- how many lines stand before those of a decided leaf: that of its precision, where the text begins with it
abbrev pub lines_ahead : List ℕ → ℕ
lines_ahead text = if starts_with nat_eq text (codes "at ") then 1 else 0
