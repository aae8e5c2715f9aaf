-- What reading a report and writing it have to do with each other, for who reasons about reports.
use Rattle.std.specs.Prelude.{◌≡◌, ℕ, ◌+◌, ◌<◌, ◌≤◌, List, ◌++◌, length, Ok}
use Rattle.std.specs.List.{concat}
use Rattle.lift_grid.specs.Tree.{Tree}
use Rattle.line_text.specs.declared.error.TextCause.TheVariants.{Truncated}
use Rattle.cert_text.specs.Report.{head_lines, tree_lines, report_text}
use Rattle.line_text.specs.Reading.{fault}
use Rattle.cert_text.specs.Head.{HeadData, head_at}
use Rattle.cert_text.specs.Nodes.{Node, node_at, node_lines}
use Rattle.cert_text.specs.Whole.{height, report_at, feed_count}
use Rattle.cert_text.specs.Forms.{IsHead, IsNode, IsReport}

-- ---- a head

-- the lines of a head
abbrev pub reported_lines : HeadData → List (List ℕ)
reported_lines h = head_lines h.asked h.from h.bound

-- a head is read back from its lines, whatever follows them
abbrev pub HeadsAreReadBack : Type 0
HeadsAreReadBack = (h : HeadData) (n : ℕ) (rest : List ℕ) → IsHead h → head_at (n, concat (reported_lines h) ++ rest) ≡ Ok (h, (n + length (reported_lines h), rest))

-- where a head is read, it is one, and its lines begin the text
abbrev pub ReadHeadsAreReported : Type 0
ReadHeadsAreReported = (h : HeadData) (n m : ℕ) (text rest : List ℕ) → head_at (n, text) ≡ Ok (h, (m, rest)) → IsHead h × (text ≡ concat (reported_lines h) ++ rest) × (m ≡ n + length (reported_lines h))

-- ---- a node

-- a node of a report is read back from its lines, whatever follows them
abbrev pub NodesAreReadBack : Type 0
NodesAreReadBack = (h : HeadData) (node : Node) (n : ℕ) (rest : List ℕ) → IsHead h → IsNode h node
    → node_at h (n, concat (node_lines h.from h.asked.model.init node) ++ rest) ≡ Ok (node, (n + length (node_lines h.from h.asked.model.init node), rest))

-- where a node is read, it is one of the report, and its lines begin the text
abbrev pub ReadNodesAreReported : Type 0
ReadNodesAreReported = (h : HeadData) (node : Node) (n m : ℕ) (text rest : List ℕ) → IsHead h → node_at h (n, text) ≡ Ok (node, (m, rest))
    → IsNode h node × (text ≡ concat (node_lines h.from h.asked.model.init node) ++ rest) × (m ≡ n + length (node_lines h.from h.asked.model.init node))

-- ---- a report

-- the text of a report
abbrev pub text_of : HeadData → Tree → List ℕ
text_of h tree = report_text h.asked h.from h.bound tree

-- how many lines a report has
abbrev pub line_count : HeadData → Tree → ℕ
line_count h tree = length (reported_lines h) + length (tree_lines h.from h.asked.model.init tree)

-- a report is read back from its text, whatever follows it
abbrev pub ReportsAreReadBack : Type 0
ReportsAreReadBack = (h : HeadData) (tree : Tree) (levels : ℕ) (rest : List ℕ) → IsReport h tree → height tree ≤ levels
    → report_at levels (1, text_of h tree ++ rest) ≡ Ok ((h, tree), (1 + line_count h tree, rest))

-- where a report is read, it is one, and its text begins the text
abbrev pub ReadReportsAreReported : Type 0
ReadReportsAreReported = (h : HeadData) (tree : Tree) (levels m : ℕ) (text rest : List ℕ) → report_at levels (1, text) ≡ Ok ((h, tree), (m, rest))
    → IsReport h tree × (height tree ≤ levels) × (text ≡ text_of h tree ++ rest) × (m ≡ 1 + line_count h tree)

-- Two reports whose texts begin the same text are the same, and so is what follows them. So two reports with the same text are equal, and no report's text is a proper prefix of another's.
abbrev pub TextsTellOneReport : Type 0
TextsTellOneReport = (h g : HeadData) (tree other : Tree) (rest more : List ℕ) → IsReport h tree → IsReport g other → text_of h tree ++ rest ≡ text_of g other ++ more
    → (h ≡ g) × (tree ≡ other) × (rest ≡ more)

-- every proper prefix of a report's text is refused as truncated, at the line that was due
abbrev pub PrefixesAreTruncated : Type 0
PrefixesAreTruncated = (h : HeadData) (tree : Tree) (levels : ℕ) (front back : List ℕ) → IsReport h tree → height tree ≤ levels → text_of h tree ≡ front ++ back → 0 < length back
    → report_at levels (1, front) ≡ fault (1 + feed_count front) Truncated
