-- What `refine` answers, and what stands after it.
use Rattle.std.specs.Prelude.{◌≡◌, ◌⊎◌, ◌-◌, ◌^◌, ◌<◌, ◌≤◌, ⊤, ℕ, List, None, Ok, Err, Result}
use Rattle.std.specs.declared.option.Option.{Option}
use Rattle.std.specs.List.{AllByRecursion, concat, flat_map}
use Rattle.std.specs.Io.KnownBytes.{Appends}
use Rattle.lift_base.specs.Outside.{Rose, AppendsFront}
use Rattle.lift_grid.specs.Rectangle.{Spans}
use Rattle.lift_grid.specs.Region.{Region}
use Rattle.lift_grid.specs.Parts.{region_of}
use Rattle.lift_grid.specs.Tree.{Tree}
use Rattle.lift_grid.specs.declared.rect.Grid.{Grid}
use Rattle.corner_lift.specs.Case.{CaseData, IsCase}
use Rattle.lift_rows.specs.Fault.{IsFirstFault}
use Rattle.lift_finer.specs.Finer.{finer_region, finer_within}
use Rattle.region_tree.specs.Bases.{IsRefined}
use Rattle.region_tree.specs.Nodes.{Node}
use Rattle.region_tree.specs.Nodes.Node.{split as split-node, accept as accept-node, reject as reject-node, unknown as unknown-node}
use Rattle.region_tree.specs.Right.{IsRightTree}
use Rattle.lift_refine.specs.Deeper.{deeper_case}
use Rattle.cert_text.specs.Head.{HeadData, least_precision, version}
use Rattle.cert_text.specs.Forms.{IsHead, IsNode}
use Rattle.cert_text.specs.Laws.{text_of}
use Rattle.cert_text.specs.Nodes as text
use Rattle.cert_text.specs.Report.{tree_lines}
use Rattle.cert_check.specs.Sound.{IsSound, IsSoundFile, leaf_counts}
use Rattle.cert_check.specs.Answer.{Answers}
use Rattle.cert_check.specs.Source.{file_limit}
use Rattle.plift_words.specs.declared.job.Field.TheVariants.{Depth}
use Rattle.plift_top.specs.RightReport.{node_text}
use Rattle.plift_top.specs.Reads.{WasRead, Command}
use Rattle.plift_top.specs.declared.refusal.Refusal.{Refusal}
use Rattle.plift_top.specs.declared.refusal.Refusal.TheVariants as refusal

-- ---- a report, and the case at a greater depth

-- the bytes are the text of a sound report with that head and that tree
pub record IsSoundText (bytes : List ℕ) (h : HeadData) (t : Tree) : Type 0 where
  pub sound : IsSound h t
  pub text : bytes ≡ text_of h t

-- how much finer the grid of a greater depth is
abbrev pub finer_by : ℕ → HeadData → ℕ
finer_by depth h = 2 ^ (depth - h.asked.depth)

-- the head at a greater depth: the same but for the depth, and the grid that this calls for
abbrev pub deeper_head : ℕ → HeadData → HeadData
deeper_head depth h = record h { asked = deeper_case (finer_by depth h) depth h.asked }

-- the region of a head
abbrev pub region_in : HeadData → Region
region_in h = record { d = h.asked.d; depth = h.asked.depth; spans = h.asked.root }

-- The depth can't be gone on to: it isn't above the report's, or the grid's number or an end over it is too large.
abbrev pub LacksDepth : ℕ → HeadData → Type 0
LacksDepth depth h = (depth ≤ h.asked.depth) ⊎ (finer_within (finer_by depth h) depth (region_in h) ≡ None)

-- why a sound report isn't gone on from: its depth, or a row that is too wide at the greater one
abbrev pub IsRefusedAtDepth : ℕ → HeadData → Refusal → Type 0
IsRefusedAtDepth depth h (refusal.Usage f) = (f ≡ Depth) × LacksDepth depth h
IsRefusedAtDepth depth h (refusal.Rows error) = (LacksDepth depth h → ⊥) × IsFirstFault (deeper_head depth h).asked error
IsRefusedAtDepth depth h _ = ⊥

-- why bytes aren't gone on from: their first fault, or they are a sound report that is refused
abbrev pub IsRefusedDeeper : ℕ → Refusal → List ℕ → Type 0
IsRefusedDeeper depth (refusal.Unsound error) bytes = Answers bytes (Err error)
IsRefusedDeeper depth why bytes = (h : HeadData) × (t : Tree) × IsSoundText bytes h t × IsRefusedAtDepth depth h why

-- ---- trees

-- a tree at the greater depth refines that of a report: its decided leaves are kept, and in the place of each unknown one stands the right tree of its rectangle
abbrev pub RefinesTree : ℕ → HeadData → Tree → Tree → Type 0
RefinesTree depth h t refined = let k = (deeper_head depth h).asked in IsRefined k (least_precision h) h.bound k.root 0 t refined

-- What holds of it: its report is a sound file, and it is the right tree where the old one is.
pub record IsRefinedTree (depth : ℕ) (h : HeadData) (t refined : Tree) : Type 0 where
  pub refines : RefinesTree depth h t refined
  pub sound : IsSoundFile (text_of (deeper_head depth h) refined) (leaf_counts (version h) refined)
  pub right : IsRightTree h.asked (least_precision h) h.bound t → IsRightTree (deeper_head depth h).asked (least_precision h) h.bound refined

-- the depth can be gone on to, and the case is one there
pub record IsFitting (depth : ℕ) (h : HeadData) : Type 0 where
  pub above : h.asked.depth < depth
  pub fits : LacksDepth depth h → ⊥
  pub case : IsCase (deeper_head depth h).asked

-- ---- what is written

-- the report of a tree that refines that of a report was appended
abbrev pub TellsRefined : Option (List ℕ) → Option (List ℕ) → ℕ → HeadData → Tree → Type 0
TellsRefined old new depth h t = (refined : Tree) × IsRefinedTree depth h t refined × Appends old new (text_of (deeper_head depth h) refined)

-- whichever tree refines it, a front of its report was appended
abbrev pub TellsRefinedInPart : Option (List ℕ) → Option (List ℕ) → ℕ → HeadData → Tree → Type 0
TellsRefinedInPart old new depth h t = (refined : Tree) → RefinesTree depth h t refined → AppendsFront old new (text_of (deeper_head depth h) refined)

-- The bytes are a sound report that can be gone on from to that depth, and this was told of it.
pub record GoesOn (Statement : HeadData → Tree → Type 0) (depth : ℕ) (bytes : List ℕ) : Type 0 where
  pub head : HeadData
  pub tree : Tree
  pub old : IsSoundText bytes head tree
  pub fitting : IsFitting depth head
  pub reported : Statement head tree

-- the report that goes on from these bytes was appended, whole
abbrev pub IsRefinedTo : Option (List ℕ) → Option (List ℕ) → ℕ → List ℕ → Type 0
IsRefinedTo old new depth bytes = GoesOn (TellsRefined old new depth) depth bytes

-- a front of it was appended
abbrev pub IsRefinedInPart : Option (List ℕ) → Option (List ℕ) → ℕ → List ℕ → Type 0
IsRefinedInPart old new depth bytes = GoesOn (TellsRefinedInPart old new depth) depth bytes

-- Where the bytes are the report of a right tree, that of the right tree at the greater depth was appended: what `verify` writes there.
abbrev pub RefinesRight : Option (List ℕ) → Option (List ℕ) → ℕ → List ℕ → Type 0
RefinesRight old new depth bytes = (h : HeadData) (t : Tree) → IsSoundText bytes h t → IsRightTree h.asked (least_precision h) h.bound t
    → (tree : Tree) × IsRightTree (deeper_head depth h).asked (least_precision h) h.bound tree × Appends old new (text_of (deeper_head depth h) tree)

-- the command that goes on from a report: the one at the greater depth is written
abbrev pub refining : ℕ → Command
refining depth = record { limit = file_limit; Done = λ old new. IsRefinedTo old new depth; CutOff = λ old new. IsRefinedInPart old new depth; Refuses = IsRefusedDeeper depth; Knows = WasRead }

-- ---- its steps

-- the tree of a sound report, whose nodes have this text
pub record IsOldTree (h : HeadData) (nodes : List ℕ) (t : Tree) : Type 0 where
  pub sound : IsSound h t
  pub text : nodes ≡ concat (tree_lines h.from h.asked.model.init t)

-- there is one
abbrev pub IsOld : HeadData → List ℕ → Type 0
IsOld h nodes = (t : Tree) × IsOldTree h nodes t

-- going on from a report whose head was read, with a tree
abbrev pub RefinesOld : {K T : Type 0} → (K → Option (List ℕ)) → (K → ℕ) → ℕ → HeadData → Tree → K → K → Result T Refusal → Type 0
RefinesOld taken counts depth h t out out' (Ok _) = IsFitting depth h × TellsRefined (taken out) (taken out') depth h t
RefinesOld taken counts depth h t out out' (Err refusal.WriteFault) = IsFitting depth h × TellsRefinedInPart (taken out) (taken out') depth h t × Rose (counts out) (counts out')
RefinesOld taken counts depth h t out out' (Err refusal.Memory) = out' ≡ out
RefinesOld taken counts depth h t out out' (Err why) = IsRefusedAtDepth depth h why × (out' ≡ out)

-- the region at the greater depth, or that the depth can't be gone on to
abbrev pub GivesRegion : ℕ → HeadData → Result (Grid × Spans) Refusal → Type 0
GivesRegion depth h (Ok p) = (h.asked.depth < depth) × (LacksDepth depth h → ⊥) × (region_of p ≡ finer_region (finer_by depth h) depth (region_in h))
GivesRegion depth h (Err (refusal.Usage f)) = (f ≡ Depth) × LacksDepth depth h
GivesRegion depth h (Err refusal.Memory) = ⊤
GivesRegion depth h (Err _) = ⊥

-- A report can be gone on from in this case: the case is that of its head at a greater depth.
pub record CanGoOn (k : CaseData) (h : HeadData) (nodes : List ℕ) : Type 0 where
  pub case : IsCase k
  pub deeper : k ≡ (deeper_head k.depth h).asked
  pub above : h.asked.depth ≤ k.depth
  pub old : IsOld h nodes

-- the bytes are those of the nodes, in this case, of a tree that refines that of a report
abbrev pub AreRefinedNodes : CaseData → HeadData → List ℕ → List ℕ → Type 0
AreRefinedNodes k h nodes bytes = (refined : Tree) × ((t : Tree) × IsOldTree h nodes t × IsRefined k (least_precision h) h.bound k.root 0 t refined) × (bytes ≡ concat (tree_lines h.from k.model.init refined))

-- ---- a text as a base

-- the node as a report has it
abbrev pub reported_node : Node → text.Node
reported_node (split-node axis) = text.split axis
reported_node (accept-node u x) = text.accept u x
reported_node (reject-node u r) = text.reject u r
reported_node unknown-node = text.unknown

-- the text that is left is that of these nodes of a report
pub record IsAhead (h : HeadData) (left : List ℕ) (ns : List Node) : Type 0 where
  pub head : IsHead h
  pub fit : AllByRecursion (λ n. IsNode h (reported_node n)) ns
  pub text : left ≡ flat_map (node_text h.asked h.from) ns
