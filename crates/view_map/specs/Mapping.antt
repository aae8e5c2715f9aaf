-- What the text of a sound report has to do with the list that is read from it.
use Rattle.std.specs.Prelude.{◌≡◌, ◌-◌, ◌≤◌, ℕ, List, ◌++◌, length}
use Rattle.std.specs.List.{concat}
use Rattle.lift_grid.specs.Rectangle.{Spans}
use Rattle.lift_grid.specs.Splitting.{HasHalvings}
use Rattle.lift_grid.specs.Tree.{Tree}
use Rattle.corner_lift.specs.Case.{CaseData}
use Rattle.cert_text.specs.Head.{HeadData}
use Rattle.cert_text.specs.Forms.{IsTree}
use Rattle.cert_text.specs.Laws.{text_of}
use Rattle.cert_text.specs.Report.{tree_lines}
use Rattle.cert_check.specs.Sound.{IsSound, IsSoundTree}
use Rattle.view_map.specs.Parts.{PartData, MapData, parts, parts_over}
use Rattle.view_map.specs.Share.{total_share, whole_volume}

-- The bytes are the text of a sound report, and these are its head and the leaves of its tree. The shares of the leaves sum to the whole.
pub record IsMapOf (bytes : List ℕ) (h : HeadData) (ps : List PartData) : Type 0 where
  pub tree : Tree
  pub sound : IsSound h tree
  pub text : bytes ≡ text_of h tree
  pub leaves : ps ≡ parts h tree
  pub shares : total_share ps ≡ whole_volume

-- ---- for the contracts of private functions

-- a rectangle at a depth can be halved as often as the depth that was asked for leaves, and has a span for each parameter
pub record StandsAt (k : CaseData) (depth : ℕ) (ss : Spans) : Type 0 where
  pub within : depth ≤ k.depth
  pub halvings : HasHalvings (k.depth - depth) ss
  pub one_each : length ss ≡ length k.model.names

-- the text begins with the lines of a sound tree over a rectangle at a depth, and this rest follows them
pub record BeginsWithTree (h : HeadData) (ss : Spans) (depth : ℕ) (text : List ℕ) (t : Tree) (rest : List ℕ) : Type 0 where
  pub tree : IsSoundTree h.asked h.bound ss depth t
  pub nodes : IsTree h t
  pub lines : text ≡ concat (tree_lines h.from h.asked.model.init t) ++ rest

-- the text begins with the lines of some sound tree
abbrev pub BeginsWithSomeTree : HeadData → Spans → ℕ → List ℕ → Type 0
BeginsWithSomeTree h ss depth text = (t : Tree) × (rest : List ℕ) × BeginsWithTree h ss depth text t rest

-- whichever sound tree's lines the text begins with, its leaves were added, and the rest is left
abbrev pub Adds : HeadData → Spans → ℕ → List ℕ → List ℕ → List PartData → List PartData → Type 0
Adds h ss depth text left old new = (t : Tree) (rest : List ℕ) → BeginsWithTree h ss depth text t rest → (left ≡ rest) × (new ≡ old ++ parts_over ss depth t)

-- the text is that of the nodes of a sound report with that head and tree
pub record AreNodes (h : HeadData) (text : List ℕ) (t : Tree) : Type 0 where
  pub sound : IsSound h t
  pub lines : text ≡ concat (tree_lines h.from h.asked.model.init t)

-- it is that of the nodes of some sound report with that head
abbrev pub HasNodes : HeadData → List ℕ → Type 0
HasNodes h text = (t : Tree) × AreNodes h text t

-- a map has that head, and whichever sound report's nodes the text is that of, the leaves are those of its tree
pub record IsMapped (h : HeadData) (text : List ℕ) (m : MapData) : Type 0 where
  pub head : m.head ≡ h
  pub leaves : (t : Tree) → AreNodes h text t → m.parts ≡ parts h t
