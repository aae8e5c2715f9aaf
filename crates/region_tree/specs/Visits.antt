-- What a visitor is shown, and what it does with a node.
use Rattle.std.specs.Prelude.{◌≡◌, ◌≤◌, ℕ, List, ℤ, pos, ◌^◌, ◌≤ℤ◌, All, length}
use Rattle.std.specs.declared.option.Option.{Option}
use Rattle.std.specs.List.{flat_map}
use Rattle.std.specs.Io.KnownBytes.{Appends}
use Rattle.lift_base.specs.Outside.{Rose, AppendsFront}
use Rattle.lift_grid.specs.Rectangle.{Spans}
use Rattle.lift_grid.specs.Tree.{Tree, RejectData}
use Rattle.lift_model.specs.Valid.{most_states}
use Rattle.corner_lift.specs.Case.{CaseData, most_precision}
use Rattle.corner_lift.specs.Certificate.{most_rate}
use Rattle.lift_cert.specs.declared.bound.Bound.{Bound}
use Rattle.region_tree.specs.Nodes.{Node, nodes}
use Rattle.region_tree.specs.Right.{IsRight}
use Rattle.region_tree.specs.declared.visitor.Seen.{Seen}
use Rattle.region_tree.specs.declared.visitor.Seen.TheVariants.{Kept, Failed}

-- numbers that can be shown: one for each state, from 0 to 2 to the greatest precision
pub record AreShown (states : ℕ) (x : List ℤ) : Type 0 where
  pub size : length x ≡ states
  pub range : All (λ n. (pos 0 ≤ℤ n) × (n ≤ℤ pos (2 ^ most_precision))) x

-- a rejecting certificate that can be shown: a number, a chosen row and a rank for each state, and e and k within their limits
pub record IsShown (states : ℕ) (r : RejectData) : Type 0 where
  pub numbers : AreShown states r.numbers
  pub picks : length r.picks ≡ states
  pub ranks : length r.ranks ≡ states
  pub e : r.e ≤ most_rate
  pub k : (1 ≤ r.k) × (r.k ≤ most_states)

-- the bytes were appended where the node was kept, and else a part of them, from their front
abbrev pub Takes : Option (List ℕ) → Option (List ℕ) → Seen → List ℕ → Type 0
Takes old new Kept bytes = Appends old new bytes
Takes old new Failed bytes = AppendsFront old new bytes

-- What a visitor did with a node of that entry: it took the entry, or failed, and then it took a part of it and a fault was counted. No count falls.
pub record Visits {V : Type 0} (taken : V → Option (List ℕ)) (faults : V → ℕ) (old new : V) (seen : Seen) (entry : List ℕ) : Type 0 where
  pub took : Takes (taken old) (taken new) seen entry
  pub cause : seen ≡ Failed → Rose (faults old) (faults new)
  pub later : faults old ≤ faults new

-- the entries of a tree's nodes, in preorder
abbrev pub entries : (Node → List ℕ) → Tree → List ℕ
entries entry tree = flat_map entry (nodes tree)

-- What a walk did that shows a tree of which Is holds. Where it kept all, there is such a tree. Whichever tree is such a one, the entries of all its nodes were taken, or after a failure a part of them, from the front. A failure comes only with a fault, and no count falls.
pub record Shows {V : Type 0} (Is : Tree → Type 0) (taken : V → Option (List ℕ)) (faults : V → ℕ) (entry : Node → List ℕ) (old new : V) (seen : Seen) : Type 0 where
  pub tree : seen ≡ Kept → (t : Tree) × Is t
  pub took : (t : Tree) → Is t → Takes (taken old) (taken new) seen (entries entry t)
  pub cause : seen ≡ Failed → Rose (faults old) (faults new)
  pub later : faults old ≤ faults new

-- a walk over a rectangle at a depth, for the precisions from v to the case's, shows the right tree
abbrev pub Walks : {V : Type 0} → CaseData → ℕ → Spans → Bound → ℕ → (V → Option (List ℕ)) → (V → ℕ) → (Node → List ℕ) → V → V → Seen → Type 0
Walks k v spans bound depth taken faults entry old new seen = Shows (λ t. IsRight k v spans bound depth t) taken faults entry old new seen
