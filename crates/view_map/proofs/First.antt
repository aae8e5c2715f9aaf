-- The first node of a sound tree's lines, and what stands behind it.
use Rattle.std.proofs.Common.{◌≡◌, ℕ, ℤ, ◌+◌, ◌<◌, List, [], ◌∷◌, ◌++◌, length, Result, Ok, refl, sym, ap, ◌∙◌, subst, append_assoc}
use Rattle.std.specs.Prelude.{Option}
use Rattle.std.specs.List.{concat}
use Rattle.std.proofs.lemmas.List.Folds.{concat-append}
use Rattle.lift_grid.specs.Rectangle.{Spans}
use Rattle.lift_grid.specs.Tree.{Tree, RejectData, lower_half, upper_half}
use Rattle.lift_grid.specs.Tree.Tree.{split as splits, accept as accepts, reject as rejects, unknown as unknowns}
use Rattle.line_text.specs.Reading.{Cursor}
use Rattle.line_text.specs.declared.error.TextError.{TextError}
use Rattle.cert_text.specs.Head.{HeadData}
use Rattle.cert_text.specs.Nodes.{Node, split, accept, reject, unknown, node_at, node_lines}
use Rattle.cert_text.specs.Report.{tree_lines}
use Rattle.cert_text.specs.Forms.{IsHead, IsNode, IsTree}
use Rattle.cert_text.specs.Laws.{NodesAreReadBack}
use Rattle.cert_check.specs.Sound.{MayBeHalved}
use Rattle.view_map.specs.Parts.{PartData, part_with, parts_over}
use Rattle.view_map.specs.Mapping.{Adds, BeginsWithTree}
use Rattle.view_map.specs.declared.part.LeafKind.TheVariants.{Accept, Reject, Unknown}
use Rattle.view_map.proofs.Shares.{parts_split}

-- a tree's first node
pub first : Tree → Node
first (splits axis lower upper) = split axis
first (accepts u x) = accept u x
first (rejects u r) = reject u r
first unknowns = unknown

-- what stands behind it, where this rest follows the tree
pub behind : Option ℕ → ℕ → Tree → List ℕ → List ℕ
behind from init (splits axis lower upper) rest = concat (tree_lines from init lower) ++ (concat (tree_lines from init upper) ++ rest)
behind from init (accepts u x) rest = rest
behind from init (rejects u r) rest = rest
behind from init unknowns rest = rest

first_lines : (from : Option ℕ) (init : ℕ) (t : Tree) (rest : List ℕ) → concat (tree_lines from init t) ++ rest ≡ concat (node_lines from init (first t)) ++ behind from init t rest
unfolding first behind
first_lines from init (splits axis lower upper) rest =
    let own = node_lines from init (split axis) in
    let low = tree_lines from init lower in
    let high = tree_lines from init upper in
    ap (λ b. b ++ rest) (concat-append own (low ++ high))
    ∙ append_assoc (concat own) (concat (low ++ high)) rest
    ∙ ap (λ b. concat own ++ (b ++ rest)) (concat-append low high)
    ∙ ap (λ b. concat own ++ b) (append_assoc (concat low) (concat high) rest)
first_lines from init (accepts u x) rest = refl
first_lines from init (rejects u r) rest = refl
first_lines from init unknowns rest = refl

first_fits : (h : HeadData) (t : Tree) → IsTree h t → IsNode h (first t)
unfolding first
first_fits h (splits axis lower upper) fit = fit.0
first_fits h (accepts u x) fit = fit
first_fits h (rejects u r) fit = fit
first_fits h unknowns fit = fit

ok_is : {A : Type 0} (x y : A) → ◌≡◌ {A = Result A TextError} (Ok x) (Ok y) → x ≡ y
ok_is x y e = cc

-- the node that is read is the first
pub first_read : NodesAreReadBack → (h : HeadData) (ss : Spans) (depth n m : ℕ) (text left rest : List ℕ) (t : Tree) (node : Node) → IsHead h → BeginsWithTree h ss depth text t rest → node_at h (n, text) ≡ Ok (node, (m, left))
    → (node ≡ first t) × (left ≡ behind h.from h.asked.model.init t rest)
first_read back h ss depth n m text left rest t node head b read =
    let from = h.from in
    let init = h.asked.model.init in
    let lines : text ≡ concat (node_lines from init (first t)) ++ behind from init t rest = b.lines ∙ first_lines from init t rest in
    let there = back h (first t) n (behind from init t rest) head (first_fits h t b.nodes) in
    let same = sym read ∙ ap (λ s. node_at h (n, s)) lines ∙ there in
    let pairs = ok_is (node, (m, left)) (first t, (n + length (node_lines from init (first t)), behind from init t rest)) same in
    (ap (λ (p : Node × Cursor). p.0) pairs, ap (λ (p : Node × Cursor). p.1.1) pairs)

-- what is known where a split was read
pub record Halves (h : HeadData) (ss : Spans) (depth axis : ℕ) (left : List ℕ) (t : Tree) (rest : List ℕ) : Type 0 where
  pub lower : Tree
  pub upper : Tree
  pub between : List ℕ
  pub is : t ≡ splits axis lower upper
  pub some : axis < length h.asked.model.names
  pub may : MayBeHalved h.asked ss depth axis
  pub low : BeginsWithTree h (lower_half axis ss) (depth + 1) left lower between
  pub high : (text : List ℕ) → text ≡ between → BeginsWithTree h (upper_half axis ss) (depth + 1) text upper rest

pub halves : (h : HeadData) (ss : Spans) (depth axis : ℕ) (text left rest : List ℕ) (t : Tree) → BeginsWithTree h ss depth text t rest → (split axis ≡ first t) × (left ≡ behind h.from h.asked.model.init t rest) → Halves h ss depth axis left t rest
unfolding first behind
halves h ss depth axis text left rest (splits a lower upper) b (node, left_is) =
    let same : a ≡ axis = cc in
    let of : Halves h ss depth a left (splits a lower upper) rest = record {
      lower = lower;
      upper = upper;
      between = concat (tree_lines h.from h.asked.model.init upper) ++ rest;
      is = refl;
      some = b.nodes.0;
      may = b.tree.0;
      low = record { tree = b.tree.1; nodes = b.nodes.1; lines = left_is };
      high = λ text is. record { tree = b.tree.2; nodes = b.nodes.2; lines = is };
    } in
    subst (λ x. Halves h ss depth x left (splits a lower upper) rest) same of
halves h ss depth axis text left rest (accepts u x) b (node, left_is) = absurd cc
halves h ss depth axis text left rest (rejects u r) b (node, left_is) = absurd cc
halves h ss depth axis text left rest unknowns b (node, left_is) = absurd cc

-- the leaves of both halves are those of the tree
pub adds_both : NodesAreReadBack → (h : HeadData) (ss : Spans) (depth axis n m : ℕ) (text left between last : List ℕ) (old mid new : List PartData) → IsHead h → node_at h (n, text) ≡ Ok (split axis, (m, left))
    → Adds h (lower_half axis ss) (depth + 1) left between old mid → Adds h (upper_half axis ss) (depth + 1) between last mid new → Adds h ss depth text last old new
adds_both back h ss depth axis n m text left between last old mid new head read lows highs t rest b =
    let halved = halves h ss depth axis text left rest t b (first_read back h ss depth n m text left rest t (split axis) head b read) in
    let one = lows halved.lower halved.between halved.low in
    let two = highs halved.upper rest (halved.high between one.0) in
    let low = parts_over (lower_half axis ss) (depth + 1) halved.lower in
    let high = parts_over (upper_half axis ss) (depth + 1) halved.upper in
    let all : new ≡ old ++ parts_over ss depth (splits axis halved.lower halved.upper) =
    two.1 ∙ ap (λ ps. ps ++ high) one.1 ∙ append_assoc old low high ∙ ap (λ ps. old ++ ps) (sym (parts_split ss depth axis halved.lower halved.upper)) in
    (two.0, subst (λ s. new ≡ old ++ parts_over ss depth s) (sym halved.is) all)

-- where a leaf was read, it is the only one
pub adds_accept : NodesAreReadBack → (h : HeadData) (ss : Spans) (depth u n m : ℕ) (x : List ℤ) (text left : List ℕ) (old new : List PartData) → IsHead h → node_at h (n, text) ≡ Ok (accept u x, (m, left))
    → new ≡ old ++ part_with ss depth Accept ∷ [] → Adds h ss depth text left old new
unfolding first behind
adds_accept back h ss depth u n m x text left old new head read is t rest b = by t b (first_read back h ss depth n m text left rest t (accept u x) head b read)
  where
    by : (t : Tree) → BeginsWithTree h ss depth text t rest → (accept u x ≡ first t) × (left ≡ behind h.from h.asked.model.init t rest) → (left ≡ rest) × (new ≡ old ++ parts_over ss depth t)
    by (accepts v y) b (node, left_is) = (left_is, is)
    by (rejects v r) b (node, left_is) = absurd cc
    by unknowns b (node, left_is) = absurd cc
    by (splits a lower upper) b (node, left_is) = absurd cc

pub adds_reject : NodesAreReadBack → (h : HeadData) (ss : Spans) (depth u n m : ℕ) (r : RejectData) (text left : List ℕ) (old new : List PartData) → IsHead h → node_at h (n, text) ≡ Ok (reject u r, (m, left))
    → new ≡ old ++ part_with ss depth Reject ∷ [] → Adds h ss depth text left old new
unfolding first behind
adds_reject back h ss depth u n m r text left old new head read is t rest b = by t b (first_read back h ss depth n m text left rest t (reject u r) head b read)
  where
    by : (t : Tree) → BeginsWithTree h ss depth text t rest → (reject u r ≡ first t) × (left ≡ behind h.from h.asked.model.init t rest) → (left ≡ rest) × (new ≡ old ++ parts_over ss depth t)
    by (rejects v s) b (node, left_is) = (left_is, is)
    by (accepts v y) b (node, left_is) = absurd cc
    by unknowns b (node, left_is) = absurd cc
    by (splits a lower upper) b (node, left_is) = absurd cc

pub adds_unknown : NodesAreReadBack → (h : HeadData) (ss : Spans) (depth n m : ℕ) (text left : List ℕ) (old new : List PartData) → IsHead h → node_at h (n, text) ≡ Ok (unknown, (m, left))
    → new ≡ old ++ part_with ss depth Unknown ∷ [] → Adds h ss depth text left old new
unfolding first behind
adds_unknown back h ss depth n m text left old new head read is t rest b = by t b (first_read back h ss depth n m text left rest t unknown head b read)
  where
    by : (t : Tree) → BeginsWithTree h ss depth text t rest → (unknown ≡ first t) × (left ≡ behind h.from h.asked.model.init t rest) → (left ≡ rest) × (new ≡ old ++ parts_over ss depth t)
    by unknowns b (node, left_is) = (left_is, is)
    by (accepts v y) b (node, left_is) = absurd cc
    by (rejects v s) b (node, left_is) = absurd cc
    by (splits a lower upper) b (node, left_is) = absurd cc
