-- A text to which numbers of leaves are answered is a sound file.
use Rattle.std.proofs.Common.{◌≡◌, ℕ, zero, suc, ◌+◌, ◌<◌, List, [], ◌∷◌, ◌++◌, Result, Ok, Err, refl, sym, ap, ◌∙◌, arith, inl, inr, append_assoc}
use Rattle.std.specs.List.{concat}
use Rattle.std.proofs.lemmas.List.{append-nil}
use Rattle.std.proofs.lemmas.List.Folds.{concat-append}
use Rattle.lift_grid.specs.Rectangle.{Spans}
use Rattle.lift_grid.specs.Splitting.{IsSplitAxis}
use Rattle.lift_grid.specs.Tree.{Tree, lower_half, upper_half}
use Rattle.lift_grid.specs.Tree.Tree.{split as splits, accept as accepts, reject as rejects, unknown as unknowns}
use Rattle.lift_model.specs.Model.{live}
use Rattle.corner_lift.specs.Case.{greatest_depth}
use Rattle.line_text.specs.Reading.{Cursor}
use Rattle.line_text.specs.declared.error.TextError.{TextError}
use Rattle.cert_text.specs.Head.{HeadData, head_at, version}
use Rattle.cert_text.specs.Nodes.{Node, split, accept, reject, unknown, node_at, node_lines}
use Rattle.cert_text.specs.Report.{tree_lines}
use Rattle.cert_text.specs.Forms.{IsHead, IsNode, IsTree}
use Rattle.cert_text.specs.Laws.{reported_lines, ReadHeadsAreReported, ReadNodesAreReported}
use Rattle.cert_check.specs.Sound.{IsSoundTree, IsSoundFile, leaf_counts}
use Rattle.cert_check.specs.Answer.{Came, Answer, Ending, NodeEnds, ReadEnds, HalfEnds, TreeEnds, FileEnds, start, behind, one_accept, one_reject, one_unknown, rest_of}
use Rattle.cert_check.specs.Laws.{PassingFilesAreSound}
use Rattle.cert_check.specs.declared.summary.Summary.{Summary}
use Rattle.cert_check.specs.declared.error.CheckError.{CheckError}
use Rattle.cert_check.proofs.Following.{plus, leaves_are, none_and}

-- an answer isn't a fault
ok_not_err : {A : Type 0} (x : A) (e : CheckError) → ◌≡◌ {A = Answer A} (Ok x) (Err e) → ⊥
ok_not_err x e is = cc

ok_is : {A : Type 0} (x y : A) → ◌≡◌ {A = Answer A} (Ok x) (Ok y) → x ≡ y
ok_is x y e = cc

module _ (reported : ReadNodesAreReported) (h : HeadData) (head : IsHead h) where
  -- a walk that ended without fault went over the nodes of a sound tree
  record Passed (depth : ℕ) (spans : Spans) (came next : Came) : Type 0 where
    tree : Tree
    fit : IsTree h tree
    sound : IsSoundTree h.asked h.bound spans depth tree
    text : came.place.1 ≡ concat (tree_lines h.from h.asked.model.init tree) ++ next.place.1
    visited : next.leaves ≡ plus came.leaves (leaf_counts (version h) tree)

  -- a leaf
  leaf : (depth : ℕ) (spans : Spans) (came next : Came) (t : Tree) (node : Node) (c : Cursor) (leaves : Summary) → node_at h came.place ≡ Ok (node, c) → tree_lines h.from h.asked.model.init t ≡ node_lines h.from h.asked.model.init node → (IsNode h node → IsTree h t)
      → IsSoundTree h.asked h.bound spans depth t → next ≡ behind came c leaves → leaves ≡ plus came.leaves (leaf_counts (version h) t) → Passed depth spans came next
  leaf depth spans came next t node c leaves read lines fits sound is visited =
      let n = reported h node came.place.0 c.0 came.place.1 c.1 head read in
      record {
        tree = t;
        fit = fits n.0;
        sound = sound;
        text = n.1 ∙ ap (λ (ls : List (List ℕ)). concat ls ++ c.1) (sym lines) ∙ ap (λ (m : Came). concat (tree_lines h.from h.asked.model.init t) ++ m.place.1) (sym is);
        visited = ap (λ (m : Came). m.leaves) is ∙ visited;
      }

  -- the halves of a rectangle that may be halved so often
  abbrev PassesBelow : ℕ → ℕ → Ending → Type 0
  PassesBelow zero depth halves = Unit {0}
  PassesBelow (suc levels) depth halves = (spans : Spans) (came next : Came) → halves spans came (Ok next) → Passed (depth + 1) spans came next

  two : (depth axis : ℕ) (spans : Spans) (came between next : Came) (c : Cursor) → node_at h came.place ≡ Ok (split axis, c) → (depth < greatest_depth h.asked) × IsSplitAxis (live h.asked.model) spans axis
      → Passed (depth + 1) (lower_half axis spans) (behind came c came.leaves) between → Passed (depth + 1) (upper_half axis spans) between next → Passed depth spans came next
  two depth axis spans came between next c read left one other =
      let n = reported h (split axis) came.place.0 c.0 came.place.1 c.1 head read in
      let a = tree_lines h.from h.asked.model.init one.tree in
      let b = tree_lines h.from h.asked.model.init other.tree in
      let own = node_lines h.from h.asked.model.init (split axis) in
      record {
        tree = splits axis one.tree other.tree;
        fit = (n.0, one.fit, other.fit);
        sound = (record { left = left.0; axis_is = left.1 }, one.sound, other.sound);
        text = n.1 ∙ ap (λ l. concat own ++ l) (one.text ∙ ap (λ l. concat a ++ l) other.text)
            ∙ ap (λ l. concat own ++ l) (sym (append_assoc (concat a) (concat b) next.place.1))
            ∙ ap (λ l. concat own ++ (l ++ next.place.1)) (sym (concat-append a b))
            ∙ sym (append_assoc (concat own) (concat (a ++ b)) next.place.1)
            ∙ ap (λ l. l ++ next.place.1) (sym (concat-append own (a ++ b)));
        visited = leaves_are next.leaves (plus came.leaves (leaf_counts (version h) (splits axis one.tree other.tree)))
            (omega (arith, ap (λ (s : Summary). s.accept) one.visited, ap (λ (s : Summary). s.accept) other.visited))
            (omega (arith, ap (λ (s : Summary). s.reject) one.visited, ap (λ (s : Summary). s.reject) other.visited))
            (omega (arith, ap (λ (s : Summary). s.unknown) one.visited, ap (λ (s : Summary). s.unknown) other.visited))
            (ap (λ (s : Summary). s.version) other.visited ∙ ap (λ (s : Summary). s.version) one.visited);
      }

  by_node : (levels depth : ℕ) (halves : Ending) → PassesBelow levels depth halves → depth + levels ≡ greatest_depth h.asked → (spans : Spans) (came next : Came) (node : Node) (c : Cursor) → node_at h came.place ≡ Ok (node, c)
      → NodeEnds h levels halves spans came node c (Ok next) → Passed depth spans came next
  by_node levels depth halves below e spans came next (accept u x) c read (inl p) = leaf depth spans came next (accepts u x) (accept u x) c (one_accept came.leaves) read refl (λ f. f) p.0 (ok_is _ _ p.1) (leaves_are (one_accept came.leaves) (plus came.leaves (leaf_counts (version h) (accepts u x))) refl (omega arith) (omega arith) refl)
  by_node levels depth halves below e spans came next (accept u x) c read (inr p) = absurd (ok_not_err _ _ p.2)
  by_node levels depth halves below e spans came next (reject u r) c read (inl p) = leaf depth spans came next (rejects u r) (reject u r) c (one_reject came.leaves) read refl (λ f. f) p.0 (ok_is _ _ p.1) (leaves_are (one_reject came.leaves) (plus came.leaves (leaf_counts (version h) (rejects u r))) (omega arith) refl (omega arith) refl)
  by_node levels depth halves below e spans came next (reject u r) c read (inr p) = absurd (ok_not_err _ _ p.2)
  by_node zero depth halves below e spans came next unknown c read p = leaf depth spans came next unknowns unknown c (one_unknown came.leaves) read refl (λ f. f) (omega arith) (ok_is _ _ p) (leaves_are (one_unknown came.leaves) (plus came.leaves (leaf_counts (version h) unknowns)) (omega arith) (omega arith) refl refl)
  by_node (suc levels) depth halves below e spans came next unknown c read p = absurd (ok_not_err _ _ p)
  by_node zero depth halves below e spans came next (split axis) c read p = absurd (ok_not_err _ _ p)
  by_node (suc levels) depth halves below e spans came next (split axis) c read (inr p) = absurd (ok_not_err _ _ p.1)
  by_node (suc levels) depth halves below e spans came next (split axis) c read (inl (axis_is, (Err f, first, goes))) = absurd (ok_not_err _ _ goes)
  by_node (suc levels) depth halves below e spans came next (split axis) c read (inl (axis_is, (Ok between, first, goes))) =
      two depth axis spans came between next c read (omega arith, axis_is) (below (lower_half axis spans) (behind came c came.leaves) between first) (below (upper_half axis spans) between next goes)

  by_read : (levels depth : ℕ) (halves : Ending) → PassesBelow levels depth halves → depth + levels ≡ greatest_depth h.asked → (spans : Spans) (came next : Came) (r : Result (Node × Cursor) TextError) → node_at h came.place ≡ r
      → ReadEnds h levels halves spans came r (Ok next) → Passed depth spans came next
  by_read levels depth halves below e spans came next (Ok x) read p = by_node levels depth halves below e spans came next x.0 x.1 read p
  by_read levels depth halves below e spans came next (Err f) read p = absurd (ok_not_err _ _ p)

  passes_below : (levels depth : ℕ) → depth + levels ≡ greatest_depth h.asked → PassesBelow levels depth (HalfEnds h levels)
  passes_below zero depth e = tt
  passes_below (suc levels) depth e = λ spans came next p. by_read levels (depth + 1) (HalfEnds h levels) (passes_below levels (depth + 1) (omega arith)) (omega arith) spans came next (node_at h came.place) refl p

  tree_passes : (levels depth : ℕ) → depth + levels ≡ greatest_depth h.asked → (spans : Spans) (came next : Came) → TreeEnds h levels spans came (Ok next) → Passed depth spans came next
  tree_passes levels depth e spans came next p = by_read levels depth (HalfEnds h levels) (passes_below levels depth e) e spans came next (node_at h came.place) refl p

-- ---- the whole

rest_none : (bytes : List ℕ) (visited leaves : Summary) → Ok leaves ≡ rest_of bytes visited → (bytes ≡ []) × (leaves ≡ visited)
rest_none [] visited leaves e = (refl, ok_is _ _ e)
rest_none (b ∷ bytes) visited leaves e = absurd (ok_not_err _ _ e)

pub passing_sound : ReadHeadsAreReported → ReadNodesAreReported → PassingFilesAreSound
passing_sound heads reported bytes leaves p = by_head (head_at (1, bytes)) refl p
  where
    by_head : (r : Result (HeadData × Cursor) TextError) → head_at (1, bytes) ≡ r → FileEnds r (Ok leaves) → IsSoundFile bytes leaves
    by_head (Err e) is q = absurd (ok_not_err _ _ q)
    by_head (Ok (h, c)) is (inr q) = absurd (ok_not_err _ _ q.2)
    by_head (Ok (h, c)) is (inl (admitted, (Err f, first, goes))) = absurd (ok_not_err _ _ goes)
    by_head (Ok (h, c)) is (inl (admitted, (Ok next, first, goes))) =
        let t = heads h 1 c.0 bytes c.1 is in
        let passed = tree_passes reported h t.0 (greatest_depth h.asked) 0 (omega arith) h.asked.root (start h c) next first in
        let none = rest_none next.place.1 next.leaves leaves goes in
        record {
          head = h;
          tree = passed.tree;
          sound = record { report = record { head = t.0; nodes = passed.fit }; admitted = admitted; tree = passed.sound };
          text = t.1 ∙ ap (λ l. concat (reported_lines h) ++ l) (passed.text ∙ ap (λ l. concat (tree_lines h.from h.asked.model.init passed.tree) ++ l) none.0 ∙ append-nil (concat (tree_lines h.from h.asked.model.init passed.tree)));
          counts = none.1 ∙ passed.visited ∙ none_and (version h) passed.tree;
        }
