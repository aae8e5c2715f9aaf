-- A sound file is answered by the numbers of its leaves, and a text that is cut off is refused where it ends.
use Rattle.std.proofs.Common.{◌≡◌, ℕ, zero, suc, ◌+◌, ◌≤◌, List, [], ◌++◌, length, Result, Ok, Err, refl, sym, ap, ◌∙◌, subst, arith, inl, append_assoc}
use Rattle.std.specs.List.{concat}
use Rattle.std.proofs.lemmas.List.{append-nil}
use Rattle.std.proofs.lemmas.List.Folds.{concat-append}
use Rattle.lift_grid.specs.Rectangle.{Spans}
use Rattle.lift_grid.specs.Tree.{Tree, lower_half, upper_half}
use Rattle.lift_grid.specs.Tree.Tree.{split as splits, accept as accepts, reject as rejects, unknown as unknowns}
use Rattle.lift_model.specs.Model.{live}
use Rattle.corner_lift.specs.Case.{greatest_depth}
use Rattle.line_text.specs.Reading.{◌>>=◌, Cursor, Reader, fault}
use Rattle.line_text.specs.declared.error.TextCause.TheVariants.{Limit, Truncated}
use Rattle.line_text.specs.declared.error.TextError.{TextError}
use Rattle.line_text.specs.Follow.{reported_fault}
use Rattle.cert_text.specs.Head.{HeadData, head_at, version}
use Rattle.cert_text.specs.Nodes.{Node, split, accept, reject, unknown, node_at, node_lines}
use Rattle.cert_text.specs.Report.{tree_lines}
use Rattle.cert_text.specs.Forms.{IsHead, IsNode, IsTree}
use Rattle.cert_text.specs.Whole.{height, branch_at, tree_at, report_at, feed_count}
use Rattle.cert_text.specs.Laws.{reported_lines, text_of, line_count, HeadsAreReadBack, ReadHeadsAreReported, NodesAreReadBack, ReadNodesAreReported, ReportsAreReadBack, PrefixesAreTruncated}
use Rattle.cert_check.specs.Sound.{IsSoundTree, leaf_counts}
use Rattle.cert_check.specs.Answer.{Came, Answer, Then, Ending, SplitEnds, NodeEnds, ReadEnds, HalfEnds, TreeEnds, RestEnds, HeadEnds, FileEnds, start, behind, no_leaves, one_accept, one_reject, one_unknown, rest_of}
use Rattle.cert_check.specs.Laws.{SoundFilesPass, PrefixesAreRefused}
use Rattle.cert_check.specs.declared.summary.Summary.{Summary}
use Rattle.cert_check.specs.declared.error.CheckError.TheVariants.{Text}

-- the leaves of both
abbrev pub plus : Summary → Summary → Summary
plus a b = record { accept = a.accept + b.accept; reject = a.reject + b.reject; unknown = a.unknown + b.unknown; version = a.version }

pub leaves_are : (a b : Summary) → a.accept ≡ b.accept → a.reject ≡ b.reject → a.unknown ≡ b.unknown → a.version ≡ b.version → a ≡ b
leaves_are a b e f g v = λ i. record { accept = e i; reject = f i; unknown = g i; version = v i }

pub none_and : (v : ℕ) (t : Tree) → plus (no_leaves v) (leaf_counts v t) ≡ leaf_counts v t
none_and v t = leaves_are (plus (no_leaves v) (leaf_counts v t)) (leaf_counts v t) (omega arith) (omega arith) (omega arith) refl

zero_and : (n : ℕ) → 0 + n ≡ n
zero_and n = omega arith

-- a sound tree isn't higher than what is left
pub sound_height : (h : HeadData) (t : Tree) (spans : Spans) (depth levels : ℕ) → IsSoundTree h.asked h.bound spans depth t → depth + levels ≡ greatest_depth h.asked → height t ≤ levels
sound_height h (splits axis lower upper) spans depth zero s e = absurd (omega (arith, s.0.left))
sound_height h (splits axis lower upper) spans depth (suc levels) s e =
    let low = sound_height h lower (lower_half axis spans) (depth + 1) levels s.1 (omega arith) in
    let high = sound_height h upper (upper_half axis spans) (depth + 1) levels s.2 (omega arith) in
    omega (arith, low, high)
sound_height h (accepts u x) spans depth levels s e = omega arith
sound_height h (rejects u r) spans depth levels s e = omega arith
sound_height h unknowns spans depth levels s e = omega arith

-- what reads the halves of a rectangle that may be halved so often
half_at : HeadData → ℕ → Reader Tree
half_at h zero c = fault c.0 Limit
half_at h (suc levels) c = tree_at h levels c

tree_by : (h : HeadData) (levels : ℕ) (c : Cursor) → tree_at h levels c ≡ (node_at h c >>= λ node. branch_at (half_at h levels) node.0 node.1)
unfolding tree_at half_at
tree_by h zero c = refl
tree_by h (suc levels) c = refl

ok_is : {A : Type 0} (x y : A) → ◌≡◌ {A = Result A TextError} (Ok x) (Ok y) → x ≡ y
ok_is x y e = cc

module _ (back : NodesAreReadBack) (reported : ReadNodesAreReported) (h : HeadData) (head : IsHead h) (tail : List ℕ) where
  -- a node that is read of a text that is cut off is that of the whole text
  node_same : (node first : Node) (c d : Cursor) (rest : List ℕ) → IsNode h first → c.1 ++ tail ≡ concat (node_lines h.from h.asked.model.init first) ++ rest → node_at h c ≡ Ok (node, d) → (node ≡ first) × (d.1 ++ tail ≡ rest)
  node_same node first c d rest fit whole read =
      let t = reported h node c.0 d.0 c.1 d.1 head read in
      let ls = concat (node_lines h.from h.asked.model.init node) in
      let again = back h node c.0 (d.1 ++ tail) head t.0 in
      let other = back h first c.0 rest head fit in
      let texts : ls ++ (d.1 ++ tail) ≡ concat (node_lines h.from h.asked.model.init first) ++ rest = sym (append_assoc ls d.1 tail) ∙ ap (λ b. b ++ tail) (sym t.1) ∙ whole in
      let same = sym again ∙ ap (λ b. node_at h (c.0, b)) texts ∙ other in
      let pairs = ok_is (node, (c.0 + length (node_lines h.from h.asked.model.init node), d.1 ++ tail)) (first, (c.0 + length (node_lines h.from h.asked.model.init first), rest)) same in
      (ap (λ (p : Node × Cursor). p.0) pairs, ap (λ (p : Node × Cursor). p.1.1) pairs)

  -- The walk ends as the tree is read: by the same fault, or behind the tree, whose leaves were met, and there the rest stands.
  Follows : (Answer Came → Type 0) → Tree → Came → List ℕ → Result (Tree × Cursor) TextError → Type 0
  Follows ends t came rest (Ok x) = (next : Came) × ends (Ok next) × (next.place ≡ x.1) × (next.leaves ≡ plus came.leaves (leaf_counts (version h) t)) × (x.1.1 ++ tail ≡ rest)
  Follows ends t came rest (Err e) = ends (Err (Text (reported_fault e)))

  step : (levels : ℕ) (halves : Ending) (half : Reader Tree) (spans : Spans) (t : Tree) (came : Came) (rest back_rest : List ℕ) (first : Node) (r : Result (Node × Cursor) TextError)
      → ((node : Node) (c : Cursor) → r ≡ Ok (node, c) → (node ≡ first) × (c.1 ++ tail ≡ back_rest))
      → ((c : Cursor) → c.1 ++ tail ≡ back_rest → Follows (NodeEnds h levels halves spans came first c) t came rest (branch_at half first c))
      → Follows (ReadEnds h levels halves spans came r) t came rest (r >>= λ node. branch_at half node.0 node.1)
  unfolding Follows
  step levels halves half spans t came rest back_rest first (Err e) same branch = refl
  step levels halves half spans t came rest back_rest first (Ok x) same branch =
      let is = same x.0 x.1 refl in
      subst (λ n. Follows (NodeEnds h levels halves spans came n x.1) t came rest (branch_at half n x.1)) (sym is.0) (branch x.1 is.1)

  -- two halves, one behind the other
  both : (lower_ends : Answer Came → Type 0) (upper_ends : Came → Answer Came → Type 0) (axis : ℕ) (lower upper : Tree) (came next : Came) (between rest : List ℕ) (half : Reader Tree) (r : Result (Tree × Cursor) TextError)
      → next.leaves ≡ came.leaves
      → Follows lower_ends lower next between r
      → ((there : Came) → there.place.1 ++ tail ≡ between → Follows (upper_ends there) upper there rest (half there.place))
      → Follows (Then lower_ends upper_ends) (splits axis lower upper) came rest (r >>= λ x. half x.1 >>= λ y. Ok (splits axis x.0 y.0, y.1))
  unfolding Follows
  both lower_ends upper_ends axis lower upper came next between rest half (Err e) leaves first second = (Err (Text (reported_fault e)), first, refl)
  both lower_ends upper_ends axis lower upper came next between rest half (Ok x) leaves (there, ends, place, visited, stands) second =
      behind_lower (half x.1) (subst (λ (c : Cursor). Follows (upper_ends there) upper there rest (half c)) place (second there (ap (λ (c : Cursor). c.1 ++ tail) place ∙ stands)))
    where
      behind_lower : (s : Result (Tree × Cursor) TextError) → Follows (upper_ends there) upper there rest s → Follows (Then lower_ends upper_ends) (splits axis lower upper) came rest (s >>= λ y. Ok (splits axis x.0 y.0, y.1))
      behind_lower (Err e) g = (Ok there, ends, g)
      behind_lower (Ok y) (last, g, at, more, end) =
          let l : last.leaves.accept ≡ there.leaves.accept + (leaf_counts (version h) upper).accept = ap (λ s. s.accept) more in
          let m : last.leaves.reject ≡ there.leaves.reject + (leaf_counts (version h) upper).reject = ap (λ s. s.reject) more in
          let n : last.leaves.unknown ≡ there.leaves.unknown + (leaf_counts (version h) upper).unknown = ap (λ s. s.unknown) more in
          let all : last.leaves ≡ plus came.leaves (leaf_counts (version h) (splits axis lower upper)) = leaves_are last.leaves (plus came.leaves (leaf_counts (version h) (splits axis lower upper)))
          (omega (arith, l, ap (λ s. s.accept) visited, ap (λ s. s.accept) leaves))
          (omega (arith, m, ap (λ s. s.reject) visited, ap (λ s. s.reject) leaves))
          (omega (arith, n, ap (λ s. s.unknown) visited, ap (λ s. s.unknown) leaves))
          (ap (λ (s : Summary). s.version) more ∙ ap (λ (s : Summary). s.version) visited ∙ ap (λ (s : Summary). s.version) leaves) in
          (last, (Ok there, ends, g), at, all, end)

  -- a sound tree is followed
  follow : (t : Tree) (levels depth : ℕ) (spans : Spans) (came : Came) (rest : List ℕ) → IsTree h t → IsSoundTree h.asked h.bound spans depth t → depth + levels ≡ greatest_depth h.asked
      → came.place.1 ++ tail ≡ concat (tree_lines h.from h.asked.model.init t) ++ rest → Follows (TreeEnds h levels spans came) t came rest (tree_at h levels came.place)
  unfolding Follows half_at tree_at
  follow (accepts u x) levels depth spans came rest fit s e whole =
      subst (λ r. Follows (TreeEnds h levels spans came) (accepts u x) came rest r) (sym (tree_by h levels came.place))
      (step levels (HalfEnds h levels) (half_at h levels) spans (accepts u x) came rest rest (accept u x) (node_at h came.place) (λ node c. node_same node (accept u x) came.place c rest fit whole)
      (λ c end. (behind came c (one_accept came.leaves), inl (s, refl), refl, leaves_are (one_accept came.leaves) (plus came.leaves (leaf_counts (version h) (accepts u x))) refl (omega arith) (omega arith) refl, end)))
  follow (rejects u r) levels depth spans came rest fit s e whole =
      subst (λ a. Follows (TreeEnds h levels spans came) (rejects u r) came rest a) (sym (tree_by h levels came.place))
      (step levels (HalfEnds h levels) (half_at h levels) spans (rejects u r) came rest rest (reject u r) (node_at h came.place) (λ node c. node_same node (reject u r) came.place c rest fit whole)
      (λ c end. (behind came c (one_reject came.leaves), inl (s, refl), refl, leaves_are (one_reject came.leaves) (plus came.leaves (leaf_counts (version h) (rejects u r))) (omega arith) refl (omega arith) refl, end)))
  follow unknowns (suc levels) depth spans came rest fit s e whole = absurd (omega (arith, s))
  follow unknowns zero depth spans came rest fit s e whole =
      subst (λ r. Follows (TreeEnds h zero spans came) unknowns came rest r) (sym (tree_by h zero came.place))
      (step zero (HalfEnds h zero) (half_at h zero) spans unknowns came rest rest unknown (node_at h came.place) (λ node c. node_same node unknown came.place c rest fit whole)
      (λ c end. (behind came c (one_unknown came.leaves), refl, refl, leaves_are (one_unknown came.leaves) (plus came.leaves (leaf_counts (version h) unknowns)) (omega arith) (omega arith) refl refl, end)))
  follow (splits axis lower upper) zero depth spans came rest fit s e whole = absurd (omega (arith, s.0.left))
  follow (splits axis lower upper) (suc levels) depth spans came rest fit s e whole =
      let first = tree_lines h.from h.asked.model.init lower in
      let second = tree_lines h.from h.asked.model.init upper in
      let own = node_lines h.from h.asked.model.init (split axis) in
      let both_rest : List ℕ = concat first ++ (concat second ++ rest) in
      let cut : concat (own ++ (first ++ second)) ++ rest ≡ concat own ++ both_rest =
      ap (λ b. b ++ rest) (concat-append own (first ++ second))
      ∙ append_assoc (concat own) (concat (first ++ second)) rest
      ∙ ap (λ b. concat own ++ (b ++ rest)) (concat-append first second)
      ∙ ap (λ b. concat own ++ b) (append_assoc (concat first) (concat second) rest) in
      subst (λ r. Follows (TreeEnds h (suc levels) spans came) (splits axis lower upper) came rest r) (sym (tree_by h (suc levels) came.place))
      (step (suc levels) (HalfEnds h (suc levels)) (half_at h (suc levels)) spans (splits axis lower upper) came rest both_rest (split axis) (node_at h came.place)
      (λ node c. node_same node (split axis) came.place c both_rest fit.0 (whole ∙ cut))
      (λ c end. halved c (branch_at (tree_at h levels) (split axis) c) (both (TreeEnds h levels (lower_half axis spans) (behind came c came.leaves)) (TreeEnds h levels (upper_half axis spans)) axis lower upper came (behind came c came.leaves) (concat second ++ rest) rest (tree_at h levels) (tree_at h levels c) refl
      (follow lower levels (depth + 1) (lower_half axis spans) (behind came c came.leaves) (concat second ++ rest) fit.1 s.1 (omega arith) end)
      (λ there stands. follow upper levels (depth + 1) (upper_half axis spans) there rest fit.2 s.2 (omega arith) stands))))
    where
      halved : (c : Cursor) (r : Result (Tree × Cursor) TextError) → Follows (Then (TreeEnds h levels (lower_half axis spans) (behind came c came.leaves)) (TreeEnds h levels (upper_half axis spans))) (splits axis lower upper) came rest r
          → Follows (SplitEnds (live h.asked.model) (suc levels) (HalfEnds h (suc levels)) spans came axis c) (splits axis lower upper) came rest r
      halved c (Err x) g = inl (s.0.axis_is, g)
      halved c (Ok x) (next, g, place, visited, end) = (next, inl (s.0.axis_is, g), place, visited, end)

  -- a walk over a tree whose reading stops
  cut_short : (ends : Answer Came → Type 0) (t : Tree) (came : Came) (rest : List ℕ) (r : Result (Tree × Cursor) TextError) (e : TextError) → r ≡ Err e → Follows ends t came rest r → ends (Err (Text (reported_fault e)))
  unfolding Follows
  cut_short ends t came rest (Ok x) e is g = absurd (ok_not_err is)
    where
      ok_not_err : ◌≡◌ {A = Result (Tree × Cursor) TextError} (Ok x) (Err e) → ⊥
      ok_not_err k = cc
  cut_short ends t came rest (Err f) e is g = let same : f ≡ e = err_is is in subst (λ (d : TextError). ends (Err (Text (reported_fault d)))) same g
    where
      err_is : ◌≡◌ {A = Result (Tree × Cursor) TextError} (Err f) (Err e) → f ≡ e
      err_is k = cc

-- ---- the whole

-- what stands behind a step that gave something
bind_is : {A B E : Type 0} (r : Result A E) (f : A → Result B E) (y : B) → (r >>= f) ≡ Ok y → (x : A) × (r ≡ Ok x) × (f x ≡ Ok y)
bind_is (Ok x) f y e = (x, refl, e)
bind_is (Err x) f y e = absurd cc

-- the fault of a report that is read is that of its tree, where the head was read
tree_fault : {A B E : Type 0} (r : Result A E) (f : A → B) (x : E) → (r >>= λ y. Ok (f y)) ≡ Err x → r ≡ Err x
tree_fault (Ok y) f x e = absurd cc
tree_fault (Err y) f x e = cc

rest_is : (bytes : List ℕ) (leaves : Summary) → bytes ≡ [] → rest_of bytes leaves ≡ Ok leaves
rest_is bytes leaves e = ap (λ b. rest_of b leaves) e

pub sound_passes : HeadsAreReadBack → NodesAreReadBack → ReadNodesAreReported → ReportsAreReadBack → SoundFilesPass
unfolding report_at Follows
sound_passes heads back reported reports bytes leaves file =
    let h = file.head in
    let t = file.tree in
    let k = h.asked in
    let fit = file.sound.report in
    let trees = concat (tree_lines h.from k.model.init t) in
    let c : Cursor = (1 + length (reported_lines h), trees) in
    let levels = greatest_depth k in
    let read : head_at (1, bytes) ≡ Ok (h, c) = ap (λ b. head_at (1, b)) file.text ∙ heads h 1 trees fit.head in
    let whole : report_at levels (1, text_of h t) ≡ Ok ((h, t), (1 + line_count h t, [])) =
    ap (λ b. report_at levels (1, b)) (sym (append-nil (text_of h t))) ∙ reports h t levels [] fit (sound_height h t k.root 0 levels file.sound.tree (zero_and levels)) in
    let tree : (tree_at h levels c >>= λ x. Ok ((h, x.0), x.1)) ≡ Ok ((h, t), (1 + line_count h t, [])) = rw (heads h 1 trees fit.head) at whole in
    let got = bind_is (tree_at h levels c) (λ x. Ok ((h, x.0), x.1)) ((h, t), (1 + line_count h t, [])) tree in
    let ends = follow back reported h fit.head [] t levels 0 k.root (start h c) [] fit.nodes file.sound.tree (zero_and levels) refl in
    let followed = subst (λ r. Follows back reported h fit.head [] (TreeEnds h levels k.root (start h c)) t (start h c) [] r) got.1 ends in
    let visited : followed.0.leaves ≡ leaves = followed.3 ∙ none_and (version h) t ∙ sym file.counts in
    let none : followed.0.place.1 ≡ [] = ap (λ (p : Cursor). p.1) followed.2 ∙ sym (append-nil got.0.1.1) ∙ followed.4 in
    let end : RestEnds followed.0 (Ok leaves) = sym (rest_is followed.0.place.1 followed.0.leaves none ∙ ap (λ s. Ok s) visited) in
    subst (λ r. FileEnds r (Ok leaves)) (sym read) (inl (file.sound.admitted, (Ok followed.0, followed.1, end)))

-- a head that is read of a text that is cut off is that of the whole text
module _ (heads : HeadsAreReadBack) (reported : ReadHeadsAreReported) where
  head_same : (g h : HeadData) (m : ℕ) (front back left rest : List ℕ) → IsHead h → front ++ back ≡ concat (reported_lines h) ++ rest → head_at (1, front) ≡ Ok (g, (m, left)) → (g ≡ h) × (left ++ back ≡ rest)
  head_same g h m front back left rest is whole read =
      let t = reported g 1 m front left read in
      let ls = concat (reported_lines g) in
      let texts : ls ++ (left ++ back) ≡ concat (reported_lines h) ++ rest = sym (append_assoc ls left back) ∙ ap (λ b. b ++ back) (sym t.1) ∙ whole in
      let same = sym (heads g 1 (left ++ back) t.0) ∙ ap (λ b. head_at (1, b)) texts ∙ heads h 1 rest is in
      let pairs = ok_is (g, (1 + length (reported_lines g), left ++ back)) (h, (1 + length (reported_lines h), rest)) same in
      (ap (λ (p : HeadData × Cursor). p.0) pairs, ap (λ (p : HeadData × Cursor). p.1.1) pairs)

  fault_is : {A : Type 0} {e f : TextError} → ◌≡◌ {A = Result A TextError} (Err e) (Err f) → ◌≡◌ {A = Answer Summary} (Err (Text (reported_fault f))) (Err (Text (reported_fault e)))
  fault_is {A} {e} {f} k = let same : f ≡ e = cc in ap (λ (d : TextError). Err (Text (reported_fault d))) same

  pub prefixes_refused : NodesAreReadBack → ReadNodesAreReported → PrefixesAreTruncated → PrefixesAreRefused
  unfolding report_at
  prefixes_refused back reported_nodes truncated front tail leaves file some = by_head (head_at (1, front)) refl
    where
      due : TextError
      due = record { line = 1 + feed_count front; cause = Truncated }

      cut : report_at (greatest_depth file.head.asked) (1, front) ≡ Err due
      cut = truncated file.head file.tree (greatest_depth file.head.asked) front tail file.sound.report (sound_height file.head file.tree file.head.asked.root 0 (greatest_depth file.head.asked) file.sound.tree (zero_and (greatest_depth file.head.asked))) (sym file.text) some

      by_head : (r : Result (HeadData × Cursor) TextError) → head_at (1, front) ≡ r → FileEnds r (Err (Text (reported_fault due)))
      by_head (Err e) is = let same : ◌≡◌ {A = Result ((HeadData × Tree) × Cursor) TextError} (Err e) (Err due) = rw is at cut in fault_is same
      by_head (Ok x) is =
          let h = file.head in
          let t = file.tree in
          let levels = greatest_depth h.asked in
          let same = head_same x.0 h x.1.0 front tail x.1.1 (concat (tree_lines h.from h.asked.model.init t)) file.sound.report.head file.text is in
          let here : (tree_at x.0 levels x.1 >>= λ y. Ok ((x.0, y.0), y.1)) ≡ Err due = rw is at cut in
          let stops : tree_at h levels x.1 ≡ Err due = ap (λ g. tree_at g levels x.1) (sym same.0) ∙ tree_fault (tree_at x.0 levels x.1) (λ y. ((x.0, y.0), y.1)) due here in
          let ends = follow back reported_nodes h file.sound.report.head tail t levels 0 h.asked.root (start h x.1) [] file.sound.report.nodes file.sound.tree (zero_and levels) (same.1 ∙ sym (append-nil (concat (tree_lines h.from h.asked.model.init t)))) in
          let stopped : TreeEnds h levels h.asked.root (start h x.1) (Err (Text (reported_fault due))) = cut_short back reported_nodes h file.sound.report.head tail (TreeEnds h levels h.asked.root (start h x.1)) t (start h x.1) [] (tree_at h levels x.1) due stops ends in
          subst (λ g. HeadEnds g x.1 (Err (Text (reported_fault due)))) (sym same.0) (inl (file.sound.admitted, (Err (Text (reported_fault due)), stopped, refl)))
