-- What the steps of a check say of the whole.
use Rattle.std.proofs.Common.{◌≡◌, ℕ, ℤ, zero, suc, ◌+◌, ◌-◌, ◌<◌, ◌≤◌, ◌^◌, ◌==◌, Bool, true, false, List, [], ◌∷◌, ◌++◌, length, Vec, Option, Some, None, Result, Ok, Err, refl, sym, ap, ◌∙◌, subst, arith, inl, inr}
use Rattle.std.specs.declared.alloc.Global.{Global}
use Rattle.std.proofs.lemmas.Bool.{eqb-true}
use Rattle.lift_grid.specs.Rectangle.{Spans}
use Rattle.lift_grid.specs.Splitting.{IsHalvable, IsSplitAxis}
use Rattle.lift_grid.specs.Tree.{RejectData, lower_half, upper_half}
use Rattle.lift_grid.specs.Parts.{region_of}
use Rattle.lift_grid.specs.declared.rect.Grid.{Grid}
use Rattle.lift_base.specs.Lines.{LinesData, KeepsLimit}
use Rattle.lift_base.specs.declared.pieces.LineError.{LineError}
use Rattle.lift_base.specs.declared.pieces.LineError.TheVariants as why
use Rattle.lift_model.specs.Model.{ModelData, live}
use Rattle.corner_lift.specs.Case.{CaseData, IsCase, IsAdmitted, case_of, greatest_depth}
use Rattle.lift_cert.specs.declared.bound.Bound.{Bound}
use Rattle.lift_cert.specs.Certificate.{IsAccepting, IsRejecting}
use Rattle.lift_cert.specs.Miss.{IsFirstAcceptMiss}
use Rattle.lift_cert.specs.declared.miss.Miss.{Miss}
use Rattle.lift_cert.specs.RejectMiss.{IsFirstRejectMiss}
use Rattle.lift_rows.specs.Fault.{IsFirstFault}
use Rattle.lift_rows.specs.declared.error.RowError.{RowError}
use Rattle.line_text.specs.Reading.{Cursor}
use Rattle.line_text.specs.declared.error.TextError.{TextError}
use Rattle.line_text.specs.Follow.{Follows, Ran, SeesEnd, place, reported_fault}
use Rattle.line_text.specs.Laws.{AddsUp}
use Rattle.cert_text.specs.Head.{HeadData, case_at, head_at, version}
use Rattle.cert_text.specs.Leaf.{node_of}
use Rattle.cert_text.specs.Nodes.{Node, split, accept, reject, unknown, node_at, node_lines}
use Rattle.cert_text.specs.declared.node_reader.Node.{Node as Given}
use Rattle.cert_text.specs.Forms.{IsHead, IsNode}
use Rattle.cert_text.specs.Laws.{ReadHeadsAreReported, ReadNodesAreReported, reported_lines}
use Rattle.cert_check.specs.Answer.{Came, Answer, Then, ReadEnds, HalfEnds, TreeEnds, RestEnds, HeadEnds, FileEnds, rest_of, start, behind, no_leaves, one_accept, one_reject, one_unknown}
use Rattle.cert_check.specs.Shown.{Checks, IsPlaced, IsSplitReported, IsInProgress, HalvesArePlaced, Misses, came_of, failure_of, reported_line}
use Rattle.cert_check.specs.declared.walk.Walk.{Walk}
use Rattle.cert_check.specs.declared.summary.Summary.{Summary}
use Rattle.cert_check.specs.declared.error.CheckError.{CheckError}
use Rattle.cert_check.specs.declared.error.CheckError.TheVariants.{Text, Rows, Depth, Rest}
use Rattle.cert_check.proofs.Walking.{SoFar, answered, begin, checked, faulted, goes_by, unchecked}

-- ---- lines

-- each node has a line
some_line : (from : Option ℕ) (init : ℕ) (node : Node) → 0 < length (node_lines from init node)
some_line from init (split axis) = omega arith
some_line None init (accept u x) = omega arith
some_line None init (reject u r) = omega arith
some_line (Some v) init (accept u x) = omega arith
some_line (Some v) init (reject u r) = omega arith
some_line from init unknown = omega arith

-- a line was given for a node
pub node_given : {S : Type 0} {left : S → Option (List ℕ)} {faults : S → ℕ} → ReadNodesAreReported → (h : HeadData) → IsHead h → {a b : LinesData} {s t : S} {node : Given} → Follows left faults node_of (node_at h) a b s t (Ok node) → a.given < b.given
node_given reported h head {a} {b} {node = node} f =
    let t = reported h (node_of node) (a.given + 1) (b.given + 1) (a.held ++ (f.bytes ++ [])) (b.held ++ []) head (f.agrees [] (λ _. refl)) in
    let some = some_line h.from h.asked.model.init (node_of node) in
    let is = t.2 in
    omega (arith, some, is)

-- a node that was read is one of the report
pub node_fits : {S : Type 0} {left : S → Option (List ℕ)} {faults : S → ℕ} → ReadNodesAreReported → (h : HeadData) → IsHead h → (node : Node) {a b : LinesData} {s t : S} {given : Given} → node_of given ≡ node → Follows left faults node_of (node_at h) a b s t (Ok given) → IsNode h node
node_fits reported h head node {a} {b} {given = given} is f =
    let t = reported h (node_of given) (a.given + 1) (b.given + 1) (a.held ++ (f.bytes ++ [])) (b.held ++ []) head (f.agrees [] (λ _. refl)) in
    subst (λ (n : Node). IsNode h n) is t.0

-- two lines were given for a head
pub head_given : {S : Type 0} {left : S → Option (List ℕ)} {faults : S → ℕ} → ReadHeadsAreReported → {a b : LinesData} {s t : S} {h : HeadData} → Follows left faults (λ (h : HeadData). h) head_at a b s t (Ok h) → 2 ≤ b.given
head_given reported {a} {b} {h = h} f =
    let t = reported h (a.given + 1) (b.given + 1) (a.held ++ (f.bytes ++ [])) (b.held ++ []) (f.agrees [] (λ _. refl)) in
    let some : 2 ≤ length (reported_lines h) = many h in
    let is = t.2 in
    omega (arith, some, is)
  where
    many : (h : HeadData) → 2 ≤ length (reported_lines h)
    many h = omega arith

-- no more lines than bytes were given, so that the number of a node is small
pub few_given : (w : Walk) (l : LinesData) → IsInProgress w → w.lines.given < l.given → l.failure ≡ None → l.given + length l.held ≤ l.taken → KeepsLimit l.failure l.limit l.taken → l.limit ≤ 2 ^ 32 → w.node + 1 < 2 ^ 32
few_given w l progress more none counted keeps small =
    let few : l.taken ≤ l.limit = subst (λ f. KeepsLimit f l.limit l.taken) none keeps in
    let nodes = progress.nodes in
    omega (arith, more, counted, few, small, nodes)

-- so is the number of leaves of each kind
pub few_visited : (w : Walk) → IsInProgress w → w.node + 1 < 2 ^ 32 → (w.leaves.accept + 1 < 2 ^ 32) × (w.leaves.reject + 1 < 2 ^ 32) × (w.leaves.unknown + 1 < 2 ^ 32)
few_visited w progress few = let visited = progress.leaves in (omega (arith, few, visited), omega (arith, few, visited), omega (arith, few, visited))

-- where the code stands behind a node
pub progress_behind : (w x : Walk) (l : LinesData) (ws : Vec ℤ Global) (leaves : Summary) → IsInProgress w → w.lines.given < l.given → l.failure ≡ None → x ≡ record { lines = l; node = w.node + 1; leaves = leaves; weights = ws }
    → leaves.accept + leaves.reject + leaves.unknown ≤ w.leaves.accept + w.leaves.reject + w.leaves.unknown + 1 → IsInProgress x
progress_behind w x l ws leaves progress more none is visited =
    let y : Walk = record { lines = l; node = w.node + 1; leaves = leaves; weights = ws } in
    let nodes = progress.nodes in
    let counted = progress.leaves in
    subst (λ (x : Walk). IsInProgress x) (sym is) (record { clean = none; nodes = omega (arith, nodes, more); leaves = omega (arith, counted, visited) })

-- ---- a node

-- what the nodes of a rectangle may come to behind a walk, where these bytes follow
abbrev pub Whole : HeadData → ℕ → Spans → Walk → List ℕ → Answer Came → Type 0
Whole h levels spans w later = TreeEnds h levels spans (came_of w later)

-- no node is read
pub not_read : (h : HeadData) (levels : ℕ) (spans : Spans) (w : Walk) (rest : List ℕ) (f : TextError) → node_at h (place w.lines rest) ≡ Err f → Whole h levels spans w rest (Err (Text (reported_fault f)))
not_read h levels spans w rest f bad = subst (λ r. ReadEnds h levels (HalfEnds h levels) spans (came_of w rest) r (Err (Text (reported_fault f)))) (sym bad) refl

-- a miss is no failure of the lines
pub missed_calm : (node : ℕ) (IsFirst : Miss → Type 0) (e : CheckError) → Misses node IsFirst e → failure_of {X = Unit {0}} (Err e) ≡ None
missed_calm node IsFirst e missed = ap (λ (d : CheckError). failure_of {X = Unit {0}} (Err d)) missed.2

-- nor is a depth
pub depth_calm : (node : ℕ) (e : CheckError) → e ≡ Depth node → failure_of {X = Unit {0}} (Err e) ≡ None
depth_calm node e reported = ap (λ (d : CheckError). failure_of {X = Unit {0}} (Err d)) reported

-- nor is what is wrong with a split
pub split_calm : (live levels : ℕ) (spans : Spans) (node axis : ℕ) (e : CheckError) → IsSplitReported live levels spans node axis e → failure_of {X = Unit {0}} (Err e) ≡ None
split_calm live zero spans node axis e reported = ap (λ (d : CheckError). failure_of {X = Unit {0}} (Err d)) reported
split_calm live (suc levels) spans node axis e reported = ap (λ (d : CheckError). failure_of {X = Unit {0}} (Err d)) reported.1

module _ {S : Type 0} {left : S → Option (List ℕ)} {faults : S → ℕ} (adds : AddsUp left faults) (h : HeadData) (levels : ℕ) (spans : Spans) (w : Walk) {l : LinesData} {s t : S} where
  -- a node was read
  pub node_read : {given : Given} (node : Node) → node_of given ≡ node → Follows left faults node_of (node_at h) w.lines l s t (Ok given) → (next : List ℕ → Answer Came → Type 0)
      → ((rest later : List ℕ) → node_at h (place w.lines rest) ≡ Ok (node, place l later) → (answer : Answer Came) → next later answer → Whole h levels spans w rest answer)
      → SoFar left faults (Whole h levels spans w) next w.lines l s t
  node_read node is f next how =
      goes_by adds next f.bytes (begin adds (Whole h levels spans w) w.lines s) f.ran (λ later may answer go. how (f.bytes ++ later) later (f.agrees later may ∙ ap (λ (n : Node). Ok (n, place l later)) is) answer go)

  -- a leaf was counted
  pub leaf_passed : (x : Walk) (ws : Vec ℤ Global) (leaves : Summary) → x ≡ record { lines = l; node = w.node + 1; leaves = leaves; weights = ws } → l.failure ≡ None
      → SoFar left faults (Whole h levels spans w) (λ later answer. answer ≡ Ok (record { node = w.node + 1; place = place l later; leaves = leaves })) w.lines l s t
      → Checks {X = Unit {0}} left faults w.lines x.lines s t (λ later _. came_of x later) (Whole h levels spans w) (Ok tt)
  leaf_passed x ws leaves is none so =
      subst (λ (x : Walk). Checks {X = Unit {0}} left faults w.lines x.lines s t (λ later _. came_of x later) (Whole h levels spans w) (Ok tt)) (sym is)
      (answered adds (λ later _. record { node = w.node + 1; place = place l later; leaves = leaves }) tt none so (λ later. refl))

  -- a node's fault is told
  pub node_faulted : (view : List ℕ → Unit {0} → Came) (e : CheckError) (r : Result (Unit {0}) CheckError) → r ≡ Err e → l.failure ≡ None → failure_of {X = Unit {0}} (Err e) ≡ None → SoFar left faults (Whole h levels spans w) (λ later answer. answer ≡ Err e) w.lines l s t
      → Checks {X = Unit {0}} left faults w.lines l s t view (Whole h levels spans w) r
  node_faulted view e r same none calm so = faulted adds view e r same none calm so (λ _ later. refl)

-- what is answered of a node that was read
module _ (h : HeadData) (levels : ℕ) (spans : Spans) (came : Came) (c : Cursor) where
  by_node : (node : Node) (answer : Answer Came) → node_at h came.place ≡ Ok (node, c) → ReadEnds h levels (HalfEnds h levels) spans came (Ok (node, c)) answer → TreeEnds h levels spans came answer
  by_node node answer read ends = subst (λ r. ReadEnds h levels (HalfEnds h levels) spans came r answer) (sym read) ends

  -- a miss of an accepting leaf's certificate
  pub accept_missed : (u : ℕ) (x : List ℤ) (k : CaseData) (bound : Bound) (e : CheckError) → node_at h came.place ≡ Ok (accept u x, c) → k ≡ case_at u h.asked → bound ≡ h.bound
      → Misses came.node (IsFirstAcceptMiss k spans bound x) e → TreeEnds h levels spans came (Err e)
  accept_missed u x k bound e read asked_is bound_is missed =
      let asked : IsFirstAcceptMiss (case_at u h.asked) spans bound x missed.0 = subst (λ (j : CaseData). IsFirstAcceptMiss j spans bound x missed.0) asked_is missed.1 in
      let first : IsFirstAcceptMiss (case_at u h.asked) spans h.bound x missed.0 = subst (λ (b : Bound). IsFirstAcceptMiss (case_at u h.asked) spans b x missed.0) bound_is asked in
      by_node (accept u x) (Err e) read (inr (missed.0, first, ap (λ d. Err d) missed.2))

  -- a miss of a rejecting one's
  pub reject_missed : (u : ℕ) (r : RejectData) (k : CaseData) (bound : Bound) (e : CheckError) → node_at h came.place ≡ Ok (reject u r, c) → k ≡ case_at u h.asked → bound ≡ h.bound
      → Misses came.node (IsFirstRejectMiss k spans bound r) e → TreeEnds h levels spans came (Err e)
  reject_missed u r k bound e read asked_is bound_is missed =
      let asked : IsFirstRejectMiss (case_at u h.asked) spans bound r missed.0 = subst (λ (j : CaseData). IsFirstRejectMiss j spans bound r missed.0) asked_is missed.1 in
      let first : IsFirstRejectMiss (case_at u h.asked) spans h.bound r missed.0 = subst (λ (b : Bound). IsFirstRejectMiss (case_at u h.asked) spans b r missed.0) bound_is asked in
      by_node (reject u r) (Err e) read (inr (missed.0, first, ap (λ d. Err d) missed.2))

  -- a certificate that holds
  pub accept_holds : (u : ℕ) (x : List ℤ) (k : CaseData) (bound : Bound) (answer : Answer Came) → node_at h came.place ≡ Ok (accept u x, c) → k ≡ case_at u h.asked → bound ≡ h.bound
      → IsAccepting k spans bound x → answer ≡ Ok (behind came c (one_accept came.leaves)) → TreeEnds h levels spans came answer
  accept_holds u x k bound answer read asked_is bound_is holds is =
      by_node (accept u x) answer read (inl (subst (λ (b : Bound). IsAccepting (case_at u h.asked) spans b x) bound_is (subst (λ (j : CaseData). IsAccepting j spans bound x) asked_is holds), is))

  pub reject_holds : (u : ℕ) (r : RejectData) (k : CaseData) (bound : Bound) (answer : Answer Came) → node_at h came.place ≡ Ok (reject u r, c) → k ≡ case_at u h.asked → bound ≡ h.bound
      → IsRejecting k spans bound r → answer ≡ Ok (behind came c (one_reject came.leaves)) → TreeEnds h levels spans came answer
  reject_holds u r k bound answer read asked_is bound_is holds is =
      by_node (reject u r) answer read (inl (subst (λ (b : Bound). IsRejecting (case_at u h.asked) spans b r) bound_is (subst (λ (j : CaseData). IsRejecting j spans bound r) asked_is holds), is))

-- an unknown leaf where no halving is left
pub unknown_stands : (h : HeadData) (levels : ℕ) (spans : Spans) (came : Came) (c : Cursor) (answer : Answer Came) → node_at h came.place ≡ Ok (unknown, c) → levels ≡ 0 → answer ≡ Ok (behind came c (one_unknown came.leaves)) → TreeEnds h levels spans came answer
unknown_stands h zero spans came c answer read none is = by_node h zero spans came c unknown answer read is
unknown_stands h (suc levels) spans came c answer read none is = absurd (omega (arith, none))

-- and where one is
pub unknown_deep : (h : HeadData) (levels : ℕ) (spans : Spans) (came : Came) (c : Cursor) (e : CheckError) → node_at h came.place ≡ Ok (unknown, c) → 0 < levels → e ≡ Depth came.node → TreeEnds h levels spans came (Err e)
unknown_deep h zero spans came c e read some is = absurd (omega (arith, some))
unknown_deep h (suc levels) spans came c e read some is = by_node h (suc levels) spans came c unknown (Err e) read (ap (λ (d : CheckError). Err d) is)

-- a split that may not stand there
pub split_reported : (h : HeadData) (levels : ℕ) (spans : Spans) (came : Came) (c : Cursor) (axis : ℕ) (k : CaseData) (e : CheckError) → node_at h came.place ≡ Ok (split axis, c) → k ≡ h.asked → IsSplitReported (live k.model) levels spans came.node axis e → TreeEnds h levels spans came (Err e)
split_reported h zero spans came c axis k e read same reported = by_node h zero spans came c (split axis) (Err e) read (ap (λ (d : CheckError). Err d) reported)
split_reported h (suc levels) spans came c axis k e read same reported =
    let not : IsSplitAxis (live h.asked.model) spans axis → ⊥ = subst (λ (j : CaseData). IsSplitAxis (live j.model) spans axis → ⊥) same reported.0 in
    by_node h (suc levels) spans came c (split axis) (Err e) read (inr (not, ap (λ (d : CheckError). Err d) reported.1))

pub visited_same : (a : Summary) → a.accept + a.reject + a.unknown ≤ a.accept + a.reject + a.unknown + 1
visited_same a = omega arith

pub visited_accept : (b a : Summary) → a ≡ one_accept b → a.accept + a.reject + a.unknown ≤ b.accept + b.reject + b.unknown + 1
visited_accept b a e = let x = ap (λ (l : Summary). l.accept) e in let y = ap (λ (l : Summary). l.reject) e in let z = ap (λ (l : Summary). l.unknown) e in omega (arith, x, y, z)

pub visited_reject : (b a : Summary) → a ≡ one_reject b → a.accept + a.reject + a.unknown ≤ b.accept + b.reject + b.unknown + 1
visited_reject b a e = let x = ap (λ (l : Summary). l.accept) e in let y = ap (λ (l : Summary). l.reject) e in let z = ap (λ (l : Summary). l.unknown) e in omega (arith, x, y, z)

pub visited_unknown : (b a : Summary) → a ≡ one_unknown b → a.accept + a.reject + a.unknown ≤ b.accept + b.reject + b.unknown + 1
visited_unknown b a e = let x = ap (λ (l : Summary). l.accept) e in let y = ap (λ (l : Summary). l.reject) e in let z = ap (λ (l : Summary). l.unknown) e in omega (arith, x, y, z)

-- ---- a split

-- where a rectangle may be split, its halves stand
pub halves_of : HalvesArePlaced → (k : CaseData) (levels axis : ℕ) (spans : Spans) → IsCase k → IsPlaced k levels spans → 0 < levels → IsSplitAxis (live k.model) spans axis
    → IsHalvable axis spans × IsPlaced k (levels - 1) (lower_half axis spans) × IsPlaced k (levels - 1) (upper_half axis spans)
halves_of placed k zero axis spans is at some axis_is = absurd (omega (arith, some))
halves_of placed k (suc levels) axis spans is at some axis_is =
    let less : levels ≡ suc levels - 1 = omega arith in
    subst (λ n. IsHalvable axis spans × IsPlaced k n (lower_half axis spans) × IsPlaced k n (upper_half axis spans)) less (placed k levels axis spans is at axis_is)

-- the same of a rectangle that is the same, from the same place on
pub moved : (h : HeadData) (levels m : ℕ) (spans ss : Spans) (came there : Came) (answer : Answer Came) → levels ≡ m → spans ≡ ss → came ≡ there → TreeEnds h levels spans came answer → TreeEnds h m ss there answer
moved h levels m spans ss came there answer e f g t =
    subst (λ n. TreeEnds h n ss there answer) e (subst (λ s. TreeEnds h levels s there answer) f (subst (λ d. TreeEnds h levels spans d answer) g t))

-- what the halves come to is what the rectangle comes to
pub split_then : (h : HeadData) (levels axis : ℕ) (spans : Spans) (came : Came) (c : Cursor) (answer : Answer Came) → node_at h came.place ≡ Ok (split axis, c) → 0 < levels → IsSplitAxis (live h.asked.model) spans axis
    → Then (TreeEnds h (levels - 1) (lower_half axis spans) (behind came c came.leaves)) (TreeEnds h (levels - 1) (upper_half axis spans)) answer → TreeEnds h levels spans came answer
split_then h zero axis spans came c answer read some axis_is t = absurd (omega (arith, some))
split_then h (suc levels) axis spans came c answer read some axis_is t =
    let less : suc levels - 1 ≡ levels = omega arith in
    let both : Then (TreeEnds h levels (lower_half axis spans) (behind came c came.leaves)) (TreeEnds h levels (upper_half axis spans)) answer =
    subst (λ n. Then (TreeEnds h n (lower_half axis spans) (behind came c came.leaves)) (TreeEnds h n (upper_half axis spans)) answer) less t in
    subst (λ r. ReadEnds h (suc levels) (HalfEnds h (suc levels)) spans came r answer) (sym read) (inl (axis_is, both))

-- what both halves may come to
abbrev pub Halves : HeadData → ℕ → Spans → ℕ → Walk → List ℕ → Answer Came → Type 0
Halves h levels spans axis x later = Then (TreeEnds h (levels - 1) (lower_half axis spans) (came_of x later)) (TreeEnds h (levels - 1) (upper_half axis spans))

module _ {S : Type 0} {left : S → Option (List ℕ)} {faults : S → ℕ} (adds : AddsUp left faults) (h : HeadData) (levels axis : ℕ) (spans : Spans) (w x : Walk) {s t : S} where
  -- a split that may stand there was read and counted
  pub halves_begin : {l : LinesData} {given : Given} (ws : Vec ℤ Global) → x ≡ record { lines = l; node = w.node + 1; leaves = w.leaves; weights = ws } → node_of given ≡ split axis → Follows left faults node_of (node_at h) w.lines l s t (Ok given)
      → 0 < levels → IsSplitAxis (live h.asked.model) spans axis → SoFar left faults (Whole h levels spans w) (Halves h levels spans axis x) w.lines x.lines s t
  halves_begin {l} ws is node f some axis_is =
      subst (λ (x : Walk). SoFar left faults (Whole h levels spans w) (Halves h levels spans axis x) w.lines x.lines s t) (sym is)
      (node_read adds h levels spans w (split axis) node f (Halves h levels spans axis (record { lines = l; node = w.node + 1; leaves = w.leaves; weights = ws }))
      (λ rest later read answer both. split_then h levels axis spans (came_of w rest) (place l later) answer read some axis_is both))

  module _ {m : LinesData} {u : S} (so : SoFar left faults (Whole h levels spans w) (Halves h levels spans axis x) w.lines x.lines s t) (ss : Spans) (lower : ss ≡ lower_half axis spans) where
    -- the lower half has a fault
    pub lower_fails : (see view : List ℕ → Unit {0} → Came) (e : CheckError) (r : Result (Unit {0}) CheckError) → r ≡ Err e → Checks left faults x.lines m t u see (λ later. TreeEnds h (levels - 1) ss (came_of x later)) (Err e) → Checks left faults w.lines m s u view (Whole h levels spans w) r
    lower_fails see view e r same f = unchecked adds so view e r same (λ l bad. (Err e, subst (λ z. TreeEnds h (levels - 1) z (came_of x l) (Err e)) lower bad, refl)) f

    -- the lower half was passed
    pub lower_passed : (y : Walk) → Checks {X = Unit {0}} left faults x.lines m t u (λ later _. came_of y later) (λ later. TreeEnds h (levels - 1) ss (came_of x later)) (Ok tt) → SoFar left faults (Whole h levels spans w) (λ later. TreeEnds h (levels - 1) (upper_half axis spans) (came_of y later)) w.lines m s u
    lower_passed y f =
        checked adds so tt (λ later. TreeEnds h (levels - 1) (upper_half axis spans) (came_of y later)) (λ l later first answer second. (Ok (came_of y later), subst (λ z. TreeEnds h (levels - 1) z (came_of x l) (Ok (came_of y later))) lower first, second)) f

-- ---- behind the last node

none_left : (bytes : List ℕ) (leaves : Summary) → (length bytes == 0) ≡ true → rest_of bytes leaves ≡ Ok leaves
none_left [] leaves is = refl
none_left (b ∷ bytes) leaves is = absurd (let none : suc (length bytes) ≡ 0 = eqb-true (suc (length bytes)) 0 is in omega (arith, none))

some_left : (bytes : List ℕ) (leaves : Summary) → (length bytes == 0) ≡ false → rest_of bytes leaves ≡ Err Rest
some_left [] leaves is = absurd cc
some_left (b ∷ bytes) leaves is = refl

module _ {S : Type 0} {left : S → Option (List ℕ)} {faults : S → ℕ} {a b : LinesData} {s t : S} (leaves : Summary) where
  -- nothing follows
  pub rest_ended : (none : Bool) → none ≡ true → SeesEnd left faults a b s t none → Checks left faults a b s t (λ _ x. x) (λ later answer. answer ≡ rest_of (a.held ++ later) leaves) (Ok leaves)
  rest_ended none is d = record {
    bytes = d.bytes;
    ran = d.ran;
    agrees = λ later may. sym (ap (λ (p : Cursor). rest_of p.1 leaves) (d.same later) ∙ none_left (b.held ++ later) leaves (d.rest later may ∙ is));
  }

  -- something follows
  pub rest_goes_on : (none : Bool) → none ≡ false → SeesEnd left faults a b s t none → Checks left faults a b s t (λ _ x. x) (λ later answer. answer ≡ rest_of (a.held ++ later) leaves) (Err Rest)
  rest_goes_on none is d = record {
    bytes = d.bytes;
    ran = d.ran;
    agrees = λ _ later may. sym (ap (λ (p : Cursor). rest_of p.1 leaves) (d.same later) ∙ some_left (b.held ++ later) leaves (d.rest later may ∙ is));
  }

  by_error : (e : LineError) (bytes : List ℕ) → Ran left faults a b s t bytes (Some e) → Checks left faults a b s t (λ _ x. x) (λ later answer. answer ≡ rest_of (a.held ++ later) leaves) (Err (reported_line e))
  by_error why.Fault bytes ran = record { bytes = bytes; ran = ran; agrees = λ bad. absurd bad }
  by_error why.TooLong bytes ran = record { bytes = bytes; ran = ran; agrees = λ bad. absurd bad }

  -- the source fails
  pub rest_fails : (e : LineError) (r : Answer Summary) → r ≡ Err (reported_line e) → (bytes : List ℕ) × Ran left faults a b s t bytes (Some e) → Checks left faults a b s t (λ _ x. x) (λ later answer. answer ≡ rest_of (a.held ++ later) leaves) r
  rest_fails e r same (bytes, ran) = subst (λ (r : Answer Summary). Checks left faults a b s t (λ _ x. x) (λ later answer. answer ≡ rest_of (a.held ++ later) leaves) r) (sym same) (by_error e bytes ran)

-- ---- a head

-- the case of a head's parts
pub case_same : (k : CaseData) (m : ModelData) (root : Spans) (grid : Grid) (w : ℕ) → m ≡ k.model → root ≡ k.root → grid.d ≡ k.d → grid.depth ≡ k.depth → w ≡ k.w → case_of m (region_of (grid, root)) w ≡ k
case_same k m root grid w a b c d e = λ i. record { model = a i; root = b i; d = c i; depth = d i; w = e i }

pub fault_ends : (h : HeadData) (c : Cursor) (k : CaseData) (e : RowError) → k ≡ h.asked → IsFirstFault k e → HeadEnds h c (Err (Rows e))
fault_ends h c k e same f = inr (e, subst (λ a. IsFirstFault a e) same f, refl)

-- what the nodes come to is what the head comes to
pub head_nodes : (h : HeadData) (c : Cursor) (k : CaseData) (answer : Answer Summary) → k ≡ h.asked → IsAdmitted k → Then (TreeEnds h (greatest_depth h.asked) h.asked.root (start h c)) RestEnds answer → HeadEnds h c answer
head_nodes h c k answer same admitted t = inl (subst IsAdmitted same admitted, t)

-- a head that isn't read
pub head_not_read : (a : LinesData) (later : List ℕ) (f : TextError) → head_at (place a later) ≡ Err f → FileEnds (head_at (place a later)) (Err (Text (reported_fault f)))
head_not_read a later f bad = subst (λ r. FileEnds r (Err (Text (reported_fault f)))) (sym bad) refl

-- a head that is read
pub head_read : {S : Type 0} {left : S → Option (List ℕ)} {faults : S → ℕ} → AddsUp left faults → {a b : LinesData} {s t : S} {h : HeadData} → Follows left faults (λ (h : HeadData). h) head_at a b s t (Ok h)
    → SoFar left faults (λ later. FileEnds (head_at (place a later))) (λ later. HeadEnds h (place b later)) a b s t
head_read adds {a} {b} {s} {h = h} f =
    goes_by adds (λ later. HeadEnds h (place b later)) f.bytes (begin adds (λ later. FileEnds (head_at (place a later))) a s) f.ran (λ later may answer ends. subst (λ r. FileEnds r answer) (sym (f.agrees later may)) ends)

-- where nodes begin
pub came_start : (h : HeadData) (w : Walk) (a : LinesData) (later : List ℕ) → w.lines ≡ a → w.node ≡ 0 → w.leaves ≡ no_leaves (version h) → came_of w later ≡ start h (place a later)
came_start h w a later e f g = λ i. record { node = f i; place = place (e i) later; leaves = g i }

-- what the nodes behind a head may come to
abbrev pub Nodes : HeadData → LinesData → List ℕ → Answer Summary → Type 0
Nodes h a later = Then (TreeEnds h (greatest_depth h.asked) h.asked.root (start h (place a later))) RestEnds

module _ (h : HeadData) (w : Walk) (ss : Spans) (levels : ℕ) (deep : levels ≡ greatest_depth h.asked) (root : ss ≡ h.asked.root) (begins : (later : List ℕ) → came_of w later ≡ start h (place w.lines later)) where
  -- a walk that begins there
  whole_tree : (later : List ℕ) (answer : Answer Came) → TreeEnds h levels ss (came_of w later) answer → TreeEnds h (greatest_depth h.asked) h.asked.root (start h (place w.lines later)) answer
  whole_tree later answer ends = moved h levels (greatest_depth h.asked) ss h.asked.root (came_of w later) (start h (place w.lines later)) answer deep root (begins later) ends

  -- a node has a fault
  pub nodes_fail : {S : Type 0} {left : S → Option (List ℕ)} {faults : S → ℕ} → AddsUp left faults → {m : LinesData} {s t : S} → (see : List ℕ → Unit {0} → Came) (e : CheckError) (r : Answer Summary) → r ≡ Err e
      → Checks left faults w.lines m s t see (λ later. TreeEnds h levels ss (came_of w later)) (Err e) → Checks left faults w.lines m s t (λ _ x. x) (Nodes h w.lines) r
  nodes_fail adds {m} {s} {t} see e r same f = unchecked adds (begin adds (Nodes h w.lines) w.lines s) (λ _ x. x) e r same (λ l bad. (Err e, whole_tree l (Err e) bad, refl)) f

  -- the nodes were passed
  pub nodes_passed : {S : Type 0} {left : S → Option (List ℕ)} {faults : S → ℕ} → AddsUp left faults → {m : LinesData} {s t : S} → (y : Walk) → Checks {X = Unit {0}} left faults w.lines m s t (λ later _. came_of y later) (λ later. TreeEnds h levels ss (came_of w later)) (Ok tt)
      → SoFar left faults (Nodes h w.lines) (λ later answer. answer ≡ rest_of (y.lines.held ++ later) y.leaves) w.lines m s t
  nodes_passed adds {m} {s} {t} y f = checked adds (begin adds (Nodes h w.lines) w.lines s) tt (λ later answer. answer ≡ rest_of (y.lines.held ++ later) y.leaves) (λ l later ends answer is. (Ok (came_of y later), whole_tree l (Ok (came_of y later)) ends, is)) f
