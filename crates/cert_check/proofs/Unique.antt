-- At most one answer is given to a text.
use Rattle.std.proofs.Common.{◌≡◌, ℕ, zero, suc, Bool, true, false, List, ℤ, Result, Ok, Err, refl, sym, ap, ◌∙◌, subst, arith, inl, inr, nat_lt, ltb-true, ltb-false}
use Rattle.lift_grid.specs.Splitting.{IsSplitAxis}
use Rattle.lift_grid.specs.Rectangle.{Spans}
use Rattle.lift_grid.specs.Tree.{RejectData, lower_half, upper_half}
use Rattle.lift_model.specs.Model.{live}
use Rattle.corner_lift.specs.Case.{CaseData, IsCase, Within, greatest_depth}
use Rattle.lift_rows.specs.Laws.{FirstFaultIsOne, AdmittedHasNoFault}
use Rattle.lift_cert.specs.Laws.{FirstAcceptMissIsOne, AcceptingMissesNone, FirstRejectMissIsOne, RejectingMissesNone}
use Rattle.lift_cert.specs.declared.bound.Bound.{Bound}
use Rattle.line_text.specs.Reading.{Cursor}
use Rattle.line_text.specs.declared.error.TextError.{TextError}
use Rattle.cert_text.specs.Head.{HeadData, case_at, head_at}
use Rattle.cert_text.specs.Nodes.{Node, split, accept, reject, unknown, node_at}
use Rattle.cert_text.specs.Forms.{IsHead}
use Rattle.cert_text.specs.Laws.{ReadHeadsAreReported}
use Rattle.cert_check.specs.Answer.{Came, Answer, GoesOn, Then, Ending, AcceptEnds, RejectEnds, UnknownEnds, SplitEnds, NodeEnds, ReadEnds, HalfEnds, TreeEnds, RestEnds, HeadEnds, FileEnds, start, behind}
use Rattle.cert_check.specs.Laws.{AnswersAreOne}
use Rattle.cert_check.specs.Shown.{IsPlaced, RootIsPlaced, HalvesArePlaced}
use Rattle.cert_check.specs.declared.summary.Summary.{Summary}
use Rattle.cert_check.specs.declared.error.CheckError.TheVariants.{Rows, Missed}

-- ---- steps

module _ {A B : Type 0} (first : Answer A → Type 0) (next : A → Answer B → Type 0) (one : (a b : Answer A) → first a → first b → a ≡ b) (two : (x : A) (a b : Answer B) → next x a → next x b → a ≡ b) where
  goes_on : (x : Answer A) (a b : Answer B) → GoesOn next x a → GoesOn next x b → a ≡ b
  goes_on (Ok x) a b p q = two x a b p q
  goes_on (Err e) a b p q = p ∙ sym q

  then_one : (a b : Answer B) → Then first next a → Then first next b → a ≡ b
  then_one a b p q = goes_on p.0 a b p.2 (subst (λ z. GoesOn next z b) (sym (one p.0 q.0 p.1 q.1)) q.2)

-- ---- nodes

either_way : {P : Type 0} (b : Bool) → (b ≡ true → P) → (b ≡ false → P) → P
either_way true f g = f refl
either_way false f g = g refl

-- the split rule chooses at most one axis
pub axis_is_one : (live : ℕ) (ss : Spans) (i j : ℕ) → IsSplitAxis live ss i → IsSplitAxis live ss j → i ≡ j
axis_is_one live ss i j h g =
    either_way (nat_lt i j)
    (λ e. absurd (omega (arith, g.first i h.is_live (ltb-true i j e), h.longest j g.is_live)))
    (λ e. either_way (nat_lt j i)
    (λ f. absurd (omega (arith, h.first j g.is_live (ltb-true j i f), g.longest i h.is_live)))
    (λ f. omega (arith, ltb-false i j e, ltb-false j i f)))

module _ (accept_one : FirstAcceptMissIsOne) (accept_none : AcceptingMissesNone) (reject_one : FirstRejectMissIsOne) (reject_none : RejectingMissesNone) where
  accepts : (k : CaseData) (bound : Bound) (spans : Spans) (came : Came) (x : List ℤ) (c : Cursor) (a b : Answer Came) → Within spans k.root → AcceptEnds k bound spans came x c a → AcceptEnds k bound spans came x c b → a ≡ b
  accepts k bound spans came x c a b in_root (inl p) (inl q) = p.1 ∙ sym q.1
  accepts k bound spans came x c a b in_root (inl p) (inr q) = absurd (accept_none k spans bound x q.0 in_root p.0 q.1)
  accepts k bound spans came x c a b in_root (inr p) (inl q) = absurd (accept_none k spans bound x p.0 in_root q.0 p.1)
  accepts k bound spans came x c a b in_root (inr p) (inr q) = p.2 ∙ ap (λ m. Err (Missed came.node m)) (accept_one k spans bound x p.0 q.0 p.1 q.1) ∙ sym q.2

  rejects : (k : CaseData) (bound : Bound) (spans : Spans) (came : Came) (r : RejectData) (c : Cursor) (a b : Answer Came) → Within spans k.root → RejectEnds k bound spans came r c a → RejectEnds k bound spans came r c b → a ≡ b
  rejects k bound spans came r c a b in_root (inl p) (inl q) = p.1 ∙ sym q.1
  rejects k bound spans came r c a b in_root (inl p) (inr q) = absurd (reject_none k spans bound r q.0 in_root p.0 q.1)
  rejects k bound spans came r c a b in_root (inr p) (inl q) = absurd (reject_none k spans bound r p.0 in_root q.0 p.1)
  rejects k bound spans came r c a b in_root (inr p) (inr q) = p.2 ∙ ap (λ m. Err (Missed came.node m)) (reject_one k spans bound r p.0 q.0 p.1 q.1) ∙ sym q.2

  unknowns : (levels : ℕ) (came : Came) (c : Cursor) (a b : Answer Came) → UnknownEnds levels came c a → UnknownEnds levels came c b → a ≡ b
  unknowns zero came c a b p q = p ∙ sym q
  unknowns (suc levels) came c a b p q = p ∙ sym q

  -- the nodes of a rectangle that may be halved once less come to one answer
  abbrev OneBelow : CaseData → ℕ → Ending → Type 0
  OneBelow k zero halves = Unit {0}
  OneBelow k (suc levels) halves = (spans : Spans) (came : Came) (a b : Answer Came) → IsPlaced k levels spans → halves spans came a → halves spans came b → a ≡ b

  module _ (placed : HalvesArePlaced) (h : HeadData) (is : IsCase h.asked) where
    splits : (levels : ℕ) (halves : Ending) → OneBelow h.asked levels halves → (spans : Spans) (came : Came) (axis : ℕ) (c : Cursor) (a b : Answer Came) → IsPlaced h.asked levels spans
        → SplitEnds (live h.asked.model) levels halves spans came axis c a → SplitEnds (live h.asked.model) levels halves spans came axis c b → a ≡ b
    splits zero halves below spans came axis c a b at p q = p ∙ sym q
    splits (suc levels) halves below spans came axis c a b at (inl p) (inl q) =
        let half = placed h.asked levels axis spans is at p.0 in
        then_one (halves (lower_half axis spans) (behind came c came.leaves)) (halves (upper_half axis spans))
        (λ x y. below (lower_half axis spans) (behind came c came.leaves) x y half.1)
        (λ next x y. below (upper_half axis spans) next x y half.2) a b p.1 q.1
    splits (suc levels) halves below spans came axis c a b at (inl p) (inr q) = absurd (q.0 p.0)
    splits (suc levels) halves below spans came axis c a b at (inr p) (inl q) = absurd (p.0 q.0)
    splits (suc levels) halves below spans came axis c a b at (inr p) (inr q) = p.1 ∙ sym q.1

    nodes : (levels : ℕ) (halves : Ending) → OneBelow h.asked levels halves → (spans : Spans) (came : Came) (node : Node) (c : Cursor) (a b : Answer Came) → IsPlaced h.asked levels spans
        → NodeEnds h levels halves spans came node c a → NodeEnds h levels halves spans came node c b → a ≡ b
    nodes levels halves below spans came (split axis) c a b at p q = splits levels halves below spans came axis c a b at p q
    nodes levels halves below spans came (accept u x) c a b at p q = accepts (case_at u h.asked) h.bound spans came x c a b at.inside.within p q
    nodes levels halves below spans came (reject u r) c a b at p q = rejects (case_at u h.asked) h.bound spans came r c a b at.inside.within p q
    nodes levels halves below spans came unknown c a b at p q = unknowns levels came c a b p q

    reads : (levels : ℕ) (halves : Ending) → OneBelow h.asked levels halves → (spans : Spans) (came : Came) (r : Result (Node × Cursor) TextError) (a b : Answer Came) → IsPlaced h.asked levels spans
        → ReadEnds h levels halves spans came r a → ReadEnds h levels halves spans came r b → a ≡ b
    reads levels halves below spans came (Ok x) a b at p q = nodes levels halves below spans came x.0 x.1 a b at p q
    reads levels halves below spans came (Err e) a b at p q = p ∙ sym q

    below_one : (levels : ℕ) → OneBelow h.asked levels (HalfEnds h levels)
    below_one zero = tt
    below_one (suc levels) = λ spans came a b at p q. reads levels (HalfEnds h levels) (below_one levels) spans came (node_at h came.place) a b at p q

    tree_one : (levels : ℕ) (spans : Spans) (came : Came) (a b : Answer Came) → IsPlaced h.asked levels spans → TreeEnds h levels spans came a → TreeEnds h levels spans came b → a ≡ b
    tree_one levels spans came a b at p q = reads levels (HalfEnds h levels) (below_one levels) spans came (node_at h came.place) a b at p q

  -- ---- the whole

  module _ (fault_one : FirstFaultIsOne) (fault_none : AdmittedHasNoFault) (root : RootIsPlaced) (placed : HalvesArePlaced) (reported : ReadHeadsAreReported) where
    heads : (h : HeadData) (c : Cursor) (a b : Answer Summary) → IsHead h → HeadEnds h c a → HeadEnds h c b → a ≡ b
    heads h c a b head (inl p) (inl q) =
        let is : IsCase h.asked = record { asked = head.asked; admitted = p.0 } in
        then_one (TreeEnds h (greatest_depth h.asked) h.asked.root (start h c)) RestEnds
        (λ x y. tree_one placed h is (greatest_depth h.asked) h.asked.root (start h c) x y (root h.asked is))
        (λ next x y s t. s ∙ sym t) a b p.1 q.1
    heads h c a b head (inl p) (inr q) = absurd (fault_none h.asked q.0 p.0 q.1)
    heads h c a b head (inr p) (inl q) = absurd (fault_none h.asked p.0 q.0 p.1)
    heads h c a b head (inr p) (inr q) = p.2 ∙ ap (λ e. Err (Rows e)) (fault_one h.asked p.0 q.0 p.1 q.1) ∙ sym q.2

    files : (bytes : List ℕ) (r : Result (HeadData × Cursor) TextError) (a b : Answer Summary) → head_at (1, bytes) ≡ r → FileEnds r a → FileEnds r b → a ≡ b
    files bytes (Ok x) a b e p q = heads x.0 x.1 a b ((reported x.0 1 x.1.0 bytes x.1.1 e).0) p q
    files bytes (Err e) a b is p q = p ∙ sym q

    pub answers_one : AnswersAreOne
    answers_one bytes a b p q = files bytes (head_at (1, bytes)) a b refl p q
