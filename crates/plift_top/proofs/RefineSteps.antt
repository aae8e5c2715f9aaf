-- What the steps of going on from a report come to.
use Rattle.std.proofs.Common.{◌≡◌, ◌∙◌, ℕ, List, [], ◌++◌, Ok, Err, refl, sym, ap, subst, arith, Option, Result, IsErrAnd}
use Rattle.std.specs.List.{concat}
use Rattle.lift_grid.specs.Rectangle.{Spans}
use Rattle.lift_grid.specs.Region.{Region}
use Rattle.lift_grid.specs.Parts.{region_of}
use Rattle.lift_grid.specs.Tree.{Tree}
use Rattle.lift_grid.specs.declared.rect.Grid.{Grid}
use Rattle.corner_lift.specs.Case.{CaseData, IsCase, case_of}
use Rattle.lift_rows.specs.Fault.{IsFirstFault}
use Rattle.lift_rows.specs.declared.error.RowError.{RowError}
use Rattle.cert_text.specs.Head.{HeadData}
use Rattle.cert_text.specs.Laws.{TextsTellOneReport, text_of, reported_lines}
use Rattle.cert_text.specs.Cut.{CutsHead, top_bytes}
use Rattle.cert_text.specs.Report.{head_lines, region_lines, tree_lines}
use Rattle.cert_check.specs.Sound.{IsSoundFile}
use Rattle.cert_check.specs.Answer.{Answers}
use Rattle.cert_check.specs.Shown.{IsReportedOfFile, Says}
use Rattle.cert_check.specs.declared.summary.Summary.{Summary}
use Rattle.cert_check.specs.declared.error.CheckError.{CheckError}
use Rattle.cert_check.specs.declared.error.CheckError.TheVariants as check
use Rattle.plift_top.specs.Laws.{RefinedReportsAreSound}
use Rattle.plift_top.specs.Refused.{check_refusal}
use Rattle.plift_top.specs.Reads.{ReadsText}
use Rattle.plift_top.proofs.Errors.{at_error}
use Rattle.plift_top.specs.Refine.{IsSoundText, deeper_head, IsFitting, refining, IsOldTree, IsOld, RefinesOld, GivesRegion, AreRefinedNodes, CanGoOn, RefinesTree}
use Rattle.plift_top.specs.Heads.{IsHeaded}
use Rattle.plift_top.specs.Steps.{WritesText}
use Rattle.plift_top.proofs.Refining.{deeper_head_is}
use Rattle.plift_top.specs.declared.refusal.Refusal.{Refusal}
use Rattle.plift_top.specs.declared.refusal.Refusal.TheVariants as refusal

-- ---- the case

deeper_is : (depth : ℕ) (h : HeadData) (p : Grid × Spans) → GivesRegion depth h (Ok p) → case_of h.asked.model (region_of p) h.asked.w ≡ (deeper_head depth h).asked
deeper_is depth h p g = ap (λ (r : Region). case_of h.asked.model r h.asked.w) g.2

pub can_go_on : (depth : ℕ) (h : HeadData) (p : Grid × Spans) (k : CaseData) (left : List ℕ) → GivesRegion depth h (Ok p) → k ≡ case_of h.asked.model (region_of p) h.asked.w → IsCase k → IsOld h left → CanGoOn k h left
can_go_on depth h p k left g made case old =
    let is : k ≡ (deeper_head depth h).asked = made ∙ deeper_is depth h p g in
    let at : k.depth ≡ depth = ap (λ (x : CaseData). x.depth) is in
    record {
      case = case;
      deeper = is ∙ ap (λ (d : ℕ). (deeper_head d h).asked) (sym at);
      above = omega (arith, at, g.0);
      old = old;
    }

-- ---- a report whose head was read

module _ {K : Type 0} (taken : K → Option (List ℕ)) (counts : K → ℕ) (depth : ℕ) (h : HeadData) (t : Tree) (out : K) where
  -- the depth can't be gone on to, or memory ran out
  pub old_stopped : (why : Refusal) (result : Result (Unit {0}) Refusal) → IsErrAnd result (λ e. e ≡ why) → GivesRegion depth h (Err why) → RefinesOld taken counts depth h t out out result
  old_stopped why result is g = at_error (RefinesOld taken counts depth h t out out) why result is (by why g)
    where
      by : (why : Refusal) → GivesRegion depth h (Err why) → RefinesOld {T = Unit {0}} taken counts depth h t out out (Err why)
      by (refusal.Usage f) g = (g, refl)
      by refusal.Memory g = refl
      by _ g = absurd g

  -- a row isn't admitted
  pub old_refused : (p : Grid × Spans) → GivesRegion depth h (Ok p) → (error : RowError) (result : Result (Unit {0}) Refusal) → IsErrAnd result (λ e. e ≡ refusal.Rows error) → IsFirstFault (case_of h.asked.model (region_of p) h.asked.w) error → RefinesOld taken counts depth h t out out result
  old_refused p g error result is a = at_error (RefinesOld taken counts depth h t out out) (refusal.Rows error) result is ((g.1, subst (λ (k : CaseData). IsFirstFault k error) (deeper_is depth h p g) a), refl)

-- trees of one text are the same
one_tree : TextsTellOneReport → (h : HeadData) (left : List ℕ) (t s : Tree) → IsOldTree h left t → IsOldTree h left s → t ≡ s
one_tree same h left t s one other =
    let texts : text_of h t ++ [] ≡ text_of h s ++ [] = ap (λ (l : List ℕ). (concat (reported_lines h) ++ l) ++ []) (sym one.text ∙ other.text) in
    (same h h t s [] [] one.sound.report other.sound.report texts).1

-- what was written
pub old_written : TextsTellOneReport → RefinedReportsAreSound → {K : Type 0} (taken : K → Option (List ℕ)) (counts : K → ℕ) (depth : ℕ) (h : HeadData) (p : Grid × Spans) (k : CaseData) (top left : List ℕ) (t : Tree) (out out' : K) (result : Result (Unit {0}) Refusal)
    → GivesRegion depth h (Ok p) → k ≡ case_of h.asked.model (region_of p) h.asked.w → IsCase k → top ≡ top_bytes h → IsOldTree h left t
    → WritesText taken counts (IsHeaded (top ++ concat (region_lines k)) (AreRefinedNodes k h left)) out out' result → RefinesOld taken counts depth h t out out' result
old_written same law {K} taken counts depth h p k top left t out out' result g made case first old w =
    by result (subst (λ (x : CaseData). WritesText taken counts (IsHeaded (concat (head_lines x h.from h.bound)) (AreRefinedNodes x h left)) out out' result) is (subst (λ (b : List ℕ). WritesText taken counts (IsHeaded b (AreRefinedNodes k h left)) out out' result) head w))
  where
    is : k ≡ (deeper_head depth h).asked
    is = made ∙ deeper_is depth h p g

    head : top ++ concat (region_lines k) ≡ concat (head_lines k h.from h.bound)
    head = ap (λ (b : List ℕ). b ++ concat (region_lines k)) first ∙ deeper_head_is k h left (can_go_on depth h p k left g made case (t, old))

    fit : IsFitting depth h
    fit = record { above = g.0; fits = g.1; case = subst IsCase is case }

    Text : List ℕ → Type 0
    Text = IsHeaded (concat (head_lines (deeper_head depth h).asked h.from h.bound)) (AreRefinedNodes (deeper_head depth h).asked h left)

    -- the text of a tree that refines the old one
    text : (refined : Tree) → RefinesTree depth h t refined → Text (text_of (deeper_head depth h) refined)
    text refined r = (concat (tree_lines h.from h.asked.model.init refined), (refined, (t, old, r), refl), refl)

    by : (result : Result (Unit {0}) Refusal) → WritesText taken counts Text out out' result → RefinesOld taken counts depth h t out out' result
    by (Ok x) ((bytes, (nodes, (refined, (s, was, r), e), _)), whole) =
        let refines = subst (λ (y : Tree). RefinesTree depth h y refined) (one_tree same h left s t was old) r in
        (fit, (refined, law depth h t refined old.sound (omega (arith, g.0)) fit.case refines, whole (text_of (deeper_head depth h) refined) (text refined refines)))
    by (Err refusal.WriteFault) (part, rose) = (fit, λ refined r. part (text_of (deeper_head depth h) refined) (text refined r), rose)
    by (Err refusal.Memory) w = w
    by (Err _) w = absurd w

-- ---- a text

-- a text that isn't sound
pub text_stopped : {K : Type 0} (taken : K → Option (List ℕ)) (counts : K → ℕ) (depth : ℕ) (out : K) (text : List ℕ) (error : CheckError) (result : Result (Unit {0}) Refusal) → IsErrAnd result (λ e. e ≡ check_refusal error) → Says {X = Summary} (λ s. s) (Answers text) (Err error) → IsReportedOfFile error
    → ReadsText taken counts (refining depth) text out out result
text_stopped taken counts depth out text error result is says reported = at_error (ReadsText taken counts (refining depth) text out out) (check_refusal error) result is (by error says reported)
  where
    by : (error : CheckError) → Says {X = Summary} (λ s. s) (Answers text) (Err error) → IsReportedOfFile error → ReadsText {T = Unit {0}} taken counts (refining depth) text out out (Err (check_refusal error))
    by check.Memory says reported = refl
    by check.Fault says reported = absurd reported
    by check.TooLong says reported = absurd reported
    by _ says reported = (says (λ k. absurd (cc)), refl)

-- a text that was found sound, with the head and the nodes that were cut off it
module _ (text : List ℕ) (leaves : Summary) (file : IsSoundFile text leaves) (h : HeadData) (top left : List ℕ) (cuts : CutsHead text h top left) where
  parts : (h ≡ file.head) × (top ≡ top_bytes file.head) × (left ≡ concat (tree_lines file.head.from file.head.asked.model.init file.tree))
  parts = cuts file.head (concat (tree_lines file.head.from file.head.asked.model.init file.tree)) file.sound.report.head file.text

  old_at : IsOldTree h left file.tree
  old_at = subst (λ (g : HeadData). IsOldTree g left file.tree) (sym parts.0) (record { sound = file.sound; text = parts.2 })

  pub text_top : top ≡ top_bytes h
  text_top = parts.1 ∙ ap top_bytes (sym parts.0)

  pub text_old : IsOld h left
  text_old = (file.tree, old_at)

  sound_text : IsSoundText text h file.tree
  sound_text = subst (λ (g : HeadData). IsSoundText text g file.tree) (sym parts.0) (record { sound = file.sound; text = file.text })

  pub text_refined : {K : Type 0} (taken : K → Option (List ℕ)) (counts : K → ℕ) (depth : ℕ) (out out' : K) (result : Result (Unit {0}) Refusal) → ((t : Tree) → IsOldTree h left t → RefinesOld taken counts depth h t out out' result) → ReadsText taken counts (refining depth) text out out' result
  text_refined {K} taken counts depth out out' result each = by result (each file.tree old_at)
    where
      by : (result : Result (Unit {0}) Refusal) → RefinesOld taken counts depth h file.tree out out' result → ReadsText taken counts (refining depth) text out out' result
      by (Ok x) (fit, reported) = record { head = h; tree = file.tree; old = sound_text; fitting = fit; reported = reported }
      by (Err refusal.WriteFault) (fit, part, rose) = (record { head = h; tree = file.tree; old = sound_text; fitting = fit; reported = part }, rose)
      by (Err refusal.Memory) same = same
      by (Err refusal.ReadFault) (is, same) = absurd is
      by (Err refusal.TooLong) (is, same) = absurd is
      by (Err (refusal.Unsound error)) (is, same) = absurd is
      by (Err why) r = ((h, file.tree, sound_text, r.0), r.1)
