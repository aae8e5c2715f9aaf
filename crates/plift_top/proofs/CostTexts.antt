-- What a text for a budget is, piece by piece, and what its leaves say.
use Rattle.std.proofs.Common.{◌≡◌, ◌≤◌, ◌<◌, ◌+◌, ℕ, zero, suc, List, [], ◌∷◌, ◌++◌, map, drop, codes, Some, refl, sym, ap, ◌∙◌, arith, add-one, append_assoc, length}
use Rattle.std.specs.Prelude.{All, ℤ, pos, unsigned_abs, slice_index_or}
use Rattle.std.specs.List.{concat, flat_map}
use Prim.Native.Char.{code}
use Rattle.lift_grid.specs.Rectangle.{Spans}
use Rattle.lift_grid.specs.Laws.{TreesTile}
use Rattle.corner_lift.specs.Case.{CaseData, IsCase}
use Rattle.corner_lift.specs.Laws.{LiveHasSpan}
use Rattle.lift_walk.specs.Laws.{RootIsAtDepth, HalvesAreDeeper}
use Rattle.lift_walk.specs.Sides.{IsAtDepth}
use Rattle.lift_costs.specs.Costs.{CostData, IsCost, cost_of, no_cost}
use Rattle.lift_cost.specs.Decided.{AskedCost, DecidesCost, IsOpenCost}
use Rattle.lift_cost.specs.Laws.{CertificatesBoundCosts}
use Rattle.lift_cost.specs.Text.{tree_text, IsTreeText}
use Rattle.cert_text.specs.Report.{line, spaced}
use Rattle.plift_top.specs.Cost.{fraction_word, cost_word, cost_head, cost_question, CostPartHolds}
use Rattle.plift_top.specs.Heads.{IsHeaded}
use Rattle.plift_top.specs.Steps.{IsTestedCase}
use Rattle.plift_top.proofs.Parts.{tells}
use Rattle.plift_top.proofs.Telling.{Tells}

-- ---- the line of the costs

-- a line is its first word, the others with a space before each, and the line feed
pub line_pieces : {A : Type 0} (word : A → List ℕ) (first : List ℕ) (xs : List A) → line (first ∷ map word xs) ≡ first ++ (flat_map (λ x. spaced (word x)) xs ++ codes "\n")
line_pieces word first [] = refl
line_pieces word first (x ∷ xs) =
    ap (λ (rest : List ℕ). first ++ spaced rest) (line_pieces word (word x) xs)
    ∙ ap (λ (rest : List ℕ). first ++ code " " ∷ rest) (sym (append_assoc (word x) (flat_map (λ y. spaced (word y)) xs) (codes "\n")))

flat_suc : {A : Type 0} (f : A → List ℕ) (xs : List A) (i : ℕ) (default : A) → i < length xs → flat_map f (drop i xs) ≡ f (slice_index_or xs i default) ++ flat_map f (drop (suc i) xs)
flat_suc f [] i default h = absurd (omega arith)
flat_suc f (x ∷ xs) zero default h = refl
flat_suc f (x ∷ xs) (suc i) default h = flat_suc f xs i default (omega arith)

-- the next of the costs that are left, which is told as a pair, and those behind it
pub next_cost : (costs : List CostData) (s : ℕ) (reported : ℤ × ℤ) → s < length costs → reported ≡ (pos (cost_of costs s).num, pos (cost_of costs s).den)
    → flat_map (λ c. spaced (cost_word c)) (drop s costs) ≡ spaced (fraction_word (unsigned_abs reported.0) (unsigned_abs reported.1)) ++ flat_map (λ c. spaced (cost_word c)) (drop (s + 1) costs)
next_cost costs s reported h e =
    rw (add-one s) (flat_suc (λ c. spaced (cost_word c)) costs s no_cost h
    ∙ ap (λ (t : ℤ × ℤ). spaced (fraction_word (unsigned_abs t.0) (unsigned_abs t.1)) ++ flat_map (λ c. spaced (cost_word c)) (drop (suc s) costs)) (sym e))

-- ---- what is said

-- what a decided leaf says holds
leaf_holds : CertificatesBoundCosts → (k : CaseData) (q : AskedCost) → IsCase k → All IsCost q.costs → 1 ≤ q.cap → (spans : Spans) (depth : ℕ) (z : List ℤ) → IsAtDepth k depth spans → DecidesCost k q spans z
    → CostPartHolds k q (record { spans = spans; leaf = Some z })
leaf_holds bounds k q case costs cap spans depth z at r = bounds k spans q.costs q.cap q.budget z case at.inside costs cap (record { priced = r.0.priced; limit = r.1 })

-- the text tells what is asked
pub tells_cost : CertificatesBoundCosts → RootIsAtDepth → HalvesAreDeeper → TreesTile → LiveHasSpan → (k : CaseData) (q : AskedCost) → IsTestedCase k → All IsCost q.costs → 1 ≤ q.cap
    → Tells k (cost_question k q) (IsHeaded (concat (cost_head k q)) (IsTreeText k q k.root 0))
tells_cost bounds root deeper tile live k q case costs some =
    tells root deeper tile live (DecidesCost k q) (IsOpenCost k q) k case (CostPartHolds k q) (concat (cost_head k q)) tree_text (leaf_holds bounds k q case.case costs some) (λ spans undecided. undecided)
