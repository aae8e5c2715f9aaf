-- The lines of a report of the first version, and what the second has in their place.
use Rattle.std.proofs.Common.{◌≡◌, ℕ, ◌+◌, ◌^◌, Option, Bool, true, false, cond, List, [], ◌∷◌, ◌++◌, length, map, drop, refl, sym, ap, ap₂, subst, ◌∙◌, arith, append_assoc, codes, nat_eq}
use Rattle.std.specs.Prelude.{Some, None}
use Rattle.std.specs.List.{AllByRecursion, concat, flat_map, join_with_byte, starts_with}
use Rattle.std.specs.Fmt.{decimal, signed_decimal}
use Rattle.std.proofs.lemmas.Grind.{flat_map-append}
use Rattle.std.proofs.lemmas.List.Folds.{concat-append}
use Prim.Native.Char.{code}
use Rattle.lift_grid.specs.Rectangle.{sides_of}
use Rattle.lift_grid.specs.Tree.{Tree}
use Rattle.lift_grid.specs.Tree.Tree.{split, accept, reject, unknown}
use Rattle.lift_model.specs.declared.entry.Entry.{Entry}
use Rattle.lift_model.specs.Model.{ModelData}
use Rattle.corner_lift.specs.Case.{CaseData, number}
use Rattle.lift_cert.specs.declared.bound.Bound.{Bound}
use Rattle.cert_text.specs.Report.{line, number_words, numbers_words, version_words, kind_name, size_lines, goal_states, goal_words, term_word, entry_line, row_lines, row_line, numbered, state_lines, rows_lines, model_lines}
use Rattle.cert_text.specs.Report.{bound_words, asked_lines, from_lines, scale_lines, box_line, head_lines, mark_word, reject_words, at_line, tree_lines, report_text}
use Rattle.cert_text.specs.Head.{HeadData}
use Rattle.cert_text.specs.Forms.{IsTree, IsReport}
use Rattle.cert_text.specs.Whole.{feed_count, height}
use Rattle.cert_text.specs.Migrated.{MigratesTo, lines_of, precision_in, second_line}
use Rattle.cert_text.proofs.Lines.{line-names}
use Rattle.cert_text.proofs.CutLines.{every_append, line_join}
use Rattle.cert_text.proofs.HeadForms.{head_form}
use Rattle.cert_text.proofs.NodeLaws.{only_precision}
use Rattle.cert_text.proofs.ReportLaws.{report_lines, inverts_report}
use Rattle.cert_text.proofs.TextLines.{IsEnded, lines_counted}

abbrev Lines : Type 0
Lines = List (List ℕ)

-- ---- lines that both versions have

-- a line that both versions have, and which isn't that of the precision
record IsShared (l : List ℕ) : Type 0 where
  pub ended : IsEnded l
  pub same : (precision : List ℕ) → second_line precision l ≡ l
  pub other : starts_with nat_eq l (codes "precision ") ≡ false

abbrev AreShared : Lines → Type 0
AreShared ls = AllByRecursion IsShared ls

pub line_ended : (ws : Lines) → IsEnded (line ws)
line_ended [] = ([], refl)
line_ended (w ∷ ws) = (join_with_byte 32 (w ∷ ws), line_join (w ∷ ws) (omega arith))

behind_key : Lines → List ℕ
behind_key ws = flat_map (λ word. code " " ∷ word) ws ++ codes "\n"

keyed_line : (key : List ℕ) (ws : Lines) → line (key ∷ ws) ≡ key ++ behind_key ws
unfolding behind_key
keyed_line key ws = line-names key ws

shared : (key : List ℕ) (ws : Lines) → ((rest precision : List ℕ) → second_line precision (key ++ rest) ≡ key ++ rest) → ((rest : List ℕ) → starts_with nat_eq (key ++ rest) (codes "precision ") ≡ false) → IsShared (line (key ∷ ws))
shared key ws same other =
    let is = keyed_line key ws in record {
      ended = line_ended (key ∷ ws);
      same = λ precision. ap (second_line precision) is ∙ same (behind_key ws) precision ∙ sym is;
      other = ap (λ (l : List ℕ). starts_with nat_eq l (codes "precision ")) is ∙ other (behind_key ws);
    }

-- ---- a model

shared_numbered : {A : Type 0} (f : ℕ → A → Lines) → ((n : ℕ) (x : A) → AreShared (f n x)) → (n : ℕ) (xs : List A) → AreShared (numbered f n xs)
shared_numbered f each n [] = tt
shared_numbered f each n (x ∷ xs) = every_append IsShared (f n x) (numbered f (n + 1) xs) (each n x) (shared_numbered f each (n + 1) xs)

shared_entries : (row : List Entry) → AreShared (map entry_line row)
shared_entries [] = tt
shared_entries (entry ∷ row) = (shared (codes "to") (decimal entry.target ∷ map term_word entry.poly) (λ _ _. refl) (λ _. refl), shared_entries row)

shared_row : (s a : ℕ) (row : List Entry) → AreShared (row_lines s a row)
unfolding row_line
shared_row s a row = (shared (codes "row") (decimal s ∷ decimal a ∷ decimal (length row) ∷ []) (λ _ _. refl) (λ _. refl), shared_entries row)

shared_rows : (states : List (List (List Entry))) → AreShared (rows_lines states)
shared_rows states = shared_numbered state_lines (λ s choices. shared_numbered (row_lines s) (shared_row s) 0 choices) 0 states

shared_sizes : (m : ModelData) → AreShared (size_lines m)
unfolding size_lines
shared_sizes m = (
  shared (codes "common") (map signed_decimal (m.common ∷ [])) (λ _ _. refl) (λ _. refl),
  (shared (codes "states") (decimal (length m.states) ∷ []) (λ _ _. refl) (λ _. refl), (shared (codes "init") (decimal m.init ∷ []) (λ _ _. refl) (λ _. refl), tt)),
)

shared_model : (m : ModelData) → AreShared (model_lines m)
shared_model m =
    let goals = goal_states 0 m.goal in
    let rest = every_append IsShared (size_lines m) (line (goal_words m.goal) ∷ rows_lines m.states) (shared_sizes m) (shared (codes "goal") (decimal (length goals) ∷ map decimal goals) (λ _ _. refl) (λ _. refl), shared_rows m.states) in (
      shared (codes "kind") (kind_name m.kind ∷ []) (λ _ _. refl) (λ _. refl),
      (shared (codes "parameters") (decimal (length m.names) ∷ m.names) (λ _ _. refl) (λ _. refl), rest),
    )

-- ---- lines of the first version, and those of the second in their place

record Becomes (precision : List ℕ) (old new : Lines) : Type 0 where
  pub ended : AllByRecursion IsEnded old
  pub second : flat_map (second_line precision) old ≡ concat new

both : (precision : List ℕ) (a b c d : Lines) → Becomes precision a b → Becomes precision c d → Becomes precision (a ++ c) (b ++ d)
both precision a b c d x y = record {
  ended = every_append IsEnded a c x.ended y.ended;
  second = flat_map-append (second_line precision) a c ∙ ap₂ (λ (s t : List ℕ). s ++ t) x.second y.second ∙ sym (concat-append b d);
}

stay : (precision : List ℕ) (ls : Lines) → AreShared ls → Becomes precision ls ls
stay precision [] all = record { ended = tt; second = refl }
stay precision (l ∷ ls) (one, all) =
    let more = stay precision ls all in
    record { ended = (one.ended, more.ended); second = ap₂ (λ (s t : List ℕ). s ++ t) (one.same precision) more.second }

-- ---- nodes

-- the number of a precision, and a line feed
number_line : ℕ → List ℕ
number_line w = decimal w ++ codes "\n"

-- the first line of a decided leaf, and those behind it
decided : (w u : ℕ) (key : List ℕ) (ws more : Lines) → u ≡ w → ((rest precision : List ℕ) → second_line precision (key ++ rest) ≡ codes "at " ++ (precision ++ (key ++ rest))) → AreShared more
    → Becomes (number_line w) (line (key ∷ ws) ∷ more) (at_line u ∷ line (key ∷ ws) ∷ more)
unfolding number_line
decided w u key ws more same second all =
    let p = number_line w in
    let l = line (key ∷ ws) in
    let is = keyed_line key ws in
    let rest = stay p more all in
    let first : second_line p l ≡ codes "at " ++ (p ++ l) = ap (second_line p) is ∙ second (behind_key ws) p ∙ ap (λ (t : List ℕ). codes "at " ++ (p ++ t)) (sym is) in
    record {
      ended = (line_ended (key ∷ ws), rest.ended);
      second = ap₂ (λ (s t : List ℕ). s ++ t) first rest.second ∙ ap (λ (t : List ℕ). codes "at " ++ t) (append_assoc p l (concat more)) ∙ ap (λ (v : ℕ). at_line v ++ (l ++ concat more)) (sym same);
    }

second_tree : (h : HeadData) (t : Tree) → h.from ≡ None → IsTree h t → Becomes (number_line h.asked.w) (tree_lines None h.asked.model.init t) (tree_lines (Some h.asked.w) h.asked.model.init t)
second_tree h (split axis lower upper) first (_, low, high) =
    let p = number_line h.asked.w in
    let init = h.asked.model.init in
    let top = stay p (line (number_words (codes "split") axis) ∷ []) (shared (codes "split") (decimal axis ∷ []) (λ _ _. refl) (λ _. refl), tt) in
    both p _ _ _ _ top (both p _ _ _ _ (second_tree h lower first low) (second_tree h upper first high))
second_tree h (accept u x) first (ranged, _) = decided h.asked.w u (codes "accept") (map signed_decimal x) [] (only_precision h u first ranged) (λ _ _. refl) tt
second_tree h (reject u r) first (ranged, _) =
    decided h.asked.w u (codes "reject") (drop 1 (reject_words r.e r.k (number r.numbers h.asked.model.init) (2 ^ u))) _ (only_precision h u first ranged) (λ _ _. refl)
    (shared (codes "y") (map signed_decimal r.numbers) (λ _ _. refl) (λ _. refl), (shared (codes "choice") (map mark_word r.picks) (λ _ _. refl) (λ _. refl), (shared (codes "rank") (map mark_word r.ranks) (λ _ _. refl) (λ _. refl), tt)))
second_tree h unknown first _ = stay (number_line h.asked.w) (line (codes "unknown" ∷ []) ∷ []) (shared (codes "unknown") [] (λ _ _. refl) (λ _. refl), tt)

-- ---- the head

second_version : (precision : List ℕ) → Becomes precision (line (version_words false) ∷ []) (line (version_words true) ∷ [])
second_version precision = record { ended = (line_ended (version_words false), tt); second = refl }

shared_bound : (bound : Bound) → IsShared (line (bound_words bound))
shared_bound bound = shared (codes "bound") ((decimal bound.num ++ code "/" ∷ decimal bound.den) ∷ []) (λ _ _. refl) (λ _. refl)

second_asked : (k : CaseData) (bound : Bound) → Becomes (number_line k.w) (asked_lines k bound) (asked_lines k bound ++ from_lines (Some k.w))
unfolding asked_lines number_line
second_asked k bound =
    let p = number_line k.w in
    let b = line (bound_words bound) in
    record {
      ended = (line_ended (bound_words bound), (line_ended (number_words (codes "precision") k.w), tt));
      second = ap₂ (λ (s t : List ℕ). s ++ t) ((shared_bound bound).same p) (append_assoc (codes "precision " ++ p) (codes "from " ++ p) []);
    }

shared_scale : (k : CaseData) → AreShared (scale_lines k)
unfolding scale_lines
shared_scale k = (shared (codes "depth") (decimal k.depth ∷ []) (λ _ _. refl) (λ _. refl), (shared (codes "grid") (map signed_decimal (k.d ∷ [])) (λ _ _. refl) (λ _. refl), tt))

regrouped : (precision : List ℕ) (old a b c : Lines) → Becomes precision old ((a ++ b) ++ c) → Becomes precision old (a ++ (b ++ c))
regrouped precision old a b c r = subst (λ (new : Lines). Becomes precision old new) (append_assoc a b c) r

second_head : (k : CaseData) (bound : Bound) → Becomes (number_line k.w) (head_lines k None bound) (head_lines k (Some k.w) bound)
second_head k bound =
    let p = number_line k.w in
    let last = both p _ _ _ _ (stay p (scale_lines k) (shared_scale k)) (stay p (box_line k.root ∷ []) (shared (codes "box") (map signed_decimal (sides_of k.root)) (λ _ _. refl) (λ _. refl), tt)) in
    let scale = scale_lines k ++ box_line k.root ∷ [] in
    let asked = regrouped p (asked_lines k bound ++ scale) (asked_lines k bound) (from_lines (Some k.w)) scale (both p _ _ _ _ (second_asked k bound) last) in
    both p _ _ _ _ (second_version p) (both p _ _ _ _ (stay p (model_lines k.model) (shared_model k.model)) asked)

all_ended : (ls : Lines) → AreShared ls → AllByRecursion IsEnded ls
all_ended ls all = (stay [] ls all).ended

-- each line of a head is ended, in either version
pub head_ended : (k : CaseData) (from : Option ℕ) (bound : Bound) → AllByRecursion IsEnded (head_lines k from bound)
head_ended k None bound = (second_head k bound).ended
head_ended k (Some v) bound =
    let box = line (numbers_words (codes "box") (sides_of k.root)) ∷ [] in
    let scale = every_append IsEnded (scale_lines k) box (all_ended (scale_lines k) (shared_scale k)) (line_ended (numbers_words (codes "box") (sides_of k.root)), tt) in
    let from = line (number_words (codes "from") v) ∷ [] in
    let asked = every_append IsEnded (asked_lines k bound) (from ++ (scale_lines k ++ box)) (second_asked k bound).ended (line_ended (number_words (codes "from") v), scale) in
    (line_ended (version_words true), every_append IsEnded (model_lines k.model) (asked_lines k bound ++ (from ++ (scale_lines k ++ box))) (all_ended (model_lines k.model) (shared_model k.model)) asked)

-- ---- the precision

skip : (ls more : Lines) → AreShared ls → precision_in (ls ++ more) ≡ precision_in more
skip [] more all = refl
skip (l ∷ ls) more (one, all) = ap (λ (b : Bool). cond b (drop 10 l) (precision_in (ls ++ more))) one.other ∙ skip ls more all

reported_precision : (k : CaseData) (bound : Bound) (more : Lines) → precision_in (head_lines k None bound ++ more) ≡ number_line k.w
unfolding asked_lines number_line
reported_precision k bound more =
    let rest = asked_lines k bound ++ (scale_lines k ++ box_line k.root ∷ []) in
    ap precision_in (append_assoc (model_lines k.model) rest more)
    ∙ skip (model_lines k.model) (rest ++ more) (shared_model k.model)
    ∙ skip (line (bound_words bound) ∷ []) (line (number_words (codes "precision") k.w) ∷ ((scale_lines k ++ box_line k.root ∷ []) ++ more)) (shared_bound bound, tt)

-- ---- the text

second_lines : (h : HeadData) (t : Tree) → h.from ≡ None → IsTree h t
    → Becomes (number_line h.asked.w) (head_lines h.asked None h.bound ++ tree_lines None h.asked.model.init t) (head_lines h.asked (Some h.asked.w) h.bound ++ tree_lines (Some h.asked.w) h.asked.model.init t)
second_lines h t first fit = both (number_line h.asked.w) _ _ _ _ (second_head h.asked h.bound) (second_tree h t first fit)

lines_feeds : (h : HeadData) (t : Tree) → IsReport h t → feed_count (concat (report_lines h t)) ≡ length (report_lines h t)
lines_feeds h t fit = (inverts_report (height t)).feeds (h, t) (report_lines h t) (refl, head_form h fit.head, fit.nodes, omega arith)

-- what the second version has in place of the lines of a text of the first makes the text of the second
pub second_text : (old new : List ℕ) → MigratesTo old new → flat_map (second_line (precision_in (lines_of old))) (lines_of old) ≡ new
second_text old new m =
    let h = m.head in
    let t = m.tree in
    let ls : Lines = head_lines h.asked None h.bound ++ tree_lines None h.asked.model.init t in
    let becomes = second_lines h t m.first m.report.nodes in
    let are : report_lines h t ≡ ls = ap (λ (f : Option ℕ). head_lines h.asked f h.bound ++ tree_lines f h.asked.model.init t) m.first in
    let feeds : feed_count (concat ls) ≡ length ls = subst (λ (xs : Lines). feed_count (concat xs) ≡ length xs) are (lines_feeds h t m.report) in
    let text : old ≡ concat ls = m.before ∙ ap (λ (f : Option ℕ). report_text h.asked f h.bound t) m.first ∙ sym (concat-append (head_lines h.asked None h.bound) (tree_lines None h.asked.model.init t)) in
    let cut : lines_of old ≡ ls = ap lines_of text ∙ lines_counted ls becomes.ended feeds in
    ap (λ (xs : Lines). flat_map (second_line (precision_in xs)) xs) cut
    ∙ ap (λ (p : List ℕ). flat_map (second_line p) ls) (reported_precision h.asked h.bound (tree_lines None h.asked.model.init t))
    ∙ becomes.second
    ∙ concat-append (head_lines h.asked (Some h.asked.w) h.bound) (tree_lines (Some h.asked.w) h.asked.model.init t)
    ∙ sym m.after
