-- The head of a report, both ways.
use Rattle.std.proofs.Common.{◌≡◌, ℕ, ◌+◌, ◌^◌, ◌<◌, ◌≤◌, Bool, true, false, List, [], ◌∷◌, ◌++◌, length, Ok, refl, sym, ap, subst, ◌∙◌, arith}
use Rattle.std.specs.Prelude.{ℤ, codes, pos}
use Rattle.std.specs.Prelude.{Option, Some, None, is_some}
use Rattle.std.specs.Option.{unwrap_or}
use Rattle.std.proofs.Math.Pow.{pow_mono}
use Rattle.lift_grid.specs.Rectangle.{Spans}
use Rattle.lift_model.specs.declared.entry.Entry.{Entry}
use Rattle.lift_model.specs.declared.kind.Kind.{Kind}
use Rattle.lift_cert.specs.declared.bound.Bound.{Bound}
use Rattle.cert_text.specs.Head.{HeadData}
use Rattle.cert_text.specs.Report.{line, version_words, kind_words, parameters_words, number_words, goal_words, bound_words, box_words, rows_lines, size_lines, asked_lines, scale_lines, from_lines, head_lines}
use Rattle.line_text.specs.Words.{words}
use Rattle.line_text.specs.Reading.{◌>>=◌, Reader, line_at}
use Rattle.line_text.specs.Parts.{Words, number_in}
use Rattle.cert_text.specs.Lines.{version_of, kind_of, parameters_of, goal_of, bound_of, box_of}
use Rattle.cert_text.specs.Head.{states_at, from_at, head_at}
use Rattle.cert_text.proofs.CutLines.{IsLine}
use Rattle.cert_text.proofs.Fields.{reads_number_in}
use Rattle.cert_text.proofs.Inverting.{Lines, Anything, Inverts, OneLine, Then, Done, Opens, inverts_line, inverts_then, inverts_pass, inverts_done, inverts_so}
use Rattle.cert_text.proofs.Peeking.{Begins, opens_first}
use Rattle.cert_text.proofs.FirstLines.{AreDeclared, AreGoals, reads_version, reads_kind, reads_parameters, reads_goal}
use Rattle.cert_text.proofs.LaterLines.{IsBoundText, IsBox, reads_bound, reads_box}
use Rattle.cert_text.proofs.Fits.{Fits, key_fits, version_line, kind_line, parameters_line, number_line, goal_line, bound_line, box_line}
use Rattle.cert_text.proofs.RowLaws.{AreStates, StatesLines, NoRow, is_row, begins_words, inverts_states}

-- a line of a word and one number in that range
abbrev pub NumberLine : List ℕ → ℕ → ℕ → ℕ → Lines → Type 0
NumberLine key low end = OneLine (λ n ws. (ws ≡ number_words key n) × (low ≤ n) × (n < end))

pub number_step : (key : List ℕ) (low end : ℕ) → end ≤ 10 ^ 20 → Fits 22 key → Inverts Anything (NumberLine key low end) (line_at (number_in key low end))
number_step key low end limit f = inverts_line Anything (λ n ws. (ws ≡ number_words key n) × (low ≤ n) × (n < end)) (number_in key low end) (λ ws. reads_number_in key low end ws (omega (arith, limit))) (λ n ws l. subst IsLine (sym l.0) (number_line key n f (omega (arith, l.2, limit))))

-- the number is from low to below end
abbrev pub Ranged : ℕ → ℕ → ℤ → Type 0
Ranged low end z = (n : ℕ) × (z ≡ pos n) × (low ≤ n) × (n < end)

-- what a head's text tells, within the forms, ranges and limits that its reader tests
pub record HeadForm (h : HeadData) : Type 0 where
  pub declared : AreDeclared h.asked.model.names
  pub common : Ranged 1 (2 ^ 62) h.asked.model.common
  pub states : (1 ≤ length h.asked.model.states) × (length h.asked.model.states < 65537)
  pub init : h.asked.model.init < length h.asked.model.states
  pub goals : AreGoals (length h.asked.model.states) h.asked.model.goal
  pub rows : AreStates h.asked.model.kind (length h.asked.model.states) (length h.asked.model.names) 131072 262144 h.asked.model.states
  pub bound : IsBoundText h.bound
  pub w : (1 ≤ h.asked.w) × (h.asked.w < 41)
  pub range : (1 ≤ unwrap_or h.from 1) × (unwrap_or h.from h.asked.w ≤ h.asked.w)
  pub depth : h.asked.depth < 21
  pub grid : Ranged 1 (2 ^ 62) h.asked.d
  pub box : IsBox (length h.asked.model.names) h.asked.depth h.asked.root

-- the line of a range's least precision, or none, by the version
abbrev pub FromLines : Bool → ℕ → Option ℕ → Lines → Type 0
FromLines second w from ls = (second ≡ is_some from) × (ls ≡ from_lines from) × (1 ≤ unwrap_or from 1) × (unwrap_or from w ≤ w)

inverts_from : (second : Bool) (w : ℕ) → w < 41 → Inverts Anything (FromLines second w) (from_at second w)
unfolding from_at
inverts_from false w low =
    inverts_so (inverts_done Anything None) (FromLines false w)
    (λ from ls (same, none). subst (λ y. FromLines false w y ls) same (refl, none, omega arith, omega arith))
    (λ from ls (is, are, _, _). back from ls is are)
  where
    back : (from : Option ℕ) (ls : Lines) → false ≡ is_some from → ls ≡ from_lines from → (None ≡ from) × (ls ≡ [])
    back None ls is are = (refl, are)
    back (Some v) ls is are = absurd cc
inverts_from true w low =
    inverts_so (inverts_pass (number_step (codes "from") 1 (w + 1) (omega (arith, low)) (key_fits 22 (codes "from") refl refl)) (λ v _ _. inverts_done Anything (Some v))) (FromLines true w)
    (λ from ls (v, first, last, (ws, (is, some, high), one), (same, none), whole).
    subst (λ y. FromLines true w y ls) same (refl, whole ∙ ap (λ t. t ++ last) one ∙ ap (λ t. line ws ∷ t) none ∙ ap (λ t. line t ∷ []) is, some, omega (arith, high)))
    (λ from ls (is, are, some, high). back from ls is are some high)
  where
    back : (from : Option ℕ) (ls : Lines) → true ≡ is_some from → ls ≡ from_lines from → 1 ≤ unwrap_or from 1 → unwrap_or from w ≤ w → Then (NumberLine (codes "from") 1 (w + 1)) (λ v. Done (Some v)) from ls
    back None ls is are some high = absurd cc
    back (Some v) ls is are some high = (v, line (number_words (codes "from") v) ∷ [], [], (number_words (codes "from") v, (refl, some, omega (arith, high)), refl), (refl, refl), are)

powers : (n : ℕ) → n ≤ 16 → 2 ^ n ≤ 2 ^ 16
powers n h = pow_mono h

abbrev head_of : Kind → Words → ℕ → ℕ → List Bool → List (List (List Entry)) → Bound → ℕ → Option ℕ → ℕ → ℕ → Spans → HeadData
head_of kind names common init goal rows bound w from depth grid root = record {
  asked = record {
    model = record { kind = kind; common = pos common; names = names; goal = goal; init = init; states = rows };
    root = root;
    d = pos grid;
    depth = depth;
    w = w;
  };
  from = from;
  bound = bound;
}

abbrev From13 : Bool → Kind → Words → ℕ → ℕ → ℕ → List Bool → List (List (List Entry)) → Bound → ℕ → Option ℕ → ℕ → ℕ → Spans → HeadData → Lines → Type 0
From13 second kind names common states init goal rows bound w from depth grid root = Done (head_of kind names common init goal rows bound w from depth grid root)

abbrev From12 : Bool → Kind → Words → ℕ → ℕ → ℕ → List Bool → List (List (List Entry)) → Bound → ℕ → Option ℕ → ℕ → ℕ → HeadData → Lines → Type 0
From12 second kind names common states init goal rows bound w from depth grid = Then (OneLine (λ root ws. (ws ≡ box_words root) × IsBox (length names) depth root)) (λ root. From13 second kind names common states init goal rows bound w from depth grid root)

abbrev From11 : Bool → Kind → Words → ℕ → ℕ → ℕ → List Bool → List (List (List Entry)) → Bound → ℕ → Option ℕ → ℕ → HeadData → Lines → Type 0
From11 second kind names common states init goal rows bound w from depth = Then (NumberLine (codes "grid") 1 (2 ^ 62)) (λ grid. From12 second kind names common states init goal rows bound w from depth grid)

abbrev FromDepth : Bool → Kind → Words → ℕ → ℕ → ℕ → List Bool → List (List (List Entry)) → Bound → ℕ → Option ℕ → HeadData → Lines → Type 0
FromDepth second kind names common states init goal rows bound w from = Then (NumberLine (codes "depth") 0 21) (λ depth. From11 second kind names common states init goal rows bound w from depth)

abbrev From10 : Bool → Kind → Words → ℕ → ℕ → ℕ → List Bool → List (List (List Entry)) → Bound → ℕ → HeadData → Lines → Type 0
From10 second kind names common states init goal rows bound w = Then (FromLines second w) (λ from. FromDepth second kind names common states init goal rows bound w from)

abbrev From9 : Bool → Kind → Words → ℕ → ℕ → ℕ → List Bool → List (List (List Entry)) → Bound → HeadData → Lines → Type 0
From9 second kind names common states init goal rows bound = Then (NumberLine (codes "precision") 1 41) (λ w. From10 second kind names common states init goal rows bound w)

abbrev From8 : Bool → Kind → Words → ℕ → ℕ → ℕ → List Bool → List (List (List Entry)) → HeadData → Lines → Type 0
From8 second kind names common states init goal rows = Then (OneLine (λ b ws. (ws ≡ bound_words b) × IsBoundText b)) (λ bound. From9 second kind names common states init goal rows bound)

abbrev From7 : Bool → Kind → Words → ℕ → ℕ → ℕ → List Bool → HeadData → Lines → Type 0
From7 second kind names common states init goal = Then (StatesLines kind states (length names) states 131072 262144 0) (λ rows. From8 second kind names common states init goal rows)

abbrev From6 : Bool → Kind → Words → ℕ → ℕ → ℕ → HeadData → Lines → Type 0
From6 second kind names common states init = Then (OneLine (λ goal ws. (ws ≡ goal_words goal) × AreGoals states goal)) (λ goal. From7 second kind names common states init goal)

abbrev From5 : Bool → Kind → Words → ℕ → ℕ → HeadData → Lines → Type 0
From5 second kind names common states = Then (NumberLine (codes "init") 0 states) (λ init. From6 second kind names common states init)

abbrev From4 : Bool → Kind → Words → ℕ → HeadData → Lines → Type 0
From4 second kind names common = Then (NumberLine (codes "states") 1 65537) (λ states. From5 second kind names common states)

abbrev From3 : Bool → Kind → Words → HeadData → Lines → Type 0
From3 second kind names = Then (NumberLine (codes "common") 1 (2 ^ 62)) (λ common. From4 second kind names common)

abbrev From2 : Bool → Kind → HeadData → Lines → Type 0
From2 second kind = Then (OneLine (λ names ws. (ws ≡ parameters_words names) × AreDeclared names)) (λ names. From3 second kind names)

abbrev From1 : Bool → HeadData → Lines → Type 0
From1 second = Then (OneLine (λ kind ws. ws ≡ kind_words kind)) (λ kind. From2 second kind)

abbrev From0 : HeadData → Lines → Type 0
From0 = Then (OneLine (λ (second : Bool) ws. ws ≡ version_words second)) (λ second. From1 second)

opens_bound : (b : Bound) (first end last : Lines) (ws : Words) → ws ≡ bound_words b → IsBoundText b → first ≡ line ws ∷ [] → last ≡ first ++ end → Opens NoRow Anything last
opens_bound b first end last ws is t one whole =
    opens_first Anything (subst (λ l. Begins (λ y. is_row (words y)) false l) (sym (whole ∙ ap (λ l. l ++ end) (one ∙ ap (λ y. line y ∷ []) is))) (begins_words is_row false (bound_words b) end (bound_line b t) refl))

abbrev next_rows : Bool → Kind → Words → ℕ → ℕ → ℕ → List Bool → List (List (List Entry)) → Reader HeadData
next_rows second kind names common states init goal rows c = do
  bound ← line_at bound_of c
  w ← line_at (number_in (codes "precision") 1 41) bound.1
  from ← from_at second w.0 w.1
  depth ← line_at (number_in (codes "depth") 0 21) from.1
  grid ← line_at (number_in (codes "grid") 1 (2 ^ 62)) depth.1
  root ← line_at (box_of (length names) depth.0) grid.1
  Ok (head_of kind names common init goal rows bound.0 w.0 from.0 depth.0 grid.0 root.0, root.1)

inverts_steps : Inverts Anything From0 head_at
unfolding head_at
inverts_steps =
    (inverts_pass (inverts_line Anything (λ second ws. ws ≡ version_words second) version_of reads_version (λ second ws l. subst IsLine (sym l) (version_line second))) (λ second _ _.
    (inverts_pass (inverts_line Anything (λ k ws. ws ≡ kind_words k) kind_of reads_kind (λ k ws l. subst IsLine (sym l) (kind_line k))) (λ kind _ _.
    (inverts_pass (inverts_line Anything (λ names ws. (ws ≡ parameters_words names) × AreDeclared names) parameters_of reads_parameters (λ names ws l. subst IsLine (sym l.0) (parameters_line names l.1))) (λ names _ hn.
    (inverts_pass (number_step (codes "common") 1 (2 ^ 62) (omega arith) (key_fits 22 (codes "common") refl refl)) (λ common _ _.
    (inverts_pass (number_step (codes "states") 1 65537 (omega arith) (key_fits 22 (codes "states") refl refl)) (λ states _ hs.
    (inverts_pass (number_step (codes "init") 0 states (omega (arith, hs.1.2)) (key_fits 22 (codes "init") refl refl)) (λ init _ _.
    (inverts_pass (inverts_line Anything (λ goal ws. (ws ≡ goal_words goal) × AreGoals states goal) (goal_of states) (λ ws. reads_goal states ws (omega (arith, hs.1.2))) (λ goal ws l. subst IsLine (sym l.0) (goal_line states goal (omega (arith, hs.1.2)) l.1))) (λ goal _ _.
    (inverts_then NoRow Anything (StatesLines kind states (length names) states 131072 262144 0) (λ rows. From8 second kind names common states init goal rows) (states_at kind states (length names) states 131072 262144 0) (next_rows second kind names common states init goal)
    (inverts_states kind states (length names) states 131072 262144 0 (record { few = omega (arith, hs.1.2); sets = powers (length names) hn.1.1.few }) (omega (arith, hs.1.2)) (omega arith) (omega arith))
    (λ rows ls _.
    (inverts_pass (inverts_line Anything (λ b ws. (ws ≡ bound_words b) × IsBoundText b) bound_of reads_bound (λ b ws l. subst IsLine (sym l.0) (bound_line b l.1))) (λ bound _ _.
    (inverts_pass (number_step (codes "precision") 1 41 (omega arith) (key_fits 22 (codes "precision") refl refl)) (λ w _ hw.
    (inverts_pass (inverts_from second w hw.1.2) (λ from _ _.
    (inverts_pass (number_step (codes "depth") 0 21 (omega arith) (key_fits 22 (codes "depth") refl refl)) (λ depth _ _.
    (inverts_pass (number_step (codes "grid") 1 (2 ^ 62) (omega arith) (key_fits 22 (codes "grid") refl refl)) (λ grid _ _.
    (inverts_pass (inverts_line Anything (λ root ws. (ws ≡ box_words root) × IsBox (length names) depth root) (box_of (length names) depth) (reads_box (length names) depth) (λ root ws l. subst IsLine (sym l.0) (box_line (length names) depth root hn.1.1.few l.1))) (λ root _ _.
    (inverts_done Anything (head_of kind names common init goal rows bound w from depth grid root)))))))))))))))
    (λ rows all last (bound, first, end, (ws, (is, t), one), _, whole). opens_bound bound first end last ws is t one whole))))))))))))))))

pub put : (ls f l x r : Lines) → ls ≡ f ++ l → f ≡ x → l ≡ r → ls ≡ x ++ r
put ls f l x r e a b = e ∙ ap (λ t. t ++ l) a ∙ ap (λ t. x ++ t) b

abbrev lines_of : HeadData → Lines
lines_of h = head_lines h.asked h.from h.bound

-- the lines of a head, and what it keeps
abbrev pub HeadLines : HeadData → Lines → Type 0
HeadLines h ls = (ls ≡ head_lines h.asked h.from h.bound) × HeadForm h

found : (h : HeadData) (ls : Lines) → From0 h ls → HeadLines h ls
unfolding size_lines asked_lines scale_lines
found h ls (second, f0, l0, (ws0, p0, one0), (kind, f1, l1, (ws1, p1, one1), (names, f2, l2, (ws2, (is2, a2), one2), (common, f3, l3, (ws3, (is3, a3, b3), one3), (states, f4, l4, (ws4, (is4, a4, b4), one4), (init, f5, l5, (ws5, (is5, a5, b5), one5), (goal, f6, l6, (ws6, (is6, a6), one6), (rows, f7, l7, (rows_are, size, fit_rows), (bound, f8, l8, (ws8, (is8, a8), one8), (w, f9, l9, (ws9, (is9, a9, b9), one9), (from, fF, lF, (aF, areF, someF, highF), (depth, f10, l10, (ws10, (is10, a10, b10), one10), (grid, f11, l11, (ws11, (is11, a11, b11), one11), (root, f12, l12, (ws12, (is12, a12), one12), (same, none), e12), e11), e10), eF), e9), e8), e7), e6), e5), e4), e3), e2), e1), e0) =
    let r12 : l11 ≡ line (box_words root) ∷ ([]) = put l11 f12 l12 (line (box_words root) ∷ []) ([]) e12 (one12 ∙ ap (λ y. line y ∷ []) (is12)) none in
    let r11 : l10 ≡ line (number_words (codes "grid") grid) ∷ (line (box_words root) ∷ ([])) = put l10 f11 l11 (line (number_words (codes "grid") grid) ∷ []) (line (box_words root) ∷ ([])) e11 (one11 ∙ ap (λ y. line y ∷ []) (is11)) r12 in
    let r10 : lF ≡ line (number_words (codes "depth") depth) ∷ (line (number_words (codes "grid") grid) ∷ (line (box_words root) ∷ ([]))) = put lF f10 l10 (line (number_words (codes "depth") depth) ∷ []) (line (number_words (codes "grid") grid) ∷ (line (box_words root) ∷ ([]))) e10 (one10 ∙ ap (λ y. line y ∷ []) (is10)) r11 in
    let rF : l9 ≡ from_lines from ++ (line (number_words (codes "depth") depth) ∷ (line (number_words (codes "grid") grid) ∷ (line (box_words root) ∷ ([])))) = put l9 fF lF (from_lines from) (line (number_words (codes "depth") depth) ∷ (line (number_words (codes "grid") grid) ∷ (line (box_words root) ∷ ([])))) eF areF r10 in
    let r9 : l8 ≡ line (number_words (codes "precision") w) ∷ (from_lines from ++ (line (number_words (codes "depth") depth) ∷ (line (number_words (codes "grid") grid) ∷ (line (box_words root) ∷ ([]))))) = put l8 f9 l9 (line (number_words (codes "precision") w) ∷ []) (from_lines from ++ (line (number_words (codes "depth") depth) ∷ (line (number_words (codes "grid") grid) ∷ (line (box_words root) ∷ ([]))))) e9 (one9 ∙ ap (λ y. line y ∷ []) (is9)) rF in
    let r8 : l7 ≡ line (bound_words bound) ∷ (line (number_words (codes "precision") w) ∷ (from_lines from ++ (line (number_words (codes "depth") depth) ∷ (line (number_words (codes "grid") grid) ∷ (line (box_words root) ∷ ([])))))) = put l7 f8 l8 (line (bound_words bound) ∷ []) (line (number_words (codes "precision") w) ∷ (from_lines from ++ (line (number_words (codes "depth") depth) ∷ (line (number_words (codes "grid") grid) ∷ (line (box_words root) ∷ ([])))))) e8 (one8 ∙ ap (λ y. line y ∷ []) (is8)) r9 in
    let r7 : l6 ≡ rows_lines rows ++ (line (bound_words bound) ∷ (line (number_words (codes "precision") w) ∷ (from_lines from ++ (line (number_words (codes "depth") depth) ∷ (line (number_words (codes "grid") grid) ∷ (line (box_words root) ∷ ([]))))))) = put l6 f7 l7 (rows_lines rows) (line (bound_words bound) ∷ (line (number_words (codes "precision") w) ∷ (from_lines from ++ (line (number_words (codes "depth") depth) ∷ (line (number_words (codes "grid") grid) ∷ (line (box_words root) ∷ ([]))))))) e7 (rows_are) r8 in
    let r6 : l5 ≡ line (goal_words goal) ∷ (rows_lines rows ++ (line (bound_words bound) ∷ (line (number_words (codes "precision") w) ∷ (from_lines from ++ (line (number_words (codes "depth") depth) ∷ (line (number_words (codes "grid") grid) ∷ (line (box_words root) ∷ ([])))))))) = put l5 f6 l6 (line (goal_words goal) ∷ []) (rows_lines rows ++ (line (bound_words bound) ∷ (line (number_words (codes "precision") w) ∷ (from_lines from ++ (line (number_words (codes "depth") depth) ∷ (line (number_words (codes "grid") grid) ∷ (line (box_words root) ∷ ([])))))))) e6 (one6 ∙ ap (λ y. line y ∷ []) (is6)) r7 in
    let r5 : l4 ≡ line (number_words (codes "init") init) ∷ (line (goal_words goal) ∷ (rows_lines rows ++ (line (bound_words bound) ∷ (line (number_words (codes "precision") w) ∷ (from_lines from ++ (line (number_words (codes "depth") depth) ∷ (line (number_words (codes "grid") grid) ∷ (line (box_words root) ∷ ([]))))))))) = put l4 f5 l5 (line (number_words (codes "init") init) ∷ []) (line (goal_words goal) ∷ (rows_lines rows ++ (line (bound_words bound) ∷ (line (number_words (codes "precision") w) ∷ (from_lines from ++ (line (number_words (codes "depth") depth) ∷ (line (number_words (codes "grid") grid) ∷ (line (box_words root) ∷ ([]))))))))) e5 (one5 ∙ ap (λ y. line y ∷ []) (is5)) r6 in
    let r4 : l3 ≡ line (number_words (codes "states") (length rows)) ∷ (line (number_words (codes "init") init) ∷ (line (goal_words goal) ∷ (rows_lines rows ++ (line (bound_words bound) ∷ (line (number_words (codes "precision") w) ∷ (from_lines from ++ (line (number_words (codes "depth") depth) ∷ (line (number_words (codes "grid") grid) ∷ (line (box_words root) ∷ ([])))))))))) = put l3 f4 l4 (line (number_words (codes "states") (length rows)) ∷ []) (line (number_words (codes "init") init) ∷ (line (goal_words goal) ∷ (rows_lines rows ++ (line (bound_words bound) ∷ (line (number_words (codes "precision") w) ∷ (from_lines from ++ (line (number_words (codes "depth") depth) ∷ (line (number_words (codes "grid") grid) ∷ (line (box_words root) ∷ ([])))))))))) e4 (one4 ∙ ap (λ y. line y ∷ []) (is4 ∙ ap (λ k. number_words (codes "states") k) (sym size))) r5 in
    let r3 : l2 ≡ line (number_words (codes "common") common) ∷ (line (number_words (codes "states") (length rows)) ∷ (line (number_words (codes "init") init) ∷ (line (goal_words goal) ∷ (rows_lines rows ++ (line (bound_words bound) ∷ (line (number_words (codes "precision") w) ∷ (from_lines from ++ (line (number_words (codes "depth") depth) ∷ (line (number_words (codes "grid") grid) ∷ (line (box_words root) ∷ ([]))))))))))) = put l2 f3 l3 (line (number_words (codes "common") common) ∷ []) (line (number_words (codes "states") (length rows)) ∷ (line (number_words (codes "init") init) ∷ (line (goal_words goal) ∷ (rows_lines rows ++ (line (bound_words bound) ∷ (line (number_words (codes "precision") w) ∷ (from_lines from ++ (line (number_words (codes "depth") depth) ∷ (line (number_words (codes "grid") grid) ∷ (line (box_words root) ∷ ([]))))))))))) e3 (one3 ∙ ap (λ y. line y ∷ []) (is3)) r4 in
    let r2 : l1 ≡ line (parameters_words names) ∷ (line (number_words (codes "common") common) ∷ (line (number_words (codes "states") (length rows)) ∷ (line (number_words (codes "init") init) ∷ (line (goal_words goal) ∷ (rows_lines rows ++ (line (bound_words bound) ∷ (line (number_words (codes "precision") w) ∷ (from_lines from ++ (line (number_words (codes "depth") depth) ∷ (line (number_words (codes "grid") grid) ∷ (line (box_words root) ∷ ([])))))))))))) = put l1 f2 l2 (line (parameters_words names) ∷ []) (line (number_words (codes "common") common) ∷ (line (number_words (codes "states") (length rows)) ∷ (line (number_words (codes "init") init) ∷ (line (goal_words goal) ∷ (rows_lines rows ++ (line (bound_words bound) ∷ (line (number_words (codes "precision") w) ∷ (from_lines from ++ (line (number_words (codes "depth") depth) ∷ (line (number_words (codes "grid") grid) ∷ (line (box_words root) ∷ ([])))))))))))) e2 (one2 ∙ ap (λ y. line y ∷ []) (is2)) r3 in
    let r1 : l0 ≡ line (kind_words kind) ∷ (line (parameters_words names) ∷ (line (number_words (codes "common") common) ∷ (line (number_words (codes "states") (length rows)) ∷ (line (number_words (codes "init") init) ∷ (line (goal_words goal) ∷ (rows_lines rows ++ (line (bound_words bound) ∷ (line (number_words (codes "precision") w) ∷ (from_lines from ++ (line (number_words (codes "depth") depth) ∷ (line (number_words (codes "grid") grid) ∷ (line (box_words root) ∷ ([]))))))))))))) = put l0 f1 l1 (line (kind_words kind) ∷ []) (line (parameters_words names) ∷ (line (number_words (codes "common") common) ∷ (line (number_words (codes "states") (length rows)) ∷ (line (number_words (codes "init") init) ∷ (line (goal_words goal) ∷ (rows_lines rows ++ (line (bound_words bound) ∷ (line (number_words (codes "precision") w) ∷ (from_lines from ++ (line (number_words (codes "depth") depth) ∷ (line (number_words (codes "grid") grid) ∷ (line (box_words root) ∷ ([]))))))))))))) e1 (one1 ∙ ap (λ y. line y ∷ []) (p1)) r2 in
    let r0 : ls ≡ line (version_words (is_some from)) ∷ (line (kind_words kind) ∷ (line (parameters_words names) ∷ (line (number_words (codes "common") common) ∷ (line (number_words (codes "states") (length rows)) ∷ (line (number_words (codes "init") init) ∷ (line (goal_words goal) ∷ (rows_lines rows ++ (line (bound_words bound) ∷ (line (number_words (codes "precision") w) ∷ (from_lines from ++ (line (number_words (codes "depth") depth) ∷ (line (number_words (codes "grid") grid) ∷ (line (box_words root) ∷ ([])))))))))))))) = put ls f0 l0 (line (version_words (is_some from)) ∷ []) (line (kind_words kind) ∷ (line (parameters_words names) ∷ (line (number_words (codes "common") common) ∷ (line (number_words (codes "states") (length rows)) ∷ (line (number_words (codes "init") init) ∷ (line (goal_words goal) ∷ (rows_lines rows ++ (line (bound_words bound) ∷ (line (number_words (codes "precision") w) ∷ (from_lines from ++ (line (number_words (codes "depth") depth) ∷ (line (number_words (codes "grid") grid) ∷ (line (box_words root) ∷ ([])))))))))))))) e0 (one0 ∙ ap (λ y. line y ∷ []) (p0 ∙ ap version_words aF)) r1 in
    subst (λ y. HeadLines y ls) same (
      r0,
      record {
        declared = a2;
        common = (common, refl, a3, b3);
        states = (subst (λ k. 1 ≤ k) (sym size) a4, subst (λ k. k < 65537) (sym size) b4);
        init = subst (λ k. init < k) (sym size) b5;
        goals = subst (λ k. AreGoals k goal) (sym size) a6;
        rows = subst (λ k. AreStates kind k (length names) 131072 262144 rows) (sym size) fit_rows;
        bound = a8;
        w = (a9, b9);
        range = (someF, highF);
        depth = b10;
        grid = (grid, refl, a11, b11);
        box = a12;
      },
    )

written : (h : HeadData) (ls : Lines) → HeadLines h ls → From0 h ls
unfolding size_lines asked_lines scale_lines
written h ls (is, k) =
    let m = h.asked.model in
    let kind = m.kind in
    let names = m.names in
    let goal = m.goal in
    let init = m.init in
    let rows = m.states in
    let bound = h.bound in
    let root = h.asked.root in
    let w = h.asked.w in
    let from = h.from in
    let depth = h.asked.depth in
    let common = k.common.0 in
    let grid = k.grid.0 in
    let states = length rows in
    let same : head_of kind names common init goal rows bound w from depth grid root ≡ h = ap (λ (p : ℤ). record { asked = record { model = record { kind = kind; common = p; names = names; goal = goal; init = init; states = rows }; root = root; d = pos grid; depth = depth; w = w }; from = from; bound = bound }) (sym k.common.1) ∙ ap (λ (p : ℤ). record { asked = record { model = m; root = root; d = p; depth = depth; w = w }; from = from; bound = bound }) (sym k.grid.1) in
    let whole : ls ≡ lines_of (head_of kind names common init goal rows bound w from depth grid root) = is ∙ ap lines_of (sym same) in
    (is_some from, line (version_words (is_some from)) ∷ [], line (kind_words kind) ∷ (line (parameters_words names) ∷ (line (number_words (codes "common") common) ∷ (line (number_words (codes "states") (length rows)) ∷ (line (number_words (codes "init") init) ∷ (line (goal_words goal) ∷ (rows_lines rows ++ (line (bound_words bound) ∷ (line (number_words (codes "precision") w) ∷ (from_lines from ++ (line (number_words (codes "depth") depth) ∷ (line (number_words (codes "grid") grid) ∷ (line (box_words root) ∷ ([]))))))))))))), (version_words (is_some from), refl, refl), (kind, line (kind_words kind) ∷ [], line (parameters_words names) ∷ (line (number_words (codes "common") common) ∷ (line (number_words (codes "states") (length rows)) ∷ (line (number_words (codes "init") init) ∷ (line (goal_words goal) ∷ (rows_lines rows ++ (line (bound_words bound) ∷ (line (number_words (codes "precision") w) ∷ (from_lines from ++ (line (number_words (codes "depth") depth) ∷ (line (number_words (codes "grid") grid) ∷ (line (box_words root) ∷ ([])))))))))))), (kind_words kind, refl, refl), (names, line (parameters_words names) ∷ [], line (number_words (codes "common") common) ∷ (line (number_words (codes "states") (length rows)) ∷ (line (number_words (codes "init") init) ∷ (line (goal_words goal) ∷ (rows_lines rows ++ (line (bound_words bound) ∷ (line (number_words (codes "precision") w) ∷ (from_lines from ++ (line (number_words (codes "depth") depth) ∷ (line (number_words (codes "grid") grid) ∷ (line (box_words root) ∷ ([]))))))))))), (parameters_words names, (refl, k.declared), refl), (common, line (number_words (codes "common") common) ∷ [], line (number_words (codes "states") (length rows)) ∷ (line (number_words (codes "init") init) ∷ (line (goal_words goal) ∷ (rows_lines rows ++ (line (bound_words bound) ∷ (line (number_words (codes "precision") w) ∷ (from_lines from ++ (line (number_words (codes "depth") depth) ∷ (line (number_words (codes "grid") grid) ∷ (line (box_words root) ∷ ([])))))))))), (number_words (codes "common") common, (refl, k.common.2, k.common.3), refl), (states, line (number_words (codes "states") (length rows)) ∷ [], line (number_words (codes "init") init) ∷ (line (goal_words goal) ∷ (rows_lines rows ++ (line (bound_words bound) ∷ (line (number_words (codes "precision") w) ∷ (from_lines from ++ (line (number_words (codes "depth") depth) ∷ (line (number_words (codes "grid") grid) ∷ (line (box_words root) ∷ ([]))))))))), (number_words (codes "states") (length rows), (refl, k.states.0, k.states.1), refl), (init, line (number_words (codes "init") init) ∷ [], line (goal_words goal) ∷ (rows_lines rows ++ (line (bound_words bound) ∷ (line (number_words (codes "precision") w) ∷ (from_lines from ++ (line (number_words (codes "depth") depth) ∷ (line (number_words (codes "grid") grid) ∷ (line (box_words root) ∷ ([])))))))), (number_words (codes "init") init, (refl, omega arith, k.init), refl), (goal, line (goal_words goal) ∷ [], rows_lines rows ++ (line (bound_words bound) ∷ (line (number_words (codes "precision") w) ∷ (from_lines from ++ (line (number_words (codes "depth") depth) ∷ (line (number_words (codes "grid") grid) ∷ (line (box_words root) ∷ ([]))))))), (goal_words goal, (refl, k.goals), refl), (rows, rows_lines rows, line (bound_words bound) ∷ (line (number_words (codes "precision") w) ∷ (from_lines from ++ (line (number_words (codes "depth") depth) ∷ (line (number_words (codes "grid") grid) ∷ (line (box_words root) ∷ ([])))))), (refl, refl, k.rows), (bound, line (bound_words bound) ∷ [], line (number_words (codes "precision") w) ∷ (from_lines from ++ (line (number_words (codes "depth") depth) ∷ (line (number_words (codes "grid") grid) ∷ (line (box_words root) ∷ ([]))))), (bound_words bound, (refl, k.bound), refl), (w, line (number_words (codes "precision") w) ∷ [], from_lines from ++ (line (number_words (codes "depth") depth) ∷ (line (number_words (codes "grid") grid) ∷ (line (box_words root) ∷ ([])))), (number_words (codes "precision") w, (refl, k.w.0, k.w.1), refl), (from, from_lines from, line (number_words (codes "depth") depth) ∷ (line (number_words (codes "grid") grid) ∷ (line (box_words root) ∷ ([]))), (refl, refl, k.range.0, k.range.1), (depth, line (number_words (codes "depth") depth) ∷ [], line (number_words (codes "grid") grid) ∷ (line (box_words root) ∷ ([])), (number_words (codes "depth") depth, (refl, omega arith, k.depth), refl), (grid, line (number_words (codes "grid") grid) ∷ [], line (box_words root) ∷ ([]), (number_words (codes "grid") grid, (refl, k.grid.2, k.grid.3), refl), (root, line (box_words root) ∷ [], [], (box_words root, (refl, k.box), refl), (same, refl), refl), refl), refl), refl), refl), refl), refl), refl), refl), refl), refl), refl), refl), whole)

pub inverts_head : Inverts Anything HeadLines head_at
inverts_head = inverts_so inverts_steps HeadLines found written
