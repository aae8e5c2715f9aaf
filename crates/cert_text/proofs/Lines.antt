-- The lines of a report, as the pieces that are written one after the other.
use Rattle.std.proofs.Common.{◌≡◌, ◌+◌, ◌*◌, ◌<◌, ℕ, ℤ, zero, suc, List, [], ◌∷◌, ◌++◌, length, map, get_or, drop, slice_get, Some, Bool, true, false, refl, sym, ap, ap₂, ◌∙◌, arith, add-one, append_assoc, append-nil, codes}
use Rattle.std.specs.Prelude.{Option, is_some}
use Rattle.std.specs.Fmt.{decimal, signed_decimal}
use Rattle.std.specs.List.{flat_map, concat}
use Rattle.std.proofs.lemmas.List.Folds.{concat-append}
use Rattle.lift_model.specs.declared.kind.Kind.{Kind}
use Rattle.lift_model.specs.Model.{ModelData}
use Rattle.lift_grid.specs.Rectangle.{Spans}
use Rattle.lift_grid.specs.Tree.{RejectData}
use Rattle.corner_lift.specs.Case.{CaseData}
use Rattle.lift_cert.specs.declared.bound.Bound.{Bound}
use Prim.Native.Char.{code}
use Rattle.cert_text.specs.Report.{line, version_words, kind_words, parameters_words, size_lines, goal_words, rows_lines, model_lines, asked_lines, from_lines, scale_lines, box_line, head_lines, goal_states, numbered, reject_words, reject_lines, region_lines}

-- a line is its first word, each further word behind a space, and a line feed
pub line-words : {X : Type 0} (f : X → List ℕ) (word : List ℕ) (xs : List X) → line (word ∷ map f xs) ≡ word ++ (flat_map (λ x. code " " ∷ f x) xs ++ codes "\n")
line-words f word [] = refl
line-words f word (x ∷ xs) = ap (λ (r : List ℕ). word ++ (code " " ∷ r)) (line-words f (f x) xs ∙ sym (append_assoc (f x) (flat_map (λ x. code " " ∷ f x) xs) (codes "\n")))

pub concat-map : {X : Type 0} (f : X → List ℕ) (xs : List X) → concat (map f xs) ≡ flat_map f xs
concat-map f [] = refl
concat-map f (x ∷ xs) = ap (λ (r : List ℕ). f x ++ r) (concat-map f xs)

goal_state_suc : (i : ℕ) (goal : List Bool) (s : ℕ) → s < length goal → get_or goal s false ≡ true → goal_states i (drop s goal) ≡ i ∷ goal_states (i + 1) (drop (suc s) goal)
goal_state_suc i [] s h e = absurd (omega arith)
goal_state_suc i (true ∷ goal) zero h e = refl
goal_state_suc i (false ∷ goal) zero h e = absurd (cc)
goal_state_suc i (g ∷ goal) (suc s) h e = goal_state_suc i goal s (omega arith) e

other_state_suc : (i : ℕ) (goal : List Bool) (s : ℕ) → s < length goal → get_or goal s false ≡ false → goal_states i (drop s goal) ≡ goal_states (i + 1) (drop (suc s) goal)
other_state_suc i [] s h e = absurd (omega arith)
other_state_suc i (true ∷ goal) zero h e = absurd (cc)
other_state_suc i (false ∷ goal) zero h e = refl
other_state_suc i (g ∷ goal) (suc s) h e = other_state_suc i goal s (omega arith) e

-- the next state is a goal state, or it isn't
pub goal_state : (i : ℕ) (goal : List Bool) (s : ℕ) → s < length goal → get_or goal s false ≡ true → goal_states i (drop s goal) ≡ i ∷ goal_states (i + 1) (drop (s + 1) goal)
goal_state i goal s h e = rw (add-one s) (goal_state_suc i goal s h e)

pub other_state : (i : ℕ) (goal : List Bool) (s : ℕ) → s < length goal → get_or goal s false ≡ false → goal_states i (drop s goal) ≡ goal_states (i + 1) (drop (s + 1) goal)
other_state i goal s h e = rw (add-one s) (other_state_suc i goal s h e)

numbered_suc : {A : Type 0} (f : ℕ → A → List (List ℕ)) (n : ℕ) (xs : List A) (k : ℕ) (d : A) → k < length xs → concat (numbered f n (drop k xs)) ≡ concat (f n (get_or xs k d)) ++ concat (numbered f (n + 1) (drop (suc k) xs))
numbered_suc f n [] k d h = absurd (omega arith)
numbered_suc f n (x ∷ xs) zero d h = concat-append (f n x) (numbered f (n + 1) xs)
numbered_suc f n (x ∷ xs) (suc k) d h = numbered_suc f n xs k d (omega arith)

-- the lines of the next item, and of those behind it
pub numbered_next : {A : Type 0} (f : ℕ → A → List (List ℕ)) (n : ℕ) (xs : List A) (k : ℕ) (d : A) → k < length xs → concat (numbered f n (drop k xs)) ≡ concat (f n (get_or xs k d)) ++ concat (numbered f (n + 1) (drop (k + 1) xs))
numbered_next f n xs k d h = rw (add-one k) (numbered_suc f n xs k d h)

flat_suc : {A : Type 0} (f : A → List ℕ) (xs : List A) (k : ℕ) (x : A) → slice_get xs k ≡ Some x → flat_map f (drop k xs) ≡ f x ++ flat_map f (drop (suc k) xs)
flat_suc f [] k x e = absurd (cc)
flat_suc f (y ∷ xs) zero x e = let same : y ≡ x = cc in rw same refl
flat_suc f (y ∷ xs) (suc k) x e = flat_suc f xs k x e

-- the piece of the next item, and those behind it
pub flat_next : {A : Type 0} (f : A → List ℕ) (xs : List A) (k : ℕ) (x : A) → slice_get xs k ≡ Some x → flat_map f (drop k xs) ≡ f x ++ flat_map f (drop (k + 1) xs)
flat_next f xs k x e = rw (add-one k) (flat_suc f xs k x e)

-- a line whose further words are its own
pub line-names : (word : List ℕ) (names : List (List ℕ)) → line (word ∷ names) ≡ word ++ (flat_map (λ name. code " " ∷ name) names ++ codes "\n")
line-names word [] = refl
line-names word (name ∷ names) = ap (λ (r : List ℕ). word ++ (code " " ∷ r)) (line-names name names ∙ sym (append_assoc name (flat_map (λ name. code " " ∷ name) names) (codes "\n")))

-- the lines of a model, one after the other
pub model_parts : (m : ModelData) (kind : Kind) (names : List (List ℕ)) → kind ≡ m.kind → names ≡ m.names
    → concat (model_lines m) ≡ line (kind_words kind) ++ (line (parameters_words names) ++ (concat (size_lines m) ++ (line (goal_words m.goal) ++ concat (rows_lines m.states))))
model_parts m kind names e f =
    ap₂ (λ (k : Kind) (ns : List (List ℕ)). line (kind_words k) ++ (line (parameters_words ns) ++ concat (size_lines m ++ line (goal_words m.goal) ∷ rows_lines m.states))) (sym e) (sym f)
    ∙ ap (λ (rest : List ℕ). line (kind_words kind) ++ (line (parameters_words names) ++ rest)) (concat-append (size_lines m) (line (goal_words m.goal) ∷ rows_lines m.states))

-- the lines of a region, one after the other
pub region_parts : (k : CaseData) (root : Spans) → root ≡ k.root → concat (region_lines k) ≡ concat (scale_lines k) ++ box_line root
region_parts k root f = concat-append (scale_lines k) (box_line k.root ∷ []) ∙ ap (λ (rest : List ℕ). concat (scale_lines k) ++ rest) (append-nil (box_line k.root) ∙ ap box_line (sym f))

-- the parts of a head, one after the other
pub head_parts : (k : CaseData) (from : Option ℕ) (bound : Bound) (m : ModelData) → m ≡ k.model
    → concat (head_lines k from bound)
    ≡ line (version_words (is_some from)) ++ (concat (model_lines m) ++ (concat (asked_lines k bound) ++ (concat (from_lines from) ++ concat (region_lines k))))
head_parts k from bound m e =
    ap (λ (rest : List ℕ). line (version_words (is_some from)) ++ rest)
    (concat-append (model_lines k.model) (asked_lines k bound ++ (from_lines from ++ region_lines k))
    ∙ ap₂ (λ (head rest : List ℕ). head ++ rest) (ap (λ (n : ModelData). concat (model_lines n)) (sym e))
    (concat-append (asked_lines k bound) (from_lines from ++ region_lines k)
    ∙ ap (λ (rest : List ℕ). concat (asked_lines k bound) ++ rest) (concat-append (from_lines from) (region_lines k))))

flat_item_suc : {A : Type 0} (f : A → List ℕ) (xs : List A) (k : ℕ) (x : A) → k < length xs → x ≡ get_or xs k x → flat_map f (drop k xs) ≡ f x ++ flat_map f (drop (suc k) xs)
flat_item_suc f [] k x h is = absurd (omega arith)
flat_item_suc f (y ∷ xs) zero x h is = ap (λ (z : _). f z ++ flat_map f xs) (sym is)
flat_item_suc f (y ∷ xs) (suc k) x h is = flat_item_suc f xs k x (omega arith) is

-- the piece of an item that a loop is at, and those behind it
pub flat_item : {A : Type 0} (f : A → List ℕ) (xs : List A) (k : ℕ) (x : A) → k < length xs → x ≡ get_or xs k x → flat_map f (drop k xs) ≡ f x ++ flat_map f (drop (k + 1) xs)
flat_item f xs k x h is = rw (add-one k) (flat_item_suc f xs k x h is)

flat_at_suc : {A : Type 0} (f : A → List ℕ) (xs : List A) (k : ℕ) (d : A) → k < length xs → flat_map f (drop k xs) ≡ f (get_or xs k d) ++ flat_map f (drop (suc k) xs)
flat_at_suc f [] k d h = absurd (omega arith)
flat_at_suc f (y ∷ xs) zero d h = refl
flat_at_suc f (y ∷ xs) (suc k) d h = flat_at_suc f xs k d (omega arith)

-- the piece of the item at a place, and those behind it
pub flat_at : {A : Type 0} (f : A → List ℕ) (xs : List A) (k : ℕ) (d : A) → k < length xs → flat_map f (drop k xs) ≡ f (get_or xs k d) ++ flat_map f (drop (k + 1) xs)
flat_at f xs k d h = rw (add-one k) (flat_at_suc f xs k d h)

-- the lines of a rejecting leaf, one after the other
pub reject_parts : (init u : ℕ) (r : RejectData) (a b c d : List ℕ) → reject_lines init u r ≡ a ∷ b ∷ c ∷ d ∷ [] → concat (reject_lines init u r) ≡ a ++ (b ++ (c ++ d))
reject_parts init u r a b c d e = ap concat e ∙ ap (λ (rest : List ℕ). a ++ (b ++ (c ++ rest))) (append-nil d)

-- the first line of a rejecting leaf, as the pieces that are written
pub rate_line : (e k : ℕ) (y : ℤ) (z : ℕ) → line (reject_words e k y z) ≡ codes "reject e " ++ (decimal e ++ (codes " k " ++ (decimal k ++ (codes " m " ++ (decimal (e * k) ++ (codes " b " ++ (signed_decimal y ++ (codes "/" ++ (decimal z ++ codes "\n")))))))))
rate_line e k y z = ap (λ (rest : List ℕ). codes "reject e " ++ (decimal e ++ (codes " k " ++ (decimal k ++ (codes " m " ++ (decimal (e * k) ++ (codes " b " ++ rest))))))) (append_assoc (signed_decimal y) (codes "/" ++ decimal z) (codes "\n"))

-- a list with one item
pub one-item : {A : Type 0} (xs : List A) (x : A) → length xs ≡ 1 → slice_get xs 0 ≡ Some x → (x ∷ []) ≡ xs
one-item [] x l e = absurd (cc)
one-item (y ∷ []) x l e = let same : y ≡ x = cc in rw same refl
one-item (y ∷ z ∷ ys) x l e = absurd (omega arith)

-- one with two
pub two-items : {A : Type 0} (xs : List A) (x y : A) → length xs ≡ 2 → slice_get xs 0 ≡ Some x → slice_get xs 1 ≡ Some y → (x ∷ y ∷ []) ≡ xs
two-items [] x y l d e = absurd (cc)
two-items (u ∷ []) x y l d e = absurd (omega arith)
two-items (u ∷ v ∷ []) x y l d e = let first : u ≡ x = cc in let second : v ≡ y = cc in rw first (rw second refl)
two-items (u ∷ v ∷ w ∷ ys) x y l d e = absurd (omega arith)
