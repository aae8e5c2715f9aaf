-- How the states of a model grow by one line.
use Rattle.std.proofs.Common.{◌≡◌, ℕ, true, false, refl, List, [], ◌∷◌, ◌++◌, sym, ◌∙◌, ap}
use Rattle.std.specs.Prelude.{map}
use Rattle.std.proofs.lemmas.List.{map-append, append-nil}
use Rattle.std.proofs.lemmas.Grind.{flat_map-append}
use Rattle.drn_read.specs.Parts.{Part, parts}
use Rattle.drn_read.specs.States.{ModelLine, StateText, is_state, is_action, transition, transitions, choices, state}
use Rattle.drn_read.specs.Keeping.{on_last, with_choice, with_transitions}
use Rattle.drn_read.specs.declared.state.Transition.{Transition}
use Rattle.drn_read.proofs.Cuts.{longer, begun, onto_last, with_more, parts_new, parts_more, parts_grow}

-- the transitions of a choice's lines
abbrev row : Part ModelLine → List Transition
row p = transitions p.body

transitions-push : (ls : List ModelLine) (l : ModelLine) → transitions (ls ++ l ∷ []) ≡ transitions ls ++ transition l
transitions-push ls l = flat_map-append transition ls (l ∷ []) ∙ ap (λ (ts : List Transition). transitions ls ++ ts) (append-nil (transition l))

-- the last choice has more transitions, and it is a first one where there was none
unfoldable row_more : List Transition → List (List Transition) → List (List Transition)
row_more more [] = more ∷ []
row_more more (r ∷ rows) = on_last (λ (r : List Transition). r ++ more) (r ∷ rows)

-- the choices of lines that are cut so
unfoldable rows_of : List ModelLine → List (Part ModelLine) → List (List Transition)
rows_of [] ps = map (λ (p : Part ModelLine). transitions p.body) ps
rows_of (l ∷ pre) ps = transitions (l ∷ pre) ∷ map (λ (p : Part ModelLine). transitions p.body) ps

choices-rows : (ls : List ModelLine) → choices ls ≡ rows_of (parts is_action ls).0 (parts is_action ls).1
unfolding rows_of
choices-rows ls = by_front (parts is_action ls).0 refl
  where
    by_front : (pre : List ModelLine) → (parts is_action ls).0 ≡ pre → choices ls ≡ rows_of pre (parts is_action ls).1
    by_front [] e = rw e refl
    by_front (l ∷ pre) e = rw e refl

rows_new : (pre : List ModelLine) (ps : List (Part ModelLine)) (l : ModelLine) → rows_of pre (ps ++ begun l ∷ []) ≡ rows_of pre ps ++ [] ∷ []
unfolding rows_of
rows_new [] ps l = map-append (λ (p : Part ModelLine). transitions p.body) ps (begun l ∷ [])
rows_new (k ∷ pre) ps l = ap (λ (xs : List (List Transition)). transitions (k ∷ pre) ∷ xs) (map-append (λ (p : Part ModelLine). transitions p.body) ps (begun l ∷ []))

bodies_more : (ps : List (Part ModelLine)) (p : Part ModelLine) (l : ModelLine)
    → map (λ (q : Part ModelLine). transitions q.body) (onto_last (p ∷ ps) l) ≡ on_last (λ (r : List Transition). r ++ transition l) (map (λ (q : Part ModelLine). transitions q.body) (p ∷ ps))
unfolding onto_last
bodies_more [] p l = ap (λ (r : List Transition). r ∷ []) (transitions-push p.body l)
bodies_more (q ∷ ps) p l = ap (λ (xs : List (List Transition)). transitions p.body ∷ xs) (bodies_more ps q l)

front_more : (k : ModelLine) (pre : List ModelLine) (ps : List (Part ModelLine)) (l : ModelLine)
    → rows_of (with_more (k ∷ pre) ps l).0 (with_more (k ∷ pre) ps l).1 ≡ on_last (λ (r : List Transition). r ++ transition l) (transitions (k ∷ pre) ∷ map (λ (q : Part ModelLine). transitions q.body) ps)
unfolding rows_of
front_more k pre [] l = ap (λ (r : List Transition). r ∷ []) (transitions-push (k ∷ pre) l)
front_more k pre (p ∷ ps) l = ap (λ (xs : List (List Transition)). transitions (k ∷ pre) ∷ xs) (bodies_more ps p l)

rows_more : (pre : List ModelLine) (ps : List (Part ModelLine)) (l : ModelLine)
    → rows_of (with_more pre ps l).0 (with_more pre ps l).1 ≡ row_more (transition l) (rows_of pre ps)
unfolding rows_of row_more
rows_more [] [] l = ap (λ (r : List Transition). r ∷ []) (append-nil (transition l))
rows_more [] (p ∷ ps) l = bodies_more ps p l
rows_more (k ∷ pre) ps l = front_more k pre ps l

choices_action : (ls : List ModelLine) (l : ModelLine) → is_action l ≡ true → choices (ls ++ l ∷ []) ≡ choices ls ++ [] ∷ []
choices_action ls l e =
    choices-rows (ls ++ l ∷ [])
    ∙ ap (λ (r : List ModelLine × List (Part ModelLine)). rows_of r.0 r.1) (parts_new is_action ls l e)
    ∙ rows_new (parts is_action ls).0 (parts is_action ls).1 l
    ∙ ap (λ (rows : List (List Transition)). rows ++ [] ∷ []) (sym (choices-rows ls))

choices_transition : (ls : List ModelLine) (l : ModelLine) → is_action l ≡ false → choices (ls ++ l ∷ []) ≡ row_more (transition l) (choices ls)
choices_transition ls l e =
    choices-rows (ls ++ l ∷ [])
    ∙ ap (λ (r : List ModelLine × List (Part ModelLine)). rows_of r.0 r.1) (parts_more is_action ls l e)
    ∙ rows_more (parts is_action ls).0 (parts is_action ls).1 l
    ∙ ap (row_more (transition l)) (sym (choices-rows ls))

-- ---- the states of model lines

abbrev pub states_of : List ℕ → List ModelLine → List StateText
states_of label lines = map (state label) (parts is_state lines).1

pub states_new : (label : List ℕ) (lines : List ModelLine) (l : ModelLine) → is_state l ≡ true
    → states_of label (lines ++ l ∷ []) ≡ states_of label lines ++ state label (begun l) ∷ []
states_new label lines l e =
    ap (λ (r : List ModelLine × List (Part ModelLine)). map (state label) r.1) (parts_new is_state lines l e)
    ∙ map-append (state label) (parts is_state lines).1 (begun l ∷ [])

-- a change of the last part is a change of the last state
last_changes : (label : List ℕ) (l : ModelLine) (change : StateText → StateText) → ((p : Part ModelLine) → state label (longer p l) ≡ change (state label p))
    → (ps : List (Part ModelLine)) → map (state label) (onto_last ps l) ≡ on_last change (map (state label) ps)
unfolding onto_last
last_changes label l change same [] = refl
last_changes label l change same (p ∷ []) = ap (λ (s : StateText). s ∷ []) (same p)
last_changes label l change same (p ∷ q ∷ ps) = ap (λ (ss : List StateText). state label p ∷ ss) (last_changes label l change same (q ∷ ps))

pub states_more : (label : List ℕ) (lines : List ModelLine) (l : ModelLine) (change : StateText → StateText) → is_state l ≡ false
    → ((p : Part ModelLine) → state label (longer p l) ≡ change (state label p))
    → states_of label (lines ++ l ∷ []) ≡ on_last change (states_of label lines)
states_more label lines l change e same =
    ap (map (state label)) (parts_grow is_state lines l e) ∙ last_changes label l change same (parts is_state lines).1

abbrev with_rows : StateText → List (List Transition) → StateText
with_rows s rows = record s { choices = rows }

pub state_action : (label : List ℕ) (l : ModelLine) → is_action l ≡ true → (p : Part ModelLine) → state label (longer p l) ≡ with_choice (state label p)
state_action label l e p = ap (with_rows (state label p)) (choices_action p.body l e)

more_of : (more : List Transition) (s : StateText) (rows : List (List Transition)) → s.choices ≡ rows → with_rows s (row_more more rows) ≡ with_transitions more s
unfolding row_more
more_of more s [] e = rw e refl
more_of more s (r ∷ rows) e = rw e refl

pub state_transition : (label : List ℕ) (l : ModelLine) → is_action l ≡ false → (p : Part ModelLine)
    → state label (longer p l) ≡ with_transitions (transition l) (state label p)
state_transition label l e p = ap (with_rows (state label p)) (choices_transition p.body l e) ∙ more_of (transition l) (state label p) (choices p.body) refl
