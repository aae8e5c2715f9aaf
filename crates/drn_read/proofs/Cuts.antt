-- How the parts of a list of lines grow by one line.
use Rattle.std.proofs.Common.{◌≡◌, Bool, true, false, refl, List, [], ◌∷◌, ◌++◌, sym, ◌∙◌, ap, Some}
use Rattle.drn_read.specs.Parts.{Part, parts, last}

-- a part with one more line
abbrev pub longer : {A : Type 0} → Part A → A → Part A
longer p l = record { head = p.head; body = p.body ++ l ∷ [] }

-- a part that one line begins
abbrev pub begun : {A : Type 0} → A → Part A
begun l = record { head = l; body = [] }

-- the last part has one more line
unfoldable pub onto_last : {A : Type 0} → List (Part A) → A → List (Part A)
onto_last [] l = []
onto_last (p ∷ []) l = longer p l ∷ []
onto_last (p ∷ q ∷ ps) l = p ∷ onto_last (q ∷ ps) l

-- one more line, which begins no part
abbrev pub with_more : {A : Type 0} → List A → List (Part A) → A → List A × List (Part A)
with_more pre [] l = (pre ++ l ∷ [], [])
with_more pre (p ∷ ps) l = (pre, onto_last (p ∷ ps) l)

-- one more line before all
abbrev pub in_front : {A : Type 0} → Bool → A → List A → List (Part A) → List A × List (Part A)
in_front true k pre ps = ([], record { head = k; body = pre } ∷ ps)
in_front false k pre ps = (k ∷ pre, ps)

front_then_last : {A : Type 0} (c : Bool) (k l : A) (pre : List A) (ps : List (Part A))
    → in_front c k (with_more pre ps l).0 (with_more pre ps l).1 ≡ with_more (in_front c k pre ps).0 (in_front c k pre ps).1 l
unfolding onto_last
front_then_last true k l pre [] = refl
front_then_last true k l pre (p ∷ ps) = refl
front_then_last false k l pre [] = refl
front_then_last false k l pre (p ∷ ps) = refl

front_then_part : {A : Type 0} (c : Bool) (k : A) (pre : List A) (ps qs : List (Part A))
    → in_front c k pre (ps ++ qs) ≡ ((in_front c k pre ps).0, (in_front c k pre ps).1 ++ qs)
front_then_part true k pre ps qs = refl
front_then_part false k pre ps qs = refl

parts-cons : {A : Type 0} (b : A → Bool) (k : A) (ls : List A) → parts b (k ∷ ls) ≡ in_front (b k) k (parts b ls).0 (parts b ls).1
parts-cons {A} b k ls = by_test (b k) refl
  where
    by_test : (c : Bool) → b k ≡ c → parts b (k ∷ ls) ≡ in_front c k (parts b ls).0 (parts b ls).1
    by_test true e = rw e refl
    by_test false e = rw e refl

-- a line that begins a part
pub parts_new : {A : Type 0} (b : A → Bool) (ls : List A) (l : A) → b l ≡ true
    → parts b (ls ++ l ∷ []) ≡ ((parts b ls).0, (parts b ls).1 ++ begun l ∷ [])
parts_new b [] l e = rw e refl
parts_new {A} b (k ∷ ls) l e =
    parts-cons b k (ls ++ l ∷ [])
    ∙ ap (λ (r : List A × List (Part A)). in_front (b k) k r.0 r.1) (parts_new b ls l e)
    ∙ front_then_part (b k) k (parts b ls).0 (parts b ls).1 (begun l ∷ [])
    ∙ ap (λ (r : List A × List (Part A)). let s : List A × List (Part A) = (r.0, r.1 ++ begun l ∷ []) in s) (sym (parts-cons b k ls))

-- any other line
pub parts_more : {A : Type 0} (b : A → Bool) (ls : List A) (l : A) → b l ≡ false
    → parts b (ls ++ l ∷ []) ≡ with_more (parts b ls).0 (parts b ls).1 l
parts_more b [] l e = rw e refl
parts_more {A} b (k ∷ ls) l e =
    parts-cons b k (ls ++ l ∷ [])
    ∙ ap (λ (r : List A × List (Part A)). in_front (b k) k r.0 r.1) (parts_more b ls l e)
    ∙ front_then_last (b k) k l (parts b ls).0 (parts b ls).1
    ∙ ap (λ (r : List A × List (Part A)). with_more r.0 r.1 l) (sym (parts-cons b k ls))

more_parts : {A : Type 0} (pre : List A) (ps : List (Part A)) (l : A) → (with_more pre ps l).1 ≡ onto_last ps l
unfolding onto_last
more_parts pre [] l = refl
more_parts pre (p ∷ ps) l = refl

-- the parts alone, behind a line that begins none
pub parts_grow : {A : Type 0} (b : A → Bool) (ls : List A) (l : A) → b l ≡ false → (parts b (ls ++ l ∷ [])).1 ≡ onto_last (parts b ls).1 l
parts_grow {A} b ls l e = ap (λ (r : List A × List (Part A)). r.1) (parts_more b ls l e) ∙ more_parts (parts b ls).0 (parts b ls).1 l

-- ---- lists by their last element

pub last-append : {A : Type 0} (xs : List A) (x : A) → last (xs ++ x ∷ []) ≡ Some x
last-append [] x = refl
last-append (y ∷ []) x = refl
last-append (y ∷ z ∷ xs) x = last-append (z ∷ xs) x

-- a list is empty, or it has a last element
pub data Ends {A : Type 0} : List A → Type 0 where
  nothing : Ends []
  ending : (front : List A) (x : A) → Ends (front ++ x ∷ [])

pub ends : {A : Type 0} (xs : List A) → Ends xs
ends [] = nothing
ends (x ∷ xs) = in_front_of x xs (ends xs)
  where
    in_front_of : {A : Type 0} (x : A) (xs : List A) → Ends xs → Ends (x ∷ xs)
    in_front_of x _ nothing = ending [] x
    in_front_of x _ (ending front y) = ending (x ∷ front) y

pub onto_last-ends : {A : Type 0} (ps : List (Part A)) (p : Part A) (l : A) → onto_last (ps ++ p ∷ []) l ≡ ps ++ longer p l ∷ []
unfolding onto_last
onto_last-ends [] p l = refl
onto_last-ends (q ∷ []) p l = refl
onto_last-ends {A} (q ∷ r ∷ ps) p l = ap (λ (qs : List (Part A)). q ∷ qs) (onto_last-ends (r ∷ ps) p l)

pub onto_last-none : {A : Type 0} (l : A) → onto_last [] l ≡ []
unfolding onto_last
onto_last-none l = refl
