-- What a section gives when it begins, and when it has one more line.
use Rattle.std.proofs.Common.{◌≡◌, ℕ, Bool, true, false, not, ◌&&◌, refl, List, [], ◌∷◌, ◌++◌, sym, ◌∙◌, ap, Option, Some, None}
use Rattle.std.specs.Prelude.{map, filter, is_none, if◌then◌else◌}
use Rattle.std.specs.List.{flat_map}
use Rattle.std.proofs.lemmas.List.{append-nil}
use Rattle.std.proofs.lemmas.List.Elements.{filter-append}
use Rattle.lift_model.specs.declared.kind.Kind.{Kind}
use Rattle.drn_lexer.specs.Lines.{TextLine, content, is_blank_line}
use Rattle.drn_read.specs.Parts.{Part, last}
use Rattle.drn_read.specs.Sections.{section_of, section_at, section_in, is_same, is_section, said_in, phase_of, phase_in, kind_of, kind_in, type_text, list_words, names_in, names, placeholder, placeholders, header}
use Rattle.drn_read.specs.States.{model_line}
use Rattle.drn_read.specs.Keeping.{with_section}
use Rattle.drn_read.specs.declared.section.Phase.{Phase}
use Rattle.drn_read.specs.declared.section.Phase.TheVariants as phase
use Rattle.drn_read.specs.declared.section.Section.{Section}
use Rattle.drn_read.specs.declared.section.Section.TheVariants.{ModelType, ValueType, Parameters, RewardModels, NrStates, NrChoices, Placeholders, Model}
use Rattle.drn_read.proofs.Cuts.{longer, begun, last-append}
use Rattle.drn_read.proofs.Headers.{header_at, same_header, count_of, places_in, lines_in}

-- ---- a section that a line begins

pub either : {A : Type 0} (c : Bool) (x : A) → (if c then x else x) ≡ x
either true x = refl
either false x = refl

pub nothing_said : (s : Section) (l : TextLine) → said_in s (begun l) ≡ []
nothing_said s l = either (is_section s (begun l)) []

pub nothing_named : (l : TextLine) → names_in (begun l) ≡ []
nothing_named l = either (is_section Parameters (begun l)) []

-- the part is this section, by what section its head begins
abbrev is_by : Section → Option Section → Bool
is_by s section = elim section [ Some t ↦ is_same s t | None ↦ false ]

abbrev phase_by : List TextLine → Option Section → Phase
phase_by body section = elim section [ Some s ↦ phase_in s body | None ↦ phase.Sections ]

abbrev section_by : Option Section → List Section
section_by section = elim section [ Some s ↦ s ∷ [] | None ↦ [] ]

abbrev kinds_by : Option Kind → List Kind
kinds_by kind = elim kind [ Some k ↦ k ∷ [] | None ↦ [] ]

type_first : (s : Section) → is_same ModelType s ≡ is_same s ModelType
type_first ModelType = refl
type_first ValueType = refl
type_first Parameters = refl
type_first RewardModels = refl
type_first NrStates = refl
type_first NrChoices = refl
type_first Placeholders = refl
type_first Model = refl

kind_new : (before : List Kind) (is_type : Bool) (kind : Option Kind) → (is_type && is_none kind) ≡ false
    → last (before ++ (if is_type then kinds_by kind else [])) ≡ (if is_type then kind else last before)
kind_new before true None e = cc
kind_new before true (Some kind) e = last-append before kind
kind_new before false kind e = ap last (append-nil before)

pub new_header : (ps : List (Part TextLine)) (l : TextLine) (s : Section) → section_of (content l) ≡ Some s
    → (is_same s ModelType && is_none (kind_of (type_text (content l)))) ≡ false → header_at ps (begun l) ≡ with_section (content l) (header ps) s
unfolding header_at count_of
new_header ps l s e known = same_header (header_at ps (begun l)) (with_section (content l) (header ps) s)
    (ap (phase_by []) e)
    (ap (λ (o : Option Section). flat_map section_in ps ++ section_by o) e)
    (ap (λ (o : Option Section). last (flat_map kind_in ps ++ (if is_by ModelType o then kinds_by (kind_of (type_text (content l))) else []))) e
    ∙ ap (λ (c : Bool). last (flat_map kind_in ps ++ (if c then kinds_by (kind_of (type_text (content l))) else []))) (type_first s)
    ∙ kind_new (flat_map kind_in ps) (is_same s ModelType) (kind_of (type_text (content l))) known)
    (ap (λ (xs : List (List ℕ)). names ps ++ xs) (nothing_named l) ∙ append-nil (names ps))
    (ap (λ (ls : List TextLine). placeholders ps ++ flat_map (λ line. placeholder (names ps) (content line)) ls) (nothing_said Placeholders l) ∙ append-nil (placeholders ps))
    (ap (λ (ls : List TextLine). count_of (last (flat_map (said_in NrStates) ps ++ ls))) (nothing_said NrStates l) ∙ ap (λ (ls : List TextLine). count_of (last ls)) (append-nil (flat_map (said_in NrStates) ps)))
    (ap (λ (ls : List TextLine). count_of (last (flat_map (said_in NrChoices) ps ++ ls))) (nothing_said NrChoices l) ∙ ap (λ (ls : List TextLine). count_of (last ls)) (append-nil (flat_map (said_in NrChoices) ps)))

pub no_lines : (ps : List (Part TextLine)) (l : TextLine) → lines_in ps (begun l) ≡ []
no_lines ps l = ap (map (model_line (names ps) (placeholders ps))) (nothing_said Model l)

-- ---- a section with one more line

abbrev said_by : Bool → List TextLine → List TextLine
said_by is_it body = if is_it then filter (λ line. not (is_blank_line line)) body else []

pub other_said : (s : Section) (p : Part TextLine) (l : TextLine) → is_section s p ≡ false → said_in s (longer p l) ≡ said_in s p
other_said s p l e = ap (λ c. said_by c (p.body ++ l ∷ [])) e ∙ sym (ap (λ c. said_by c p.body) e)

blank_words : (body : List TextLine) (l : TextLine) → is_blank_line l ≡ true → filter (λ line. not (is_blank_line line)) (body ++ l ∷ []) ≡ filter (λ line. not (is_blank_line line)) body
blank_words body l e =
    let none : filter (λ line. not (is_blank_line line)) (l ∷ []) ≡ [] = rw e refl in
    filter-append (λ line. not (is_blank_line line)) body (l ∷ [])
    ∙ ap (λ (ls : List TextLine). filter (λ line. not (is_blank_line line)) body ++ ls) none
    ∙ append-nil (filter (λ line. not (is_blank_line line)) body)

pub blank_said : (s : Section) (p : Part TextLine) (l : TextLine) → is_blank_line l ≡ true → said_in s (longer p l) ≡ said_in s p
blank_said s p l e = ap (λ (ls : List TextLine). if is_section s p then ls else []) (blank_words p.body l e)

pub more_said : (s : Section) (p : Part TextLine) (l : TextLine) → is_section s p ≡ true → is_blank_line l ≡ false → said_in s (longer p l) ≡ said_in s p ++ l ∷ []
more_said s p l e f =
    let one : filter (λ line. not (is_blank_line line)) (l ∷ []) ≡ l ∷ [] = rw f refl in
    ap (λ c. said_by c (p.body ++ l ∷ [])) e
    ∙ filter-append (λ line. not (is_blank_line line)) p.body (l ∷ [])
    ∙ ap (λ (ls : List TextLine). filter (λ line. not (is_blank_line line)) p.body ++ ls) one
    ∙ ap (λ (ls : List TextLine). ls ++ l ∷ []) (sym (ap (λ c. said_by c p.body) e))

pub other_names : (p : Part TextLine) (l : TextLine) → is_section Parameters p ≡ false → names_in (longer p l) ≡ names_in p
other_names p l e = ap (λ (c : Bool). if c then list_words (p.body ++ l ∷ []) else []) e ∙ sym (ap (λ (c : Bool). if c then list_words p.body else []) e)

-- the section of a part, for each section
pub known_section : (s t : Section) (p : Part TextLine) → section_at p ≡ Some t → is_section s p ≡ is_same s t
known_section s t p e = ap (is_by s) e

pub no_section : (s : Section) (p : Part TextLine) → section_at p ≡ None → is_section s p ≡ false
no_section s p e = ap (is_by s) e

pub known_phase : (s : Section) (p : Part TextLine) → section_at p ≡ Some s → phase_of p ≡ phase_in s p.body
known_phase s p e = ap (phase_by p.body) e

pub no_phase : (p : Part TextLine) → section_at p ≡ None → phase_of p ≡ phase.Sections
no_phase p e = ap (phase_by p.body) e

-- where one more line leaves what a section gives, it leaves what all sections give
pub names_kept : (front : List (Part TextLine)) (p : Part TextLine) (l : TextLine) → names_in (longer p l) ≡ names_in p → names front ++ names_in (longer p l) ≡ names front ++ names_in p
names_kept front p l e = ap (λ (xs : List (List ℕ)). names front ++ xs) e

pub places_kept : (front : List (Part TextLine)) (p : Part TextLine) (l : TextLine) → said_in Placeholders (longer p l) ≡ said_in Placeholders p
    → placeholders front ++ places_in front (longer p l) ≡ placeholders front ++ places_in front p
places_kept front p l e = ap (λ (ls : List TextLine). placeholders front ++ flat_map (λ line. placeholder (names front) (content line)) ls) e

pub count_kept : (s : Section) (front : List (Part TextLine)) (p : Part TextLine) (l : TextLine) → said_in s (longer p l) ≡ said_in s p
    → count_of (last (flat_map (said_in s) front ++ said_in s (longer p l))) ≡ count_of (last (flat_map (said_in s) front ++ said_in s p))
count_kept s front p l e = ap (λ (ls : List TextLine). count_of (last (flat_map (said_in s) front ++ ls))) e

pub quiet_header : (front : List (Part TextLine)) (p : Part TextLine) (l : TextLine) → phase_of (longer p l) ≡ phase_of p → names_in (longer p l) ≡ names_in p
    → said_in Placeholders (longer p l) ≡ said_in Placeholders p → said_in NrStates (longer p l) ≡ said_in NrStates p → said_in NrChoices (longer p l) ≡ said_in NrChoices p
    → header_at front (longer p l) ≡ header_at front p
unfolding header_at count_of
quiet_header front p l a b c d e =
    same_header (header_at front (longer p l)) (header_at front p)
    a refl refl (names_kept front p l b) (places_kept front p l c) (count_kept NrStates front p l d) (count_kept NrChoices front p l e)

-- what a section of another kind adds to the names and to the placeholders
pub names_none : (front : List (Part TextLine)) (p : Part TextLine) → is_section Parameters p ≡ false → names front ++ names_in p ≡ names front
names_none front p e = ap (λ (c : Bool). names front ++ (if c then list_words p.body else [])) e ∙ append-nil (names front)

pub places_none : (front : List (Part TextLine)) (p : Part TextLine) → is_section Placeholders p ≡ false → placeholders front ++ places_in front p ≡ placeholders front
places_none front p e =
    ap (λ (c : Bool). placeholders front ++ flat_map (λ line. placeholder (names front) (content line)) (said_by c p.body)) e ∙ append-nil (placeholders front)
