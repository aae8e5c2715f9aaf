-- How what the sections declare grows by one section, and by one line of the last section.
use Rattle.std.proofs.Common.{◌≡◌, ℕ, refl, List, [], ◌∷◌, ◌++◌, sym, ◌∙◌, ap, append_assoc, Option}
use Rattle.std.specs.Prelude.{map}
use Rattle.std.specs.List.{flat_map}
use Rattle.std.specs.Option.{option_map}
use Rattle.std.specs.Str.Parse.{digits_value}
use Rattle.std.proofs.lemmas.List.{append-nil}
use Rattle.std.proofs.lemmas.Grind.{flat_map-append}
use Rattle.lift_model.specs.declared.kind.Kind.{Kind}
use Rattle.drn_lexer.specs.Lines.{TextLine, content}
use Rattle.drn_read.specs.Parts.{Part, last}
use Rattle.drn_read.specs.Sections.{Header, Placeholder, section_in, said_in, phase_of, phase_behind, kind_in, names_in, names, placeholder, placeholders, gather, header}
use Rattle.drn_read.specs.States.{ModelLine, model_line, model_lines}
use Rattle.drn_read.specs.declared.section.Phase.{Phase}
use Rattle.drn_read.specs.declared.section.Section.{Section}
use Rattle.drn_read.specs.declared.section.Section.TheVariants.{NrStates, NrChoices, Placeholders, Model}
use Rattle.drn_read.proofs.Cuts.{last-append}

-- ---- one more section

pub flat_map-push : {A B : Type 0} (f : A → List B) (xs : List A) (x : A) → flat_map f (xs ++ x ∷ []) ≡ flat_map f xs ++ f x
flat_map-push {A} {B} f xs x = flat_map-append f xs (x ∷ []) ∙ ap (λ (ys : List B). flat_map f xs ++ ys) (append-nil (f x))

pub gather-push : {A : Type 0} (give : List (Part TextLine) → Part TextLine → List A) (before ps : List (Part TextLine)) (p : Part TextLine)
    → gather give before (ps ++ p ∷ []) ≡ gather give before ps ++ give (before ++ ps) p
gather-push {A} give before [] p = append-nil (give before p) ∙ ap (λ (qs : List (Part TextLine)). give qs p) (sym (append-nil before))
gather-push {A} give before (q ∷ ps) p =
    ap (λ (xs : List A). give before q ++ xs) (gather-push give (before ++ q ∷ []) ps p)
    ∙ sym (append_assoc (give before q) (gather give (before ++ q ∷ []) ps) (give ((before ++ q ∷ []) ++ ps) p))
    ∙ ap (λ (qs : List (Part TextLine)). (give before q ++ gather give (before ++ q ∷ []) ps) ++ give qs p) (append_assoc before (q ∷ []) ps)

-- what a section gives behind these others
abbrev pub places_in : List (Part TextLine) → Part TextLine → List Placeholder
places_in front p = flat_map (λ line. placeholder (names front) (content line)) (said_in Placeholders p)

abbrev pub lines_in : List (Part TextLine) → Part TextLine → List ModelLine
lines_in front p = map (model_line (names front) (placeholders front)) (said_in Model p)

-- what sections declare of which this one is the last
unfoldable pub header_at : List (Part TextLine) → Part TextLine → Header
header_at front p = record {
  phase = phase_of p;
  seen = flat_map section_in front ++ section_in p;
  kind = last (flat_map kind_in front ++ kind_in p);
  names = names front ++ names_in p;
  placeholders = placeholders front ++ places_in front p;
  state_count = option_map (λ line. digits_value 10 (content line)) (last (flat_map (said_in NrStates) front ++ said_in NrStates p));
  choice_count = option_map (λ line. digits_value 10 (content line)) (last (flat_map (said_in NrChoices) front ++ said_in NrChoices p));
}

same_fields : (p p2 : Phase) (s s2 : List Section) (k k2 : Option Kind) (n n2 : List (List ℕ)) (l l2 : List Placeholder) (a a2 b b2 : Option ℕ)
    → p ≡ p2 → s ≡ s2 → k ≡ k2 → n ≡ n2 → l ≡ l2 → a ≡ a2 → b ≡ b2
    → Path Header (record { phase = p; seen = s; kind = k; names = n; placeholders = l; state_count = a; choice_count = b })
    (record { phase = p2; seen = s2; kind = k2; names = n2; placeholders = l2; state_count = a2; choice_count = b2 })
same_fields p p2 s s2 k k2 n n2 l l2 a a2 b b2 f g h i j m o = cc

pub same_header : (h k : Header) → h.phase ≡ k.phase → h.seen ≡ k.seen → h.kind ≡ k.kind → h.names ≡ k.names → h.placeholders ≡ k.placeholders
    → h.state_count ≡ k.state_count → h.choice_count ≡ k.choice_count → h ≡ k
same_header h k a b c d e f g = same_fields h.phase k.phase h.seen k.seen h.kind k.kind h.names k.names h.placeholders k.placeholders h.state_count k.state_count h.choice_count k.choice_count a b c d e f g

pub phase-ends : (front : List (Part TextLine)) (p : Part TextLine) → phase_behind (front ++ p ∷ []) ≡ phase_of p
phase-ends front p = rw (phase_behind, last-append front p) refl

unfoldable pub count_of : Option TextLine → Option ℕ
count_of line = option_map (λ line. digits_value 10 (content line)) line

pub header-ends : (front : List (Part TextLine)) (p : Part TextLine) → header (front ++ p ∷ []) ≡ header_at front p
unfolding header_at count_of
header-ends front p = same_header (header (front ++ p ∷ [])) (header_at front p)
    (phase-ends front p)
    (flat_map-push section_in front p)
    (ap last (flat_map-push kind_in front p))
    (flat_map-push names_in front p)
    (gather-push (λ before part. flat_map (λ line. placeholder (names before) (content line)) (said_in Placeholders part)) [] front p)
    (ap (λ (ls : List TextLine). count_of (last ls)) (flat_map-push (said_in NrStates) front p))
    (ap (λ (ls : List TextLine). count_of (last ls)) (flat_map-push (said_in NrChoices) front p))

pub model_lines-ends : (front : List (Part TextLine)) (p : Part TextLine) → model_lines (front ++ p ∷ []) ≡ model_lines front ++ lines_in front p
model_lines-ends front p = gather-push (λ before part. map (model_line (names before) (placeholders before)) (said_in Model part)) [] front p
