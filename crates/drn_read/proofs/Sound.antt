-- What was read without a fault is a valid model: what lines say is sound before the first line, stays so with each line without fault, and at an end without fault it stands for a valid model.
use Rattle.std.proofs.Common.{◌≡◌, ◌≢◌, ℕ, Bool, true, false, List, [], ◌∷◌, ◌++◌, length, Option, None, Some, Result, Ok, Err, refl, sym, ap, subst, ◌∙◌, append_assoc, arith}
use Rattle.std.proofs.lemmas.List.{append-nil, length_push}
use Rattle.std.proofs.lemmas.List.Elements.{All-nil}
use Rattle.lift_model.specs.declared.kind.Kind.{Kind}
use Rattle.lift_model.specs.Model.{ModelData}
use Rattle.drn_lexer.specs.Lines.{TextLine, lines, own_fault, is_comment}
use Rattle.drn_lexer.specs.declared.error.LexError.{LexError}
use Rattle.drn_read.specs.Laws.{IsShortName, IsReadModel, TextsAreValid}
use Rattle.drn_read.specs.declared.error.DrnError.{DrnError}
use Rattle.drn_read.specs.Sections.{Header, Placeholder}
use Rattle.drn_read.specs.Judging.{Said, header_fault, line_fault}
use Rattle.drn_read.specs.Keeping.{header_with, with_line}
use Rattle.drn_read.specs.Reading.{said, judge, first_fault, end_fault, model, ended, last_number, drn}
use Rattle.drn_read.specs.declared.section.Phase.{Phase}
use Rattle.drn_read.specs.declared.section.Phase.TheVariants as phase
use Rattle.drn_read.proofs.Declared.{Stays, header_stays, reported_none}
use Rattle.drn_read.proofs.Stated.{model_stays}
use Rattle.drn_read.proofs.Kept.{Laws, IsValue, IsState, AreStates, IsSound}
use Rattle.drn_read.proofs.Whole.{read_model_is}
use Rattle.drn_read.proofs.Growth.{skips, grows}
use Rattle.drn_read.proofs.FirstFault.{goes_on as behind_calm, ends_at, judged_own, judged_plain}
use Rattle.drn_read.proofs.Running.{plain}

no_states : (kind : Option Kind) (count : ℕ) → AreStates kind count []
no_states kind count = record {
  few = omega arith;
  choices = omega arith;
  transitions = omega arith;
  each = All-nil (IsState kind count);
  closed = λ front s e. absurd (omega (arith, ap length e, length_push front s));
}

pub starts : (label : List ℕ) → IsSound (said label [])
unfolding said
starts label = record {
  declared = record { parameters = (omega arith, λ i j d lt within. absurd (omega arith), All-nil IsShortName); few = omega arith; values = All-nil (λ (place : Placeholder). IsValue 0 place.value) };
  states = no_states None 0;
  before = λ ne. refl;
}

-- another header, before the model
aside : (kept : Said) (after : Header) → Stays after → kept.states ≡ [] → IsSound (record kept { header = after })
aside kept after d none = record { declared = d; states = subst (AreStates after.kind (length after.names)) (sym none) (no_states after.kind (length after.names)); before = λ ne. none }

-- what the lines say, at this place of a text
abbrev in_phase : Phase → Said → Said
in_phase p kept = record kept { header = record kept.header { phase = p } }

declared_on : (laws : Laws) (label : List ℕ) (kept : Said) (p : Phase) (line : TextLine) → p ≢ phase.Model → IsSound (in_phase p kept) → header_fault (in_phase p kept).header line ≡ None
    → IsSound (record kept { header = header_with (in_phase p kept).header line })
declared_on laws label kept p line ne h e =
    aside kept (header_with (in_phase p kept).header line) (header_stays laws kept.header p line e h.declared) (h.before ne)

goes_on_in : (laws : Laws) (label : List ℕ) (kept : Said) (p : Phase) (line : TextLine) → IsSound (in_phase p kept) → line_fault (in_phase p kept) line ≡ None → IsSound (with_line label (in_phase p kept) line)
goes_on_in laws label kept phase.Model line h e = record {
  declared = h.declared;
  states = model_stays laws label (in_phase phase.Model kept).header kept.states line e h.declared.values h.states;
  before = λ ne. absurd (ne refl);
}
goes_on_in laws label kept phase.Sections line h e = declared_on laws label kept phase.Sections line (λ same. cc) h (reported_none line.number (header_fault (in_phase phase.Sections kept).header line) e)
goes_on_in laws label kept phase.NameList line h e = declared_on laws label kept phase.NameList line (λ same. cc) h (reported_none line.number (header_fault (in_phase phase.NameList kept).header line) e)
goes_on_in laws label kept phase.RewardList line h e = declared_on laws label kept phase.RewardList line (λ same. cc) h (reported_none line.number (header_fault (in_phase phase.RewardList kept).header line) e)
goes_on_in laws label kept phase.StateCount line h e = declared_on laws label kept phase.StateCount line (λ same. cc) h (reported_none line.number (header_fault (in_phase phase.StateCount kept).header line) e)
goes_on_in laws label kept phase.ChoiceCount line h e = declared_on laws label kept phase.ChoiceCount line (λ same. cc) h (reported_none line.number (header_fault (in_phase phase.ChoiceCount kept).header line) e)
goes_on_in laws label kept phase.Placeholders line h e = declared_on laws label kept phase.Placeholders line (λ same. cc) h (reported_none line.number (header_fault (in_phase phase.Placeholders kept).header line) e)

pub goes_on : (laws : Laws) (label : List ℕ) (kept : Said) (line : TextLine) → IsSound kept → line_fault kept line ≡ None → IsSound (with_line label kept line)
goes_on laws label kept line h e = goes_on_in laws label kept kept.header.phase line h e

-- ---- a text

-- one more line without fault
line_sound : (laws : Laws) (label : List ℕ) (before : List TextLine) (l : TextLine) → judge label before l ≡ None → IsSound (said label before) → IsSound (said label (before ++ l ∷ []))
line_sound laws label before l e h = by_own (own_fault l) refl
  where
    by_comment : (b : Bool) → own_fault l ≡ None → is_comment l ≡ b → IsSound (said label (before ++ l ∷ []))
    by_comment true own is = subst IsSound (sym (skips label before l is)) h
    by_comment false own is =
        let calm : line_fault (said label before) l ≡ None = sym (judged_plain (plain label) before l own is) ∙ e in
        subst IsSound (sym (grows label before l is calm)) (goes_on laws label (said label before) l h calm)

    by_own : (o : Option LexError) → own_fault l ≡ o → IsSound (said label (before ++ l ∷ []))
    by_own None own = by_comment (is_comment l) own refl
    by_own (Some fault) own = let wrong = judged_own (plain label) before l fault own in cc

lines_sound : (laws : Laws) (label : List ℕ) (before ls : List TextLine) → first_fault label before ls ≡ None → IsSound (said label before) → IsSound (said label (before ++ ls))
lines_sound laws label before [] e h = subst (λ ls. IsSound (said label ls)) (sym (append-nil before)) h
lines_sound laws label before (l ∷ ls) e h = by_judge (judge label before l) refl (λ f. lines_sound laws label (before ++ l ∷ []) ls f)
  where
    by_judge : (o : Option DrnError) → judge label before l ≡ o
        → (first_fault label (before ++ l ∷ []) ls ≡ None → IsSound (said label (before ++ l ∷ [])) → IsSound (said label ((before ++ l ∷ []) ++ ls))) → IsSound (said label (before ++ l ∷ ls))
    by_judge None is rest =
        subst (λ ls. IsSound (said label ls)) (append_assoc before (l ∷ []) ls) (rest (sym (behind_calm (plain label) before l ls is) ∙ e) (line_sound laws label before l is h))
    by_judge (Some fault) is rest = let wrong = ends_at (plain label) before l ls fault is in cc

ended_is : (laws : Laws) (number : ℕ) (kept : Said) (m : ModelData) → IsSound kept → ended number kept ≡ Ok m → IsReadModel m
ended_is laws number kept m h e = by_end (end_fault number kept) refl e
  where
    by_end : (o : Option DrnError) → end_fault number kept ≡ o → (elim o as (λ o. Result ModelData DrnError) [ Some fault ↦ Err fault | None ↦ Ok (model kept) ]) ≡ Ok m → IsReadModel m
    by_end None is e = let same : model kept ≡ m = cc in subst IsReadModel same (read_model_is laws number kept h is)
    by_end (Some fault) is e = cc

-- what a text stands for is a valid model
pub text_valid : Laws → TextsAreValid
unfolding drn
text_valid laws text label m e = by_fault (first_fault label [] (lines text)) refl e
  where
    by_fault : (o : Option DrnError) → first_fault label [] (lines text) ≡ o
        → (elim o as (λ o. Result ModelData DrnError) [ Some fault ↦ Err fault | None ↦ ended (last_number (lines text)) (said label (lines text)) ]) ≡ Ok m → IsReadModel m
    by_fault None is e = ended_is laws (last_number (lines text)) (said label (lines text)) m (lines_sound laws label [] (lines text) is (starts label)) e
    by_fault (Some fault) is e = cc
