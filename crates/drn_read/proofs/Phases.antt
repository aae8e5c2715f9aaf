-- What one more line does, by what may stand next.
use Rattle.std.proofs.Common.{◌≡◌, ℕ, Bool, true, false, not, ◌&&◌, refl, List, [], ◌∷◌, ◌∙◌, Option, Some, None}
use Rattle.std.specs.Prelude.{is_none, length, ◌==◌}
use Rattle.std.proofs.Math.Dec.{eqb-suc-zero}
use Rattle.std.proofs.lemmas.Bool.{eqb-true}
use Rattle.lift_bytes.specs.Bytes.{first_passes}
use Rattle.std.specs.List.{list_all}
use Rattle.std.specs.Char.{is_ascii_digit}
use Rattle.drn_lexer.specs.Lines.{TextLine, content, is_blank_line}
use Rattle.drn_read.specs.Faults.{when, first_of}
use Rattle.drn_read.specs.Sections.{section_of, is_same, is_head, kind_of, type_text}
use Rattle.drn_read.specs.Judging.{Said, line_fault, head_fault, has}
use Rattle.drn_read.specs.Keeping.{with_line, with_head, with_section, with_names, with_state_count, with_choice_count, with_placeholder, states_with}
use Rattle.drn_read.specs.declared.error.DrnCause.{DrnCause}
use Rattle.drn_read.specs.declared.error.DrnCause.TheVariants.{UnsupportedType, MissingSection, RepeatedSection}
use Rattle.drn_read.specs.declared.section.Phase.{Phase}
use Rattle.drn_read.specs.declared.section.Phase.TheVariants as phase
use Rattle.drn_read.specs.declared.section.Section.{Section}
use Rattle.drn_read.specs.declared.section.Section.TheVariants.{ModelType, Model}
use Rattle.drn_read.proofs.Declared.{reported_none}

pub step_sections : (label : List ℕ) (said : Said) (l : TextLine) → said.header.phase ≡ phase.Sections → is_head l ≡ false → with_line label said l ≡ said
step_sections label said l e f = rw (e, f) refl

pub step_names : (label : List ℕ) (said : Said) (l : TextLine) → said.header.phase ≡ phase.NameList → is_head l ≡ false
    → with_line label said l ≡ record said { header = with_names said.header (content l) }
step_names label said l e f = rw (e, f) refl

pub step_rewards : (label : List ℕ) (said : Said) (l : TextLine) → said.header.phase ≡ phase.RewardList → is_head l ≡ false
    → with_line label said l ≡ record said { header = record said.header { phase = phase.Sections } }
step_rewards label said l e f = rw (e, f) refl

pub step_states : (label : List ℕ) (said : Said) (l : TextLine) → said.header.phase ≡ phase.StateCount → is_blank_line l ≡ false
    → with_line label said l ≡ record said { header = with_state_count said.header (content l) }
step_states label said l e f = rw (e, f) refl

pub step_states_blank : (label : List ℕ) (said : Said) (l : TextLine) → said.header.phase ≡ phase.StateCount → is_blank_line l ≡ true → with_line label said l ≡ said
step_states_blank label said l e f = rw (e, f) refl

pub step_choices : (label : List ℕ) (said : Said) (l : TextLine) → said.header.phase ≡ phase.ChoiceCount → is_blank_line l ≡ false
    → with_line label said l ≡ record said { header = with_choice_count said.header (content l) }
step_choices label said l e f = rw (e, f) refl

pub step_choices_blank : (label : List ℕ) (said : Said) (l : TextLine) → said.header.phase ≡ phase.ChoiceCount → is_blank_line l ≡ true → with_line label said l ≡ said
step_choices_blank label said l e f = rw (e, f) refl

pub step_places : (label : List ℕ) (said : Said) (l : TextLine) → said.header.phase ≡ phase.Placeholders → is_head l ≡ false → is_blank_line l ≡ false
    → with_line label said l ≡ record said { header = with_placeholder said.header (content l) }
step_places label said l e f g = rw (e, f, g) refl

pub step_places_blank : (label : List ℕ) (said : Said) (l : TextLine) → said.header.phase ≡ phase.Placeholders → is_head l ≡ false → is_blank_line l ≡ true → with_line label said l ≡ said
step_places_blank label said l e f g = rw (e, f, g) refl

pub step_model : (label : List ℕ) (said : Said) (l : TextLine) → said.header.phase ≡ phase.Model
    → with_line label said l ≡ record said { states = states_with label said.header said.states l }
step_model label said l e = rw e refl

-- ---- lines without fault

-- between sections a line says nothing, or it begins one
pub blank_between : (said : Said) (l : TextLine) → said.header.phase ≡ phase.Sections → is_head l ≡ false → line_fault said l ≡ None → is_blank_line l ≡ true
blank_between said l e f h = by_test (is_blank_line l) refl
  where
    by_test : (c : Bool) → is_blank_line l ≡ c → is_blank_line l ≡ true
    by_test true g = g
    by_test false g = let k = rw (e, f, g) at h in cc

first_not_blank : (p : ℕ → Bool) (text : List ℕ) → first_passes p text ≡ true → (length text == 0) ≡ false
first_not_blank p [] e = cc
first_not_blank p (b ∷ text) e = eqb-suc-zero (length text)

first_no_digits : (text : List ℕ) → first_passes (λ b. b == 64) text ≡ true → list_all is_ascii_digit text ≡ false
first_no_digits [] e = cc
first_no_digits (b ∷ text) e = let at_sign = eqb-true b 64 e in rw at_sign refl

-- a line that begins with `@` and has no fault
record IsCalmHead (label : List ℕ) (said : Said) (l : TextLine) : Type 0 where
  pub fault : head_fault said.header (content l) ≡ None
  pub step : with_line label said l ≡ record said { header = with_head said.header (content l) }

calm_head_in : (label : List ℕ) (said : Said) (l : TextLine) (p : Phase) → said.header.phase ≡ p → is_head l ≡ true → line_fault said l ≡ None → IsCalmHead label said l
calm_head_in label said l phase.Sections e f h = record { fault = reported_none l.number _ (rw (e, f) at h); step = rw (e, f) refl }
calm_head_in label said l phase.NameList e f h = record { fault = reported_none l.number _ (rw (e, f) at h); step = rw (e, f) refl }
calm_head_in label said l phase.RewardList e f h = record { fault = reported_none l.number _ (rw (e, f) at h); step = rw (e, f) refl }
calm_head_in label said l phase.StateCount e f h = let n = first_not_blank _ (content l) f in let d = first_no_digits (content l) f in let k = rw (e, n, d) at h in cc
calm_head_in label said l phase.ChoiceCount e f h = let n = first_not_blank _ (content l) f in let d = first_no_digits (content l) f in let k = rw (e, n, d) at h in cc
calm_head_in label said l phase.Placeholders e f h = record { fault = reported_none l.number _ (rw (e, f) at h); step = rw (e, f) refl }
calm_head_in label said l phase.Model e f h = let k = rw (e, f) at h in cc

-- such a line begins a section
pub record Begins (label : List ℕ) (said : Said) (l : TextLine) : Type 0 where
  pub part : Section
  pub is : section_of (content l) ≡ Some part
  pub known : (is_same part ModelType && is_none (kind_of (type_text (content l)))) ≡ false
  pub step : with_line label said l ≡ record said { header = with_section (content l) said.header part }

second_calm : (a b c : Bool) (x y z : DrnCause) → first_of (when a x ∷ when b y ∷ when c z ∷ []) ≡ None → b ≡ false
second_calm true b c x y z h = cc
second_calm false true c x y z h = cc
second_calm false false c x y z h = refl

begins_by : (label : List ℕ) (said : Said) (l : TextLine) (s : Option Section) → section_of (content l) ≡ s → IsCalmHead label said l → Begins label said l
begins_by label said l None e calm = let k = rw (head_fault, e) at calm.fault in cc
begins_by label said l (Some s) e calm = record {
  part = s;
  is = e;
  known = second_calm (has s said.header) (is_same s ModelType && is_none (kind_of (type_text (content l)))) (is_same s Model && not (has ModelType said.header)) RepeatedSection UnsupportedType MissingSection (rw (head_fault, e) at calm.fault);
  step = calm.step ∙ rw (with_head, e) refl;
}

pub begins : (label : List ℕ) (said : Said) (l : TextLine) → is_head l ≡ true → line_fault said l ≡ None → Begins label said l
begins label said l f h = begins_by label said l (section_of (content l)) refl (calm_head_in label said l said.header.phase refl f h)
