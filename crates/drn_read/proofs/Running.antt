-- How models are read: what is kept of a line, and what its end gives.
use Rattle.std.proofs.Common.{◌≡◌, ℕ, Bool, true, false, refl, List, [], ◌∷◌, ◌++◌, sym, ◌∙◌, ap, Option, Some, None, Ok, Err}
use Rattle.lift_model.specs.Valid.{IsModel}
use Rattle.drn_lexer.specs.Lines.{TextLine, lines, is_comment, own_fault}
use Rattle.drn_lexer.specs.declared.error.LexError.{LexError}
use Rattle.drn_read.specs.Judging.{Said, line_fault}
use Rattle.drn_read.specs.Reading.{said, judge, first_fault, last_number, end_fault, model, ended, drn}
use Rattle.drn_read.specs.Laws.{TextsAreValid}
use Rattle.drn_read.specs.Keeping.{with_line}
use Rattle.drn_read.specs.declared.error.DrnError.{DrnError}
use Rattle.drn_read.proofs.FirstFault.{Semantics, or_else, judged}
use Rattle.drn_read.proofs.Growth.{grows, skips}
use Rattle.drn_read.proofs.Loop.{AllRead}

pub no_fault : (label : List ℕ) (before : List TextLine) → first_fault label before [] ≡ None
unfolding first_fault
no_fault label before = refl

pub or_behind : (label : List ℕ) (before : List TextLine) (l : TextLine) (ls : List TextLine)
    → first_fault label before (l ∷ ls) ≡ or_else (first_fault label (before ++ l ∷ []) ls) (judge label before l)
unfolding first_fault or_else
or_behind label before l ls = refl

pub judges : (label : List ℕ) (before : List TextLine) (l : TextLine) (own : Option LexError) (comment : Bool) → own_fault l ≡ own → is_comment l ≡ comment
    → judge label before l ≡ judged l.number (line_fault (said label before) l) own comment
unfolding judge judged
judges label before l (Some fault) comment e f = rw (judge, e) refl
judges label before l None true e f = rw (judge, e, f) refl
judges label before l None false e f = rw (judge, e, f) refl

-- a model, for the label of the goal states
abbrev pub plain : List ℕ → Semantics Said
plain label = record {
  said = said label;
  line_fault = line_fault;
  with_line = with_line label;
  judge = judge label;
  first_fault = first_fault label;
  no_fault = no_fault label;
  or_behind = or_behind label;
  judges = judges label;
  grows = grows label;
  skips = skips label;
}

-- ---- the end of a text

pub at_fault : (label text : List ℕ) (fault : DrnError) → first_fault label [] (lines text) ≡ Some fault → drn text label ≡ Err fault
unfolding drn
at_fault label text fault e = rw (drn, e) refl

pub without_fault : (label text : List ℕ) → first_fault label [] (lines text) ≡ None → drn text label ≡ ended (last_number (lines text)) (said label (lines text))
unfolding drn end_fault
without_fault label text e = rw (drn, e) refl

pub all_read : (label text : List ℕ) (number : ℕ) (kept : Said) → AllRead (plain label) text number kept → drn text label ≡ ended number kept
all_read label text number kept r =
    without_fault label text r.fault ∙ ap (λ n. ended n (said label (lines text))) r.last ∙ ap (ended number) (sym r.said_is)

no_fault_at_end : (number : ℕ) (kept : Said) → end_fault number kept ≡ None → ended number kept ≡ Ok (model kept)
no_fault_at_end number kept e = rw (ended, e) refl

-- a text without a fault stands for a valid model
pub valid_at_end : (label text : List ℕ) (number : ℕ) (kept : Said) → TextsAreValid → drn text label ≡ ended number kept → end_fault number kept ≡ None → IsModel (model kept)
valid_at_end label text number kept law h e = (law text label (model kept) (h ∙ no_fault_at_end number kept e)).valid
