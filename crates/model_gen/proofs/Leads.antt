-- Lines without fault, from what the lines before them say to what those with them say.
use Rattle.std.proofs.Common.{◌≡◌, false, List, [], ◌∷◌, ◌++◌, ℕ, sym, ap, ◌∙◌, None, Some, append_assoc}
use Rattle.std.proofs.lemmas.List.{append-nil}
use Rattle.drn_lexer.specs.Lines.{TextLine, own_fault, is_comment}
use Rattle.drn_read.specs.Judging.{Said, line_fault}
use Rattle.drn_read.specs.Reading.{said, judge, first_fault}
use Rattle.drn_read.specs.Keeping.{with_line}
use Rattle.drn_read.specs.Laws.{SaysMore}

-- Where the lines before say a, these have no fault, and with them b is said.
pub record Leads (label : List ℕ) (ls : List TextLine) (a b : Said) : Type 0 where
  pub fault : SaysMore → (before rest : List TextLine) → said label before ≡ a → first_fault label before (ls ++ rest) ≡ first_fault label (before ++ ls) rest
  pub said_is : SaysMore → (before : List TextLine) → said label before ≡ a → said label (before ++ ls) ≡ b

judged : (label : List ℕ) (before : List TextLine) (l : TextLine) → own_fault l ≡ None → is_comment l ≡ false → line_fault (said label before) l ≡ None → judge label before l ≡ None
unfolding judge
judged label before l e f g = rw (judge, e, f) g

goes_on : (label : List ℕ) (before : List TextLine) (l : TextLine) (ls : List TextLine) → judge label before l ≡ None → first_fault label before (l ∷ ls) ≡ first_fault label (before ++ l ∷ []) ls
unfolding first_fault
goes_on label before l ls e = ap (λ o. elim o [ Some fault ↦ Some fault | None ↦ first_fault label (before ++ l ∷ []) ls ]) e

pub leads_one : (label : List ℕ) (l : TextLine) (a b : Said) → own_fault l ≡ None → is_comment l ≡ false → line_fault a l ≡ None → with_line label a l ≡ b → Leads label (l ∷ []) a b
leads_one label l a b own comment calm step = record {
  fault = λ more before rest e. goes_on label before l rest (judged label before l own comment (ap (λ s. line_fault s l) e ∙ calm));
  said_is = λ more before e. more label before l comment (ap (λ s. line_fault s l) e ∙ calm) ∙ ap (λ s. with_line label s l) e ∙ step;
}

pub leads_none : (label : List ℕ) (a : Said) → Leads label [] a a
leads_none label a = record {
  fault = λ more before rest e. ap (λ ls. first_fault label ls rest) (sym (append-nil before));
  said_is = λ more before e. ap (said label) (append-nil before) ∙ e;
}

pub leads_both : (label : List ℕ) (ls ks : List TextLine) (a b c : Said) → Leads label ls a b → Leads label ks b c → Leads label (ls ++ ks) a c
leads_both label ls ks a b c x y = record {
  fault = λ more before rest e.
      ap (first_fault label before) (append_assoc ls ks rest) ∙ x.fault more before (ks ++ rest) e ∙ y.fault more (before ++ ls) rest (x.said_is more before e)
      ∙ ap (λ front. first_fault label front rest) (append_assoc before ls ks);
  said_is = λ more before e. ap (said label) (sym (append_assoc before ls ks)) ∙ y.said_is more (before ++ ls) (x.said_is more before e);
}
