-- How models are read with the costs of a reward: what is kept of a line, and what its end gives.
use Rattle.std.proofs.Common.{◌≡◌, ℕ, Bool, true, false, refl, List, [], ◌∷◌, ◌++◌, sym, ◌∙◌, ap, Option, Some, None, Err}
use Rattle.drn_lexer.specs.Lines.{TextLine, lines, is_comment, own_fault}
use Rattle.drn_lexer.specs.declared.error.LexError.{LexError}
use Rattle.drn_read.specs.Judging.{Said}
use Rattle.drn_read.specs.Reading.{said, last_number, end_fault, ended, drn}
use Rattle.drn_read.specs.Costs.{Asked, CostSaid, cost_said, cost_line_fault, judge_costs, first_cost_fault, cost_ended, drn_costs}
use Rattle.drn_read.specs.CostKeeping.{with_cost_line}
use Rattle.drn_read.specs.declared.error.DrnError.{DrnError}
use Rattle.drn_read.proofs.FirstFault.{Semantics, or_else, judged}
use Rattle.drn_read.proofs.CostGrowth.{cost_grows, cost_skips}
use Rattle.drn_read.proofs.CostSame.{none_before}
use Rattle.drn_read.proofs.Loop.{AllRead}
use Rattle.drn_read.proofs.Running.{without_fault}

pub no_fault : (asked : Asked) (before : List TextLine) → first_cost_fault asked before [] ≡ None
unfolding first_cost_fault
no_fault asked before = refl

pub or_behind : (asked : Asked) (before : List TextLine) (l : TextLine) (ls : List TextLine)
    → first_cost_fault asked before (l ∷ ls) ≡ or_else (first_cost_fault asked (before ++ l ∷ []) ls) (judge_costs asked before l)
unfolding first_cost_fault or_else
or_behind asked before l ls = refl

pub judges : (asked : Asked) (before : List TextLine) (l : TextLine) (own : Option LexError) (comment : Bool) → own_fault l ≡ own → is_comment l ≡ comment
    → judge_costs asked before l ≡ judged l.number (cost_line_fault (cost_said asked before) l) own comment
unfolding judge_costs judged
judges asked before l (Some fault) comment e f = rw (judge_costs, e) refl
judges asked before l None true e f = rw (judge_costs, e, f) refl
judges asked before l None false e f = rw (judge_costs, e, f) refl

-- a model with the costs that are asked for
abbrev pub costed : Asked → Semantics CostSaid
costed asked = record {
  said = cost_said asked;
  line_fault = cost_line_fault;
  with_line = with_cost_line asked.label;
  judge = judge_costs asked;
  first_fault = first_cost_fault asked;
  no_fault = no_fault asked;
  or_behind = or_behind asked;
  judges = judges asked;
  grows = cost_grows asked;
  skips = cost_skips asked;
}

-- ---- the end of a text

pub at_fault : (asked : Asked) (text : List ℕ) (fault : DrnError) → first_cost_fault asked [] (lines text) ≡ Some fault → drn_costs text asked ≡ Err fault
unfolding drn_costs
at_fault asked text fault e = rw (drn_costs, e) refl

costs_without_fault : (asked : Asked) (text : List ℕ) → first_cost_fault asked [] (lines text) ≡ None → drn_costs text asked ≡ cost_ended (last_number (lines text)) (cost_said asked (lines text))
unfolding drn_costs end_fault
costs_without_fault asked text e = rw (drn_costs, e) refl

-- the same model is read without the costs
pub record AtEnd (asked : Asked) (text : List ℕ) (number : ℕ) (kept : CostSaid) : Type 0 where
  pub costs : drn_costs text asked ≡ cost_ended number kept
  pub model : drn text asked.label ≡ ended number kept.said

said_of : (asked : Asked) (ls : List TextLine) → (cost_said asked ls).said ≡ said asked.label ls
unfolding cost_said
said_of asked ls = refl

pub all_read : (asked : Asked) (text : List ℕ) (number : ℕ) (kept : CostSaid) → AllRead (costed asked) text number kept → AtEnd asked text number kept
all_read asked text number kept r =
    let same : kept.said ≡ said asked.label (lines text) = ap (λ (k : CostSaid). k.said) r.said_is ∙ said_of asked (lines text) in
    record {
      costs = costs_without_fault asked text r.fault ∙ ap (λ n. cost_ended n (cost_said asked (lines text))) r.last ∙ ap (cost_ended number) (sym r.said_is);
      model = without_fault asked.label text (none_before asked [] (lines text) r.fault) ∙ ap (λ n. ended n (said asked.label (lines text))) r.last ∙ ap (λ (s : Said). ended number s) (sym same);
    }
