-- Texts of a case that begin with a head, piece by piece.
use Rattle.std.proofs.Common.{◌≡◌, ◌+◌, ℕ, List, [], ◌∷◌, ◌++◌, refl, sym, ap, ap₂, ◌∙◌, subst, arith, Option, Result, Ok, Err, IsErr, IsErrAnd, append-nil}
use Rattle.std.specs.List.{concat}
use Rattle.std.specs.Io.KnownBytes.{Appends}
use Rattle.std.proofs.KnownBytes.{Appends-trans}
use Rattle.std.proofs.lemmas.List.Folds.{concat-append}
use Rattle.lift_base.specs.Outside.{Rose, AppendsFront, Wrote, WroteSome}
use Rattle.lift_model.specs.Model.{ModelData}
use Rattle.corner_lift.specs.Case.{CaseData}
use Rattle.cert_text.specs.Report.{model_lines, from_lines, scale_lines, region_lines, box_line}
use Rattle.plift_top.specs.Heads.{IsHeaded, precision_line, fineness_lines, head_of}
use Rattle.plift_top.specs.Steps.{WritesText}
use Rattle.plift_top.specs.declared.refusal.Refusal.{Refusal}
use Rattle.plift_top.specs.declared.refusal.Refusal.TheVariants as refusal
use Rattle.plift_top.proofs.Errors.{at_error}
use Rattle.plift_top.proofs.Telling.{front_then, front_of}

-- the parts of a head, one after the other
pub head_parts : (first : List ℕ) (k : CaseData) (from : Option ℕ) (asked : List (List ℕ)) (m : ModelData) → m ≡ k.model
    → concat (head_of first k from asked) ≡ first ++ (concat (model_lines m) ++ (concat asked ++ concat (fineness_lines k from)))
head_parts first k from asked m e =
    ap (λ (rest : List ℕ). first ++ rest)
    (concat-append (model_lines k.model) (asked ++ fineness_lines k from)
    ∙ ap₂ (λ (head rest : List ℕ). head ++ rest) (ap (λ (n : ModelData). concat (model_lines n)) (sym e)) (concat-append asked (fineness_lines k from)))

-- and those of its end
pub fineness_parts : (k : CaseData) (from : Option ℕ) → concat (fineness_lines k from) ≡ precision_line k ++ (concat (from_lines from) ++ (concat (scale_lines k) ++ box_line k.root))
fineness_parts k from =
    ap (λ (rest : List ℕ). precision_line k ++ rest)
    (concat-append (from_lines from) (region_lines k)
    ∙ ap (λ (rest : List ℕ). concat (from_lines from) ++ rest)
    (concat-append (scale_lines k) (box_line k.root ∷ []) ∙ ap (λ (rest : List ℕ). concat (scale_lines k) ++ rest) (append-nil (box_line k.root))))

module _ {K : Type 0} (head : List ℕ) (IsNodes : List ℕ → Type 0) (taken : K → Option (List ℕ)) (faults : K → ℕ) where
  abbrev IsText : List ℕ → Type 0
  IsText = IsHeaded head IsNodes

  -- a text, by its nodes
  by_nodes : (P : List ℕ → Type 0) (bytes : List ℕ) → ((nodes : List ℕ) → IsNodes nodes → P (head ++ nodes)) → IsText bytes → P bytes
  by_nodes P bytes f (nodes, is, e) = subst P (sym e) (f nodes is)

  -- the head failed
  pub head_failed : {T E U F : Type 0} (old new : K) (e : E) (result : Result U F) → IsErr result → Wrote {T = T} taken faults old new (Err e) head → WroteSome IsText taken faults old new result
  head_failed old new e (Ok x) bad w = absurd (cc)
  head_failed old new e (Err f) bad w = record {
    some = tt;
    whole = tt;
    part = λ bytes. by_nodes (AppendsFront (taken old) (taken new)) bytes (λ nodes is. front_of (taken old) (taken new) head nodes w.part);
    cause = w.cause;
    later = w.later;
  }

  -- the head was written, and the nodes as the result says
  pub nodes_reported : {T E U F : Type 0} (old mid new : K) (x : T) (result : Result U F) → Wrote {E = E} taken faults old mid (Ok x) head → WroteSome IsNodes taken faults mid new result → WroteSome IsText taken faults old new result
  nodes_reported old mid new x (Ok y) w nodes = record {
    some = (let n = nodes.some in (head ++ n.0, (n.0, n.1, refl)));
    whole = λ bytes. by_nodes (Appends (taken old) (taken new)) bytes (λ rest is. Appends-trans (taken old) (taken mid) (taken new) head rest w.whole (nodes.whole rest is));
    part = tt;
    cause = tt;
    later = omega (arith, w.later, nodes.later);
  }
  nodes_reported old mid new x (Err f) w nodes = record {
    some = tt;
    whole = tt;
    part = λ bytes. by_nodes (AppendsFront (taken old) (taken new)) bytes (λ rest is. front_then (taken old) (taken mid) (taken new) head rest w.whole (nodes.part rest is));
    cause = subst (λ n. Rose n (faults new)) w.calm nodes.cause;
    later = omega (arith, w.later, nodes.later);
  }

-- a front of a text was written
pub text_cut : {K T U E : Type 0} (IsText : List ℕ → Type 0) (taken : K → Option (List ℕ)) (counts : K → ℕ) (out out' : K) (fault : E) (result : Result U Refusal) → IsErrAnd result (λ e. e ≡ refusal.WriteFault)
    → WroteSome {T = T} IsText taken counts out out' (Err fault) → WritesText taken counts IsText out out' result
text_cut IsText taken counts out out' fault result is w = at_error (WritesText taken counts IsText out out') refusal.WriteFault result is (w.part, w.cause)
