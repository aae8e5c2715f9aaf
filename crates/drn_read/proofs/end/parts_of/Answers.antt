use Rattle.std.proofs.Common.{◌≡◌, ℕ, List, Err, ap, map, sym, ◌∙◌, rules}
use Rattle.lift_frac.specs.Parts.{capped}
use Rattle.lift_model.specs.Valid.{common_limit}
use Rattle.drn_read.specs.States.{StateText}
use Rattle.drn_read.specs.Reading.{common, entry}
use Rattle.drn_read.proofs.Ends.{capped_some, last_fault}
use Rattle.drn_read.proofs.end.parts_of.Goals as goal

pub returns-in_err-rows-clause-fault : goal.returns-in_err-rows-clause-fault
returns-in_err-rows-clause-fault c =
    let e : c.from_residual-in_err-rows.result ≡ Err c.in_err-rows.field-0.0 = search rules in
    let least = c.in-Some.ensures ∙ ap (λ (states : List StateText). capped common_limit (common states)) c.deref.ensures.value in
    rw e (λ safe. sym (last_fault c.args.states.items c.in-Some.common least) ∙ c.in_err-rows.ensures.fault safe)

pub returns-clause-fault : goal.returns-clause-fault
returns-clause-fault c =
    let least = c.in-Some.ensures ∙ ap (λ (states : List StateText). capped common_limit (common states)) c.deref.ensures.value in
    sym (last_fault c.args.states.items c.in-Some.common least) ∙ c.in_ok-rows.ensures.fault

pub returns-clause-rows : goal.returns-clause-rows
returns-clause-rows c =
    let least = c.in-Some.ensures ∙ ap (λ (states : List StateText). capped common_limit (common states)) c.deref.ensures.value in
    c.in_ok-rows.ensures.rows ∙ ap (λ (n : ℕ). map (λ (s : StateText). map (map (entry n)) s.choices) c.args.states.items) (capped_some common_limit (common c.args.states.items) c.in-Some.common least).0
