use Rattle.std.proofs.Common.{◌≡◌, ◌<◌, ◌+◌, ◌-◌, length, List, [], ◌∷◌, refl, arith, ap, ◌∙◌}
use Rattle.std.specs.Prelude.{OnErr, Result, Ok, Err}
use Rattle.std.specs.declared.alloc.AllocError.{AllocError}
use Rattle.std.specs.Global.{Vec}
use Rattle.std.specs.Vec.{vec_len}
use Rattle.drn_read.specs.States.{StateText}
use Rattle.drn_read.specs.Keeping.{with_transitions}
use Rattle.drn_read.specs.declared.state.Transition.{Transition}
use Rattle.drn_read.proofs.LastOnes.{row_pushed, set_same}
use Rattle.drn_read.proofs.state.State.add_transition.Goals as goal

pub returns-in_err-push-in-Some-clause-err : goal.returns-in_err-push-in-Some-clause-err
returns-in_err-push-in-Some-clause-err c =
    let some : 0 < vec_len c.self.inside.choices = c.in-Some.ensures.variant.0 refl in
    let n : vec_len c.self.inside.choices - 1 + 1 ≡ length c.self.inside.choices.items = omega (arith, some, c.self.inside.choices.ok.0) in
    let rows = set_same (λ (row : Vec Transition). row.items) c.self.inside.choices.items _ _ _ n c.in-Some.ensures.value c.in_err-push-in-Some.ensures.items in
    let state : List (List Transition) → StateText = λ choices. record { line = c.self.inside.line; init = c.self.inside.init; goal = c.self.inside.goal; choices = choices } in
    by_result c.from_residual.result (ap state rows ∙ c.self.view_is)
  where
    by_result : {P : Type 0} → (r : Result (Unit {0}) AllocError) → P → OnErr r P
    by_result (Ok x) p = tt
    by_result (Err x) p = p

pub returns-in_ok-push-in-Some-clause-ok : goal.returns-in_ok-push-in-Some-clause-ok
returns-in_ok-push-in-Some-clause-ok c =
    let some : 0 < vec_len c.self.inside.choices = c.in-Some.ensures.variant.0 refl in
    let n : vec_len c.self.inside.choices - 1 + 1 ≡ length c.self.inside.choices.items = omega (arith, some, c.self.inside.choices.ok.0) in
    let rows = row_pushed (λ (row : Vec Transition). row.items) (c.args.transition ∷ []) c.self.inside.choices.items _ _ _ n c.in-Some.ensures.value c.in_ok-push-in-Some.ensures.items in
    let state : List (List Transition) → StateText = λ choices. record { line = c.self.inside.line; init = c.self.inside.init; goal = c.self.inside.goal; choices = choices } in
    ap state rows ∙ ap (with_transitions (c.args.transition ∷ [])) c.self.view_is
