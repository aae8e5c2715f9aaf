use Rattle.std.proofs.Common.{◌≡◌, ◌==◌, true, false, length, arith}
use Rattle.std.proofs.lemmas.Grind.{common_steps}
use Rattle.drn_read.proofs.Ends.{last_reported}
use Rattle.drn_read.proofs.last.test_last_state.Goals as goal

pub returns-in-len1-up : goal.returns-in-len1-up
returns-in-len1-up c =
    let none : (length c.last.inside.choices.items == 0) ≡ true = grind (arith, common_steps) in
    last_reported (λ row. row.items) _ _ _ _ _ c.last.inside.choices.items _ c.in-len1-up.len_at_least c.last-item.is c.last.view_is none

pub returns-in_default-2 : goal.returns-in_default-2
returns-in_default-2 c =
    let some : (length c.last.inside.choices.items == 0) ≡ false = grind (arith, common_steps) in
    last_reported (λ row. row.items) _ _ _ _ _ c.last.inside.choices.items _ c.in-len1-up.len_at_least c.last-item.is c.last.view_is some
