use Rattle.drn_read.proofs.Pairing.{one_more}
use Rattle.drn_read.proofs.placeholders.Placeholders.push.Goals as goal

pub invariant_of-self-in-Ok : goal.invariant_of-self-in-Ok
invariant_of-self-in-Ok c =
    let r = one_more _ _ _ _ _ _ _ _ c.self.invariant.0 c.self.view_is c.requires.room c.requires.new c.in-Ok.ensures.added c.in-Ok.ensures.after c.in_ok-push.ensures.items in
    (r.1, r.2)

pub returns-in-Ok : goal.returns-in-Ok
returns-in-Ok c =
    (one_more _ _ _ _ _ _ _ _ c.self.invariant.0 c.self.view_is c.requires.room c.requires.new c.in-Ok.ensures.added c.in-Ok.ensures.after c.in_ok-push.ensures.items).0
