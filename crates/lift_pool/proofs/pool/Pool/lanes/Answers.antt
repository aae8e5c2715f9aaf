use Rattle.std.proofs.Common.{◌≡◌, length, ◌∙◌, ap, sym, rules}
use Rattle.lift_pool.proofs.Cutting.{length-cut}
use Rattle.lift_pool.proofs.pool.Pool.lanes.Goals as goal

pub returns : goal.returns
returns g c =
    let size : c.len.result ≡ length c.self.inside.ends.items = search rules in
    size ∙ sym (length-cut 0 c.self.inside.ends.items c.self.inside.block.items) ∙ ap (λ p. length p.lanes) c.self.view_is
