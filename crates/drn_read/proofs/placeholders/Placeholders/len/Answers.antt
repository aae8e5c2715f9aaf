use Rattle.std.proofs.Common.{◌≡◌, rules, sym, ◌∙◌, ap, length}
use Rattle.drn_read.proofs.Pairing.{length-paired}
use Rattle.drn_read.proofs.placeholders.Placeholders.len.Goals as goal

pub returns : goal.returns
returns c =
    let e : c.len.result ≡ length c.self.inside.values.items = search rules in
    e ∙ sym (length-paired c.self.inside.names c.self.inside.values.items c.self.invariant.0) ∙ ap length c.self.view_is
