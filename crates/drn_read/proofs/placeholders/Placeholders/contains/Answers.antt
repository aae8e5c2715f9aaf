use Rattle.std.proofs.Common.{sym, ◌∙◌, ap}
use Rattle.std.specs.Prelude.{is_some}
use Rattle.std.specs.List.{list_any}
use Rattle.std.specs.Str.{bytes_eq}
use Rattle.drn_read.proofs.Pairing.{any_position, any-paired}
use Rattle.drn_read.proofs.placeholders.Placeholders.contains.Goals as goal

pub returns : goal.returns
returns c =
    c.is_some.ensures ∙ ap is_some c.find.ensures.place ∙ any_position (bytes_eq c.args.name.now) c.self.inside.names
    ∙ sym (any-paired (bytes_eq c.args.name.now) c.self.inside.names c.self.inside.values.items c.self.invariant.0) ∙ ap (list_any (λ place. bytes_eq c.args.name.now place.name)) c.self.view_is
