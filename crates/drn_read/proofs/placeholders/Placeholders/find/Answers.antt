use Rattle.std.proofs.Common.{◌∙◌, ap}
use Rattle.std.specs.Option.{option_map}
use Rattle.std.specs.Str.{bytes_eq}
use Rattle.drn_read.proofs.Pairing.{value_at, no_value}
use Rattle.drn_read.proofs.placeholders.Placeholders.find.Goals as goal

pub returns-in_err-position : goal.returns-in_err-position
returns-in_err-position c =
    ap (option_map (λ value. value.now)) c.from_residual.ensures
    ∙ no_value (bytes_eq c.args.name.now) c.self.inside.names c.self.inside.values.items c.args.self.now c.self.invariant.0 c.self.view_is c.in_err-position.ensures.place

pub returns : goal.returns
returns c =
    value_at (bytes_eq c.args.name.now) c.self.inside.names c.self.inside.values.items c.args.self.now c.in_ok-position.position c.index.result.now c.self.invariant.0 c.self.view_is c.in_ok-position.ensures.place c.index.ensures
