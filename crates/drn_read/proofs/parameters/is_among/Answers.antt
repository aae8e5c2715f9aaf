use Rattle.std.proofs.Common.{◌∙◌, ap}
use Rattle.std.specs.Prelude.{is_some}
use Rattle.std.specs.Str.{bytes_eq}
use Rattle.drn_read.proofs.Pairing.{any_position}
use Rattle.drn_read.proofs.parameters.is_among.Goals as goal

pub returns : goal.returns
returns c = c.is_some.ensures ∙ ap is_some c.find.ensures.place ∙ any_position (bytes_eq c.args.name.now) c.args.names.now
