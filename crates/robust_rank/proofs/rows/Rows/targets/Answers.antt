use Rattle.std.proofs.Common.{◌∙◌, arith}
use Rattle.robust_rank.proofs.rows.Rows.targets.Goals as goal

pub place-requires : goal.place-requires
place-requires c =
    let laid = c.requires.links.laid in
    record {
      state = omega (arith, c.requires.row.state, laid.states);
      choice = omega (arith, c.requires.row.choice, laid.choices c.args.s c.requires.row.state);
    }

pub targets-requires : goal.targets-requires
targets-requires c = rw c.place.ensures (c.requires.links.laid.places c.args.s c.args.a c.requires.row).room

pub returns : goal.returns
returns c = (rw c.place.ensures at c.targets.ensures) ∙ (c.requires.links.laid.places c.args.s c.args.a c.requires.row).entries
