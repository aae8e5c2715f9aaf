use Rattle.std.proofs.Common.{[], sym, get_or}
use Rattle.std.specs.Str.{bytes_eq}
use Rattle.std.proofs.lemmas.List.Quantifiers.{position-Some}
use Rattle.std.proofs.lemmas.Slice.Eq.{bytes_eq-Decides}
use Rattle.lift_lump.proofs.texts.place_of.Goals as goal

pub returns-in-Some-clause-there : goal.returns-in-Some-clause-there
returns-in-Some-clause-there c =
    let texts = c.args.texts.now in
    let text = c.args.text.now in
    let place = c.in-Some.place in
    sym ((bytes_eq-Decides text (get_or texts place [])).0 (position-Some (bytes_eq text) texts place [] (sym c.in-Some.ensures.place)).1)
