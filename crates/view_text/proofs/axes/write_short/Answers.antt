use Rattle.std.proofs.Common.{◌≡◌, ◌-◌, nat_le, false, length, rules, append-nil}
use Rattle.std.proofs.lemmas.List.{take_rest}
use Rattle.view_text.proofs.axes.write_short.Goals as goal

pub returns : goal.returns
returns g c =
    let name = c.args.name.now in
    let long : nat_le (length name) 24 ≡ false = search rules in
    rw long (rw (append-nil, take_rest name (length name - 12)) at c.write_words.ensures)
