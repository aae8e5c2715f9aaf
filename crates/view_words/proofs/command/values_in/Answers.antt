use Rattle.std.proofs.Common.{List, [], map, ap, ◌∙◌}
use Rattle.std.specs.Prelude.{unwrap_or}
use Rattle.std.specs.Borrow.{Bor}
use Rattle.std.specs.declared.option.Option.{Option}
use Rattle.clap.specs.Words.{Text, found_of}
use Rattle.clap.proofs.WalkLemmas.{raw_values-rows}
use Rattle.view_words.proofs.Found.{copied}
use Rattle.view_words.proofs.command.values_in.Goals as goal

pub returns-in-Some : goal.returns-in-Some
returns-in-Some c = copied c.from_slice.result _ _ (c.in-Some.ensures ∙ raw_values-rows (found_of c.args.matches.now) c.args.id.now) c.from_slice.ensures.items

pub returns-in-None : goal.returns-in-None
returns-in-None c =
    ap (map (λ (v : Bor Text). v.now)) c.new.ensures.items
    ∙ ap (λ (o : Option (List Text)). unwrap_or o []) (c.in-None.ensures ∙ raw_values-rows (found_of c.args.matches.now) c.args.id.now)
