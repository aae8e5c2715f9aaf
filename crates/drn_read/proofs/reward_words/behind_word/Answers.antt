use Rattle.std.proofs.Common.{◌≡◌, rules, false, refl}
use Rattle.drn_read.specs.States.{begins_with}
use Rattle.drn_read.specs.Shown.{rest, left, BeginsOpen}
use Rattle.drn_read.specs.CostShown.{behind_word}
use Rattle.drn_read.proofs.FirstWords.{no_keyword}
use Rattle.drn_read.proofs.reward_words.behind_word.Goals as goal

pub returns-in-Err : goal.returns-in-Err
returns-in-Err c =
    let quote : BeginsOpen (left c.args.words) = search rules in
    let no : begins_with c.args.name.now (left c.args.words) ≡ false = no_keyword (rest c.args.words) c.args.name.now quote c.requires in
    rw (behind_word, no) refl
