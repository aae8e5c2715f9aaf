use Rattle.std.proofs.Common.{rules, sym, ap}
use Rattle.drn_read.specs.RewardLines.{rewards_at}
use Rattle.drn_read.specs.Shown.{rest, left, BeginsOpen}
use Rattle.drn_read.proofs.FirstWords.{last_word}
use Rattle.drn_read.proofs.reward_words.state_rewards.Goals as goal

pub returns-in-Err : goal.returns-in-Err
returns-in-Err c =
    let quote : BeginsOpen (left c.args.words) = search rules in
    sym (ap rewards_at (last_word (rest c.args.words) quote))
