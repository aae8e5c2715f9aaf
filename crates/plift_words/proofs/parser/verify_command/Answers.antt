use Rattle.std.proofs.Common.{codes}
use Rattle.plift_words.specs.Parser.{verify_app}
use Rattle.plift_words.proofs.Rules.{with_more, with_last}
use Rattle.plift_words.proofs.parser.verify_command.Goals as goal

pub returns : goal.returns
unfolding verify_app
returns c =
    let goal = with_more _ _ _ (codes "goal") c.in_ok-command.ensures c.new-command.ensures.app in
    let bound = with_more _ _ _ (codes "bound") c.in_ok-command-2.ensures goal in
    let region = with_more _ _ _ (codes "region") c.in_ok-command-3.ensures bound in
    let depth = with_more _ _ _ (codes "depth") c.in_ok-command-4.ensures region in
    let precision = with_more _ _ _ (codes "precision") c.in_ok-command-5.ensures depth in
    let steps = with_more _ _ _ (codes "steps") c.in_ok-command-6.ensures precision in
    let from = with_more _ _ _ (codes "from") c.in_ok-command-7.ensures steps in
    let formula = with_more _ _ _ (codes "formula") c.in_ok-command-8.ensures from in
    let reward = with_more _ _ _ (codes "reward") c.in_ok-command-9.ensures formula in
    let budget = with_more _ _ _ (codes "budget") c.in_ok-command-10.ensures reward in
    with_last _ _ (codes "cap") c.with_option-11.result c.with_option-11.ensures budget
