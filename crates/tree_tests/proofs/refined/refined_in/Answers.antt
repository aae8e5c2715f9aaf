use Rattle.tree_tests.proofs.Cutting.{offered}
use Rattle.tree_tests.proofs.refined.refined_in.Goals as goal

pub refine-requires-clause-base : goal.refine-requires-clause-base
refine-requires-clause-base c =
    offered c.args.question.now.case.now c.args.question.now.from c.args.question.now.bound c.args.question.now.depth c.args.nodes.now c.requires.nodes
