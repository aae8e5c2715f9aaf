use Rattle.std.proofs.Common.{◌≡◌, length, [], ◌∷◌, rules}
use Rattle.drn_read.specs.Keeping.{with_transitions}
use Rattle.drn_read.proofs.LastOnes.{ends_ok}
use Rattle.drn_read.proofs.model_lines.push_transition.Goals as goal

pub returns-clause-ok : goal.returns-clause-ok
returns-clause-ok c =
    let len : c.len-last.result ≡ length c.args.states.now.items = search rules in
    ends_ok _ (with_transitions (c.args.transition ∷ [])) c.args.states.now.items c.len-last.result c.add_transition.new.self _ c.requires len c.index_mut.ensures.value c.add_transition.ensures.ok
