use Rattle.lower_cert.specs.Premises.{Premises}
use Rattle.region_tree.proofs.Axes.{split_axes_exist}
use Rattle.region_tree.proofs.Lowers.{greatest_lowers_exist}
use Rattle.region_tree.proofs.Staged.{stages_exist}
use Rattle.region_tree.proofs.Uppers.{least_uppers_exist}
use Rattle.region_tree.proofs.laws.certificates_exist.Goals as goal

pub returns : goal.returns
returns c =
    let corners = c.rows_at_corners.ensures in
    let laws : Premises = record { numbers = corners.numbers; parameters = corners.parameters; rise = corners.rise; most = corners.most; least = corners.least } in
    let ranks = c.ranks_go_by_stages.ensures in
    let lowered = c.vectors_are_lowered.ensures in
    record {
      least = λ k spans is inside. least_uppers_exist laws k spans is inside;
      greatest = λ k spans is inside. greatest_lowers_exist laws lowered.keeps lowered.stuck lowered.greatest (stages_exist ranks.start ranks.next ranks.end ranks.test) k spans is inside;
      axis = λ k spans depth is inside left. split_axes_exist c.live_parameters_have_spans.ensures k spans depth is inside left;
    }
