use Rattle.lower_cert.proofs.laws.premises.Goals as goal

pub returns : goal.returns
returns c =
    let corners = c.rows_at_corners.ensures in
    record { numbers = corners.numbers; parameters = corners.parameters; rise = corners.rise; most = corners.most; least = corners.least }
