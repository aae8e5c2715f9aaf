use Rattle.std.proofs.Common.{refl}
use Rattle.model_gen.proofs.Texts.{text_short}
use Rattle.model_gen.proofs.Whole.{ladder_read}
use Rattle.model_gen.proofs.Admission.{states_count, ladder_admitted, ladder_is_case, names_region}
use Rattle.model_gen.proofs.laws.ladders_are_cases.Goals as goal

pub returns-clause-short : goal.returns-clause-short
returns-clause-short c = text_short

pub returns-clause-reads : goal.returns-clause-reads
returns-clause-reads c = ladder_read c.lines_say_more.ensures

pub returns-clause-states : goal.returns-clause-states
returns-clause-states c = states_count

pub returns-clause-parameters : goal.returns-clause-parameters
returns-clause-parameters c = λ n. refl

pub returns-clause-admitted : goal.returns-clause-admitted
returns-clause-admitted c = ladder_admitted

pub returns-clause-case : goal.returns-clause-case
returns-clause-case c = ladder_is_case c.lines_say_more.ensures c.texts_are_valid.ensures

pub returns-clause-region : goal.returns-clause-region
returns-clause-region c = names_region
