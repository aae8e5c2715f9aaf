use Rattle.property_text.proofs.Planning.{memoryless_is_a_plan, memoryless_reaches_as_a_plan, models_have_states}
use Rattle.property_text.proofs.laws.memoryless_is_a_plan.Goals as goal

pub returns : goal.returns
returns c = record { until = memoryless_is_a_plan; reach = memoryless_reaches_as_a_plan; models = models_have_states }
