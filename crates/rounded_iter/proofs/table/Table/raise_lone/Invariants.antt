use Rattle.rounded_iter.proofs.table.Table.raise_lone.Given as goal

abbrev pub ghost-enough_for_only : goal.ghost-enough_for_only
ghost-enough_for_only g a = g.run.spans

abbrev pub ghost-raise : goal.ghost-raise
ghost-raise g a = g.run

abbrev pub ghost-raise_rewarded : goal.ghost-raise_rewarded
ghost-raise_rewarded g a = g.run
