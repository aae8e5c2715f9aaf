use Rattle.rounded_iter.proofs.table.Table.rise_from_guess.Given as goal

abbrev pub ghost-confirm : goal.ghost-confirm
ghost-confirm g a = g.spans

abbrev pub ghost-confirm_all : goal.ghost-confirm_all
ghost-confirm_all g a = g.spans

abbrev pub ghost-guess_enough : goal.ghost-guess_enough
ghost-guess_enough g a = g.spans
