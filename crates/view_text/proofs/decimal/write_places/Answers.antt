use Rattle.view_text.proofs.decimal.write_places.Goals as goal

pub returns-in-Nine : goal.returns-in-Nine
returns-in-Nine g c = rw c.in-Nine.is c.write_nine.ensures
