use Rattle.view_top.proofs.program.run.Goals as goal

pub returns : goal.returns
returns g c = record {
  answer = c.act-answer.result;
  between = c.act-answer.new.notes;
  acts = rw c.deref.ensures.value at c.act-answer.ensures.acts;
  status = c.end.ensures.status;
  first = rw c.deref.ensures.value at c.act-answer.ensures.first;
  noted = c.end.ensures.noted;
}
