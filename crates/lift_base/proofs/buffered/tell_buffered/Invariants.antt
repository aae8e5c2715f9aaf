use Rattle.lift_base.proofs.buffered.tell_buffered.Given as goal

-- the buffer begins with what the sink has taken at the call
abbrev pub ghosts-tell_from : goal.ghosts-tell_from
ghosts-tell_from g a = record { taken = g.K.Sink.taken a.out.now; reference = a.out.ghost_name }
