use Rattle.lift_base.proofs.buffered.write_buffered.Given as goal

-- the buffer begins with what the sink has taken at the call
abbrev pub ghosts-write_from : goal.ghosts-write_from
ghosts-write_from g a = record { taken = g.K.Sink.taken a.out.now; reference = a.out.ghost_name }
