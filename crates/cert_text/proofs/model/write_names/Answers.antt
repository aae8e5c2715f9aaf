use Rattle.std.proofs.Common.{◌∷◌}
use Prim.Native.Char.{code}
use Rattle.cert_text.proofs.Lines.{flat_next}
use Rattle.cert_text.proofs.model.write_names.Goals as goal

pub returns-in_err-write_name : goal.returns-in_err-write_name
returns-in_err-write_name g c = c.writes_in_turn.ensures.stops _ _ _ _ _ _ _ _ _ c.from_residual.ensures.0 c.loop-place.invariant (flat_next (λ name. code " " ∷ name) c.args.names.now c.loop-place.place _ c.get.ensures) c.in_err-write_name.ensures

pub loop-place-preserved : goal.loop-place-preserved
loop-place-preserved g c = c.writes_in_turn.ensures.next _ _ _ _ _ _ _ c.loop-place.invariant (flat_next (λ name. code " " ∷ name) c.args.names.now c.loop-place.place _ c.get.ensures) c.in_ok-write_name.ensures
