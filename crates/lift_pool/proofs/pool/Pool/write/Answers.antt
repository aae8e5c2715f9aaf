use Rattle.std.proofs.Common.{◌≡◌, length, sym, ◌∙◌, ap}
use Rattle.lift_pool.proofs.pool.Pool.write.Goals as goal

pub copy_from_slice-requires : goal.copy_from_slice-requires
copy_from_slice-requires g c = ap length c.lane_mut.ensures.value ∙ sym c.requires.size

pub returns : goal.returns
returns g c = rw (c.copy_from_slice.ensures.after) (c.lanes_stand_alone.ensures.writes c.args.self.now c.args.i c.args.words.now c.requires.some c.requires.size)
