use Rattle.std.proofs.Common.{refl, w32, to_z, of_z}
use Rattle.std.proofs.lemmas.Int.{to_z-of_z}
use Rattle.ft_ends.proofs.Calling.{recalled-is}
use Rattle.ft_ends.proofs.wire.cancelled.Goals as goal

pub returns : goal.returns
returns c tells m o stands linked held =
    recalled-is tells c.args.client.now c.cancel.new.self c.args.wire.now (record c.args.wire.now { up = record c.args.wire.now.up { octets = c.cancel.new.out } }) m o stands linked held refl refl refl
    (to_z w32 (of_z w32 c.args.id)) c.args.id (to_z-of_z w32 c.args.id c.ranges.id) (c.in_ok-cancel.ensures.stands m stands) (c.in_ok-cancel.ensures.out m stands)
