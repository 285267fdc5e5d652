use Rattle.std.proofs.Common.{refl}
use Rattle.ft_ends.proofs.Calling.{resent-is}
use Rattle.ft_ends.proofs.wire.resent.Goals as goal

pub returns : goal.returns
returns c tells m o stands linked held =
    resent-is tells c.args.client.now c.resend.new.self c.args.wire.now (record c.args.wire.now { up = record c.args.wire.now.up { octets = c.resend.new.out } }) m o stands linked held refl refl refl
    c.args.now (c.in_ok-resend.ensures.stands m stands) (c.in_ok-resend.ensures.out m stands)
