use Rattle.std.proofs.Common.{refl}
use Rattle.ft_client.proofs.Placing.{skipped_stands}
use Rattle.ft_client.proofs.client.FtClient.skip_to.Goals as goal

pub returns-then-is_free : goal.returns-then-is_free
returns-then-is_free c = λ m st. skipped_stands c.args.self.now _ c.args.number m c.is_free.result c.is_free.ensures c.if-is_free.true st refl refl refl refl refl refl refl refl refl
