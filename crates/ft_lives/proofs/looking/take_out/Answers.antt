use Rattle.std.proofs.Common.{nat_le, rules}
use Rattle.std.proofs.lemmas.Fn.{filter_same}
use Rattle.ft_lives.proofs.looking.take_out.Goals as goal

pub returns : goal.returns
returns c = filter_same _ (λ row. nat_le c.args.mark row.expiration) _ (λ x b f' k. search rules) _ _ c.retain.ensures.filtered
