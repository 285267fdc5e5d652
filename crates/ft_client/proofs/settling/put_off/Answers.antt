use Rattle.std.proofs.Common.{sym, ◌∙◌}
use Rattle.std.specs.Option.{option_map}
use Rattle.ft_client.specs.Ends.{body_of}
use Rattle.ft_client.proofs.Settled.{none_put_off, one_put_off}
use Rattle.ft_client.proofs.settling.put_off.Goals as goal

pub returns-in-Some-clause-kept : goal.returns-in-Some-clause-kept
returns-in-Some-clause-kept c = λ m same. c.leave.ensures ∙ one_put_off m.version m.client_id c.args.request_id c.in-Some.place (option_map body_of c.args.led) c.args.pending.now m.pending (sym c.place_sent.ensures ∙ c.in-Some.is) same

pub returns-in_default-clause-kept : goal.returns-in_default-clause-kept
returns-in_default-clause-kept c = λ m same. none_put_off m.version m.client_id c.args.request_id (option_map body_of c.args.led) c.args.pending.now m.pending (sym c.place_sent.ensures ∙ c.in_default.is) same
