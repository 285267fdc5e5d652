use Rattle.corbaloc.proofs.Exits.{weaker}
use Rattle.corbaloc.proofs.Neither.{no_host}
use Rattle.corbaloc.proofs.host.split_host.Goals as goal

pub returns-in-None-clause-none : goal.returns-in-None-clause-none
unfolding lib.Utf8.encode
returns-in-None-clause-none c =
    weaker c.named.result (no_host c.args.text.now c.in-None.ensures.cases) c.named.ensures.none
