use Rattle.digits.proofs.Runs.{read_whole}
use Rattle.digits.proofs.reading.decode.Goals as goal

pub returns-clause-read : goal.returns-clause-read
returns-clause-read c =
    read_whole c.args.digits.now c.read_pairs.result c.read_pairs.new.octets.items (rw c.in_ok-octets.ensures.items at c.read_pairs.ensures.read) c.if-read_pairs-digits.false
