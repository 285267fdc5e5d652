use Rattle.giop_core.proofs.OctetsBody.{body_length, body_read, body_writable}
use Rattle.giop_core.proofs.laws.octets_bodies.Goals as goal

pub returns-clause-read : goal.returns-clause-read
returns-clause-read c = body_read

pub returns-clause-long : goal.returns-clause-long
returns-clause-long c = body_length

pub returns-clause-writable : goal.returns-clause-writable
returns-clause-writable c = body_writable
