use Rattle.std.proofs.Common.{◌-◌, arith}
use Rattle.cdr_core.specs.Numbers.{digits_of}
use Rattle.giop_proxy.proofs.Requesting.{principal-at}
use Rattle.giop_proxy.proofs.fields.put_principal.Goals as goal

pub returns-clause-ok : goal.returns-clause-ok
returns-clause-ok c =
    let a = c.args in
    principal-at a.size (c.len-end.result - 4) a.out.now.items c.zeros-octets.result.now c.extend_from_slice.new.self.items (digits_of a.order 4 a.size) c.put_ulong_at.new.out.items (omega (arith, c.len-end.ensures, a.out.now.ok.0)) c.requires.some c.zeros-octets.ensures c.in_ok-extend_from_slice.ensures.items c.put_ulong_at.ensures
