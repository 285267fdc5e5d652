use Rattle.std.proofs.Common.{count_by, length, take, ◌-◌, ◌≡◌, ◌≤◌}
use Rattle.giop_link.specs.Hearing.{heard}
use Rattle.giop_link.specs.Linking.{LinkStands}
use Rattle.uses.specs.Hearing.{is_request}
use Rattle.uses.proofs.hearing.requests_heard.Given as goal

-- the link stands for the octets that were taken, and the requests in them are counted
abbrev pub invariant-loop-taken : goal.invariant-loop-taken
invariant-loop-taken l = record {
  within : l.taken ≤ length l.octets;
  few : l.requests ≤ l.taken;
  stands : LinkStands l.fn.limits l.link (take l.taken l.octets);
  count : l.requests ≡ count_by is_request (heard l.fn.limits (take l.taken l.octets));
}

-- at least one octet is taken each time
abbrev pub decreases-loop-taken : goal.decreases-loop-taken
decreases-loop-taken l = length l.octets - l.taken
