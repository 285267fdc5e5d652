use Rattle.std.proofs.Common.{◌≡◌, ◌-◌, ◌≤◌, true, None, length}
use Rattle.ft_orb.specs.Handovers.{ArePieces, octets_in}
use Rattle.ft_orb.specs.History.{line}
use Rattle.ft_orb.specs.Outputs.{is_going}
use Rattle.ft_orb.specs.Sessions.{Attends, AttendsLate, HasRead, IsVisited, ServesRead, StayParked, StayWaiting}
use Rattle.ft_orb.specs.Wires.{DidSo}
use Rattle.ft_orb.proofs.hosting.serve_pieces.Given as goal

-- as many turns were there as reads
abbrev pub invariant-loop-reads : goal.invariant-loop-reads
invariant-loop-reads g l = record {
  within : l.reads ≤ l.max_reads;
  room : length l.room ≡ 4096;
  idle : g.H.Host.IsIdle l.host;
  parked : StayParked g.H.Host.parked_under g.H.Host.told_under l.fn.host l.host;
  waiting : StayWaiting g.H.Host.waiting_under l.connection l.fn.host l.host;
  cause : DidSo (HasRead l.reads None) (g.W.Wire.traffic l.fn.wire) (g.W.Wire.traffic l.wire);
  late : AttendsLate g.H.Host.HoldsLate l.connection (λ limits past events. ArePieces l.connection events × ServesRead None (octets_in events) (g.W.Wire.traffic l.fn.wire) (g.W.Wire.traffic l.wire)) (g.H.Host.answered l.fn.owner) (g.H.Host.answered l.owner) l.fn.host l.host;
  goes : Attends g.H.Host.as_owner (g.H.Host.answered l.fn.owner) (g.H.Host.answered l.owner) (λ w calls past. g.H.Host.Holds w calls l.fn.host past × (is_going (g.H.Host.as_owner w).limits (line past l.connection) ≡ true))
      (λ w calls past. IsVisited (g.H.Host.as_owner w) (g.H.Host.says w) past l.connection (g.W.Wire.traffic l.fn.wire) (g.C.Clock.given l.fn.clock) (g.H.Host.Holds w calls l.host) (g.W.Wire.traffic l.wire) (g.C.Clock.given l.clock) l.reads None);
}

abbrev pub decreases-loop-reads : goal.decreases-loop-reads
decreases-loop-reads g l = l.max_reads - l.reads
