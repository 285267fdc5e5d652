use Rattle.std.proofs.Common.{◌≡◌, ◌⊎◌, ◌-◌, ◌≤◌, true, ℕ, None, length, take}
use Rattle.ft_orb.specs.Engines.{Rests, waits_in}
use Rattle.ft_orb.specs.Handovers.{ArePieces, octets_in}
use Rattle.ft_orb.specs.History.{line}
use Rattle.ft_orb.specs.Outputs.{is_going}
use Rattle.ft_orb.specs.Owners.{Owner}
use Rattle.ft_orb.specs.Parking.{AreParked, Stays, others_under}
use Rattle.ft_orb.specs.Sessions.{Attends, AttendsLate}
use Rattle.ft_orb.specs.Visits.{IsShortest, IsTakenTo}
use Rattle.ft_orb.proofs.attending.EngineHost.feed_whole.Given as goal

-- the octets so far were taken, and the owner's outcomes handed in
abbrev pub invariant-loop-taken : goal.invariant-loop-taken
invariant-loop-taken g l = record {
  within : l.taken ≤ length l.piece;
  idle : waits_in l.self ≡ None;
  parked : AreParked l.fn.self l.self;
  waiting : (q : ℕ) → others_under l.self l.connection q ≡ others_under l.fn.self l.connection q;
  late : AttendsLate (λ s held calls engine past waiting. Stays g.C.Catalogue.offers s held calls engine past waiting) l.connection (λ limits past events. ArePieces l.connection events × (octets_in events ≡ take l.taken l.piece)) (g.O.Performer.answered l.fn.owner) (g.O.Performer.answered l.owner) l.fn.self l.self;
  goes : Attends (λ (o : Owner). o) (g.O.Performer.answered l.fn.owner) (g.O.Performer.answered l.owner) (λ o calls past. Rests g.C.Catalogue.offers o calls l.fn.self past × (is_going o.limits (line past l.connection) ≡ true))
      (λ o calls past. IsTakenTo g.C.Catalogue.offers o calls past l.connection l.moment l.piece l.taken l.self l.fn.out.items l.out.items × ((l.taken ≡ length l.piece) ⊎ IsShortest o.limits past l.connection l.moment l.piece l.taken));
}

abbrev pub decreases-loop-taken : goal.decreases-loop-taken
decreases-loop-taken g l = length l.piece - l.taken
