use Rattle.std.proofs.Common.{◌≡◌, None, take}
use Rattle.ft_orb.specs.Deeds.{Ledger}
use Rattle.ft_orb.specs.DeedsPlayed.{Holds}
use Rattle.ft_orb.specs.Parking.{Settings}
use Rattle.ft_orb.proofs.Acting.{AreDone}
use Rattle.ft_orb.proofs.deeds.play_deeds.Given as goal

-- the deeds so far are a run
abbrev pub invariant-loop-i : goal.invariant-loop-i
invariant-loop-i g l = record {
  run : (s : Settings) (h : Ledger) → Holds g.C.Catalogue.offers s h l.fn.engine → AreDone g.C.Catalogue.offers s h (take l.i l.deeds) None l.engine l.fn.out.items l.out.items;
  catalogue : l.engine.offering ≡ l.fn.engine.offering;
}
