use Rattle.std.proofs.Common.{length}
use Rattle.ft_orb.specs.Handovers.{handed_in}
use Rattle.ft_orb.specs.Owners.{made_of, meaning_of}
use Rattle.ft_orb.proofs.Elsewhere.{known-before}
use Rattle.ft_orb.proofs.Said.{plays-act-now, servant-now}
use Rattle.ft_orb.proofs.attending.serve_engine.Goals as goal

pub returns-clause-table : goal.returns-clause-table
returns-clause-table g c =
    let x = c.serve_host.ensures.table in (
      x.log,
      x.said,
      λ o calls past rests going agrees.
          let y = x.so o calls past (rests, going) agrees in
          let a = y.1 in
          (y.0, a.0, a.1, a.2, a.3, a.4, a.5, a.6, a.7, a.8, a.9, a.10),
    )

pub returns-clause-now : goal.returns-clause-now
returns-clause-now g c =
    let v = returns-clause-table g c in (
      v.0,
      v.1,
      λ o calls past rests going agrees.
          let x = v.2 o calls past rests going agrees in
          (x.0, x.1, x.2, x.3, plays-act-now (meaning_of o) (made_of o) past _ _ x.3, x.4, x.5, x.6, x.7, x.8, x.9, servant-now (meaning_of o) (made_of o) _ _ x.9.stands, x.10, x.11),
    )

pub returns-clause-late : goal.returns-clause-late
returns-clause-late g c =
    let x = c.serve_host.ensures.late in (
      x.log,
      x.said,
      λ s held calls past waiting h.
          let y = x.so s held calls past waiting h in
          record { handed = y.handed; before = known-before (length calls) (handed_in x.log) held; events = y.events; on = y.served.0; given = y.served.1; stays = y.stay },
    )
