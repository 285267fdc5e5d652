use Rattle.std.proofs.Common.{inl, inr, refl}
use Rattle.ft_orb.specs.declared.events.Note.TheVariants.{Done, Memory}
use Rattle.ft_orb.specs.History.{line}
use Rattle.ft_orb.specs.Runs.{owner_by}
use Rattle.ft_orb.proofs.Elsewhere.{late-alone}
use Rattle.ft_orb.proofs.Handing.{attends-none}
use Rattle.ft_orb.proofs.Streams.{refused-gone}
use Rattle.ft_orb.proofs.streaming.ServerHostUnit.feed_whole.Goals as goal

pub returns-in-Ok-clause-table : goal.returns-in-Ok-clause-table
returns-in-Ok-clause-table g c = attends-none (owner_by g.S.Servant.meaning) _ (λ made calls past x. (Done, refl, c.in-Ok.ensures.table made past x.0))

pub returns-in-Err-NoConnection-clause-table : goal.returns-in-Err-NoConnection-clause-table
returns-in-Err-NoConnection-clause-table g c =
    attends-none (owner_by g.S.Servant.meaning) _ (λ made calls past x. absurd (refused-gone made.limits (line past c.args.connection) x.1 (rw c.in-Err-NoConnection.field-0-is at (c.in-Err-NoConnection.ensures.table made past x.0).2).1))

pub returns-in-Err-Memory-clause-table : goal.returns-in-Err-Memory-clause-table
returns-in-Err-Memory-clause-table g c =
    attends-none (owner_by g.S.Servant.meaning) _ (λ made calls past x. (Memory c.in-Err-Memory.field-0-0 c.in-Err-Memory.field-0-1, refl, rw c.in-Err-Memory.field-0-is at (c.in-Err-Memory.ensures.table made past x.0)))

pub returns-in-Ok-clause-late : goal.returns-in-Ok-clause-late
returns-in-Ok-clause-late g c = late-alone _ c.args.connection _ _ c.args.self.now c.feed.new.self (λ s held calls past waiting x. absurd x)

pub returns-in-Err-NoConnection-clause-late : goal.returns-in-Err-NoConnection-clause-late
returns-in-Err-NoConnection-clause-late g c = late-alone _ c.args.connection _ _ c.args.self.now c.feed.new.self (λ s held calls past waiting x. absurd x)

pub returns-in-Err-Memory-clause-late : goal.returns-in-Err-Memory-clause-late
returns-in-Err-Memory-clause-late g c = late-alone _ c.args.connection _ _ c.args.self.now c.feed.new.self (λ s held calls past waiting x. absurd x)

pub returns-in-Err-NoConnection-clause-cut : goal.returns-in-Err-NoConnection-clause-cut
returns-in-Err-NoConnection-clause-cut g c = inl refl

pub returns-in-Err-Memory-clause-cut : goal.returns-in-Err-Memory-clause-cut
returns-in-Err-Memory-clause-cut g c = inr refl
