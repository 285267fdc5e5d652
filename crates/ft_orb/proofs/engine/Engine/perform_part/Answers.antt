use Rattle.std.proofs.Common.{Err, ap, take, ◌∙◌}
use Rattle.std.proofs.lemmas.Result.{err_from_is_err_and}
use Rattle.ft_orb.specs.declared.engine.Fed.{Fed}
use Rattle.ft_orb.specs.declared.events.Note.TheVariants.{Done}
use Rattle.ft_orb.specs.History.{Piece}
use Rattle.ft_orb.specs.Runs.{owner_by}
use Rattle.ft_orb.specs.Standing.{note_of}
use Rattle.ft_orb.proofs.Images.{calls_at, shown-rests}
use Rattle.ft_orb.proofs.Servants.{ends-shown, part-performed, part-unperformed}
use Rattle.ft_orb.proofs.engine.Engine.perform_part.Goals as goal

pub returns-in_err-feed-clause-table : goal.returns-in_err-feed-clause-table
returns-in_err-feed-clause-table g c made past st =
    let p = err_from_is_err_and c.from_residual.result c.from_residual.ensures.1 in
    let calls = calls_at g.S.Servant.meaning made past in
    let r = shown-rests g.S.Servant.meaning made c.args.self.now past c.requires.free c.requires.idle st in
    rw (p.1, p.2) (ends-shown g.S.Servant.meaning made calls past (Piece c.args.connection c.args.moment c.args.piece.now) (note_of {A = Fed} (Err c.in_err-feed.field-0.0)) c.feed.new.self c.args.out.now.items c.feed.new.out.items (ap (λ o. o.catalogue) c.feed.ensures.catalogue ∙ r.1)
    (c.in_err-feed.ensures.table (owner_by g.S.Servant.meaning made) calls past r.0))

pub returns-in-Whole-clause-table : goal.returns-in-Whole-clause-table
returns-in-Whole-clause-table g c made past st =
    let calls = calls_at g.S.Servant.meaning made past in
    let r = shown-rests g.S.Servant.meaning made c.args.self.now past c.requires.free c.requires.idle st in
    ends-shown g.S.Servant.meaning made calls past (Piece c.args.connection c.args.moment c.args.piece.now) Done c.feed.new.self c.args.out.now.items c.feed.new.out.items (ap (λ o. o.catalogue) c.feed.ensures.catalogue ∙ r.1)
    (rw c.in-Whole.is at (c.in_ok-feed.ensures.table (owner_by g.S.Servant.meaning made) calls past r.0))

pub returns-in_ok-handled-in-Asks-clause-table : goal.returns-in_ok-handled-in-Asks-clause-table
returns-in_ok-handled-in-Asks-clause-table g c made past st =
    let calls = calls_at g.S.Servant.meaning made past in
    let r = shown-rests g.S.Servant.meaning made c.args.self.now past c.requires.free c.requires.idle st in
    let s = rw c.in-Asks.is at (c.in_ok-feed.ensures.table (owner_by g.S.Servant.meaning made) calls past r.0) in
    let place = rw c.in-Asks.is at c.in_ok-feed.ensures.place in
    part-performed g.S.Servant.meaning made c.streams_are_heard.ensures.grows c.streams_are_heard.ensures.stays c.streams_are_heard.ensures.silent past c.args.connection c.args.moment calls c.args.piece.now c.in-Asks.taken c.in_ok-handled-in-Asks.handled c.feed.new.self c.perform_asked.new.self
    c.args.out.now.items c.feed.new.out.items c.perform_asked.new.out.items place.1 s
    (c.in_ok-handled-in-Asks.ensures.table made calls past c.args.moment (take c.in-Asks.taken c.args.piece.now) s.written (record { number = s.number; connection = c.args.connection; call = s.call; field = s.field; refused = s.refused }) s.asks (ap (λ o. o.catalogue) c.feed.ensures.catalogue ∙ r.1))

pub returns-in_err-handled-in-Asks-clause-table : goal.returns-in_err-handled-in-Asks-clause-table
returns-in_err-handled-in-Asks-clause-table g c made past st =
    let p = err_from_is_err_and c.from_residual-in_err-handled-in-Asks.result c.from_residual-in_err-handled-in-Asks.ensures.1 in
    let calls = calls_at g.S.Servant.meaning made past in
    let r = shown-rests g.S.Servant.meaning made c.args.self.now past c.requires.free c.requires.idle st in
    let s = rw c.in-Asks.is at (c.in_ok-feed.ensures.table (owner_by g.S.Servant.meaning made) calls past r.0) in
    let place = rw c.in-Asks.is at c.in_ok-feed.ensures.place in
    rw (p.1, p.2) (part-unperformed g.S.Servant.meaning made c.streams_are_heard.ensures.grows c.streams_are_heard.ensures.stays c.streams_are_heard.ensures.silent past c.args.connection c.args.moment calls c.args.piece.now c.in-Asks.taken c.in_err-handled-in-Asks.field-0.0 c.feed.new.self c.perform_asked.new.self
    c.args.out.now.items c.feed.new.out.items c.perform_asked.new.out.items place.1 s
    (c.in_err-handled-in-Asks.ensures.table made calls past c.args.moment (take c.in-Asks.taken c.args.piece.now) s.written (record { number = s.number; connection = c.args.connection; call = s.call; field = s.field; refused = s.refused }) s.asks (ap (λ o. o.catalogue) c.feed.ensures.catalogue ∙ r.1)))

-- a servant's outcomes are known: nothing repeats what is parked
pub returns-in-Repeats-clause-table : goal.returns-in-Repeats-clause-table
returns-in-Repeats-clause-table g c made past st =
    let r = shown-rests g.S.Servant.meaning made c.args.self.now past c.requires.free c.requires.idle st in
    absurd (rw c.in-Repeats.is at (c.in_ok-feed.ensures.table (owner_by g.S.Servant.meaning made) (calls_at g.S.Servant.meaning made past) past r.0))
