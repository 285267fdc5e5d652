use Rattle.std.proofs.Common.{true}
use Rattle.ft_log.specs.View.{key_of}
use Rattle.ft_lives.specs.declared.store.Commit.TheVariants as commit
use Rattle.ft_lives.proofs.Tried.{again-doubtful, again-sure, again-waits, commit-along, far-waits, told-done, told-failed, told-held, told-over, told-unknown}
use Rattle.ft_lives.proofs.steps.try_once.Goals as goal

pub returns-in-Over-clause-told : goal.returns-in-Over-clause-told
returns-in-Over-clause-told g c = λ old a. told-unknown g.S.Store.apply _ _ c.args.doubtful old _ (far-waits g.S.Store.apply _ _ c.args.doubtful old _ _ a c.in-Over.ensures.waits)

pub returns-in-Over-2-clause-told : goal.returns-in-Over-2-clause-told
returns-in-Over-2-clause-told g c = λ old a. told-over g.S.Store.apply _ _ c.args.doubtful old _ _ c.if-doubtful.false a c.in-Over.ensures.waits c.in-Over.ensures.found

pub returns-in-Held-clause-told : goal.returns-in-Held-clause-told
returns-in-Held-clause-told g c = λ old a. told-held g.S.Store.apply _ _ c.args.doubtful old _ _ c.in-Held.outcome a c.in-Held.ensures.waits c.in-Held.ensures.found.1

pub returns-in-Silent-clause-again : goal.returns-in-Silent-clause-again
returns-in-Silent-clause-again g c = λ old a. far-waits g.S.Store.apply _ _ c.args.doubtful old _ _ a c.in-Silent.ensures.waits

pub returns-in-Done-clause-told : goal.returns-in-Done-clause-told
returns-in-Done-clause-told g c = λ old a.
    told-done g.S.Store.apply _ _ c.args.doubtful old _ _ _ c.in-Done.outcome a c.in-Free.ensures.waits
    (commit-along g.S.Store.apply (g.S.Store.life c.args.store.now) (g.S.Store.life c.find.new.self) c.args.asked.now (key_of c.args.request.key.now) c.args.request.expiration (g.S.Store.shown c.find.new.self)
    (g.S.Store.shown c.commit.new.self) (commit.Done c.in-Done.outcome) c.in-Free.ensures.life c.in-Done.ensures.commit)

pub returns-in-Taken-clause-again : goal.returns-in-Taken-clause-again
returns-in-Taken-clause-again g c = λ old a.
    again-waits g.S.Store.apply _ _ c.args.doubtful old _ _ _ a c.in-Free.ensures.waits
    (commit-along g.S.Store.apply (g.S.Store.life c.args.store.now) (g.S.Store.life c.find.new.self) c.args.asked.now (key_of c.args.request.key.now) c.args.request.expiration (g.S.Store.shown c.find.new.self)
    (g.S.Store.shown c.commit.new.self) commit.Taken c.in-Free.ensures.life c.in-Taken.ensures.commit)

pub returns-in-InDoubt-clause-again : goal.returns-in-InDoubt-clause-again
returns-in-InDoubt-clause-again g c = λ old a.
    again-doubtful g.S.Store.apply _ _ c.args.doubtful old _ _ _ a c.in-Free.ensures.waits
    (commit-along g.S.Store.apply (g.S.Store.life c.args.store.now) (g.S.Store.life c.find.new.self) c.args.asked.now (key_of c.args.request.key.now) c.args.request.expiration (g.S.Store.shown c.find.new.self)
    (g.S.Store.shown c.commit.new.self) commit.InDoubt c.in-Free.ensures.life c.in-InDoubt.ensures.commit)

pub returns-in-Failed-clause-again : goal.returns-in-Failed-clause-again
returns-in-Failed-clause-again g c = λ old a.
    again-sure g.S.Store.apply _ _ c.args.doubtful true old _ c.if-doubtful-2.true
    (again-waits g.S.Store.apply _ _ c.args.doubtful old _ _ _ a c.in-Free.ensures.waits
    (commit-along g.S.Store.apply (g.S.Store.life c.args.store.now) (g.S.Store.life c.find.new.self) c.args.asked.now (key_of c.args.request.key.now) c.args.request.expiration (g.S.Store.shown c.find.new.self)
    (g.S.Store.shown c.commit.new.self) commit.Failed c.in-Free.ensures.life c.in-Failed.ensures.commit))

pub returns-in-Failed-2-clause-told : goal.returns-in-Failed-2-clause-told
returns-in-Failed-2-clause-told g c = λ old a.
    told-failed g.S.Store.apply _ _ c.args.doubtful old _ _ _ c.if-doubtful-2.false a c.in-Free.ensures.waits c.in-Free.ensures.found.1
    (commit-along g.S.Store.apply (g.S.Store.life c.args.store.now) (g.S.Store.life c.find.new.self) c.args.asked.now (key_of c.args.request.key.now) c.args.request.expiration (g.S.Store.shown c.find.new.self)
    (g.S.Store.shown c.commit.new.self) commit.Failed c.in-Free.ensures.life c.in-Failed.ensures.commit)
