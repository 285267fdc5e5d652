use Rattle.ft_log.specs.Logged.{logged}
use Rattle.ft_log.proofs.Dated.{least_of, stay_before}
use Rattle.ft_log.proofs.store.Store.next_expiry.Goals as goal

pub returns-clause-least : goal.returns-clause-least
unfolding logged
returns-clause-least c =
    let s = c.args.self.now in
    least_of s.order s.story.entries s.dated c.least.result c.least.ensures.none c.least.ensures.before c.least.ensures.there

pub returns-clause-stays : goal.returns-clause-stays
unfolding logged
returns-clause-stays c =
    let s = c.args.self.now in
    stay_before s.order s.story.entries s.dated c.least.result c.least.ensures.none c.least.ensures.before
