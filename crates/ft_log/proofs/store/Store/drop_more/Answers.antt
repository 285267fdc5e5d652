use Rattle.std.proofs.Common.{◌≡◌, inl, inr, length, ap, sym, ◌∙◌, List, arith}
use Rattle.std.proofs.lemmas.List.{length-map}
use Rattle.ft_log.specs.Holding.{Holding}
use Rattle.ft_log.specs.Kept.{KeptOutcome, unexpired}
use Rattle.ft_log.specs.Logged.{Logged, logged}
use Rattle.ft_log.specs.Store.{live_from, shown}
use Rattle.ft_log.specs.View.{entry_in}
use Rattle.ft_log.proofs.store.Store.drop_more.Goals as goal
use Rattle.ft_log.proofs.store.Store.drop_more.Goals.{After-has_its_share}

-- in a full log all is live
full : (c : After-has_its_share) → let g = logged (shown c.forget_some.new.self) in length g.entries ≡ g.capacity → unexpired c.args.now g.entries ≡ g.entries
unfolding logged
full c is =
    let was = c.args.self.now in
    let g : Logged = logged (shown c.forget_some.new.self) in
    let capacity = ap (λ (l : Logged). l.capacity) c.forget_some.ensures.same in
    (elim c.forget_some.ensures.left as (λ _. unexpired c.args.now g.entries ≡ g.entries) [
      | inl some ↦ absurd (omega (arith, some, is, capacity, was.within, length-map was.story.entries entry_in))
      | inr all ↦ all
    ])

pub returns-then-has_its_share-clause-same : goal.returns-then-has_its_share-clause-same
unfolding logged
returns-then-has_its_share-clause-same c =
    let w = c.forget_some.new.self in
    ap (live_from c.args.now) c.forget_one_of.ensures.others
    ∙ ap (λ (l : List (KeptOutcome Holding)). record (logged (shown w)) { entries = l }) c.forget_one_of.ensures.same ∙ c.forget_some.ensures.same

pub returns-then-has_its_share-clause-absent : goal.returns-then-has_its_share-clause-absent
unfolding logged
returns-then-has_its_share-clause-absent c = λ key h. c.forget_one_of.ensures.absent key (c.forget_some.ensures.absent key h)

pub returns-then-has_its_share-clause-full : goal.returns-then-has_its_share-clause-full
unfolding logged
returns-then-has_its_share-clause-full c = λ is.
    let i = (goal.at.returns-then-has_its_share-clause-full c).After-has_its_share in
    let same = c.forget_one_of.ensures.full is in
    let capacity = ap (λ (l : Logged). l.capacity) c.forget_one_of.ensures.others in
    ap (unexpired c.args.now) same ∙ full i (omega (arith, ap length same, is, capacity)) ∙ sym same

pub returns-then-has_its_share-clause-share : goal.returns-then-has_its_share-clause-share
unfolding logged
returns-then-has_its_share-clause-share c = λ _ is. c.forget_one_of.ensures.share is

pub returns-else-has_its_share-clause-full : goal.returns-else-has_its_share-clause-full
unfolding logged
returns-else-has_its_share-clause-full c = full (goal.at.returns-else-has_its_share-clause-full c).After-has_its_share

pub returns-else-has_its_share-clause-share : goal.returns-else-has_its_share-clause-share
unfolding logged
returns-else-has_its_share-clause-share c = λ fewer is.
    let below = c.has_its_share.ensures.no c.if-has_its_share.false fewer in
    absurd (omega (arith, below, is))
