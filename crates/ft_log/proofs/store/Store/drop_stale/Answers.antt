use Rattle.std.proofs.Common.{◌≡◌, inl, inr, ℕ, ◌<◌, length, ap, ◌∙◌, subst, List, None, arith}
use Rattle.std.proofs.lemmas.List.{length-map}
use Rattle.ft_log.specs.Holding.{Holding}
use Rattle.ft_log.specs.Keys.{RequestKey, held_of}
use Rattle.ft_log.specs.Kept.{KeptOutcome, kept_for, keys_of, unexpired}
use Rattle.ft_log.specs.Logged.{Logged, logged}
use Rattle.ft_log.specs.Store.{live_from, shown}
use Rattle.ft_log.specs.View.{entries_at, entry_in, key_of}
use Rattle.ft_log.specs.declared.story.Entry.{Entry}
use Rattle.ft_log.proofs.Shares.{held-without}
use Rattle.ft_log.proofs.Sought.{kept_for-without, unexpired-without}
use Rattle.ft_log.proofs.store.Store.drop_stale.Goals as goal
use Rattle.ft_log.proofs.store.Store.drop_stale.Goals.{After-has_its_share}

-- what is live stays
same : (c : After-has_its_share) → live_from c.args.now (logged (shown c.forget_some.new.self)) ≡ live_from c.args.now (logged (shown c.args.self.now))
unfolding logged
same c =
    let s = c.args.self.now in
    let key : RequestKey = key_of c.args.key.now in
    c.forget_some.ensures.same ∙ ap (live_from c.args.now) c.take_key.ensures.others
    ∙ ap (λ (l : List (KeptOutcome Holding)). record (logged (shown s)) { entries = l })
    (ap (λ (l : List Entry). unexpired c.args.now (entries_at l)) c.take_key.ensures.entries ∙ unexpired-without c.args.now key s.story.entries s.distinct c.requires)

-- the key is not there
absent : (c : After-has_its_share) → kept_for (key_of c.args.key.now) (logged (shown c.forget_some.new.self)).entries ≡ None
unfolding logged
absent c =
    let key : RequestKey = key_of c.args.key.now in
    c.forget_some.ensures.absent key (ap (λ (l : List Entry). kept_for key (entries_at l)) c.take_key.ensures.entries ∙ kept_for-without key c.args.self.now.story.entries)

-- in a full log all is live
full : (c : After-has_its_share) → let g = logged (shown c.forget_some.new.self) in length g.entries ≡ g.capacity → unexpired c.args.now g.entries ≡ g.entries
unfolding logged
full c is =
    let was = c.take_key.new.self in
    let g : Logged = logged (shown c.forget_some.new.self) in
    let capacity = ap (λ (l : Logged). l.capacity) c.forget_some.ensures.same in
    (elim c.forget_some.ensures.left as (λ _. unexpired c.args.now g.entries ≡ g.entries) [
      | inl eight ↦ absurd (omega (arith, eight, is, capacity, was.within, length-map was.story.entries entry_in))
      | inr all ↦ all
    ])

pub returns-then-not-has_its_share-clause-same : goal.returns-then-not-has_its_share-clause-same
unfolding logged
returns-then-not-has_its_share-clause-same c = same (goal.at.returns-then-not-has_its_share-clause-same c).After-has_its_share

pub returns-then-not-has_its_share-clause-absent : goal.returns-then-not-has_its_share-clause-absent
unfolding logged
returns-then-not-has_its_share-clause-absent c = absent (goal.at.returns-then-not-has_its_share-clause-absent c).After-has_its_share

pub returns-then-not-has_its_share-clause-full : goal.returns-then-not-has_its_share-clause-full
unfolding logged
returns-then-not-has_its_share-clause-full c = full (goal.at.returns-then-not-has_its_share-clause-full c).After-has_its_share

pub returns-then-not-has_its_share-clause-share : goal.returns-then-not-has_its_share-clause-share
unfolding logged
returns-then-not-has_its_share-clause-share c = λ fewer is.
    let g : Logged = logged (shown c.forget_some.new.self) in
    let below = subst (λ (x : List ℕ). held_of x (keys_of g.entries) < g.share) c.deref.ensures.value (c.has_its_share.ensures.no c.if-not-has_its_share.true fewer) in
    absurd (omega (arith, below, is))

pub returns-clause-same : goal.returns-clause-same
unfolding logged
returns-clause-same c = c.drop_more.ensures.same ∙ same (goal.at.returns-clause-same c).After-has_its_share

pub returns-clause-absent : goal.returns-clause-absent
unfolding logged
returns-clause-absent c = c.drop_more.ensures.absent (key_of c.args.key.now) (absent (goal.at.returns-clause-absent c).After-has_its_share)

pub returns-clause-share : goal.returns-clause-share
unfolding logged
returns-clause-share c = λ fewer is.
    let g : Logged = logged (shown c.drop_more.new.self) in
    subst (λ (x : List ℕ). held_of x (keys_of g.entries) ≡ g.share → held_of x (keys_of (unexpired c.args.now g.entries)) ≡ g.share) c.deref-2.ensures.value (c.drop_more.ensures.share fewer) is

pub returns-clause-nine : goal.returns-clause-nine
unfolding logged
returns-clause-nine c = λ few.
    let s = c.args.self.now in
    let key : RequestKey = key_of c.args.key.now in
    let client : List ℕ = key.client_id in
    let g : Logged = logged (shown c.forget_some.new.self) in
    let yes = subst (λ (x : List ℕ). (length g.entries < g.capacity) × (held_of x (keys_of g.entries) ≡ g.share)) c.deref.ensures.value (c.has_its_share.ensures.yes c.if-not-has_its_share.false) in
    let has : held_of client (keys_of g.entries) ≡ g.share = yes.1 in
    let share = ap (λ (l : Logged). l.share) (same (goal.at.returns-clause-nine c).After-has_its_share) in
    let took = ap (λ (l : List Entry). held_of client (keys_of (entries_at l))) c.take_key.ensures.entries in
    let fewer = held-without client key s.story.entries in
    absurd (omega (arith, few, has, share, took, fewer, c.forget_some.ensures.held client))
