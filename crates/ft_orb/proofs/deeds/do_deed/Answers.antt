use Rattle.std.proofs.Common.{List, [], ◌∷◌, refl, sym, ◌∙◌}
use Rattle.std.proofs.lemmas.List.{append-nil}
use Rattle.ft_orb.specs.declared.events.Written.{Written}
use Rattle.ft_orb.proofs.deeds.do_deed.Goals.{in-Event+else-is_asking+in_ok-do_event-in-Event, in-Answer+in_ok-do_answer-in-Answer, in-GiveUp+in_ok-do_give_up-in-GiveUp, in-Decline+in_ok-do_decline-in-Decline, in-Tell+in_ok-do_tell-in-Tell}
use Rattle.ft_orb.proofs.deeds.do_deed.Goals as goal

pub returns-clause-ok : goal.returns-clause-ok
returns-clause-ok g c s h holds = (
  c.match-deed.written.0 ∷ [],
  rw (c.push.ensures.items, c.unwrap.ensures, c.reserve.ensures.items) (refl {A = List Written}),
  elim c.match-deed.branch [
    | in-Event+else-is_asking+in_ok-do_event-in-Event w ↦ rw (w.engine-is, w.written-is, w.in-Event.is) (w.in_ok-do_event-in-Event.ensures.ok s h holds)
    | in-Answer+in_ok-do_answer-in-Answer w ↦ rw (w.engine-is, w.written-is, w.in-Answer.is) (w.in_ok-do_answer-in-Answer.ensures.ok s h holds)
    | in-GiveUp+in_ok-do_give_up-in-GiveUp w ↦ rw (w.engine-is, w.written-is, w.in-GiveUp.is) (w.in_ok-do_give_up-in-GiveUp.ensures.ok s h holds)
    | in-Decline+in_ok-do_decline-in-Decline w ↦ rw (w.engine-is, w.written-is, w.in-Decline.is) (w.in_ok-do_decline-in-Decline.ensures.ok s h holds)
    | in-Tell+in_ok-do_tell-in-Tell w ↦ rw (w.engine-is, w.written-is, w.in-Tell.is) (w.in_ok-do_tell-in-Tell.ensures.ok s h holds)
  ],
)

pub returns-in-Park-clause-ok : goal.returns-in-Park-clause-ok
returns-in-Park-clause-ok g c s h holds = ([], c.reserve.ensures.items ∙ sym (append-nil c.args.out.now.items), rw c.in-Park.is (c.in_ok-do_park-in-Park.ensures.ok s h holds))
