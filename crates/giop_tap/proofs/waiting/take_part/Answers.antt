use Rattle.std.proofs.Common.{sym, ap, subst, ◌∙◌, refl}
use Rattle.giop_tap.specs.declared.place.Place.{Place}
use Rattle.giop_tap.specs.declared.part.Part.{Part}
use Rattle.giop_tap.specs.declared.part.Part.TheVariants.{Apart, Asks}
use Rattle.giop_tap.specs.declared.sender.Sender.{Sender}
use Rattle.giop_tap.specs.Pairing.{is_about, latest, number_of, waiting_after, without_latest}
use Rattle.giop_tap.specs.Waiting.{AreWaiting, Waits, is_at}
use Rattle.giop_tap.proofs.Kept.{answered-waiting, asked-waiting, latest-kept, none-meant}
use Rattle.giop_tap.proofs.waiting.take_part.Goals as goal

pub returns-in_ok-push-in-Asks-clause-request : goal.returns-in_ok-push-in-Asks-clause-request
returns-in_ok-push-in-Asks-clause-request c = λ ws rising stands.
    let none = none-meant (is_about c.args.connection c.args.sender (Asks c.in-Asks.wanted c.in-Asks.id)) (λ a. refl) ws in
    sym (ap (λ (p : Part). number_of (latest (is_about c.args.connection c.args.sender p) ws)) c.in-Asks.is ∙ ap number_of none)

pub returns-in_ok-push-in-Asks-clause-waiting : goal.returns-in_ok-push-in-Asks-clause-waiting
returns-in_ok-push-in-Asks-clause-waiting c = λ ws stands.
    let place : Place = record { connection = c.args.connection; sender = c.args.sender; wanted = c.in-Asks.wanted; id = c.in-Asks.id } in
    subst (λ (p : Part). AreWaiting c.push.new.waiting.entries (waiting_after c.args.number c.args.connection c.args.sender p ws)) (sym c.in-Asks.is)
    (asked-waiting c.args.waiting.now.entries c.push.new.waiting.entries place c.args.number ws stands c.in_ok-push-in-Asks.ensures)

pub returns-in-Answers-clause-request : goal.returns-in-Answers-clause-request
returns-in-Answers-clause-request c = λ ws rising stands.
    let place : Sender → Place = λ s. record { connection = c.args.connection; sender = s; wanted = c.in-Answers.wanted; id = c.in-Answers.id } in
    let m : Waits = c.args.waiting.now.entries in
    c.pop.ensures.number ∙ latest-kept m (place c.peer.result) ws stands
    ∙ ap (λ (s : Sender). number_of (latest (λ a. is_at (place s) a) ws)) c.peer.ensures
    ∙ ap (λ (p : Part). number_of (latest (is_about c.args.connection c.args.sender p) ws)) (sym c.in-Answers.is)

pub returns-in-Answers-clause-waiting : goal.returns-in-Answers-clause-waiting
returns-in-Answers-clause-waiting c = λ ws stands.
    let place : Sender → Place = λ s. record { connection = c.args.connection; sender = s; wanted = c.in-Answers.wanted; id = c.in-Answers.id } in
    let left : AreWaiting c.pop.new.waiting.entries (without_latest (is_at (place c.peer.result)) ws) =
    answered-waiting c.args.waiting.now.entries c.pop.new.waiting.entries (place c.peer.result) ws stands c.pop.ensures.left in
    subst (λ (p : Part). AreWaiting c.pop.new.waiting.entries (waiting_after c.args.number c.args.connection c.args.sender p ws)) (sym c.in-Answers.is)
    (subst (λ (s : Sender). AreWaiting c.pop.new.waiting.entries (without_latest (is_at (place s)) ws)) c.peer.ensures left)

pub returns-in-Apart-clause-request : goal.returns-in-Apart-clause-request
returns-in-Apart-clause-request c = λ ws rising stands.
    let none = none-meant (is_about c.args.connection c.args.sender Apart) (λ a. refl) ws in
    sym (ap (λ (p : Part). number_of (latest (is_about c.args.connection c.args.sender p) ws)) c.in-Apart.is ∙ ap number_of none)
