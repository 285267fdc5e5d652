use Rattle.std.proofs.Common.{List, Option, Some, sym, ap, ◌∙◌}
use Rattle.std.specs.List.{position}
use Rattle.giop_frames.specs.Standing.{frame_of}
use Rattle.giop_link.specs.declared.awaited.Outstanding.{Outstanding}
use Rattle.giop_link.specs.Answering.{Answer, answer_to}
use Rattle.giop_link.specs.Hearing.{Sound, sound_of}
use Rattle.giop_link.specs.Ids.{is_of}
use Rattle.giop_link.specs.Private.{settled_left, settles}
use Rattle.giop_link.proofs.Lending.{read-spoken, settles-by, settles-none}
use Rattle.giop_link.proofs.Waiting.{absent, found}
use Rattle.giop_link.proofs.client.settle.Goals as goal

pub returns-in_default-answered_one-clause-by : goal.returns-in_default-answered_one-clause-by
returns-in_default-answered_one-clause-by c =
    let os = c.args.waiting.now.items in
    let x = c.in-Some.message in
    let at = sym (read-spoken answer_to c.args.listener.now.message x c.in-Some.ensures.lent) in
    let none = settles-none (sound_of answer_to (frame_of x)) os (sym c.answered_one.ensures ∙ c.in_default-answered_one.is) in
    sym (ap (λ (m : Option (Sound Answer)). settles m os) at ∙ none.0)

pub returns-in_default-answered_one-clause-left : goal.returns-in_default-answered_one-clause-left
returns-in_default-answered_one-clause-left c =
    let os = c.args.waiting.now.items in
    let x = c.in-Some.message in
    let at = sym (read-spoken answer_to c.args.listener.now.message x c.in-Some.ensures.lent) in
    let none = settles-none (sound_of answer_to (frame_of x)) os (sym c.answered_one.ensures ∙ c.in_default-answered_one.is) in
    sym (ap (λ (m : Option (Sound Answer)). settled_left m os) at ∙ none.1)

pub returns-in_default-place_of-clause-by : goal.returns-in_default-place_of-clause-by
returns-in_default-place_of-clause-by c =
    let os = c.args.waiting.now.items in
    let x = c.in-Some.message in
    let o = c.in-Some-answered_one.one in
    let test = is_of o.id (Some o.wanted) in
    let at = sym (read-spoken answer_to c.args.listener.now.message x c.in-Some.ensures.lent) in
    let by = settles-by (sound_of answer_to (frame_of x)) o os (sym c.answered_one.ensures ∙ c.in-Some-answered_one.is) in
    let none = absent test os (ap (λ (ws : List Outstanding). position test ws) (sym c.as_slice.ensures.value) ∙ sym c.place_of.ensures ∙ c.in_default-place_of.is) in
    sym (ap (λ (m : Option (Sound Answer)). settles m os) at ∙ by.0 ∙ none.0)

pub returns-in_default-place_of-clause-left : goal.returns-in_default-place_of-clause-left
returns-in_default-place_of-clause-left c =
    let os = c.args.waiting.now.items in
    let x = c.in-Some.message in
    let o = c.in-Some-answered_one.one in
    let test = is_of o.id (Some o.wanted) in
    let at = sym (read-spoken answer_to c.args.listener.now.message x c.in-Some.ensures.lent) in
    let by = settles-by (sound_of answer_to (frame_of x)) o os (sym c.answered_one.ensures ∙ c.in-Some-answered_one.is) in
    let none = absent test os (ap (λ (ws : List Outstanding). position test ws) (sym c.as_slice.ensures.value) ∙ sym c.place_of.ensures ∙ c.in_default-place_of.is) in
    sym (ap (λ (m : Option (Sound Answer)). settled_left m os) at ∙ by.1 ∙ none.1)

pub returns-clause-by : goal.returns-clause-by
returns-clause-by c =
    let os = c.args.waiting.now.items in
    let x = c.in-Some.message in
    let o = c.in-Some-answered_one.one in
    let test = is_of o.id (Some o.wanted) in
    let at = sym (read-spoken answer_to c.args.listener.now.message x c.in-Some.ensures.lent) in
    let by = settles-by (sound_of answer_to (frame_of x)) o os (sym c.answered_one.ensures ∙ c.in-Some-answered_one.is) in
    let one = found test os c.in-Some-place_of.place (ap (λ (ws : List Outstanding). position test ws) (sym c.as_slice.ensures.value) ∙ sym c.place_of.ensures ∙ c.in-Some-place_of.is) in
    sym (ap (λ (m : Option (Sound Answer)). settles m os) at ∙ by.0 ∙ one.0)

pub returns-clause-left : goal.returns-clause-left
returns-clause-left c =
    let os = c.args.waiting.now.items in
    let x = c.in-Some.message in
    let o = c.in-Some-answered_one.one in
    let test = is_of o.id (Some o.wanted) in
    let at = sym (read-spoken answer_to c.args.listener.now.message x c.in-Some.ensures.lent) in
    let by = settles-by (sound_of answer_to (frame_of x)) o os (sym c.answered_one.ensures ∙ c.in-Some-answered_one.is) in
    let one = found test os c.in-Some-place_of.place (ap (λ (ws : List Outstanding). position test ws) (sym c.as_slice.ensures.value) ∙ sym c.place_of.ensures ∙ c.in-Some-place_of.is) in
    c.remove.ensures.items ∙ one.1 ∙ sym (ap (λ (m : Option (Sound Answer)). settled_left m os) at ∙ by.1)
