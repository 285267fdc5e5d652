use Rattle.std.proofs.Common.{◌≡◌, ◌∙◌, Some, ap, refl, sym}
use Rattle.std.proofs.lemmas.Option.{none-some}
use Rattle.giop_core.specs.Items.{contexts_left}
use Rattle.giop_link.specs.Hearing.{Question}
use Rattle.ft_orb.specs.Engines.{Awaited, awaited_lent}
use Rattle.lemonrudder.specs.declared.request.RequestHead.{RequestHead}
use Rattle.lemonrudder.specs.Asking.{with_question, with_refusal}
use Rattle.lemonrudder.specs.Layouts.{laid, octets_of_request}
use Rattle.lemonrudder.specs.Outcomes.{interface_at}
use Rattle.lemonrudder.specs.Questions.{head_of, with_body}
use Rattle.lemonrudder.proofs.Telling.{base-is, never-none, never-other, question-is, question_of}
use Rattle.lemonrudder.proofs.serving.Serving.asked.Goals as goal

pub returns-in_default-message-clause-does : goal.returns-in_default-message-clause-does
returns-in_default-message-clause-does c = (
  refl,
  λ idle. (refl, refl),
  λ x held calls past waiting moment octets written w a. absurd (never-none c.message.result _ (c.message.ensures.late x held calls past waiting moment octets written w a) c.in_default-message.is),
)

pub returns-in_default-inbound-clause-does : goal.returns-in_default-inbound-clause-does
returns-in_default-inbound-clause-does c = (
  refl,
  λ idle. (refl, refl),
  λ x held calls past waiting moment octets written w a. absurd (never-other c.message.result c.in-Some-message.inbound a.asks.question (c.message.ensures.late x held calls past waiting moment octets written w a) c.in-Some-message.is (λ v r e. c.in_default-inbound.not-Request v r e)),
)

pub returns-clause-does : goal.returns-clause-does
returns-clause-does c =
    let s = c.args.self.now in
    let x : Awaited = awaited_lent c.in-Some.asked in
    let here = rw c.in-Some.is at c.asked.ensures in
    let v = c.in-Request.version in
    let r = c.in-Request.request in
    let laid_out = c.tell.ensures in
    let base = base-is c.none-head.result c.ticket_of.result c.in-Some.asked.connection c.count_of.result c.count_of-2.result _ _ _ c.none-head.ensures c.ticket_of.ensures c.count_of.ensures c.count_of-2.ensures in
    let whole = c.put_body.ensures ∙ ap (with_body (interface_at s x) x.call.arguments) (c.put_question.ensures ∙ ap (with_question v r.request_id r.reply (contexts_left r.contexts)) base) in
    let told = c.put_refusal.ensures ∙ ap (with_refusal x.refused) whole in (
      refl,
      λ idle. absurd (none-some x (sym (here ∙ idle))),
      λ s' held calls past waiting moment octets written w a.
          let same : x ≡ w = let e : Some x ≡ Some w = here ∙ a.asks.waits in cc in
          let question = question-is c.message.result c.in-Some-message.inbound v r a.asks.question (c.message.ensures.late s' held calls past waiting moment octets written w a) c.in-Some-message.is c.in-Request.is in
          (refl, laid_out ∙ ap (λ (h : RequestHead). laid (octets_of_request h) c.args.room.now) (told ∙ (ap (λ (y : Awaited). head_of (interface_at s y) y (question_of v r)) same ∙ ap (λ (q : Question). head_of (interface_at s w) w q) question))),
    )
