use Rattle.std.proofs.Common.{◌≡◌, ◌∙◌, List, Ok, Option, ap, option_map, refl, rules, slice_get, subst, ℕ}
use Rattle.giop_core.specs.Items.{item_at}
use Rattle.giop_link.specs.Hearing.{Question}
use Rattle.lemonrudder.specs.Items.{CopiesItem}
use Rattle.lemonrudder.proofs.Idling.{not_both}
use Rattle.lemonrudder.proofs.Telling.{never-none, never-other, question-is}
use Rattle.lemonrudder.proofs.serving.Serving.context.Goals as goal

pub returns-in_default-clause-copied : goal.returns-in_default-clause-copied
returns-in_default-clause-copied c = (
  refl,
  λ idle. absurd (not_both _ (c.is_asking.ensures.0 c.if-not-is_asking.false) idle),
  λ x held calls past waiting moment octets written w a. absurd (never-none c.message.result _ (c.message.ensures.late x held calls past waiting moment octets written w a) c.in_default.is),
)

pub returns-in_default-inbound-clause-copied : goal.returns-in_default-inbound-clause-copied
returns-in_default-inbound-clause-copied c = (
  refl,
  λ idle. absurd (not_both _ (c.is_asking.ensures.0 c.if-not-is_asking.false) idle),
  λ x held calls past waiting moment octets written w a. absurd (never-other c.message.result c.in-Some.inbound a.asks.question (c.message.ensures.late x held calls past waiting moment octets written w a) c.in-Some.is (λ v r e. c.in_default-inbound.not-Request v r e)),
)

pub returns-in_err-found-clause-copied : goal.returns-in_err-found-clause-copied
returns-in_err-found-clause-copied c = (
  refl,
  λ idle. absurd (not_both _ (c.is_asking.ensures.0 c.if-not-is_asking.false) idle),
  λ x held calls past waiting moment octets written w a.
      let same = question-is c.message.result c.in-Some.inbound c.in-Request.field-0 c.in-Request.request a.asks.question (c.message.ensures.late x held calls past waiting moment octets written w a) c.in-Some.is c.in-Request.is in
      let named : option_map item_at c.context_of.result ≡ slice_get a.asks.question.contexts c.args.index = c.context_of.ensures ∙ ap (λ (q : Question). slice_get q.contexts c.args.index) same in
      subst (λ (o : Option (ℕ × List ℕ)). CopiesItem o c.args.id.now c.args.id.now c.args.room.now c.args.room.now c.from_residual.result) named (search rules),
)

pub returns-clause-copied : goal.returns-clause-copied
returns-clause-copied c = (
  refl,
  λ idle. absurd (not_both _ (c.is_asking.ensures.0 c.if-not-is_asking.false) idle),
  λ x held calls past waiting moment octets written w a.
      let same = question-is c.message.result c.in-Some.inbound c.in-Request.field-0 c.in-Request.request a.asks.question (c.message.ensures.late x held calls past waiting moment octets written w a) c.in-Some.is c.in-Request.is in
      let named : option_map item_at c.context_of.result ≡ slice_get a.asks.question.contexts c.args.index = c.context_of.ensures ∙ ap (λ (q : Question). slice_get q.contexts c.args.index) same in
      subst (λ (o : Option (ℕ × List ℕ)). CopiesItem o c.args.id.now c.in_ok-found.found c.args.room.now c.copied.new.room (Ok c.copied.result)) named (search rules),
)
