use Rattle.std.proofs.Common.{◌≡◌, ◌∙◌, Some, ap, map, option_map, sym}
use Rattle.cdr_core.specs.View.{forms_of}
use Rattle.ft_orb.specs.Engines.{awaited_lent}
use Rattle.ft_objects.specs.Interfaces.{AreValidTypes, raise_of, types_of}
use Rattle.ft_objects.specs.facts.Promises.{families_offer-is}
use Rattle.lemonrudder.specs.Outcomes.{forms_in, interface_at, member_types, members_in, members_of, types_in}
use Rattle.lemonrudder.proofs.Handing.{read-none, read-some}
use Rattle.lemonrudder.proofs.Raising.{asked-valid, members-valid, none-raised, typed-valid}
use Rattle.lemonrudder.proofs.serving.Serving.members.Goals as goal

pub returns-in_default : goal.returns-in_default
returns-in_default c =
    let s = c.args.self.now in
    let w = awaited_lent c.args.asked.now in
    read-none (member_types c.args.id.now (interface_at s w)) c.args.order c.args.octets.now (none-raised c.args.id.now (interface_at s w) (ap types_in (sym c.lookup.ensures) ∙ sym c.signature_of.ensures ∙ ap (option_map (λ x. types_of x.now)) c.in_default.is))

pub values-requires : goal.values-requires
values-requires c =
    let s = c.args.self.now in
    let id = c.args.id.now in
    let w = awaited_lent c.args.asked.now in
    let t = types_of c.in-Some.signature.now in
    let ts = forms_of c.in_ok-types.types.now in
    let found = rw c.in_ok-types.was at c.ok_or.ensures.ok_part in
    let typed : types_in (interface_at s w) ≡ Some t = ap types_in (sym c.lookup.ensures) ∙ sym c.signature_of.ensures ∙ ap (option_map (λ x. types_of x.now)) c.in-Some.is in
    let lent : members_in id (map raise_of c.deref.result.now) ≡ Some ts = sym c.types_of_exception.ensures ∙ ap forms_in found in
    let declared : members_in id t.raises ≡ Some ts = rw c.deref.ensures.value at lent in
    let promised : AreValidTypes t = typed-valid (interface_at s w) t typed (asked-valid w.refused _ ((families_offer-is s.engine.offering.catalogue).valid w.call.object_key w.call.operation)) in
    record { valid = members-valid id t.raises ts promised.2 declared }

pub returns : goal.returns
returns c =
    let s = c.args.self.now in
    let id = c.args.id.now in
    let w = awaited_lent c.args.asked.now in
    let t = types_of c.in-Some.signature.now in
    let ts = forms_of c.in_ok-types.types.now in
    let found = rw c.in_ok-types.was at c.ok_or.ensures.ok_part in
    let typed : types_in (interface_at s w) ≡ Some t = ap types_in (sym c.lookup.ensures) ∙ sym c.signature_of.ensures ∙ ap (option_map (λ x. types_of x.now)) c.in-Some.is in
    let lent : members_in id (map raise_of c.deref.result.now) ≡ Some ts = sym c.types_of_exception.ensures ∙ ap forms_in found in
    let declared : members_in id t.raises ≡ Some ts = rw c.deref.ensures.value at lent in
    read-some (member_types id (interface_at s w)) c.args.order c.args.octets.now ts c.values.result (ap (members_of id) typed ∙ declared) c.values.ensures
