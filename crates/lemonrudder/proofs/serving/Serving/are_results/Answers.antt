use Rattle.std.proofs.Common.{◌∙◌, ap, option_map, sym}
use Rattle.ft_orb.specs.Engines.{awaited_lent}
use Rattle.ft_objects.specs.Interfaces.{AreValidTypes, types_of}
use Rattle.ft_objects.specs.facts.Promises.{families_offer-is}
use Rattle.lemonrudder.specs.Outcomes.{interface_at, result_types, types_in}
use Rattle.lemonrudder.proofs.Handing.{results-are, results-none}
use Rattle.lemonrudder.proofs.Raising.{asked-valid, none-typed, typed-valid}
use Rattle.lemonrudder.proofs.serving.Serving.are_results.Goals as goal

pub are_values-requires : goal.are_values-requires
are_values-requires c =
    let s = c.args.self.now in
    let w = awaited_lent c.args.asked.now in
    let t = types_of c.in-Some.signature.now in
    let promised : AreValidTypes t = typed-valid (interface_at s w) t (ap types_in (sym c.lookup.ensures) ∙ sym c.signature_of.ensures ∙ ap (option_map (λ x. types_of x.now)) c.in-Some.is) (asked-valid w.refused _ ((families_offer-is s.engine.offering.catalogue).valid w.call.object_key w.call.operation)) in
    record { valid = rw c.deref.ensures.value promised.1 }

pub returns-in-Some : goal.returns-in-Some
returns-in-Some c =
    let s = c.args.self.now in
    let w = awaited_lent c.args.asked.now in
    let t = types_of c.in-Some.signature.now in
    let typed = ap types_in (sym c.lookup.ensures) ∙ sym c.signature_of.ensures ∙ ap (option_map (λ x. types_of x.now)) c.in-Some.is in
    results-are (result_types (interface_at s w)) t.results c.args.order c.args.octets.now c.are_values.result (ap (option_map (λ u. u.results)) typed) (rw c.deref.ensures.value at c.are_values.ensures)

pub returns-in-None : goal.returns-in-None
returns-in-None c =
    let s = c.args.self.now in
    let w = awaited_lent c.args.asked.now in
    let none = none-typed (interface_at s w) (ap types_in (sym c.lookup.ensures) ∙ sym c.signature_of.ensures ∙ ap (option_map (λ x. types_of x.now)) c.in-None.is) in
    ((λ said. absurd cc), λ are. absurd (results-none (result_types (interface_at s w)) c.args.order c.args.octets.now none are))
