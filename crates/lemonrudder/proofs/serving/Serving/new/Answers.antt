use Rattle.std.proofs.Common.{◌∙◌, ℕ, [], Some, ap, refl, sym}
use Rattle.ft_objects.specs.Families.{families_offer}
use Rattle.ft_orb.specs.Offerings.{terms_by}
use Rattle.ft_orb.specs.Parking.{Settings}
use Rattle.ft_orb.specs.Requests.{Terms}
use Rattle.lemonrudder.proofs.Asked.{asked-idle}
use Rattle.lemonrudder.proofs.serving.Serving.new.Goals as goal

pub returns : goal.returns
returns c =
    let terms = c.args.terms in
    let e = c.new-engine.ensures in
    let b = c.bound_client_ids.ensures in
    let a = c.ask_first.ensures in
    let bounded = b.bound ∙ ap (λ o. record { catalogue = o.catalogue; longest = Some terms.longest; first = o.first }) e.catalogue in
    let offering = a.first ∙ ap (λ o. record { catalogue = o.catalogue; longest = o.longest; first = terms.first }) bounded in
    let within : (ℕ → Terms) → Settings = λ on. record { terms = on; limits = terms.limits; capacity = terms.capacity; share = terms.share; places = terms.places } in (
      a.idle,
      refl,
      offering,
      c.new.ensures,
      c.new-2.ensures.empty,
      (a.asks ∙ b.asks ∙ e.asks, λ q. ((a.parked q).0 ∙ (b.parked q).0 ∙ e.parked q, (a.parked q).1 ∙ (b.parked q).1 ∙ e.told q), a.counts ∙ b.counts ∙ e.counts, λ x. a.ended x ∙ b.ended x ∙ e.ending x),
      λ held on zero one two. a.late (within on) held [] _ (λ n. []) (b.late (within on) held [] [] (λ n. []) (e.late held on zero) (one ∙ sym (ap (terms_by families_offer) bounded))) (two ∙ sym (ap (terms_by families_offer) offering)),
    )

pub invariant_of-result : goal.invariant_of-result
invariant_of-result c = record { asked = asked-idle c.new.result c.ask_first.new.self c.ask_first.ensures.idle }
