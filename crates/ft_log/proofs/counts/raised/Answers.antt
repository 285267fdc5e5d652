use Rattle.std.proofs.Common.{◌≡◌, ◌+◌, ℕ, Some, refl, ap, sym, ◌∙◌, is_some, unwrap_or}
use Rattle.std.specs.Option.{option_copied_mut}
use Rattle.ft_log.specs.Maps.{held_at}
use Rattle.ft_log.proofs.Counting.{one_more}
use Rattle.ft_log.proofs.Named.{held-client}
use Rattle.ft_log.proofs.counts.raised.Goals as goal

pub returns-in-Some-clause-yes : goal.returns-in-Some-clause-yes
returns-in-Some-clause-yes c = λ h client.
    let w : ℕ = c.in-Some.count.now + 1 in
    let there = sym (ap is_some c.get_mut.ensures.value) ∙ ap (λ o. is_some (option_copied_mut o)) c.in-Some.is in
    let up = (c.get_mut.follows.holds w).3 there in
    let m = c.args.counts.now in let n = c.get_mut.follows.lender w in let client_id = c.args.client_id.now in
    let found : held_at m client_id ≡ c.in-Some.count.now = sym (ap (λ o. unwrap_or o 0) c.get_mut.ensures.value) ∙ ap (λ o. unwrap_or (option_copied_mut o) 0) c.in-Some.is in
    held-client _ (λ x y. refl) m n (Some w) client_id up.1 up.3 client ∙ one_more m client_id client c.in-Some.count.now (sym found)
