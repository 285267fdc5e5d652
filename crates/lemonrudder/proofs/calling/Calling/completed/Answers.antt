use Rattle.std.proofs.Common.{◌∙◌, ℤ, ap, arith, rules}
use Rattle.std.proofs.lemmas.Int.{ints}
use Rattle.ft_client.specs.Ends.{completion_of, ended_of}
use Rattle.lemonrudder.specs.Calls.{head_of}
use Rattle.lemonrudder.proofs.Clients.{none_taken, one_taken, takes_none, takes_one}
use Rattle.lemonrudder.proofs.calling.Calling.completed.Goals as goal

pub returns-in_default-clause-taken : goal.returns-in_default-clause-taken
returns-in_default-clause-taken c = λ x st.
    takes_none _ x _ (none_taken x.client.completions (c.in_default.ensures.given x.client st.client)) (c.in_default.ensures.stands x.client st.client) st.placed st.due st.last

pub returns-clause-taken : goal.returns-clause-taken
returns-clause-taken c = λ x st.
    let k = completion_of (c.in-Some.call, c.in-Some.ended) in
    let o = one_taken k x.client.completions (c.in-Some.ensures.given x.client st.client) in
    takes_one _ _ c.head_of.result x _ k o.0 o.1 o.2 o.3 c.tell.ensures (c.head_of.ensures ∙ ap (λ (z : ℤ). head_of z (ended_of c.in-Some.ended)) (first_of (search rules, omega (arith, ints)))) (c.in-Some.ensures.stands x.client st.client) st.placed st.due (search rules)
