use Rattle.std.proofs.Common.{◌≡◌, Some, None, Option, is_some, w32, to_z, of_z, rules, sym, ap, ◌∙◌}
use Rattle.std.specs.List.{position}
use Rattle.std.specs.Option.{option_map}
use Rattle.std.proofs.lemmas.Bool.{true≢false}
use Rattle.std.proofs.lemmas.List.Quantifiers.{position-Some}
use Rattle.ft_client.specs.declared.ended.ReplyBody.{ReplyBody}
use Rattle.ft_client.specs.declared.pending.Pending.{Pending as CodePending}
use Rattle.ft_client.specs.Clients.{Pending, first_led}
use Rattle.ft_client.specs.Ends.{body_of, led_by_code, led_to}
use Rattle.ft_client.specs.Keeping.{Kept, kept_by, kept_of}
use Rattle.ft_client.proofs.Cancelling.{get_is}
use Rattle.ft_client.proofs.Leaving.{nobody}
use Rattle.ft_client.proofs.Places.{at_both, found_kept, none_there}
use Rattle.ft_client.proofs.Redirecting.{first_led_is, led_is, led_place}
use Rattle.ft_client.proofs.client.FtClient.forwarded.Goals as goal

pub returns-in_err-place : goal.returns-in_err-place
returns-in_err-place c = λ m st.
    let s = c.args.self.now in
    let e : position (λ p. is_some (kept_by p).led) s.pending.items ≡ None = sym (ap (position (λ p. is_some p.led)) c.as_slice.ensures.value ∙ led_place s.pending.items) ∙ sym c.in_err-place.ensures in
    let none : first_led m.pending ≡ None = first_led_is m.pending ∙ none_there m.version m.client_id (λ k. is_some k.led) s.pending.items m.pending e st.fields.pending in
    ap (option_map led_by_code) c.from_residual.ensures ∙ sym (ap led_to none)

pub returns-in-Some : goal.returns-in-Some
returns-in-Some c = λ m st.
    let s = c.args.self.now in
    let place = c.in_ok-place.place in
    let d = c.index-one.result.now in
    let e : position (λ p. is_some (kept_by p).led) s.pending.items ≡ Some place = sym (ap (position (λ p. is_some p.led)) c.as_slice.ensures.value ∙ led_place s.pending.items) ∙ sym c.in_ok-place.ensures in
    let f = found_kept m.version m.client_id (λ k. is_some k.led) m.last s.pending.items m.pending place d e st.fields.pending st.fields.rising in
    let p = f.call in
    let lt = (position-Some (λ p. is_some (kept_by p).led) s.pending.items place d e).0 in
    let k : kept_by d ≡ kept_of m.version m.client_id p = ap kept_by c.index-one.ensures ∙ at_both m.version m.client_id s.pending.items m.pending place d nobody st.fields.pending lt ∙ ap (λ (q : Pending). kept_of m.version m.client_id q) (get_is m.pending place p nobody f.at) in
    let z : to_z w32 (of_z w32 d.id) ≡ d.id = search rules in
    led_is (to_z w32 (of_z w32 d.id)) p (body_of c.in-Some.body) (first_led m.pending) (first_led_is m.pending ∙ f.first) (z ∙ ap (λ (y : Kept). y.id) k) (sym (ap (option_map body_of) c.in-Some.is) ∙ ap (λ (y : Kept). y.led) k)

pub returns-in-None : goal.returns-in-None
returns-in-None c = λ m st.
    let s = c.args.self.now in
    let place = c.in_ok-place.place in
    let d = c.index-one.result.now in
    let e : position (λ p. is_some (kept_by p).led) s.pending.items ≡ Some place = sym (ap (position (λ p. is_some p.led)) c.as_slice.ensures.value ∙ led_place s.pending.items) ∙ sym c.in_ok-place.ensures in
    let here = (position-Some (λ p. is_some (kept_by p).led) s.pending.items place d e).1 in
    absurd (true≢false (sym here ∙ ap (λ (x : CodePending). is_some (kept_by x).led) (sym c.index-one.ensures) ∙ ap (λ (o : Option ReplyBody). is_some (option_map body_of o)) c.in-None.is))
