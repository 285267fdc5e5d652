use Rattle.std.proofs.Common.{◌≡◌, suc, ◌<◌, [], ◌∷◌, ◌++◌, map, pos, true, false, None, Some, sym, ap, ◌∙◌, refl, subst, arith, w32, to_z}
use Rattle.std.proofs.lemmas.Int.{to_z_pos}
use Rattle.ft_client.specs.declared.ended.Ended.TheVariants as code
use Rattle.ft_client.specs.Clients.{Sent, begun, placed}
use Rattle.ft_client.specs.Ends.{completion_of, numbered}
use Rattle.ft_client.specs.Keeping.{Kept, kept_by}
use Rattle.ft_client.specs.Messages.{is_oneway}
use Rattle.ft_client.proofs.Joining.{map_push, placed_link}
use Rattle.ft_client.proofs.Living.{rising-later, rising-push}
use Rattle.ft_client.proofs.Placing.{has_link, kept_push, kept_sent, next_id, no_link, placed_at, placed_sent, says_sent, unlinked_push}
use Rattle.ft_client.proofs.client.FtClient.place.Goals as goal

pub returns-in_default-clause-stands : goal.returns-in_default-clause-stands
returns-in_default-clause-stands c = λ m call st k.
    let s = c.args.self.now in
    let n = c.args.number in
    let none = no_link s.link m c.in_default.is st.link in
    placed_at _ n call m None none.0 (record {
      fields = record {
        client_id = st.fields.client_id;
        version = st.fields.version;
        limits = st.fields.limits;
        last = refl;
        pending = kept_push m s.pending.items c.reserve.new.self.items c.push_reserved.new.self.items c.args.kept (begun n call None) c.push_reserved.ensures.items c.in_ok-reserve.ensures.items st.fields.pending k;
        completions = ap (λ xs. map completion_of xs) c.in_ok-reserve-2.ensures.items ∙ st.fields.completions;
        rising = rising-push m.last m.pending (begun n call None) (subst (λ l. l < n) st.fields.last c.requires.greater) st.fields.rising;
        keeps = st.fields.keeps;
        forwards = st.fields.forwards;
      };
      link = unlinked_push s.link m (placed n call m None) n call c.in_default.is none.1 refl;
    })

pub returns-then-is_oneway-clause-stands : goal.returns-then-is_oneway-clause-stands
returns-then-is_oneway-clause-stands c = λ m call st k.
    let s = c.args.self.now in
    let n = c.args.number in
    let there = has_link s.link c.in-Some.link m c.in-Some.is st.link in
    let l = there.0 in
    let one : is_oneway c.args.kept.wish ≡ true = sym c.is_oneway.ensures ∙ c.if-is_oneway.true in
    let id : to_z w32 n ≡ pos n = to_z_pos w32 n c.requires.long in
    placed_sent _ n call m l true there.1 (ap (λ (x : Kept). is_oneway x.wish) (sym k) ∙ one) (record {
      fields = record {
        client_id = st.fields.client_id;
        version = st.fields.version;
        limits = st.fields.limits;
        last = refl;
        pending = ap (λ xs. map kept_by xs) c.in_ok-reserve.ensures.items ∙ st.fields.pending;
        completions = ap (λ xs. map completion_of xs) (c.push_back_reserved.ensures.items ∙ ap (λ xs. xs ++ (to_z w32 n, code.Sent) ∷ []) c.in_ok-reserve-2.ensures.items) ∙ map_push completion_of s.completions.items (to_z w32 n, code.Sent) ∙ (λ i. st.fields.completions i ++ (id i, Sent) ∷ []) ∙ sym (map_push numbered m.completions (n, Sent));
        rising = rising-later m.last n m.pending (let lt : m.last < n = subst (λ l. l < n) st.fields.last c.requires.greater in omega (arith, lt)) st.fields.rising;
        keeps = st.fields.keeps;
        forwards = st.fields.forwards;
      };
      link = placed_link m n call l c.in-Some.link c.transmit.new.link c.args.kept.wish true there.2 (ap (λ (x : Kept). x.wish) k) one c.in_ok-request_id.ensures.ok.1;
    })

pub returns-then-is_oneway-clause-out : goal.returns-then-is_oneway-clause-out
returns-then-is_oneway-clause-out c = λ m call st k.
    let there = has_link c.args.self.now.link c.in-Some.link m c.in-Some.is st.link in
    let id = c.in_ok-request_id.request_id in
    says_sent c.args.number call m there.0 (kept_by c.args.kept) id c.args.out.now.items c.transmit.new.out.items there.1 k (next_id m there.0 c.in-Some.link id there.2 c.in_ok-request_id.ensures.ok.0) c.in_ok-request_id.ensures.out

pub returns-clause-stands : goal.returns-clause-stands
returns-clause-stands c = λ m call st k.
    let s = c.args.self.now in
    let n = c.args.number in
    let there = has_link s.link c.in-Some.link m c.in-Some.is st.link in
    let l = there.0 in
    let id = c.in_ok-request_id.request_id in
    let ed = next_id m l c.in-Some.link id there.2 c.in_ok-request_id.ensures.ok.0 in
    let two : is_oneway c.args.kept.wish ≡ false = sym c.is_oneway.ensures ∙ c.if-is_oneway.false in
    placed_sent _ n call m l false there.1 (ap (λ (x : Kept). is_oneway x.wish) (sym k) ∙ two) (record {
      fields = record {
        client_id = st.fields.client_id;
        version = st.fields.version;
        limits = st.fields.limits;
        last = refl;
        pending = kept_push m s.pending.items c.reserve.new.self.items c.push_reserved-2.new.self.items _ (begun n call (Some (suc l.given))) c.push_reserved-2.ensures.items c.in_ok-reserve.ensures.items st.fields.pending (kept_sent m call (kept_by c.args.kept) n id l.given k ed);
        completions = ap (λ xs. map completion_of xs) c.in_ok-reserve-2.ensures.items ∙ st.fields.completions;
        rising = rising-push m.last m.pending (begun n call (Some (suc l.given))) (subst (λ l. l < n) st.fields.last c.requires.greater) st.fields.rising;
        keeps = st.fields.keeps;
        forwards = st.fields.forwards;
      };
      link = placed_link m n call l c.in-Some.link c.transmit.new.link c.args.kept.wish false there.2 (ap (λ (x : Kept). x.wish) k) two c.in_ok-request_id.ensures.ok.1;
    })

pub returns-clause-out : goal.returns-clause-out
returns-clause-out c = λ m call st k.
    let there = has_link c.args.self.now.link c.in-Some.link m c.in-Some.is st.link in
    let id = c.in_ok-request_id.request_id in
    says_sent c.args.number call m there.0 (kept_by c.args.kept) id c.args.out.now.items c.transmit.new.out.items there.1 k (next_id m there.0 c.in-Some.link id there.2 c.in_ok-request_id.ensures.ok.0) c.in_ok-request_id.ensures.out
