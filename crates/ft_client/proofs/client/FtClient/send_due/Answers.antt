use Rattle.std.proofs.Common.{◌≡◌, List, ◌++◌, sym, ap, ◌∙◌, map}
use Rattle.ft_client.specs.declared.pending.Pending.{Pending as CodePending}
use Rattle.ft_client.specs.Clients.{resent_on}
use Rattle.ft_client.specs.Directions.{stream}
use Rattle.ft_client.specs.Keeping.{Kept, kept_by, kept_of, octets_again, sent_again, unmarked}
use Rattle.ft_client.specs.Messages.{octets_said}
use Rattle.ft_client.specs.Standing.{waiting_ids}
use Rattle.ft_client.proofs.Joining.{given_is, resent_link}
use Rattle.ft_client.proofs.Models.{octets_again_kept, rising_resent, rising_unsent, sent_again_kept, unmarked_kept, unsent_ids, written_over}
use Rattle.ft_client.proofs.client.FtClient.send_due.Goals as goal

abbrev each : List CodePending → List Kept
each ps = map kept_by ps

pub returns-clause-stands : goal.returns-clause-stands
returns-clause-stands c = λ m l st is.
    let now = c.args.now in
    let e : each c.deref_mut.result.now ≡ map (kept_of m.version m.client_id) m.pending = ap each c.deref_mut.ensures.value ∙ st.pending in
    let g = given_is m l c.args.link is in
    let h = c.in_default.ensures in
    let ended = c.end_sent.ensures.stands (resent_on now m l) (record {
      pending_are = ap each (written_over c.send_again.new.pending c.args.self.now.pending.items _ (h.len ∙ c.deref_mut.ensures.len)) ∙ h.pending ∙ (λ i. sent_again now (g i) (e i)) ∙ sent_again_kept m.version m.client_id now l.given m.pending;
      completions_are = st.completions;
      rising = rising_resent m.last now l.given m.pending st.rising;
    }) in
    record {
      fields = record {
        client_id = st.client_id;
        version = st.version;
        limits = st.limits;
        last = st.last;
        pending = ended.pending_are;
        completions = ended.completions_are;
        rising = ended.rising;
        keeps = st.keeps;
        forwards = st.forwards;
      };
      link = resent_link m l c.args.link c.send_again.new.link now (each c.deref_mut.result.now) e is (h.link is.ids (is.stands.ids_are ∙ ap (λ n. waiting_ids n is.ids) (sym g)));
    }

pub returns-clause-out : goal.returns-clause-out
returns-clause-out c = λ m l st is.
    let e : each c.deref_mut.result.now ≡ map (kept_of m.version m.client_id) m.pending = ap each c.deref_mut.ensures.value ∙ st.pending in
    let g = given_is m l c.args.link is in
    c.in_default.ensures.out ∙ (λ i. c.args.out.now.items ++ octets_again c.args.now (g i) (e i)) ∙ ap (λ x. c.args.out.now.items ++ x) (octets_again_kept m.version m.client_id c.args.now l.given m.pending)

pub returns-in-Err-clause-err : goal.returns-in-Err-clause-err
returns-in-Err-clause-err c = λ m st.
    let e : each c.deref_mut.result.now ≡ map (kept_of m.version m.client_id) m.pending = ap each c.deref_mut.ensures.value ∙ st.pending in
    let first = written_over c.send_again.new.pending c.args.self.now.pending.items _ (c.in-Err.ensures.len ∙ c.deref_mut.ensures.len) in
    record {
      fields = record {
        client_id = st.client_id;
        version = st.version;
        limits = st.limits;
        last = st.last;
        pending = ap each (written_over c.forget_sent.new.pending _ _ (c.forget_sent.ensures.len ∙ c.deref_mut-in-Err.ensures.len))
            ∙ c.forget_sent.ensures.kept
            ∙ ap (λ (ps : List CodePending). unmarked (each ps)) (c.deref_mut-in-Err.ensures.value ∙ first)
            ∙ c.in-Err.ensures.kept
            ∙ ap unmarked e
            ∙ unmarked_kept m.version m.client_id m.pending;
        completions = st.completions;
        rising = rising_unsent m.last m.pending st.rising;
        keeps = st.keeps;
        forwards = st.forwards;
      };
      link = unsent_ids m.pending;
    }

pub returns-in-Err-clause-needed : goal.returns-in-Err-clause-needed
returns-in-Err-clause-needed c = λ m l st is none.
    let e : each c.deref_mut.result.now ≡ map (kept_of m.version m.client_id) m.pending = ap each c.deref_mut.ensures.value ∙ st.pending in
    let g = given_is m l c.args.link is in
    c.in-Err.ensures.needed ((λ i. octets_again c.args.now (g i) (e i)) ∙ octets_again_kept m.version m.client_id c.args.now l.given m.pending ∙ ap (stream octets_said) none)
