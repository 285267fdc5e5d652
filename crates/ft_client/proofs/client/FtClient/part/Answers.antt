use Rattle.std.proofs.Common.{List, ap, ◌∙◌, map}
use Rattle.ft_client.specs.declared.pending.Pending.{Pending as CodePending}
use Rattle.ft_client.specs.Keeping.{kept_by, unmarked}
use Rattle.ft_client.proofs.Models.{rising_unsent, unmarked_kept, unsent_ids, written_over}
use Rattle.ft_client.proofs.client.FtClient.part.Goals as goal

pub returns-clause-stands : goal.returns-clause-stands
returns-clause-stands c = λ m st. record {
  fields = record {
    client_id = st.client_id;
    version = st.version;
    limits = st.limits;
    last = st.last;
    pending = ap (λ (ps : List CodePending). map kept_by ps) (written_over c.forget_sent.new.pending c.args.self.now.pending.items _ (c.forget_sent.ensures.len ∙ c.deref_mut.ensures.len)) ∙ c.forget_sent.ensures.kept ∙ ap (λ (ps : List CodePending). unmarked (map kept_by ps)) c.deref_mut.ensures.value ∙ ap unmarked st.pending ∙ unmarked_kept m.version m.client_id m.pending;
    completions = st.completions;
    rising = rising_unsent m.last m.pending st.rising;
    keeps = st.keeps;
    forwards = st.forwards;
  };
  link = unsent_ids m.pending;
}
