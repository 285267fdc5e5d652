use Rattle.std.proofs.Common.{[]}
use Rattle.std.proofs.lemmas.Result.{on_err_weaker, on_ok_weaker}
use Rattle.ft_client.specs.Clients.{parted}
use Rattle.ft_client.proofs.Joining.{fields_parted, new_linked}
use Rattle.ft_client.proofs.client.FtClient.connected.Goals as goal

pub returns-clause-stands : goal.returns-clause-stands
returns-clause-stands c =
    on_ok_weaker c.send_due.result (λ sends m st.
    sends (parted m) (record { given = 0; received = [] }) (fields_parted c.args.self.now m c.requires st)
    (new_linked m c.args.self.now.limits c.args.self.now.version c.new-link.result st.fields.limits st.fields.version c.new-link.ensures.stands (λ l. (c.streams_are_heard.ensures.nothing l).1))) c.send_due.ensures.stands

pub returns-clause-out : goal.returns-clause-out
returns-clause-out c =
    on_ok_weaker c.send_due.result (λ sends m st.
    sends (parted m) (record { given = 0; received = [] }) (fields_parted c.args.self.now m c.requires st)
    (new_linked m c.args.self.now.limits c.args.self.now.version c.new-link.result st.fields.limits st.fields.version c.new-link.ensures.stands (λ l. (c.streams_are_heard.ensures.nothing l).1))) c.send_due.ensures.out

pub returns-clause-err : goal.returns-clause-err
returns-clause-err c = on_err_weaker c.send_due.result (λ fails m st. fails m st.fields) c.send_due.ensures.err

pub returns-clause-needed : goal.returns-clause-needed
returns-clause-needed c =
    on_err_weaker c.send_due.result (λ needs m st.
    needs (parted m) (record { given = 0; received = [] }) (fields_parted c.args.self.now m c.requires st)
    (new_linked m c.args.self.now.limits c.args.self.now.version c.new-link.result st.fields.limits st.fields.version c.new-link.ensures.stands (λ l. (c.streams_are_heard.ensures.nothing l).1))) c.send_due.ensures.needed
