use Rattle.ft_client.proofs.client.FtClient.lost.Goals as goal

pub returns-clause-stands : goal.returns-clause-stands
returns-clause-stands c = λ m st. c.part.ensures.stands m st.fields
