use Rattle.std.proofs.Common.{Some, take, refl, sym, subst}
use Rattle.ft_client.specs.Clients.{parted, told_of}
use Rattle.ft_client.specs.Private.{IsFedTo}
use Rattle.ft_client.specs.Standing.{FtStands, down}
use Rattle.ft_client.proofs.Fed.{calls_of, ended_is, fields_after, going_stands}
use Rattle.ft_client.proofs.Placing.{has_link}
use Rattle.ft_client.proofs.client.FtClient.feed.Goals as goal

pub returns-in-Ok-false-clause-stands : goal.returns-in-Ok-false-clause-stands
returns-in-Ok-false-clause-stands c = λ m st.
    let f = st.fields in
    let there = has_link c.args.self.now.link c.in-Some.link m c.in-Some.is st.link in
    let new = c.feed_on-fed.new in
    let h = subst (λ b. IsFedTo m there.0 c.args.piece.now b new.pending.items new.completions.items new.link) c.in-Ok-false.field-0-test (c.in-Ok-false.ensures.stands m there.0 (sym f.keeps) (sym f.forwards) (calls_of c.args.self.now m f) there.2) in
    going_stands _ new.link c.args.piece.now m there.0 there.1 refl f.client_id f.version f.limits f.last f.keeps f.forwards h

pub returns-in-Ok-true-clause-stands : goal.returns-in-Ok-true-clause-stands
returns-in-Ok-true-clause-stands c = λ m st.
    let f = st.fields in
    let there = has_link c.args.self.now.link c.in-Some.link m c.in-Some.is st.link in
    let new = c.feed_on-fed.new in
    let h = subst (λ b. IsFedTo m there.0 c.args.piece.now b new.pending.items new.completions.items new.link) c.in-Ok-true.field-0-test (c.in-Ok-true.ensures.stands m there.0 (sym f.keeps) (sym f.forwards) (calls_of c.args.self.now m f) there.2) in
    subst (λ n. FtStands c.part.new.self n) (ended_is c.args.piece.now m there.0 there.1 h.1)
    (c.part.ensures.stands (told_of (down m.limits) c.args.piece.now m (Some there.0)) (fields_after _ (down m.limits) c.args.piece.now m there.0 f.client_id f.version f.limits f.last f.keeps f.forwards h.0))

pub returns-in-Err-clause-err : goal.returns-in-Err-clause-err
returns-in-Err-clause-err c = λ m st.
    let f = st.fields in
    let there = has_link c.args.self.now.link c.in-Some.link m c.in-Some.is st.link in
    let w = c.in-Err.ensures.err m there.0 (sym f.keeps) (sym f.forwards) (calls_of c.args.self.now m f) there.2 in
    let front = take w.0 c.args.piece.now in (
      w.0,
      w.1,
      subst (λ o. FtStands c.part-in-Err.new.self (parted (told_of (down m.limits) front m o))) (sym there.1)
          (c.part-in-Err.ensures.stands (told_of (down m.limits) front m (Some there.0)) (fields_after _ (down m.limits) front m there.0 f.client_id f.version f.limits f.last f.keeps f.forwards w.2)),
    )
