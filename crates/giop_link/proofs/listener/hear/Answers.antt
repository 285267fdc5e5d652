use Rattle.std.proofs.Common.{take, Option, sym, ap, ◌∙◌}
use Rattle.giop_link.specs.declared.error.LinkFault.TheVariants.{Stream}
use Rattle.giop_link.specs.declared.listener.PeerEnd.{PeerEnd}
use Rattle.giop_link.specs.Listening.{IsFaultTo, spoken_by, told_with}
use Rattle.giop_link.proofs.Comings.{comes-to, err-by, fault-of, fewer-quiet, header-read, hears-none, hears-some, strays-to, told-header}
use Rattle.giop_link.proofs.listener.hear.Goals as goal

pub returns-in_err-taken-clause-fault : goal.returns-in_err-taken-clause-fault
returns-in_err-taken-clause-fault g c = λ s st going.
    let limits = c.args.assembler.now.limits in
    let e = c.in_err-taken.field-0.0 in
    err-by c.from_residual.result (Stream e) (IsFaultTo g.S.Side.meaning limits s c.args.piece.now) c.from_residual.ensures.1 (fault-of g.S.Side.meaning limits s c.args.piece.now e going (c.in_err-taken.ensures.fault s st))

pub returns-in_err-end-in-Some-clause-fault : goal.returns-in_err-end-in-Some-clause-fault
returns-in_err-end-in-Some-clause-fault g c = λ s st going.
    let limits = c.args.assembler.now.limits in
    let piece = c.args.piece.now in
    let f = c.in_ok-taken.ensures in
    let r = c.streams_grow.ensures in
    let e = c.in_err-end-in-Some.field-0.0 in
    let comes = comes-to g.S.Side.meaning limits s (take c.in_ok-taken.taken piece) c.feed.new.self going (f.messages s st) (f.stands s st) f.limits in
    err-by c.from_residual-in_err-end-in-Some.result e (IsFaultTo g.S.Side.meaning limits s piece) c.from_residual-in_err-end-in-Some.ensures.1
    (strays-to g.S.Side.meaning r.messages r.fault r.end limits s piece c.in_ok-taken.taken c.feed.new.self.message c.in-Some.message.header c.turn_of.result e comes (header-read c.feed.new.self.message c.in-Some.message c.in-Some.ensures.lent c.in-Some.ensures.valid) c.turn_of.ensures.by c.in_err-end-in-Some.was c.in_err-end-in-Some.ensures.strays)

pub returns-in_ok-end-in-Some-clause-heard : goal.returns-in_ok-end-in-Some-clause-heard
returns-in_ok-end-in-Some-clause-heard g c = λ s st going.
    let limits = c.args.assembler.now.limits in
    let t = take c.in_ok-taken.taken c.args.piece.now in
    let f = c.in_ok-taken.ensures in
    let comes = comes-to g.S.Side.meaning limits s t c.feed.new.self going (f.messages s st) (f.stands s st) f.limits in
    hears-some g.S.Side.meaning limits s t c.feed.new.self.message c.in-Some.message.header c.turn_of.result c.in_ok-end-in-Some.end c.feed.new.self comes (header-read c.feed.new.self.message c.in-Some.message c.in-Some.ensures.lent c.in-Some.ensures.valid) c.turn_of.ensures.by c.in_ok-end-in-Some.was (f.stands s st)

pub returns-in_ok-end-in-Some-clause-all : goal.returns-in_ok-end-in-Some-clause-all
returns-in_ok-end-in-Some-clause-all g c = λ none.
    absurd (told-header g.S.Side.meaning c.feed.new.self.message c.in-Some.message.header c.turn_of.result c.in_ok-end-in-Some.end (header-read c.feed.new.self.message c.in-Some.message c.in-Some.ensures.lent c.in-Some.ensures.valid) c.turn_of.ensures.by c.in_ok-end-in-Some.was none)

pub returns-in_ok-end-in-Some-clause-lent : goal.returns-in_ok-end-in-Some-clause-lent
returns-in_ok-end-in-Some-clause-lent g c = λ stays none.
    let m = c.feed.new.self.message in
    absurd (told-header g.S.Side.meaning m c.in-Some.message.header c.turn_of.result c.in_ok-end-in-Some.end (header-read c.feed.new.self.message c.in-Some.message c.in-Some.ensures.lent c.in-Some.ensures.valid) c.turn_of.ensures.by c.in_ok-end-in-Some.was
    (ap (λ (end : Option PeerEnd). told_with end (spoken_by g.S.Side.meaning m)) stays ∙ none))

pub returns-in-None-clause-heard : goal.returns-in-None-clause-heard
returns-in-None-clause-heard g c = λ s st going.
    let limits = c.args.assembler.now.limits in
    let t = take c.in_ok-taken.taken c.args.piece.now in
    let f = c.in_ok-taken.ensures in
    let comes = comes-to g.S.Side.meaning limits s t c.feed.new.self going (f.messages s st) (f.stands s st) f.limits in
    hears-none g.S.Side.meaning limits s t c.feed.new.self.message c.feed.new.self (sym c.in-None.ensures.lent) comes (f.stands s st)

pub returns-in_ok-end-in-Some-clause-first : goal.returns-in_ok-end-in-Some-clause-first
returns-in_ok-end-in-Some-clause-first g c = λ s st going k less.
    let limits = c.args.assembler.now.limits in
    let t = take c.in_ok-taken.taken c.args.piece.now in
    let f = c.in_ok-taken.ensures in
    let comes = comes-to g.S.Side.meaning limits s t c.feed.new.self going (f.messages s st) (f.stands s st) f.limits in
    fewer-quiet g.S.Side.meaning c.streams_grow.ensures.messages c.streams_grow.ensures.fault c.messages_are_whole.ensures.places limits s c.args.piece.now c.in_ok-taken.taken k c.feed.new.self.message f.within less comes

pub returns-in-None-clause-first : goal.returns-in-None-clause-first
returns-in-None-clause-first g c = λ s st going k less.
    let limits = c.args.assembler.now.limits in
    let t = take c.in_ok-taken.taken c.args.piece.now in
    let f = c.in_ok-taken.ensures in
    let comes = comes-to g.S.Side.meaning limits s t c.feed.new.self going (f.messages s st) (f.stands s st) f.limits in
    fewer-quiet g.S.Side.meaning c.streams_grow.ensures.messages c.streams_grow.ensures.fault c.messages_are_whole.ensures.places limits s c.args.piece.now c.in_ok-taken.taken k c.feed.new.self.message f.within less comes
