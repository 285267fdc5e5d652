use Rattle.std.proofs.Common.{rules, [], arith, refl}
use Rattle.std.proofs.lemmas.Bool.{true≢false}
use Rattle.ft_orb.specs.History.{Opened}
use Rattle.ft_orb.specs.declared.events.Note.TheVariants.{Refused}
use Rattle.ft_orb.proofs.Meanwhile.{then-late}
use Rattle.ft_orb.proofs.engine.Engine.is_new.Goals as goal

pub returns-then-connection-greatest-clause-late : goal.returns-then-connection-greatest-clause-late
returns-then-connection-greatest-clause-late g c s held calls past waiting h = (
  let r = h.rests in search rules,
  λ no. then-late g.C.Catalogue.offers s c.streams_are_heard.ensures.stays held calls c.args.self.now _ past waiting (Opened c.args.connection) Refused [] [] h (λ late r. ([], refl, search rules)) refl refl (omega arith),
)

pub returns-else-connection-greatest-clause-late : goal.returns-else-connection-greatest-clause-late
returns-else-connection-greatest-clause-late g c s held calls past waiting h = (let r = h.rests in search rules, λ no. absurd (true≢false no))

pub returns-in_default-clause-late : goal.returns-in_default-clause-late
returns-in_default-clause-late g c s held calls past waiting h = (let r = h.rests in search rules, λ no. absurd (true≢false no))

pub returns-then-connection-greatest-clause-asks : goal.returns-then-connection-greatest-clause-asks
returns-then-connection-greatest-clause-asks g c s held calls past waiting moment octets written w a =
    let k = a.asks.keeps in
    let counts = k.stands.greatest c.args.connection in
    let same = k.same.greatest in
    search rules

pub returns-else-connection-greatest-clause-asks : goal.returns-else-connection-greatest-clause-asks
returns-else-connection-greatest-clause-asks g c s held calls past waiting moment octets written w a =
    let k = a.asks.keeps in
    let counts = k.stands.greatest c.args.connection in
    let same = k.same.greatest in
    search rules

pub returns-in_default-clause-asks : goal.returns-in_default-clause-asks
returns-in_default-clause-asks g c s held calls past waiting moment octets written w a =
    let k = a.asks.keeps in
    let counts = k.stands.greatest c.args.connection in
    let same = k.same.greatest in
    search rules
