use Rattle.std.proofs.Common.{[], ap, arith, refl}
use Rattle.ft_log.specs.Logged.{Logged}
use Rattle.ft_orb.specs.declared.events.Note.TheVariants.{Refused}
use Rattle.ft_orb.specs.Engines.{as_server}
use Rattle.ft_orb.specs.History.{Piece}
use Rattle.ft_orb.specs.Owners.{owning}
use Rattle.ft_orb.specs.Parking.{numbering}
use Rattle.ft_orb.specs.Standing.{table_of}
use Rattle.ft_orb.proofs.Books.{book_by}
use Rattle.ft_orb.proofs.Desks.{forgot-alike}
use Rattle.ft_orb.proofs.Late.{ends-late}
use Rattle.ft_orb.proofs.Owning.{rests-ends, still-idle}
use Rattle.ft_orb.proofs.Pieces.{fed-forgot}
use Rattle.ft_orb.proofs.engine.Engine.tick.Goals as goal

pub returns-clause-table : goal.returns-clause-table
returns-clause-table g c owner calls past other h gone =
    let x = fed-forgot (book_by (owning owner)) (as_server c.args.self.now calls) (record (as_server c.args.self.now calls) { clock = c.tick.new.self.clock; log = c.tick.new.self.log }) past other c.args.moment [] h.stands (record { limits = refl; capacity = ap (λ (l : Logged). l.capacity) c.tick.ensures.log; share = ap (λ (l : Logged). l.share) c.tick.ensures.log; greatest = refl; others = λ q n. refl }) c.tick.ensures.clock (forgot-alike _ (table_of (as_server c.args.self.now calls)) _ _ refl (ap (λ (l : Logged). l.entries) c.tick.ensures.log)) gone refl in
    (x.0, record { offer_is = h.offer_is; idle = still-idle c.args.self.now.asking c.args.self.now.keeper.slot _ c.requires.idle; stands = x.1 })

pub returns-clause-late : goal.returns-clause-late
returns-clause-late g c s held calls past waiting other h gone =
    ends-late g.C.Catalogue.offers s c.streams_are_heard.ensures.stays held calls c.args.self.now _ past waiting (Piece other c.args.moment []) Refused [] [] h (λ late r.
    let x = fed-forgot (book_by (numbering s late held)) (as_server c.args.self.now calls) (record (as_server c.args.self.now calls) { clock = c.tick.new.self.clock; log = c.tick.new.self.log }) past other c.args.moment [] r.stands (record { limits = refl; capacity = ap (λ (l : Logged). l.capacity) c.tick.ensures.log; share = ap (λ (l : Logged). l.share) c.tick.ensures.log; greatest = refl; others = λ q n. refl }) c.tick.ensures.clock (forgot-alike _ (table_of (as_server c.args.self.now calls)) _ _ refl (ap (λ (l : Logged). l.entries) c.tick.ensures.log)) gone refl in
    rests-ends g.C.Catalogue.offers (numbering s late held) calls past (Piece other c.args.moment []) Refused _ [] [] r.offer_is (still-idle c.args.self.now.asking c.args.self.now.keeper.slot _ c.requires.idle) ([], refl, x.0, x.1))
    refl refl (omega arith)
