use Rattle.std.proofs.Common.{List, ℕ, subst, sym}
use Rattle.ft_orb.specs.Carrying.{due_in}
use Rattle.ft_orb.specs.Parking.{RepliesLate, told_in}
use Rattle.ft_orb.proofs.Carried.{carries-none}
use Rattle.ft_orb.proofs.engine.Engine.reply.Goals as goal

pub reply_with-requires-clause-carries : goal.reply_with-requires-clause-carries
reply_with-requires-clause-carries g c = carries-none (due_in c.args.self.now c.args.number) (told_in c.args.self.now c.args.number)

pub returns-clause-late : goal.returns-clause-late
returns-clause-late g c s held calls past waiting outcome w rest h told waits =
    subst (λ (xs : List ℕ). RepliesLate g.C.Catalogue.offers s held calls past waiting c.args.number outcome w rest c.reply_with.result c.reply_with.new.self c.args.out.now.items xs) (sym c.reply_with.ensures.sent) (c.reply_with.ensures.late s held calls past waiting outcome w rest h told waits)
