use Rattle.std.proofs.Common.{◌≡◌, ℕ, ◌<◌, ◌≤◌, List, [], ◌∷◌, ◌++◌, Option, IsSome, refl, sym, ap, subst, ◌∙◌, arith}
use Rattle.ft_log.specs.Performed.{Performed}
use Rattle.std.proofs.lemmas.Grind.{common_steps}
use Rattle.ft_orb.specs.declared.events.Note.{Note}
use Rattle.ft_orb.specs.declared.events.Written.{Written}
use Rattle.ft_orb.proofs.Acting.{tells-all, tells-more, tells-none}
use Rattle.ft_orb.proofs.telling.tell_all.Goals as goal

less-by : (a b c : ℕ) → a < b → b ≤ c → a < c
less-by a b c h k = omega (arith, h, k)

pub loop-connection-init : goal.loop-connection-init
loop-connection-init g c = record {
  idle = c.requires.idle;
  room = c.requires.room;
  asks = refl;
  catalogue = refl;
  telling = refl;
  others = λ q apart. (refl, refl);
  told = λ s h outcome st told. tells-none g.C.Catalogue.offers s h c.args.number outcome c.args.engine.now c.args.out.now.items st told;
}

pub unwrap-requires : goal.unwrap-requires
unwrap-requires g c =
    let left = c.in-Some.ensures.left in
    let room = c.loop-connection.invariant.room in
    let some = left.1 in
    let fewer = left.2 in
    grind (arith, common_steps)

pub loop-connection-smaller : goal.loop-connection-smaller
loop-connection-smaller g c =
    let left = c.in-Some.ensures.left in
    less-by _ _ _ (c.reply.ensures.fewer left.0 left.1) left.2

pub loop-connection-preserved : goal.loop-connection-preserved
loop-connection-preserved g c =
    let left = c.in-Some.ensures.left in
    let fewer = c.reply.ensures.fewer left.0 left.1 in
    let fewer-left = left.2 in
    let room = c.loop-connection.invariant.room in
    record {
      idle = c.reply.ensures.waits ∙ c.due.ensures.waits ∙ c.loop-connection.invariant.idle;
      room = grind (arith, common_steps);
      asks = c.reply.ensures.asks ∙ c.due.ensures.asks ∙ c.loop-connection.invariant.asks;
      catalogue = c.reply.ensures.catalogue ∙ c.due.ensures.catalogue ∙ c.loop-connection.invariant.catalogue;
      telling = (c.reply.ensures.parked c.args.number).1 ∙ (c.in-Some.ensures.parked c.args.number).1 ∙ c.loop-connection.invariant.telling;
      others = λ q apart.
          let a = c.reply.ensures.parked q in
          let b = c.in-Some.ensures.parked q in
          let x = c.loop-connection.invariant.others q apart in
          (a.0 ∙ b.0 ∙ x.0, a.1 ∙ b.1 ∙ x.1);
      told = λ s h outcome st told.
          let x = c.loop-connection.invariant.told s h outcome st told in
          let entry : Written = record { connection = c.in-Some.connection; octets = c.reply.new.out; note = c.served-note.result } in
          let grown : c.push.new.self.items ≡ c.loop-connection.out.items ++ entry ∷ [] = rw (c.push.ensures.items, c.unwrap.ensures) (refl {A = List Written}) in
          tells-more g.C.Catalogue.offers s h c.args.number outcome c.loop-connection.engine c.due.new.self c.reply.new.self c.args.out.now.items c.loop-connection.out.items x c.in-Some.connection (c.in-Some.ensures.late s) (c.in-Some.ensures.parked c.args.number).1
          c.reply.result c.new-octets.result.items c.reply.new.out.items c.new-octets.ensures.items (c.reply.ensures.late s) (c.reply.ensures.parked c.args.number).1
          entry (ap (λ (n : Note). record { connection = c.in-Some.connection; octets = c.reply.new.out.items; note = n }) c.served-note.ensures) c.push.new.self.items grown;
    }

pub returns-clause-told : goal.returns-clause-told
returns-clause-told g c s h outcome st told =
    tells-all g.C.Catalogue.offers s h c.args.number outcome c.loop-connection.engine c.due.new.self c.args.out.now.items c.loop-connection.out.items (c.loop-connection.invariant.told s h outcome st told) (c.in_default.ensures.late s)

pub returns-clause-done : goal.returns-clause-done
returns-clause-done g c some = c.in_default.ensures.done (subst (λ (o : Option Performed). IsSome o) (sym c.loop-connection.invariant.telling) some) refl

pub returns-clause-others : goal.returns-clause-others
returns-clause-others g c q apart =
    let a = c.due.ensures.others q apart in
    let x = c.loop-connection.invariant.others q apart in
    (a.0 ∙ x.0, a.1 ∙ x.1)
