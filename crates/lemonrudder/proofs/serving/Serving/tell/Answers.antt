use Rattle.std.proofs.Common.{inr, ◌≡◌, ◌==◌, ◌||◌, if◌then◌else◌, ◌∙◌, ℕ, true, false, List, [], ◌∷◌, ◌++◌, Some, drop, map, append-nil, refl, sym, ap, subst, is_err}
use Rattle.std.specs.BTreeMap.{is_at}
use Rattle.std.specs.BTreeSet.{contains}
use Rattle.std.specs.List.{list_any}
use Rattle.std.specs.Ordering.{nat_cmp}
use Rattle.ft_objects.specs.Families.{families_offer}
use Rattle.ft_orb.specs.Carrying.{due_in, reply_with}
use Rattle.ft_orb.specs.declared.ending.Ending.TheVariants.{Memory}
use Rattle.ft_orb.specs.Deeds.{Missed, Reached}
use Rattle.ft_orb.specs.History.{Lost}
use Rattle.ft_orb.specs.Parking.{Stays, put_at, still, told_in}
use Rattle.lemonrudder.specs.Connected.{Notes, owed_in}
use Rattle.lemonrudder.proofs.Asked.{asked-idle, only-only, only-there}
use Rattle.giop_core.specs.Items.{item_at}
use Rattle.lemonrudder.proofs.Carrying.{due-is, sent-so, when-made, when-missed}
use Rattle.lemonrudder.proofs.Noting.{noted-noted, notes-after}
use Rattle.lemonrudder.proofs.Owing.{grows}
use Rattle.lemonrudder.proofs.Tellings.{cut-back, due-after, due-kept, missed-ends, named-with, on-err, on-ok, reached-ends, reply-made, reply-missed, tells-missed, tells-reached}
use Rattle.lemonrudder.proofs.serving.Serving.tell.Goals as goal

pub returns-then-is_err-clause-late : goal.returns-then-is_err-clause-late
returns-then-is_err-clause-late c x held calls past waiting outcome carried w rest car st telling is on =
    let s = c.args.self.now in
    let d = c.take-due.result in
    let missed : is_err c.reply_carrying.result ≡ true = sym c.is_err.ensures.value ∙ c.if-is_err.true in
    let h = reply-missed x held calls c.args.number carried outcome past waiting w rest c.reply_carrying.result c.reply_carrying.new.engine d.octets.items _ missed (c.reply_carrying.ensures.late x held calls past waiting outcome w rest st telling is) in
    let sent = sent-so (map item_at c.args.contexts.now) (carried w) (due_in s.engine c.args.number) (told_in s.engine c.args.number) w.asker outcome c.reply_carrying.result d.octets.items c.reply_carrying.new.out.items (due-is x held calls s.engine past waiting c.args.number outcome w rest st telling is) telling (car w) c.reply_carrying.ensures.sent in
    let same : c.reply_carrying.new.out.items ≡ d.octets.items = sent ∙ (ap (λ (l : List ℕ). d.octets.items ++ l) (when-missed c.reply_carrying.result (reply_with (carried w) w.asker outcome) missed) ∙ append-nil d.octets.items) in (
      Missed w,
      refl,
      tells-missed x held calls c.args.number carried outcome past waiting w rest s _ is h.1
          (λ q. (c.note.ensures.same q).0 ∙ only-there s.connections c.put.new.self c.args.connection (only-only c.args.connection s.connections c.take-due.new.self c.put.new.self c.take-due.ensures.only c.put.ensures.only) q)
          (λ q there. (c.note.ensures.same q).1 ∙ due-kept c.args.connection q s.connections c.take-due.new.self c.put.new.self d (record d { octets = c.reply_carrying.new.out }) c.take-due.ensures.owed c.take-due.ensures.only c.put.ensures.owed c.put.ensures.only (ap (drop d.taken) same) there)
          (λ q. refl)
          (subst (λ y. Notes y (Some Memory) s.connections c.note.new.self) (sym on)
          (notes-after c.args.connection (Some Memory) s.connections c.put.new.self c.note.new.self (c.put.ensures.only.0 ∙ c.take-due.ensures.only.0) (noted-noted s.connections c.take-due.new.self c.put.new.self c.take-due.ensures.noted c.put.ensures.noted) c.note.ensures.noted))
          (missed-ends c.reply_carrying.result s.engine c.reply_carrying.new.engine w.connection missed (c.reply_carrying.ensures.short x held calls past waiting w rest st is)),
    )

pub returns-then-is_ok-clause-late : goal.returns-then-is_ok-clause-late
returns-then-is_ok-clause-late c x held calls past waiting outcome carried w rest car st telling is on =
    let s = c.args.self.now in
    let d = c.take-due.result in
    let made : is_err c.reply_carrying.result ≡ false = sym c.is_err.ensures.value ∙ c.if-is_err.false in
    let h = reply-made x held calls c.args.number carried outcome past waiting w rest c.reply_carrying.result c.reply_carrying.new.engine d.octets.items _ made (c.reply_carrying.ensures.late x held calls past waiting outcome w rest st telling is) in
    let sent = sent-so (map item_at c.args.contexts.now) (carried w) (due_in s.engine c.args.number) (told_in s.engine c.args.number) w.asker outcome c.reply_carrying.result d.octets.items c.reply_carrying.new.out.items (due-is x held calls s.engine past waiting c.args.number outcome w rest st telling is) telling (car w) c.reply_carrying.ensures.sent in
    let made_of : c.reply_carrying.new.out.items ≡ d.octets.items ++ reply_with (carried w) w.asker outcome = sent ∙ ap (λ (l : List ℕ). d.octets.items ++ l) (when-made c.reply_carrying.result (reply_with (carried w) w.asker outcome) made) in
    let grown = grows d.taken d.octets.items (reply_with (carried w) w.asker outcome) c.reply_carrying.new.out.items c.take-due.ensures.placed made_of in
    let there = only-there s.connections c.put-then-is_ok.new.self c.args.connection (only-only c.args.connection s.connections c.take-due.new.self c.put-then-is_ok.new.self c.take-due.ensures.only c.put-then-is_ok.ensures.only) in
    let updates = c.insert.ensures.updates in
    let ok = sym c.is_ok.ensures.value ∙ c.if-is_ok.true in (
      Reached w,
      refl,
      tells-reached x held calls c.args.number carried outcome past waiting w rest s _ is h.1
          there
          (λ q at. subst (λ y. owed_in c.put-then-is_ok.new.self q ≡ owed_in s.connections q ++ (if y == q then reply_with (carried w) w.asker outcome else [])) (sym on)
          (due-after c.args.connection q (reply_with (carried w) w.asker outcome) s.connections c.take-due.new.self c.put-then-is_ok.new.self d (record d { octets = c.reply_carrying.new.out }) c.take-due.ensures.owed c.take-due.ensures.only c.put-then-is_ok.ensures.owed c.put-then-is_ok.ensures.only grown at))
          (λ q. subst (λ y. contains nat_cmp c.insert.new.self q ≡ (contains nat_cmp s.ready q || (y == q))) (sym on) (named-with c.args.connection q s.ready c.insert.new.self (on-ok c.insert.result _ ok updates)))
          (noted-noted s.connections c.take-due.new.self c.put-then-is_ok.new.self c.take-due.ensures.noted c.put-then-is_ok.ensures.noted)
          (reached-ends c.reply_carrying.result made c.reply_carrying.ensures.ended),
    )

pub returns-clause-late : goal.returns-clause-late
returns-clause-late c x held calls past waiting outcome carried w rest car st telling is on =
    let s = c.args.self.now in
    let d = c.take-due.result in
    let made : is_err c.reply_carrying.result ≡ false = sym c.is_err.ensures.value ∙ c.if-is_err.false in
    let h = reply-made x held calls c.args.number carried outcome past waiting w rest c.reply_carrying.result c.reply_carrying.new.engine d.octets.items _ made (c.reply_carrying.ensures.late x held calls past waiting outcome w rest st telling is) in
    let sent = sent-so (map item_at c.args.contexts.now) (carried w) (due_in s.engine c.args.number) (told_in s.engine c.args.number) w.asker outcome c.reply_carrying.result d.octets.items c.reply_carrying.new.out.items (due-is x held calls s.engine past waiting c.args.number outcome w rest st telling is) telling (car w) c.reply_carrying.ensures.sent in
    let made_of : c.reply_carrying.new.out.items ≡ d.octets.items ++ reply_with (carried w) w.asker outcome = sent ∙ ap (λ (l : List ℕ). d.octets.items ++ l) (when-made c.reply_carrying.result (reply_with (carried w) w.asker outcome) made) in
    let cut : c.truncate.new.self.items ≡ d.octets.items = c.truncate.ensures.items ∙ cut-back d.octets.items (reply_with (carried w) w.asker outcome) c.size-before.result c.reply_carrying.new.out.items c.size-before.ensures made_of in
    let there = only-there s.connections c.put-2.new.self c.args.connection (only-only c.args.connection s.connections c.take-due.new.self c.put-2.new.self c.take-due.ensures.only c.put-2.ensures.only) in (
      Missed w,
      refl,
      tells-missed x held calls c.args.number carried outcome past waiting w rest s _ is
          (subst (λ y. Stays families_offer x held calls c.lost.new.self (Lost y ∷ past) (still x.limits (Lost y ∷ past) (put_at c.args.number rest waiting))) (sym on) (c.lost.ensures.late x held calls past (put_at c.args.number rest waiting) h.1))
          (λ q. (c.note-2.ensures.same q).0 ∙ there q)
          (λ q at. (c.note-2.ensures.same q).1 ∙ due-kept c.args.connection q s.connections c.take-due.new.self c.put-2.new.self d (record d { octets = c.truncate.new.self }) c.take-due.ensures.owed c.take-due.ensures.only c.put-2.ensures.owed c.put-2.ensures.only (ap (drop d.taken) cut) at)
          (λ q. ap (λ (l : List ℕ). list_any (is_at (nat_cmp q)) l) (on-err c.insert.result _ (sym c.is_ok.ensures.value ∙ c.if-is_ok.false) c.insert.ensures.err))
          (subst (λ y. Notes y (Some Memory) s.connections c.note-2.new.self) (sym on)
          (notes-after c.args.connection (Some Memory) s.connections c.put-2.new.self c.note-2.new.self (c.put-2.ensures.only.0 ∙ c.take-due.ensures.only.0) (noted-noted s.connections c.take-due.new.self c.put-2.new.self c.take-due.ensures.noted c.put-2.ensures.noted) c.note-2.ensures.noted))
          (inr (λ q. c.lost.ensures.ended q ∙ reached-ends c.reply_carrying.result made c.reply_carrying.ensures.ended q)),
    )

pub invariant_of-self : goal.invariant_of-self
invariant_of-self c = record { asked = asked-idle c.note.new.self c.reply_carrying.new.engine (c.reply_carrying.ensures.waits ∙ c.requires.idle) }
