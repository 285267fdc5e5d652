use Rattle.std.proofs.Common.{◌≡◌, ℕ, List, ◌++◌, drop, Ok, Err, Result, inl, inr, ap, refl, sym, ◌∙◌, arith}
use Rattle.std.proofs.lemmas.Grind.{common_steps}
use Rattle.giop_link.specs.Linking.{close_connection}
use Rattle.ft_orb.specs.declared.error.CloseError.TheVariants as closing
use Rattle.ft_orb.specs.Engines.{awaited_lent, waits_in}
use Rattle.lemonrudder.specs.Tickets.{waiting_by}
use Rattle.lemonrudder.proofs.Asked.{asked-there, only-only, only-same}
use Rattle.lemonrudder.proofs.Handing.{by_ticket, open_by, waits-are}
use Rattle.lemonrudder.proofs.Noting.{noted-noted, notes-why, only-noted}
use Rattle.lemonrudder.proofs.Owing.{grows}
use Rattle.lemonrudder.proofs.serving.Serving.goodbye.Goals as goal

pub goodbye-given_up-requires : goal.goodbye-given_up-requires
goodbye-given_up-requires c = record { «open» = open_by c.args.ticket (waits_in c.args.self.now.engine) (awaited_lent c.in_ok-asked.asked) c.in_ok-asked.ensures }

pub returns-in-Ok : goal.returns-in-Ok
returns-in-Ok c =
    let s = c.args.self.now in
    let w = awaited_lent c.in_ok-asked.asked in
    let d = c.take-due.result in
    let waits = waits-are c.args.ticket (waits_in s.engine) w c.in_ok-asked.ensures in
    let there = asked-there s.connections s.engine w waits s.asked in
    let only = only-only w.connection s.connections c.take-due.new.self c.put.new.self c.take-due.ensures.only c.put.ensures.only in
    let new = (c.note.ensures.same w.connection).1 ∙ c.put.ensures.owed (c.take-due.ensures.only.0 ∙ there) in
    let e = c.in-Ok.ensures in
    let x = c.in-Ok.field-0 in
    by_ticket (waiting_by c.args.ticket (waits_in s.engine)) w _ _ _ _ c.in_ok-asked.ensures (
      λ some. absurd (let y = (c.goodbye-given_up.ensures.waits w waits).1 some in let z : ◌≡◌ {A = Result ℕ _} (Ok x) (Err closing.Waits) = sym c.in-Ok.is ∙ y in cc),
      λ nobody. inr (
        refl,
        e.idle,
        (only-noted w.connection s.connections c.put.new.self c.note.new.self only c.note.ensures.same, refl),
        new ∙ (grows d.taken d.octets.items close_connection c.goodbye-given_up.new.out.items c.take-due.ensures.placed e.closed ∙ ap (λ (l : List ℕ). l ++ close_connection) c.take-due.ensures.owed),
        (c.goodbye-given_up.ensures.catalogue, refl),
        (c.goodbye-given_up.ensures.asks, c.goodbye-given_up.ensures.parked, e.counted),
        x,
        λ y held calls past waiting moment octets written v asks. (e.counts y held calls past waiting moment octets written v asks, e.late y held calls past waiting moment octets written v asks),
        e.ended w waits,
        notes-why w.connection c.ending-why.result _ s.connections c.put.new.self c.note.new.self c.ending-why.ensures only.0 (noted-noted s.connections c.take-due.new.self c.put.new.self c.take-due.ensures.noted c.put.ensures.noted) c.note.ensures.noted,
      ),
    )

pub returns-in-Err-Waits : goal.returns-in-Err-Waits
returns-in-Err-Waits c =
    let s = c.args.self.now in
    let w = awaited_lent c.in_ok-asked.asked in
    let d = c.take-due.result in
    let waits = waits-are c.args.ticket (waits_in s.engine) w c.in_ok-asked.ensures in
    let there = asked-there s.connections s.engine w waits s.asked in
    let new = c.put.ensures.owed (c.take-due.ensures.only.0 ∙ there) in
    let ended : c.goodbye-given_up.result ≡ Err closing.Waits = grind (arith, common_steps) in
    let same = rw ended at c.goodbye-given_up.ensures.unchanged in
    let as-it-was = only-same w.connection s.connections c.put.new.self (only-only w.connection s.connections c.take-due.new.self c.put.new.self c.take-due.ensures.only c.put.ensures.only) (new ∙ (ap (drop d.taken) same.1 ∙ c.take-due.ensures.owed)) in
    by_ticket (waiting_by c.args.ticket (waits_in s.engine)) w _ _ _ _ c.in_ok-asked.ensures (
      λ some. (refl, (same.0, refl, (as-it-was, refl), noted-noted s.connections c.take-due.new.self c.put.new.self c.take-due.ensures.noted c.put.ensures.noted)),
      λ nobody. absurd (let y = (c.goodbye-given_up.ensures.waits w waits).0 ended in omega (arith, y, nobody)),
    )

pub returns-in-Err-Memory : goal.returns-in-Err-Memory
returns-in-Err-Memory c =
    let s = c.args.self.now in
    let w = awaited_lent c.in_ok-asked.asked in
    let d = c.take-due.result in
    let waits = waits-are c.args.ticket (waits_in s.engine) w c.in_ok-asked.ensures in
    let there = asked-there s.connections s.engine w waits s.asked in
    let new = c.put.ensures.owed (c.take-due.ensures.only.0 ∙ there) in
    let ended : c.goodbye-given_up.result ≡ Err closing.Memory = grind (arith, common_steps) in
    let same = rw ended at c.goodbye-given_up.ensures.unchanged in
    let as-it-was = only-same w.connection s.connections c.put.new.self (only-only w.connection s.connections c.take-due.new.self c.put.new.self c.take-due.ensures.only c.put.ensures.only) (new ∙ (ap (drop d.taken) same.1 ∙ c.take-due.ensures.owed)) in
    by_ticket (waiting_by c.args.ticket (waits_in s.engine)) w _ _ _ _ c.in_ok-asked.ensures (
      λ some. absurd (let y = (c.goodbye-given_up.ensures.waits w waits).1 some in let z : ◌≡◌ {A = Result ℕ _} (Err closing.Memory) (Err closing.Waits) = sym ended ∙ y in cc),
      λ nobody. inl (refl, (same.0, refl, (as-it-was, refl), noted-noted s.connections c.take-due.new.self c.put.new.self c.take-due.ensures.noted c.put.ensures.noted)),
    )
