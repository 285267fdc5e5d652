use Rattle.std.proofs.Common.{◌≡◌, Ok, Err, ◌≤◌, inl, inr, refl, ◌∙◌, arith}
use Rattle.std.proofs.lemmas.Grind.{common_steps}
use Rattle.ft_orb.specs.declared.error.ParkError.TheVariants.{Full, Memory, Share}
use Rattle.ft_orb.specs.Engines.{awaited_lent, waits_in}
use Rattle.ft_orb.specs.Parking.{parked_count, parked_of, places_of, places_of_one}
use Rattle.lemonrudder.specs.Tickets.{waiting_by}
use Rattle.lemonrudder.proofs.Handing.{by_ticket, open_by, waits-are}
use Rattle.lemonrudder.proofs.Parking.{done_not, no_place, not_memory}
use Rattle.lemonrudder.proofs.serving.Serving.park.Goals as goal

pub park-requires : goal.park-requires
park-requires c = record { «open» = open_by c.args.ticket (waits_in c.args.self.now.engine) (awaited_lent c.in_ok-number.field-0) c.in_ok-number.ensures }

pub returns-in-Err-Full : goal.returns-in-Err-Full
returns-in-Err-Full c =
    let s = c.args.self.now in
    let ended : c.park.result ≡ Err Full = grind (arith, common_steps) in
    by_ticket (waiting_by c.args.ticket (waits_in s.engine)) (awaited_lent c.in_ok-number.field-0) _ _ _ _ c.in_ok-number.ensures
    (λ none. (refl, (c.park.ensures.unchanged (inl ended), refl, (λ q. (refl, refl), refl), λ q. (refl, refl))), λ some. absurd (some (inl (c.park.ensures.full.0 ended))))

pub returns-in-Err-Share : goal.returns-in-Err-Share
returns-in-Err-Share c =
    let s = c.args.self.now in
    let w = awaited_lent c.in_ok-number.field-0 in
    let waits = waits-are c.args.ticket (waits_in s.engine) w c.in_ok-number.ensures in
    let ended : c.park.result ≡ Err Share = grind (arith, common_steps) in
    by_ticket (waiting_by c.args.ticket (waits_in s.engine)) w _ _ _ _ c.in_ok-number.ensures
    (λ none. (refl, (c.park.ensures.unchanged (inr ended), refl, (λ q. (refl, refl), refl), λ q. (refl, refl))), λ some. absurd (some (inr (rw waits at (c.park.ensures.share.0 ended).1))))

pub returns-in-Err-Memory : goal.returns-in-Err-Memory
returns-in-Err-Memory c =
    let s = c.args.self.now in
    let w = awaited_lent c.in_ok-number.field-0 in
    let waits = waits-are c.args.ticket (waits_in s.engine) w c.in_ok-number.ensures in
    let ended : c.park.result ≡ Err Memory = grind (arith, common_steps) in
    let e = rw ended at c.park.ensures.err in
    by_ticket (waiting_by c.args.ticket (waits_in s.engine)) w _ _ _ _ c.in_ok-number.ensures (
      λ none. absurd (not_memory c.park.result Memory ended (λ e. cc) (λ e. cc) (no_place (places_of s.engine) (parked_count s.engine) (λ v. places_of_one s.engine ≤ parked_of s.engine v.connection) (waits_in s.engine) w c.park.result waits c.park.ensures.full.1 c.park.ensures.share.1 none)),
      λ some. ((λ q. (refl, refl), refl), (λ q. (refl, refl)), (c.park.ensures.catalogue, refl), c.park.ensures.asks, c.park.ensures.ended, inl (refl, e.0, e.1, (λ x held calls past waiting moment octets written v asks. rw ended at c.park.ensures.kept x held calls past waiting moment octets written v asks), rw ended at c.park.ensures.uncounted)),
    )

pub returns-in-Ok : goal.returns-in-Ok
returns-in-Ok c =
    let s = c.args.self.now in
    let w = awaited_lent c.in_ok-number.field-0 in
    let waits = waits-are c.args.ticket (waits_in s.engine) w c.in_ok-number.ensures in
    let ended : c.park.result ≡ Ok tt = grind (arith, common_steps) in
    by_ticket (waiting_by c.args.ticket (waits_in s.engine)) w _ _ _ _ c.in_ok-number.ensures (
      λ none. absurd (done_not c.park.result ended (no_place (places_of s.engine) (parked_count s.engine) (λ v. places_of_one s.engine ≤ parked_of s.engine v.connection) (waits_in s.engine) w c.park.result waits c.park.ensures.full.1 c.park.ensures.share.1 none)),
      λ some. ((λ q. (refl, refl), refl), (λ q. (refl, refl)), (c.park.ensures.catalogue, refl), c.park.ensures.asks, c.park.ensures.ended, inr (refl, c.in-Ok.ensures.idle, c.in-Ok.ensures.parked.0 ∙ waits, c.in-Ok.ensures.parked.1, c.in-Ok.ensures.others, (λ x held calls past waiting moment octets written v a. c.in-Ok.ensures.late x held calls past waiting moment octets written v a), c.in-Ok.ensures.counted)),
    )
