use Rattle.std.proofs.Common.{◌≡◌, ℕ, List, [], ◌∷◌, map, refl, ap, subst, ◌∙◌}
use Rattle.ft_client.specs.Clients.{Called, Fed, Taken, gives}
use Rattle.ft_client.specs.Ends.{numbered}
use Rattle.ft_orb.specs.History.{Event, Lost, Opened, Piece}
use Rattle.ft_orb.specs.Standing.{Stands}
use Rattle.uses.specs.Retrying.{answered, connected, connected_again, first_sent, goes_on, next_call, second_sent, unconnected, unheard}
use Rattle.uses.specs.Serving.{tickets_made, tickets_output}
use Rattle.uses.specs.Tickets.{tickets_meaning}
use Rattle.uses.proofs.Served.{appended}
use Rattle.uses.proofs.retrying.call_twice.Goals as goal

pub returns-clause-ended : goal.returns-clause-ended
returns-clause-ended c = λ limits k0 s0.
    let made = tickets_made limits in
    let first = c.deref.result.now in
    let second = c.deref-2.result.now in
    let k1 = c.in_ok-connected.ensures.stands (unconnected limits) k0 in
    let k2 = c.in_ok-call.ensures.stands (connected limits) k1 in
    let k3 = c.lost.ensures.stands (goes_on (Called 50 next_call) (connected limits)) k2 in
    let none = appended c.connected.new.out.items c.new-request.result.items [] [] c.new-request.ensures.items (c.in_ok-connected.ensures.out (unconnected limits) k0) refl in
    let one : first ≡ first_sent limits = c.deref.ensures.value ∙ appended c.call.new.out.items c.connected.new.out.items (first_sent limits) (first_sent limits) none (c.in_ok-call.ensures.out (connected limits) k1) refl in
    let two : second ≡ second_sent limits = c.deref-2.ensures.value ∙ appended c.connected-2.new.out.items c.new-again.result.items (second_sent limits) (second_sent limits) c.new-again.ensures.items (c.in_ok-connected-2.ensures.out (unheard limits) k3) refl in
    let s1 = (c.in_ok-connect.ensures.table made [] s0).1 in
    let f1 = c.in_ok-feed.ensures.table made (Opened 1 ∷ []) s1 in
    let s2 = c.lost-2.ensures.table made (Piece 1 50 first ∷ Opened 1 ∷ []) f1.3 in
    let s3 = (c.in_ok-connect-2.ensures.table made (Lost 1 ∷ Piece 1 50 first ∷ Opened 1 ∷ []) s2).1 in
    let f2 = c.in_ok-feed-2.ensures.table made (Opened 2 ∷ Lost 1 ∷ Piece 1 50 first ∷ Opened 1 ∷ []) s3 in
    let k4 = c.in_ok-connected-2.ensures.stands (unheard limits) k3 in
    let output : List ℕ → List ℕ → List ℕ = λ x y. tickets_output limits (Opened 2 ∷ Lost 1 ∷ Piece 1 50 x ∷ Opened 1 ∷ []) (Piece 2 60 y) in
    let is : c.feed-2.new.out.items ≡ output first second = appended c.feed-2.new.out.items c.new-answer.result.items f2.0 (output first second) c.new-answer.ensures.items f2.1 f2.2.0 in
    let told : c.deref-3.result.now ≡ answered limits = c.deref-3.ensures.value ∙ is ∙ (λ i. output (one i) (two i)) in
    let k5 = c.in_ok-feed-3.ensures.stands (connected_again limits) k4 in
    c.take_completion.ensures.given (goes_on (Fed c.deref-3.result.now) (connected_again limits)) k5
    ∙ ap (λ (octets : List ℕ). map numbered (gives Taken (goes_on (Fed octets) (connected_again limits)))) told

pub returns-clause-stands : goal.returns-clause-stands
returns-clause-stands c = λ limits k0 s0.
    let made = tickets_made limits in
    let first = c.deref.result.now in
    let second = c.deref-2.result.now in
    let k1 = c.in_ok-connected.ensures.stands (unconnected limits) k0 in
    let k2 = c.in_ok-call.ensures.stands (connected limits) k1 in
    let k3 = c.lost.ensures.stands (goes_on (Called 50 next_call) (connected limits)) k2 in
    let none = appended c.connected.new.out.items c.new-request.result.items [] [] c.new-request.ensures.items (c.in_ok-connected.ensures.out (unconnected limits) k0) refl in
    let one : first ≡ first_sent limits = c.deref.ensures.value ∙ appended c.call.new.out.items c.connected.new.out.items (first_sent limits) (first_sent limits) none (c.in_ok-call.ensures.out (connected limits) k1) refl in
    let two : second ≡ second_sent limits = c.deref-2.ensures.value ∙ appended c.connected-2.new.out.items c.new-again.result.items (second_sent limits) (second_sent limits) c.new-again.ensures.items (c.in_ok-connected-2.ensures.out (unheard limits) k3) refl in
    let s1 = (c.in_ok-connect.ensures.table made [] s0).1 in
    let f1 = c.in_ok-feed.ensures.table made (Opened 1 ∷ []) s1 in
    let s2 = c.lost-2.ensures.table made (Piece 1 50 first ∷ Opened 1 ∷ []) f1.3 in
    let s3 = (c.in_ok-connect-2.ensures.table made (Lost 1 ∷ Piece 1 50 first ∷ Opened 1 ∷ []) s2).1 in
    let f2 = c.in_ok-feed-2.ensures.table made (Opened 2 ∷ Lost 1 ∷ Piece 1 50 first ∷ Opened 1 ∷ []) s3 in
    let past : List ℕ → List ℕ → List Event = λ x y. Piece 2 60 y ∷ Opened 2 ∷ Lost 1 ∷ Piece 1 50 x ∷ Opened 1 ∷ [] in
    subst (λ y. Stands tickets_meaning made c.feed-2.new.self (past (first_sent limits) y)) two (subst (λ x. Stands tickets_meaning made c.feed-2.new.self (past x second)) one f2.3)
