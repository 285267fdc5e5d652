-- The steps of a client, its wire and the server, as the world has them.
use Rattle.std.proofs.Common.{◌≡◌, ℕ, suc, ◌+◌, true, false, List, [], ◌∷◌, length, take, Option, Some, None, is_some, Result, Ok, Err, refl, sym, ap, ◌∙◌, subst}
use Rattle.std.specs.Result.{OnErr, OnOk, is_err}
use Rattle.std.proofs.lemmas.Bool.{false≢true}
use Rattle.ft_client.specs.declared.client.FtClient.{FtClient}
use Rattle.ft_client.specs.Clients.{Joined, Parted, after, says}
use Rattle.ft_client.specs.Standing.{FtStands, down}
use Rattle.ft_orb.specs.ExactlyOnce.{OneExpiration}
use Rattle.ft_orb.specs.History.{Close, Event, Lost, Opened, Piece, arrivals}
use Rattle.ft_orb.specs.Outputs.{Made}
use Rattle.ft_objects.specs.Servants.{Meaning}
use Rattle.ft_orb.specs.Standing.{Shown, Stands}
use Rattle.ft_ends.specs.declared.wire.Wire.{Wire as CodeWire}
use Rattle.ft_ends.specs.Laws.{sides_of}
use Rattle.ft_ends.specs.Private.{Holds, IsUnused, IsWire, IsWireFor, tells}
use Rattle.ft_ends.specs.World as world
use Rattle.ft_ends.specs.World.{Member, Moved, Wire, coming_down, connected, cut, fed_with, going_up, moved_to, shut, up}

-- what follows from both of two clauses
pub ok-both : {T E A B C : Type 0} (r : Result T E) → (A → B → C) → OnOk r A → OnOk r B → OnOk r C
ok-both (Ok x) f a b = f a b
ok-both (Err e) f a b = tt

pub ok-then : {T E A : Type 0} (r : Result T E) → is_err r ≡ false → OnOk r A → A
ok-then (Ok x) is a = a
ok-then (Err e) is a = absurd (false≢true (sym is))

pub err-then : {T E A : Type 0} (r : Result T E) → is_err r ≡ true → OnErr r A → A
err-then (Ok x) is a = absurd (false≢true is)
err-then (Err e) is a = a

module _ {State : Type 0} (meaning : Meaning State) (made : Made State) (past : List Event) (opened : ℕ) (m : Member) where
  holds-still : (old new : Shown State) (client next : FtClient) (was is : CodeWire) (v : Moved) → new ≡ old → next ≡ client → is ≡ was → Holds meaning made old client was v → Holds meaning made new next is v
  holds-still old new client next was is v server_same client_same wire_same h = record {
    server_is = subst (λ s. Stands meaning made s v.past) (sym server_same) h.server_is;
    client_is = subst (λ c. FtStands c v.member.life.client) (sym client_same) h.client_is;
    wire_is = subst (λ u. IsWireFor (tells meaning made v.past) u v.member.wire) (sym wire_same) h.wire_is;
  }

  pub up-moved : (count now : ℕ) (old new : Shown State) (client : FtClient) (was is : CodeWire)
      → ((x : Wire) → Stands meaning made old past → IsWire (tells meaning made past) was x → OneExpiration (arrivals made.limits (Piece x.number now (take count (going_up (sides_of meaning made down) x)) ∷ past))
      → Stands meaning made new (Piece x.number now (take count (going_up (sides_of meaning made down) x)) ∷ past)
      × IsWire (tells meaning made (Piece x.number now (take count (going_up (sides_of meaning made down) x)) ∷ past)) is (record x { went = x.went + length (take count (going_up (sides_of meaning made down) x)) }))
      → (was.number ≡ None → (new ≡ old) × (is ≡ was)) → Holds meaning made old client was (moved_to past opened m) → OneExpiration (arrivals made.limits (up (sides_of meaning made down) past opened count now m m.wire).past)
      → Holds meaning made new client is (up (sides_of meaning made down) past opened count now m m.wire) × (opened ≡ (up (sides_of meaning made down) past opened count now m m.wire).opened)
  up-moved count now old new client was is fed idle h one = by-wire m.wire refl one
    where
      by-wire : (o : Option Wire) → m.wire ≡ o → OneExpiration (arrivals made.limits (up (sides_of meaning made down) past opened count now m o).past)
          → Holds meaning made new client is (up (sides_of meaning made down) past opened count now m o) × (opened ≡ (up (sides_of meaning made down) past opened count now m o).opened)
      by-wire None at one =
          let none = subst (λ o. IsWireFor (tells meaning made past) was o) at h.wire_is in
          let same = idle none.number in
          (holds-still old new client client was is (moved_to past opened m) same.0 refl same.1 h, refl)
      by-wire (Some x) at one =
          let some = subst (λ o. IsWireFor (tells meaning made past) was o) at h.wire_is in
          let r = fed x h.server_is some one in
          (record { server_is = r.0; client_is = h.client_is; wire_is = r.1 }, refl)

  pub shut-moved : (old new : Shown State) (client : FtClient) (was is : CodeWire)
      → ((x : Wire) → Stands meaning made old past → IsWire (tells meaning made past) was x → Stands meaning made new (Close x.number ∷ past) × IsWire (tells meaning made (Close x.number ∷ past)) is x)
      → (was.number ≡ None → (new ≡ old) × (is ≡ was)) → Holds meaning made old client was (moved_to past opened m)
      → Holds meaning made new client is (shut (sides_of meaning made down) past opened m m.wire) × (opened ≡ (shut (sides_of meaning made down) past opened m m.wire).opened)
  shut-moved old new client was is closed idle h = by-wire m.wire refl
    where
      by-wire : (o : Option Wire) → m.wire ≡ o → Holds meaning made new client is (shut (sides_of meaning made down) past opened m o) × (opened ≡ (shut (sides_of meaning made down) past opened m o).opened)
      by-wire None at =
          let none = subst (λ o. IsWireFor (tells meaning made past) was o) at h.wire_is in
          let same = idle none.number in
          (holds-still old new client client was is (moved_to past opened m) same.0 refl same.1 h, refl)
      by-wire (Some x) at =
          let some = subst (λ o. IsWireFor (tells meaning made past) was o) at h.wire_is in
          let r = closed x h.server_is some in
          (record { server_is = r.0; client_is = h.client_is; wire_is = subst (λ o. IsWireFor (tells meaning made (Close x.number ∷ past)) is o) (sym at) r.1 }, refl)

  pub cut-moved : (old new : Shown State) (client next : FtClient) (was is : CodeWire)
      → ((x : Wire) → Stands meaning made old past → FtStands client m.life.client → IsWire (tells meaning made past) was x
      → Stands meaning made new (Lost x.number ∷ past) × FtStands next (after (down m.life.client.limits) Parted m.life.client) × IsUnused is)
      → (was.number ≡ None → (new ≡ old) × (next ≡ client) × (is ≡ was)) → Holds meaning made old client was (moved_to past opened m)
      → Holds meaning made new next is (cut (sides_of meaning made down) past opened m m.wire) × (opened ≡ (cut (sides_of meaning made down) past opened m m.wire).opened)
  cut-moved old new client next was is gone idle h = by-wire m.wire refl
    where
      by-wire : (o : Option Wire) → m.wire ≡ o → Holds meaning made new next is (cut (sides_of meaning made down) past opened m o) × (opened ≡ (cut (sides_of meaning made down) past opened m o).opened)
      by-wire None at =
          let none = subst (λ o. IsWireFor (tells meaning made past) was o) at h.wire_is in
          let same = idle none.number in
          (holds-still old new client next was is (moved_to past opened m) same.0 same.1 same.2 h, refl)
      by-wire (Some x) at =
          let some = subst (λ o. IsWireFor (tells meaning made past) was o) at h.wire_is in
          let r = gone x h.server_is h.client_is some in
          (record { server_is = r.0; client_is = r.1; wire_is = r.2 }, refl)

  pub down-moved : (count : ℕ) (old new : Shown State) (client next : FtClient) (was is : CodeWire)
      → ((x : Wire) → Stands meaning made old past → FtStands client m.life.client → IsWire (tells meaning made past) was x
      → Holds meaning made new next is (fed_with (sides_of meaning made down) past opened m.life x (take count (coming_down (sides_of meaning made down) past x))))
      → (was.number ≡ None → (new ≡ old) × (next ≡ client) × (is ≡ was)) → Holds meaning made old client was (moved_to past opened m)
      → Holds meaning made new next is (world.down (sides_of meaning made down) past opened count m m.wire)
  down-moved count old new client next was is fed idle h = by-wire m.wire refl
    where
      by-wire : (o : Option Wire) → m.wire ≡ o → Holds meaning made new next is (world.down (sides_of meaning made down) past opened count m o)
      by-wire None at =
          let none = subst (λ o. IsWireFor (tells meaning made past) was o) at h.wire_is in
          let same = idle none.number in
          holds-still old new client next was is (moved_to past opened m) same.0 same.1 same.2 h
      by-wire (Some x) at =
          let some = subst (λ o. IsWireFor (tells meaning made past) was o) at h.wire_is in
          fed x h.server_is h.client_is some

  pub connect-moved : (now opened' : ℕ) (old new : Shown State) (client next : FtClient) (was is : CodeWire)
      → (Stands meaning made old past → FtStands client m.life.client → is_some m.life.client.link ≡ false → IsUnused was → tells meaning made past (suc opened) ≡ []
      → Stands meaning made new (Opened (suc opened) ∷ past) × FtStands next (after (down m.life.client.limits) (Joined now) m.life.client)
      × IsWire (tells meaning made (Opened (suc opened) ∷ past)) is (record { number = suc opened; said = says (Joined now) m.life.client; went = 0; came = 0 }) × (opened' ≡ suc opened))
      → (FtStands client m.life.client → is_some m.life.client.link ≡ true → (new ≡ old) × (opened' ≡ opened) × (next ≡ client) × (is ≡ was))
      → is_some m.life.client.link ≡ is_some m.wire → tells meaning made past (suc opened) ≡ [] → Holds meaning made old client was (moved_to past opened m)
      → Holds meaning made new next is (connected (sides_of meaning made down) past opened now m m.wire) × (opened' ≡ (connected (sides_of meaning made down) past opened now m m.wire).opened)
  connect-moved now opened' old new client next was is joined idle linked fresh h = by-wire m.wire refl
    where
      by-wire : (o : Option Wire) → m.wire ≡ o → Holds meaning made new next is (connected (sides_of meaning made down) past opened now m o) × (opened' ≡ (connected (sides_of meaning made down) past opened now m o).opened)
      by-wire None at =
          let none = subst (λ o. IsWireFor (tells meaning made past) was o) at h.wire_is in
          let r = joined h.server_is h.client_is (linked ∙ ap is_some at) none fresh in
          (record { server_is = r.0; client_is = r.1; wire_is = r.2 }, r.3)
      by-wire (Some x) at =
          let same = idle h.client_is (linked ∙ ap is_some at) in
          (holds-still old new client next was is (moved_to past opened m) same.0 same.2 same.3 h, same.1)
