-- The steps of a connection.
use Rattle.std.proofs.Common.{◌≡◌, ℕ, ◌+◌, true, false, Bool, List, [], ◌∷◌, ◌++◌, drop, length, take, Option, Some, None, Result, is_some, refl, sym, ap, ◌∙◌, subst}
use Rattle.std.proofs.lemmas.Bool.{eq-eqb, false≢true}
use Rattle.giop_frames.specs.declared.limits.Limits.{Limits}
use Rattle.ft_log.specs.Performed.{Performed}
use Rattle.ft_log.specs.declared.system_exception.SystemName.{SystemName}
use Rattle.ft_client.specs.declared.client.FtClient.{FtClient}
use Rattle.ft_client.specs.Clients.{Fed, Linked}
use Rattle.ft_client.specs.Directions.{stream}
use Rattle.ft_client.specs.Lives.{Life, goes_on}
use Rattle.ft_client.specs.Messages.{Said, octets_said}
use Rattle.ft_client.specs.Standing.{FtStands, down}
use Rattle.ft_orb.specs.declared.events.Note.{Note}
use Rattle.ft_orb.specs.declared.events.Note.TheVariants.{Done, Memory, Refused}
use Rattle.ft_orb.specs.ExactlyOnce.{OneExpiration}
use Rattle.ft_orb.specs.History.{Close, Event, Lost, Opened, Piece, arrivals, connection_of}
use Rattle.ft_orb.specs.Laws.{is_memory}
use Rattle.ft_orb.specs.Outputs.{Made, Writes, after, law_says, output, table_says}
use Rattle.ft_objects.specs.Servants.{Meaning}
use Rattle.ft_orb.specs.Standing.{Shown, Stands}
use Rattle.ft_ends.specs.declared.wire.Wire.{Wire as CodeWire}
use Rattle.ft_ends.specs.Laws.{TellingsAreWritten, sides_of}
use Rattle.ft_ends.specs.Private.{Holds, IsIdle, IsUnused, IsWay, IsWire, tells}
use Rattle.ft_orb.specs.Tellings.{Telling, octets_told}
use Rattle.ft_ends.specs.Tellings.{law_told}
use Rattle.ft_ends.specs.World.{Wire, coming_down, fed_off, fed_with, going_up}
use Rattle.ft_ends.proofs.Served.{tellings-here}
use Rattle.ft_ends.proofs.Ways.{its-number, way-empty, way-first, way-left, way-more, way-same}
use Rattle.ft_ends.proofs.Written.{stream-append}

-- an event that no failed allocation cut short
pub plain-after : (limits : Limits) (past : List Event) (e : Event) (note : Note) → is_memory note ≡ false → after limits past e note ≡ e ∷ past
plain-after limits past e Done h = refl
plain-after limits past e Refused h = refl
plain-after limits past e (Memory handled answered) h = absurd (false≢true (sym h))

plain-written : (limits : Limits) (knows : List ℕ → Bool) (answers : List Event → Event → List (Result Performed SystemName)) (past : List Event) (e : Event) (octets : List ℕ) (note : Note) → is_memory note ≡ false
    → Writes limits knows answers past e octets note → octets ≡ output limits knows answers past e
plain-written limits knows answers past e octets Done h w = w.0
plain-written limits knows answers past e octets Refused h w = w.0
plain-written limits knows answers past e octets (Memory handled answered) h w = absurd (false≢true (sym h))

module _ {State : Type 0} (meaning : Meaning State) (made : Made State) (written : TellingsAreWritten meaning) where
  -- what an event writes goes onto its connection
  told-more : (was is : CodeWire) (past : List Event) (x : Wire) (e : Event) (octets : List ℕ) → connection_of e ≡ x.number → octets ≡ output made.limits meaning.knows (law_says meaning made) past e
      → is.down.octets.items ≡ was.down.octets.items ++ octets → is.down.delivered ≡ was.down.delivered → IsWire (tells meaning made past) was x → IsWay is.down (stream octets_told (tells meaning made (e ∷ past) x.number)) x.came
  told-more was is past x e octets on said out at h =
      let says = law_told meaning made in
      let here = tellings-here says e past x.number (eq-eqb (connection_of e) x.number on) in
      let all = stream-append octets_told (tells meaning made past x.number) (says past e) in
      way-same is.down (stream octets_told (tells meaning made past x.number) ++ stream octets_told (says past e)) (stream octets_told (tells meaning made (e ∷ past) x.number)) x.came
      (sym (ap (stream octets_told) here ∙ all))
      (way-more was.down is.down (stream octets_told (tells meaning made past x.number)) (stream octets_told (says past e)) x.came
      (out ∙ ap (λ (o : List ℕ). was.down.octets.items ++ o) (said ∙ sym (written made past e))) at h.down)

  -- the next octets come up
  pub up-is : (server : Shown State) (was is : CodeWire) (past : List Event) (x : Wire) (count now number : ℕ) (piece : List ℕ) (note : Note) → was.number ≡ Some number → piece ≡ take count (drop was.up.delivered was.up.octets.items) → is_memory note ≡ false
      → Stands meaning made server (after made.limits past (Piece number now piece) note)
      → ((octets : List ℕ) × (is.down.octets.items ≡ was.down.octets.items ++ octets) × (OneExpiration (arrivals made.limits (after made.limits past (Piece number now piece) note)) → Writes made.limits meaning.knows (law_says meaning made) past (Piece number now piece) octets note))
      → is.number ≡ was.number → is.down.delivered ≡ was.down.delivered → ((all : List ℕ) (went : ℕ) → IsWay was.up all went → IsWay is.up all (went + length (take count (drop went all))))
      → IsWire (tells meaning made past) was x
      → OneExpiration (arrivals made.limits (Piece x.number now (take count (going_up (sides_of meaning made down) x)) ∷ past))
      → Stands meaning made server (Piece x.number now (take count (going_up (sides_of meaning made down) x)) ∷ past)
      × IsWire (tells meaning made (Piece x.number now (take count (going_up (sides_of meaning made down) x)) ∷ past)) is (record x { went = x.went + length (take count (going_up (sides_of meaning made down) x)) })
  up-is server was is past x count now number piece note has from plain stands out same at passed h one =
      let next = take count (drop x.went (stream octets_said x.said)) in
      let e = Piece x.number now next in
      let n = its-number (tells meaning made past) was x number has h in
      let octets_are : piece ≡ next = from ∙ ap (take count) (sym (way-left was.up (stream octets_said x.said) x.went h.up)) in
      let event : Piece number now piece ≡ e = λ i. Piece (n i) now (octets_are i) in
      let whole : after made.limits past (Piece number now piece) note ≡ e ∷ past = plain-after made.limits past (Piece number now piece) note plain ∙ ap (λ (d : Event). d ∷ past) event in
      let wrote = out.2 (subst (λ (p : List Event). OneExpiration (arrivals made.limits p)) (sym whole) one) in
      let said : out.0 ≡ output made.limits meaning.knows (law_says meaning made) past e =
      plain-written made.limits meaning.knows (law_says meaning made) past (Piece number now piece) out.0 note plain wrote ∙ ap (output made.limits meaning.knows (law_says meaning made) past) event in (
        subst (λ (p : List Event). Stands meaning made server p) whole stands,
        record {
          number = same ∙ h.number;
          up = passed (stream octets_said x.said) x.went h.up;
          down = told-more was is past x e out.0 refl said out.1 at h;
        },
      )

  -- the server closes a connection
  pub shut-is : (server : Shown State) (was is : CodeWire) (past : List Event) (x : Wire) (number : ℕ) (note : Note) → was.number ≡ Some number → is_memory note ≡ false → Stands meaning made server (after made.limits past (Close number) note)
      → (octets : List ℕ) → is.down.octets.items ≡ was.down.octets.items ++ octets → Writes made.limits meaning.knows (table_says meaning made) past (Close number) octets note
      → is.number ≡ was.number → is.down.delivered ≡ was.down.delivered → is.up ≡ was.up → IsWire (tells meaning made past) was x
      → Stands meaning made server (Close x.number ∷ past) × IsWire (tells meaning made (Close x.number ∷ past)) is x
  shut-is server was is past x number note has plain stands octets out wrote same at same_up h =
      let n = its-number (tells meaning made past) was x number has h in
      let whole : after made.limits past (Close number) note ≡ Close x.number ∷ past = plain-after made.limits past (Close number) note plain ∙ ap (λ (d : ℕ). Close d ∷ past) n in
      let said : octets ≡ output made.limits meaning.knows (law_says meaning made) past (Close x.number) =
      plain-written made.limits meaning.knows (table_says meaning made) past (Close number) octets note plain wrote ∙ ap (λ (d : ℕ). output made.limits meaning.knows (table_says meaning made) past (Close d)) n in (
        subst (λ (p : List Event). Stands meaning made server p) whole stands,
        record {
          number = same ∙ h.number;
          up = subst (λ w. IsWay w (stream octets_said x.said) x.went) (sym same_up) h.up;
          down = told-more was is past x (Close x.number) octets refl said out at h;
        },
      )

module _ {State : Type 0} (meaning : Meaning State) (made : Made State) where
  -- a new connection
  pub joined-is : (server : Shown State) (was is : CodeWire) (past : List Event) (number : ℕ) (note : Note) (said : List Said) → is_memory note ≡ false → Stands meaning made server (after made.limits past (Opened number) note)
      → is.number ≡ Some number → is.up.octets.items ≡ was.up.octets.items ++ stream octets_said said → is.up.delivered ≡ was.up.delivered → is.down ≡ was.down → tells meaning made past number ≡ [] → IsUnused was
      → Stands meaning made server (Opened number ∷ past) × IsWire (tells meaning made (Opened number ∷ past)) is (record { number = number; said = said; went = 0; came = 0 })
  joined-is server was is past number note said plain stands has out at same fresh h =
      let e = Opened number in
      let here : tells meaning made (e ∷ past) number ≡ [] = tellings-here (law_told meaning made) e past number (eq-eqb number number refl) ∙ ap (λ (ts : List Telling). ts ++ law_told meaning made past e) fresh in (
        subst (λ (p : List Event). Stands meaning made server p) (plain-after made.limits past e note plain) stands,
        record {
          number = has;
          up = way-first was.up is.up (stream octets_said said) out at h.up;
          down = way-empty is.down (stream octets_told (tells meaning made (e ∷ past) number)) (ap (stream octets_told) here) (subst IsIdle (sym same) h.down);
        },
      )

  -- octets come down: the client keeps its connection, or leaves it
  module _ (server : Shown State) (client : FtClient) (is : CodeWire) (past : List Event) (opened : ℕ) (life : Life) (x : Wire) (count : ℕ) where
    abbrev next : List ℕ
    next = take count (coming_down (sides_of meaning made down) past x)

    abbrev fed : Life
    fed = goes_on (down life.client.limits) (Fed next) life

    pub stayed-is : Stands meaning made server past → FtStands client fed.client → is_some fed.client.link ≡ true → IsWire (tells meaning made past) is (record x { came = x.came + length next })
        → Holds meaning made server client is (fed_with (sides_of meaning made down) past opened life x next)
    stayed-is stands is_fed connected wire_is = by-link fed.client.link connected
      where
        by-link : (l : Option Linked) → is_some l ≡ true → Holds meaning made server client is (fed_off (sides_of meaning made down) past opened fed x (length next) l)
        by-link None none = absurd (false≢true none)
        by-link (Some l) some = record { server_is = stands; client_is = is_fed; wire_is = wire_is }

    pub left-is : Stands meaning made server (Lost x.number ∷ past) → FtStands client fed.client → is_some fed.client.link ≡ false → IsUnused is → Holds meaning made server client is (fed_with (sides_of meaning made down) past opened life x next)
    left-is stands is_fed gone wire_is = by-link fed.client.link gone
      where
        by-link : (l : Option Linked) → is_some l ≡ false → Holds meaning made server client is (fed_off (sides_of meaning made down) past opened fed x (length next) l)
        by-link None none = record { server_is = stands; client_is = is_fed; wire_is = wire_is }
        by-link (Some l) some = absurd (false≢true (sym some))
