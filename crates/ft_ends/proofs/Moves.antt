-- What a step of one client does: to the client, to the server's past, and to nothing else.
use Rattle.std.proofs.Common.{◌≡◌, ◌⊎◌, inl, inr, ℕ, suc, ◌+◌, ◌<◌, ◌≤◌, max, nat_lt, Bool, true, false, cond, List, [], ◌∷◌, ◌++◌, drop, length, take, Option, Some, None, refl, sym, ap, ◌∙◌, subst, arith}
use Rattle.std.specs.List.{AllByRecursion, filter_map, list_all}
use Rattle.std.proofs.lemmas.Bool.{and_from, eq-eqb, lt-ltb, ne_eqb}
use Rattle.std.proofs.lemmas.List.{append-nil}
use Rattle.std.proofs.lemmas.Option.{none-some, same_Some}
use Rattle.cdr_core.specs.Spelling.{IsClean}
use Rattle.giop_core.specs.Content.{Rest}
use Rattle.giop_core.specs.declared.header.Version.{Version}
use Rattle.giop_frames.specs.declared.limits.Limits.{Limits}
use Rattle.giop_link.specs.Hearing.{Ending, Hearing, meaning_in, news}
use Rattle.giop_link.specs.Laws.{HearingGrows}
use Rattle.ft_client.specs.Clients.{Called, Client, Ended, Fed, Happening, Joined, Kept, KeptForwards, Linked, Parted, Pending, Recalled, Redirected, Resent, Resumed, Skipped, Ticked, answered, completed_if, ended_by, ending_of, gives, ids_after, is_kept, led_by, parted, parted_at, resent, says as client_says, settled, settled_all, told_of, unsent, waiting}
use Rattle.ft_client.specs.Directions.{stream}
use Rattle.ft_client.specs.Lives.{IsLife, Life, goes_on, moment_of, sent_at}
use Rattle.ft_client.specs.Messages.{Answer, Said, Transmission, located, octets_said, replied}
use Rattle.ft_orb.specs.ExactlyOnce.{Arrival}
use Rattle.ft_orb.specs.History.{Close, Event, Gone, Line, Lost, Opened, Piece, arrivals, clock, completed, connection_of, counted, does_count, line, origin}
use Rattle.ft_orb.specs.Outputs.{Made}
use Rattle.ft_orb.specs.Requests.{Wanted}
use Rattle.ft_objects.specs.Servants.{Meaning}
use Rattle.ft_ends.specs.Both.{IsSentIn}
use Rattle.ft_ends.specs.Fine.{AreFaithful, IsFineTelling}
use Rattle.ft_ends.specs.Laws.{ArePlain, AreShort, IsFineStep, IsPlain, sides_of}
use Rattle.ft_ends.specs.Private.{ClientLaws}
use Rattle.ft_orb.specs.Tellings.{Telling, octets_told}
use Rattle.ft_ends.specs.Tellings.{answer_in, law_told, tellings}
use Rattle.ft_ends.specs.World.{CallNow, Cancel, Connect, Cut, Down, KeepForwards, KeepOn, Member, Moved, RecallNow, RedirectTo, ResendNow, Shut, SkipTo, Step, Tick, UpTo, Wire, acted, connected, cut, down, extended, fed_off, moved, moved_to, shut, up}
use Rattle.ft_ends.proofs.Lists.{each-weaker}
use Rattle.ft_ends.proofs.Members.{IsLinked, IsMember, IsToldOf, IsWired, member-called, member-forwards, member-kept, member-recalled, member-redirected, member-resent, member-resumed, member-skipped, member-ticked, news-replies, own-clean, served-down, told-later, told-settled_all}
use Rattle.ft_ends.proofs.Served.{IsFrom, IsLine, IsReply, line-close, line-more, line-opened, line-other, line-piece, line-shut, piece-from, plain-from, served-here, tellings-here, tellings-other}
use Rattle.ft_ends.proofs.Small.{IsSmall, resent-as, settled_all-each, small-after, small-parted}
use Rattle.ft_ends.proofs.Spoken.{IsAmong, IsSent, asked_as-each, ids-few, spoken-none, spoken-pending, spoken-resent, spoken-sent}

-- Small facts.

if-last : (o : Option ℕ) (e : Ended) (c : Client) → ((completed_if o e c).last ≡ c.last) × ((completed_if o e c).link ≡ c.link)
if-last None e c = (refl, refl)
if-last (Some id) e c = (refl, refl)

answered-last : (keeps : Bool) (i : ℕ) (led : Option Rest) (e : Ended) (c : Client) → ((answered keeps i led e c).last ≡ c.last) × ((answered keeps i led e c).link ≡ c.link)
answered-last true i led e c = (refl, refl)
answered-last false i led e c = if-last (waiting i c.pending) e c

settled-last : (a : Answer) (c : Client) → (settled a c).last ≡ c.last
settled-last (replied i shown) c = (answered-last (is_kept shown c) i (led_by shown) (ended_by shown) c).0
settled-last (located i shown) c = refl

settled_all-last : (xs : List Answer) (c : Client) → (settled_all xs c).last ≡ c.last
settled_all-last [] c = refl
settled_all-last (x ∷ xs) c = settled_all-last xs (settled x c) ∙ settled-last x c

settled-linked : (a : Answer) (c : Client) → (settled a c).link ≡ c.link
settled-linked (replied i shown) c = (answered-last (is_kept shown c) i (led_by shown) (ended_by shown) c).1
settled-linked (located i shown) c = refl

settled_all-linked : (xs : List Answer) (c : Client) → (settled_all xs c).link ≡ c.link
settled_all-linked [] c = refl
settled_all-linked (x ∷ xs) c = settled_all-linked xs (settled x c) ∙ settled-linked x c

parted_at-completions : (e : Option Ending) (c : Client) → (parted_at e c).completions ≡ c.completions
parted_at-completions None c = refl
parted_at-completions (Some e) c = refl

extended-number : (said : List Said) (w : Option Wire) (x : Wire) → extended said w ≡ Some x → (y : Wire) × (w ≡ Some y) × (y.number ≡ x.number)
extended-number said None x is = absurd (none-some x is)
extended-number said (Some y) x is = (y, refl, ap (λ (z : Wire). z.number) (same_Some (record y { said = y.said ++ said }) x is))

-- a number is not the client's connection
abbrev pub IsOff : Option Wire → ℕ → Type 0
IsOff None y = Unit {0}
IsOff (Some x) y = x.number ≡ y → ⊥

off-here : (w : Option Wire) (x : Wire) (y : ℕ) → w ≡ Some x → IsOff w y → x.number ≡ y → ⊥
off-here None x y is off = absurd (none-some x is)
off-here (Some z) x y is off = λ same. off (ap (λ (v : Wire). v.number) (same_Some z x is) ∙ same)

from-sent : (sent : List (ℕ × Transmission)) (said : List Said) (a : Arrival Wanted) → AllByRecursion (λ s. IsAmong sent s) said → IsFrom said a → IsSentIn sent a
from-sent sent said a among from =
    let at = asked_as-each (λ s. IsAmong sent s) said from.transmission.request_id from.transmission from.asked among in
    record { now = at.0; transmission = from.transmission; origin = from.origin; among = at.1; content = from.content; field = from.field }

module _ {State : Type 0} (meaning : Meaning State) (made : Made State) (hears : Limits → Hearing Answer) where
  -- nothing was opened under this number yet
  abbrev pub IsUnopened : List Event → ℕ → Type 0
  IsUnopened past c = (line past c ≡ Gone) × (tellings (law_told meaning made) past c ≡ []) × (does_count past c ≡ true)

  -- what a step of a client of this id and version does
  pub record IsMove (past : List Event) (opened : ℕ) (id : List ℕ) (version : Version) (m : Member) (v : Moved) : Type 0 where
    pub member : IsMember meaning made v.past v.opened id version v.member
    pub more_sent : List (ℕ × Transmission)
    pub sent_is : v.member.life.sent ≡ m.life.sent ++ more_sent
    pub taken_is : v.member.life.taken ≡ m.life.taken
    pub more : List (Arrival Wanted)
    pub arrivals_are : arrivals made.limits v.past ≡ arrivals made.limits past ++ more
    pub fields : AllByRecursion (λ a. IsSentIn v.member.life.sent a) more
    pub plain : ArePlain more
    pub others : (y : ℕ) → y ≤ opened → IsOff m.wire y → (line v.past y ≡ line past y) × (tellings (law_told meaning made) v.past y ≡ tellings (law_told meaning made) past y)
    pub opens : opened ≤ v.opened
    pub unopened : (y : ℕ) → v.opened < y → IsUnopened v.past y
    pub number : (x : Wire) → v.member.wire ≡ Some x → ((opened < x.number) × (x.number ≤ v.opened)) ⊎ ((y : Wire) × (m.wire ≡ Some y) × (y.number ≡ x.number))

  linked-at : (past : List Event) (opened : ℕ) (sent : List (ℕ × Transmission)) (pending : List Pending) (last : ℕ) (l : Option Linked) (w : Option Wire) (x : Wire) → w ≡ Some x → IsWired meaning made past opened sent pending last l w
      → (k : Linked) × (l ≡ Some k) × IsLinked meaning made past opened sent pending last k x
  linked-at past opened sent pending last None None x is h = absurd (none-some x is)
  linked-at past opened sent pending last None (Some z) x is h = absurd h
  linked-at past opened sent pending last (Some l) None x is h = absurd h
  linked-at past opened sent pending last (Some l) (Some z) x is h = (l, refl, subst (λ (y : Wire). IsLinked meaning made past opened sent pending last l y) (same_Some z x is) h)

  -- completions stay explained while more arrives
  pub told-more : (past : List Event) (more : List (Arrival Wanted)) (id : List ℕ) (xs : List (ℕ × Ended)) → AllByRecursion (λ x. IsToldOf meaning made (arrivals made.limits past) id x) xs → AllByRecursion (λ x. IsToldOf meaning made (arrivals made.limits past ++ more) id x) xs
  told-more past more id xs h = each-weaker (λ x. IsToldOf meaning made (arrivals made.limits past) id x) (λ x. IsToldOf meaning made (arrivals made.limits past ++ more) id x) (λ x is. told-later meaning made (arrivals made.limits past) more id x.0 x.1 is) xs h

  -- an event on a connection leaves the others
  others-on : (past : List Event) (e : Event) (w : Option Wire) (x : Wire) → w ≡ Some x → connection_of e ≡ x.number → (y : ℕ) → IsOff w y → (line (e ∷ past) y ≡ line past y) × (tellings (law_told meaning made) (e ∷ past) y ≡ tellings (law_told meaning made) past y)
  others-on past e w x is on y off =
      let no = ne_eqb (connection_of e) y (λ same. off-here w x y is off (sym on ∙ same)) in
      (line-other e past y no, tellings-other (law_told meaning made) e past y no)

  -- .. and opens none
  unopened-on : (past : List Event) (opened : ℕ) (e : Event) → connection_of e ≤ opened → counted (e ∷ past) ≡ counted past → ((y : ℕ) → opened < y → IsUnopened past y) → (y : ℕ) → opened < y → IsUnopened (e ∷ past) y
  unopened-on past opened e low quiet h y above =
      let was = h y above in
      let no = ne_eqb (connection_of e) y (λ same. absurd (omega (arith, low, above, same))) in
      (line-other e past y no ∙ was.0, tellings-other (law_told meaning made) e past y no ∙ was.1, ap (λ (ns : List ℕ). list_all (λ d. nat_lt d y) ns) quiet ∙ was.2)

  module _ (past : List Event) (opened : ℕ) (id : List ℕ) (version : Version) (m : Member) (is : IsMember meaning made past opened id version m) (unopened : (y : ℕ) → opened < y → IsUnopened past y) (of_clients : ClientLaws) where
    -- a step that can't act
    move-still : IsMove past opened id version m (moved_to past opened m)
    move-still = record {
      member = is;
      more_sent = [];
      sent_is = sym (append-nil m.life.sent);
      taken_is = refl;
      more = [];
      arrivals_are = sym (append-nil (arrivals made.limits past));
      fields = tt;
      plain = tt;
      others = λ y low off. (refl, refl);
      opens = omega arith;
      unopened = unopened;
      number = λ x at. inr (x, at, refl);
    }

    -- a client's own doing
    move-acted : (h : Happening) → gives h m.life.client ≡ [] → IsMember meaning made past opened id version (acted (sides_of meaning made hears) h m) → IsMove past opened id version m (moved_to past opened (acted (sides_of meaning made hears) h m))
    move-acted h none after = record {
      member = after;
      more_sent = sent_at (moment_of h) (client_says h m.life.client);
      sent_is = refl;
      taken_is = ap (λ (xs : List (ℕ × Ended)). m.life.taken ++ xs) none ∙ append-nil m.life.taken;
      more = [];
      arrivals_are = sym (append-nil (arrivals made.limits past));
      fields = tt;
      plain = tt;
      others = λ y low off. (refl, refl);
      opens = omega arith;
      unopened = unopened;
      number = λ x at. inr (extended-number (client_says h m.life.client) m.wire x at);
    }

    module _ (x : Wire) (at : m.wire ≡ Some x) where
      abbrev linked : (k : Linked) × (m.life.client.link ≡ Some k) × IsLinked meaning made past opened m.life.sent m.life.client.pending m.life.client.last k x
      linked = linked-at past opened m.life.sent m.life.client.pending m.life.client.last m.life.client.link m.wire x at is.wired

      -- the connection is lost
      move-lost : (life : Life) → IsLife id version life → IsSmall life.client → AllByRecursion (λ y. IsToldOf meaning made (arrivals made.limits past) id y) life.client.completions → life.client.link ≡ None
          → life.sent ≡ m.life.sent ++ [] → life.taken ≡ m.life.taken → IsMove past opened id version m (moved_to (Lost x.number ∷ past) opened (record { life = life; wire = None }))
      move-lost life alive small ended none sent_is taken_is = record {
        member = record {
          life = alive;
          small = small;
          told = told-more past [] id life.client.completions ended;
          wired = subst (λ (l : Option Linked). IsWired meaning made (Lost x.number ∷ past) opened life.sent life.client.pending life.client.last l None) (sym none) tt;
        };
        more_sent = [];
        sent_is = sent_is;
        taken_is = taken_is;
        more = [];
        arrivals_are = refl;
        fields = tt;
        plain = tt;
        others = λ y low off. others-on past (Lost x.number) m.wire x at refl y off;
        opens = omega arith;
        unopened = unopened-on past opened (Lost x.number) linked.2.known refl unopened;
        number = λ y gone. absurd (none-some y gone);
      }

      -- it goes on, and more was received on it
      move-fed : (life : Life) (n : ℕ) (l : Linked) → IsLife id version life → IsSmall life.client → AllByRecursion (λ y. IsToldOf meaning made (arrivals made.limits past) id y) life.client.completions → life.client.link ≡ Some l
          → life.sent ≡ m.life.sent ++ [] → life.taken ≡ m.life.taken → IsLinked meaning made past opened life.sent life.client.pending life.client.last l (record x { came = x.came + n })
          → IsMove past opened id version m (moved_to past opened (record { life = life; wire = Some (record x { came = x.came + n }) }))
      move-fed life n l alive small ended some sent_is taken_is link = record {
        member = record {
          life = alive;
          small = small;
          told = ended;
          wired = subst (λ (k : Option Linked). IsWired meaning made past opened life.sent life.client.pending life.client.last k (Some (record x { came = x.came + n }))) (sym some) link;
        };
        more_sent = [];
        sent_is = sent_is;
        taken_is = taken_is;
        more = [];
        arrivals_are = sym (append-nil (arrivals made.limits past));
        fields = tt;
        plain = tt;
        others = λ y low off. (refl, refl);
        opens = omega arith;
        unopened = unopened;
        number = λ y here. inr (x, at, ap (λ (z : Wire). z.number) (same_Some (record x { came = x.came + n }) y here));
      }

      move-cut : IsMove past opened id version m (cut (sides_of meaning made hears) past opened m (Some x))
      move-cut =
          let down' = hears m.life.client.limits in
          move-lost (goes_on down' Parted m.life) (of_clients.goes_on id version down' Parted m.life is.life) (small-after of_clients.as_long down' Parted m.life.client tt is.small) is.told refl refl (append-nil m.life.taken)

      module _ (faithful : AreFaithful made.limits hears) (grow : HearingGrows meaning_in) (sends : AreShort meaning made) (plain : ArePlain (arrivals made.limits past)) where
        move-up : (n now : ℕ) → IsMove past opened id version m (up (sides_of meaning made hears) past opened n now m (Some x))
        move-up n now =
            let k = linked.0 in
            let link = linked.2 in
            let octets = take n (drop x.went (stream octets_said x.said)) in
            let e = Piece x.number now octets in
            let x' : Wire = record x { went = x.went + length octets } in
            let more = completed made.limits past e in
            let from : AllByRecursion (λ a. IsFrom x.said a) more = piece-from made.limits hears faithful grow x.said (origin past x.number) (max (clock past) now) x.went n (line past x.number) link.served.up link.spoken.listed link.spoken.fine in
            let line_is : IsLine (line (e ∷ past) x.number) (stream octets_said x.said) (x.went + length octets) =
            subst (λ (l : Line). IsLine l (stream octets_said x.said) (x.went + length octets)) (sym (line-piece past x.number now octets)) (line-more (line past x.number) (stream octets_said x.said) x.went n link.served.up) in
            let after : IsLinked meaning made (e ∷ past) opened m.life.sent m.life.client.pending m.life.client.last k x' = record {
              spoken = link.spoken;
              few = link.few;
              served = served-here meaning made sends past plain e x.said x.number x.went (x.went + length octets) x.came k.received (eq-eqb x.number x.number refl) line_is from link.served;
              known = link.known;
            } in
            record {
              member = record {
                life = is.life;
                small = is.small;
                told = told-more past more id m.life.client.completions is.told;
                wired = subst (λ (l : Option Linked). IsWired meaning made (e ∷ past) opened m.life.sent m.life.client.pending m.life.client.last l (Some x')) (sym linked.1) after;
              };
              more_sent = [];
              sent_is = sym (append-nil m.life.sent);
              taken_is = refl;
              more = more;
              arrivals_are = refl;
              fields = each-weaker (λ a. IsFrom x.said a) (λ a. IsSentIn m.life.sent a) (λ a f. from-sent m.life.sent x.said a link.spoken.among f) more from;
              plain = each-weaker (λ a. IsFrom x.said a) (λ a. IsPlain a.content) (λ a f. plain-from x.said a f) more from;
              others = λ y low off. others-on past e m.wire x at refl y off;
              opens = omega arith;
              unopened = unopened-on past opened e link.known refl unopened;
              number = λ y here. inr (x, at, ap (λ (z : Wire). z.number) (same_Some x' y here));
            }

        move-shut : IsMove past opened id version m (shut (sides_of meaning made hears) past opened m (Some x))
        move-shut =
            let k = linked.0 in
            let link = linked.2 in
            let e = Close x.number in
            let line_is : IsLine (line (e ∷ past) x.number) (stream octets_said x.said) x.went =
            subst (λ (l : Line). IsLine l (stream octets_said x.said) x.went) (sym (line-close past x.number)) (line-shut (line past x.number) (stream octets_said x.said) x.went link.served.up) in
            let after : IsLinked meaning made (e ∷ past) opened m.life.sent m.life.client.pending m.life.client.last k x = record {
              spoken = link.spoken;
              few = link.few;
              served = served-here meaning made sends past plain e x.said x.number x.went x.went x.came k.received (eq-eqb x.number x.number refl) line_is tt link.served;
              known = link.known;
            } in
            record {
              member = record {
                life = is.life;
                small = is.small;
                told = told-more past [] id m.life.client.completions is.told;
                wired =
                    subst (λ (w : Option Wire). IsWired meaning made (e ∷ past) opened m.life.sent m.life.client.pending m.life.client.last m.life.client.link w) (sym at)
                    (subst (λ (l : Option Linked). IsWired meaning made (e ∷ past) opened m.life.sent m.life.client.pending m.life.client.last l (Some x)) (sym linked.1) after);
              };
              more_sent = [];
              sent_is = sym (append-nil m.life.sent);
              taken_is = refl;
              more = [];
              arrivals_are = refl;
              fields = tt;
              plain = tt;
              others = λ y low off. others-on past e m.wire x at refl y off;
              opens = omega arith;
              unopened = unopened-on past opened e link.known refl unopened;
              number = λ y here. inr (y, here, refl);
            }

        -- the next octets down
        move-down-by : (n : ℕ) (e : Option Ending) → (hears m.life.client.limits).ending (linked.0.received ++ take n (drop x.came (stream octets_told (tellings (law_told meaning made) past x.number)))) ≡ e
            → let octets = take n (drop x.came (stream octets_told (tellings (law_told meaning made) past x.number))) in
            let life = goes_on (hears m.life.client.limits) (Fed octets) m.life in
            IsMove past opened id version m (fed_off (sides_of meaning made hears) past opened life x (length octets) life.client.link)
        move-down-by n e ends =
            let c = m.life.client in
            let f = hears c.limits in
            let k = linked.0 in
            let link = linked.2 in
            let octets = take n (drop x.came (stream octets_told (tellings (law_told meaning made) past x.number))) in
            let life = goes_on f (Fed octets) m.life in
            let xs = news f k.received octets in
            let k' : Linked = record k { received = k.received ++ octets } in
            let c' : Client = record c { link = Some k' } in
            let told_client = settled_all xs c' in
            let fed : life.client ≡ parted_at (f.ending (k.received ++ octets)) told_client = ap (λ (o : Option Linked). parted_at (ending_of f octets o) (told_of f octets c o)) linked.1 in
            let alive = of_clients.goes_on id version f (Fed octets) m.life is.life in
            let small = small-after of_clients.as_long f (Fed octets) c tt is.small in
            let replies = news-replies meaning made hears faithful c.limits past x.said x.number x.went x.came n k.received link.served in
            let ended = told-settled_all meaning made (arrivals made.limits past) id version m.life.calls m.life.sent x.said link.spoken.among is.life.sent xs c' link.spoken.waits replies is.told in
            let same : life.client.completions ≡ told_client.completions = ap (λ (y : Client). y.completions) fed ∙ parted_at-completions (f.ending (k.received ++ octets)) told_client in
            let ended_too = subst (λ (ys : List (ℕ × Ended)). AllByRecursion (λ y. IsToldOf meaning made (arrivals made.limits past) id y) ys) (sym same) ended in
            let x' : Wire = record x { came = x.came + length octets } in
            let going : f.ending (k.received ++ octets) ≡ None → IsMove past opened id version m (fed_off (sides_of meaning made hears) past opened life x (length octets) life.client.link) = λ goes.
            let client_is : life.client ≡ told_client = fed ∙ (λ i. parted_at (goes i) told_client) in
            let last_is = settled_all-last xs c' in
            let few = link.few in
            let settled_link : IsLinked meaning made past opened (m.life.sent ++ []) told_client.pending told_client.last k' x' = record {
              spoken =
                  spoken-sent m.life.sent [] x.said told_client.pending k.given
                  (spoken-pending m.life.sent x.said c.pending told_client.pending k.given (settled_all-each (λ p. IsSent x.said p) (λ l p sent. tt) xs c' link.spoken.waits) link.spoken);
              few = omega (arith, last_is, few);
              served = served-down meaning made past x.said x.number x.went x.came n k.received link.served;
              known = link.known;
            } in
            let link_is : life.client.link ≡ Some k' = ap (λ (y : Client). y.link) client_is ∙ settled_all-linked xs c' in
            subst (λ (q : Option Linked). IsMove past opened id version m (fed_off (sides_of meaning made hears) past opened life x (length octets) q)) (sym link_is)
            (move-fed life (length octets) k' alive small ended_too link_is refl (append-nil m.life.taken)
            (subst (λ (y : Client). IsLinked meaning made past opened (m.life.sent ++ []) y.pending y.last k' x') (sym client_is) settled_link)) in
            let left : (e' : Ending) → f.ending (k.received ++ octets) ≡ Some e' → IsMove past opened id version m (fed_off (sides_of meaning made hears) past opened life x (length octets) life.client.link) = λ e' goes.
            let link_is : life.client.link ≡ None = ap (λ (y : Client). y.link) (fed ∙ (λ i. parted_at (goes i) told_client)) in
            subst (λ (q : Option Linked). IsMove past opened id version m (fed_off (sides_of meaning made hears) past opened life x (length octets) q)) (sym link_is)
            (move-lost life alive small ended_too link_is refl (append-nil m.life.taken)) in
            elim e as (λ o. f.ending (k.received ++ octets) ≡ o → IsMove past opened id version m (fed_off (sides_of meaning made hears) past opened life x (length octets) life.client.link)) [ None ↦ going | Some e' ↦ left e' ] ends

        move-down : (n : ℕ) → IsMove past opened id version m (down (sides_of meaning made hears) past opened n m (Some x))
        move-down n = move-down-by n ((hears m.life.client.limits).ending (linked.0.received ++ take n (drop x.came (stream octets_told (tellings (law_told meaning made) past x.number))))) refl

    -- a new connection
    move-joined : IsClean id → (now : ℕ) → IsMove past opened id version m (connected (sides_of meaning made hears) past opened now m None)
    move-joined clean now =
        let c = m.life.client in
        let down' = hears c.limits in
        let says = law_told meaning made in
        let number = suc opened in
        let e = Opened number in
        let small = small-parted c is.small in
        let same = resent-as now (parted c) (record { given = 0; received = [] }) small in
        let said = client_says (Joined now) c in
        let x' : Wire = record { number = number; said = said; went = 0; came = 0 } in
        let fresh = unopened number (omega arith) in
        let tell : tellings says (e ∷ past) number ≡ [] = tellings-here says e past number (eq-eqb number number refl) ∙ ap (λ (ts : List Telling). ts ++ says past e) fresh.1 in
        let line_is : IsLine (line (e ∷ past) number) (stream octets_said said) 0 = subst (λ (l : Line). IsLine l (stream octets_said said) 0) (sym (line-opened past number fresh.2)) (stream octets_said said, refl, refl) in
        let link : IsLinked meaning made (e ∷ past) number (m.life.sent ++ sent_at now said) (resent now 0 (unsent c.pending)) c.last (record { given = ids_after now 0 (unsent c.pending); received = [] }) x' = record {
          spoken = spoken-resent c.version c.client_id now m.life.sent [] 0 (unsent c.pending) (own-clean meaning made hears past opened id version clean m is.life) small.waits (spoken-none m.life.sent c.pending);
          few = ids-few c.version c.client_id now 0 c.last (unsent c.pending) (omega arith);
          served = record {
            up = line_is;
            rest = [];
            down = ap (stream octets_told) tell;
            taken = refl;
            fine = subst (λ (ts : List Telling). AllByRecursion IsFineTelling ts) (sym tell) tt;
            replies = subst (λ (ts : List Telling). AllByRecursion (λ y. IsReply meaning made (arrivals made.limits (e ∷ past)) said y) (filter_map answer_in ts)) (sym tell) tt;
          };
          known = omega arith;
        } in
        record {
          member = record {
            life = of_clients.goes_on id version down' (Joined now) m.life is.life;
            small = small-after of_clients.as_long down' (Joined now) c tt is.small;
            told = subst (λ (y : Client). AllByRecursion (λ z. IsToldOf meaning made (arrivals made.limits (e ∷ past)) id z) y.completions) (sym same) (told-more past [] id c.completions is.told);
            wired = subst (λ (y : Client). IsWired meaning made (e ∷ past) number (m.life.sent ++ sent_at now said) y.pending y.last y.link (Some x')) (sym same) link;
          };
          more_sent = sent_at now said;
          sent_is = refl;
          taken_is = append-nil m.life.taken;
          more = [];
          arrivals_are = refl;
          fields = tt;
          plain = tt;
          others = λ y low off. let no = ne_eqb number y (λ same. absurd (omega (arith, low, same))) in (line-other e past y no, tellings-other says e past y no);
          opens = omega arith;
          unopened = λ y above.
              let was = unopened y (omega (arith, above)) in
              let no = ne_eqb number y (λ same. absurd (omega (arith, above, same))) in (
                line-other e past y no ∙ was.0,
                tellings-other says e past y no ∙ was.1,
                ap (λ b. list_all (λ d. nat_lt d y) (cond b (number ∷ counted past) (counted past))) fresh.2 ∙ and_from (nat_lt number y) (list_all (λ d. nat_lt d y) (counted past)) (lt-ltb number y above) was.2,
              );
          number = λ y here. let same : number ≡ y.number = ap (λ (z : Wire). z.number) (same_Some x' y here) in inl (omega (arith, same), omega (arith, same));
        }

    pub move-is : AreFaithful made.limits hears → HearingGrows meaning_in → AreShort meaning made → ArePlain (arrivals made.limits past) → IsClean id → (s : Step) → IsFineStep s → IsMove past opened id version m (moved (sides_of meaning made hears) past opened s m)
    move-is faithful grow sends plain clean (CallNow k now call) fine = move-acted (Called now call) refl (member-called meaning made hears past opened id version clean of_clients now call m fine is)
    move-is faithful grow sends plain clean (RecallNow k now number call) fine = move-acted (Resumed now number call) refl (member-resumed meaning made hears past opened id version clean of_clients now number call m fine is)
    move-is faithful grow sends plain clean (SkipTo k number) fine = move-acted (Skipped number) refl (member-skipped meaning made hears past opened id version clean of_clients number m is)
    move-is faithful grow sends plain clean (KeepOn k keeps) fine = move-acted (Kept keeps) refl (member-kept meaning made hears past opened id version clean of_clients keeps m is)
    move-is faithful grow sends plain clean (KeepForwards k keeps) fine = move-acted (KeptForwards keeps) refl (member-forwards meaning made hears past opened id version clean of_clients keeps m is)
    move-is faithful grow sends plain clean (RedirectTo k number key) fine = move-acted (Redirected number key) refl (member-redirected meaning made hears past opened id version clean of_clients number key m is)
    move-is faithful grow sends plain clean (Connect k now) fine = by-wire m.wire refl
      where
        by-wire : (w : Option Wire) → m.wire ≡ w → IsMove past opened id version m (connected (sides_of meaning made hears) past opened now m w)
        by-wire None at = move-joined clean now
        by-wire (Some x) at = move-still
    move-is faithful grow sends plain clean (ResendNow k now) fine = move-acted (Resent now) refl (member-resent meaning made hears past opened id version clean of_clients now m is)
    move-is faithful grow sends plain clean (UpTo k n now) fine = by-wire m.wire refl
      where
        by-wire : (w : Option Wire) → m.wire ≡ w → IsMove past opened id version m (up (sides_of meaning made hears) past opened n now m w)
        by-wire None at = move-still
        by-wire (Some x) at = move-up x at faithful grow sends plain n now
    move-is faithful grow sends plain clean (Down k n) fine = by-wire m.wire refl
      where
        by-wire : (w : Option Wire) → m.wire ≡ w → IsMove past opened id version m (down (sides_of meaning made hears) past opened n m w)
        by-wire None at = move-still
        by-wire (Some x) at = move-down x at faithful grow sends plain n
    move-is faithful grow sends plain clean (Cut k) fine = by-wire m.wire refl
      where
        by-wire : (w : Option Wire) → m.wire ≡ w → IsMove past opened id version m (cut (sides_of meaning made hears) past opened m w)
        by-wire None at = move-still
        by-wire (Some x) at = move-cut x at
    move-is faithful grow sends plain clean (Shut k) fine = by-wire m.wire refl
      where
        by-wire : (w : Option Wire) → m.wire ≡ w → IsMove past opened id version m (shut (sides_of meaning made hears) past opened m w)
        by-wire None at = move-still
        by-wire (Some x) at = move-shut x at faithful grow sends plain
    move-is faithful grow sends plain clean (Cancel k number) fine = move-acted (Recalled number) refl (member-recalled meaning made hears past opened id version clean of_clients number m is)
    move-is faithful grow sends plain clean (Tick k now) fine = move-acted (Ticked now) refl (member-ticked meaning made hears past opened id version clean of_clients now m is)
