-- Over every schedule both ends act as one.
use Rattle.std.proofs.Common.{cond, ◌≡◌, ⊎_elim, ℕ, zero, suc, ◌+◌, ◌<◌, ◌≤◌, ◌==◌, ◌&&◌, pos, Bool, true, false, bytes_eq, List, [], ◌∷◌, ◌++◌, map, set, Option, Some, None, IsSome, refl, sym, ap, ◌∙◌, subst, arith}
use Rattle.std.specs.List.{AllByRecursion, Contains, slice_get}
use Rattle.std.specs.Option.{option_map}
use Rattle.std.proofs.lemmas.Bool.{cases_eq, eq-eqb, false≢true, ne_eqb}
use Rattle.std.proofs.lemmas.List.Elements.{Contains-append_left, Contains-append_right}
use Rattle.std.proofs.lemmas.Option.{none-some, same_Some}
use Rattle.std.proofs.lemmas.Slice.Eq.{bytes_eq-Decides}
use Rattle.cdr_core.specs.Spelling.{IsClean}
use Rattle.giop_frames.specs.declared.limits.Limits.{Limits}
use Rattle.giop_link.specs.Laws.{HearingGrows}
use Rattle.ft_log.specs.Keys.{RequestKey}
use Rattle.ft_client.specs.Clients.{Cancelled, Ended, Expired, Linked, NeedsAddressing, Pending, Sent, Told}
use Rattle.giop_link.specs.Hearing.{Hearing, meaning_in}
use Rattle.ft_client.specs.Laws.{CallsCompleteOnce}
use Rattle.ft_client.specs.Lives.{IsOfCall, call_at, called_count, ended_count, one_if}
use Rattle.ft_client.specs.Messages.{Answer, Call, Transmission}
use Rattle.ft_client.specs.Standing.{down}
use Rattle.ft_orb.specs.ExactlyOnce.{Arrival, OneExpiration, Present}
use Rattle.ft_orb.specs.History.{arrivals}
use Rattle.ft_orb.specs.Laws.{KeysActOnce}
use Rattle.ft_orb.specs.Outputs.{Made}
use Rattle.ft_orb.specs.Requests.{Wanted, rules_of}
use Rattle.ft_objects.specs.Servants.{Meaning}
use Rattle.ft_ends.specs.Both.{ActsOnce, AreDistinct, Explains, IsExplainedAs, IsSentBy, IsSentFor, IsSentIn, completed_count, key_at, key_of}
use Rattle.ft_ends.specs.Fine.{AreFaithful}
use Rattle.ft_ends.specs.Laws.{AnswersAreShort, ArePlain, AreShort, BothEndsActOnce, DirectionsAreFaithful, IsFineStep, IsPlain, sides_of}
use Rattle.ft_ends.specs.Private.{ClientLaws}
use Rattle.ft_ends.specs.World.{Member, Moved, Newcomer, Sides, Step, Wire, World, client_of, emptied, given_out, member_of, moved, run, start, step, step_of, with_client, world}
use Rattle.ft_ends.proofs.Lists.{contains-head, each-append, each-contains, each-weaker, each-within, set-here, set-other}
use Rattle.ft_ends.proofs.Members.{IsMember, IsTold, IsToldOf, IsWired, ended-append, member-emptied, own_key, told-later}
use Rattle.ft_ends.proofs.Moves.{IsMove, IsOff, IsUnopened, move-is, told-more}
use Rattle.ft_ends.proofs.Served.{Traced, served-other, traced-explains}

-- Lists and counts.

each-at : {A : Type 0} (P : A → Type 0) (k : ℕ) (x : A) (xs : List A) → slice_get xs k ≡ Some x → AllByRecursion P xs → P x
each-at P k x [] is h = absurd (none-some x is)
each-at P zero x (y ∷ xs) is h = subst P (same_Some y x is) h.0
each-at P (suc k) x (y ∷ xs) is h = each-at P k x xs is h.1

completed-append : (k r : ℕ) (xs ys : List (ℕ × ℕ × Ended)) → completed_count k r (xs ++ ys) ≡ completed_count k r xs + completed_count k r ys
completed-append k r [] ys = omega arith
completed-append k r (x ∷ xs) ys = let rest = completed-append k r xs ys in omega (arith, rest)

-- completions of client k are those of client k alone
count-own : (k r : ℕ) (xs : List (ℕ × Ended)) → completed_count k r (with_client k xs) ≡ ended_count r xs
count-own k r [] = refl
count-own k r (x ∷ xs) = let self = eq-eqb k k refl in let rest = count-own k r xs in λ i. one_if (self i && x.0 == r) + rest i

count-other : (j k r : ℕ) (xs : List (ℕ × Ended)) → (j ≡ k → ⊥) → completed_count j r (with_client k xs) ≡ 0
count-other j k r [] h = refl
count-other j k r (x ∷ xs) h =
    let other = ne_eqb k j (λ same. h (sym same)) in
    let rest = count-other j k r xs h in
    let first : one_if (k == j && x.0 == r) ≡ 0 = ap (λ b. one_if (b && x.0 == r)) other in
    omega (arith, first, rest)

one_if-low : (b : Bool) → one_if b ≤ 1
one_if-low true = omega arith
one_if-low false = omega arith

-- a number that was given a call
call_at-there : (calls : List (ℕ × Call)) (r : ℕ) → 0 < called_count r calls → IsSome (call_at calls r)
call_at-there [] r h = absurd (omega arith)
call_at-there (x ∷ calls) r h =
    elim (x.0 == r) as (λ b. 0 < one_if b + called_count r calls → IsSome (cond b (Some x.1) (call_at calls r)))
    [ true ↦ λ some. refl | false ↦ λ some. call_at-there calls r (omega (arith, some)) ] h

-- Clients of one id are one client.
same-bytes : (xs ys : List ℕ) → xs ≡ ys → bytes_eq xs ys ≡ false → ⊥
same-bytes xs ys same h = false≢true (sym h ∙ (bytes_eq-Decides xs ys).1 same)

one-place : (ns : List Newcomer) (j k : ℕ) (x y : Newcomer) → AreDistinct ns → slice_get ns j ≡ Some x → slice_get ns k ≡ Some y → x.client_id ≡ y.client_id → j ≡ k
one-place [] j k x y h at to same = absurd (none-some x at)
one-place (n ∷ ns) zero zero x y h at to same = refl
one-place (n ∷ ns) zero (suc k) x y h at to same =
    absurd (same-bytes n.client_id y.client_id (ap (λ (m : Newcomer). m.client_id) (same_Some n x at) ∙ same) (each-at (λ other. bytes_eq n.client_id other.client_id ≡ false) k y ns to h.0))
one-place (n ∷ ns) (suc j) zero x y h at to same =
    absurd (same-bytes n.client_id x.client_id (ap (λ (m : Newcomer). m.client_id) (same_Some n y to) ∙ sym same) (each-at (λ other. bytes_eq n.client_id other.client_id ≡ false) j x ns at h.0))
one-place (n ∷ ns) (suc j) (suc k) x y h at to same = ap suc (one-place ns j k x y h.1 at to same)

-- a new client
new-at : (k : ℕ) (m : Member) (ns : List Newcomer) → slice_get (map member_of ns) k ≡ Some m → (n : Newcomer) × (slice_get ns k ≡ Some n) × (member_of n ≡ m)
new-at k m [] is = absurd (none-some m is)
new-at zero m (n ∷ ns) is = (n, refl, same_Some (member_of n) m is)
new-at (suc k) m (n ∷ ns) is = new-at k m ns is

-- an arrival is that of a transmission of one of these clients
pub record IsTransmitted (members : List Member) (a : Arrival Wanted) : Type 0 where
  pub place : ℕ
  pub member : Member
  pub is : slice_get members place ≡ Some member
  pub sent : IsSentIn member.life.sent a

-- more transmissions were made
sent_in-more : (sent more : List (ℕ × Transmission)) (a : Arrival Wanted) → IsSentIn sent a → IsSentIn (sent ++ more) a
sent_in-more sent more a h = record {
  now = h.now;
  transmission = h.transmission;
  origin = h.origin;
  among = Contains-append_left sent more (h.now, h.transmission) h.among;
  content = h.content;
  field = h.field;
}

module _ {State : Type 0} (meaning : Meaning State) (made : Made State) (hears : Limits → Hearing Answer) (newcomers : List Newcomer) where
  -- a completion is one of a client, and has its trace
  abbrev pub IsTracedAs : List (Arrival Wanted) → ℕ × ℕ × Ended → Type 0
  IsTracedAs all x = (n : Newcomer) × (slice_get newcomers x.0 ≡ Some n) × IsTold meaning made all n.client_id x.1 x.2

  pub record IsWorld (w : World) : Type 0 where
    pub named : (k : ℕ) (m : Member) → slice_get w.members k ≡ Some m → (n : Newcomer) × (slice_get newcomers k ≡ Some n) × IsMember meaning made w.past w.opened n.client_id n.version m
    pub apart : (j k : ℕ) (m n : Member) (x y : Wire) → slice_get w.members j ≡ Some m → slice_get w.members k ≡ Some n → m.wire ≡ Some x → n.wire ≡ Some y → x.number ≡ y.number → j ≡ k
    pub unopened : (c : ℕ) → w.opened < c → IsUnopened meaning made hears w.past c
    pub arrived : AllByRecursion (λ a. IsTransmitted w.members a) (arrivals made.limits w.past)
    pub plain : ArePlain (arrivals made.limits w.past)
    pub traced : AllByRecursion (λ x. IsTracedAs (arrivals made.limits w.past) x) w.completions
    pub counts : (k : ℕ) (m : Member) → slice_get w.members k ≡ Some m → (r : ℕ) → completed_count k r w.completions ≡ ended_count r m.life.taken
    pub nobody : (k : ℕ) → slice_get w.members k ≡ None → (r : ℕ) → completed_count k r w.completions ≡ 0

  -- The start.

  new-member : CallsCompleteOnce → (n : Newcomer) → IsMember meaning made [] 0 n.client_id n.version (member_of n)
  new-member once n = record {
    life = once n.client_id n.version n.limits (hears n.limits) [];
    small = record { waits = tt; few = omega arith; low = omega arith };
    told = tt;
    wired = tt;
  }

  pub start-is : CallsCompleteOnce → IsWorld (start newcomers)
  start-is once = record {
    named = λ k m is. let at = new-at k m newcomers is in (at.0, at.1, subst (λ (p : Member). IsMember meaning made [] 0 at.0.client_id at.0.version p) at.2 (new-member once at.0));
    apart = λ j k m n x y is as_well on too same. let at = new-at j m newcomers is in absurd (none-some x (ap (λ (p : Member). p.wire) at.2 ∙ on));
    unopened = λ c above. (refl, refl, refl);
    arrived = tt;
    plain = tt;
    traced = tt;
    counts = λ k m is r. let at = new-at k m newcomers is in ap (λ (p : Member). ended_count r p.life.taken) at.2;
    nobody = λ k is r. refl;
  }

  -- A step.

  told-with : (k : ℕ) (n : Newcomer) (all : List (Arrival Wanted)) (xs : List (ℕ × Ended)) → slice_get newcomers k ≡ Some n → AllByRecursion (λ x. IsToldOf meaning made all n.client_id x) xs → AllByRecursion (λ x. IsTracedAs all x) (with_client k xs)
  told-with k n all [] is h = tt
  told-with k n all (x ∷ xs) is h = ((n, is, h.0), told-with k n all xs is h.1)

  traced-more : (all more : List (Arrival Wanted)) (x : ℕ × ℕ × Ended) → IsTracedAs all x → IsTracedAs (all ++ more) x
  traced-more all more x h = (h.0, h.1, told-later meaning made all more h.0.client_id x.1 x.2 h.2)

  module _ (k : ℕ) (w : World) (m : Member) (v : Moved) (n : Newcomer) (here : slice_get w.members k ≡ Some m) (name : slice_get newcomers k ≡ Some n) (clean : IsClean n.client_id) (h : IsWorld w)
      (move : IsMove meaning made hears w.past w.opened n.client_id n.version m v) where
    abbrev next : Member
    next = record v.member { life = emptied v.member.life }

    next-here : slice_get (set w.members k next) k ≡ Some next
    next-here = set-here k m next w.members here

    -- another client
    other-at : (j : ℕ) (p : Member) → (j ≡ k → ⊥) → slice_get (set w.members k next) j ≡ Some p → slice_get w.members j ≡ Some p
    other-at j p apart is = sym (set-other j k next w.members apart) ∙ is

    off-other : (j : ℕ) (p : Member) (x : Wire) → (j ≡ k → ⊥) → slice_get w.members j ≡ Some p → p.wire ≡ Some x → (o : Option Wire) → m.wire ≡ o → IsOff o x.number
    off-other j p x apart at on None is = tt
    off-other j p x apart at on (Some z) is = λ same. apart (h.apart j k p m x z at here on is (sym same))

    wired-other : (j : ℕ) (p : Member) (sent : List (ℕ × Transmission)) (pending : List Pending) (last : ℕ) (l : Option Linked) (o : Option Wire) → (j ≡ k → ⊥) → slice_get w.members j ≡ Some p → p.wire ≡ o
        → IsWired meaning made w.past w.opened sent pending last l o → IsWired meaning made v.past v.opened sent pending last l o
    wired-other j p sent pending last None None apart at on is = tt
    wired-other j p sent pending last None (Some x) apart at on is = absurd is
    wired-other j p sent pending last (Some l) None apart at on is = absurd is
    wired-other j p sent pending last (Some l) (Some x) apart at on is =
        let same = move.others x.number is.known (off-other j p x apart at on m.wire refl) in
        let low = is.known in
        let more = move.opens in
        record {
          spoken = is.spoken;
          few = is.few;
          served = served-other meaning made w.past v.past move.more x.said x.number x.went x.came l.received same.0 same.1 move.arrivals_are is.served;
          known = omega (arith, low, more);
        }

    member-other : (j : ℕ) (p : Member) (q : Newcomer) → (j ≡ k → ⊥) → slice_get w.members j ≡ Some p → IsMember meaning made w.past w.opened q.client_id q.version p → IsMember meaning made v.past v.opened q.client_id q.version p
    member-other j p q apart at is = record {
      life = is.life;
      small = is.small;
      told =
          subst (λ (all : List (Arrival Wanted)). AllByRecursion (λ x. IsToldOf meaning made all q.client_id x) p.life.client.completions) (sym move.arrivals_are)
          (told-more meaning made hears w.past move.more q.client_id p.life.client.completions is.told);
      wired = wired-other j p p.life.sent p.life.client.pending p.life.client.last p.life.client.link p.wire apart at refl is.wired;
    }

    named-after : (j : ℕ) (p : Member) → slice_get (set w.members k next) j ≡ Some p → (q : Newcomer) × (slice_get newcomers j ≡ Some q) × IsMember meaning made v.past v.opened q.client_id q.version p
    named-after j p is = ⊎_elim (λ (same : j ≡ k). own same) (λ (apart : j ≡ k → ⊥). other apart) (cases_eq j k)
      where
        own : j ≡ k → (q : Newcomer) × (slice_get newcomers j ≡ Some q) × IsMember meaning made v.past v.opened q.client_id q.version p
        own same = (
          n,
          ap (slice_get newcomers) same ∙ name,
          subst (λ (o : Member). IsMember meaning made v.past v.opened n.client_id n.version o) (same_Some next p (sym next-here ∙ ap (slice_get (set w.members k next)) (sym same) ∙ is))
              (member-emptied meaning made hears v.past v.opened n.client_id n.version clean v.member move.member),
        )

        other : (j ≡ k → ⊥) → (q : Newcomer) × (slice_get newcomers j ≡ Some q) × IsMember meaning made v.past v.opened q.client_id q.version p
        other apart = let at = other-at j p apart is in let q = h.named j p at in (q.0, q.1, member-other j p q.0 apart at q.2)

    -- the client's connection and another client's
    apart-own : (j : ℕ) (p : Member) (x y : Wire) → (j ≡ k → ⊥) → slice_get w.members j ≡ Some p → v.member.wire ≡ Some x → p.wire ≡ Some y → x.number ≡ y.number → ⊥
    apart-own j p x y apart at on too same =
        ⊎_elim
        (λ (new : (w.opened < x.number) × (x.number ≤ v.opened)).
        let known = low p.life.sent p.life.client.pending p.life.client.last p.life.client.link p.wire too (h.named j p at).2.wired in
        let above = new.0 in
        absurd (omega (arith, above, known, same)))
        (λ (old : (z : Wire) × (m.wire ≡ Some z) × (z.number ≡ x.number)). apart (sym (h.apart k j m p old.0 y here at old.1 too (old.2 ∙ same))))
        (move.number x on)
      where
        low : (sent : List (ℕ × Transmission)) (pending : List Pending) (last : ℕ) (l : Option Linked) (o : Option Wire) → o ≡ Some y → IsWired meaning made w.past w.opened sent pending last l o → y.number ≤ w.opened
        low sent pending last l None is wired = absurd (none-some y is)
        low sent pending last None (Some z) is wired = absurd wired
        low sent pending last (Some l) (Some z) is wired = subst (λ (c : ℕ). c ≤ w.opened) (ap (λ (u : Wire). u.number) (same_Some z y is)) wired.known

    own-wire : (j : ℕ) (p : Member) (x : Wire) → j ≡ k → slice_get (set w.members k next) j ≡ Some p → p.wire ≡ Some x → v.member.wire ≡ Some x
    own-wire j p x same is on = ap (λ (o : Member). o.wire) (same_Some next p (sym next-here ∙ ap (slice_get (set w.members k next)) (sym same) ∙ is)) ∙ on

    apart-after : (i j : ℕ) (p q : Member) (x y : Wire) → slice_get (set w.members k next) i ≡ Some p → slice_get (set w.members k next) j ≡ Some q → p.wire ≡ Some x → q.wire ≡ Some y → x.number ≡ y.number → i ≡ j
    apart-after i j p q x y is as_well on too same = ⊎_elim (λ (own : i ≡ k). first own) (λ (other : i ≡ k → ⊥). second other) (cases_eq i k)
      where
        first : i ≡ k → i ≡ j
        first own =
            ⊎_elim (λ (own_too : j ≡ k). own ∙ sym own_too)
            (λ (other : j ≡ k → ⊥). absurd (apart-own j q x y other (other-at j q other as_well) (own-wire i p x own is on) too same)) (cases_eq j k)

        second : (i ≡ k → ⊥) → i ≡ j
        second other =
            ⊎_elim (λ (own : j ≡ k). absurd (apart-own i p y x other (other-at i p other is) (own-wire j q y own as_well too) on (sym same)))
            (λ (other_too : j ≡ k → ⊥). h.apart i j p q x y (other-at i p other is) (other-at j q other_too as_well) on too same) (cases_eq j k)

    sent_by-after : (a : Arrival Wanted) → IsTransmitted w.members a → IsTransmitted (set w.members k next) a
    sent_by-after a by = ⊎_elim (λ (same : by.place ≡ k). own same) (λ (apart : by.place ≡ k → ⊥). other apart) (cases_eq by.place k)
      where
        own : by.place ≡ k → IsTransmitted (set w.members k next) a
        own same =
            let is : by.member ≡ m = same_Some by.member m (sym by.is ∙ ap (slice_get w.members) same ∙ here) in
            record {
              place = k;
              member = next;
              is = next-here;
              sent =
                  subst (λ (xs : List (ℕ × Transmission)). IsSentIn xs a) (sym move.sent_is)
                  (sent_in-more m.life.sent move.more_sent a (subst (λ (p : Member). IsSentIn p.life.sent a) is by.sent));
            }

        other : (by.place ≡ k → ⊥) → IsTransmitted (set w.members k next) a
        other apart = record { place = by.place; member = by.member; is = set-other by.place k next w.members apart ∙ by.is; sent = by.sent }

    counts-after : (j : ℕ) (p : Member) → slice_get (set w.members k next) j ≡ Some p → (r : ℕ) → completed_count j r (w.completions ++ with_client k v.member.life.client.completions) ≡ ended_count r p.life.taken
    counts-after j p is r = ⊎_elim (λ (same : j ≡ k). own same) (λ (apart : j ≡ k → ⊥). other apart) (cases_eq j k)
      where
        own : j ≡ k → completed_count j r (w.completions ++ with_client k v.member.life.client.completions) ≡ ended_count r p.life.taken
        own same =
            let xs = v.member.life.client.completions in
            let was = h.counts k m here r in
            let all = completed-append k r w.completions (with_client k xs) in
            let mine = count-own k r xs in
            let taken = ap (ended_count r) move.taken_is in
            let more = ended-append r v.member.life.taken xs in
            let sum : completed_count k r (w.completions ++ with_client k xs) ≡ ended_count r (v.member.life.taken ++ xs) = omega (arith, was, all, mine, taken, more) in
            ap (λ (c : ℕ). completed_count c r (w.completions ++ with_client k xs)) same ∙ sum
            ∙ ap (λ (o : Member). ended_count r o.life.taken) (same_Some next p (sym next-here ∙ ap (slice_get (set w.members k next)) (sym same) ∙ is))

        other : (j ≡ k → ⊥) → completed_count j r (w.completions ++ with_client k v.member.life.client.completions) ≡ ended_count r p.life.taken
        other apart =
            let xs = v.member.life.client.completions in
            let was = h.counts j p (other-at j p apart is) r in
            let all = completed-append j r w.completions (with_client k xs) in
            let none = count-other j k r xs apart in
            omega (arith, was, all, none)

    nobody-after : (j : ℕ) → slice_get (set w.members k next) j ≡ None → (r : ℕ) → completed_count j r (w.completions ++ with_client k v.member.life.client.completions) ≡ 0
    nobody-after j is r =
        let apart : j ≡ k → ⊥ = λ same. none-some next (sym is ∙ ap (slice_get (set w.members k next)) same ∙ next-here) in
        let xs = v.member.life.client.completions in
        let was = h.nobody j (sym (set-other j k next w.members apart) ∙ is) r in
        let all = completed-append j r w.completions (with_client k xs) in
        let none = count-other j k r xs apart in
        omega (arith, was, all, none)

    given-out : IsWorld (given_out (sides_of meaning made hears) k w v)
    given-out =
        let xs = v.member.life.client.completions in
        let old = arrivals made.limits w.past in
        record {
          named = named-after;
          apart = apart-after;
          unopened = move.unopened;
          arrived =
              subst (λ (all : List (Arrival Wanted)). AllByRecursion (λ a. IsTransmitted (set w.members k next) a) all) (sym move.arrivals_are)
              (each-append (λ a. IsTransmitted (set w.members k next) a) old move.more (each-weaker (λ a. IsTransmitted w.members a) (λ a. IsTransmitted (set w.members k next) a) sent_by-after old h.arrived)
              (each-weaker (λ a. IsSentIn v.member.life.sent a) (λ a. IsTransmitted (set w.members k next) a) (λ a is. record { place = k; member = next; is = next-here; sent = is }) move.more move.fields));
          plain = subst ArePlain (sym move.arrivals_are) (each-append (λ a. IsPlain a.content) old move.more h.plain move.plain);
          traced =
              each-append (λ x. IsTracedAs (arrivals made.limits v.past) x) w.completions (with_client k xs)
              (subst (λ (all : List (Arrival Wanted)). AllByRecursion (λ x. IsTracedAs all x) w.completions) (sym move.arrivals_are)
              (each-weaker (λ x. IsTracedAs old x) (λ x. IsTracedAs (old ++ move.more) x) (λ x is. traced-more old move.more x is) w.completions h.traced))
              (told-with k n (arrivals made.limits v.past) xs name move.member.told);
          counts = counts-after;
          nobody = nobody-after;
        }

  -- A schedule.

  module _ (of_clients : ClientLaws) (faithful : AreFaithful made.limits hears) (grow : HearingGrows meaning_in) (sends : AreShort meaning made) (clean : AllByRecursion (λ n. IsClean n.client_id) newcomers) where
    pub step-is : (w : World) (s : Step) → IsFineStep s → IsWorld w → IsWorld (step (sides_of meaning made hears) w s)
    step-is w s fine h = by-member (slice_get w.members (client_of s)) refl
      where
        by-member : (o : Option Member) → slice_get w.members (client_of s) ≡ o → IsWorld (step_of (sides_of meaning made hears) w s o)
        by-member None is = h
        by-member (Some m) is =
            let n = h.named (client_of s) m is in
            let own = each-at (λ (q : Newcomer). IsClean q.client_id) (client_of s) n.0 newcomers n.1 clean in
            given-out (client_of s) w m (moved (sides_of meaning made hears) w.past w.opened s m) n.0 is n.1 own h
            (move-is meaning made hears w.past w.opened n.0.client_id n.0.version m n.2 h.unopened of_clients faithful grow sends h.plain own s fine)

    pub run-is : (w : World) (steps : List Step) → AllByRecursion IsFineStep steps → IsWorld w → IsWorld (run (sides_of meaning made hears) w steps)
    run-is w [] fine h = h
    run-is w (s ∷ steps) fine h = run-is (step (sides_of meaning made hears) w s) steps fine.1 (step-is w s fine.0 h)

  -- Both ends act as one.

  module _ (distinct : AreDistinct newcomers) (w : World) (h : IsWorld w) where
    -- what is known of an arrival
    record Known (a : Arrival Wanted) : Type 0 where
      by : IsTransmitted w.members a
      owner : Newcomer
      at : slice_get newcomers by.place ≡ Some owner
      of_call : IsOfCall owner.client_id owner.version by.member.life.calls (by.sent.now, by.sent.transmission)

    known : (a : Arrival Wanted) → Contains (arrivals made.limits w.past) a → Known a
    known a among =
        let by = each-contains (λ x. IsTransmitted w.members x) (arrivals made.limits w.past) a h.arrived among in
        let n = h.named by.place by.member by.is in
        record {
          by = by;
          owner = n.0;
          at = n.1;
          of_call = each-contains (λ x. IsOfCall n.0.client_id n.0.version by.member.life.calls x) by.member.life.sent (by.sent.now, by.sent.transmission) n.2.life.sent by.sent.among;
        }

    -- one that carries the key of a call of a client was sent by that client for that call
    sent-for : (k r : ℕ) (n : Newcomer) (a : Arrival Wanted) (expiration : ℕ) → slice_get newcomers k ≡ Some n → Contains (arrivals made.limits w.past) a → a.field ≡ Present (own_key n.client_id r) expiration
        → IsSentFor newcomers w.members k r a
    sent-for k r n a expiration at among field =
        let ka = known a among in
        let t = ka.by.sent.transmission in
        let fields : Present (key_of t) t.call.expiration ≡ Present (own_key n.client_id r) expiration = sym ka.by.sent.field ∙ field in
        let keys : key_of t ≡ own_key n.client_id r = cc (fields) in
        let ids : t.client_id ≡ n.client_id = ap (λ (x : RequestKey). x.client_id) keys in
        let whole : pos t.retention_id ≡ pos r = ap (λ (x : RequestKey). x.retention_id) keys in
        let number : t.retention_id ≡ r = cc (whole) in
        let place : ka.by.place ≡ k = one-place newcomers ka.by.place k ka.owner n distinct ka.at at (sym ka.of_call.client ∙ ids) in
        subst (λ (j : ℕ). IsSentFor newcomers w.members j r a) place
        (record { newcomer = ka.owner; member = ka.by.member; client = ka.at; is = ka.by.is; sent = ka.by.sent; number = number; of_call = ka.of_call })

    sent-by : (a : Arrival Wanted) → Contains (arrivals made.limits w.past) a → IsSentBy newcomers w.members a
    sent-by a among =
        let ka = known a among in
        record {
          place = ka.by.place;
          number = ka.by.sent.transmission.retention_id;
          call = record { newcomer = ka.owner; member = ka.by.member; client = ka.at; is = ka.by.is; sent = ka.by.sent; number = refl; of_call = ka.of_call };
        }

    explained-as : (x : ℕ × ℕ × Ended) → IsTracedAs (arrivals made.limits w.past) x → IsExplainedAs meaning made newcomers w x.0 x.1 x.2
    explained-as x t = by-ended x.2 t.2
      where
        by-trace : (e : Ended) → Traced meaning made (arrivals made.limits w.past) (own_key t.0.client_id x.1) e
            → (key : RequestKey) × (key_at newcomers x.0 x.1 ≡ Some key) × (why : Explains meaning made w.past key e) × IsSentFor newcomers w.members x.0 x.1 why.arrival
        by-trace e is =
            let key = own_key t.0.client_id x.1 in
            let why = traced-explains meaning made w.past key e is in
            let among : Contains (arrivals made.limits w.past) why.arrival =
            subst (λ (all : List (Arrival Wanted)). Contains all why.arrival) (sym why.split) (Contains-append_right why.before (why.arrival ∷ why.later) why.arrival (contains-head why.arrival why.later)) in
            (key, ap (option_map (λ n. own_key n.client_id x.1)) t.1, why, sent-for x.0 x.1 t.0 why.arrival why.expiration t.1 among why.field)

        by-ended : (e : Ended) → IsTold meaning made (arrivals made.limits w.past) t.0.client_id x.1 e → IsExplainedAs meaning made newcomers w x.0 x.1 e
        by-ended Expired is = tt
        by-ended Cancelled is = tt
        by-ended (Told status body) is = by-trace (Told status body) is
        by-ended NeedsAddressing is = by-trace NeedsAddressing is
        by-ended Sent is = by-trace Sent is

    pub one-expiration : OneExpiration (arrivals made.limits w.past)
    one-expiration a b key early late in_a in_b is_a is_b =
        let ka = known a in_a in
        let kb = known b in_b in
        let ta = ka.by.sent.transmission in
        let tb = kb.by.sent.transmission in
        let fa : Present (key_of ta) ta.call.expiration ≡ Present key early = sym ka.by.sent.field ∙ is_a in
        let fb : Present (key_of tb) tb.call.expiration ≡ Present key late = sym kb.by.sent.field ∙ is_b in
        let keys : key_of ta ≡ key_of tb = cc (fa, fb) in
        let ids : ta.client_id ≡ tb.client_id = ap (λ (x : RequestKey). x.client_id) keys in
        let whole : pos ta.retention_id ≡ pos tb.retention_id = ap (λ (x : RequestKey). x.retention_id) keys in
        let numbers : ta.retention_id ≡ tb.retention_id = cc (whole) in
        let places : ka.by.place ≡ kb.by.place = one-place newcomers ka.by.place kb.by.place ka.owner kb.owner distinct ka.at kb.at (sym ka.of_call.client ∙ ids ∙ kb.of_call.client) in
        let members : ka.by.member ≡ kb.by.member = same_Some ka.by.member kb.by.member (sym ka.by.is ∙ ap (slice_get w.members) places ∙ kb.by.is) in
        let calls : Some ta.call ≡ Some tb.call = sym ka.of_call.call ∙ (λ i. call_at (members i).life.calls (numbers i)) ∙ kb.of_call.call in
        let expirations : ta.call.expiration ≡ tb.call.expiration = ap (λ (c : Call). c.expiration) (same_Some ta.call tb.call calls) in
        cc (fa, fb, expirations)

    once-by : (k r : ℕ) (o : Option Member) → slice_get w.members k ≡ o → completed_count k r w.completions ≤ 1
    once-by k r None is = let none = h.nobody k is r in omega (arith, none)
    once-by k r (Some m) is =
        let n = h.named k m is in
        let count = h.counts k m is r in
        let all = n.2.life.alive.once r in
        let low = n.2.life.alive.single r in
        omega (arith, count, all, low)

    -- what completes was called
    called-by : (k r : ℕ) (o : Option Member) → slice_get w.members k ≡ o → 0 < completed_count k r w.completions → (m : Member) × (slice_get w.members k ≡ Some m) × IsSome (call_at m.life.calls r)
    called-by k r None is some = let none = h.nobody k is r in absurd (omega (arith, none, some))
    called-by k r (Some m) is some =
        let n = h.named k m is in
        let count = h.counts k m is r in
        let all = n.2.life.alive.once r in
        (m, is, call_at-there m.life.calls r (omega (arith, count, all, some)))

    pub acts-once : ((capacity share : ℕ) → KeysActOnce (rules_of meaning capacity share)) → ActsOnce meaning made newcomers w
    acts-once keys = record {
      explained = each-weaker (λ x. IsTracedAs (arrivals made.limits w.past) x) (λ x. IsExplainedAs meaning made newcomers w x.0 x.1 x.2) explained-as w.completions h.traced;
      performed = λ front between rest p q key early late. keys made.capacity made.share (arrivals made.limits w.past) front between rest p q key early late;
      arrived = each-within (λ a. IsSentBy newcomers w.members a) (arrivals made.limits w.past) sent-by;
      sent = λ k n m name is.
          let own = h.named k m is in
          let same : own.0 ≡ n = same_Some own.0 n (sym own.1 ∙ name) in
          subst (λ (q : Newcomer). AllByRecursion (λ x. IsOfCall q.client_id q.version m.life.calls x) m.life.sent) same own.2.life.sent;
      once = λ k r. once-by k r (slice_get w.members k) refl;
      called = λ k r some. called-by k r (slice_get w.members k) refl some;
      expirations = one-expiration;
    }

-- a step more
pub world-push : (sides : Sides) (newcomers : List Newcomer) (steps : List Step) (s : Step) → world sides newcomers (steps ++ s ∷ []) ≡ step sides (world sides newcomers steps) s
world-push sides newcomers steps s = run-push (start newcomers) steps
  where
    run-push : (w : World) (steps : List Step) → run sides w (steps ++ s ∷ []) ≡ step sides (run sides w steps) s
    run-push w [] = refl
    run-push w (x ∷ steps) = run-push (step sides w x) steps

pub both-ends-act-once : {State : Type 0} (meaning : Meaning State) → ClientLaws → ((capacity share : ℕ) → KeysActOnce (rules_of meaning capacity share)) → HearingGrows meaning_in → AnswersAreShort meaning → DirectionsAreFaithful → BothEndsActOnce meaning
both-ends-act-once meaning of_clients keys grow short faithful made newcomers steps state distinct clean fine =
    acts-once meaning made down newcomers distinct (world (sides_of meaning made down) newcomers steps)
    (run-is meaning made down newcomers of_clients (faithful made.limits) grow (short made state) clean (start newcomers) steps fine (start-is meaning made down newcomers of_clients.once)) keys
