-- A client's own steps.
use Rattle.std.proofs.Common.{◌≡◌, ℕ, suc, ◌≤◌, ◌&&◌, nat_le, nat_lt, ℤ, pos, Bool, true, false, cond, List, [], ◌∷◌, ◌++◌, length, Option, Some, None, is_some, Result, Ok, Err, refl, sym, ap, ◌∙◌, subst, arith}
use Rattle.std.specs.List.{cons_option}
use Rattle.std.specs.Ordering.{int_eq}
use Rattle.std.specs.Result.{IfErr, OnErr, OnOk}
use Rattle.std.proofs.lemmas.Bool.{and_right, false≢true, lt-leb}
use Rattle.std.proofs.lemmas.List.{append-nil}
use Rattle.giop_core.specs.declared.header.Version.{Version}
use Rattle.giop_link.specs.ClientLinking.{ClientLinked}
use Rattle.ft_client.specs.declared.client.FtClient.{FtClient}
use Rattle.ft_client.specs.declared.error.CallError.{CallError}
use Rattle.ft_client.specs.declared.error.CallError.TheVariants as refused
use Rattle.ft_client.specs.declared.error.RecallError.{RecallError}
use Rattle.ft_client.specs.declared.error.RecallError.TheVariants as recalling
use Rattle.ft_client.specs.Calling.{IsCallError, IsRecallError}
use Rattle.ft_client.specs.Clients.{Called, Client, Linked, Pending, Recalled, Resent, Resumed, after, find_pending, fits, is_resumed, is_taken, stands_in, placed, says, says_placed, says_recalled, says_resent, withdrawn}
use Rattle.ft_client.specs.Directions.{stream}
use Rattle.ft_client.specs.Messages.{Call, Said, has_no_ft, octets_said}
use Rattle.ft_client.specs.Standing.{FtStands, LinkFor, down, sent_ids}
use Rattle.ft_ends.specs.declared.wire.Wire.{Wire as CodeWire}
use Rattle.ft_ends.specs.Private.{IsRecallRefusal, IsRefusal, IsWireFor}
use Rattle.ft_orb.specs.Tellings.{Telling}
use Rattle.ft_ends.specs.World.{Wire, extended}
use Rattle.ft_ends.proofs.Ways.{wire-said}

-- A client without a link says nothing.

pub no-link : (l : Option Linked) (o : Option Wire) → is_some l ≡ is_some o → o ≡ None → l ≡ None
no-link None o same none = refl
no-link (Some l) None same none = absurd (false≢true (sym same))
no-link (Some l) (Some x) same none = absurd cc

called-silent : (b : Bool) (id : ℕ) (call : Call) (c : Client) (l : Option Linked) → l ≡ None → cond b (says_placed id call c l) [] ≡ []
called-silent b id call c None none = elim b as (λ t. cond t (says_placed id call c None) [] ≡ []) [ true ↦ refl | false ↦ refl ]
called-silent b id call c (Some l) none = absurd cc

unsent-one : (version : Version) (o : Option ℕ) (rest : List ℕ) → cons_option o rest ≡ [] → withdrawn version o ≡ []
unsent-one version None rest h = refl
unsent-one version (Some i) rest h = absurd cc

unsent-rest : (o : Option ℕ) (rest : List ℕ) → cons_option o rest ≡ [] → rest ≡ []
unsent-rest None rest h = h
unsent-rest (Some i) rest h = absurd cc

recalled-silent : (version : Version) (id : ℤ) (ps : List Pending) → sent_ids ps ≡ [] → says_recalled version (find_pending id ps) ≡ []
recalled-silent version id [] h = refl
recalled-silent version id (p ∷ ps) h =
    elim (int_eq (pos p.id) id) as (λ b. says_recalled version (cond b (Some p) (find_pending id ps)) ≡ [])
    [ true ↦ unsent-one version p.sent (sent_ids ps) h | false ↦ recalled-silent version id ps (unsent-rest p.sent (sent_ids ps) h) ]

none-sent : (link : Option ClientLinked) (c : Client) (l : Option Linked) → l ≡ None → LinkFor link c l → sent_ids c.pending ≡ []
none-sent None c None none h = h
none-sent (Some link) c None none h = absurd h
none-sent link c (Some l) none h = absurd cc

-- A call that is refused is not taken.

pub refused-is : (now : ℕ) (call : Call) (c : Client) (e : CallError) → IsRefusal e → IsCallError now call c e → is_taken now call c ≡ false
refused-is now call c e h is = and_right (has_no_ft call.form) (in_time now call c) (by e h is)
  where
    place : Bool
    place = stands_in (suc c.last) c call && fits (suc c.last) c call

    room : Bool
    room = nat_lt (length c.pending) 64 && place

    in_time : ℕ → Call → Client → Bool
    in_time = λ t k d. nat_le t k.expiration && (nat_lt d.last 2147483647 && (nat_lt (length d.pending) 64 && (stands_in (suc d.last) d k && fits (suc d.last) d k)))

    not-below : (a b : ℕ) → b ≤ a → nat_lt a b ≡ false
    not-below a b h = lt-leb (suc a) b (omega arith)

    by : (e : CallError) → IsRefusal e → IsCallError now call c e → in_time now call c ≡ false
    by refused.Expired h is = ap (λ b. b && (nat_lt c.last 2147483647 && room)) (lt-leb now call.expiration is)
    by refused.IdsUsed h is = and_right (nat_le now call.expiration) (nat_lt c.last 2147483647 && room) (ap (λ b. b && room) (not-below c.last 2147483647 is.1))
    by refused.TooManyCalls h is =
        and_right (nat_le now call.expiration) (nat_lt c.last 2147483647 && room) (and_right (nat_lt c.last 2147483647) room (ap (λ b. b && place) (not-below (length c.pending) 64 is.2)))
    by refused.TooLong h is =
        and_right (nat_le now call.expiration) (nat_lt c.last 2147483647 && room)
        (and_right (nat_lt c.last 2147483647) room (and_right (nat_lt (length c.pending) 64) place (and_right (stands_in (suc c.last) c call) (fits (suc c.last) c call) is.3)))
    by refused.Memory h is = absurd h

pub recall-refused : (now id : ℕ) (call : Call) (c : Client) (e : RecallError) → IsRecallRefusal e → IsRecallError now id call c e → is_resumed now id call c ≡ false
recall-refused now id call c e h is = and_right (has_no_ft call.form) (free && (nat_le now call.expiration && room)) (by e h is)
  where
    free : Bool
    free = nat_lt c.last id && nat_lt id 2147483648

    place : Bool
    place = stands_in id c call && fits id c call

    room : Bool
    room = nat_lt (length c.pending) 64 && place

    not-below : (a b : ℕ) → b ≤ a → nat_lt a b ≡ false
    not-below a b h = lt-leb (suc a) b (omega arith)

    by : (e : RecallError) → IsRecallRefusal e → IsRecallError now id call c e → (free && (nat_le now call.expiration && room)) ≡ false
    by recalling.NumberUsed h is = ap (λ b. b && (nat_le now call.expiration && room)) is
    by recalling.Expired h is = and_right free (nat_le now call.expiration && room) (ap (λ b. b && room) (lt-leb now call.expiration is.1))
    by recalling.TooManyCalls h is = and_right free (nat_le now call.expiration && room) (and_right (nat_le now call.expiration) room (ap (λ b. b && place) (not-below (length c.pending) 64 is.2)))
    by recalling.TooLong h is =
        and_right free (nat_le now call.expiration && room) (and_right (nat_le now call.expiration) room (and_right (nat_lt (length c.pending) 64) place (and_right (stands_in id c call) (fits id c call) is.3)))
    by recalling.Memory h is = absurd h

-- A call that had no memory is one that no refusal but its length holds for.

pub memory-is : (client : FtClient) (now : ℕ) (call asked : Call) (r : Result ℤ CallError) → call ≡ asked → IfErr r (λ e. (m : Client) → FtStands client m → IsCallError now call m e) → r ≡ Err refused.Memory
    → (m : Client) → FtStands client m → IsCallError now asked m refused.Memory
memory-is client now call asked r same err is =
    subst (λ (k : Call). (m : Client) → FtStands client m → IsCallError now k m refused.Memory) same (subst (λ (s : Result ℤ CallError). IfErr s (λ e. (m : Client) → FtStands client m → IsCallError now call m e)) is err)

-- The steps.

module _ (tells : ℕ → List Telling) (old new : FtClient) (was is : CodeWire) (c : Client) (o : Option Wire) (stands : FtStands old c) (linked : is_some c.link ≡ is_some o) (held : IsWireFor tells was o)
    (number : is.number ≡ was.number) (at : is.up.delivered ≡ was.up.delivered) (same_down : is.down ≡ was.down) where
  called-by : (now : ℕ) (call : Call) (r : Result ℤ CallError)
      → OnOk r ((m : Client) → FtStands old m → FtStands new (after (down m.limits) (Called now call) m))
      → OnOk r ((m : Client) → FtStands old m → is.up.octets.items ≡ was.up.octets.items ++ stream octets_said (says (Called now call) m))
      → IfErr r (λ e. (m : Client) → FtStands old m → IsCallError now call m e) → OnErr r ((m : Client) → FtStands old m → FtStands new m) → OnErr r (is.up.octets.items ≡ was.up.octets.items)
      → IfErr r IsRefusal
      → FtStands new (after (down c.limits) (Called now call) c) × IsWireFor tells is (extended (says (Called now call) c) o)
  called-by now call (Ok id) stood out err same unwritten refusal =
      (stood c stands, wire-said tells was is o (says (Called now call) c) number at same_down (out c stands) (λ none. called-silent (is_taken now call c) (suc c.last) call c c.link (no-link c.link o linked none)) held)
  called-by now call (Err e) stood out err same unwritten refusal =
      let no = refused-is now call c e refusal (err c stands) in
      let silent : says (Called now call) c ≡ [] = ap (λ b. cond b (says_placed (suc c.last) call c c.link) []) no in (
        subst (λ (d : Client). FtStands new d) (sym (ap (λ b. cond b (placed (suc c.last) call c c.link) c) no)) (same c stands),
        wire-said tells was is o (says (Called now call) c) number at same_down (unwritten ∙ sym (append-none was.up.octets.items (says (Called now call) c) silent)) (λ none. silent) held,
      )
    where
      append-none : (octets : List ℕ) (said : List Said) → said ≡ [] → octets ++ stream octets_said said ≡ octets
      append-none octets said none = ap (λ (s : List Said). octets ++ stream octets_said s) none ∙ append-nil octets

  pub called-is : (now : ℕ) (call asked : Call) (r : Result ℤ CallError) → call ≡ asked
      → OnOk r ((m : Client) → FtStands old m → FtStands new (after (down m.limits) (Called now call) m))
      → OnOk r ((m : Client) → FtStands old m → is.up.octets.items ≡ was.up.octets.items ++ stream octets_said (says (Called now call) m))
      → IfErr r (λ e. (m : Client) → FtStands old m → IsCallError now call m e) → OnErr r ((m : Client) → FtStands old m → FtStands new m) → OnErr r (is.up.octets.items ≡ was.up.octets.items)
      → IfErr r IsRefusal
      → FtStands new (after (down c.limits) (Called now asked) c) × IsWireFor tells is (extended (says (Called now asked) c) o)
  called-is now call asked r same stood out err kept unwritten refusal =
      subst (λ (k : Call). FtStands new (after (down c.limits) (Called now k) c) × IsWireFor tells is (extended (says (Called now k) c) o)) same (called-by now call r stood out err kept unwritten refusal)

  resumed-by : (now id : ℕ) (call : Call) (r : Result (Unit {0}) RecallError)
      → OnOk r ((m : Client) → FtStands old m → FtStands new (after (down m.limits) (Resumed now id call) m))
      → OnOk r ((m : Client) → FtStands old m → is.up.octets.items ≡ was.up.octets.items ++ stream octets_said (says (Resumed now id call) m))
      → IfErr r (λ e. (m : Client) → FtStands old m → IsRecallError now id call m e) → OnErr r ((m : Client) → FtStands old m → FtStands new m) → OnErr r (is.up.octets.items ≡ was.up.octets.items)
      → IfErr r IsRecallRefusal
      → FtStands new (after (down c.limits) (Resumed now id call) c) × IsWireFor tells is (extended (says (Resumed now id call) c) o)
  resumed-by now id call (Ok u) stood out err same unwritten refusal =
      (stood c stands, wire-said tells was is o (says (Resumed now id call) c) number at same_down (out c stands) (λ none. called-silent (is_resumed now id call c) id call c c.link (no-link c.link o linked none)) held)
  resumed-by now id call (Err e) stood out err same unwritten refusal =
      let no = recall-refused now id call c e refusal (err c stands) in
      let silent : says (Resumed now id call) c ≡ [] = ap (λ b. cond b (says_placed id call c c.link) []) no in (
        subst (λ (d : Client). FtStands new d) (sym (ap (λ b. cond b (placed id call c c.link) c) no)) (same c stands),
        wire-said tells was is o (says (Resumed now id call) c) number at same_down (unwritten ∙ sym (append-none was.up.octets.items (says (Resumed now id call) c) silent)) (λ none. silent) held,
      )
    where
      append-none : (octets : List ℕ) (said : List Said) → said ≡ [] → octets ++ stream octets_said said ≡ octets
      append-none octets said none = ap (λ (s : List Said). octets ++ stream octets_said s) none ∙ append-nil octets

  pub resumed-as : (now id : ℕ) (call asked : Call) (r : Result (Unit {0}) RecallError) → call ≡ asked
      → OnOk r ((m : Client) → FtStands old m → FtStands new (after (down m.limits) (Resumed now id call) m))
      → OnOk r ((m : Client) → FtStands old m → is.up.octets.items ≡ was.up.octets.items ++ stream octets_said (says (Resumed now id call) m))
      → IfErr r (λ e. (m : Client) → FtStands old m → IsRecallError now id call m e) → OnErr r ((m : Client) → FtStands old m → FtStands new m) → OnErr r (is.up.octets.items ≡ was.up.octets.items)
      → IfErr r IsRecallRefusal
      → FtStands new (after (down c.limits) (Resumed now id asked) c) × IsWireFor tells is (extended (says (Resumed now id asked) c) o)
  resumed-as now id call asked r same stood out err kept unwritten refusal =
      subst (λ (k : Call). FtStands new (after (down c.limits) (Resumed now id k) c) × IsWireFor tells is (extended (says (Resumed now id k) c) o)) same (resumed-by now id call r stood out err kept unwritten refusal)

  pub resent-is : (now : ℕ) → FtStands new (after (down c.limits) (Resent now) c) → is.up.octets.items ≡ was.up.octets.items ++ stream octets_said (says (Resent now) c)
      → FtStands new (after (down c.limits) (Resent now) c) × IsWireFor tells is (extended (says (Resent now) c) o)
  resent-is now stood out = (stood, wire-said tells was is o (says (Resent now) c) number at same_down out (λ none. ap (says_resent now c) (no-link c.link o linked none)) held)

  pub recalled-is : (id asked : ℤ) → id ≡ asked → FtStands new (after (down c.limits) (Recalled id) c) → is.up.octets.items ≡ was.up.octets.items ++ stream octets_said (says (Recalled id) c)
      → FtStands new (after (down c.limits) (Recalled asked) c) × IsWireFor tells is (extended (says (Recalled asked) c) o)
  recalled-is id asked same stood out = subst (λ (k : ℤ). FtStands new (after (down c.limits) (Recalled k) c) × IsWireFor tells is (extended (says (Recalled k) c) o)) same
      (stood, wire-said tells was is o (says (Recalled id) c) number at same_down out (λ none. recalled-silent c.version id c.pending (none-sent old.link c c.link (no-link c.link o linked none) stands.link)) held)
