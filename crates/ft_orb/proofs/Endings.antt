-- Why a connection ended, after the octets of a piece that were served so far.
use Rattle.std.proofs.Common.{◌≡◌, ◌≢◌, ◌==◌, ℕ, ◌+◌, ◌≤◌, true, false, if◌then◌else◌, List, [], ◌++◌, length, take, drop, Option, Some, None, is_some, Result, Ok, Err, IfOk, OnOk, refl, sym, ap, subst, ◌∙◌, append_assoc}
use Rattle.std.specs.Option.{option_map}
use Rattle.std.proofs.Math.Seq.{take-add}
use Rattle.std.proofs.lemmas.List.{append-nil, take_all, take-append-drop}
use Rattle.giop_frames.specs.declared.fault.StreamFault.{StreamFault}
use Rattle.giop_frames.specs.declared.fault.StreamFault.TheVariants.{Failed, Memory}
use Rattle.giop_frames.specs.declared.limits.Limits.{Limits}
use Rattle.giop_frames.specs.Standing.{OnFault}
use Rattle.giop_link.specs.declared.error.LinkFault.{LinkFault}
use Rattle.giop_link.specs.declared.error.LinkFault.TheVariants.{Stream, WrongDirection}
use Rattle.giop_link.specs.declared.inbound.Inbound.{Inbound}
use Rattle.giop_link.specs.Hearing.{Ending, Incoming, Meaning, ending, ends, faulty, meaning_in, says, wrong_direction}
use Rattle.giop_link.specs.Linking.{IsFaultOf, LinkStands, Linked, meaning_at, shut}
use Rattle.giop_link.specs.Listening.{EndsTo, ending_in}
use Rattle.ft_orb.specs.Decided.{octets_to}
use Rattle.ft_orb.specs.Endings.{ended_at, ended_by, ending_of, why_of}
use Rattle.ft_orb.specs.Engines.{ending_on, taken_of}
use Rattle.ft_orb.specs.History.{Gone, Line, Shut, Up, longer}
use Rattle.ft_orb.specs.Pause.{Pause}
use Rattle.ft_orb.specs.Standing.{IsFor}
use Rattle.ft_orb.specs.declared.ending.Ended.{Ended}
use Rattle.ft_orb.specs.declared.ending.Ending as why
use Rattle.ft_orb.specs.declared.ending.Ending.TheVariants.{Faulty}
use Rattle.ft_orb.specs.declared.engine.Fed.{Fed}

-- how a stream ends by a fault of its link, which is none of memory
end_by : LinkFault → Ending
end_by (Stream e) = faulty e
end_by WrongDirection = wrong_direction

fault-of : (P : Type 0) (e : StreamFault) → Stream e ≢ Stream Memory → OnFault e P → P
fault-of P Memory not h = absurd (not refl)
fault-of P Failed not h = absurd h
fault-of P e not h = h

fault-ends : (limits : Limits) (s piece : List ℕ) (fault : LinkFault) → fault ≢ Stream Memory → IsFaultOf limits s piece fault → EndsTo meaning_in limits s piece (end_by fault)
unfolding end_by
fault-ends limits s piece (Stream e) not h = fault-of (EndsTo meaning_in limits s piece (faulty e)) e not h
fault-ends limits s piece WrongDirection not h = h

why-by : (fault : LinkFault) → why_of (end_by fault) ≡ Faulty fault
unfolding end_by
why-by (Stream e) = refl
why-by WrongDirection = refl

-- a message on a connection that went on
message-ends : (c : ℕ) (m : Meaning) (last first : Option Ended) → last ≡ first → ended_at c m last ≡ ended_by c (ending_in None (Some m)) first
message-ends c (says m) last first same = same
message-ends c (ends e) last first same = refl

nothing-ends : (o : Option Ending) → ending_in {Heard = Incoming} o None ≡ o
nothing-ends None = refl
nothing-ends (Some e) = refl

-- what holds of a success, by three things that do
pub ok-with : {A E : Type 0} (r : Result A E) (P R : A → Type 0) (Q S : Type 0) → ((x : A) → P x → Q → S → R x) → IfOk r P → OnOk r Q → OnOk r S → IfOk r R
ok-with (Ok x) P R Q S f p q s = f x p q s
ok-with (Err e) P R Q S f p q s = tt

-- One piece after the stream s of connection c, when this had ended last.
module _ (limits : Limits) (c : ℕ) (s piece : List ℕ) (first : Option Ended) where
  -- so many of its octets were taken: the link stands for the stream with them, and this ended last
  pub record HeardTo (i : ℕ) (link : Linked) (last : Option Ended) : Type 0 where
    pub stands : LinkStands limits link (s ++ take i piece)
    pub last_is : last ≡ ended_by c (ending limits (s ++ take i piece)) first

  -- j octets more
  module _ (left : List ℕ) (i j : ℕ) (link later : Linked) (last : Option Ended) (back : left ≡ drop i piece) (h : HeardTo i link last) (st : LinkStands limits later ((s ++ take i piece) ++ take j left)) where
    on : (s ++ take i piece) ++ take j left ≡ s ++ take (i + j) piece
    on = append_assoc s (take i piece) (take j left) ∙ ap (λ (l : List ℕ). s ++ l) (ap (λ (l : List ℕ). take i piece ++ take j l) back ∙ sym (take-add i j piece))

    heard-on : (new : Option Ended) → new ≡ ended_by c (ending limits ((s ++ take i piece) ++ take j left)) first → HeardTo (i + j) later new
    heard-on new is = record { stands = subst (LinkStands limits later) on st; last_is = is ∙ ap (λ (l : List ℕ). ended_by c (ending limits l) first) on }

    -- .. by which a message came
    pub heard-message : (m : Inbound) (new : Option Ended) → (link.is_closed ≡ true → later ≡ shut link) → option_map meaning_at (Some m) ≡ later.inbound
        → ending limits ((s ++ take i piece) ++ take j left) ≡ ending_in (ending limits (s ++ take i piece)) later.inbound → new ≡ ended_at c (meaning_at m) last → HeardTo (i + j) later new
    heard-message m new closed lent is by =
        heard-on new (by ∙ go (ending limits (s ++ take i piece)) refl ∙ sym (ap (λ (o : Option Ending). ended_by c o first) (is ∙ ap (λ (x : Option Meaning). ending_in (ending limits (s ++ take i piece)) x) (sym lent))))
      where
        go : (o : Option Ending) → ending limits (s ++ take i piece) ≡ o → ended_at c (meaning_at m) last ≡ ended_by c (ending_in o (Some (meaning_at m))) first
        go None at = message-ends c (meaning_at m) last first (h.last_is ∙ ap (λ (o : Option Ending). ended_by c o first) at)
        go (Some e) at = absurd (let none = ap (λ (l : Linked). l.inbound) (closed (h.stands.is_ended ∙ ap is_some at)) in let no : Some (meaning_at m) ≡ None = lent ∙ none in cc)

    -- .. by which none did
    pub heard-quiet : option_map meaning_at None ≡ later.inbound → ending limits ((s ++ take i piece) ++ take j left) ≡ ending_in (ending limits (s ++ take i piece)) later.inbound → HeardTo (i + j) later last
    heard-quiet lent is =
        heard-on last (h.last_is ∙ ap (λ (o : Option Ending). ended_by c o first) (sym (is ∙ ap (λ (x : Option Meaning). ending_in (ending limits (s ++ take i piece)) x) (sym lent) ∙ nothing-ends (ending limits (s ++ take i piece)))))

  -- all were taken
  pub heard-whole : (i : ℕ) (link : Linked) (last : Option Ended) → length piece ≤ i → HeardTo i link last → last ≡ ended_by c (ending limits (s ++ piece)) first
  heard-whole i link last all h = h.last_is ∙ ap (λ (l : List ℕ). ended_by c (ending limits (s ++ l)) first) (take_all i piece all)

  -- the stream ends in what is left
  pub heard-end : (left : List ℕ) (i : ℕ) (fault : LinkFault) (new : Option Ended) → left ≡ drop i piece → fault ≢ Stream Memory → IsFaultOf limits (s ++ take i piece) left fault → new ≡ Some (record { connection = c; why = Faulty fault })
      → new ≡ ended_by c (ending limits (s ++ piece)) first
  heard-end left i fault new back not h is =
      let whole : (s ++ take i piece) ++ left ≡ s ++ piece =
      append_assoc s (take i piece) left ∙ ap (λ (l : List ℕ). s ++ l) (ap (λ (l : List ℕ). take i piece ++ l) back ∙ take-append-drop i piece) in
      let e = fault-ends limits (s ++ take i piece) left fault not h in
      is ∙ ap (λ (w : why.Ending). Some (record { connection = c; why = w })) (sym (why-by fault)) ∙ sym (ap (λ (o : Option Ending). ended_by c o first) (ap (ending limits) (sym whole) ∙ e.by))

-- What ended last in an engine, before and after a piece on a connection that it holds: `EndsBy` and `EndsHeard`, without the rest of it.
module _ (old new : Option Ended) (limits : Limits) (c : ℕ) (piece : List ℕ) (fed : Fed) where
  abbrev AreSame : Type 0
  AreSame = (q : ℕ) → ending_of new q ≡ ending_of old q

  abbrev By : Option Ending → Option Ending → Type 0
  By None None = AreSame
  By None (Some e) = (q : ℕ) → ending_of new q ≡ (if c == q then Some (why_of e) else None)
  By (Some e) now = AreSame

  abbrev Heard : Line → Type 0
  Heard l = By (ending_on limits l) (ending_on limits (longer (taken_of piece fed) l))

  same-endings : new ≡ old → AreSame
  same-endings is q = ap (λ (x : Option Ended). ending_of x q) is

  ends-by : (o : Option Ending) → new ≡ ended_by c o old → By None o
  ends-by None is = same-endings is
  ends-by (Some e) is = λ q. ap (λ (x : Option Ended). ending_of x q) is

  -- its stream has ended, or it is closed
  pub heard-closed : (l : Line) (link : Linked) (o : Option Linked) → o ≡ Some link → IsFor limits o l → link.is_closed ≡ true → new ≡ old → Heard l
  heard-closed l link o is held closed same = go l (subst (λ (x : Option Linked). IsFor limits x l) is held)
    where
      ended : (s : List ℕ) → LinkStands limits link s → (e : Option Ending) → ending limits s ≡ e → By e (ending limits (s ++ taken_of piece fed))
      ended s st None at = absurd (let no : true ≡ false = sym closed ∙ st.is_ended ∙ ap is_some at in cc)
      ended s st (Some e) at = same-endings same

      go : (x : Line) → IsFor limits (Some link) x → Heard x
      go Gone for = absurd for
      go Shut for = same-endings same
      go (Up s) for = ended s for (ending limits s) refl

  -- it goes on
  pub heard-fed : (l : Line) (link : Linked) (o : Option Linked) → o ≡ Some link → IsFor limits o l → link.is_closed ≡ false → (p q : Pause) → p ≡ q → octets_to piece q ≡ taken_of piece fed
      → ((s : List ℕ) → LinkStands limits link (s ++ []) → ending limits (s ++ []) ≡ None → new ≡ ended_by c (ending limits (s ++ octets_to piece p)) old) → Heard l
  heard-fed l link o is held live p q same taken f = go l (subst (λ (x : Option Linked). IsFor limits x l) is held)
    where
      going : (s : List ℕ) → LinkStands limits link s → (e : Option Ending) → ending limits s ≡ e → By e (ending limits (s ++ taken_of piece fed))
      going s st None at =
          ends-by (ending limits (s ++ taken_of piece fed))
          (f s (subst (LinkStands limits link) (sym (append-nil s)) st) (ap (ending limits) (append-nil s) ∙ at) ∙ ap (λ (x : List ℕ). ended_by c (ending limits (s ++ x)) old) (ap (octets_to piece) same ∙ taken))
      going s st (Some e) at = absurd (let no : true ≡ false = sym (ap is_some at) ∙ sym st.is_ended ∙ live in cc)

      go : (x : Line) → IsFor limits (Some link) x → Heard x
      go Gone for = absurd for
      go Shut for = absurd (let no : true ≡ false = sym for.1 ∙ live in cc)
      go (Up s) for = going s for (ending limits s) refl
