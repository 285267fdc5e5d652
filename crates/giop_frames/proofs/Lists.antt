-- Messages that are written one after another are read again.
use Rattle.std.proofs.Common.{◌≡◌, ℕ, ◌+◌, ◌&&◌, Bool, true, false, cond, List, [], ◌∷◌, ◌++◌, length, Option, Some, None, refl, sym, ap, subst, ◌∙◌, inl, inr, arith, append_assoc, length-append}
use Rattle.std.specs.List.{AllByRecursion}
use Rattle.std.proofs.lemmas.List.{append-nil}
use Rattle.giop_core.specs.Laws.{HeadersAreReadAgain}
use Rattle.giop_core.specs.Headers.{header_octets}
use Rattle.giop_core.specs.Written.{header_for, message_octets}
use Rattle.giop_frames.specs.declared.fault.StreamFault.{StreamFault}
use Rattle.giop_frames.specs.declared.fault.StreamFault.TheVariants.{TooLarge}
use Rattle.giop_frames.specs.declared.limits.Limits.{Limits}
use Rattle.giop_frames.specs.declared.partial.Key.TheVariants.{Of11}
use Rattle.giop_frames.specs.Fragments.{Partial, key_of}
use Rattle.giop_frames.specs.Frames.{split}
use Rattle.giop_frames.specs.ReadAgain.{IsClear, IsReadable, IsSendable, NothingIsClear, Sent, SentAreReadAgain, SentAreReadUpToTheLimit, is_cancel, left_by, sent_fault, sent_from, sent_octets, sent_within, written}
use Rattle.giop_frames.specs.Streams.{Completed, fault_of, frames_of, messages_of, rest_of}
use Rattle.giop_frames.proofs.CutFrames.{length-header}
use Rattle.giop_frames.proofs.Deciding.{test_lt}
use Rattle.giop_frames.proofs.Stays.{fault-stays, messages-stay}
use Rattle.giop_frames.proofs.Whole.{large_refused, written_again}

pub nothing_clear : NothingIsClear
unfolding fault_of rest_of frames_of split
nothing_clear limits = record { faultless = refl; all = refl; none = λ k. refl }

none-left : (b : Bool) → ◌≡◌ {A = Option Partial} (cond b None None) None
none-left true = refl
none-left false = refl

module _ (again : HeadersAreReadAgain) (limits : Limits) where
  -- one message more
  clear-next : (s : List ℕ) (m : Sent) → IsClear limits s → IsSendable limits m
      → (messages_of limits (s ++ message_octets m.version m.kind m.order m.body) ≡ messages_of limits s ++ record { place = length s + (12 + length m.body); message = written m.version m.kind m.order m.body } ∷ [])
      × IsClear limits (s ++ message_octets m.version m.kind m.order m.body)
  clear-next s m clear fine =
      let c = message_octets m.version m.kind m.order m.body in
      let f = written m.version m.kind m.order m.body in
      let h = header_for m.version m.kind m.order (length m.body) in
      let r = written_again again limits s m.body m.version m.kind m.order clear.faultless clear.all (λ _. clear.none (key_of f)) (λ _. clear.none Of11) fine.kind fine.within fine.reads in
      let place : length (s ++ c) ≡ length s + (12 + length m.body) = omega (arith, length-append s c, length-append (header_octets h) m.body, length-header h) in (
        r.messages ∙ ap (λ (p : ℕ). messages_of limits s ++ record { place = p; message = f } ∷ []) place,
        record {
          faultless = r.faultless;
          all = r.all;
          none = λ k. r.partial k ∙ ap (left_by f k) (clear.none k) ∙ none-left (is_cancel f.header.kind && false);
        },
      )

  sent-all : (s : List ℕ) (ms : List Sent) → IsClear limits s → AllByRecursion (IsSendable limits) ms
      → (messages_of limits (s ++ sent_octets ms) ≡ messages_of limits s ++ sent_from (length s) ms) × IsClear limits (s ++ sent_octets ms)
  sent-all s [] clear fine = (ap (messages_of limits) (append-nil s) ∙ sym (append-nil (messages_of limits s)), subst (IsClear limits) (sym (append-nil s)) clear)
  sent-all s (m ∷ ms) clear fine =
      let c = message_octets m.version m.kind m.order m.body in
      let f = written m.version m.kind m.order m.body in
      let h = header_for m.version m.kind m.order (length m.body) in
      let here = clear-next s m clear fine.0 in
      let rest = sent-all (s ++ c) ms here.1 fine.1 in
      let all : (s ++ c) ++ sent_octets ms ≡ s ++ (c ++ sent_octets ms) = append_assoc s c (sent_octets ms) in
      let place : length (s ++ c) ≡ length s + (12 + length m.body) = omega (arith, length-append s c, length-append (header_octets h) m.body, length-header h) in
      let one : Completed = record { place = length s + (12 + length m.body); message = f } in (
        ap (messages_of limits) (sym all) ∙ rest.0 ∙ ap (λ (ns : List Completed). ns ++ sent_from (length (s ++ c)) ms) here.0 ∙ append_assoc (messages_of limits s) (one ∷ []) (sent_from (length (s ++ c)) ms)
            ∙ ap (λ (p : ℕ). messages_of limits s ++ one ∷ sent_from p ms) place,
        subst (IsClear limits) all rest.1,
      )

pub sent_again : HeadersAreReadAgain → SentAreReadAgain
sent_again again limits s ms clear fine = sent-all again limits s ms clear fine

-- the same, up to the first that is over the limit

-- what is said of messages ms after a stream s
abbrev IsReadUpTo : Limits → List ℕ → List Sent → List Sent → Option StreamFault → Type 0
IsReadUpTo limits s ms front fault = (messages_of limits (s ++ sent_octets ms) ≡ messages_of limits s ++ sent_from (length s) front) × (fault_of limits (s ++ sent_octets ms) ≡ fault)

module _ (again : HeadersAreReadAgain) (limits : Limits) where
  sent-up-to : (s : List ℕ) (ms : List Sent) → IsClear limits s → AllByRecursion IsReadable ms → IsReadUpTo limits s ms (sent_within limits ms) (sent_fault limits ms)
  sent-up-to s [] clear fine =
      (ap (messages_of limits) (append-nil s) ∙ sym (append-nil (messages_of limits s)), ap (fault_of limits) (append-nil s) ∙ clear.faultless)
  sent-up-to s (m ∷ ms) clear fine =
      let c = message_octets m.version m.kind m.order m.body in
      let all : (s ++ c) ++ sent_octets ms ≡ s ++ (c ++ sent_octets ms) = append_assoc s c (sent_octets ms) in
      elim (test_lt limits.message (12 + length m.body)) [
        | inl t ↦
            let r = large_refused again limits s m.body m.version m.kind m.order clear.faultless clear.all fine.0.kind fine.0.size t.1 in
            subst (λ (b : Bool). IsReadUpTo limits s (m ∷ ms) (cond b [] (m ∷ sent_within limits ms)) (cond b (Some TooLarge) (sent_fault limits ms))) (sym t.0) (
              ap (messages_of limits) (sym all) ∙ messages-stay limits (s ++ c) (sent_octets ms) TooLarge r.is ∙ r.same ∙ sym (append-nil (messages_of limits s)),
              ap (fault_of limits) (sym all) ∙ fault-stays limits (s ++ c) (sent_octets ms) TooLarge r.is,
            )
        | inr t ↦
            let f = written m.version m.kind m.order m.body in
            let h = header_for m.version m.kind m.order (length m.body) in
            let here = clear-next again limits s m clear (record { kind = fine.0.kind; within = t.1; reads = fine.0.reads }) in
            let rest = sent-up-to (s ++ c) ms here.1 fine.1 in
            let place : length (s ++ c) ≡ length s + (12 + length m.body) = omega (arith, length-append s c, length-append (header_octets h) m.body, length-header h) in
            let one : Completed = record { place = length s + (12 + length m.body); message = f } in
            let front = sent_within limits ms in
            subst (λ (b : Bool). IsReadUpTo limits s (m ∷ ms) (cond b [] (m ∷ front)) (cond b (Some TooLarge) (sent_fault limits ms))) (sym t.0) (
              ap (messages_of limits) (sym all) ∙ rest.0 ∙ ap (λ (ns : List Completed). ns ++ sent_from (length (s ++ c)) front) here.0 ∙ append_assoc (messages_of limits s) (one ∷ []) (sent_from (length (s ++ c)) front)
                  ∙ ap (λ (p : ℕ). messages_of limits s ++ one ∷ sent_from p front) place,
              ap (fault_of limits) (sym all) ∙ rest.1,
            )
      ]

pub sent_up_to : HeadersAreReadAgain → SentAreReadUpToTheLimit
sent_up_to again limits s ms clear fine = sent-up-to again limits s ms clear fine
