-- What the first message of octets tells, once an assembler has taken them.
use Rattle.std.proofs.Common.{◌≡◌, ◌≤◌, ℕ, List, [], ◌∷◌, ◌++◌, length, take, drop, Option, Some, None, MatchOption, IsSomeAnd, option_map, refl, ap, sym, subst, ◌∙◌, arith}
use Rattle.std.proofs.lemmas.List.{take-append-drop, take_all}
use Rattle.giop_core.specs.declared.message.Message.{Message}
use Rattle.giop_core.specs.Lent as lent
use Rattle.giop_frames.specs.declared.fault.StreamFault.{StreamFault}
use Rattle.giop_frames.specs.declared.fault.StreamFault.TheVariants as fault
use Rattle.giop_frames.specs.declared.limits.Limits.{Limits}
use Rattle.giop_frames.specs.Fragments.{content_of}
use Rattle.giop_frames.specs.Frames.{Frame, split}
use Rattle.giop_frames.specs.Laws.{MessagesGrow}
use Rattle.giop_frames.specs.Standing.{IsFault, IsLent, completed_at}
use Rattle.giop_frames.specs.Streams.{Completed, messages_of}
use Rattle.uses.specs.Forwarding.{first_of, first_said, said_in}
use Rattle.giop_frames.proofs.Counted.{one_lent}

-- no octets have no message
none_said : (limits : Limits) → messages_of limits [] ≡ []
unfolding messages_of split
none_said limits = refl

-- where octets have one message, it stays the first of more octets
first_stays : (limits : Limits) → MessagesGrow → (s c : List ℕ) (m : Completed) → messages_of limits s ≡ m ∷ [] → first_said limits (s ++ c) ≡ first_of (m ∷ [])
first_stays limits grow s c m is = let (more, e, late) = grow limits s c in ap first_of e ∙ ap (λ ms. first_of (ms ++ more)) is

-- what feeding octets to a new assembler did
module _ (limits : Limits) (octets : List ℕ) (n : ℕ) (message : Option Frame) (told : messages_of limits (take n octets) ≡ messages_of limits [] ++ completed_at (length (take n octets)) message) where
  first_lent : (f : Frame) → message ≡ Some f → MessagesGrow → first_said limits octets ≡ said_in (content_of f.header f.octets)
  first_lent f is grow =
      let at = length (take n octets) in
      let m : Completed = record { place = at; message = f } in
      let one : messages_of limits (take n octets) ≡ m ∷ [] = told ∙ ap (λ ms. ms ++ completed_at at message) (none_said limits) ∙ ap (completed_at at) is in
      subst (λ s. first_said limits s ≡ said_in (content_of f.header f.octets)) (take-append-drop n octets) (first_stays limits grow (take n octets) (drop n octets) m one)

  none_lent : message ≡ None → n ≡ length octets → first_said limits octets ≡ None
  none_lent is all =
      let at = length (take n octets) in
      let none : messages_of limits (take n octets) ≡ [] = told ∙ ap (λ ms. ms ++ completed_at at message) (none_said limits) ∙ ap (completed_at at) is in
      let within : length octets ≤ n = omega (arith, all) in
      subst (λ s. first_said limits s ≡ None) (take_all n octets within) (ap first_of none)

  pub lent_first : (said : Option Message) → MatchOption said (message ≡ None) (λ m. IsSomeAnd message (λ f. IsLent m f)) → (message ≡ None → n ≡ length octets) → MessagesGrow
      → option_map (λ (m : Message). lent.content_of m.content) said ≡ first_said limits octets
  lent_first None is all grow = sym (none_lent is (all is))
  lent_first (Some m) h all grow = let (f, is, l) = one_lent _ message h in sym (first_lent f is grow ∙ ap said_in l.content)

-- where they have a fault nothing comes before it
pub fault_first : (limits : Limits) (octets : List ℕ) (e : StreamFault) → IsFault limits [] octets e → (e ≡ fault.Memory → ⊥) → first_said limits octets ≡ None
fault_first limits octets fault.Memory f other = absurd (other refl)
fault_first limits octets fault.Failed f other = absurd f
fault_first limits octets e f other = ap first_of (f.same ∙ none_said limits)
