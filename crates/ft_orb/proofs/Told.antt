-- The octets of what a server says.
use Rattle.std.proofs.Common.{◌≡◌, ◌∙◌, ap, refl, sym, ℕ, arith, append_assoc, List, [], ◌∷◌, ◌++◌, length, Option, Some, None, Result, flat_map, option_to_list}
use Rattle.std.specs.List.{cons_option}
use Rattle.std.proofs.lemmas.Grind.{flat_map-append}
use Rattle.std.proofs.lemmas.List.{append-nil}
use Rattle.giop_frames.specs.declared.limits.Limits.{Limits}
use Rattle.ft_log.specs.declared.system_exception.SystemName.{SystemName}
use Rattle.ft_orb.specs.ExactlyOnce.{Arrival}
use Rattle.ft_orb.specs.History.{Event, Line, completed}
use Rattle.ft_orb.specs.Outputs.{error_told_on, farewell_told, output_by}
use Rattle.ft_orb.specs.Requests.{Wanted}
use Rattle.ft_orb.specs.Tellings.{Teller, Telling, answers_told, octets_if, octets_told, rendered, rendering}

-- MessageError, where it is due on a line
abbrev pub error_on : Limits → Line → List ℕ → List ℕ
error_on limits l octets = octets_if (error_told_on limits l octets)

octets-cons : (o : Option Telling) (ts : List Telling) → flat_map octets_told (cons_option o ts) ≡ octets_if o ++ flat_map octets_told ts
octets-cons None ts = refl
octets-cons (Some t) ts = refl

octets-end : (ts : List Telling) (o : Option Telling) → flat_map octets_told (ts ++ option_to_list o) ≡ flat_map octets_told ts ++ octets_if o
octets-end ts None = flat_map-append octets_told ts []
octets-end ts (Some t) = flat_map-append octets_told ts (t ∷ []) ∙ ap (λ (l : List ℕ). flat_map octets_told ts ++ l) (append-nil (octets_told t))

-- an event writes the answers, and then a farewell
pub output-is : {Outcome : Type 0} (limits : Limits) (tell : Teller Outcome) (answers : List Event → Event → List (Result Outcome SystemName)) (past : List Event) (e : Event)
    → output_by limits tell answers past e ≡ rendered tell (completed limits past e) (answers past e) ++ octets_if (farewell_told limits past e)
output-is limits tell answers past e = octets-end (answers_told tell (completed limits past e) (answers past e)) (farewell_told limits past e)

module _ {Outcome : Type 0} (tell : Teller Outcome) where
  pub rendered-cons : (a : Arrival Wanted) (later : List (Arrival Wanted)) (p : Result Outcome SystemName) (ps : List (Result Outcome SystemName)) → rendered tell (a ∷ later) (p ∷ ps) ≡ rendering tell a.content p ++ rendered tell later ps
  unfolding rendering
  rendered-cons a later p ps = octets-cons (tell a.content p) (answers_told tell later ps)

  pub rendered-append : (xs ys : List (Arrival Wanted)) (ps qs : List (Result Outcome SystemName)) → length ps ≡ length xs → rendered tell (xs ++ ys) (ps ++ qs) ≡ rendered tell xs ps ++ rendered tell ys qs
  rendered-append [] ys [] qs h = refl
  rendered-append [] ys (p ∷ ps) qs h = absurd (omega (arith, h))
  rendered-append (x ∷ xs) ys [] qs h = absurd (omega (arith, h))
  rendered-append (x ∷ xs) ys (p ∷ ps) qs h =
      rendered-cons x (xs ++ ys) p (ps ++ qs) ∙ ap (λ (l : List ℕ). rendering tell x.content p ++ l) (rendered-append xs ys ps qs (omega (arith, h)))
      ∙ sym (append_assoc (rendering tell x.content p) (rendered tell xs ps) (rendered tell ys qs)) ∙ ap (λ (l : List ℕ). l ++ rendered tell ys qs) (sym (rendered-cons x xs p ps))
