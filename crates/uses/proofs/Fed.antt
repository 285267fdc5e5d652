-- What is written for events, one more at a time, and by the fold's answers in place of the table's.
use Rattle.std.proofs.Common.{◌≡◌, ℕ, suc, ◌+◌, ◌<◌, Bool, List, [], ◌∷◌, ◌++◌, length, map, reverse, take, get_or, Result, refl, sym, ap, subst, ◌∙◌, append_assoc}
use Rattle.std.specs.List.{concat}
use Rattle.std.proofs.lemmas.List.{append-nil, map-append, reverse-append, take_more}
use Rattle.giop_frames.specs.declared.limits.Limits.{Limits}
use Rattle.ft_log.specs.Performed.{Performed}
use Rattle.ft_log.specs.declared.system_exception.SystemName.{SystemName}
use Rattle.ft_orb.specs.ExactlyOnce.{OneExpiration}
use Rattle.ft_orb.specs.History.{Event, Piece, arrivals}
use Rattle.ft_orb.specs.Laws.{OutputsArePlayed, PlayedEventsCount, PlaysActOnce, PlaysWriteTheirOutputs, entries_in}
use Rattle.ft_orb.specs.Outputs.{Made, Noted, law_says, output, table_says}
use Rattle.ft_objects.specs.Servants.{Meaning}
use Rattle.ft_orb.specs.Standing.{Shown, Stands}
use Rattle.uses.specs.Pieces.{event_of, octets_for}
use Rattle.uses.specs.declared.pieces.Piece.{Piece as CodePiece}

-- one event before others, in a past
turned : (e : Event) (es past : List Event) → reverse (e ∷ es) ++ past ≡ reverse es ++ e ∷ past
turned e es past = ap (λ (xs : List Event). xs ++ past) (reverse-append (e ∷ []) es) ∙ append_assoc (reverse es) (e ∷ []) past

-- one event after others
pub past-more : (es past : List Event) (e : Event) → reverse (es ++ e ∷ []) ++ past ≡ e ∷ (reverse es ++ past)
past-more es past e = ap (λ (xs : List Event). xs ++ past) (reverse-append es (e ∷ []))

-- the pieces so far with the next
pub pieces-more : (pieces : List CodePiece) (i : ℕ) (p : CodePiece) → i < length pieces → p ≡ get_or pieces i p → map event_of (take (i + 1) pieces) ≡ map event_of (take i pieces) ++ event_of p ∷ []
pieces-more pieces i p within is = ap (λ (ps : List CodePiece). map event_of ps) (take_more pieces i p within) ∙ map-append event_of (take i pieces) (get_or pieces i p ∷ []) ∙ ap (λ (q : CodePiece). map event_of (take i pieces) ++ event_of q ∷ []) (sym is)

module _ (limits : Limits) (knows : List ℕ → Bool) (answers : List Event → Event → List (Result Performed SystemName)) where
  pub octets-more : (past es : List Event) (e : Event) → octets_for limits knows answers past (es ++ e ∷ []) ≡ octets_for limits knows answers past es ++ output limits knows answers (reverse es ++ past) e
  octets-more past [] e = append-nil (output limits knows answers past e)
  octets-more past (d ∷ es) e =
      let first = output limits knows answers past d in
      ap (λ (xs : List ℕ). first ++ xs) (octets-more (d ∷ past) es e)
      ∙ sym (append_assoc first (octets_for limits knows answers (d ∷ past) es) (output limits knows answers (reverse es ++ d ∷ past) e))
      ∙ ap (λ (p : List Event). (first ++ octets_for limits knows answers (d ∷ past) es) ++ output limits knows answers p e) (sym (turned d es past))

  same-length : (past es : List Event) → length es ≡ length (entries_in limits knows answers past es)
  same-length past [] = refl
  same-length past (e ∷ es) = ap suc (same-length (e ∷ past) es)

module _ {S : Type 0} (meaning : Meaning S) (made : Made S) where
  abbrev TableFor : List Event → List Event → List ℕ
  TableFor past es = octets_for made.limits meaning.knows (table_says meaning made) past es

  -- one piece more was fed
  pub fed-more : (server : Shown S) (pieces : List CodePiece) (i : ℕ) (p : CodePiece) (octets : List ℕ) (past : List Event) (start out grown written : List ℕ) → i < length pieces → p ≡ get_or pieces i p → octets ≡ p.octets.items
      → out ≡ start ++ TableFor past (map event_of (take i pieces)) → grown ≡ out ++ written
      → written ≡ output made.limits meaning.knows (table_says meaning made) (reverse (map event_of (take i pieces)) ++ past) (Piece 1 p.moment octets)
      → Stands meaning made server (Piece 1 p.moment octets ∷ (reverse (map event_of (take i pieces)) ++ past))
      → (grown ≡ start ++ TableFor past (map event_of (take (i + 1) pieces))) × Stands meaning made server (reverse (map event_of (take (i + 1) pieces)) ++ past)
  fed-more server pieces i p octets past start out grown written within at is before more writes stands =
      let es = map event_of (take i pieces) in
      let e = event_of p in
      let same : Piece 1 p.moment octets ≡ e = ap (λ (xs : List ℕ). Piece 1 p.moment xs) is in
      let next : map event_of (take (i + 1) pieces) ≡ es ++ e ∷ [] = pieces-more pieces i p within at in
      let out_e = output made.limits meaning.knows (table_says meaning made) (reverse es ++ past) e in
      let is_written : written ≡ out_e = writes ∙ ap (λ (d : Event). output made.limits meaning.knows (table_says meaning made) (reverse es ++ past) d) same in
      rw next (
        more ∙ ap (λ (xs : List ℕ). xs ++ written) before ∙ append_assoc start (TableFor past es) written ∙ ap (λ (xs : List ℕ). start ++ (TableFor past es ++ xs)) is_written
            ∙ ap (λ (xs : List ℕ). start ++ xs) (sym (octets-more made.limits meaning.knows (table_says meaning made) past es e)),
        subst (λ (q : List Event). Stands meaning made server q) (sym (past-more es past e)) (subst (λ (d : Event). Stands meaning made server (d ∷ (reverse es ++ past))) same stands),
      )

-- exactly once, by the laws of the server
pub octets-once : {S : Type 0} (meaning : Meaning S) → PlaysActOnce meaning → PlaysWriteTheirOutputs → PlayedEventsCount → OutputsArePlayed
    → (made : Made S) (past es : List Event) → OneExpiration (arrivals made.limits (reverse es ++ past))
    → octets_for made.limits meaning.knows (table_says meaning made) past es ≡ octets_for made.limits meaning.knows (law_says meaning made) past es
octets-once meaning once written count any made past es one =
    let played = any made.limits meaning.knows (table_says meaning made) past es in
    let entries = entries_in made.limits meaning.knows (table_says meaning made) past es in
    let whole = count made.limits past es entries (same-length made.limits meaning.knows (table_says meaning made) past es) played.1 in
    let acts = once made past es entries (subst (λ (p : List Event). OneExpiration (arrivals made.limits p)) (sym whole) one) played.0 in
    ap (λ (ws : List Noted). concat (map (λ w. w.octets) ws)) (written made.limits meaning.knows (law_says meaning made) past es entries acts played.1)
