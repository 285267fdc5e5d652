-- Visits one after another, and how a connection begins.
use Rattle.std.proofs.Common.{◌≡◌, ◌≢◌, ℕ, suc, ◌+◌, Bool, true, false, not, if◌then◌else◌, List, [], ◌∷◌, ◌++◌, length, Option, Result, Ok, Err, None, is_none, is_ok, refl, sym, ap, subst, ◌∙◌, arith}
use Rattle.std.proofs.lemmas.Bool.{eq-eqb}
use Rattle.std.proofs.lemmas.Grind.{flat_map-append}
use Rattle.std.proofs.lemmas.List.{append-nil}
use Rattle.giop_frames.specs.declared.limits.Limits.{Limits}
use Rattle.giop_link.specs.Hearing.{ending}
use Rattle.ft_orb.specs.declared.error.ConnectError.{ConnectError}
use Rattle.ft_orb.specs.declared.error.ConnectError.TheVariants as connecting
use Rattle.ft_orb.specs.declared.events.Note.TheVariants.{Done, Refused}
use Rattle.ft_orb.specs.History.{Event, Opened, Up, does_count, line}
use Rattle.ft_orb.specs.Outputs.{Made, is_going, note_in, table_says}
use Rattle.ft_objects.specs.Servants.{Meaning}
use Rattle.ft_orb.specs.Standing.{note_of_opening}
use Rattle.ft_orb.specs.Wires.{IfKnown}
use Rattle.ft_orb.proofs.Streams.{grows-then}
use Rattle.ft_tcp.specs.Visits.{AreVisits, IsVisit, Visit, moments_in, moments_of, past_with_visit, past_with_visits}

pub note-done : {A : Type 0} (r : Result A ConnectError) → is_ok r ≡ true → note_of_opening r ≡ Done
note-done (Ok x) is = refl
note-done (Err e) is = absurd cc

pub note-other : {A : Type 0} (r : Result A ConnectError) → is_ok r ≡ false → note_of_opening r ≢ Done
note-other (Ok x) is = absurd cc
note-other (Err connecting.NotNew) is = λ e. cc
note-other (Err connecting.Memory) is = λ e. cc

counts-by : (b : Bool) → Done ≡ (if not b then Refused else Done) → b ≡ true
counts-by true is = refl
counts-by false is = absurd cc

-- a connection that was just opened is going
pub opened-going : (limits : Limits) (past : List Event) (c : ℕ) → ending limits [] ≡ None → Done ≡ note_in past (Opened c) → is_going limits (line (Opened c ∷ past) c) ≡ true
opened-going limits past c quiet is =
    ap (λ (b : Bool). is_going limits (if b then (if does_count past c then Up [] else line past c) else line past c)) (eq-eqb c c refl)
    ∙ ap (λ (b : Bool). is_going limits (if b then Up [] else line past c)) (counts-by (does_count past c) is) ∙ ap (λ o. is_none o) quiet

-- what is known of a clock after one visit more
pub moments-more : (vs : List Visit) (v : Visit) (old mid new : Option (List ℕ)) → IfKnown (λ (t u : List ℕ). u ≡ t ++ moments_in vs) old mid → IfKnown (λ (t u : List ℕ). u ≡ t ++ moments_of v) mid new
    → IfKnown (λ (t u : List ℕ). u ≡ t ++ moments_in (vs ++ v ∷ [])) old new
moments-more vs v old mid new p q =
    grows-then (moments_in vs) (moments_of v) (moments_in (vs ++ v ∷ [])) old mid new p q
    (ap (λ (ms : List ℕ). moments_in vs ++ ms) (sym (append-nil (moments_of v))) ∙ sym (flat_map-append moments_of vs (v ∷ [])))

module _ {State : Type 0} (meaning : Meaning State) (made : Made State) where
  abbrev Are : List Event → ℕ → List Visit → Type 0
  Are past c vs = AreVisits made.limits meaning.knows (table_says meaning made) past c vs

  abbrev Is : List Event → ℕ → Visit → Type 0
  Is past c v = IsVisit made.limits meaning.knows (table_says meaning made) past c v

  -- one visit more
  pub visits-more : (past : List Event) (c : ℕ) (vs : List Visit) (v : Visit) (d : ℕ) → d ≡ length vs + c → Are past c vs → Is (past_with_visits made.limits past c vs) d v → Are past c (vs ++ v ∷ [])
  visits-more past c [] v d is all one = let same : d ≡ c = omega (arith, is) in (subst (λ (n : ℕ). Is past n v) same one, tt)
  visits-more past c (x ∷ xs) v d is all one = (all.0, visits-more (past_with_visit made.limits past c x) (suc c) xs v d (omega (arith, is)) all.1 one)

  pub past-more : (past : List Event) (c : ℕ) (vs : List Visit) (v : Visit) (d : ℕ) → d ≡ length vs + c → past_with_visits made.limits past c (vs ++ v ∷ []) ≡ past_with_visit made.limits (past_with_visits made.limits past c vs) d v
  past-more past c [] v d is = let same : c ≡ d = omega (arith, is) in ap (λ (n : ℕ). past_with_visit made.limits past n v) same
  past-more past c (x ∷ xs) v d is = past-more (past_with_visit made.limits past c x) (suc c) xs v d (omega (arith, is))
