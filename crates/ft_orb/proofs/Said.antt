-- From the table to each key by itself: what is written with the table's answers is written so, over every past.
use Rattle.std.proofs.Common.{◌≡◌, ℕ, ◌<◌, List, ◌++◌, Result, length, take, flat_map, option_to_list, subst, sym, ap, refl, ◌∙◌}
use Rattle.ft_log.specs.Performed.{Performed}
use Rattle.ft_log.specs.declared.system_exception.SystemName.{SystemName}
use Rattle.ft_orb.specs.declared.events.Note.{Note}
use Rattle.ft_orb.specs.declared.events.Note.TheVariants.{Done, Memory, Refused}
use Rattle.ft_orb.specs.ExactlyOnce.{clock_after, state_after}
use Rattle.ft_orb.specs.History.{Event, arrivals, completed, shortened}
use Rattle.ft_orb.specs.Now.{EventsActNow, IsTableNow, PlaysActNow, ServantsActNow, now_says, performed_now, state_now}
use Rattle.ft_orb.specs.Outputs.{IsCutShort, Made, Plays, Writes, WritesBy, after, farewell_told, output_by, table_says}
use Rattle.ft_objects.specs.Servants.{Meaning}
use Rattle.ft_orb.specs.Standing.{Shown, Stands}
use Rattle.ft_orb.specs.Table.{Table}
use Rattle.ft_orb.specs.Tellings.{answers_told, octets_told, rendered}
use Rattle.ft_orb.proofs.Headline.{arrivals-grow, event-clocks}
use Rattle.ft_orb.proofs.Now.{run_now, tables-answer-now}
use Rattle.ft_orb.proofs.Books.{Book, IsFolded, StandsFor, book_of, now_by, ruled, says_by, table_by}

-- where the table is folded over all arrivals
module _ {S O : Type 0} (b : Book S O) where
  pub past_now_by : (past : List Event) → IsFolded b past → IsTableNow (ruled b) b.opening (clock_after 0 (arrivals b.limits past)) (arrivals b.limits past) (table_by b past)
  past_now_by past folded =
      subst (λ (t : Table S O). IsTableNow (ruled b) b.opening (clock_after 0 (arrivals b.limits past)) (arrivals b.limits past) t) (sym folded)
      (tables-answer-now (ruled b) b.opening (arrivals b.limits past) (arrivals-grow b.limits past).0).1

  pub says_now_at_by : (past : List Event) (e : Event) → IsFolded b past → says_by b past e ≡ now_by b past e
  says_now_at_by past e folded =
      let first = clock_after 0 (arrivals b.limits past) in
      (run_now (ruled b) b.opening first (arrivals b.limits past) (completed b.limits past e) (table_by b past)
      (event-clocks b.limits past e first (arrivals-grow b.limits past).1).0 (past_now_by past folded)).0

  -- the table answers so, over every past
  pub says_now_by : ((past : List Event) → IsFolded b past) → says_by b ≡ now_by b
  says_now_by folded = λ i past e. says_now_at_by past e (folded past) i

  -- so it is written, over a past over which it is folded
  cut_now_by : (past : List Event) (e : Event) (octets : List ℕ) (handled answered : ℕ)
      → says_by b past (shortened b.limits past e handled) ≡ now_by b past (shortened b.limits past e handled)
      → IsCutShort b.limits b.tell (says_by b) past e octets handled answered → IsCutShort b.limits b.tell (now_by b) past e octets handled answered
  cut_now_by past e octets handled answered agree x = record {
    out = x.out ∙ ap (λ (answers : List (Result O SystemName)). rendered b.tell (take answered (completed b.limits past (shortened b.limits past e handled))) answers) agree;
    few = x.few;
    within = x.within;
    near = x.near;
    needs = x.needs;
    further = x.further;
    due = λ few. subst (λ (answers : List (Result O SystemName)). length octets < length (rendered b.tell (take handled (completed b.limits past (shortened b.limits past e handled))) answers)) agree (x.due few);
  }

  output_now_by : (past : List Event) (e : Event) → IsFolded b past → output_by b.limits b.tell (says_by b) past e ≡ output_by b.limits b.tell (now_by b) past e
  output_now_by past e folded = ap (λ (answers : List (Result O SystemName)). flat_map octets_told (answers_told b.tell (completed b.limits past e) answers ++ option_to_list (farewell_told b.limits past e))) (says_now_at_by past e folded)

  pub writes_now_by : (past : List Event) (e : Event) (octets : List ℕ) (note : Note) → IsFolded b past → WritesBy b.limits b.tell (says_by b) past e octets note → WritesBy b.limits b.tell (now_by b) past e octets note
  writes_now_by past e octets Done folded h = (h.0 ∙ output_now_by past e folded, h.1)
  writes_now_by past e octets Refused folded h = (h.0 ∙ output_now_by past e folded, h.1)
  writes_now_by past e octets (Memory handled answered) folded h = cut_now_by past e octets handled answered (says_now_at_by past (shortened b.limits past e handled) folded) h

  pub servant_now_by : (server : Shown S) (past : List Event) → IsFolded b past → StandsFor b server past → server.servant ≡ state_after (ruled b) b.opening (performed_now (ruled b) (arrivals b.limits past))
  servant_now_by server past folded st = st.table.state ∙ (past_now_by past folded).state

  pub event_now_by : ((past : List Event) → IsFolded b past) → (server : Shown S) (past : List Event) (e : Event) (note : Note) (out grown : List ℕ)
      → ((written : List ℕ) × (grown ≡ out ++ written) × WritesBy b.limits b.tell (says_by b) past e written note × StandsFor b server (after b.limits past e note))
      → (written : List ℕ) × (grown ≡ out ++ written)
      × WritesBy b.limits b.tell (now_by b) past e written note
      × (server.servant ≡ state_after (ruled b) b.opening (performed_now (ruled b) (arrivals b.limits (after b.limits past e note))))
  event_now_by folded server past e note out grown x = (
    x.0,
    x.1,
    subst (λ (says : List Event → Event → List (Result O SystemName)). WritesBy b.limits b.tell says past e x.0 note) (says_now_by folded) x.2,
    servant_now_by server (after b.limits past e note) (folded (after b.limits past e note)) x.3,
  )

-- The same of a servant's server.
module _ {S : Type 0} (meaning : Meaning S) (made : Made S) where
  pub servant-now : (server : Shown S) (past : List Event) → Stands meaning made server past → server.servant ≡ state_now meaning made past
  servant-now server past = servant_now_by (book_of meaning made) server past refl

  pub event-now : (server : Shown S) (past : List Event) (e : Event) (note : Note) (out grown : List ℕ)
      → ((written : List ℕ) × (grown ≡ out ++ written) × Writes made.limits meaning.knows (table_says meaning made) past e written note × Stands meaning made server (after made.limits past e note))
      → (written : List ℕ) × (grown ≡ out ++ written)
      × Writes made.limits meaning.knows (now_says meaning made) past e written note
      × (server.servant ≡ state_now meaning made (after made.limits past e note))
  event-now = event_now_by (book_of meaning made) (λ past. refl)

module _ {S : Type 0} (meaning : Meaning S) where
  pub events-act-now : EventsActNow meaning
  events-act-now made past e octets note h = subst (λ (says : List Event → Event → List (Result Performed SystemName)). Writes made.limits meaning.knows says past e octets note) (says_now_by (book_of meaning made) (λ past. refl)) h

  pub plays-act-now : PlaysActNow meaning
  plays-act-now made past es entries h = subst (λ (says : List Event → Event → List (Result Performed SystemName)). Plays made.limits meaning.knows says past es entries) (says_now_by (book_of meaning made) (λ past. refl)) h

  pub servants-act-now : ServantsActNow meaning
  servants-act-now made server past st = servant-now meaning made server past st
