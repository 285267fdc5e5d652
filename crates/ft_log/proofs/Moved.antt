-- A map and an order whose entries are the same say the same.
use Rattle.std.proofs.Common.{◌≡◌, ℕ, List, ap, ◌∙◌, option_map, unwrap_or, nat_eq}
use Rattle.std.specs.Option.{option_eq}
use Rattle.std.specs.List.{sum_by}
use Rattle.std.specs.Map.{lookup}
use Rattle.ft_log.specs.Dues.{dues}
use Rattle.ft_log.specs.Keys.{RequestKey, held_of}
use Rattle.ft_log.specs.Names.{is_named}
use Rattle.ft_log.specs.Maps.{Counts, due_at, held_at}
use Rattle.ft_log.specs.Tied.{AreDues, AreOutcomes, due_in, due_of, is_slotted}
use Rattle.ft_log.specs.View.{key_of}
use Rattle.ft_log.specs.declared.story.Entry.{Entry}
use Rattle.ft_log.specs.declared.due.Due.{Due}
use Rattle.ft_log.specs.declared.order.Order.{Order}
use Rattle.ft_log.specs.declared.shelf.Shelf.{Shelf}
use Rattle.std.proofs.Common.{Some, None}

pub counted_in : (m n : Counts) (ks : List RequestKey) → n.entries ≡ m.entries → ((client : List ℕ) → held_at m client ≡ held_of client ks) → (client : List ℕ) → held_at n client ≡ held_of client ks
counted_in m n ks same counted client = ap (λ l. unwrap_or (lookup (is_named client None) l) 0) same ∙ counted client

module _ (m n : Shelf) (same : n.outcomes.entries ≡ m.outcomes.entries) where
  pub found_in : (es : List Entry) → AreOutcomes m es → AreOutcomes n es
  found_in es found key = ap (λ l. option_map (λ k. k.outcome) (lookup (is_named key.client_id (Some key.retention_id)) l)) same ∙ found key

  pub listed_in : (es : List Entry) → ((f : ℕ × RequestKey → ℕ) → sum_by (λ p. f (due_at p)) m.outcomes.entries ≡ sum_by (λ e. f (due_of e)) es) → (f : ℕ × RequestKey → ℕ) → sum_by (λ p. f (due_at p)) n.outcomes.entries ≡ sum_by (λ e. f (due_of e)) es
  listed_in es listed f = ap (sum_by (λ p. f (due_at p))) same ∙ listed f

  pub slotted_in : (d : Due) → is_slotted n d ≡ is_slotted m d
  slotted_in d = ap (λ l. option_eq nat_eq (option_map (λ k. k.slot) (lookup (is_named (key_of d.key.key).client_id (Some (key_of d.key.key).retention_id)) l)) (Some d.slot)) same

pub dated_in : (o o' : Order) (es : List Entry) → dues o' ≡ dues o → AreDues o es → AreDues o' es
dated_in o o' es same dated f = ap (sum_by (λ d. f (due_in d))) same ∙ dated f
