use Rattle.std.proofs.Common.{◌≡◌, ◌≤◌, ◌&&◌, Bool, true, not, nat_lt, cond, List, ℕ, length, nat_eq, option_map, Option, Some, sym, ap, ◌∙◌, subst, arith}
use Rattle.std.specs.List.{count_by, sum_by}
use Rattle.std.specs.Option.{option_eq}
use Rattle.indexmap.specs.IndexMap.{index_map_len}
use Rattle.ft_log.specs.Dues.{dues, places, under}
use Rattle.ft_log.specs.Filled.{filled_by}
use Rattle.ft_log.specs.Keys.{RequestKey, are_distinct, clients_in, held_of, same_key}
use Rattle.ft_log.specs.Kept.{KeptOutcome}
use Rattle.ft_log.specs.Logged.{logged}
use Rattle.ft_log.specs.Maps.{due_at, held_at, is_countable}
use Rattle.ft_log.specs.Holding.{Holding}
use Rattle.ft_log.specs.Shelf.{at_key}
use Rattle.ft_log.specs.Tied.{due_of, is_free, is_ready, outcome_for}
use Rattle.ft_log.specs.View.{entries_at, key_of}
use Rattle.ft_log.specs.declared.due.Due.{Due}
use Rattle.ft_log.specs.declared.held.Held.{Held}
use Rattle.ft_log.specs.declared.held.Held.TheVariants.{Known}
use Rattle.ft_log.specs.declared.shelf.Kept.{Kept}
use Rattle.ft_log.specs.declared.shelf.Shelf.{Shelf}
use Rattle.ft_log.specs.declared.story.Entry.{Entry}
use Rattle.ft_log.proofs.Entries.{keys_at}
use Rattle.ft_log.proofs.Filling.{dues-filled, entries-filled, keys-filled, length-filled, map-kept, outcome-filled, placed-refilled, put_outcome, slot-kept}
use Rattle.ft_log.proofs.store.Store.fill.Goals as goal

pub invariant_of-self : goal.invariant_of-self
unfolding logged
invariant_of-self c =
    let s = c.args.self.now in
    let es : List Entry = s.story.entries in
    let by : Entry = record { key = c.args.key; expiration = c.args.number; outcome = Known c.args.outcome } in
    let n : Shelf = c.fill.new.self in
    let is = sym c.filled-self.ensures in
    let same : keys_at es ≡ keys_at (filled_by by es) = sym (keys-filled by es) in
    let b : Bool = nat_lt s.share s.capacity in
    let keys : (P : List RequestKey → Type 0) → P (keys_at es) → P (keys_at c.filled-self.result.entries) = λ P h. subst (λ (l : List Entry). P (keys_at l)) is (subst P same h) in
    record {
      within = subst (λ (l : List Entry). length l ≤ s.capacity) is (let h = s.within in let size = length-filled by es in omega (arith, h, size));
      distinct = keys (λ ks. are_distinct ks ≡ true) s.distinct;
      shared = keys (λ ks. (client : List ℕ) → held_of client ks ≤ s.share) s.shared;
      found = subst (λ (l : List Entry). (key : RequestKey) → option_map (λ x. x.outcome) (at_key n key) ≡ outcome_for key l) is (λ key.
          ap (option_map (λ x. x.outcome)) (c.fill.ensures.kept key) ∙ map-kept c.args.number (Known c.args.outcome) (same_key key (key_of c.args.key)) (at_key s.kept key)
          ∙ ap (λ (o : Option Held). cond (same_key key (key_of c.args.key)) (option_map (put_outcome c.args.number (Known c.args.outcome)) o) o) (s.found key) ∙ sym (outcome-filled by key es));
      listed = subst (λ (l : List Entry). (f : ℕ × RequestKey → ℕ) → sum_by (λ p. f (due_at p)) n.outcomes.entries ≡ sum_by (λ e. f (due_of e)) l) is (λ f. c.fill.ensures.sums f ∙ s.listed f ∙ sym (dues-filled f by es));
      counted = keys (λ ks. b ≡ true → (client : List ℕ) → held_at s.counts client ≡ held_of client ks) s.counted;
      slim = keys (λ ks. index_map_len s.counts ≤ cond b (clients_in ks) 0) s.slim;
      dated = subst (λ (l : List Entry). (f : ℕ × RequestKey → ℕ) → sum_by (λ d. f (d.until.0, key_of d.key.key)) (dues s.order) ≡ sum_by (λ e. f (due_of e)) l) is (λ f. s.dated f ∙ sym (dues-filled f by es));
      slotted = ap (λ (g : RequestKey → Option ℕ). count_by (λ (d : Due). not (option_eq nat_eq (g (key_of d.key.key)) (Some d.slot))) (dues s.order))
          (λ i key. (ap (option_map (λ (k : Kept). k.slot)) (c.fill.ensures.kept key) ∙ slot-kept c.args.number (Known c.args.outcome) (same_key key (key_of c.args.key)) (at_key s.kept key)) i) ∙ s.slotted;
      placed = placed-refilled s.kept.outcomes.entries n.outcomes.entries (under s.order) c.fill.ensures.is s.placed;
      copied = s.copied;
      ready = keys (λ ks. is_ready (option_map (λ r. key_of r.key.key) s.room) ks s.capacity s.share (places s.order) (is_free b n s.counts) ≡ true)
          (subst (λ (r : Bool). is_ready (option_map (λ r. key_of r.key.key) s.room) (keys_at es) s.capacity s.share (places s.order) (r && is_countable b s.counts) ≡ true) (sym c.fill.ensures.room) s.ready);
    }

pub returns : goal.returns
unfolding logged
returns c =
    let s = c.args.self.now in
    ap (λ (es : List (KeptOutcome Holding)). record { capacity = s.capacity; share = s.share; entries = es; room = option_map (λ r. key_of r.key.key) s.room })
    (ap (λ (l : List Entry). entries_at l) c.filled-self.ensures ∙ entries-filled c.args.key c.args.number c.args.outcome s.story.entries)
