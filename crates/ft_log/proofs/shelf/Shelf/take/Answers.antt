use Rattle.std.proofs.Common.{◌≡◌, Bool, List, ℕ, ℤ, Option, unwrap_or, None, Some, is_some, slice_get, refl, sym, ap, ◌∙◌, subst, arith}
use mir.Syntax.{w32}
use mir.Val.{to_z}
use Rattle.std.specs.List.{sum_by}
use Rattle.std.specs.Map.{KeepsOthers}
use Rattle.std.specs.Option.{option_map_or}
use Rattle.std.proofs.lemmas.List.Sums.{sum_by-swap_remove}
use Rattle.std.proofs.lemmas.Option.{same_Some, slice_get_within, get_or_from_slice_get}
use Rattle.ft_log.specs.Keys.{RequestKey}
use Rattle.indexmap.specs.IndexMap.{get_by}
use Rattle.ft_log.specs.Maps.{Outcomes, due_at, key_in}
use Rattle.ft_log.specs.Names.{is_named}
use Rattle.ft_log.specs.View.{key_of}
use Rattle.ft_log.specs.declared.name.Name.{Name}
use Rattle.ft_log.specs.declared.shelf.Kept.{Kept}
use Rattle.ft_log.proofs.Named.{under_key}
use Rattle.ft_log.proofs.Placing.{IsStanding, standing}
use Rattle.ft_log.proofs.shelf.Shelf.take.Goals as goal
use Rattle.ft_log.proofs.shelf.Shelf.take.Goals.{Start}

-- what stands there
where_is : (c : Start) → IsStanding (key_of c.args._key.now.key) c.args.place c.args.self.now.outcomes.entries
where_is c = standing (key_of c.args._key.now.key) c.args.place c.args.self.now.outcomes.entries c.requires

pub unwrap-name-requires : goal.unwrap-name-requires
unwrap-name-requires c = ap is_some (c.swap_remove_index.ensures.entry ∙ (where_is (goal.at.unwrap-name-requires c).Start).at)

pub returns-clause-client : goal.returns-clause-client
returns-clause-client c =
    let start = (goal.at.returns-clause-client c).Start in
    let got = same_Some _ _ (sym c.unwrap-name.ensures ∙ c.swap_remove_index.ensures.entry ∙ (where_is start).at) in
    ap (λ (p : Name × Kept). p.0.client_id.items) got ∙ (where_is start).of_client

pub returns-clause-kept : goal.returns-clause-kept
returns-clause-kept c =
    let start = (goal.at.returns-clause-kept c).Start in
    let w = where_is start in
    let key : RequestKey = key_of c.args._key.now.key in
    let old : Outcomes = c.args.self.now.outcomes in
    let new : Outcomes = c.swap_remove_index.new.self in
    let own : Name → Name → Bool = λ x y. is_named x.client_id.items x.number y in
    let got : Name × Kept = c.unwrap-name.result in
    let gave = same_Some _ _ (sym c.unwrap-name.ensures ∙ c.swap_remove_index.ensures.entry ∙ (where_is start).at) in
    let up = rw c.unwrap-name.ensures at c.swap_remove_index.ensures.updates in
    let client = ap (λ (p : Name × Kept). p.0.client_id.items) gave ∙ w.of_client in
    let number = ap (λ (p : Name × Kept). p.0.number) gave ∙ w.of_number in
    let now : get_by (is_named key.client_id (Some key.retention_id)) new ≡ None = (λ i. get_by (is_named (sym client i) (sym number i)) new) ∙ up.1 in
    let keeps = subst (λ (c : List ℕ). KeepsOthers own (is_named c (Some key.retention_id)) old.entries new.entries) client
    (subst (λ (m : Option ℤ). KeepsOthers own (is_named got.0.client_id.items m) old.entries new.entries) number up.3) in
    under_key own (λ x y. refl) old new None key now keeps

pub returns-clause-sums : goal.returns-clause-sums
returns-clause-sums c = λ f.
    let start = (goal.at.returns-clause-sums c).Start in
    let w = where_is start in
    let key : RequestKey = key_of c.args._key.now.key in
    let old : List (Name × Kept) = c.args.self.now.outcomes.entries in
    let new : List (Name × Kept) = c.swap_remove_index.new.self.entries in
    let place : ℕ = c.args.place in
    let here = w.at in
    let got : Name × Kept = c.unwrap-name.result in
    let g : Name × Kept → ℕ = λ p. f (due_at p) in
    let all = sum_by-swap_remove g old place got (slice_get_within old place _ here) in
    let is = ap (sum_by g) (rw c.unwrap-name.ensures at c.swap_remove_index.ensures.entries) in
    let of_key : key_in w.name ≡ key = λ i. record { client_id = w.of_client i; retention_id = unwrap_or (w.of_number i) (to_z w32 0) } in
    let until : w.kept.until ≡ option_map_or (λ (p : Name × Kept). p.1.until) (slice_get old place) 0 = sym (ap (λ o. option_map_or (λ (p : Name × Kept). p.1.until) o 0) here) in
    let same = ap g (get_or_from_slice_get old place (w.name, w.kept) got here) ∙ (λ i. f (until i, of_key i)) in
    omega (arith, all, is, same)

pub returns-clause-taken : goal.returns-clause-taken
returns-clause-taken c =
    record { was = c.unwrap-name.result; there = sym c.swap_remove_index.ensures.entry ∙ c.unwrap-name.ensures; is = rw c.unwrap-name.ensures at c.swap_remove_index.ensures.entries }
