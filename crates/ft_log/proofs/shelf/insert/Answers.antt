use Rattle.std.proofs.Common.{◌≡◌, cond, ℤ, Some, refl, ap, ◌∙◌, subst, rules}
use Rattle.std.proofs.lemmas.Int.{to_z-of_z}
use mir.Syntax.{w32}
use mir.Val.{SFits, of_z, to_z}
use Rattle.indexmap.proofs.CallerLemmas.{insert_entry-new}
use Rattle.ft_log.specs.Keys.{RequestKey, same_key}
use Rattle.ft_log.specs.Maps.{Outcomes, under}
use Rattle.ft_log.proofs.Named.{under_key}
use Rattle.ft_log.proofs.shelf.insert.Goals as goal

pub returns-clause-kept : goal.returns-clause-kept
returns-clause-kept c =
    let z : ℤ = c.args.key.retention_id in
    let fits : SFits w32 z = search rules in
    let up = rw c.unwrap.ensures at c.insert.ensures.updates in
    let key : ℤ → RequestKey = λ n. record { client_id = c.args.key.client_id.items; retention_id = n } in
    let new : Outcomes = c.insert.new.self in
    let old : Outcomes = c.args.outcomes.now in
    let P : ℤ → Type 0 = λ n. (other : RequestKey) → under new other ≡ cond (same_key other (key n)) (Some c.args.kept) (under old other) in
    subst P (to_z-of_z w32 z fits) (under_key _ (λ x y. refl) old new (Some c.args.kept) (key (to_z w32 (of_z w32 z))) up.1 up.3)

pub returns-clause-last : goal.returns-clause-last
returns-clause-last c =
    let z : ℤ = c.args.key.retention_id in
    let fits : SFits w32 z = search rules in
    let key : ℤ → RequestKey = λ n. record { client_id = c.args.key.client_id.items; retention_id = n } in
    let back = to_z-of_z w32 z fits in
    let absent = ap (λ n. under c.args.outcomes.now (key n)) back ∙ c.requires.absent in
    record {
      name = record { client_id = c.args.key.client_id; number = Some (to_z w32 (of_z w32 z)) };
      of_key = ap key back;
      is = (rw c.unwrap.ensures at c.insert.ensures.entries) ∙ insert_entry-new _ c.args.outcomes.now _ c.args.kept absent;
    }
