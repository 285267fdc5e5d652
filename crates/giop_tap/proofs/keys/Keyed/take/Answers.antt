use Rattle.std.proofs.Common.{◌≡◌, ℤ, IfOk, OnOk, sym, subst, rules}
use Rattle.std.proofs.lemmas.Int.{to_z-of_z}
use mir.Syntax.{w32}
use mir.Val.{SFits}
use Rattle.giop_core.specs.declared.ft.FtField.{FtField}
use Rattle.giop_core.specs.Ft.{ft_seen}
use Rattle.giop_tap.specs.Keys.{KeysStand}
use Rattle.giop_tap.specs.Remembered as memory
use Rattle.giop_tap.proofs.keys.Keyed.take.Goals as goal

pub returns-in-Present-clause-first : goal.returns-in-Present-clause-first
returns-in-Present-clause-first c = λ s stands.
    let z : ℤ = c.in-Present.retention_id in
    let fits : SFits w32 z = search rules in
    subst (λ (f : FtField). IfOk c.first_with.result (λ n. n ≡ memory.first_with (ft_seen f) s)) (sym c.in-Present.is)
    (subst (λ (r : ℤ). IfOk c.first_with.result (λ n. n ≡ memory.first_in c.in-Present.client_id.now r s)) (to_z-of_z w32 z fits) (c.first_with.ensures.first s stands))

pub returns-in-Present-clause-stands : goal.returns-in-Present-clause-stands
returns-in-Present-clause-stands c = λ s stands.
    let z : ℤ = c.in-Present.retention_id in
    let fits : SFits w32 z = search rules in
    subst (λ (f : FtField). OnOk c.first_with.result (KeysStand c.first_with.new.self (memory.remembered_after c.args.self.now.most c.args.number (ft_seen f) s))) (sym c.in-Present.is)
    (subst (λ (r : ℤ). OnOk c.first_with.result (KeysStand c.first_with.new.self (memory.with_key c.args.self.now.most c.in-Present.client_id.now r c.args.number s))) (to_z-of_z w32 z fits)
    (c.first_with.ensures.stands s stands))
