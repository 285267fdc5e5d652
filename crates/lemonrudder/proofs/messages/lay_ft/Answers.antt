use Rattle.std.proofs.Common.{◌∙◌, ℤ, Err, ap, refl, rules, subst, sym}
use Rattle.std.proofs.lemmas.Int.{to_z-of_z}
use mir.Syntax.{w32}
use mir.Val.{SFits}
use Rattle.giop_core.specs.Written.{WroteOctets, ft_octets}
use Rattle.lemonrudder.specs.Sizes.{ft_end}
use Rattle.lemonrudder.specs.Writes.{counted}
use Rattle.lemonrudder.proofs.Sized.{ft_size}
use Rattle.lemonrudder.proofs.Written.{from_err, octets_no_room, octets_unwritten}
use Rattle.lemonrudder.proofs.messages.lay_ft.Goals as goal

pub returns-in_err-check_room : goal.returns-in_err-check_room
returns-in_err-check_room c =
    let a = c.args in
    let octets = ft_octets a.order a.client.now a.retention_id a.expiration in
    subst (λ r. counted octets octets a.room.now a.room.now r) (sym (from_err _ _ c.from_residual.ensures.1))
    (octets_no_room _ _ octets a.room.now _ refl (ft_size a.order a.client.now a.retention_id a.expiration ∙ ap ft_end (sym c.count_of.ensures) ∙ sym c.ft_end.ensures) c.in_err-check_room.ensures)

pub returns-in_err-write_ft : goal.returns-in_err-write_ft
returns-in_err-write_ft c =
    let a = c.args in
    let fits : SFits w32 a.retention_id = search rules in
    let Wrote : ℤ → Type 0 = λ z. WroteOctets {A = Unit {0}} (ft_octets a.order a.client.now z a.expiration) (Err c.in_err-write_ft.field-0.0) c.new-out.result.items c.write_ft.new.out.items in
    let octets = ft_octets a.order a.client.now a.retention_id a.expiration in
    subst (λ r. counted octets octets a.room.now a.room.now r) (sym (from_err _ _ c.from_residual-in_err-write_ft.ensures.1))
    (octets_unwritten _ _ octets a.room.now c.new-out.result.items c.write_ft.new.out.items c.in_err-write_ft.field-0.0 refl (ft_size a.order a.client.now a.retention_id a.expiration ∙ ap ft_end (sym c.count_of.ensures) ∙ sym c.ft_end.ensures) c.in_ok-check_room.ensures (subst Wrote (to_z-of_z w32 a.retention_id fits) c.in_err-write_ft.ensures))
