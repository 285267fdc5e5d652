use Rattle.std.proofs.Common.{refl, subst, sym}
use Rattle.lemonrudder.specs.Refers.{OnPrint}
use Rattle.lemonrudder.proofs.Idling.{not_so}
use Rattle.lemonrudder.proofs.Sized.{text_long, text_short}
use Rattle.lemonrudder.proofs.Written.{from_err}
use Rattle.lemonrudder.proofs.referring.Referring.print.Goals as goal

pub returns-then-not-has_room_for_text-clause-printed : goal.returns-then-not-has_room_for_text-clause-printed
returns-then-not-has_room_for_text-clause-printed c = (
  refl,
  λ can. (text_long c.args.self.now.ior c.args.room.now (λ fits. not_so c.if-not-has_room_for_text.true (c.has_room_for_text.ensures.1 fits)), refl),
  λ cannot. absurd (cannot (c.is_writable.ensures.0 c.if-not-is_writable.false)),
)

pub returns-in_err-text-clause-printed : goal.returns-in_err-text-clause-printed
returns-in_err-text-clause-printed c =
    subst (λ r. OnPrint c.args.room.now c.args.room.now c.args.self.now c.args.self.now r) (sym (from_err _ _ c.from_residual.ensures.1)) (
      refl,
      λ can. (text_short c.args.self.now.ior c.args.room.now (c.has_room_for_text.ensures.0 c.if-not-has_room_for_text.false), refl),
      λ cannot. absurd (cannot (c.is_writable.ensures.0 c.if-not-is_writable.false)),
    )
