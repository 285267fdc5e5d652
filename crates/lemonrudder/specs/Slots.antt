-- What a slot holds, and what a box has of it.
use Rattle.std.specs.Prelude.{Option, Some, None, Result, Ok, Err}
use Rattle.std.specs.Global.{Box}
use Rattle.lemonrudder.specs.declared.object.Object.{Object}
use Rattle.lemonrudder.specs.declared.slot.Slot.{Slot}

-- the object of a slot
abbrev pub held_in : Slot → Option Object
held_in slot = slot.held.held

abbrev pub in_box : Option (Box Object) → Option Object
in_box None = None
in_box (Some b) = Some b.value

abbrev pub unboxed : {E : Type 0} → Result (Box Object) E → Result Object E
unboxed (Ok b) = Ok b.value
unboxed (Err e) = Err e
