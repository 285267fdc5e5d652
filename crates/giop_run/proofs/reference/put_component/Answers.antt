use Rattle.giop_run.proofs.reference.put_component.Goals as goal

pub returns : goal.returns
returns c = rw (← c.deref.ensures.value, ← c.in_ok-digits.ensures) c.write.ensures.bytes
