use Rattle.ior_core.proofs.Fitting.{reference_fits, reference_octets}
use Rattle.ior_core.specs.View.{ior_value}
use Rattle.ior_core.proofs.laws.written_reference_is_read.Goals as goal

pub returns-clause-octets : goal.returns-clause-octets
returns-clause-octets c =
    let ior = c.args.ior.now in
    c.written_is_read.ensures.value _ (ior_value ior) (reference_fits ior (rw c.deref-2.ensures.value at c.are_of_code.ensures) c.requires)

pub returns-clause-text : goal.returns-clause-text
returns-clause-text c =
    let ior = c.args.ior.now in
    c.written_is_read-2.ensures.text (ior_value ior) (reference_fits ior (rw c.deref-2.ensures.value at c.are_of_code.ensures) c.requires) (reference_octets ior (rw c.deref.ensures.value at c.are_octets.ensures) (rw c.deref-2.ensures.value at c.are_of_code.ensures))
