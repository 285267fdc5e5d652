use Rattle.std.proofs.Common.{arith, refl}
use Rattle.std.proofs.lemmas.Bool.{lt-ltb, ltb-true}
use Rattle.cdr_core.specs.declared.order.Order.TheVariants.{Big}
use Rattle.lemonrudder.proofs.serving.questions.have_octets.Goals as goal

pub returns-in-Some : goal.returns-in-Some
returns-in-Some c =
    let e = c.in-Some.ensures.ends Big in
    (λ yes. let lt = ltb-true 0 c.in-Some.end yes in omega (arith, e, lt), λ some. lt-ltb 0 c.in-Some.end (omega (arith, e, some)))

pub returns-in-None : goal.returns-in-None
returns-in-None c =
    let e = c.in-None.ensures.ends Big in
    (λ yes. omega (arith, e), λ some. refl)
