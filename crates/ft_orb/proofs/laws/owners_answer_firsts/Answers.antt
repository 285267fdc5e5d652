use Rattle.ft_orb.specs.Owners.{meaning_of, rules_with}
use Rattle.ft_orb.proofs.Asking.{room-for-each-client}
use Rattle.ft_orb.proofs.Once.{admissible-are-passed, expired-are-refused, firsts-act, invalid-are-refused, keys-act-once, repeats-are-answered, without-call, without-room}
use Rattle.ft_orb.proofs.laws.owners_answer_firsts.Goals as goal

pub returns-clause-firsts : goal.returns-clause-firsts
returns-clause-firsts c = λ owner. record {
  admissible = admissible-are-passed (rules_with owner);
  once = keys-act-once (rules_with owner);
  repeats = repeats-are-answered (rules_with owner);
  act = firsts-act (rules_with owner);
  room = without-room (rules_with owner);
  call = without-call (rules_with owner);
  expired = expired-are-refused (rules_with owner);
  invalid = invalid-are-refused (rules_with owner);
}

pub returns-clause-fair : goal.returns-clause-fair
returns-clause-fair c = λ owner. room-for-each-client (meaning_of owner)
