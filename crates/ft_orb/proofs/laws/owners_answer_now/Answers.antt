use Rattle.ft_orb.specs.Owners.{meaning_of, rules_with}
use Rattle.ft_orb.proofs.Ever.{keys-answer}
use Rattle.ft_orb.proofs.NowFirsts.{others-answer, repeats-answer-now, repeats-in-events-answer-now, room-for-live-clients}
use Rattle.ft_orb.proofs.Said.{events-act-now, plays-act-now}
use Rattle.ft_orb.proofs.SharesNow.{room-for-each-client-now}
use Rattle.ft_orb.proofs.laws.owners_answer_now.Goals as goal

pub returns-clause-keys : goal.returns-clause-keys
returns-clause-keys c = λ owner. keys-answer (rules_with owner)

pub returns-clause-others : goal.returns-clause-others
returns-clause-others c = λ owner. others-answer (rules_with owner)

pub returns-clause-repeats : goal.returns-clause-repeats
returns-clause-repeats c = λ owner. repeats-answer-now (meaning_of owner)

pub returns-clause-brought : goal.returns-clause-brought
returns-clause-brought c = λ owner. repeats-in-events-answer-now (meaning_of owner)

pub returns-clause-event : goal.returns-clause-event
returns-clause-event c = λ owner. events-act-now (meaning_of owner)

pub returns-clause-play : goal.returns-clause-play
returns-clause-play c = λ owner. plays-act-now (meaning_of owner)

pub returns-clause-fair : goal.returns-clause-fair
returns-clause-fair c = λ owner. room-for-each-client-now (meaning_of owner)

pub returns-clause-live : goal.returns-clause-live
returns-clause-live c = λ owner. room-for-live-clients (meaning_of owner)
