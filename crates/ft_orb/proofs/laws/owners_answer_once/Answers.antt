use Rattle.ft_orb.specs.Owners.{meaning_of, rules_with}
use Rattle.ft_orb.proofs.Folded.{folded_answers}
use Rattle.ft_orb.proofs.Headline.{plays-agree, writes-agree}
use Rattle.ft_orb.proofs.Law.{new_run_stands, step_alike, step_stands}
use Rattle.ft_orb.proofs.laws.owners_answer_once.Goals as goal

pub returns-clause-table : goal.returns-clause-table
returns-clause-table c = λ owner. record {
  answers = λ opening arrivals grow one. folded_answers (rules_with owner) opening arrivals one grow;
  stands = λ opening arrivals grow one. new_run_stands (rules_with owner) opening arrivals one grow;
  next = λ clock opening arrivals a t one h stands. step_stands (rules_with owner) opening clock arrivals a t one h stands;
  idle = step_alike (rules_with owner);
}

pub returns-clause-event : goal.returns-clause-event
returns-clause-event c = λ owner made. writes-agree (meaning_of owner) made

pub returns-clause-play : goal.returns-clause-play
returns-clause-play c = λ owner made. plays-agree (meaning_of owner) made
