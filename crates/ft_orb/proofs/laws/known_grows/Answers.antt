use Rattle.ft_orb.proofs.Ledgers.{answered-are-known, answered-unkept-are-known, calls-are-taken, calls-grow, joined-are-no-calls, known-grows, settled-unkept-are-known, told-are-known}
use Rattle.ft_orb.proofs.laws.known_grows.Goals as goal

pub returns-clause-calls : goal.returns-clause-calls
returns-clause-calls c = calls-grow

pub returns-clause-taken : goal.returns-clause-taken
returns-clause-taken c = calls-are-taken

pub returns-clause-known : goal.returns-clause-known
returns-clause-known c = known-grows

pub returns-clause-answered : goal.returns-clause-answered
returns-clause-answered c = answered-are-known

pub returns-clause-told : goal.returns-clause-told
returns-clause-told c = told-are-known

pub returns-clause-joined : goal.returns-clause-joined
returns-clause-joined c = joined-are-no-calls

pub returns-clause-settled_unkept : goal.returns-clause-settled_unkept
returns-clause-settled_unkept c = settled-unkept-are-known

pub returns-clause-answered_unkept : goal.returns-clause-answered_unkept
returns-clause-answered_unkept c = answered-unkept-are-known
