use Rattle.giop_frames.proofs.Refusing.{refused_only, streams_refused}
use Rattle.giop_frames.proofs.Splitting.{only_splits, rest_without, streams_split}
use Rattle.giop_frames.proofs.laws.streams_are_frames.Goals as goal

pub returns-clause-split : goal.returns-clause-split
returns-clause-split c = streams_split

pub returns-clause-only : goal.returns-clause-only
returns-clause-only c = only_splits

pub returns-clause-rest : goal.returns-clause-rest
returns-clause-rest c = rest_without

pub returns-clause-refused : goal.returns-clause-refused
returns-clause-refused c = streams_refused

pub returns-clause-only_refused : goal.returns-clause-only_refused
returns-clause-only_refused c = refused_only
