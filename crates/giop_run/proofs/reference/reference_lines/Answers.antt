use Rattle.std.proofs.Common.{rules}
use Rattle.giop_run.proofs.reference.reference_lines.Goals as goal

pub returns-then-is_empty-2 : goal.returns-then-is_empty-2
returns-then-is_empty-2 c = search rules

pub returns-in_err-type_id : goal.returns-in_err-type_id
returns-in_err-type_id c = search rules

pub returns-in_err-text : goal.returns-in_err-text
returns-in_err-text c = search rules

pub returns-in_err-put_profiles : goal.returns-in_err-put_profiles
returns-in_err-put_profiles c = search rules

pub returns : goal.returns
returns c = search rules
