use Rattle.std.proofs.Common.{rules}
use Rattle.giop_text.proofs.messages.put_request_lines.Goals as goal

pub returns-in_err-put_request_line : goal.returns-in_err-put_request_line
returns-in_err-put_request_line c = search rules

pub returns-in_err-put_contexts : goal.returns-in_err-put_contexts
returns-in_err-put_contexts c = search rules
