use Rattle.std.proofs.Common.{rules}
use Rattle.ior_core.proofs.reference.Ior.is_writable.Goals as goal

pub returns-then-is_string_writable : goal.returns-then-is_string_writable
returns-then-is_string_writable c = search rules

pub returns-else-is_string_writable : goal.returns-else-is_string_writable
returns-else-is_string_writable c = search rules
