-- What performing a request gave.
use Rattle.std.specs.Prelude.{ℕ, List}
use Rattle.cdr_core.specs.Value.{Values}
use Rattle.cdr_core.specs.declared.order.Order.{Order}
use Rattle.ft_log.specs.declared.outcome.RawStatus.{RawStatus}
use Rattle.ft_log.specs.declared.system_exception.SystemName.{SystemName}
use Rattle.ft_log.specs.declared.system_exception.Completion.{Completion}

-- results, or an exception that the operation declares, by its repository id and its members, or a system exception, by
-- its name, its minor code and its completion, or the body of a Reply as octets, with its status and its byte order
pub data Performed : Type 0 where
  returned : Values → Performed
  raised : List ℕ → Values → Performed
  system : SystemName → ℕ → Completion → Performed
  raw : RawStatus → Order → List ℕ → Performed
