-- What becomes of a request, and which system exception answers one that is refused.
use Rattle.std.specs.Prelude.{Option, Some, None}
use Rattle.ft_log.specs.declared.system_exception.SystemName.{SystemName}
use Rattle.ft_log.specs.declared.system_exception.SystemName.TheVariants.{BadContext, Marshal, NoResources}
use Rattle.ft_objects.specs.declared.decided.Decision.{Decision}
use Rattle.ft_objects.specs.declared.decided.Decision.TheVariants.{Asked, Repeated, Joined, Expired, Malformed, Invalid, LogFull, ShareFull, Located, Dropped}

-- FT 23.2.7 has BAD_CONTEXT for an expired request; the others are an own rule
abbrev pub refusal_of : Decision → Option SystemName
refusal_of Expired = Some BadContext
refusal_of Malformed = Some Marshal
refusal_of (Invalid name) = Some name
refusal_of LogFull = Some NoResources
refusal_of ShareFull = Some NoResources
refusal_of Asked = None
refusal_of Repeated = None
refusal_of Joined = None
refusal_of Located = None
refusal_of Dropped = None
