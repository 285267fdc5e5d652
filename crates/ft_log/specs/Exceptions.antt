-- System exceptions: their names and repository ids, and the numbers of completion.
use Rattle.std.specs.Prelude.{ℕ, List, ◌++◌, codes}
use Rattle.ft_log.specs.declared.system_exception.SystemName.{SystemName}
use Rattle.ft_log.specs.declared.system_exception.SystemName.TheVariants as name
use Rattle.ft_log.specs.declared.system_exception.Completion.{Completion}
use Rattle.ft_log.specs.declared.system_exception.Completion.TheVariants as completion

-- the standard's names
abbrev pub system_text : SystemName → List ℕ
system_text name.Marshal = codes "MARSHAL"
system_text name.BadContext = codes "BAD_CONTEXT"
system_text name.NoResources = codes "NO_RESOURCES"
system_text name.BadOperation = codes "BAD_OPERATION"
system_text name.ObjectNotExist = codes "OBJECT_NOT_EXIST"
system_text name.Unknown = codes "UNKNOWN"
system_text name.BadParam = codes "BAD_PARAM"
system_text name.NoPermission = codes "NO_PERMISSION"
system_text name.ImpLimit = codes "IMP_LIMIT"
system_text name.Internal = codes "INTERNAL"
system_text name.Transient = codes "TRANSIENT"
system_text name.NoMemory = codes "NO_MEMORY"
system_text name.CommFailure = codes "COMM_FAILURE"
system_text name.InvObjref = codes "INV_OBJREF"
system_text name.Initialize = codes "INITIALIZE"
system_text name.NoImplement = codes "NO_IMPLEMENT"
system_text name.BadTypecode = codes "BAD_TYPECODE"
system_text name.NoResponse = codes "NO_RESPONSE"
system_text name.PersistStore = codes "PERSIST_STORE"
system_text name.BadInvOrder = codes "BAD_INV_ORDER"
system_text name.FreeMem = codes "FREE_MEM"
system_text name.InvIdent = codes "INV_IDENT"
system_text name.InvFlag = codes "INV_FLAG"
system_text name.IntfRepos = codes "INTF_REPOS"
system_text name.ObjAdapter = codes "OBJ_ADAPTER"
system_text name.DataConversion = codes "DATA_CONVERSION"
system_text name.TransactionRequired = codes "TRANSACTION_REQUIRED"
system_text name.TransactionRolledback = codes "TRANSACTION_ROLLEDBACK"
system_text name.InvalidTransaction = codes "INVALID_TRANSACTION"
system_text name.InvPolicy = codes "INV_POLICY"
system_text name.CodesetIncompatible = codes "CODESET_INCOMPATIBLE"
system_text name.Rebind = codes "REBIND"
system_text name.Timeout = codes "TIMEOUT"
system_text name.TransactionUnavailable = codes "TRANSACTION_UNAVAILABLE"
system_text name.TransactionMode = codes "TRANSACTION_MODE"
system_text name.BadQos = codes "BAD_QOS"
system_text name.InvalidActivity = codes "INVALID_ACTIVITY"
system_text name.ActivityCompleted = codes "ACTIVITY_COMPLETED"
system_text name.ActivityRequired = codes "ACTIVITY_REQUIRED"
system_text name.ThreadCancelled = codes "THREAD_CANCELLED"

-- the repository id of a system exception: that of its IDL in module CORBA, under the prefix omg.org
abbrev pub repository_id : SystemName → List ℕ
repository_id n = codes "IDL:omg.org/CORBA/" ++ system_text n ++ codes ":1.0"

-- GIOP 9.4.3: enum completion_status, in order
abbrev pub completion_number : Completion → ℕ
completion_number completion.Yes = 0
completion_number completion.No = 1
completion_number completion.Maybe = 2

-- GIOP 9.4.3: its names
abbrev pub completion_text : Completion → List ℕ
completion_text completion.Yes = codes "COMPLETED_YES"
completion_text completion.No = codes "COMPLETED_NO"
completion_text completion.Maybe = codes "COMPLETED_MAYBE"
