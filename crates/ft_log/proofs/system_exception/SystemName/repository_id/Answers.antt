use Rattle.std.proofs.Common.{rules}
use Rattle.ft_log.proofs.system_exception.SystemName.repository_id.Goals as goal

pub returns-in-Marshal : goal.returns-in-Marshal
returns-in-Marshal c = search rules

pub returns-in-BadContext : goal.returns-in-BadContext
returns-in-BadContext c = search rules

pub returns-in-NoResources : goal.returns-in-NoResources
returns-in-NoResources c = search rules

pub returns-in-BadOperation : goal.returns-in-BadOperation
returns-in-BadOperation c = search rules

pub returns-in-ObjectNotExist : goal.returns-in-ObjectNotExist
returns-in-ObjectNotExist c = search rules

pub returns-in-Unknown : goal.returns-in-Unknown
returns-in-Unknown c = search rules

pub returns-in-BadParam : goal.returns-in-BadParam
returns-in-BadParam c = search rules

pub returns-in-NoPermission : goal.returns-in-NoPermission
returns-in-NoPermission c = search rules

pub returns-in-ImpLimit : goal.returns-in-ImpLimit
returns-in-ImpLimit c = search rules

pub returns-in-Internal : goal.returns-in-Internal
returns-in-Internal c = search rules

pub returns-in-NoMemory : goal.returns-in-NoMemory
returns-in-NoMemory c = search rules

pub returns-in-CommFailure : goal.returns-in-CommFailure
returns-in-CommFailure c = search rules

pub returns-in-InvObjref : goal.returns-in-InvObjref
returns-in-InvObjref c = search rules

pub returns-in-Initialize : goal.returns-in-Initialize
returns-in-Initialize c = search rules

pub returns-in-NoImplement : goal.returns-in-NoImplement
returns-in-NoImplement c = search rules

pub returns-in-BadTypecode : goal.returns-in-BadTypecode
returns-in-BadTypecode c = search rules

pub returns-in-NoResponse : goal.returns-in-NoResponse
returns-in-NoResponse c = search rules

pub returns-in-PersistStore : goal.returns-in-PersistStore
returns-in-PersistStore c = search rules

pub returns-in-BadInvOrder : goal.returns-in-BadInvOrder
returns-in-BadInvOrder c = search rules

pub returns-in-FreeMem : goal.returns-in-FreeMem
returns-in-FreeMem c = search rules

pub returns-in-InvIdent : goal.returns-in-InvIdent
returns-in-InvIdent c = search rules

pub returns-in-InvFlag : goal.returns-in-InvFlag
returns-in-InvFlag c = search rules

pub returns-in-IntfRepos : goal.returns-in-IntfRepos
returns-in-IntfRepos c = search rules

pub returns-in-ObjAdapter : goal.returns-in-ObjAdapter
returns-in-ObjAdapter c = search rules

pub returns-in-DataConversion : goal.returns-in-DataConversion
returns-in-DataConversion c = search rules

pub returns-in-TransactionRequired : goal.returns-in-TransactionRequired
returns-in-TransactionRequired c = search rules

pub returns-in-TransactionRolledback : goal.returns-in-TransactionRolledback
returns-in-TransactionRolledback c = search rules

pub returns-in-InvalidTransaction : goal.returns-in-InvalidTransaction
returns-in-InvalidTransaction c = search rules

pub returns-in-InvPolicy : goal.returns-in-InvPolicy
returns-in-InvPolicy c = search rules

pub returns-in-CodesetIncompatible : goal.returns-in-CodesetIncompatible
returns-in-CodesetIncompatible c = search rules

pub returns-in-Rebind : goal.returns-in-Rebind
returns-in-Rebind c = search rules

pub returns-in-Timeout : goal.returns-in-Timeout
returns-in-Timeout c = search rules

pub returns-in-TransactionUnavailable : goal.returns-in-TransactionUnavailable
returns-in-TransactionUnavailable c = search rules

pub returns-in-TransactionMode : goal.returns-in-TransactionMode
returns-in-TransactionMode c = search rules

pub returns-in-BadQos : goal.returns-in-BadQos
returns-in-BadQos c = search rules

pub returns-in-InvalidActivity : goal.returns-in-InvalidActivity
returns-in-InvalidActivity c = search rules

pub returns-in-ActivityCompleted : goal.returns-in-ActivityCompleted
returns-in-ActivityCompleted c = search rules

pub returns-in-ActivityRequired : goal.returns-in-ActivityRequired
returns-in-ActivityRequired c = search rules

pub returns-in-ThreadCancelled : goal.returns-in-ThreadCancelled
returns-in-ThreadCancelled c = search rules
