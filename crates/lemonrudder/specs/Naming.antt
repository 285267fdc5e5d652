-- Numbers of the header, and what they name.
use Rattle.std.specs.Prelude.{◌≡◌, ℕ, ◌≤◌, nat_lt, ℤ, pos, negsuc, Bool, true, false, List, [], ◌∷◌, slice_get, Option, Some, None, Result, Ok, Err, ◌==◌, if◌then◌else◌}
use Rattle.cdr_core.specs.declared.order.Order.{Order}
use Rattle.cdr_core.specs.declared.order.Order.TheVariants.{Big, Little}
use Rattle.giop_core.specs.declared.header.Version.{Version}
use Rattle.giop_core.specs.declared.header.Version.TheVariants.{V10, V11, V12}
use Rattle.giop_core.specs.declared.request.ReplyWish.{ReplyWish}
use Rattle.giop_core.specs.declared.request.ReplyWish.TheVariants as wish
use Rattle.giop_frames.specs.declared.limits.Cuts.{Cuts}
use Rattle.giop_frames.specs.declared.limits.Cuts.TheVariants.{Aligned, Anywhere}
use Rattle.giop_frames.specs.declared.limits.Limits.{Limits}
use Rattle.ft_log.specs.declared.outcome.RawStatus.{RawStatus}
use Rattle.ft_log.specs.declared.outcome.RawStatus.TheVariants.{LocationForward, NoException, SystemException, UserException}
use Rattle.ft_log.specs.declared.system_exception.Completion.{Completion}
use Rattle.ft_log.specs.declared.system_exception.Completion.TheVariants.{Maybe, No, Yes}
use Rattle.ft_log.specs.declared.system_exception.SystemName.{SystemName}
use Rattle.ft_log.specs.declared.system_exception.SystemName.TheVariants as system
use Rattle.lemonrudder.specs.declared.refusal.Refusal.{Refusal}
use Rattle.lemonrudder.specs.declared.refusal.Refusal.TheVariants.{Range}

-- what is there, or the refusal of a number that is not allowed
abbrev pub or_range : {A : Type 0} → Option A → Result A Refusal
or_range (Some x) = Ok x
or_range None = Err Range

-- 0 names the big order, and 1 the little
abbrev pub order_named : ℕ → Option Order
order_named n = if n == 0 then Some Big else (if n == 1 then Some Little else None)

-- A number of an order chooses one of two, or is refused.
abbrev pub by_order : {A : Type 0} → Option Order → (big little : Result A Refusal) → Result A Refusal
by_order None big little = Err Range
by_order (Some Big) big little = big
by_order (Some Little) big little = little

-- the number of an order
abbrev pub order_number : Order → ℕ
order_number Big = 0
order_number Little = 1

-- 0 names no, and 1 yes
abbrev pub truth_named : ℕ → Option Bool
truth_named n = if n == 0 then Some false else (if n == 1 then Some true else None)

-- 0 names aligned cuts of messages of 1.1, and 1 cuts anywhere
abbrev pub cuts_named : ℕ → Option Cuts
cuts_named n = if n == 0 then Some Aligned else (if n == 1 then Some Anywhere else None)

-- cuts where nothing is said
abbrev pub aligned : Option Cuts
aligned = Some Aligned

-- the number of a call: none is below 0, or more than the greatest long
abbrev pub call_numbered : ℤ → Option ℕ
call_numbered (pos n) = if nat_lt n 2147483648 then Some n else None
call_numbered (negsuc n) = None

-- the minor number of a version
abbrev pub minor_number : Version → ℕ
minor_number V10 = 0
minor_number V11 = 1
minor_number V12 = 2

-- the number of a wish
abbrev pub wish_number : ReplyWish → ℕ
wish_number wish.None = 0
wish_number wish.Empty = 1
wish_number wish.Full = 2

-- the number of a wish names it
abbrev pub wish_named : ℕ → Option ReplyWish
wish_named n = if n == 0 then Some wish.None else (if n == 1 then Some wish.Empty else (if n == 2 then Some wish.Full else None))

-- the minor number of a version names it
abbrev pub version_named : ℕ → Option Version
version_named n = if n == 0 then Some V10 else (if n == 1 then Some V11 else (if n == 2 then Some V12 else None))

-- numbers that limits may have
abbrev pub AreLimits : (message partials : ℕ) → Type 0
AreLimits message partials = (4096 ≤ message) × (message ≤ 16777216) × (1 ≤ partials) × (partials ≤ 16)

-- limits of these numbers, which are allowed, and with these cuts
abbrev pub HasLimits : (message partials : ℕ) → Cuts → Limits → Type 0
HasLimits message partials cuts limits = AreLimits message partials × (limits.message ≡ message) × (limits.partials ≡ partials) × (limits.cuts ≡ cuts)

-- the limits of these numbers, or the refusal of numbers that are not allowed
abbrev pub GivesLimits : (message partials : ℕ) → Cuts → Result Limits Refusal → Type 0
GivesLimits message partials cuts (Ok limits) = HasLimits message partials cuts limits
GivesLimits message partials cuts (Err e) = (e ≡ Range) × (¬ (AreLimits message partials))

-- GIOP 9.4.3: the status of a reply, a completion, each by its ordinal
abbrev pub raw_status_named : ℕ → Option RawStatus
raw_status_named n = slice_get (NoException ∷ UserException ∷ SystemException ∷ LocationForward ∷ []) n

abbrev pub completion_named : ℕ → Option Completion
completion_named n = slice_get (Yes ∷ No ∷ Maybe ∷ []) n

-- the system exceptions, by the numbers of the header
abbrev pub system_names : List SystemName
system_names = system.Marshal ∷ system.BadContext ∷ system.NoResources ∷ system.BadOperation ∷ system.ObjectNotExist ∷ system.Unknown ∷ system.BadParam ∷ system.NoPermission ∷ system.ImpLimit ∷ system.Internal ∷ system.Transient ∷ system.NoMemory ∷ system.CommFailure ∷ system.InvObjref ∷ system.Initialize ∷ system.NoImplement ∷ system.BadTypecode ∷ system.NoResponse ∷ system.PersistStore ∷ system.BadInvOrder ∷ system.FreeMem ∷ system.InvIdent ∷ system.InvFlag ∷ system.IntfRepos ∷ system.ObjAdapter ∷ system.DataConversion ∷ system.TransactionRequired ∷ system.TransactionRolledback ∷ system.InvalidTransaction ∷ system.InvPolicy ∷ system.CodesetIncompatible ∷ system.Rebind ∷ system.Timeout ∷ system.TransactionUnavailable ∷ system.TransactionMode ∷ system.BadQos ∷ system.InvalidActivity ∷ system.ActivityCompleted ∷ system.ActivityRequired ∷ system.ThreadCancelled ∷ []

abbrev pub system_name_named : ℕ → Option SystemName
system_name_named n = slice_get system_names n

abbrev pub system_number : SystemName → ℕ
system_number system.Marshal = 0
system_number system.BadContext = 1
system_number system.NoResources = 2
system_number system.BadOperation = 3
system_number system.ObjectNotExist = 4
system_number system.Unknown = 5
system_number system.BadParam = 6
system_number system.NoPermission = 7
system_number system.ImpLimit = 8
system_number system.Internal = 9
system_number system.Transient = 10
system_number system.NoMemory = 11
system_number system.CommFailure = 12
system_number system.InvObjref = 13
system_number system.Initialize = 14
system_number system.NoImplement = 15
system_number system.BadTypecode = 16
system_number system.NoResponse = 17
system_number system.PersistStore = 18
system_number system.BadInvOrder = 19
system_number system.FreeMem = 20
system_number system.InvIdent = 21
system_number system.InvFlag = 22
system_number system.IntfRepos = 23
system_number system.ObjAdapter = 24
system_number system.DataConversion = 25
system_number system.TransactionRequired = 26
system_number system.TransactionRolledback = 27
system_number system.InvalidTransaction = 28
system_number system.InvPolicy = 29
system_number system.CodesetIncompatible = 30
system_number system.Rebind = 31
system_number system.Timeout = 32
system_number system.TransactionUnavailable = 33
system_number system.TransactionMode = 34
system_number system.BadQos = 35
system_number system.InvalidActivity = 36
system_number system.ActivityCompleted = 37
system_number system.ActivityRequired = 38
system_number system.ThreadCancelled = 39
