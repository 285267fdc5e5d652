-- The error numbers of the header, and which refusal stands for each error of the libraries below.
use Rattle.std.specs.Prelude.{ℕ, ℤ, pos, negsuc, min, List, ◌++◌, length, take, drop, Result, Ok, Err}
use Rattle.cdr_core.specs.declared.fault.CdrError.{CdrError}
use Rattle.cdr_core.specs.declared.fault.CdrError.TheVariants as reading
use Rattle.cdr_core.specs.declared.fault.Fault.{Fault}
use Rattle.cdr_core.specs.declared.fault.Kind.{Kind}
use Rattle.cdr_core.specs.declared.fault.Kind.TheVariants as kind
use Rattle.ft_client.specs.declared.error.CallError.{CallError}
use Rattle.ft_client.specs.declared.error.CallError.TheVariants as calling
use Rattle.ft_client.specs.declared.error.RawCallError.{RawCallError}
use Rattle.ft_client.specs.declared.error.RawCallError.TheVariants as raw_calling
use Rattle.ft_client.specs.declared.error.RawRecallError.{RawRecallError}
use Rattle.ft_client.specs.declared.error.RawRecallError.TheVariants as raw_recalling
use Rattle.ft_client.specs.declared.error.RawRedirectError.{RawRedirectError}
use Rattle.ft_client.specs.declared.error.RawRedirectError.TheVariants as raw_redirecting
use Rattle.ft_client.specs.declared.error.RecallError.{RecallError}
use Rattle.ft_client.specs.declared.error.RecallError.TheVariants as recalling
use Rattle.ft_client.specs.declared.error.RedirectError.{RedirectError}
use Rattle.ft_client.specs.declared.error.RedirectError.TheVariants as redirecting
use Rattle.ft_orb.specs.declared.error.ConnectError.{ConnectError}
use Rattle.ft_orb.specs.declared.error.ConnectError.TheVariants as connecting
use Rattle.ft_objects.specs.declared.error.InterfacesError.{InterfacesError}
use Rattle.ft_objects.specs.declared.error.InterfacesError.TheVariants as offering
use Rattle.ft_orb.specs.declared.error.ServeError.{ServeError}
use Rattle.ft_orb.specs.declared.error.ServeError.TheVariants as serving
use Rattle.giop_core.specs.declared.error.WriteError.{WriteError}
use Rattle.giop_core.specs.declared.error.WriteError.TheVariants as writing
use Rattle.ior_core.specs.declared.error.IorError.{IorError}
use Rattle.ior_core.specs.declared.error.IorError.TheVariants as referring
use Rattle.lemonrudder.specs.declared.refusal.Refusal.{Refusal}
use Rattle.lemonrudder.specs.declared.refusal.Refusal.TheVariants as refusal

-- the number of a refusal
abbrev pub error_number : Refusal → ℤ
error_number refusal.Empty = negsuc 0
error_number refusal.Open = negsuc 1
error_number refusal.Memory = negsuc 2
error_number refusal.Range = negsuc 3
error_number refusal.Connection = negsuc 4
error_number refusal.Asking = negsuc 5
error_number refusal.Idle = negsuc 6
error_number refusal.Parks = negsuc 7
error_number refusal.Outcome = negsuc 8
error_number refusal.Room = negsuc 9
error_number refusal.Short = negsuc 10
error_number refusal.Value = negsuc 11
error_number refusal.Types = negsuc 12
error_number refusal.Text = negsuc 13
error_number refusal.Taken = negsuc 14
error_number refusal.Object = negsuc 15
error_number refusal.Raw = negsuc 16
error_number refusal.Reference = negsuc 17
error_number refusal.Stream = negsuc 18
error_number refusal.None = negsuc 19
error_number refusal.Expired = negsuc 20
error_number refusal.Calls = negsuc 21
error_number refusal.Long = negsuc 22
error_number refusal.Lost = negsuc 23
error_number refusal.Place = negsuc 24
error_number refusal.Ticket = negsuc 25
error_number refusal.Forward = negsuc 26

-- a count as a signed number of 64 bits: the greatest, where it is more
abbrev pub signed_of : ℕ → ℤ
signed_of count = pos (min count 9223372036854775807)

-- the number that an export answers
abbrev pub number_in : Result ℕ Refusal → ℤ
number_in (Ok count) = signed_of count
number_in (Err e) = error_number e

-- a room after octets were copied to its front, as many as it has
abbrev pub filled : (octets room : List ℕ) → List ℕ
filled octets room = take (length room) octets ++ drop (min (length octets) (length room)) room

abbrev pub refusal_of_fault : Fault → Refusal
refusal_of_fault f = of_kind f.kind where
  of_kind : Kind → Refusal
  of_kind kind.Short = refusal.Short
  of_kind _ = refusal.Value

abbrev pub refusal_of_reading : CdrError → Refusal
refusal_of_reading (reading.Bad f) = refusal_of_fault f
refusal_of_reading reading.Memory = refusal.Memory

abbrev pub refusal_of_offering : InterfacesError → Refusal
refusal_of_offering offering.NotValid = refusal.Text
refusal_of_offering offering.NoObject = refusal.Object
refusal_of_offering offering.RawObject = refusal.Raw
refusal_of_offering offering.Taken = refusal.Taken
refusal_of_offering offering.Memory = refusal.Memory

abbrev pub refusal_of_calling : CallError → Refusal
refusal_of_calling calling.Expired = refusal.Expired
refusal_of_calling calling.IdsUsed = refusal.Calls
refusal_of_calling calling.TooManyCalls = refusal.Calls
refusal_of_calling calling.TooLong = refusal.Long
refusal_of_calling calling.Memory = refusal.Memory

abbrev pub refusal_of_recalling : RecallError → Refusal
refusal_of_recalling recalling.NumberUsed = refusal.Taken
refusal_of_recalling recalling.Expired = refusal.Expired
refusal_of_recalling recalling.TooManyCalls = refusal.Calls
refusal_of_recalling recalling.TooLong = refusal.Long
refusal_of_recalling recalling.Memory = refusal.Memory

abbrev pub refusal_of_raw_calling : RawCallError → Refusal
refusal_of_raw_calling raw_calling.FtRequest = refusal.Value
refusal_of_raw_calling (raw_calling.Untaken e) = refusal_of_calling e
refusal_of_raw_calling raw_calling.Misplaced = refusal.Place

abbrev pub refusal_of_raw_recalling : RawRecallError → Refusal
refusal_of_raw_recalling raw_recalling.FtRequest = refusal.Value
refusal_of_raw_recalling (raw_recalling.Untaken e) = refusal_of_recalling e
refusal_of_raw_recalling raw_recalling.Misplaced = refusal.Place

abbrev pub refusal_of_redirecting : RedirectError → Refusal
refusal_of_redirecting redirecting.NotForwarded = refusal.Forward
refusal_of_redirecting redirecting.TooLong = refusal.Long
refusal_of_redirecting redirecting.Memory = refusal.Memory

abbrev pub refusal_of_raw_redirecting : RawRedirectError → Refusal
refusal_of_raw_redirecting raw_redirecting.FtRequest = refusal.Value
refusal_of_raw_redirecting (raw_redirecting.Unled e) = refusal_of_redirecting e
refusal_of_raw_redirecting raw_redirecting.Misplaced = refusal.Place

abbrev pub refusal_of_connecting : ConnectError → Refusal
refusal_of_connecting connecting.NotNew = refusal.Connection
refusal_of_connecting connecting.Memory = refusal.Memory

abbrev pub refusal_of_serving : ServeError → Refusal
refusal_of_serving serving.NoConnection = refusal.Connection
refusal_of_serving (serving.Memory handled answered) = refusal.Lost

abbrev pub refusal_of_writing : WriteError → Refusal
refusal_of_writing writing.TooLong = refusal.Long
refusal_of_writing writing.Memory = refusal.Memory

abbrev pub refusal_of_referring : IorError → Refusal
refusal_of_referring referring.Memory = refusal.Memory
refusal_of_referring _ = refusal.Reference
