-- Errors of a call, by those of its writer.
use Rattle.giop_core.specs.declared.error.WriteError.{WriteError}
use Rattle.giop_core.specs.declared.error.WriteError.TheVariants as write
use Rattle.ft_client.specs.declared.error.CallError.{CallError}
use Rattle.ft_client.specs.declared.error.CallError.TheVariants.{Memory, TooLong}
use Rattle.ft_client.specs.declared.error.RawCallError.{RawCallError}
use Rattle.ft_client.specs.declared.error.RawCallError.TheVariants.{Untaken}
use Rattle.ft_client.specs.declared.error.RawRecallError.{RawRecallError}
use Rattle.ft_client.specs.declared.error.RawRecallError.TheVariants as raw_recall
use Rattle.ft_client.specs.declared.error.RawRedirectError.{RawRedirectError}
use Rattle.ft_client.specs.declared.error.RawRedirectError.TheVariants as raw_redirect
use Rattle.ft_client.specs.declared.error.RecallError.{RecallError}
use Rattle.ft_client.specs.declared.error.RecallError.TheVariants as recall
use Rattle.ft_client.specs.declared.error.RedirectError.{RedirectError}
use Rattle.ft_client.specs.declared.error.RedirectError.TheVariants as redirect

abbrev pub call_error_of : WriteError → CallError
call_error_of write.TooLong = TooLong
call_error_of write.Memory = Memory

abbrev pub recall_error_of : WriteError → RecallError
recall_error_of write.TooLong = recall.TooLong
recall_error_of write.Memory = recall.Memory

abbrev pub redirect_error_of : WriteError → RedirectError
redirect_error_of write.TooLong = redirect.TooLong
redirect_error_of write.Memory = redirect.Memory

-- a raw call that is not redirected for what holds of any call
abbrev pub raw_redirect_error_of : RedirectError → RawRedirectError
raw_redirect_error_of e = raw_redirect.Unled e

-- a raw call that is not taken for what holds of any call
abbrev pub raw_error_of : CallError → RawCallError
raw_error_of e = Untaken e

-- .. and one of before that is not taken up again for what holds of any
abbrev pub raw_recall_error_of : RecallError → RawRecallError
raw_recall_error_of e = raw_recall.Untaken e
