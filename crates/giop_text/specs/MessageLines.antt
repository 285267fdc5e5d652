-- The words and the lines that show a message.
use Rattle.std.specs.Prelude.{ℕ, List, [], ◌∷◌, ◌++◌, flat_map, codes, decimal, Option, Some, None}
use Rattle.std.specs.Fmt.{signed_decimal}
use Rattle.std.specs.List.{concat}
use Rattle.cdr_core.specs.declared.order.Order.{Order}
use Rattle.cdr_core.specs.Numbers.{order_text}
use Rattle.giop_core.specs.declared.header.Version.{Version}
use Rattle.giop_core.specs.declared.request.ReplyWish.{ReplyWish}
use Rattle.giop_core.specs.Content.{Addressed, by_key, by_profile, by_reference, Content, request, reply, cancel, locate_request, locate_reply, close, error, fragment}
use Rattle.giop_core.specs.Statuses.{locate_status_of, reply_status_of}
use Rattle.giop_core.specs.Texts.{locate_status_text, reply_status_text, version_text, wish_text}
use Rattle.giop_core.specs.Ft.{Ft, absent, bad, present, ft_in}
use Rattle.giop_text.specs.Text.{digits_of, text_of}

-- the text of what a number stands for, or a question mark
abbrev pub text_by : {A : Type 0} → (A → List ℕ) → Option A → List ℕ
text_by text (Some x) = text x
text_by text None = 0x3f ∷ []

abbrev pub reply_status_words : ℕ → List ℕ
reply_status_words n = codes " status " ++ text_by reply_status_text (reply_status_of n)

abbrev pub locate_status_words : ℕ → List ℕ
locate_status_words n = codes " status " ++ text_by locate_status_text (locate_status_of n)

abbrev pub target_text : Addressed → List ℕ
target_text (by_key key) = concat (codes "key " ∷ digits_of key ∷ [])
target_text (by_profile tag octets) = concat (codes "profile " ∷ decimal tag ∷ codes " " ∷ digits_of octets ∷ [])
target_text (by_reference index type_id profiles) = concat (codes "reference " ∷ decimal index ∷ [])

abbrev pub body_text : List ℕ → List ℕ
body_text body = codes " body " ++ digits_of body

-- a service context: its id and its octets
abbrev pub context_text : ℕ → List ℕ → List ℕ
context_text id octets = concat (codes "context " ∷ decimal id ∷ codes " " ∷ digits_of octets ∷ [])

-- what the contexts say of a client, if they do
abbrev pub ft_text : Ft → List ℕ
ft_text absent = []
ft_text bad = codes " ft bad"
ft_text (present client retention expiration) = concat (codes " ft client " ∷ text_of client ∷ codes " retention " ∷ signed_decimal retention
    ∷ codes " expiration " ∷ decimal expiration ∷ [])

abbrev pub request_text : ℕ → ReplyWish → Addressed → List ℕ → List ℕ → List ℕ
request_text id asked target operation body = concat (codes "Request id " ∷ decimal id ∷ codes " reply " ∷ wish_text asked ∷ codes " " ∷ target_text target
    ∷ codes " operation " ∷ text_of operation ∷ body_text body ∷ [])

abbrev pub locate_request_text : ℕ → Addressed → List ℕ
locate_request_text id target = concat (codes "LocateRequest id " ∷ decimal id ∷ codes " " ∷ target_text target ∷ [])

abbrev pub context_line : ℕ × List ℕ → List ℕ
context_line context = concat (codes "  " ∷ context_text context.0 context.1 ∷ codes "\n" ∷ [])

abbrev pub context_lines : List (ℕ × List ℕ) → List ℕ
context_lines contexts = flat_map context_line contexts

abbrev pub ft_lines : Ft → List ℕ
ft_lines absent = []
ft_lines ft = concat (codes " " ∷ ft_text ft ∷ codes "\n" ∷ [])

abbrev pub request_line : ℕ → ReplyWish → Addressed → List ℕ → List ℕ → List ℕ
request_line id asked target operation body = request_text id asked target operation body ++ codes "\n"

abbrev pub cancel_line : ℕ → List ℕ
cancel_line id = concat (codes "CancelRequest id " ∷ decimal id ∷ codes "\n" ∷ [])

abbrev pub locate_request_line : ℕ → Addressed → List ℕ
locate_request_line id target = locate_request_text id target ++ codes "\n"

abbrev pub reply_line : ℕ → ℕ → List ℕ → List ℕ
reply_line id status body = concat (codes "Reply id " ∷ decimal id ∷ reply_status_words status ∷ body_text body ∷ codes "\n" ∷ [])

abbrev pub locate_reply_line : ℕ → ℕ → List ℕ → List ℕ
locate_reply_line id status body = concat (codes "LocateReply id " ∷ decimal id ∷ locate_status_words status ∷ body_text body ∷ codes "\n" ∷ [])

-- a message's kind and what it says, with a line for each of its contexts
abbrev pub content_lines : Content → List ℕ
content_lines (request id asked target operation contexts rest) = request_line id asked target operation rest.octets ++ (context_lines contexts ++ ft_lines (ft_in contexts))
content_lines (reply id status contexts rest) = reply_line id status rest.octets ++ context_lines contexts
content_lines (cancel id) = cancel_line id
content_lines (locate_request id target) = locate_request_line id target
content_lines (locate_reply id status rest) = locate_reply_line id status rest.octets
content_lines close = codes "CloseConnection\n"
content_lines error = codes "MessageError\n"
content_lines (fragment id octets) = codes "Fragment\n"

abbrev pub message_lines : Version → Order → Content → List ℕ
message_lines version order content = concat (version_text version ∷ codes " " ∷ order_text order ∷ codes " " ∷ content_lines content ∷ [])
