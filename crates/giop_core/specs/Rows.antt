-- The grammar of the messages: what stands after each header, in order.
use Rattle.std.specs.Prelude.{◌≡◌, Bool, true, false, pos, List, [], ◌∷◌}
use Rattle.cdr_core.specs.Form as form
use Rattle.cdr_core.specs.Form.{Form}
use Rattle.cdr_core.specs.Parts.{long, octet, raw, short, text, ulong, ulonglong}
use Rattle.cdr_core.specs.View.{forms}
use Rattle.ior_core.specs.Grammar.{reference, tagged, tagged_list}
use Rattle.giop_core.specs.declared.header.Version.{Version}
use Rattle.giop_core.specs.declared.header.Version.TheVariants.{V10, V11, V12}
use Rattle.giop_core.specs.declared.header.MessageKind.{MessageKind}
use Rattle.giop_core.specs.declared.header.MessageKind.TheVariants.{Request, Reply, CancelRequest, LocateRequest, LocateReply, CloseConnection, MessageError, Fragment}
use Rattle.giop_core.specs.Statuses.{locate_statuses, reply_statuses}

-- IOP 7.7: typedef sequence<ServiceContext> ServiceContextList; a service context is an unsigned long, its id, and octets
abbrev pub contexts : Form
contexts = tagged_list

-- GIOP 9.4.2: octet reserved[3]; any octets are read (own rule)
abbrev pub reserved : Form
reserved = form.array 3 octet

-- GIOP 9.4.2: struct IORAddressingInfo { unsigned long selected_profile_index; IOP::IOR ior; }
abbrev pub selected : Form
selected = form.structure (forms (ulong ∷ reference ∷ []))

-- a union over short with the labels 0, 1 and 2
abbrev pub choice : Form → Form → Form → Form
choice a b c = form.union short (form.labelled (pos 0) a (form.labelled (pos 1) b (form.labelled (pos 2) c form.otherwise_nothing)))

-- GIOP 9.4.2: union TargetAddress switch (AddressingDisposition) of KeyAddr 0, ProfileAddr 1 and ReferenceAddr 2, a short
abbrev pub target : Form
target = choice raw tagged selected

-- GIOP 9.4.2 to GIOP 9.4.9: the types of the fields after the header of a message
unfoldable pub row : Version → MessageKind → List Form
row V10 Request = contexts ∷ ulong ∷ form.boolean ∷ raw ∷ text ∷ raw ∷ []
row V11 Request = contexts ∷ ulong ∷ form.boolean ∷ reserved ∷ raw ∷ text ∷ raw ∷ []
row V12 Request = ulong ∷ octet ∷ reserved ∷ target ∷ text ∷ contexts ∷ []
row V12 Reply = ulong ∷ form.enumeration (reply_statuses V12) ∷ contexts ∷ []
row version Reply = contexts ∷ ulong ∷ form.enumeration (reply_statuses version) ∷ []
row _ CancelRequest = ulong ∷ []
row V12 LocateRequest = ulong ∷ target ∷ []
row _ LocateRequest = ulong ∷ raw ∷ []
row version LocateReply = ulong ∷ form.enumeration (locate_statuses version) ∷ []
row V12 Fragment = ulong ∷ []
row _ Fragment = []
row _ CloseConnection = []
row _ MessageError = []

-- GIOP 9.4.2, GIOP 9.4.3, GIOP 9.4.9: whether the request id, an unsigned long, comes first of what stands after the header of a
-- Request, a Reply and a Fragment: only in 1.2
abbrev pub has_id_first : Version → Bool
has_id_first V12 = true
has_id_first _ = false

-- that the request id comes first, by the grammar: the fields of a message begin with a type
abbrev pub BeginsWith : Form → List Form → Type 0
BeginsWith t [] = ⊥
BeginsWith t (first ∷ others) = first ≡ t

abbrev pub BeginWithId : Version → Type 0
BeginWithId version = BeginsWith ulong (row version Request) × BeginsWith ulong (row version Reply) × BeginsWith ulong (row version Fragment)

-- FT 23.2.7: struct FTRequestServiceContext { string client_id; long retention_id; TimeBase::TimeT expiration_time; }
abbrev pub ft_request : Form
ft_request = form.structure (forms (text ∷ long ∷ ulonglong ∷ []))
