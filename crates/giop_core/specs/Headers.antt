-- GIOP 9.4.1: the header, the twelve octets at the head of each message.
use Rattle.std.specs.Prelude.{ℕ, ◌==◌, ◌&&◌, ◌||◌, Bool, true, false, not, if◌then◌else◌, List, ◌∷◌, drop, Option, Some, None, Result, Ok, Err, slice_index}
use Rattle.cdr_core.specs.declared.order.Order.{Order}
use Rattle.cdr_core.specs.declared.order.Order.TheVariants.{Big, Little}
use Rattle.cdr_core.specs.Numbers.{digits_of, number_of}
use Rattle.giop_core.specs.declared.header.Version.{Version}
use Rattle.giop_core.specs.declared.header.Version.TheVariants.{V10, V11, V12}
use Rattle.giop_core.specs.declared.header.MessageKind.{MessageKind}
use Rattle.giop_core.specs.declared.header.MessageKind.TheVariants.{Request, Reply, CancelRequest, LocateRequest, LocateReply, CloseConnection, MessageError, Fragment}
use Rattle.giop_core.specs.declared.header.Header.{Header}
use Rattle.giop_core.specs.declared.header.HeaderFault.{HeaderFault}
use Rattle.giop_core.specs.declared.header.HeaderFault.TheVariants.{BadMagic, BadVersion, BadFlags, BadType, BadCut}

-- the header that octets are

-- the four characters `GIOP`
abbrev pub has_magic : List ℕ → Bool
has_magic octets = (slice_index octets 0 == 0x47) && (slice_index octets 1 == 0x49) && (slice_index octets 2 == 0x4f) && (slice_index octets 3 == 0x50)

-- the version that a major and a minor number name
abbrev pub version_of : ℕ → ℕ → Option Version
version_of major minor =
    if major == 1 then (if minor == 0 then Some V10 else (if minor == 1 then Some V11 else (if minor == 2 then Some V12 else None))) else None

-- from 1.1 on bit 1 says that more fragments follow
abbrev pub cut_flags_of : Version → ℕ → Option (Order × Bool)
cut_flags_of V10 octet = None
cut_flags_of _ octet = if octet == 2 then Some (Big, true) else (if octet == 3 then Some (Little, true) else None)

-- bit 0 says the byte order, and reserved bits are 0
abbrev pub flags_of : Version → ℕ → Option (Order × Bool)
flags_of version octet = if octet == 0 then Some (Big, false) else (if octet == 1 then Some (Little, false) else cut_flags_of version octet)

-- GIOP 9.4.1: enum MsgType
abbrev pub kind_of : ℕ → Option MessageKind
kind_of octet =
    if octet == 0 then Some Request else (if octet == 1 then Some Reply else (if octet == 2 then Some CancelRequest else (if octet == 3 then Some LocateRequest else
    (if octet == 4 then Some LocateReply else (if octet == 5 then Some CloseConnection else (if octet == 6 then Some MessageError else (if octet == 7 then Some Fragment else None)))))))

-- GIOP 9.4.1: which kinds of message a version has
abbrev pub has_kind : Version → MessageKind → Bool
has_kind V10 Fragment = false
has_kind _ _ = true

-- GIOP 9.4.9: which kinds of message a version lets be cut into fragments
abbrev pub can_be_cut : Version → MessageKind → Bool
can_be_cut V10 _ = false
can_be_cut _ Request = true
can_be_cut _ Reply = true
can_be_cut _ Fragment = true
can_be_cut V12 LocateRequest = true
can_be_cut V12 LocateReply = true
can_be_cut _ _ = false

-- the header by its octets, with what those before said; or the first fault. The order of the tests is an own rule.
abbrev pub of_kind : List ℕ → Version → Order × Bool → Option MessageKind → Result Header HeaderFault
of_kind octets version flags None = Err BadType
of_kind octets version flags (Some kind) =
    if not (has_kind version kind) then Err BadType else (if flags.1 && not (can_be_cut version kind) then Err BadCut else
    Ok (record { version = version; order = flags.0; more = flags.1; kind = kind; size = number_of flags.0 4 (drop 8 octets) }))

abbrev pub of_flags : List ℕ → Version → Option (Order × Bool) → Result Header HeaderFault
of_flags octets version None = Err BadFlags
of_flags octets version (Some flags) = of_kind octets version flags (kind_of (slice_index octets 7))

abbrev pub of_version : List ℕ → Option Version → Result Header HeaderFault
of_version octets None = Err BadVersion
of_version octets (Some version) = of_flags octets version (flags_of version (slice_index octets 6))

-- the header that these octets are, or the first fault in it
unfoldable pub header_of : List ℕ → Result Header HeaderFault
header_of octets = if has_magic octets then of_version octets (version_of (slice_index octets 4) (slice_index octets 5)) else Err BadMagic

-- the octets of a header

-- the minor number of a version
abbrev pub minor_of : Version → ℕ
minor_of V10 = 0
minor_of V11 = 1
minor_of V12 = 2

-- the flags
abbrev pub flags_octet : Order → Bool → ℕ
flags_octet Big false = 0
flags_octet Little false = 1
flags_octet Big true = 2
flags_octet Little true = 3

-- the message type
abbrev pub kind_number : MessageKind → ℕ
kind_number Request = 0
kind_number Reply = 1
kind_number CancelRequest = 2
kind_number LocateRequest = 3
kind_number LocateReply = 4
kind_number CloseConnection = 5
kind_number MessageError = 6
kind_number Fragment = 7

-- the twelve octets of a header
abbrev pub header_octets : Header → List ℕ
header_octets h = 0x47 ∷ 0x49 ∷ 0x4f ∷ 0x50 ∷ 1 ∷ minor_of h.version ∷ flags_octet h.order h.more ∷ kind_number h.kind ∷ digits_of h.order 4 h.size

-- whether there can be such a header: the version has the kind, and lets it be cut where more fragments follow
abbrev pub is_possible : Header → Bool
is_possible h = has_kind h.version h.kind && (not h.more || can_be_cut h.version h.kind)
