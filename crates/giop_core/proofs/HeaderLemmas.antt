-- A header that is written is read again.
use Rattle.std.proofs.Common.{◌≡◌, ℕ, ◌<◌, ◌^◌, ◌&&◌, ◌||◌, if◌then◌else◌, Bool, true, false, not, IsTrue, [], Result, Ok, Err, Some, refl, sym, ap, ◌∙◌}
use Rattle.std.proofs.lemmas.List.{append-nil}
use Rattle.byteorder.specs.Numbers.{big_number-reads_back, little_number-reads_back}
use Rattle.cdr_core.specs.declared.order.Order.{Order}
use Rattle.cdr_core.specs.declared.order.Order.TheVariants.{Big, Little}
use Rattle.cdr_core.specs.Numbers.{digits_of, number_of}
use Rattle.giop_core.specs.declared.header.Version.{Version}
use Rattle.giop_core.specs.declared.header.Version.TheVariants.{V10, V11, V12}
use Rattle.giop_core.specs.declared.header.MessageKind.{MessageKind}
use Rattle.giop_core.specs.declared.header.MessageKind.TheVariants.{Request, Reply, CancelRequest, LocateRequest, LocateReply, CloseConnection, MessageError, Fragment}
use Rattle.giop_core.specs.declared.header.Header.{Header}
use Rattle.giop_core.specs.declared.header.HeaderFault.{HeaderFault}
use Rattle.giop_core.specs.declared.header.HeaderFault.TheVariants.{BadType, BadCut}
use Rattle.giop_core.specs.Headers.{can_be_cut, flags_octet, flags_of, has_kind, header_octets, header_of, is_possible, kind_number, kind_of, minor_of, of_flags, of_kind, of_version, version_of}

-- the version, the flags, the kind and the size are those that their octets say

version_back : (version : Version) → version_of 1 (minor_of version) ≡ Some version
version_back V10 = refl
version_back V11 = refl
version_back V12 = refl

-- no version before 1.1 lets a message be cut
flags_back : (version : Version) (order : Order) (more : Bool) (kind : MessageKind) → (not more || can_be_cut version kind) ≡ true → flags_of version (flags_octet order more) ≡ Some (order, more)
flags_back V10 Big false kind e = refl
flags_back V10 Little false kind e = refl
flags_back V10 order true kind e = absurd cc
flags_back V11 Big false kind e = refl
flags_back V11 Little false kind e = refl
flags_back V11 Big true kind e = refl
flags_back V11 Little true kind e = refl
flags_back V12 Big false kind e = refl
flags_back V12 Little false kind e = refl
flags_back V12 Big true kind e = refl
flags_back V12 Little true kind e = refl

kind_back : (kind : MessageKind) → kind_of (kind_number kind) ≡ Some kind
kind_back Request = refl
kind_back Reply = refl
kind_back CancelRequest = refl
kind_back LocateRequest = refl
kind_back LocateReply = refl
kind_back CloseConnection = refl
kind_back MessageError = refl
kind_back Fragment = refl

size_back : (order : Order) (x : ℕ) → x < 2 ^ 32 → number_of order 4 (digits_of order 4 x) ≡ x
size_back Big x lt = ap (number_of Big 4) (sym (append-nil (digits_of Big 4 x))) ∙ big_number-reads_back 4 x [] lt
size_back Little x lt = ap (number_of Little 4) (sym (append-nil (digits_of Little 4 x))) ∙ little_number-reads_back 4 x [] lt

-- a possible header has no fault in its kind, nor in its cut
judged : (known cuts more : Bool) (h : Header) → (known && (not more || cuts)) ≡ true
    → ◌≡◌ {A = Result Header HeaderFault} (if not known then Err BadType else (if more && not cuts then Err BadCut else Ok h)) (Ok h)
judged false cuts more h e = absurd cc
judged true cuts false h e = refl
judged true true true h e = refl
judged true false true h e = absurd cc

cut_is_known : (known cut : Bool) → (known && cut) ≡ true → cut ≡ true
cut_is_known true cut e = e
cut_is_known false cut e = absurd cc

pub header_again : (h : Header) → h.size < 2 ^ 32 → IsTrue (is_possible h) → header_of (header_octets h) ≡ Ok h
unfolding header_of
header_again h small possible =
    let octets = header_octets h in
    let told : Header = record { version = h.version; order = h.order; more = h.more; kind = h.kind; size = number_of h.order 4 (digits_of h.order 4 h.size) } in
    let cut = cut_is_known (has_kind h.version h.kind) (not h.more || can_be_cut h.version h.kind) possible in
    ap (of_version octets) (version_back h.version)
    ∙ ap (of_flags octets h.version) (flags_back h.version h.order h.more h.kind cut)
    ∙ ap (of_kind octets h.version (h.order, h.more)) (kind_back h.kind)
    ∙ judged (has_kind h.version h.kind) (can_be_cut h.version h.kind) h.more told possible
    ∙ ap (λ n. Ok (record { version = h.version; order = h.order; more = h.more; kind = h.kind; size = n })) (size_back h.order h.size small)
