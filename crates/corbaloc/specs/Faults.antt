-- Why a text spells no location: the first reason from the left, and its place, which counts the text's octets from 1.
use Rattle.std.specs.Prelude.{◌≡◌, ◌≢◌, ℕ, ◌+◌, ◌-◌, ◌<◌, ◌^◌, min, List, [], ◌∷◌, length, slice_index, codes, ◌⊎◌}
use Rattle.corbaloc.specs.declared.address.Address.{Address}
use Rattle.corbaloc.specs.declared.error.LocationError.{LocationError}
use Rattle.corbaloc.specs.declared.error.LocationError.TheVariants.{BadEscape, BadHost, BadPort, BadVersion, NoPrefix, Rir, Unescaped, UnknownProtocol}
use Rattle.corbaloc.specs.Grammar.{IsCut, IsUntil, IsVersion, SpellsAddress, SpellsAddresses, SpellsEnd, SpellsHost, SpellsPort, SpellsProtocol, SpellsScheme, SpellsVersion, TakesOctet}

-- The place of the last part of a text that begins at a place. No text is so long that a place is the bound.
abbrev pub place_of : ℕ → List ℕ → List ℕ → ℕ
place_of at text left = min (at + (length text - length left)) (2 ^ 64 - 1)

-- the protocol is rir, or it is none of those that are known, or no colon ends it
abbrev pub IsProtocolFault : ℕ → List ℕ → LocationError → Type 0
IsProtocolFault at text e =
    ((rest : List ℕ) × IsCut 58 text (codes "rir") rest × (e ≡ Rir at)) ⊎ (((protocol rest : List ℕ) → IsCut 58 text protocol rest → (protocol ≢ codes "iiop") × (protocol ≢ []) × (protocol ≢ codes "rir")) × (e ≡ UnknownProtocol at))

-- what is before an @ is no version
abbrev pub IsVersionFault : ℕ → List ℕ → LocationError → Type 0
IsVersionFault at text e =
    (version rest : List ℕ) × IsCut 64 text version rest × ((minor : ℕ) → IsVersion version minor → ⊥) × (e ≡ BadVersion at)

-- there is no host, or what follows it is no port
abbrev pub IsPlaceFault : ℕ → List ℕ → LocationError → Type 0
IsPlaceFault at text e =
    (((host rest : List ℕ) → SpellsHost text host rest → ⊥) × (e ≡ BadHost at)) ⊎ ((host rest : List ℕ) × SpellsHost text host rest × ((port : ℕ) → SpellsPort rest port → ⊥) × (e ≡ BadPort (place_of at text rest)))

-- the protocol, or after it the version, or after this the host or the port
abbrev pub IsAddressFault : ℕ → List ℕ → LocationError → Type 0
IsAddressFault at text e =
    IsProtocolFault at text e ⊎ ((rest : List ℕ) × SpellsProtocol text rest × (IsVersionFault (place_of at text rest) rest e ⊎ ((minor : ℕ) × (place : List ℕ) × SpellsVersion rest minor place × IsPlaceFault (place_of at text place) place e)))

-- addresses with a comma after each, and what follows them
abbrev pub SpellsFront : List ℕ → List Address → List ℕ → Type 0
SpellsFront text [] left = text ≡ left
SpellsFront text (one ∷ more) left = (first rest : List ℕ) × IsCut 44 text first rest × SpellsAddress first one × SpellsFront rest more left

-- some address, which a comma or the end follows
abbrev pub IsAddressesFault : ℕ → List ℕ → LocationError → Type 0
IsAddressesFault at text e =
    (before : List Address) × (left first rest : List ℕ) × SpellsFront text before left × IsUntil 44 left first rest × IsAddressFault (place_of at text left) first e

-- octets of a key, and what follows them
abbrev pub SpellsOctets : List ℕ → List ℕ → List ℕ → Type 0
SpellsOctets text [] left = text ≡ left
SpellsOctets text (octet ∷ more) left = (rest : List ℕ) × TakesOctet text octet rest × SpellsOctets rest more left

-- what is left of a key begins with no octet that is written as it has to be; 37 is %
abbrev pub IsOctetFault : ℕ → List ℕ → LocationError → Type 0
IsOctetFault at text e =
    ((octet : ℕ) (rest : List ℕ) → TakesOctet text octet rest → ⊥) × (slice_index text 0 ≡ 37 → e ≡ BadEscape at) × (slice_index text 0 ≢ 37 → e ≡ Unescaped at)

abbrev pub IsKeyFault : ℕ → List ℕ → LocationError → Type 0
IsKeyFault at text e =
    (before left : List ℕ) × SpellsOctets text before left × (0 < length left) × IsOctetFault (place_of at text left) left e

-- there is no scheme, or some address is none, or after the addresses some octet of the key
abbrev pub IsFault : List ℕ → LocationError → Type 0
IsFault text e =
    (((rest : List ℕ) → SpellsScheme text rest → ⊥) × (e ≡ NoPrefix)) ⊎ ((rest addresses key : List ℕ) × SpellsScheme text rest × SpellsEnd rest addresses key × (IsAddressesFault (place_of 1 text rest) addresses e ⊎ ((all : List Address) × SpellsAddresses addresses all × IsKeyFault (place_of 1 text key) key e)))
