-- The grammar of corbaloc URLs (IOP 7.6.10.1): which texts spell a location.
use Rattle.std.specs.Prelude.{◌≡◌, ◌≢◌, ℕ, ◌+◌, ◌*◌, ◌<◌, ◌^◌, Bool, ◌||◌, List, [], ◌∷◌, ◌++◌, length, slice_index, codes, IsTrue, ◌⊎◌, ◌==◌}
use Rattle.std.specs.List.{list_all, list_any}
use Rattle.std.specs.Char.{digit_value, is_ascii_alphanumeric, is_ascii_hexdigit}
use Rattle.std.specs.Str.{str_to_ascii_lowercase}
use Rattle.std.specs.Str.Parse.{digits_value, IsNumeral}
use Rattle.corbaloc.specs.declared.address.Address.{Address}
use Rattle.corbaloc.specs.declared.location.Location.{Location}

-- the text has no such octet
abbrev pub IsFree : ℕ → List ℕ → Type 0
IsFree mark text = (i : ℕ) → i < length text → slice_index text i ≢ mark

-- a part of the text, its first such octet, and another part
abbrev pub IsCut : ℕ → List ℕ → List ℕ → List ℕ → Type 0
IsCut mark text first rest = (text ≡ first ++ mark ∷ rest) × IsFree mark first

-- a part of the text, and what follows from its first such octet on, if it has one
abbrev pub IsUntil : ℕ → List ℕ → List ℕ → List ℕ → Type 0
IsUntil mark text first rest = (text ≡ first ++ rest) × IsFree mark first × ((rest ≡ []) ⊎ ((more : List ℕ) × (rest ≡ mark ∷ more)))

-- decimal digits and their number
abbrev pub SpellsNumber : List ℕ → ℕ → Type 0
SpellsNumber digits n = IsNumeral 10 digits × (digits_value 10 digits ≡ n)

-- The scheme in either case and a colon, and what follows.
abbrev pub SpellsScheme : List ℕ → List ℕ → Type 0
SpellsScheme text rest = (scheme : List ℕ) × IsCut 58 text scheme rest × (str_to_ascii_lowercase scheme ≡ codes "corbaloc")

-- the protocol IIOP, by its name or by none, and a colon, and what follows
abbrev pub SpellsProtocol : List ℕ → List ℕ → Type 0
SpellsProtocol text rest = (protocol : List ℕ) × IsCut 58 text protocol rest × ((protocol ≡ codes "iiop") ⊎ (protocol ≡ []))

-- the number 1, a point, and a minor version that an octet holds
abbrev pub IsVersion : List ℕ → ℕ → Type 0
IsVersion text minor = (major digits : List ℕ) × IsCut 46 text major digits × SpellsNumber major 1 × SpellsNumber digits minor × (minor < 2 ^ 8)

-- A version before an @, and what follows; where there is no @ it is version 1.0.
abbrev pub SpellsVersion : List ℕ → ℕ → List ℕ → Type 0
SpellsVersion text minor rest =
    (IsFree 64 text × (minor ≡ 0) × (rest ≡ text)) ⊎ ((version : List ℕ) × IsCut 64 text version rest × IsVersion version minor)

-- The octets of a DNS name or of an IPv4 address. That a name may have a _ is an own rule.
abbrev pub is_of_name : ℕ → Bool
is_of_name octet = is_ascii_alphanumeric octet || list_any (λ x. x == octet) (codes "-._")

-- The octets of an IPv6 address. That no other rule of such addresses is looked at is an own rule.
abbrev pub is_of_ipv6 : ℕ → Bool
is_of_ipv6 octet = is_ascii_hexdigit octet || list_any (λ x. x == octet) (codes ":.")

-- A host of octets that pass a test. That it is not empty is an own rule.
abbrev pub IsHostOf : (ℕ → Bool) → List ℕ → Type 0
IsHostOf test host = (0 < length host) × IsTrue (list_all test host)

-- A host, and what stands behind it: a name up to a colon, or in brackets an IPv6 address, of which these are no part.
abbrev pub SpellsHost : List ℕ → List ℕ → List ℕ → Type 0
SpellsHost text host behind =
    (IsUntil 58 text host behind × IsHostOf is_of_name host) ⊎ ((inside : List ℕ) × (text ≡ 91 ∷ inside) × IsCut 93 inside host behind × IsHostOf is_of_ipv6 host)

-- a colon and a port; the port is 2809 where they are left out
abbrev pub SpellsPort : List ℕ → ℕ → Type 0
SpellsPort text port =
    ((text ≡ []) × (port ≡ 2809)) ⊎ ((digits : List ℕ) × (text ≡ 58 ∷ digits) × SpellsNumber digits port × (0 < port) × (port < 2 ^ 16))

abbrev pub SpellsPlace : List ℕ → List ℕ → ℕ → Type 0
SpellsPlace text host port = (behind : List ℕ) × SpellsHost text host behind × SpellsPort behind port

-- an address: its protocol, its version, its host and its port
abbrev pub SpellsAddress : List ℕ → Address → Type 0
SpellsAddress text one = (rest place : List ℕ) × SpellsProtocol text rest × SpellsVersion rest one.minor place × SpellsPlace place one.host.items one.port

-- addresses apart by commas, at least one
abbrev pub SpellsAddresses : List ℕ → List Address → Type 0
SpellsAddresses text [] = ⊥
SpellsAddresses text (one ∷ []) = IsFree 44 text × SpellsAddress text one
SpellsAddresses text (one ∷ two ∷ more) = (first rest : List ℕ) × IsCut 44 text first rest × SpellsAddress first one × SpellsAddresses rest (two ∷ more)

-- what follows the scheme: the addresses, and the key as it is written; it has no octets where the / is left out
abbrev pub SpellsEnd : List ℕ → List ℕ → List ℕ → Type 0
SpellsEnd text addresses key = (IsFree 47 text × (addresses ≡ text) × (key ≡ [])) ⊎ IsCut 47 text addresses key

-- the octets of a key that stand for themselves; 63 is the question mark
abbrev pub is_plain : ℕ → Bool
is_plain octet = is_ascii_alphanumeric octet || list_any (λ x. x == octet) (codes ";/:" ++ 63 ∷ codes "@&=+$,-_.!~*'()")

-- an octet that stands for itself, or a % and two hexadecimal digits, and what follows
abbrev pub TakesOctet : List ℕ → ℕ → List ℕ → Type 0
TakesOctet text octet rest =
    ((text ≡ octet ∷ rest) × IsTrue (is_plain octet)) ⊎ ((high low : ℕ) × (text ≡ 37 ∷ high ∷ low ∷ rest) × (digit_value high < 16) × (digit_value low < 16) × (octet ≡ 16 * digit_value high + digit_value low))

-- the octets of a key, one after another
abbrev pub SpellsKey : List ℕ → List ℕ → Type 0
SpellsKey text [] = text ≡ []
SpellsKey text (octet ∷ key) = (rest : List ℕ) × TakesOctet text octet rest × SpellsKey rest key

-- a location: the scheme, the addresses and the key
abbrev pub SpellsLocation : List ℕ → Location → Type 0
SpellsLocation text location =
    (rest addresses key : List ℕ) × SpellsScheme text rest × SpellsEnd rest addresses key × SpellsAddresses addresses location.addresses.items × SpellsKey key location.key.items
