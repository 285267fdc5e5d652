-- A text with a fault spells no location.
use Rattle.std.proofs.Common.{◌≡◌, ℕ, ◌<◌, List, [], ◌∷◌, ◌++◌, length, ◌⊎◌, inl, inr, ap, sym, ◌∙◌, subst, arith}
use Rattle.std.specs.Prelude.{codes}
use Rattle.std.proofs.lemmas.List.{append-nil}
use Rattle.corbaloc.specs.declared.address.Address.{Address}
use Rattle.corbaloc.specs.declared.error.LocationError.{LocationError}
use Rattle.corbaloc.specs.declared.location.Location.{Location}
use Rattle.corbaloc.specs.Faults.{place_of, IsAddressesFault, IsAddressFault, IsFault, IsKeyFault, IsPlaceFault, IsProtocolFault, IsVersionFault, SpellsFront, SpellsOctets}
use Rattle.corbaloc.specs.Grammar.{IsFree, IsVersion, SpellsAddress, SpellsAddresses, SpellsEnd, SpellsKey, SpellsLocation, SpellsPlace, SpellsPort, SpellsProtocol, SpellsVersion, TakesOctet}
use Rattle.corbaloc.proofs.Cuts.{cut_once, free_not_cut}
use Rattle.corbaloc.proofs.Unique.{end_once, host_once, key_rest, last_of, parts_of, protocol_once, scheme_once, version_once}

rir_is_other : (protocol : List ℕ) → protocol ≡ codes "rir" → (protocol ≡ codes "iiop") ⊎ (protocol ≡ []) → ⊥
rir_is_other protocol is (inl iiop) = absurd cc
rir_is_other protocol is (inr none) = absurd cc

protocol_fault : (at : ℕ) (text rest : List ℕ) (e : LocationError) → IsProtocolFault at text e → SpellsProtocol text rest → ⊥
protocol_fault at text rest e (inl f) s =
    rir_is_other s.0 (cut_once 58 text s.0 rest (codes "rir") f.0 s.1 f.1).0 s.2
protocol_fault at text rest e (inr f) s = neither s.2
  where
    neither : (s.0 ≡ codes "iiop") ⊎ (s.0 ≡ []) → ⊥
    neither (inl iiop) = (f.0 s.0 rest s.1).0 iiop
    neither (inr none) = (f.0 s.0 rest s.1).1 none

version_fault : (at : ℕ) (text : List ℕ) (minor : ℕ) (rest : List ℕ) (e : LocationError) → IsVersionFault at text e → SpellsVersion text minor rest → ⊥
version_fault at text minor rest e v (inl x) = free_not_cut 64 text v.0 v.1 x.0 v.2
version_fault at text minor rest e v (inr x) =
    v.3 minor (subst (λ (t : List ℕ). IsVersion t minor) (cut_once 64 text x.0 rest v.0 v.1 x.1 v.2).0 x.2)

place_fault : (at : ℕ) (text host : List ℕ) (port : ℕ) (e : LocationError) → IsPlaceFault at text e → SpellsPlace text host port → ⊥
place_fault at text host port e (inl f) s = f.0 host s.0 s.1
place_fault at text host port e (inr f) s =
    f.3 port (subst (λ (t : List ℕ). SpellsPort t port) (host_once text host s.0 f.0 f.1 s.1 f.2) s.2)

rest_fault : (at : ℕ) (text rest : List ℕ) (minor : ℕ) (place host : List ℕ) (port : ℕ) (e : LocationError) → IsVersionFault (place_of at text rest) rest e ⊎ ((n : ℕ) × (left : List ℕ) × SpellsVersion rest n left × IsPlaceFault (place_of at text left) left e) → SpellsVersion rest minor place → SpellsPlace place host port → ⊥
rest_fault at text rest minor place host port e (inl f) version s =
    version_fault (place_of at text rest) rest minor place e f version
rest_fault at text rest minor place host port e (inr f) version s =
    place_fault (place_of at text f.1) f.1 host port e f.3 (subst (λ (t : List ℕ). SpellsPlace t host port) (version_once rest minor f.0 place f.1 version f.2) s)

address_fault : (at : ℕ) (text : List ℕ) (one : Address) (e : LocationError) → IsAddressFault at text e → SpellsAddress text one → ⊥
address_fault at text one e (inl f) s = protocol_fault at text s.0 e f s.2
address_fault at text one e (inr f) s =
    rest_fault at text f.0 one.minor s.1 one.host.items one.port e f.2 (subst (λ (t : List ℕ). SpellsVersion t one.minor s.1) (protocol_once text s.0 f.0 s.2 f.1) s.3) s.4

addresses_left : (text left : List ℕ) (before all : List Address) → SpellsFront text before left → SpellsAddresses text all → (more : List Address) × SpellsAddresses left more
addresses_left text left [] all same s = (all, subst (λ (t : List ℕ). SpellsAddresses t all) same s)
addresses_left text left (a ∷ before) all h s =
    let parts = parts_of text h.0 h.1 all h.2 s in
    addresses_left h.1 left before parts.1.0 h.4 parts.1.1

first_by : (left first rest : List ℕ) (all : List Address) → left ≡ first ++ rest → IsFree 44 first → (rest ≡ []) ⊎ ((more : List ℕ) × (rest ≡ 44 ∷ more)) → SpellsAddresses left all → (one : Address) × SpellsAddress first one
first_by left first rest all is free (inl none) s =
    let same : left ≡ first = is ∙ (ap (λ (r : List ℕ). first ++ r) none ∙ append-nil first) in
    let last = last_of left all (subst (IsFree 44) (sym same) free) s in
    (last.0, subst (λ (t : List ℕ). SpellsAddress t last.0) same last.1)
first_by left first rest all is free (inr more) s =
    (parts_of left first more.0 all (is ∙ ap (λ (r : List ℕ). first ++ r) more.1, free) s).0

addresses_fault : (at : ℕ) (text : List ℕ) (all : List Address) (e : LocationError) → IsAddressesFault at text e → SpellsAddresses text all → ⊥
addresses_fault at text all e f s =
    let more = addresses_left text f.1 f.0 all f.4 s in
    let one = first_by f.1 f.2 f.3 more.0 f.5.0 f.5.1 f.5.2 more.1 in
    address_fault (place_of at text f.1) f.2 one.0 e f.6 one.1

key_left : (text left before key : List ℕ) → SpellsOctets text before left → SpellsKey text key → (more : List ℕ) × SpellsKey left more
key_left text left [] key same s = (key, subst (λ (t : List ℕ). SpellsKey t key) same s)
key_left text left (a ∷ before) key h s =
    let more = key_rest text h.0 a key h.1 s in
    key_left h.0 left before more.0 h.2 more.1

no_key : (left key : List ℕ) → 0 < length left → ((octet : ℕ) (rest : List ℕ) → TakesOctet left octet rest → ⊥) → SpellsKey left key → ⊥
no_key left [] some none s = absurd (omega (arith, ap length s))
no_key left (octet ∷ key) some none s = none octet s.0 s.1

key_fault : (at : ℕ) (text key : List ℕ) (e : LocationError) → IsKeyFault at text e → SpellsKey text key → ⊥
key_fault at text key e f s =
    let more = key_left text f.1 f.0 key f.2 s in
    no_key f.1 more.0 f.3 f.4.0 more.1

pub fault_refuses : (text : List ℕ) (e : LocationError) (location : Location) → IsFault text e → SpellsLocation text location → ⊥
fault_refuses text e location (inl f) s = f.0 s.0 s.3
fault_refuses text e location (inr f) s = by f.5
  where
    ends : (s.1 ≡ f.1) × (s.2 ≡ f.2)
    ends = end_once f.0 s.1 s.2 f.1 f.2 (subst (λ (t : List ℕ). SpellsEnd t s.1 s.2) (scheme_once text s.0 f.0 s.3 f.3) s.4) f.4

    by : IsAddressesFault (place_of 1 text f.0) f.1 e ⊎ ((all : List Address) × SpellsAddresses f.1 all × IsKeyFault (place_of 1 text f.2) f.2 e) → ⊥
    by (inl a) =
        addresses_fault (place_of 1 text f.0) f.1 location.addresses.items e a (subst (λ (t : List ℕ). SpellsAddresses t location.addresses.items) ends.0 s.5)
    by (inr k) =
        key_fault (place_of 1 text f.2) f.2 location.key.items e k.2 (subst (λ (t : List ℕ). SpellsKey t location.key.items) ends.1 s.6)
