-- The names in a log's map. No public contract, definition or law uses these words.
use Rattle.std.specs.Prelude.{◌≡◌, ℕ, ℤ, Bool, true, ◌&&◌, List, [], ◌∷◌, ◌++◌, Option, Some, None, bytes_eq, refl}
use mir.Syntax.{w32}
use mir.Val.{of_z as cast_unsigned}
use Rattle.std.specs.Option.{option_eq}
use Rattle.std.specs.Ordering.{int_eq}
use Rattle.std.specs.Hash as fed
use Rattle.std.specs.Hash.{HashWrites}
use Rattle.std.proofs.Common.{ap, true≢false, sym}
use Rattle.std.proofs.lemmas.Bool.{and_parts}
use Rattle.std.proofs.lemmas.Bool.Decides.{Decides-int_eq}
use Rattle.std.proofs.lemmas.Slice.Eq.{bytes_eq-Decides}
use Rattle.ft_log.specs.declared.name.Name.{Name}

-- it names this client, with this number or alone
abbrev pub is_named : List ℕ → Option ℤ → Name → Bool
is_named client number name = bytes_eq client name.client_id.items && option_eq int_eq number name.number

-- a number of 64 bits for each number of 32 bits, and one for none
abbrev pub code_of : Option ℤ → ℕ
code_of None = 4294967296
code_of (Some n) = cast_unsigned w32 n

-- what a name feeds a hasher: the number's code, and then the client, so that the octets are fed by whole words
abbrev pub fed_name : List ℕ → Option ℤ → HashWrites
fed_name client number = fed.u64 (code_of number) ++ client ∷ []

same_number : (m n : Option ℤ) → option_eq int_eq m n ≡ true → m ≡ n
same_number None None h = refl
same_number None (Some n) h = absurd (true≢false (sym h))
same_number (Some m) None h = absurd (true≢false (sym h))
same_number (Some m) (Some n) h = ap Some ((Decides-int_eq m n).0 h)

-- both parts are equal
pub record AreEqual (c d : List ℕ) (m n : Option ℤ) : Type 0 where
  pub client : c ≡ d
  pub number : m ≡ n

pub named_so : (c : List ℕ) (m : Option ℤ) (name : Name) → is_named c m name ≡ true → AreEqual c name.client_id.items m name.number
named_so c m name h =
    let parts = and_parts (bytes_eq c name.client_id.items) (option_eq int_eq m name.number) h in
    record { client = (bytes_eq-Decides c name.client_id.items).0 parts.0; number = same_number m name.number parts.1 }

pub hashed_alike : (c : List ℕ) (m : Option ℤ) (name : Name) → is_named c m name ≡ true → fed_name c m ≡ fed_name name.client_id.items name.number
hashed_alike c m name h = let s = named_so c m name h in λ i. fed_name (s.client i) (s.number i)

pub equal_alike : (c : List ℕ) (m : Option ℤ) (x y : Name) → is_named c m x ≡ true → is_named c m y ≡ is_named x.client_id.items x.number y
equal_alike c m x y h = let s = named_so c m x h in λ i. is_named (s.client i) (s.number i) y

pub fed_alike : (c d : List ℕ) (m n : Option ℤ) → (bytes_eq c d && option_eq int_eq m n) ≡ true → fed_name c m ≡ fed_name d n
fed_alike c d m n h =
    let parts = and_parts (bytes_eq c d) (option_eq int_eq m n) h in
    let client : c ≡ d = (bytes_eq-Decides c d).0 parts.0 in
    let number : m ≡ n = same_number m n parts.1 in
    λ i. fed_name (client i) (number i)
