-- Which profiles of an address, and which references to it, can be written.
use Rattle.std.proofs.Common.{ℕ, zero, suc, ◌≤◌, List, [], length, arith}
use Rattle.cdr_core.specs.Value as value
use Rattle.cdr_core.specs.Value.{values}
use Rattle.cdr_core.specs.Writing.{AreWritable, IsWritable}
use Rattle.ior_core.specs.Profiles.{components_of}
use Rattle.lemonrudder.specs.Makes.{profile_to, reference_to}
use Rattle.lemonrudder.specs.Sizes.{profile_end}
use Rattle.lemonrudder.proofs.Sized.{profile_size}

no_components : (minor : ℕ) → AreWritable (values (components_of minor []))
no_components zero = tt
no_components (suc n) = ((omega arith, tt), tt)

-- a profile, whose host is a string, and whose key is not too long
pub writable_profile : (minor : ℕ) (host : List ℕ) (port : ℕ) (key : List ℕ) → IsWritable (value.string host) → length key ≤ 4294967295 → IsWritable (profile_to minor host port key)
writable_profile minor host port key hosted keyed = (tt, (tt, (hosted, (tt, (omega (arith, keyed), no_components minor)))))

pub writable_host : (minor : ℕ) (host : List ℕ) (port : ℕ) (key : List ℕ) → IsWritable (profile_to minor host port key) → IsWritable (value.string host)
writable_host minor host port key can = can.1.1.0

pub writable_key : (minor : ℕ) (host : List ℕ) (port : ℕ) (key : List ℕ) → IsWritable (profile_to minor host port key) → length key ≤ 4294967295
writable_key minor host port key can = omega (arith, can.1.1.1.1.0)

-- a reference, whose type is a string, and whose profile is not too long
pub writable_reference : (type_id : List ℕ) (minor : ℕ) (host : List ℕ) (port : ℕ) (key : List ℕ) → IsWritable (value.string type_id) → profile_end minor (length host) (length key) ≤ 4294967295 → IsWritable (reference_to type_id (profile_to minor host port key))
writable_reference type_id minor host port key named whole = (named, ((omega arith, ((tt, (omega (arith, whole, profile_size minor host port key), tt)), tt)), tt))

pub writable_type : (type_id : List ℕ) (minor : ℕ) (host : List ℕ) (port : ℕ) (key : List ℕ) → IsWritable (reference_to type_id (profile_to minor host port key)) → IsWritable (value.string type_id)
writable_type type_id minor host port key can = can.0

pub profile_counted : (type_id : List ℕ) (minor : ℕ) (host : List ℕ) (port : ℕ) (key : List ℕ) → IsWritable (reference_to type_id (profile_to minor host port key)) → profile_end minor (length host) (length key) ≤ 4294967295
profile_counted type_id minor host port key can = omega (arith, can.1.0.1.0.1.0, profile_size minor host port key)
