-- How many requests are parked of a connection, once one is put, taken out, or written.
use Rattle.std.proofs.Common.{◌≡◌, ◌==◌, ℕ, ◌+◌, ◌*◌, ◌≤◌, ◌<◌, Bool, true, false, cond, length, List, [], ◌∷◌, Option, Some, sym, ap, ◌∙◌, arith}
use Rattle.std.specs.List.{sum_by}
use Rattle.std.specs.Option.{option_map, unwrap_or}
use Rattle.std.specs.Ordering.{nat_cmp}
use Rattle.std.specs.Cmp.{nat_cmp_total}
use Rattle.std.specs.Map.{remove_entry, set_value, values_of}
use Rattle.std.specs.BTreeMap.{BTreeMap, IsOrdered, WritesThrough, btree_map_len, get, insert_entry, is_at}
use Rattle.std.proofs.lemmas.Map.Entries.{sum_by-insert_entry, sum_by-remove_entry, sum_by-set_value}
use Rattle.std.proofs.lemmas.List.Sums.{count_by-le-length, sum_by-cons}
use Rattle.ft_orb.specs.declared.parked.Parked.{Parked}
use Rattle.ft_orb.specs.declared.parked.Waiter.{Waiter}
use Rattle.ft_orb.specs.declared.answering.Asker.{Asker}
use Rattle.ft_orb.specs.declared.waiters.Join.{Join}
use Rattle.ft_orb.specs.declared.waiters.Join.TheVariants as join
use Rattle.ft_orb.specs.Counts.{AreCounted, on_connection, parked_on}
use Rattle.ft_orb.specs.Parked.{JoinsBy, is_wished, own_waiters}

-- one of a connection, or none
abbrev pub came : ℕ → Parked → ℕ
came c p = cond (p.pending.connection == c) 1 0

abbrev pub came_if : ℕ → Option Parked → ℕ
came_if c o = unwrap_or (option_map (came c) o) 0

-- one is put in the place of what was there
pub parked_on-put : (m n : BTreeMap ℕ Parked) (k : ℕ) (p : Parked) (o : Option Parked) (c : ℕ) → IsOrdered nat_cmp m → n.entries ≡ insert_entry nat_cmp m.entries k p → o ≡ get nat_cmp m k → parked_on n c + came_if c o ≡ parked_on m c + came c p
parked_on-put m n k p o c ordered entries was =
    (λ i. sum_by (came c) (values_of (entries i)) + came_if c (was i)) ∙ sum_by-insert_entry (came c) nat_cmp_total m.entries k p ordered

-- .. or taken out
pub parked_on-take : (m n : BTreeMap ℕ Parked) (k : ℕ) (p : Parked) (c : ℕ) → n.entries ≡ remove_entry (is_at (nat_cmp k)) m.entries → get nat_cmp m k ≡ Some p → parked_on n c + came c p ≡ parked_on m c
parked_on-take m n k p c entries was =
    (λ i. sum_by (came c) (values_of (entries i)) + came_if c (sym was i)) ∙ sum_by-remove_entry (came c) (is_at (nat_cmp k)) m.entries

-- .. or written, as the same request
pub parked_on-write : (m n : BTreeMap ℕ Parked) (k : ℕ) (p q : Parked) (c : ℕ) → n.entries ≡ set_value (is_at (nat_cmp k)) m.entries q → get nat_cmp m k ≡ Some p → q.pending.connection ≡ p.pending.connection → parked_on n c ≡ parked_on m c
parked_on-write m n k p q c entries was same =
    let all : sum_by (came c) (values_of n.entries) + came c p ≡ sum_by (came c) (values_of m.entries) + came c q = ap (λ es. sum_by (came c) (values_of es) + came c p) entries ∙ sum_by-set_value (came c) (is_at (nat_cmp k)) m.entries p q was in
    let one : came c q ≡ came c p = ap (λ (n : ℕ). cond (n == c) 1 0) same in
    omega (arith, all, one)

-- who waits can be counted: each list is short, and there are few
pub waiters-fit : (c : ℕ) (ps : List Parked) → sum_by (λ (p : Parked). on_connection c p.waiters.items) ps ≤ length ps * 4294967296
waiters-fit c [] = omega arith
waiters-fit c (p ∷ ps) =
    let rest = waiters-fit c ps in
    let first = sum_by-cons (λ (p : Parked). on_connection c p.waiters.items) p ps in
    let few = count_by-le-length (λ (w : Waiter). w.connection == c) p.waiters.items in
    let short = p.short in
    omega (arith, rest, first, few, short)

-- what is parked stays counted, where one is written as the same request
pub few-written : (m n : BTreeMap ℕ Parked) (k : ℕ) (q : Parked) → WritesThrough nat_cmp (nat_cmp k) m q n → btree_map_len m < 4294967296 → btree_map_len n < 4294967296
few-written m n k q wrote few = let size = wrote.2 in omega (arith, size, few)

pub counted-moved : (m n : BTreeMap ℕ Parked) (counts : BTreeMap ℕ ℕ) (k : ℕ) (p q : Parked) → WritesThrough nat_cmp (nat_cmp k) m q n → get nat_cmp m k ≡ Some p → q.pending.connection ≡ p.pending.connection → AreCounted m counts → AreCounted n counts
counted-moved m n counts k p q wrote was same counted c = counted c ∙ sym (parked_on-write m n k p q c wrote.0 was same)

pub counted-written : (m n : BTreeMap ℕ Parked) (counts : BTreeMap ℕ ℕ) (k : ℕ) (p q : Parked) → WritesThrough nat_cmp (nat_cmp k) m q n → get nat_cmp m k ≡ Some p → q.pending ≡ p.pending → AreCounted m counts → AreCounted n counts
counted-written m n counts k p q wrote was same counted = counted-moved m n counts k p q wrote was (ap (λ w. w.connection) same) counted

-- a repeat that joins leaves its request
pub joins-same : (goes : ℕ → Bool) (most : ℕ) (w : Waiter) (p q : Parked) (j : Join) → JoinsBy goes most w p j q → q.pending ≡ p.pending
joins-same goes most w p q join.Silent h = ap (λ (x : Parked). x.pending) h.1
joins-same goes most w p q join.Waits h = h.2.0
joins-same goes most w p q join.Full h = h.2.0
joins-same goes most w p q join.Memory h = h.2.0

-- at most one waits at first
at-most-one : (w : Waiter) (b : Bool) → length (cond b (w ∷ []) []) ≤ 1
at-most-one w true = omega arith
at-most-one w false = omega arith

pub own-short : (c : ℕ) (asker : Asker) (l : List Waiter) → l ≡ own_waiters c asker → length l ≤ 4294967296
own-short c asker l is =
    let one : length (own_waiters c asker) ≤ 1 = at-most-one (record { connection = c; asker = asker }) (is_wished asker.wish) in
    let size = ap (λ (x : List Waiter). length x) is in
    omega (arith, one, size)
