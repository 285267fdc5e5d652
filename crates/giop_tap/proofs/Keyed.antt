-- The first request with each key, as requests come.
use Rattle.std.proofs.Common.{◌≡◌, ℕ, ℤ, Bool, true, false, ◌&&◌, cond, List, [], ◌∷◌, ◌++◌, Option, Some, None, bytes_eq, refl, sym, ap, subst, ◌∙◌, true≢false, ◌-◌, ◌==◌, unwrap_or}
use Rattle.std.proofs.lemmas.Bool.{and_parts}
use Rattle.std.proofs.lemmas.Bool.Decides.{Decides-int_eq}
use Rattle.std.proofs.lemmas.Map.Text.{is_eq-slice_cmp}
use Rattle.std.proofs.lemmas.Slice.Eq.{bytes_eq-Decides}
use Rattle.std.specs.BTreeMap.{is_at}
use Rattle.std.specs.Map.{lookup}
use Rattle.std.specs.Cmp.{Equal-is}
use Rattle.std.proofs.lemmas.Cmp.{int_cmp_total, tied_itself}
use Rattle.std.proofs.lemmas.Map.Lookups.{exact_signed}
use Rattle.std.specs.Cmp.Lexicographic.{slice_cmp}
use Rattle.std.specs.List.{find}
use Rattle.std.specs.Option.{option_map}
use Rattle.std.specs.Ordering.{int_cmp, int_eq, is_eq, nat_cmp, ordering_then}
use Rattle.std.specs.declared.cmp.Ordering.{Ordering}
use Rattle.std.specs.declared.cmp.Ordering.TheVariants.{Less, Equal, Greater}
use Rattle.giop_tap.specs.declared.key.Key.{Key}
use Rattle.giop_tap.specs.Keys.{AreNamed, Kept, Keys, KeysStand, key_cmp}
use Rattle.giop_tap.specs.Pairing.{Named, has_key, weight_of}
use Rattle.giop_tap.specs.Remembered.{Memory, first_in, number_in, number_or, pushed, roomy, this_or, turned, with_key, with_one}

-- the first that passes, with one more at the end

pub first-apart : (test : Named → Bool) (ns : List Named) (x : Named) → test x ≡ false → find test (ns ++ x ∷ []) ≡ find test ns
first-apart test [] x differs = rw differs refl
first-apart test (n ∷ ns) x differs = ap (λ (o : Option Named). cond (test n) (Some n) o) (first-apart test ns x differs)

pub first-here : (test : Named → Bool) (ns : List Named) (x : Named) → option_map (λ n. n.number) (find test ns) ≡ None → test x ≡ true → option_map (λ n. n.number) (find test (ns ++ x ∷ [])) ≡ Some x.number
first-here test [] x is here = rw here refl
first-here test (n ∷ ns) x is here = by (test n) is (λ e. first-here test ns x e here)
  where
    by : (b : Bool) → option_map (λ n. n.number) (cond b (Some n) (find test ns)) ≡ None → (option_map (λ n. n.number) (find test ns) ≡ None → option_map (λ n. n.number) (find test (ns ++ x ∷ [])) ≡ Some x.number)
        → option_map (λ n. n.number) (cond b (Some n) (find test (ns ++ x ∷ []))) ≡ Some x.number
    by true is next = absurd (let h : Some n.number ≡ None = is in cc)
    by false is next = next is

-- equal keys

both : (a b : Ordering) → is_eq (ordering_then a b) ≡ (is_eq a && is_eq b)
both Less b = refl
both Equal b = refl
both Greater b = refl

swapped : (a b : Bool) → (a && b) ≡ (b && a)
swapped true true = refl
swapped true false = refl
swapped false true = refl
swapped false false = refl

same-number : (a b : ℤ) → is_eq (int_cmp a b) ≡ int_eq a b
same-number a b = by (int_eq a b) (is_eq (int_cmp a b)) refl refl
  where
    by : (e f : Bool) → int_eq a b ≡ e → is_eq (int_cmp a b) ≡ f → f ≡ e
    by true true g h = refl
    by false false g h = refl
    by true false g h =
        let is : a ≡ b = (Decides-int_eq a b).0 g in
        absurd (true≢false (sym ((Equal-is (int_cmp a a)).1 (tied_itself int_cmp_total a)) ∙ ap (λ (n : ℤ). is_eq (int_cmp a n)) is ∙ h))
    by false true g h =
        let is : a ≡ b = exact_signed a b ((Equal-is (int_cmp a b)).0 h) in
        absurd (true≢false (sym ((Decides-int_eq a b).1 is) ∙ g))

-- a request with a key
abbrev keyed_by : Key → ℕ → Named
keyed_by k n = record { client_id = k.client_id.items; retention_id = k.retention_id; number = n }

same-key : (k l : Key) (n : ℕ) → is_eq (key_cmp k l) ≡ has_key l.client_id.items l.retention_id (keyed_by k n)
same-key k l n =
    both (slice_cmp nat_cmp k.client_id.items l.client_id.items) (int_cmp k.retention_id l.retention_id)
    ∙ (λ i. is_eq-slice_cmp k.client_id.items l.client_id.items i && same-number k.retention_id l.retention_id i)
    ∙ swapped (bytes_eq k.client_id.items l.client_id.items) (int_eq k.retention_id l.retention_id)

-- one more is kept where its key has not come
pub named-first : (m m' : Keys) (ns : List Named) (k : Key) (n : ℕ) → AreNamed m ns → lookup (is_at (key_cmp k)) m ≡ None
    → ((l : Key) → lookup (is_at (key_cmp l)) m' ≡ cond (is_eq (key_cmp k l)) (Some n) (lookup (is_at (key_cmp l)) m)) → AreNamed m' (ns ++ keyed_by k n ∷ [])
named-first m m' ns k n stands none changed l = by (has_key l.client_id.items l.retention_id (keyed_by k n)) refl
  where
    by : (b : Bool) → has_key l.client_id.items l.retention_id (keyed_by k n) ≡ b
        → lookup (is_at (key_cmp l)) m' ≡ option_map (λ n. n.number) (find (has_key l.client_id.items l.retention_id) (ns ++ keyed_by k n ∷ []))
    by false e =
        changed l ∙ ap (λ (b : Bool). cond b (Some n) (lookup (is_at (key_cmp l)) m)) (same-key k l n ∙ e) ∙ stands l
        ∙ ap (λ (o : Option Named). option_map (λ n. n.number) o) (sym (first-apart (has_key l.client_id.items l.retention_id) ns (keyed_by k n) e))
    by true e =
        let parts = and_parts (int_eq k.retention_id l.retention_id) (bytes_eq k.client_id.items l.client_id.items) e in
        let client : k.client_id.items ≡ l.client_id.items = (bytes_eq-Decides k.client_id.items l.client_id.items).0 parts.1 in
        let retention : k.retention_id ≡ l.retention_id = (Decides-int_eq k.retention_id l.retention_id).0 parts.0 in
        let absent : option_map (λ n. n.number) (find (has_key l.client_id.items l.retention_id) ns) ≡ None =
        (λ i. option_map (λ n. n.number) (find (has_key (sym client i) (sym retention i)) ns)) ∙ sym (stands k) ∙ none in
        changed l ∙ ap (λ (b : Bool). cond b (Some n) (lookup (is_at (key_cmp l)) m)) (same-key k l n ∙ e)
        ∙ sym (first-here (has_key l.client_id.items l.retention_id) ns (keyed_by k n) absent e)

-- memory

-- no request has a key where it has no number
unnumbered : (o : Option Named) → option_map (λ n. n.number) o ≡ None → o ≡ None
unnumbered None is = refl
unnumbered (Some n) is = absurd (let h : Some n.number ≡ None = is in cc)

-- nor where there is more room
pub absent : (most number : ℕ) (client : List ℕ) (retention : ℤ) (s : Memory) → number_in client retention s.last ≡ None → find (has_key client retention) (roomy most number s).last ≡ None
absent most number client retention s is = by (s.room == 0)
  where
    by : (b : Bool) → find (has_key client retention) (cond b (turned most number s) s).last ≡ None
    by true = refl
    by false = unnumbered (find (has_key client retention) s.last) is

pub key-pushed : (k k' : Kept) (s : Memory) (key : Key) (n : ℕ) → KeysStand k s → find (has_key key.client_id.items key.retention_id) s.last ≡ None
    → ((l : Key) → lookup (is_at (key_cmp l)) k'.last ≡ cond (is_eq (key_cmp key l)) (Some n) (lookup (is_at (key_cmp l)) k.last))
    → k'.before ≡ k.before → k'.room ≡ k.room - weight_of key.client_id.items → k'.has_before ≡ k.has_before → k'.forgot ≡ k.forgot
    → KeysStand k' (pushed (keyed_by key n) s)
key-pushed k k' s key n stands none changed before room has forgot = record {
  last_are = named-first k.last k'.last s.last key n stands.last_are (stands.last_are key ∙ ap (λ (o : Option Named). option_map (λ n. n.number) o) none) changed;
  before_are = λ l. ap (λ (m : Keys). lookup (is_at (key_cmp l)) m) before ∙ stands.before_are l;
  room_is = room ∙ ap (λ (r : ℕ). r - weight_of key.client_id.items) stands.room_is;
  has_before_is = has ∙ stands.has_before_is;
  forgot_is = forgot ∙ stands.forgot_is;
}

-- a key that is one of the last
pub found-first : (client : List ℕ) (retention : ℤ) (s : Memory) (first : ℕ) → number_in client retention s.last ≡ Some first → Some first ≡ first_in client retention s
found-first client retention s first is = sym (ap (λ (o : Option ℕ). this_or o (number_in client retention s.before)) is)

pub found-stands : (k : Kept) (most number : ℕ) (client : List ℕ) (retention : ℤ) (s : Memory) (first : ℕ) → number_in client retention s.last ≡ Some first → KeysStand k s → KeysStand k (with_key most client retention number s)
found-stands k most number client retention s first is stands =
    subst (λ (o : Option ℕ). KeysStand k (with_one o s (pushed (record { client_id = client; retention_id = retention; number = number_or number (number_in client retention s.before) }) (roomy most number s)))) (sym is) stands

-- and one that is not
pub other-first : (client : List ℕ) (retention : ℤ) (s : Memory) → number_in client retention s.last ≡ None → number_in client retention s.before ≡ first_in client retention s
other-first client retention s is = sym (ap (λ (o : Option ℕ). this_or o (number_in client retention s.before)) is)

pub other-stands : (k : Kept) (most number : ℕ) (client : List ℕ) (retention : ℤ) (s : Memory) → number_in client retention s.last ≡ None
    → KeysStand k (pushed (record { client_id = client; retention_id = retention; number = number_or number (number_in client retention s.before) }) (roomy most number s)) → KeysStand k (with_key most client retention number s)
other-stands k most number client retention s is stands =
    subst (λ (o : Option ℕ). KeysStand k (with_one o s (pushed (record { client_id = client; retention_id = retention; number = number_or number (number_in client retention s.before) }) (roomy most number s)))) (sym is) stands

pub or-number : (o : Option ℕ) (number : ℕ) → unwrap_or o number ≡ number_or number o
or-number None number = refl
or-number (Some n) number = refl
